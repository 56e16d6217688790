-- The parts of a list of entries by quadrant, and the quadrants of its block.
use Rattle.std.proofs.Common.{◌≡◌, ℕ, suc, ◌+◌, ◌-◌, ◌<◌, ◌≤◌, Bool, true, false, IsTrue, All, ◌&&◌, ◌==◌, nat_le, cond, ℤ, List, [], ◌∷◌, ◌++◌, length, get_or, take, map, refl, sym, ap, ap₂, ◌∙◌, arith, zero-add}
use mathlib.Core.Bool.{beq}
use Rattle.std.specs.List.{filter}
use Rattle.std.proofs.lemmas.Bool.{cond_both}
use Rattle.std.proofs.lemmas.List.{map-append}
use Rattle.std.proofs.lemmas.List.Elements.{All-weaker, All-map, All-filter, filter_more, filter_passes}
use Rattle.dense_def.specs.Matrix.{entry, block}
use Rattle.dense_def.proofs.Entries.{made_ext}
use Rattle.chunk_codec.specs.declared.plain.Spot.{Spot}
use Rattle.quad_matrix.specs.declared.chunk.Entries.{Entries}
use Rattle.chunk_codec.specs.Spots.{side_of, IsSpot, IsUpper, AreSoundSpots}
use Rattle.quad_matrix.specs.Spots.{is_at, spot_value, block_of_spots, AreSoundEntries, quadrant_of, moved, part_of}
use Rattle.quad_matrix.specs.Blocks.{upper_left, upper_right, lower_left, lower_right}
use Rattle.quad_matrix.proofs.Sides.{side_twice}
use Rattle.quad_matrix.proofs.Lists.{entry-spots}
use Rattle.quad_matrix.specs.Quarters.{quarters_of, followed}
use Rattle.quad_matrix.proofs.QuadrantSides.{quadrant_at, upper_stays, shifted, shifted_is, relative_inside}
use Rattle.quad_matrix.proofs.Order.{part_rises}

-- ---- A part, entry by entry

-- the part of one entry more
pub part_more : (half q : ℕ) (spots : List Spot) (i : ℕ) (d : Spot) → i < length spots → part_of half q (take (i + 1) spots) ≡ part_of half q (take i spots) ++ part_of half q (get_or spots i d ∷ [])
part_more half q spots i d h =
    let lies = λ (spot : Spot). quadrant_of half spot == q in
    ap (map (moved half)) (filter_more lies spots i d h)
    ∙ map-append (moved half) (filter lies (take i spots)) (cond (lies (get_or spots i d)) (get_or spots i d ∷ []) [])

-- the quarters of one entry more
pub quarters_more : (half : ℕ) (spots : List Spot) (i : ℕ) (d : Spot) → i < length spots → quarters_of half (take (i + 1) spots) ≡ followed (quarters_of half (take i spots)) (quarters_of half (get_or spots i d ∷ []))
quarters_more half spots i d h =
    let a = part_more half 0 spots i d h in
    let b = part_more half 1 spots i d h in
    let e = part_more half 2 spots i d h in
    let f = part_more half 3 spots i d h in
    cc

-- ---- The values of a part

-- the tests of rows and of columns, sorted anew
both_tests : (r c below right x y : Bool) → ((beq r below && x) && (beq c right && y)) ≡ ((quadrant_at r c == quadrant_at below right) && (x && y))
both_tests r c below right x y = grind arith

-- an entry names a place of a quadrant of the whole exactly where it lies in that quadrant and names the place there
pub is_at-shifted : (half i j : ℕ) (below right : Bool) (spot : Spot) → i < half → j < half → is_at (shifted half below i) (shifted half right j) spot ≡ ((quadrant_of half spot == quadrant_at below right) && is_at i j (moved half spot))
is_at-shifted half i j below right spot h k =
    ap₂ ◌&&◌ (shifted_is half i spot.row below h) (shifted_is half j spot.column right k)
    ∙ both_tests (nat_le half spot.row) (nat_le half spot.column) below right ((moved half spot).row == i) ((moved half spot).column == j)

-- the value of a first entry that may lie in the part or not
first_value : (half i j : ℕ) (spot : Spot) (part : List Spot) (rest : ℤ) (lies : Bool) → spot_value (map (moved half) part) i j ≡ rest → spot_value (map (moved half) (cond lies (spot ∷ part) part)) i j ≡ cond (lies && is_at i j (moved half spot)) spot.value rest
first_value half i j spot part rest true same = ap (cond (is_at i j (moved half spot)) spot.value) same
first_value half i j spot part rest false same = same

-- the value of a part at a place is that of the whole at the place of the quadrant
pub spot_value-part : (half i j : ℕ) (below right : Bool) (spots : List Spot) → i < half → j < half → spot_value (part_of half (quadrant_at below right) spots) i j ≡ spot_value spots (shifted half below i) (shifted half right j)
spot_value-part half i j below right [] h k = refl
spot_value-part half i j below right (spot ∷ spots) h k =
    let lies = λ (s : Spot). quadrant_of half s == quadrant_at below right in
    let rest = spot_value spots (shifted half below i) (shifted half right j) in
    first_value half i j spot (filter lies spots) rest (lies spot) (spot_value-part half i j below right spots h k)
    ∙ ap (λ b. cond b spot.value rest) (sym (is_at-shifted half i j below right spot h k))

-- ---- The blocks of the parts

-- the block of a part is the block of the whole that its values are from
part_is : (half side q top left : ℕ) (spots : List Spot) → top + half ≤ side → left + half ≤ side → ((i j : ℕ) → i < half → j < half → spot_value (part_of half q spots) i j ≡ spot_value spots (top + i) (left + j)) → block_of_spots half (part_of half q spots) ≡ block (block_of_spots side spots) top left half half
part_is half side q top left spots low near same =
    made_ext half half (λ i j. spot_value (part_of half q spots) i j) (λ i j. entry (block_of_spots side spots) (top + i) (left + j))
    (λ i j h k. same i j h k ∙ sym (entry-spots side spots (top + i) (left + j) (omega arith) (omega arith)))

module _ (b h : ℕ) (spots : List Spot) where
  pub part_is_upper_left : block_of_spots (side_of b h) (part_of (side_of b h) 0 spots) ≡ upper_left (side_of b h) (block_of_spots (side_of b (suc h)) spots)
  part_is_upper_left =
      part_is (side_of b h) (side_of b (suc h)) 0 0 0 spots (omega (arith, side_twice b h)) (omega (arith, side_twice b h))
      (λ i j h' k. spot_value-part (side_of b h) i j false false spots h' k ∙ ap₂ (spot_value spots) (sym (zero-add i)) (sym (zero-add j)))

  pub part_is_upper_right : block_of_spots (side_of b h) (part_of (side_of b h) 1 spots) ≡ upper_right (side_of b h) (block_of_spots (side_of b (suc h)) spots)
  part_is_upper_right =
      part_is (side_of b h) (side_of b (suc h)) 1 0 (side_of b h) spots (omega (arith, side_twice b h)) (omega (arith, side_twice b h))
      (λ i j h' k. spot_value-part (side_of b h) i j false true spots h' k ∙ ap (λ n. spot_value spots n (side_of b h + j)) (sym (zero-add i)))

  pub part_is_lower_left : block_of_spots (side_of b h) (part_of (side_of b h) 2 spots) ≡ lower_left (side_of b h) (block_of_spots (side_of b (suc h)) spots)
  part_is_lower_left =
      part_is (side_of b h) (side_of b (suc h)) 2 (side_of b h) 0 spots (omega (arith, side_twice b h)) (omega (arith, side_twice b h))
      (λ i j h' k. spot_value-part (side_of b h) i j true false spots h' k ∙ ap (λ n. spot_value spots (side_of b h + i) n) (sym (zero-add j)))

  pub part_is_lower_right : block_of_spots (side_of b h) (part_of (side_of b h) 3 spots) ≡ lower_right (side_of b h) (block_of_spots (side_of b (suc h)) spots)
  part_is_lower_right =
      part_is (side_of b h) (side_of b (suc h)) 3 (side_of b h) (side_of b h) spots (omega (arith, side_twice b h)) (omega (arith, side_twice b h))
      (λ i j h' k. spot_value-part (side_of b h) i j true true spots h' k)

-- ---- Sound parts

-- an entry of a part is one of a block of half the side
moved_spot : (half side : ℕ) (spot : Spot) → side ≡ half + half → IsSpot side spot → IsSpot half (moved half spot)
moved_spot half side spot twice is = record {
  row = relative_inside half spot.row (omega (arith, is.row));
  column = relative_inside half spot.column (omega (arith, is.column));
  value = is.value;
  small = is.small;
  below = is.below;
}

-- a part has at most as many entries
part_is_short : (half q : ℕ) (spots : List Spot) → length (part_of half q spots) ≤ length spots
part_is_short half q [] = omega arith
part_is_short half q (spot ∷ spots) =
    cond_both (quadrant_of half spot == q) (spot ∷ filter (λ (spot : Spot). quadrant_of half spot == q) spots) (filter (λ (spot : Spot). quadrant_of half spot == q) spots) (λ (kept : List Spot). length (map (moved half) kept) ≤ length (spot ∷ spots))
    (λ e. omega (arith, part_is_short half q spots)) (λ e. omega (arith, part_is_short half q spots))

-- a part of sound entries that is not empty is sound
pub part_is_sound : (b h q : ℕ) (mirrored triangle : Bool) (spots : List Spot) → AreSoundSpots b (suc h) mirrored spots → 1 ≤ length (part_of (side_of b h) q spots) → (IsTrue triangle → All IsUpper (part_of (side_of b h) q spots)) → AreSoundSpots b h triangle (part_of (side_of b h) q spots)
part_is_sound b h q mirrored triangle spots sound some upper =
    let half = side_of b h in
    let lies = λ (spot : Spot). quadrant_of half spot == q in
    record {
      leaf_low = sound.leaf_low;
      leaf_high = sound.leaf_high;
      low = omega (arith, sound.low);
      some = some;
      few = omega (arith, part_is_short half q spots, sound.few);
      rising = part_rises half q spots sound.rising;
      spots = All-map (IsSpot half) (moved half) (filter lies spots)
          (All-filter lies (λ spot. IsSpot half (moved half spot)) spots
          (All-weaker (IsSpot (side_of b (suc h))) (λ spot. IsSpot half (moved half spot)) (λ spot is. moved_spot half (side_of b (suc h)) spot (side_twice b h) is) spots sound.spots));
      upper = upper;
    }

-- in a quadrant on the diagonal an entry on the diagonal or above it stays so
moved_upper : (half : ℕ) (below : Bool) (spot : Spot) → (quadrant_of half spot == quadrant_at below below) ≡ true → IsUpper spot → IsUpper (moved half spot)
moved_upper half below spot lies upper = upper_stays half spot.row spot.column below lies upper

-- so an upper triangle has upper triangles on its diagonal
pub part_is_upper : (half : ℕ) (below : Bool) (spots : List Spot) → All IsUpper spots → All IsUpper (part_of half (quadrant_at below below) spots)
part_is_upper half below spots all =
    let lies = λ (spot : Spot). quadrant_of half spot == quadrant_at below below in
    All-map IsUpper (moved half) (filter lies spots)
    (λ k d h. moved_upper half below (get_or (filter lies spots) k d) (filter_passes lies spots k d h) (All-filter lies IsUpper spots all k d h))

-- the side of the quadrants, as the entries give it
pub half_is : (b h : ℕ) (mirrored : Bool) (e : Entries) → AreSoundEntries b (suc h) mirrored e → side_of e.leaf (e.height - 1) ≡ side_of b h
half_is b h mirrored e sound = ap₂ side_of sound.leaf (omega (arith, sound.height))
