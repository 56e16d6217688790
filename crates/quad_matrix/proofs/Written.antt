-- A square of numbers into which entries are written one after another.
use Rattle.std.proofs.Common.{◌≡◌, ℕ, suc, ◌+◌, ◌*◌, ◌^◌, ◌<◌, ◌≤◌, Bool, true, false, ◌==◌, List, [], ◌∷◌, ◌++◌, length, get_or, set, take, cond, ℤ, pos, unsigned_abs, IsTrue, ⊎_elim, refl, sym, ap, ap₂, subst, ◌∙◌, arith, length-take, length-set, get_or-set_same, get_or-set_other}
use Rattle.std.specs.List.{All}
use Rattle.std.proofs.lemmas.Nat.{same_from_place, mul-add-lt}
use Rattle.std.proofs.lemmas.Bool.{eqb-true, eq-eqb, and_parts, and_from, false_from_ne_true, cond_both, both_ways}
use Rattle.std.proofs.lemmas.List.{take_more, take_all, get_or-take, get_or_default}
use Rattle.dense_def.specs.Matrix.{row_by_row}
use Rattle.dense_def.proofs.Entries.{made_ext}
use Rattle.leaf_blocks.specs.Block.{place, EachPlace, IsSmall}
use Rattle.leaf_blocks.proofs.Squares.{all_by_place}
use Rattle.chunk_codec.specs.declared.plain.Spot.{Spot}
use Rattle.chunk_codec.specs.Spots.{spots_rise, IsSpot}
use Rattle.quad_matrix.specs.Spots.{is_at, spot_value, block_of_spots}
use Rattle.quad_matrix.proofs.Lists.{spot_value_small}
use Rattle.quad_matrix.proofs.Order.{Before, before_cases, pairs_from_rise}

-- each place has the value that the entries give it
pub record SpotsWritten (numbers : List ℤ) (side : ℕ) (spots : List Spot) : Type 0 where
  pub long : length numbers ≡ side * side
  pub values : EachPlace side (λ i j. place side numbers i j ≡ spot_value spots i j)

-- an entry behind others that name another place than it
pub spot_value-push : (spots : List Spot) (spot : Spot) (i j : ℕ) → All (λ other. is_at spot.row spot.column other ≡ false) spots → spot_value (spots ++ spot ∷ []) i j ≡ cond (is_at i j spot) spot.value (spot_value spots i j)
spot_value-push [] spot i j none = refl
spot_value-push (first ∷ spots) spot i j none =
    ap (cond (is_at i j first) first.value) (spot_value-push spots spot i j (λ k d h. none (suc k) d (omega arith)))
    ∙ swapped (is_at i j first) (is_at i j spot) (spot_value spots i j)
    (λ one other. let a = and_parts (first.row == i) (first.column == j) one in
    let b = and_parts (spot.row == i) (spot.column == j) other in
    both_ways (is_at spot.row spot.column first) (none 0 first (omega arith))
    (and_from (first.row == spot.row) (first.column == spot.column)
    (eq-eqb first.row spot.row (eqb-true first.row i a.0 ∙ sym (eqb-true spot.row i b.0)))
    (eq-eqb first.column spot.column (eqb-true first.column j a.1 ∙ sym (eqb-true spot.column j b.1)))))
  where
    swapped : (a b : Bool) (z : ℤ) → (a ≡ true → b ≡ true → ⊥) → cond a first.value (cond b spot.value z) ≡ cond b spot.value (cond a first.value z)
    swapped true true z apart = absurd (apart refl refl)
    swapped true false z apart = refl
    swapped false b z apart = refl

-- where places rise, no entry names the place of one behind it
pub earlier_elsewhere : (spots : List Spot) (k : ℕ) (d : Spot) → IsTrue (spots_rise spots) → k < length spots → All (λ other. is_at (get_or spots k d).row (get_or spots k d).column other ≡ false) (take k spots)
earlier_elsewhere spots k d rising h = λ p e below.
    let earlier : p < k = omega (arith, length-take {A = Spot}) in
    rw (get_or-take k spots p e earlier) (elsewhere (get_or spots p e) (get_or spots k d) (rw (get_or_default spots k e d h) at (pairs_from_rise spots rising p k e earlier h)))
  where
    elsewhere : (one other : Spot) → Before one other → is_at other.row other.column one ≡ false
    elsewhere one other before =
        false_from_ne_true (is_at other.row other.column one)
        (λ same. let both = and_parts (one.row == other.row) (one.column == other.column) same in
        let rows : one.row ≡ other.row = eqb-true one.row other.row both.0 in
        let columns : one.column ≡ other.column = eqb-true one.column other.column both.1 in
        ⊎_elim (λ (l : one.row < other.row). omega arith) (λ (r : (one.row ≡ other.row) × (one.column < other.column)). omega arith) (before_cases one other before))

-- the next entry is written
pub SpotsWritten-more : (numbers : List ℤ) (side : ℕ) (spots : List Spot) (k : ℕ) (d : Spot) (y : ℤ) → SpotsWritten numbers side (take k spots) → k < length spots → All (IsSpot side) spots → IsTrue (spots_rise spots) → y ≡ (get_or spots k d).value → SpotsWritten (set numbers ((get_or spots k d).row * side + (get_or spots k d).column) y) side (take (k + 1) spots)
SpotsWritten-more numbers side spots k d y w h each rising is =
    let spot = get_or spots k d in
    let inside : IsSpot side spot = each k d h in
    let at = spot.row * side + spot.column in
    let below : at < length numbers = rw w.long (mul-add-lt spot.row side spot.column side inside.row inside.column) in
    record {
      long = length-set numbers at y ∙ w.long;
      values = λ i j l m.
          cond_both (is_at i j spot) spot.value (spot_value (take k spots) i j) (λ z. place side (set numbers at y) i j ≡ z)
          (λ here. let both = and_parts (spot.row == i) (spot.column == j) here in
          ap₂ (λ p q. place side (set numbers at y) p q) (sym (eqb-true spot.row i both.0)) (sym (eqb-true spot.column j both.1))
          ∙ get_or-set_same numbers at y (pos 0) below ∙ is)
          (λ elsewhere. get_or-set_other numbers at (i * side + j) y (pos 0)
          (λ same. let place_is = same_from_place i j spot.row spot.column side m inside.column same in
          both_ways (is_at i j spot) elsewhere (and_from (spot.row == i) (spot.column == j) (eq-eqb spot.row i (sym place_is.0)) (eq-eqb spot.column j (sym place_is.1))))
          ∙ w.values i j l m)
          ∙ sym (ap (λ xs. spot_value xs i j) (take_more spots k d h) ∙ spot_value-push (take k spots) spot i j (earlier_elsewhere spots k d rising h));
    }

-- all entries are written: the square is their block
module _ (numbers : List ℤ) (side n : ℕ) (spots : List Spot) (w : SpotsWritten numbers side (take n spots)) (last : length spots ≤ n) where
  values : (i j : ℕ) → i < side → j < side → place side numbers i j ≡ spot_value spots i j
  values i j h k = w.values i j h k ∙ ap (λ xs. spot_value xs i j) (take_all n spots last)

  pub written_small : All (IsSpot side) spots → All IsSmall numbers
  written_small each =
      all_by_place IsSmall side numbers w.long
      (λ i j h k. let bound : unsigned_abs (spot_value spots i j) ≤ 2 ^ 63 = spot_value_small side spots i j each in
      subst IsSmall (sym (values i j h k)) (omega arith))

  pub written_is : row_by_row side side numbers ≡ block_of_spots side spots
  written_is = made_ext side side (λ i j. place side numbers i j) (λ i j. spot_value spots i j) values
