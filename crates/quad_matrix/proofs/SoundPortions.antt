-- The portions of a sound list are sound.
use Rattle.std.proofs.Common.{◌≡◌, ℕ, suc, ◌-◌, ◌≤◌, Bool, true, false, IsTrue, List, [], ◌∷◌, length, sym, ap, ◌∙◌, subst, arith}
use Rattle.std.specs.Prelude.{IfSome}
use Rattle.std.specs.List.{All}
use Rattle.std.proofs.lemmas.Bool.{false≢true}
use Rattle.chunk_codec.specs.declared.plain.Spot.{Spot}
use Rattle.chunk_codec.specs.Spots.{side_of, IsUpper, AreSoundSpots}
use Rattle.quad_matrix.specs.declared.chunk.Entries.{Entries}
use Rattle.quad_matrix.specs.Chunks.{IsSoundChunk}
use Rattle.quad_matrix.specs.Spots.{AreSoundEntries, part_of}
use Rattle.quad_matrix.specs.Portions.{listed, is_mirrored, entries_in}
use Rattle.quad_matrix.specs.Laws.{PortionsAreSound}
use Rattle.quad_matrix.proofs.QuadrantSides.{quadrant_at}
use Rattle.quad_matrix.proofs.PartBlocks.{half_is, part_is_sound, part_is_upper}

-- sound entries are a sound content
listed_sound : (leaf height : ℕ) (triangle : Bool) (spots : List Spot) → (1 ≤ length spots → AreSoundSpots leaf height triangle spots)
    → IfSome (listed leaf height triangle spots) IsSoundChunk
listed_sound leaf height triangle [] sound = tt
listed_sound leaf height triangle (spot ∷ spots) sound = sound (omega arith)

module _ (b h : ℕ) (mirrored : Bool) (whole : Entries) (sound : AreSoundEntries b (suc h) mirrored whole) where
  -- the entries in a quadrant
  part_is : (q : ℕ) → part_of (side_of b h) q whole.list ≡ entries_in whole q
  part_is q = ap (λ half. part_of half q whole.list) (sym (half_is b h mirrored whole sound))

  -- a portion, where its entries lie on the diagonal or above it if it is to be an upper triangle
  portion_sound : (q : ℕ) (triangle : Bool) → (IsTrue triangle → All IsUpper (part_of (side_of b h) q whole.list)) → IfSome (listed whole.leaf (whole.height - 1) triangle (entries_in whole q)) IsSoundChunk
  portion_sound q triangle upper =
      let below : whole.height - 1 ≡ h = omega (arith, sound.height) in
      listed_sound whole.leaf (whole.height - 1) triangle (entries_in whole q)
      (λ some. let there : 1 ≤ length (part_of (side_of b h) q whole.list) = omega (arith, ap length (part_is q)) in
      subst (λ (spots : List Spot). AreSoundSpots whole.leaf (whole.height - 1) triangle spots) (part_is q)
      (subst (λ leaf. AreSoundSpots leaf (whole.height - 1) triangle (part_of (side_of b h) q whole.list)) (sym sound.leaf)
      (subst (λ low. AreSoundSpots b low triangle (part_of (side_of b h) q whole.list)) (sym below) (part_is_sound b h q mirrored triangle whole.list sound.listed there upper))))

  -- one on the diagonal, of a symmetric list
  diagonal : (below : Bool) (triangle : Bool) → (triangle ≡ true → mirrored ≡ true) → IsTrue triangle → All IsUpper (part_of (side_of b h) (quadrant_at below below) whole.list)
  diagonal below triangle may e = part_is_upper (side_of b h) below whole.list (sound.listed.upper (may e))

pub portions_are_sound : PortionsAreSound
portions_are_sound b h mirrored whole parts sound take =
    let none : (q : ℕ) → is_mirrored parts q ≡ false → IsTrue (is_mirrored parts q) → All IsUpper (part_of (side_of b h) q whole.list) = λ q e f. absurd (false≢true (sym e ∙ f)) in
    record {
      first = portion_sound b h mirrored whole sound 0 (is_mirrored parts 0) (diagonal b h mirrored whole sound false (is_mirrored parts 0) take.upper_left);
      second = portion_sound b h mirrored whole sound 1 (is_mirrored parts 1) (none 1 take.upper_right);
      third = portion_sound b h mirrored whole sound 2 (is_mirrored parts 2) (none 2 take.lower_left);
      fourth = portion_sound b h mirrored whole sound 3 (is_mirrored parts 3) (diagonal b h mirrored whole sound true (is_mirrored parts 3) take.lower_right);
    }
