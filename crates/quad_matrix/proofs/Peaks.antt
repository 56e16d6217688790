-- The peak of a list of entries, as far as a walk has come.
use Rattle.std.proofs.Common.{◌≡◌, ℕ, zero, suc, ◌<◌, max, List, [], ◌∷◌, length, take, get_or, unsigned_abs, refl, arith}
use Rattle.chunk_codec.specs.declared.plain.Spot.{Spot}
use Rattle.chunk_codec.specs.Spots.{greatest_of}

-- one entry more
pub greatest_more : (spots : List Spot) (i : ℕ) (d : Spot) → i < length spots → greatest_of (take (suc i) spots) ≡ max (unsigned_abs (get_or spots i d).value) (greatest_of (take i spots))
greatest_more [] i d h = absurd (omega arith)
greatest_more (spot ∷ spots) zero d h = refl
greatest_more (spot ∷ spots) (suc i) d h =
    let more : greatest_of (take (suc i) spots) ≡ max (unsigned_abs (get_or spots i d).value) (greatest_of (take i spots)) =
    greatest_more spots i d (omega arith) in
    omega arith
