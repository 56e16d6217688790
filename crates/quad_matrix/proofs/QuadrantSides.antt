-- The tests by which an entry finds its quadrant.
use Rattle.std.proofs.Common.{◌≡◌, ℕ, ◌+◌, ◌<◌, ◌≤◌, Bool, true, false, ◌&&◌, ◌==◌, nat_le, cond, arith}
use mathlib.Core.Bool.{beq}
use Rattle.std.proofs.lemmas.Bool.Decides.{nat_tests}
use Rattle.quad_matrix.specs.Spots.{relative}

-- the number of a quadrant, by whether it lies below and whether it lies to the right
abbrev pub quadrant_at : Bool → Bool → ℕ
quadrant_at below right = cond below 2 0 + cond right 1 0

-- the number of a quadrant tells both
pub sides_of_quadrant : (half r c r' c' : ℕ) → quadrant_at (nat_le half r) (nat_le half c) ≡ quadrant_at (nat_le half r') (nat_le half c') → (nat_le half r ≡ nat_le half r') × (nat_le half c ≡ nat_le half c')
sides_of_quadrant half r c r' c' h = (grind (arith, nat_tests), grind (arith, nat_tests))

-- an index of the whole from one that is relative to its half
abbrev pub shifted : ℕ → Bool → ℕ → ℕ
shifted half beyond i = cond beyond (half + i) i

-- an index is shifted from i exactly where it lies in that half and is i relative to it
pub shifted_is : (half i r : ℕ) (beyond : Bool) → i < half → (r == shifted half beyond i) ≡ (beq (nat_le half r) beyond && (relative half r == i))
shifted_is half i r true h = grind (arith, nat_tests)
shifted_is half i r false h = grind (arith, nat_tests)

-- in one half, indices keep their order
pub relative_below : (half r s : ℕ) → nat_le half r ≡ nat_le half s → r < s → relative half r < relative half s
relative_below half r s same h = grind (arith, nat_tests)

-- an index of the whole lies in the half that it is relative to
pub relative_inside : (half r : ℕ) → r < half + half → relative half r < half
relative_inside half r h = grind (arith, nat_tests)

-- in a quadrant on the diagonal an index that is not above another stays so
pub upper_stays : (half r c : ℕ) (below : Bool) → (quadrant_at (nat_le half r) (nat_le half c) == quadrant_at below below) ≡ true → r ≤ c → relative half r ≤ relative half c
upper_stays half r c true same h = grind (arith, nat_tests)
upper_stays half r c false same h = grind (arith, nat_tests)
