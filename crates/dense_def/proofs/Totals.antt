-- A running sum in 128 bits: where the terms fit, neither a term nor a partial sum leaves the range.
use Rattle.std.proofs.Common.{◌≡◌, ℕ, ◌+◌, ◌<◌, ◌≤◌, ◌^◌, ℤ, ◌+ℤ◌, unsigned_abs, ap₂, arith, SFits, add-one}
use Rattle.std.proofs.lemmas.Int.{fits_signed_from_abs}
use Rattle.std.specs.Int.{w128}
use Rattle.dense_def.specs.Matrix.{sum_below, TermsFit}
use Rattle.dense_def.proofs.Sums.{partial_sum_bound, term_bound, unsigned_abs-add}

-- a number of absolute value at most 2 ^ 126 fits 128 bits
pub within_fits : (z : ℤ) → unsigned_abs z ≤ 2 ^ 126 → SFits w128 z
within_fits z h = fits_signed_from_abs w128 z (omega arith)

-- a term fits
pub term_fits : (k n : ℕ) (f : ℕ → ℤ) (x : ℤ) → TermsFit n f → k < n → x ≡ f k → SFits w128 x
term_fits k n f x fit h is = within_fits x (rw is (omega (arith, term_bound k n f h)))

-- the partial sum with one term more fits
pub total_fits : (k n : ℕ) (f : ℕ → ℤ) (total x : ℤ) → TermsFit n f → k < n → total ≡ sum_below k f → x ≡ f k → SFits w128 (total +ℤ x)
total_fits k n f total x fit h so_far is =
    let bound : unsigned_abs (sum_below (k + 1) f) ≤ 2 ^ 126 = omega (arith, partial_sum_bound (k + 1) n f (omega arith)) in
    within_fits (total +ℤ x) (rw (so_far, is) (rw add-one at bound))

-- and is the sum below the next index
pub total_more : (k : ℕ) (f : ℕ → ℤ) (total x : ℤ) → total ≡ sum_below k f → x ≡ f k → total +ℤ x ≡ sum_below (k + 1) f
total_more k f total x so_far is = rw add-one (ap₂ ◌+ℤ◌ so_far is)

-- the sum of two numbers that fit together fits
pub two_fit : (x y a b : ℤ) → x ≡ a → y ≡ b → unsigned_abs a + unsigned_abs b ≤ 2 ^ 126 → SFits w128 (x +ℤ y)
two_fit x y a b is is' h = within_fits (x +ℤ y) (rw (is, is') (omega (arith, unsigned_abs-add a b)))
