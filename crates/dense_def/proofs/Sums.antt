-- The sum over an index range, and its bound by the absolute values of its terms: each stated once, for any terms.
use Rattle.std.proofs.Common.{◌≡◌, ℕ, zero, suc, ◌+◌, ◌-◌, ◌*◌, ◌<◌, ◌≤◌, ℤ, pos, ◌+ℤ◌, ◌*ℤ◌, unsigned_abs, refl, sym, ap, ap₂, subst, ◌∙◌, arith, add-zero, add-suc, ⊎_elim}
use Rattle.std.proofs.Math.IntN.{+ℤ_idr, +ℤ_assoc}
use Rattle.std.proofs.lemmas.Int.{ints, unsigned_abs-mul}
use Rattle.std.proofs.Math.Nat.{mul-le-mul}
use Rattle.dense_def.specs.Matrix.{sum_below, magnitudes_below, greatest_below}

-- two sums whose terms are equal at each index are equal
pub sum_below_ext : (n : ℕ) (f g : ℕ → ℤ) → ((k : ℕ) → k < n → f k ≡ g k) → sum_below n f ≡ sum_below n g
sum_below_ext zero f g same = refl
sum_below_ext (suc n) f g same = ap₂ ◌+ℤ◌ (sum_below_ext n f g (λ k h. same k (omega arith))) (same n (omega arith))

-- a sum over a range that is split at m is the sum over both parts
pub sum_below_split : (m n : ℕ) (f : ℕ → ℤ) → sum_below (m + n) f ≡ sum_below m f +ℤ sum_below n (λ k. f (m + k))
sum_below_split m zero f = rw add-zero (sym (+ℤ_idr (sum_below m f)))
sum_below_split m (suc n) f =
    rw add-suc (ap (λ s. s +ℤ f (m + n)) (sum_below_split m n f) ∙ +ℤ_assoc (sum_below m f) (sum_below n (λ k. f (m + k))) (f (m + n)))

-- a sum whose terms are 0 is 0
pub sum_below_zero : (n : ℕ) (f : ℕ → ℤ) → ((k : ℕ) → k < n → f k ≡ pos 0) → sum_below n f ≡ pos 0
sum_below_zero zero f none = refl
sum_below_zero (suc n) f none = ap₂ ◌+ℤ◌ (sum_below_zero n f (λ k h. none k (omega arith))) (none n (omega arith))

-- the absolute value of a sum of two is at most the sum of theirs
pub unsigned_abs-add : (a b : ℤ) → unsigned_abs (a +ℤ b) ≤ unsigned_abs a + unsigned_abs b
unsigned_abs-add a b = omega (arith, ints)

-- the absolute value of a sum is at most the sum of the absolute values
pub magnitudes_bound : (n : ℕ) (f : ℕ → ℤ) → unsigned_abs (sum_below n f) ≤ magnitudes_below n f
magnitudes_bound zero f = omega arith
magnitudes_bound (suc n) f = omega (arith, magnitudes_bound n f, unsigned_abs-add (sum_below n f) (f n))

-- a sum of absolute values over a range that is split at m is the sum over both parts
pub magnitudes_below_split : (m n : ℕ) (f : ℕ → ℤ) → magnitudes_below (m + n) f ≡ magnitudes_below m f + magnitudes_below n (λ k. f (m + k))
magnitudes_below_split m zero f = rw (add-zero m) (omega arith)
magnitudes_below_split m (suc n) f = rw add-suc (omega (arith, magnitudes_below_split m n f))

-- fewer terms have no greater sum of absolute values
pub magnitudes_below_le : (m n : ℕ) (f : ℕ → ℤ) → m ≤ n → magnitudes_below m f ≤ magnitudes_below n f
magnitudes_below_le m n f h =
    let whole : m + (n - m) ≡ n = omega arith in
    subst (λ x. magnitudes_below m f ≤ magnitudes_below x f) whole (omega (arith, magnitudes_below_split m (n - m) f))

-- no partial sum leaves the bound of the whole
pub partial_sum_bound : (m n : ℕ) (f : ℕ → ℤ) → m ≤ n → unsigned_abs (sum_below m f) ≤ magnitudes_below n f
partial_sum_bound m n f h = omega (arith, magnitudes_bound m f, magnitudes_below_le m n f h)

-- no term leaves it either
pub term_bound : (k n : ℕ) (f : ℕ → ℤ) → k < n → unsigned_abs (f k) ≤ magnitudes_below n f
term_bound k n f h =
    let next : magnitudes_below (suc k) f ≤ magnitudes_below n f = magnitudes_below_le (suc k) n f (omega arith) in
    omega arith

-- two sums of absolute values whose terms are equal at each index are equal
pub magnitudes_below_ext : (n : ℕ) (f g : ℕ → ℤ) → ((k : ℕ) → k < n → f k ≡ g k) → magnitudes_below n f ≡ magnitudes_below n g
magnitudes_below_ext zero f g same = refl
magnitudes_below_ext (suc n) f g same =
    ap₂ ◌+◌ (magnitudes_below_ext n f g (λ k h. same k (omega arith))) (ap unsigned_abs (same n (omega arith)))

-- n terms of absolute value at most b come to at most n * b
pub magnitudes_below_bound : (n b : ℕ) (f : ℕ → ℤ) → ((k : ℕ) → k < n → unsigned_abs (f k) ≤ b) → magnitudes_below n f ≤ n * b
magnitudes_below_bound zero b f each = omega arith
magnitudes_below_bound (suc n) b f each =
    omega (arith, magnitudes_below_bound n b f (λ k h. each k (omega arith)), each n (omega arith))

-- the absolute value of a product of two numbers that are bounded
pub unsigned_abs-mul_le : (a b : ℤ) (m n : ℕ) → unsigned_abs a ≤ m → unsigned_abs b ≤ n → unsigned_abs (a *ℤ b) ≤ m * n
unsigned_abs-mul_le a b m n h k = rw unsigned_abs-mul (mul-le-mul h k)

-- the greatest of some values is at least each of them
pub greatest_below_bound : (k n : ℕ) (f : ℕ → ℕ) → k < n → f k ≤ greatest_below n f
greatest_below_bound k zero f h = absurd (omega arith)
greatest_below_bound k (suc n) f h =
    ⊎_elim (λ (e : k ≡ n). rw e (omega arith)) (λ (l : k < n). omega (arith, greatest_below_bound k n f l)) (grind arith)

-- and it is at most what each of them is at most
pub greatest_below_least : (n b : ℕ) (f : ℕ → ℕ) → ((k : ℕ) → k < n → f k ≤ b) → greatest_below n f ≤ b
greatest_below_least zero b f each = omega arith
greatest_below_least (suc n) b f each =
    omega (arith, greatest_below_least n b f (λ k h. each k (omega arith)), each n (omega arith))
