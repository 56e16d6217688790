-- Products of matrices that are completed by zeros to squares.
use Rattle.std.proofs.Common.{◌≡◌, ℕ, ◌+◌, ◌-◌, ◌*◌, ◌^◌, ◌<◌, ◌≤◌, List, [], length, get_or, ℤ, pos, ◌+ℤ◌, ◌*ℤ◌, unsigned_abs, refl, sym, ap, ap₂, ◌∙◌, subst, arith, inl, inr, mul_assoc}
use Rattle.std.proofs.Math.IntN.{+ℤ_idr, zero-*ℤ, *ℤ-zero}
use Rattle.std.proofs.lemmas.Bool.{cases_lt}
use Rattle.std.proofs.lemmas.List.{get_or_past}
use Rattle.std.proofs.lemmas.List.Elements.{All-get_or}
use Rattle.dense_def.specs.Matrix.{Matrix, height, entry, IsMatrix, times, tmul_of, mult_of, completed, peak_of, sum_below, magnitudes_below}
use Rattle.dense_def.specs.Laws.{ProductOfCompleted, TmulOfCompleted, MultOfCompleted, CompletedProductFitsByPeaks, CompletedTmulFitsByPeaks, CompletedMultFitsByPeaks}
use Rattle.dense_def.proofs.Sums.{sum_below_ext, sum_below_split, sum_below_zero, magnitudes_below_ext, magnitudes_below_split, magnitudes_below_bound, unsigned_abs-mul_le}
use Rattle.dense_def.proofs.Entries.{height-made, entry_made, IsMatrix-made, made_same}
use Rattle.dense_def.proofs.Operations.{entry-times, height-times, entry-tmul_of, height-tmul_of, entry-mult_of, height-mult_of}
use Rattle.dense_def.proofs.Peaks.{entry_le_peak}

-- ---- Numbers outside a matrix

-- below the last row there are zeros
pub entry_below : (m : Matrix) (i j : ℕ) → height m ≤ i → entry m i j ≡ pos 0
entry_below m i j le = ap (λ (row : List ℤ). get_or row j (pos 0)) (get_or_past m.rows i [] le)

-- and right of the last column
pub entry_right : (m : Matrix) (i j : ℕ) → IsMatrix m → m.columns ≤ j → entry m i j ≡ pos 0
entry_right m i j whole le =
    elim (cases_lt i (height m)) [
      | inl lt ↦ get_or_past (get_or m.rows i []) j (pos 0) (rw (All-get_or (λ (row : List ℤ). length row ≡ m.columns) m.rows i [] lt whole) le)
      | inr past ↦ entry_below m i j past
    ]

-- no number has an absolute value above the peak, inside the matrix or outside
pub within_peak : (m : Matrix) (i j : ℕ) → IsMatrix m → unsigned_abs (entry m i j) ≤ peak_of m
within_peak m i j whole =
    elim (cases_lt i (height m)) [
      | inr below ↦ rw (entry_below m i j below) (omega arith)
      | inl lt ↦ elim (cases_lt j m.columns) [
        | inr right ↦ rw (entry_right m i j whole right) (omega arith)
        | inl less ↦ entry_le_peak m i j lt less
      ]
    ]

-- ---- The completed matrix

pub height-completed : (side : ℕ) (m : Matrix) → height (completed side m) ≡ side
height-completed side m = height-made side side (λ i j. entry m i j)

pub entry-completed : (side : ℕ) (m : Matrix) (i j : ℕ) → i < side → j < side → entry (completed side m) i j ≡ entry m i j
entry-completed side m i j p q = entry_made side side (λ i j. entry m i j) i j p q

-- ---- Sums of products, of which the first factors are zeros from an index on

-- the products are zeros too
zero_terms : (n : ℕ) (f g : ℕ → ℤ) → ((k : ℕ) → n ≤ k → f k ≡ pos 0) → (k : ℕ) → n ≤ k → f k *ℤ g k ≡ pos 0
zero_terms n f g none k le = ap (λ x. x *ℤ g k) (none k le) ∙ zero-*ℤ (g k)

-- so their sum is that of those before it
sum_before : (n side : ℕ) (f g : ℕ → ℤ) → n ≤ side → ((k : ℕ) → n ≤ k → f k ≡ pos 0)
    → sum_below side (λ k. f k *ℤ g k) ≡ sum_below n (λ k. f k *ℤ g k)
sum_before n side f g low none =
    let more : n + (side - n) ≡ side = omega arith in
    let term : ℕ → ℤ = λ k. f k *ℤ g k in
    ap (λ n. sum_below n term) (sym more)
    ∙ sum_below_split n (side - n) term
    ∙ ap (λ x. sum_below n term +ℤ x) (sum_below_zero (side - n) (λ k. term (n + k)) (λ k p. zero_terms n f g none (n + k) (omega arith)))
    ∙ +ℤ_idr (sum_below n term)

-- and their absolute values sum to no more than those before it may
terms_within : (n side p q : ℕ) (f g : ℕ → ℤ) → n ≤ side → ((k : ℕ) → n ≤ k → f k ≡ pos 0) → ((k : ℕ) → unsigned_abs (f k) ≤ p) → ((k : ℕ) → unsigned_abs (g k) ≤ q)
    → n * p * q ≤ 2 ^ 126 → magnitudes_below side (λ k. f k *ℤ g k) ≤ 2 ^ 126
terms_within n side p q f g low none first second fits =
    let more : n + (side - n) ≡ side = omega arith in
    let term : ℕ → ℤ = λ k. f k *ℤ g k in
    let near : magnitudes_below n term ≤ n * (p * q) = magnitudes_below_bound n (p * q) term (λ k l. unsigned_abs-mul_le (f k) (g k) p q (first k) (second k)) in
    let far : magnitudes_below (side - n) (λ k. term (n + k)) ≤ (side - n) * 0 =
    magnitudes_below_bound (side - n) 0 (λ k. term (n + k)) (λ k l. rw (zero_terms n f g none (n + k) (omega arith)) (omega arith)) in
    let bound : n * (p * q) ≤ 2 ^ 126 = rw mul_assoc at fits in
    let both = magnitudes_below_split n (side - n) term in
    subst (λ s. magnitudes_below s term ≤ 2 ^ 126) more (omega arith)

-- ---- Products

-- a place of a product, inside it or outside
any_times : (a b : Matrix) (i j : ℕ) → IsMatrix b → entry (times a b) i j ≡ sum_below a.columns (λ k. entry a i k *ℤ entry b k j)
any_times a b i j whole =
    elim (cases_lt i (height a)) [
      | inr below ↦
          entry_below (times a b) i j (rw height-times below)
          ∙ sym (sum_below_zero a.columns (λ k. entry a i k *ℤ entry b k j) (λ k p. ap (λ x. x *ℤ entry b k j) (entry_below a i k below) ∙ zero-*ℤ (entry b k j)))
      | inl lt ↦ elim (cases_lt j b.columns) [
        | inr right ↦
            entry_right (times a b) i j (IsMatrix-made (height a) b.columns (λ i j. sum_below a.columns (λ k. entry a i k *ℤ entry b k j))) right
            ∙ sym (sum_below_zero a.columns (λ k. entry a i k *ℤ entry b k j) (λ k p. ap (λ x. entry a i k *ℤ x) (entry_right b k j whole right) ∙ *ℤ-zero (entry a i k)))
        | inl less ↦ entry-times a b i j lt less
      ]
    ]

any_tmul : (a b : Matrix) (i j : ℕ) → IsMatrix a → IsMatrix b → entry (tmul_of a b) i j ≡ sum_below (height a) (λ k. entry a k i *ℤ entry b k j)
any_tmul a b i j wa wb =
    elim (cases_lt i a.columns) [
      | inr below ↦
          entry_below (tmul_of a b) i j (rw height-tmul_of below)
          ∙ sym (sum_below_zero (height a) (λ k. entry a k i *ℤ entry b k j) (λ k p. ap (λ x. x *ℤ entry b k j) (entry_right a k i wa below) ∙ zero-*ℤ (entry b k j)))
      | inl lt ↦ elim (cases_lt j b.columns) [
        | inr right ↦
            entry_right (tmul_of a b) i j (IsMatrix-made a.columns b.columns (λ i j. sum_below (height a) (λ k. entry a k i *ℤ entry b k j))) right
            ∙ sym (sum_below_zero (height a) (λ k. entry a k i *ℤ entry b k j) (λ k p. ap (λ x. entry a k i *ℤ x) (entry_right b k j wb right) ∙ *ℤ-zero (entry a k i)))
        | inl less ↦ entry-tmul_of a b i j lt less
      ]
    ]

any_mult : (a b : Matrix) (i j : ℕ) → entry (mult_of a b) i j ≡ sum_below a.columns (λ k. entry a i k *ℤ entry b j k)
any_mult a b i j =
    elim (cases_lt i (height a)) [
      | inr below ↦
          entry_below (mult_of a b) i j (rw height-mult_of below)
          ∙ sym (sum_below_zero a.columns (λ k. entry a i k *ℤ entry b j k) (λ k p. ap (λ x. x *ℤ entry b j k) (entry_below a i k below) ∙ zero-*ℤ (entry b j k)))
      | inl lt ↦ elim (cases_lt j (height b)) [
        | inr right ↦
            entry_right (mult_of a b) i j (IsMatrix-made (height a) (height b) (λ i j. sum_below a.columns (λ k. entry a i k *ℤ entry b j k))) right
            ∙ sym (sum_below_zero a.columns (λ k. entry a i k *ℤ entry b j k) (λ k p. ap (λ x. entry a i k *ℤ x) (entry_below b j k right) ∙ *ℤ-zero (entry a i k)))
        | inl less ↦ entry-mult_of a b i j lt less
      ]
    ]

-- the product of completed matrices is the completed product
pub times-completed : ProductOfCompleted
times-completed side a b wa wb inner low =
    let x = completed side a in
    let y = completed side b in
    made_same (height x) side side side (λ i j. sum_below side (λ k. entry x i k *ℤ entry y k j)) (λ i j. entry (times a b) i j) (height-completed side a) refl (λ i j p q.
    let l : i < side = rw height-completed at p in
    sum_below_ext side (λ k. entry x i k *ℤ entry y k j) (λ k. entry a i k *ℤ entry b k j)
    (λ k r. ap₂ ◌*ℤ◌ (entry-completed side a i k l r) (entry-completed side b k j r q))
    ∙ sum_before a.columns side (λ k. entry a i k) (λ k. entry b k j) low (λ k le. entry_right a i k wa le)
    ∙ sym (any_times a b i j wb))

-- so it is with the first factor transposed
pub tmul_of-completed : TmulOfCompleted
tmul_of-completed side a b wa wb inner low =
    let x = completed side a in
    let y = completed side b in
    made_same side side side side (λ i j. sum_below (height x) (λ k. entry x k i *ℤ entry y k j)) (λ i j. entry (tmul_of a b) i j) refl refl (λ i j p q.
    ap (λ n. sum_below n (λ k. entry x k i *ℤ entry y k j)) (height-completed side a)
    ∙ sum_below_ext side (λ k. entry x k i *ℤ entry y k j) (λ k. entry a k i *ℤ entry b k j)
    (λ k r. ap₂ ◌*ℤ◌ (entry-completed side a k i r p) (entry-completed side b k j r q))
    ∙ sum_before (height a) side (λ k. entry a k i) (λ k. entry b k j) low (λ k le. entry_below a k i le)
    ∙ sym (any_tmul a b i j wa wb))

-- and with the second factor transposed
pub mult_of-completed : MultOfCompleted
mult_of-completed side a b wa wb inner low =
    let x = completed side a in
    let y = completed side b in
    made_same (height x) (height y) side side (λ i j. sum_below side (λ k. entry x i k *ℤ entry y j k)) (λ i j. entry (mult_of a b) i j) (height-completed side a) (height-completed side b) (λ i j p q.
    let l : i < side = rw height-completed at p in
    let m : j < side = rw height-completed at q in
    sum_below_ext side (λ k. entry x i k *ℤ entry y j k) (λ k. entry a i k *ℤ entry b j k)
    (λ k r. ap₂ ◌*ℤ◌ (entry-completed side a i k l r) (entry-completed side b j k m r))
    ∙ sum_before a.columns side (λ k. entry a i k) (λ k. entry b j k) low (λ k le. entry_right a i k wa le)
    ∙ sym (any_mult a b i j))

-- ---- Terms that fit

-- the terms of a product of completed matrices fit by the inner size of the matrices themselves
pub product_fits-completed : CompletedProductFitsByPeaks
product_fits-completed side a b wa wb inner low fits = λ i j p q.
    let x = completed side a in
    let y = completed side b in
    let l : i < side = rw height-completed at p in
    rw (magnitudes_below_ext side (λ k. entry x i k *ℤ entry y k j) (λ k. entry a i k *ℤ entry b k j) (λ k r. ap₂ ◌*ℤ◌ (entry-completed side a i k l r) (entry-completed side b k j r q)))
    (terms_within a.columns side (peak_of a) (peak_of b) (λ k. entry a i k) (λ k. entry b k j) low (λ k le. entry_right a i k wa le) (λ k. within_peak a i k wa) (λ k. within_peak b k j wb) fits)

-- so do those of a product with the first factor transposed
pub tmul_fits-completed : CompletedTmulFitsByPeaks
tmul_fits-completed side a b wa wb inner low fits = λ i j p q.
    let x = completed side a in
    let y = completed side b in
    subst (λ n. magnitudes_below n (λ k. entry x k i *ℤ entry y k j) ≤ 2 ^ 126) (sym (height-completed side a))
    (rw (magnitudes_below_ext side (λ k. entry x k i *ℤ entry y k j) (λ k. entry a k i *ℤ entry b k j) (λ k r. ap₂ ◌*ℤ◌ (entry-completed side a k i r p) (entry-completed side b k j r q)))
    (terms_within (height a) side (peak_of a) (peak_of b) (λ k. entry a k i) (λ k. entry b k j) low (λ k le. entry_below a k i le) (λ k. within_peak a k i wa) (λ k. within_peak b k j wb) fits))

-- and those of a product with the second factor transposed
pub mult_fits-completed : CompletedMultFitsByPeaks
mult_fits-completed side a b wa wb inner low fits = λ i j p q.
    let x = completed side a in
    let y = completed side b in
    let l : i < side = rw height-completed at p in
    let m : j < side = rw height-completed at q in
    rw (magnitudes_below_ext side (λ k. entry x i k *ℤ entry y j k) (λ k. entry a i k *ℤ entry b j k) (λ k r. ap₂ ◌*ℤ◌ (entry-completed side a i k l r) (entry-completed side b j k m r)))
    (terms_within a.columns side (peak_of a) (peak_of b) (λ k. entry a i k) (λ k. entry b j k) low (λ k le. entry_right a i k wa le) (λ k. within_peak a i k wa) (λ k. within_peak b j k wb) fits)
