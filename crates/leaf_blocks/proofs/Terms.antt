-- The sums that the product loops make term by term: the next sum, and that no sum on the way leaves 128 bits.
use Rattle.std.proofs.Common.{◌≡◌, ℕ, zero, suc, ◌+◌, ◌*◌, ◌^◌, ◌<◌, ◌≤◌, List, take, drop, ℤ, pos, negsuc, ◌+ℤ◌, ◌*ℤ◌, unsigned_abs, to_z, of_z, SFits, refl, sym, ap, ap₂, ◌∙◌, subst, arith}
use Rattle.std.specs.Int.{w128}
use Rattle.std.proofs.lemmas.Int.{ints, to_z-of_z}
use Rattle.std.proofs.Math.IntN.{+ℤ_idr, zero-*ℤ}
use Rattle.dense_def.specs.Matrix.{sum_below, magnitudes_below, TermsFit}
use Rattle.dense_def.proofs.Sums.{sum_below_ext, magnitudes_bound, magnitudes_below_le, magnitudes_below_ext}
use Rattle.dense_def.proofs.Totals.{within_fits, two_fit, total_more}
use Rattle.leaf_blocks.specs.Block.{number_at, place}
use Rattle.leaf_blocks.proofs.Rows.{number_at-row}

-- a partial sum and the next term fit together, where all terms do
pub next_term_fits : (n k : ℕ) (f : ℕ → ℤ) (partial : ℤ) → partial ≡ sum_below k f → k < n → TermsFit n f → unsigned_abs partial + unsigned_abs (f k) ≤ 2 ^ 126
next_term_fits n k f partial same h fit =
    let next : magnitudes_below (suc k) f ≤ magnitudes_below n f = magnitudes_below_le (suc k) n f (omega arith) in
    rw same (omega (arith, magnitudes_bound k f))

-- ---- As the code computes

-- `a + factor * b`, where both terms fit together
pub multiply_add : (a former factor b : ℤ) → a ≡ former → SFits w128 factor → SFits w128 b → unsigned_abs former + unsigned_abs (factor *ℤ b) ≤ 2 ^ 126 → to_z w128 (of_z w128 (to_z w128 (of_z w128 a) +ℤ to_z w128 (of_z w128 (to_z w128 (of_z w128 factor) *ℤ to_z w128 (of_z w128 b))))) ≡ former +ℤ to_z w128 (of_z w128 factor) *ℤ b
multiply_add a former factor b same fits fits_b fit =
    let first : to_z w128 (of_z w128 former) ≡ former = to_z-of_z w128 former (within_fits former (omega arith)) in
    let term : to_z w128 (of_z w128 (factor *ℤ b)) ≡ factor *ℤ b = to_z-of_z w128 (factor *ℤ b) (within_fits (factor *ℤ b) (omega arith)) in
    let whole = to_z-of_z w128 (former +ℤ factor *ℤ b) (two_fit former (factor *ℤ b) former (factor *ℤ b) refl refl fit) in
    rw (same, first, to_z-of_z w128 factor fits, to_z-of_z w128 b fits_b, term, whole) refl

-- a number whose bits are all 0 is 0
pub zero_from_bits : (z : ℤ) → SFits w128 z → of_z w128 z ≡ 0 → z ≡ pos 0
zero_from_bits (pos n) fits bits = ap pos bits
zero_from_bits (negsuc n) fits bits = absurd (omega (arith, ints))

-- a factor of 0 adds nothing
pub nothing_added : (factor before z : ℤ) → SFits w128 factor → of_z w128 factor ≡ 0 → before ≡ before +ℤ factor *ℤ z
nothing_added factor before z fits bits = rw (zero_from_bits factor fits bits, zero-*ℤ z, +ℤ_idr before) refl

-- ---- The product of a row: the term k in column j, where the code reads row k of the other matrix as a slice
module _ (factors other : List ℤ) (columns j k n : ℕ) (long : n ≡ columns) (fits : SFits w128 (number_at factors k)) (within : j < columns) where
  row_term_read : to_z w128 (of_z w128 (number_at factors k)) *ℤ number_at (take n (drop (k * columns) other)) j ≡ number_at factors k *ℤ place columns other k j
  row_term_read = ap₂ ◌*ℤ◌ (to_z-of_z w128 (number_at factors k) fits) (number_at-row other k columns n j long within)

  pub row_term_fits : (m : ℕ) (partial : ℤ) → partial ≡ sum_below k (λ k. number_at factors k *ℤ place columns other k j) → k < m → TermsFit m (λ k. number_at factors k *ℤ place columns other k j) → unsigned_abs partial + unsigned_abs (to_z w128 (of_z w128 (number_at factors k)) *ℤ number_at (take n (drop (k * columns) other)) j) ≤ 2 ^ 126
  row_term_fits m partial same h fit =
      subst (λ z. unsigned_abs partial + unsigned_abs z ≤ 2 ^ 126) (sym row_term_read) (next_term_fits m k (λ k. number_at factors k *ℤ place columns other k j) partial same h fit)

  pub row_term_added : (partial next : ℤ) → partial ≡ sum_below k (λ k. number_at factors k *ℤ place columns other k j) → next ≡ partial +ℤ to_z w128 (of_z w128 (number_at factors k)) *ℤ number_at (take n (drop (k * columns) other)) j → next ≡ sum_below (k + 1) (λ k. number_at factors k *ℤ place columns other k j)
  row_term_added partial next same is =
      is ∙ total_more k (λ k. number_at factors k *ℤ place columns other k j) partial _ same row_term_read

-- the term of a factor that the code skips
pub row_term_skipped : (factors other : List ℤ) (columns j k : ℕ) → SFits w128 (number_at factors k) → of_z w128 (number_at factors k) ≡ 0 → (partial next : ℤ) → partial ≡ sum_below k (λ k. number_at factors k *ℤ place columns other k j) → next ≡ partial → next ≡ sum_below (k + 1) (λ k. number_at factors k *ℤ place columns other k j)
row_term_skipped factors other columns j k fits bits partial next same is =
    is ∙ nothing_added (number_at factors k) partial (place columns other k j) fits bits
    ∙ total_more k (λ k. number_at factors k *ℤ place columns other k j) partial _ same refl

-- terms whose factors are all 0 add nothing
pub zero_terms : (factors other : List ℤ) (columns j from n : ℕ) → ((k : ℕ) → k < n → number_at factors (from + k) ≡ pos 0) → sum_below (from + n) (λ k. number_at factors k *ℤ place columns other k j) ≡ sum_below from (λ k. number_at factors k *ℤ place columns other k j)
zero_terms factors other columns j from zero none =
    let same : from + 0 ≡ from = omega arith in
    ap (λ m. sum_below m (λ k. number_at factors k *ℤ place columns other k j)) same
zero_terms factors other columns j from (suc n) none =
    let next : from + suc n ≡ suc (from + n) = omega arith in
    rw (next, none n (omega arith), zero-*ℤ (place columns other (from + n) j), +ℤ_idr (sum_below (from + n) (λ k. number_at factors k *ℤ place columns other k j)))
    (zero_terms factors other columns j from n (λ k low. none k (omega arith)))

-- ---- The rank-one update: what is added to row i in column j, where the code reads and writes row i as a slice
module _ (out other : List ℤ) (columns i j n : ℕ) (factor before : ℤ) (long : n ≡ columns) (fits : SFits w128 factor) (within : j < columns) (same : place columns out i j ≡ before) where
  pub outer_term_fits : unsigned_abs before + unsigned_abs (factor *ℤ number_at other j) ≤ 2 ^ 126 → unsigned_abs (number_at (take n (drop (i * columns) out)) j) + unsigned_abs (to_z w128 (of_z w128 factor) *ℤ number_at other j) ≤ 2 ^ 126
  outer_term_fits h = rw (number_at-row out i columns n j long within, same, to_z-of_z w128 factor fits) h

  pub outer_term_added : number_at (take n (drop (i * columns) out)) j +ℤ to_z w128 (of_z w128 factor) *ℤ number_at other j ≡ before +ℤ factor *ℤ number_at other j
  outer_term_added = rw (number_at-row out i columns n j long within, same, to_z-of_z w128 factor fits) refl

-- ---- The product: the terms in row i and column j, where the code reads row i of the first block as a slice
module _ (first second : List ℤ) (side i j n count width : ℕ) (long : n ≡ side) (many : count ≡ side) (wide : width ≡ side) where
  same_terms : (k : ℕ) → k < side → number_at (take n (drop (i * side) first)) k *ℤ place width second k j ≡ place side first i k *ℤ place side second k j
  same_terms k h = ap₂ ◌*ℤ◌ (number_at-row first i side n k long h) (ap (λ w. place w second k j) wide)

  pub product_row_is : sum_below count (λ k. number_at (take n (drop (i * side) first)) k *ℤ place width second k j) ≡ sum_below side (λ k. place side first i k *ℤ place side second k j)
  product_row_is = rw many (sum_below_ext side _ _ same_terms)

  pub product_row_fits : TermsFit side (λ k. place side first i k *ℤ place side second k j) → TermsFit count (λ k. number_at (take n (drop (i * side) first)) k *ℤ place width second k j)
  product_row_fits h = rw (many, magnitudes_below_ext side _ _ same_terms) h

-- ---- The product of a transpose: the term k in row i and column j, where the code reads row k of both blocks as slices
module _ (out first second : List ℤ) (side k i j n width : ℕ) (long : n ≡ side) (wide : width ≡ side) (row : i < side) (column : j < side) (same : place side out i j ≡ sum_below k (λ k. place side first k i *ℤ place side second k j)) where
  pub transposed_term_fits : k < side → TermsFit side (λ k. place side first k i *ℤ place side second k j) → unsigned_abs (place width out i j) + unsigned_abs (number_at (take n (drop (k * side) first)) i *ℤ number_at (take n (drop (k * side) second)) j) ≤ 2 ^ 126
  transposed_term_fits h fit =
      rw (wide, number_at-row first k side n i long row, number_at-row second k side n j long column)
      (next_term_fits side k (λ k. place side first k i *ℤ place side second k j) _ same h fit)

  pub transposed_term_added : (next : List ℤ) → place width next i j ≡ place width out i j +ℤ number_at (take n (drop (k * side) first)) i *ℤ number_at (take n (drop (k * side) second)) j → place side next i j ≡ sum_below (k + 1) (λ k. place side first k i *ℤ place side second k j)
  transposed_term_added next is =
      rw (wide, number_at-row first k side n i long row, number_at-row second k side n j long column) at is
      ∙ total_more k (λ k. place side first k i *ℤ place side second k j) _ _ same refl
