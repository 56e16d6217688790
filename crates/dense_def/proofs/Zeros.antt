-- The laws of zeros.
use Rattle.std.proofs.Common.{◌≡◌, ℕ, zero, suc, ◌+◌, get_or, ℤ, pos, ◌+ℤ◌, ◌*ℤ◌, refl, sym, ap, ◌∙◌}
use Rattle.std.proofs.Math.IntN.{+ℤ_idl, +ℤ_idr, zero-*ℤ, *ℤ-zero}
use Rattle.dense_def.specs.Matrix.{height, entry, tabulate, sum_below, zeros}
use Rattle.dense_def.specs.Laws.{ZeroIsZeros, SumWithZeros, ProductWithZeros, TransposeOfZeros, TraceOfZeros, JoinOfZeros}
use Rattle.dense_def.proofs.Sums.{sum_below_zero}
use Rattle.dense_def.proofs.Entries.{height-made, IsMatrix-made, made_same, made_entry}
use Rattle.dense_def.proofs.Blocks.{joined_is}

get_or-tabulate_same : (n i : ℕ) (x : ℤ) → get_or (tabulate n (λ _. x)) i x ≡ x
get_or-tabulate_same zero i x = refl
get_or-tabulate_same (suc n) zero x = refl
get_or-tabulate_same (suc n) (suc i) x = get_or-tabulate_same n i x

-- each number of the zeros is 0
pub entry-zeros : (rows columns i j : ℕ) → entry (zeros rows columns) i j ≡ pos 0
entry-zeros zero columns i j = refl
entry-zeros (suc rows) columns zero j = get_or-tabulate_same columns j (pos 0)
entry-zeros (suc rows) columns (suc i) j = entry-zeros rows columns i j

-- the height of the zeros
pub height-zeros : (rows columns : ℕ) → height (zeros rows columns) ≡ rows
height-zeros rows columns = height-made rows columns (λ _ _. pos 0)

-- a matrix of zeros is the matrix of zeros of its shape
pub zero_is_zeros : ZeroIsZeros
zero_is_zeros m whole none =
    made_entry m whole
    ∙ made_same (height m) m.columns (height m) m.columns (λ i j. entry m i j) (λ _ _. pos 0) refl refl none

-- zeros change no sum
pub plus-zeros : SumWithZeros
plus-zeros a rows columns whole tall wide =
    let z = zeros rows columns in (
      made_same (height a) a.columns (height a) a.columns (λ i j. entry a i j +ℤ entry z i j) (λ i j. entry a i j) refl refl
          (λ i j h k. ap (λ x. entry a i j +ℤ x) (entry-zeros rows columns i j) ∙ +ℤ_idr (entry a i j))
          ∙ sym (made_entry a whole),
      made_same (height z) columns (height a) a.columns (λ i j. entry z i j +ℤ entry a i j) (λ i j. entry a i j) (height-zeros rows columns ∙ sym tall) (sym wide)
          (λ i j h k. ap (λ x. x +ℤ entry a i j) (entry-zeros rows columns i j) ∙ +ℤ_idl (entry a i j))
          ∙ sym (made_entry a whole),
    )

-- a product with zeros is zeros
pub times-zeros : ProductWithZeros
times-zeros a rows columns =
    let z = zeros rows columns in (
      made_same (height a) columns (height a) columns (λ i j. sum_below a.columns (λ k. entry a i k *ℤ entry z k j)) (λ _ _. pos 0) refl refl
          (λ i j h k. sum_below_zero a.columns (λ t. entry a i t *ℤ entry z t j) (λ t l. ap (λ x. entry a i t *ℤ x) (entry-zeros rows columns t j) ∙ *ℤ-zero (entry a i t))),
      made_same (height z) a.columns rows a.columns (λ i j. sum_below columns (λ k. entry z i k *ℤ entry a k j)) (λ _ _. pos 0) (height-zeros rows columns) refl
          (λ i j h k. sum_below_zero columns (λ t. entry z i t *ℤ entry a t j) (λ t l. ap (λ x. x *ℤ entry a t j) (entry-zeros rows columns i t) ∙ zero-*ℤ (entry a t j))),
    )

-- the transpose of zeros is zeros
pub transposed-zeros : TransposeOfZeros
transposed-zeros rows columns =
    made_same columns (height (zeros rows columns)) columns rows (λ i j. entry (zeros rows columns) j i) (λ _ _. pos 0) refl (height-zeros rows columns)
    (λ i j h k. entry-zeros rows columns j i)

-- the trace of zeros is 0
pub trace-zeros : TraceOfZeros
trace-zeros rows columns =
    sum_below_zero (height (zeros rows columns)) (λ i. entry (zeros rows columns) i i) (λ i h. entry-zeros rows columns i i)

-- zeros joined are zeros
pub joined-zeros : JoinOfZeros
joined-zeros top bottom left right =
    let z = zeros (top + bottom) (left + right) in
    sym (joined_is (zeros top left) (zeros top right) (zeros bottom left) (zeros bottom right) top bottom left right
    (height-zeros top left) (height-zeros bottom left) refl refl
    z (IsMatrix-made (top + bottom) (left + right) (λ _ _. pos 0)) (height-zeros (top + bottom) (left + right)) refl
    (λ i j h k. entry-zeros (top + bottom) (left + right) i j ∙ sym (entry-zeros top left i j))
    (λ i j h k. entry-zeros (top + bottom) (left + right) i (left + j) ∙ sym (entry-zeros top right i j))
    (λ i j h k. entry-zeros (top + bottom) (left + right) (top + i) j ∙ sym (entry-zeros bottom left i j))
    (λ i j h k. entry-zeros (top + bottom) (left + right) (top + i) (left + j) ∙ sym (entry-zeros bottom right i j)))
