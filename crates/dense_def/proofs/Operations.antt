-- The laws of the textbook operations that speak of whole matrices.
use Rattle.std.proofs.Common.{◌≡◌, ℕ, ◌<◌, ◌+ℤ◌, ◌*ℤ◌, refl, sym, ap, ap₂, ◌∙◌, subst}
use Rattle.std.proofs.Math.IntN.{*ℤ_comm}
use Rattle.dense_def.specs.Matrix.{Matrix, height, entry, IsMatrix, sum_below, plus, times, transposed, tmul_of, mult_of, IsSymmetric}
use Rattle.dense_def.specs.Laws.{TransposeTwice, TransposeOfProduct, TransposedFactorFirst, TransposedFactorSecond, SymmetricSum, SquareIsSymmetric, RankIsSymmetric}
use Rattle.dense_def.proofs.Sums.{sum_below_ext}
use Rattle.dense_def.proofs.Entries.{height-made, entry_made, IsMatrix-made, made_same, made_entry}

-- the number in row i and column j of a transpose
pub entry-transposed : (a : Matrix) (i j : ℕ) → i < a.columns → j < height a → entry (transposed a) i j ≡ entry a j i
entry-transposed a i j h k = entry_made a.columns (height a) (λ p q. entry a q p) i j h k

-- the height of a transpose
pub height-transposed : (a : Matrix) → height (transposed a) ≡ a.columns
height-transposed a = height-made a.columns (height a) (λ p q. entry a q p)

-- the number in row i and column j of a sum
pub entry-plus : (a b : Matrix) (i j : ℕ) → i < height a → j < a.columns → entry (plus a b) i j ≡ entry a i j +ℤ entry b i j
entry-plus a b i j h k = entry_made (height a) a.columns (λ p q. entry a p q +ℤ entry b p q) i j h k

-- the height of a sum
pub height-plus : (a b : Matrix) → height (plus a b) ≡ height a
height-plus a b = height-made (height a) a.columns (λ p q. entry a p q +ℤ entry b p q)

-- the number in row i and column j of a product
pub entry-times : (a b : Matrix) (i j : ℕ) → i < height a → j < b.columns → entry (times a b) i j ≡ sum_below a.columns (λ k. entry a i k *ℤ entry b k j)
entry-times a b i j h k =
    entry_made (height a) b.columns (λ p q. sum_below a.columns (λ t. entry a p t *ℤ entry b t q)) i j h k

-- the height of a product
pub height-times : (a b : Matrix) → height (times a b) ≡ height a
height-times a b = height-made (height a) b.columns (λ p q. sum_below a.columns (λ t. entry a p t *ℤ entry b t q))

-- the number in row i and column j of a product with a transpose
pub entry-mult_of : (a b : Matrix) (i j : ℕ) → i < height a → j < height b → entry (mult_of a b) i j ≡ sum_below a.columns (λ k. entry a i k *ℤ entry b j k)
entry-mult_of a b i j h k =
    entry_made (height a) (height b) (λ p q. sum_below a.columns (λ t. entry a p t *ℤ entry b q t)) i j h k

-- the height of a product with a transpose
pub height-mult_of : (a b : Matrix) → height (mult_of a b) ≡ height a
height-mult_of a b = height-made (height a) (height b) (λ p q. sum_below a.columns (λ t. entry a p t *ℤ entry b q t))

-- the number in row i and column j of a product of a transpose
pub entry-tmul_of : (a b : Matrix) (i j : ℕ) → i < a.columns → j < b.columns → entry (tmul_of a b) i j ≡ sum_below (height a) (λ k. entry a k i *ℤ entry b k j)
entry-tmul_of a b i j h k =
    entry_made a.columns b.columns (λ p q. sum_below (height a) (λ t. entry a t p *ℤ entry b t q)) i j h k

-- the height of a product of a transpose
pub height-tmul_of : (a b : Matrix) → height (tmul_of a b) ≡ a.columns
height-tmul_of a b = height-made a.columns b.columns (λ p q. sum_below (height a) (λ t. entry a t p *ℤ entry b t q))

-- the transpose of a matrix, transposed, is the matrix
pub transposed_twice : TransposeTwice
transposed_twice a whole =
    made_same _ _ _ _ (λ i j. entry (transposed a) j i) (λ i j. entry a i j) refl (height-transposed a)
    (λ i j h k. entry-transposed a j i (rw height-transposed at k) h)
    ∙ sym (made_entry a whole)

-- the transpose of a product is the product of the transposes in the other order
pub transposed-times : TransposeOfProduct
transposed-times a b fit =
    made_same _ _ _ _ (λ i j. entry (times a b) j i) (λ i j. sum_below (height b) (λ k. entry (transposed b) i k *ℤ entry (transposed a) k j)) (sym (height-transposed b)) (height-times a b)
    (λ i j h k.
    let l : j < height a = rw height-times at k in
    entry-times a b j i l h
    ∙ ap (λ n. sum_below n (λ t. entry a j t *ℤ entry b t i)) fit
    ∙ sum_below_ext (height b) (λ t. entry a j t *ℤ entry b t i) (λ t. entry (transposed b) i t *ℤ entry (transposed a) t j)
    (λ t below.
    *ℤ_comm (entry a j t) (entry b t i)
    ∙ ap₂ ◌*ℤ◌ (sym (entry-transposed b i t h below)) (sym (entry-transposed a t j (rw fit below) l))))

-- the sums of `tmul_of` are the product with the first factor transposed
pub tmul_is : TransposedFactorFirst
tmul_is a b =
    made_same _ _ _ _ (λ i j. sum_below (height a) (λ k. entry a k i *ℤ entry b k j)) (λ i j. sum_below (height a) (λ k. entry (transposed a) i k *ℤ entry b k j)) (sym (height-transposed a)) refl
    (λ i j h k. sum_below_ext (height a) _ _ (λ t l. ap (λ x. x *ℤ entry b t j) (sym (entry-transposed a i t h l))))

-- the sums of `mult_of` are the product with the second factor transposed
pub mult_is : TransposedFactorSecond
mult_is a b fit =
    made_same _ _ _ _ (λ i j. sum_below a.columns (λ k. entry a i k *ℤ entry b j k)) (λ i j. sum_below a.columns (λ k. entry a i k *ℤ entry (transposed b) k j)) refl refl
    (λ i j h k. sum_below_ext a.columns _ _ (λ t l. ap (λ x. entry a i t *ℤ x) (sym (entry-transposed b t j (rw (← fit) l) k))))

-- the transpose of a sum is the sum of the transposes
pub transposed-plus : (a b : Matrix) → height a ≡ height b → a.columns ≡ b.columns → transposed (plus a b) ≡ plus (transposed a) (transposed b)
transposed-plus a b tall wide =
    made_same _ _ _ _ (λ i j. entry (plus a b) j i) (λ i j. entry (transposed a) i j +ℤ entry (transposed b) i j) (sym (height-transposed a)) (height-plus a b)
    (λ i j h k.
    let l : j < height a = rw height-plus at k in
    entry-plus a b j i l h
    ∙ ap₂ ◌+ℤ◌ (sym (entry-transposed a i j h l)) (sym (entry-transposed b i j (rw (← wide) h) (rw (← tall) l))))

-- the transpose of a product with a transpose
pub transposed-mult_of : (a b : Matrix) → a.columns ≡ b.columns → transposed (mult_of a b) ≡ mult_of b a
transposed-mult_of a b wide =
    made_same _ _ _ _ (λ i j. entry (mult_of a b) j i) (λ i j. sum_below b.columns (λ k. entry b i k *ℤ entry a j k)) refl (height-mult_of a b)
    (λ i j h k.
    entry-mult_of a b j i (rw height-mult_of at k) h
    ∙ ap (λ n. sum_below n (λ t. entry a j t *ℤ entry b i t)) wide
    ∙ sum_below_ext b.columns _ _ (λ t l. *ℤ_comm (entry a j t) (entry b i t)))

-- the transpose of a product of a transpose
pub transposed-tmul_of : (a b : Matrix) → height a ≡ height b → transposed (tmul_of a b) ≡ tmul_of b a
transposed-tmul_of a b tall =
    made_same _ _ _ _ (λ i j. entry (tmul_of a b) j i) (λ i j. sum_below (height b) (λ k. entry b k i *ℤ entry a k j)) refl (height-tmul_of a b)
    (λ i j h k.
    entry-tmul_of a b j i (rw height-tmul_of at k) h
    ∙ ap (λ n. sum_below n (λ t. entry a t j *ℤ entry b t i)) tall
    ∙ sum_below_ext (height b) _ _ (λ t l. *ℤ_comm (entry a t j) (entry b t i)))

-- a symmetric matrix has as many columns as rows
pub IsSymmetric-square : (a : Matrix) → IsSymmetric a → a.columns ≡ height a
IsSymmetric-square a symmetric = sym (height-transposed a) ∙ ap height symmetric

-- and is a matrix
pub IsSymmetric-whole : (a : Matrix) → IsSymmetric a → IsMatrix a
IsSymmetric-whole a symmetric = subst IsMatrix symmetric (IsMatrix-made a.columns (height a) (λ i j. entry a j i))

-- the number below the diagonal is the one above it
pub IsSymmetric-entry : (a : Matrix) (i j : ℕ) → IsSymmetric a → i < height a → j < height a → entry a i j ≡ entry a j i
IsSymmetric-entry a i j symmetric h k =
    ap (λ m. entry m i j) (sym symmetric) ∙ entry-transposed a i j (rw (IsSymmetric-square a symmetric) h) k

-- the sum of symmetric matrices of one size is symmetric
pub IsSymmetric-plus : SymmetricSum
IsSymmetric-plus a b sa sb tall =
    transposed-plus a b tall (IsSymmetric-square a sa ∙ tall ∙ sym (IsSymmetric-square b sb)) ∙ ap₂ plus sa sb

-- the square of a symmetric matrix is symmetric
pub IsSymmetric-times : SquareIsSymmetric
IsSymmetric-times a sa = transposed-times a a (IsSymmetric-square a sa) ∙ ap₂ times sa sa

-- the product of a matrix with its own transpose is symmetric, in either order
pub IsSymmetric-mult_of : (a : Matrix) → IsSymmetric (mult_of a a)
IsSymmetric-mult_of a = transposed-mult_of a a refl

-- and the transpose first
pub IsSymmetric-tmul_of : (a : Matrix) → IsSymmetric (tmul_of a a)
IsSymmetric-tmul_of a = transposed-tmul_of a a refl

-- the product of a matrix with its own transpose is symmetric, in either order
pub IsSymmetric-rank : RankIsSymmetric
IsSymmetric-rank a = (IsSymmetric-mult_of a, IsSymmetric-tmul_of a)
