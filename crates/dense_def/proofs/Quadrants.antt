-- The textbook operations on matrices joined of four quadrants.
use Rattle.std.proofs.Common.{◌≡◌, ◌+◌, ◌+ℤ◌, ◌*ℤ◌, refl, sym, ap, ap₂, ◌∙◌, arith}
use Rattle.dense_def.specs.Matrix.{Matrix, height, entry, sum_below, plus, times, transposed, tmul_of, mult_of, joined, QuadrantsFit, IsSymmetric}
use Rattle.dense_def.specs.Laws.{SumOfJoins, TransposeOfJoin, TraceOfJoin, ProductOfJoins, TmulOfJoins, MultOfJoins, SymmetricJoin, SymmetricSquare, RankByRows, RankByColumns}
use Rattle.dense_def.proofs.Sums.{sum_below_ext, sum_below_split}
use Rattle.dense_def.proofs.Entries.{IsMatrix-made}
use Rattle.dense_def.proofs.Operations.{entry-plus, height-times, height-plus, height-transposed, entry-transposed, tmul_is, mult_is, transposed-times, transposed-plus, transposed-mult_of, transposed-tmul_of, transposed_twice, height-mult_of, height-tmul_of, IsSymmetric-square}
use Rattle.dense_def.proofs.Blocks.{product_split, two_products, height-joined, entry-joined_upper_left, entry-joined_upper_right, entry-joined_lower_left, entry-joined_lower_right, upper_left, upper_right, lower_left, lower_right, joined_is, joined_same}

-- a sum on quadrants
pub plus-joined : SumOfJoins
plus-joined a b c d e f g h fit ta tc ca cb =
    let x = joined a b c d in
    let y = joined e f g h in
    let rows : height x ≡ height a + height c = height-joined a b c d in
    joined_is (plus a e) (plus b f) (plus c g) (plus d h) (height a) (height c) a.columns b.columns (height-plus a e) (height-plus c g) refl refl
    (plus x y) (IsMatrix-made (height x) x.columns (λ i j. entry x i j +ℤ entry y i j)) (height-plus x y ∙ rows) refl
    (λ i j l k. entry-plus x y i j (rw rows (omega arith)) (omega arith)
    ∙ ap₂ ◌+ℤ◌ (entry-joined_upper_left a b c d i j l k)
    (upper_left e f g h (height a) (height c) a.columns b.columns (sym ta) (sym tc) (sym ca) (sym cb) i j l k)
    ∙ sym (entry-plus a e i j l k))
    (λ i j l k. entry-plus x y i (a.columns + j) (rw rows (omega arith)) (omega arith)
    ∙ ap₂ ◌+ℤ◌ (entry-joined_upper_right a b c d i j l k)
    (upper_right e f g h (height a) (height c) a.columns b.columns (sym ta) (sym tc) (sym ca) (sym cb) i j l k)
    ∙ sym (entry-plus b f i j (rw fit.upper at l) k))
    (λ i j l k. entry-plus x y (height a + i) j (rw rows (omega arith)) (omega arith)
    ∙ ap₂ ◌+ℤ◌ (entry-joined_lower_left a b c d i j l k)
    (lower_left e f g h (height a) (height c) a.columns b.columns (sym ta) (sym tc) (sym ca) (sym cb) i j l k)
    ∙ sym (entry-plus c g i j l (rw fit.left at k)))
    (λ i j l k. entry-plus x y (height a + i) (a.columns + j) (rw rows (omega arith)) (omega arith)
    ∙ ap₂ ◌+ℤ◌ (entry-joined_lower_right a b c d i j l k)
    (lower_right e f g h (height a) (height c) a.columns b.columns (sym ta) (sym tc) (sym ca) (sym cb) i j l k)
    ∙ sym (entry-plus d h i j (rw fit.lower at l) (rw fit.right at k)))

-- a transpose on quadrants
pub transposed-joined : TransposeOfJoin
transposed-joined a b c d fit =
    let x = joined a b c d in
    let rows : height x ≡ height a + height c = height-joined a b c d in
    joined_is (transposed a) (transposed c) (transposed b) (transposed d) a.columns b.columns (height a) (height c) (height-transposed a) (height-transposed b) refl refl
    (transposed x) (IsMatrix-made x.columns (height x) (λ i j. entry x j i)) (height-transposed x) rows
    (λ i j l k. entry-transposed x i j (omega arith) (rw rows (omega arith))
    ∙ entry-joined_upper_left a b c d j i k l
    ∙ sym (entry-transposed a i j l k))
    (λ i j l k. entry-transposed x i (height a + j) (omega arith) (rw rows (omega arith))
    ∙ entry-joined_lower_left a b c d j i k l
    ∙ sym (entry-transposed c i j (rw fit.left at l) k))
    (λ i j l k. entry-transposed x (a.columns + i) j (omega arith) (rw rows (omega arith))
    ∙ entry-joined_upper_right a b c d j i k l
    ∙ sym (entry-transposed b i j l (rw fit.upper at k)))
    (λ i j l k. entry-transposed x (a.columns + i) (height a + j) (omega arith) (rw rows (omega arith))
    ∙ entry-joined_lower_right a b c d j i k l
    ∙ sym (entry-transposed d i j (rw fit.right at l) (rw fit.lower at k)))

-- a trace on quadrants
pub trace-joined : TraceOfJoin
trace-joined a b c d square_a square_d fit =
    let x = joined a b c d in
    ap (λ n. sum_below n (λ i. entry x i i)) (height-joined a b c d)
    ∙ sum_below_split (height a) (height c) (λ i. entry x i i)
    ∙ ap₂ ◌+ℤ◌
    (sum_below_ext (height a) (λ i. entry x i i) (λ i. entry a i i) (λ i l. entry-joined_upper_left a b c d i i l (omega arith)))
    (ap (λ n. sum_below n (λ i. entry x (height a + i) (height a + i))) fit.lower
    ∙ sum_below_ext (height d) (λ i. entry x (height a + i) (height a + i)) (λ i. entry d i i)
    (λ i l. lower_right a b c d (height a) (height d) (height a) (height d) refl fit.lower (sym square_a) (fit.right ∙ sym square_d) i i l l))

-- the product on quadrants: each place of it is a sum over the near part of the inner range and a sum over the far part
pub times-joined : ProductOfJoins
times-joined a b c d e f g h fit fit' near far =
    let x = joined a b c d in
    let y = joined e f g h in
    let rows : height x ≡ height a + height c = height-joined a b c d in
    joined_is (plus (times a e) (times b g)) (plus (times a f) (times b h)) (plus (times c e) (times d g)) (plus (times c f) (times d h))
    (height a) (height c) e.columns f.columns
    (height-plus (times a e) (times b g) ∙ height-times a e) (height-plus (times c e) (times d g) ∙ height-times c e) refl refl
    (times x y) (IsMatrix-made (height x) y.columns (λ i j. sum_below x.columns (λ k. entry x i k *ℤ entry y k j))) (height-times x y ∙ rows) refl
    (λ i j l k. product_split x y i j a.columns b.columns (rw rows (omega arith)) (omega arith) refl
    ∙ ap₂ ◌+ℤ◌
    (sum_below_ext a.columns _ _ (λ t m. ap₂ ◌*ℤ◌ (entry-joined_upper_left a b c d i t l m) (upper_left e f g h a.columns b.columns e.columns f.columns (sym near) (sym far) refl refl t j m k)))
    (sum_below_ext b.columns _ _ (λ t m. ap₂ ◌*ℤ◌ (entry-joined_upper_right a b c d i t l m) (lower_left e f g h a.columns b.columns e.columns f.columns (sym near) (sym far) refl refl t j m k)))
    ∙ sym (two_products a e b g i j l (rw fit.upper at l) k (rw fit'.left at k)))
    (λ i j l k. product_split x y i (e.columns + j) a.columns b.columns (rw rows (omega arith)) (omega arith) refl
    ∙ ap₂ ◌+ℤ◌
    (sum_below_ext a.columns _ _ (λ t m. ap₂ ◌*ℤ◌ (entry-joined_upper_left a b c d i t l m) (upper_right e f g h a.columns b.columns e.columns f.columns (sym near) (sym far) refl refl t j m k)))
    (sum_below_ext b.columns _ _ (λ t m. ap₂ ◌*ℤ◌ (entry-joined_upper_right a b c d i t l m) (lower_right e f g h a.columns b.columns e.columns f.columns (sym near) (sym far) refl refl t j m k)))
    ∙ sym (two_products a f b h i j l (rw fit.upper at l) k (rw fit'.right at k)))
    (λ i j l k. product_split x y (height a + i) j a.columns b.columns (rw rows (omega arith)) (omega arith) refl
    ∙ ap₂ ◌+ℤ◌
    (sum_below_ext a.columns _ _ (λ t m. ap₂ ◌*ℤ◌ (entry-joined_lower_left a b c d i t l m) (upper_left e f g h a.columns b.columns e.columns f.columns (sym near) (sym far) refl refl t j m k)))
    (sum_below_ext b.columns _ _ (λ t m. ap₂ ◌*ℤ◌ (entry-joined_lower_right a b c d i t l m) (lower_left e f g h a.columns b.columns e.columns f.columns (sym near) (sym far) refl refl t j m k)))
    ∙ ap₂ (λ m n. sum_below m (λ t. entry c i t *ℤ entry e t j) +ℤ sum_below n (λ t. entry d i t *ℤ entry g t j)) fit.left fit.right
    ∙ sym (two_products c e d g i j l (rw fit.lower at l) k (rw fit'.left at k)))
    (λ i j l k. product_split x y (height a + i) (e.columns + j) a.columns b.columns (rw rows (omega arith)) (omega arith) refl
    ∙ ap₂ ◌+ℤ◌
    (sum_below_ext a.columns _ _ (λ t m. ap₂ ◌*ℤ◌ (entry-joined_lower_left a b c d i t l m) (upper_right e f g h a.columns b.columns e.columns f.columns (sym near) (sym far) refl refl t j m k)))
    (sum_below_ext b.columns _ _ (λ t m. ap₂ ◌*ℤ◌ (entry-joined_lower_right a b c d i t l m) (lower_right e f g h a.columns b.columns e.columns f.columns (sym near) (sym far) refl refl t j m k)))
    ∙ ap₂ (λ m n. sum_below m (λ t. entry c i t *ℤ entry f t j) +ℤ sum_below n (λ t. entry d i t *ℤ entry h t j)) fit.left fit.right
    ∙ sym (two_products c f d h i j l (rw fit.lower at l) k (rw fit'.right at k)))

-- the transposes of four quadrants are the quadrants of the transpose
pub QuadrantsFit-transposed : (a b c d : Matrix) → QuadrantsFit a b c d → QuadrantsFit (transposed a) (transposed c) (transposed b) (transposed d)
QuadrantsFit-transposed a b c d fit =
    record {
      upper = height-transposed a ∙ fit.left ∙ sym (height-transposed c);
      lower = height-transposed b ∙ fit.right ∙ sym (height-transposed d);
      left = fit.upper;
      right = fit.lower;
    }

-- the product with the first factor transposed, on quadrants
pub tmul_of-joined : TmulOfJoins
tmul_of-joined a b c d e f g h fit fit' near far =
    let x = joined a b c d in
    let y = joined e f g h in
    tmul_is x y
    ∙ ap (λ m. times m y) (transposed-joined a b c d fit)
    ∙ times-joined (transposed a) (transposed c) (transposed b) (transposed d) e f g h (QuadrantsFit-transposed a b c d fit) fit' near far
    ∙ sym (joined_same (plus (tmul_of a e) (tmul_of c g)) (plus (tmul_of a f) (tmul_of c h)) (plus (tmul_of b e) (tmul_of d g)) (plus (tmul_of b f) (tmul_of d h)) _ _ _ _
    (ap₂ plus (tmul_is a e) (tmul_is c g)) (ap₂ plus (tmul_is a f) (tmul_is c h))
    (ap₂ plus (tmul_is b e) (tmul_is d g)) (ap₂ plus (tmul_is b f) (tmul_is d h)))

-- the product with the second factor transposed, on quadrants
pub mult_of-joined : MultOfJoins
mult_of-joined a b c d e f g h fit fit' near far =
    let x = joined a b c d in
    let y = joined e f g h in
    mult_is x y (ap₂ ◌+◌ near far)
    ∙ ap (λ m. times x m) (transposed-joined e f g h fit')
    ∙ times-joined a b c d (transposed e) (transposed g) (transposed f) (transposed h) fit (QuadrantsFit-transposed e f g h fit') (near ∙ sym (height-transposed e)) (far ∙ sym (height-transposed f))
    ∙ sym (joined_same (plus (mult_of a e) (mult_of b f)) (plus (mult_of a g) (mult_of b h)) (plus (mult_of c e) (mult_of d f)) (plus (mult_of c g) (mult_of d h)) _ _ _ _
    (ap₂ plus (mult_is a e near) (mult_is b f far)) (ap₂ plus (mult_is a g (near ∙ fit'.left)) (mult_is b h (far ∙ fit'.right)))
    (ap₂ plus (mult_is c e (sym fit.left ∙ near)) (mult_is d f (sym fit.right ∙ far))) (ap₂ plus (mult_is c g (sym fit.left ∙ near ∙ fit'.left)) (mult_is d h (sym fit.right ∙ far ∙ fit'.right))))

-- the quadrants of a symmetric matrix fit
pub QuadrantsFit-symmetric : (a b c : Matrix) → IsSymmetric a → IsSymmetric c → height a ≡ height b → b.columns ≡ height c → QuadrantsFit a b (transposed b) c
QuadrantsFit-symmetric a b c sa sc tall wide =
    record {
      upper = tall;
      lower = height-transposed b ∙ wide;
      left = IsSymmetric-square a sa ∙ tall;
      right = wide ∙ sym (IsSymmetric-square c sc);
    }

-- a matrix with symmetric quadrants on the diagonal, and a quadrant beside them with its transpose, is symmetric
pub IsSymmetric-joined : SymmetricJoin
IsSymmetric-joined a b c whole sa sc tall wide =
    transposed-joined a b (transposed b) c (QuadrantsFit-symmetric a b c sa sc tall wide)
    ∙ joined_same (transposed a) (transposed (transposed b)) (transposed b) (transposed c) a b (transposed b) c sa (transposed_twice b whole) refl sc

-- the square of a symmetric matrix on quadrants: [A B; Bᵀ C]² = [A² + B Bᵀ, A B + B C; (A B + B C)ᵀ, Bᵀ B + C²]
pub symmetric_square : SymmetricSquare
symmetric_square a b c sa sc tall wide =
    let fit = QuadrantsFit-symmetric a b c sa sc tall wide in
    let square_a = IsSymmetric-square a sa in
    let square_c = IsSymmetric-square c sc in
    times-joined a b (transposed b) c a b (transposed b) c fit fit square_a (sym (height-transposed b))
    ∙ joined_same (plus (times a a) (times b (transposed b))) (plus (times a b) (times b c)) (plus (times (transposed b) a) (times c (transposed b))) (plus (times (transposed b) b) (times c c))
    _ _ _ _
    (ap (λ m. plus (times a a) m) (sym (mult_is b b refl))) refl
    (sym (transposed-plus (times a b) (times b c) (height-times a b ∙ tall ∙ sym (height-times b c)) (wide ∙ sym square_c)
    ∙ ap₂ plus (transposed-times a b (square_a ∙ tall) ∙ ap (λ m. times (transposed b) m) sa) (transposed-times b c wide ∙ ap (λ m. times m (transposed b)) sc)))
    (ap (λ m. plus m (times c c)) (sym (tmul_is b b)))

-- a matrix times its transpose, on quadrants: [A Aᵀ + B Bᵀ, A Cᵀ + B Dᵀ; (A Cᵀ + B Dᵀ)ᵀ, C Cᵀ + D Dᵀ]
pub rank_by_rows : RankByRows
rank_by_rows a b c d fit =
    mult_of-joined a b c d a b c d fit fit refl refl
    ∙ ap (λ m. joined (plus (mult_of a a) (mult_of b b)) (plus (mult_of a c) (mult_of b d)) m (plus (mult_of c c) (mult_of d d)))
    (sym (transposed-plus (mult_of a c) (mult_of b d) (height-mult_of a c ∙ fit.upper ∙ sym (height-mult_of b d)) fit.lower
    ∙ ap₂ plus (transposed-mult_of a c fit.left) (transposed-mult_of b d fit.right)))

-- the transpose of a matrix times it, on quadrants: [Aᵀ A + Cᵀ C, Aᵀ B + Cᵀ D; (Aᵀ B + Cᵀ D)ᵀ, Bᵀ B + Dᵀ D]
pub rank_by_columns : RankByColumns
rank_by_columns a b c d fit =
    tmul_of-joined a b c d a b c d fit fit refl refl
    ∙ ap (λ m. joined (plus (tmul_of a a) (tmul_of c c)) (plus (tmul_of a b) (tmul_of c d)) m (plus (tmul_of b b) (tmul_of d d)))
    (sym (transposed-plus (tmul_of a b) (tmul_of c d) (height-tmul_of a b ∙ fit.left ∙ sym (height-tmul_of c d)) fit.right
    ∙ ap₂ plus (transposed-tmul_of a b fit.upper) (transposed-tmul_of c d fit.lower)))
