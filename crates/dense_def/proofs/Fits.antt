-- Terms that fit on a whole matrix fit on its quadrants.
use Rattle.std.proofs.Common.{◌≡◌, ℕ, ◌+◌, ◌^◌, ◌<◌, ◌≤◌, ℤ, ◌*ℤ◌, refl, sym, ap, ap₂, subst, subst₂, ◌∙◌, arith}
use Rattle.dense_def.specs.Matrix.{Matrix, height, entry, magnitudes_below, transposed, joined, TermsFit, PairFits, TmulPairFits, MultPairFits, SumFits, ProductFits}
use Rattle.dense_def.specs.Laws.{SumFitsOnQuadrants, ProductFitsOnQuadrants, TraceFitsOnQuadrants, TmulFitsIsProductFits, MultFitsIsProductFits, TmulFitsOnQuadrants, MultFitsOnQuadrants}
use Rattle.dense_def.proofs.Sums.{magnitudes_bound, magnitudes_below_split, magnitudes_below_ext}
use Rattle.dense_def.proofs.Operations.{entry-times, height-times, entry-transposed, height-transposed, tmul_is, mult_is}
use Rattle.dense_def.proofs.Quadrants.{transposed-joined, QuadrantsFit-transposed}
use Rattle.dense_def.proofs.Blocks.{height-joined, entry-joined_upper_left, entry-joined_upper_right, entry-joined_lower_left, entry-joined_lower_right, upper_left, upper_right, lower_left, lower_right}

-- two products whose terms fit together at each place
pair_fits : (a b c d : Matrix) → height a ≡ height c → b.columns ≡ d.columns → ((i j : ℕ) → i < height a → j < b.columns → magnitudes_below a.columns (λ k. entry a i k *ℤ entry b k j) + magnitudes_below c.columns (λ k. entry c i k *ℤ entry d k j) ≤ 2 ^ 126) → PairFits a b c d
pair_fits a b c d tall wide each =
    record {
      first = λ i j h k. omega (arith, each i j h k);
      second = λ i j h k. omega (arith, each i j (rw tall h) (rw wide k));
      together = λ i j h k.
          let l : i < height a = rw height-times at h in
          let m : i < height c = rw tall at l in
          let n : j < d.columns = rw wide at k in
          rw (entry-times a b i j l k, entry-times c d i j m n)
          (omega (arith, each i j l k, magnitudes_bound a.columns (λ t. entry a i t *ℤ entry b t j), magnitudes_bound c.columns (λ t. entry c i t *ℤ entry d t j)));
    }

-- terms that fit over a whole inner range fit over its two parts together
split_fits : (m n m' n' : ℕ) (p q r : ℕ → ℤ) → m ≡ m' → n ≡ n' → ((t : ℕ) → t < m → p t ≡ q t) → ((t : ℕ) → t < n → p (m + t) ≡ r t) → TermsFit (m + n) p → magnitudes_below m' q + magnitudes_below n' r ≤ 2 ^ 126
split_fits m n m' n' p q r em en same same' fit =
    let sums : magnitudes_below (m + n) p ≡ magnitudes_below m' q + magnitudes_below n' r =
    magnitudes_below_split m n p
    ∙ ap₂ ◌+◌ (magnitudes_below_ext m p q same) (magnitudes_below_ext n (λ t. p (m + t)) r same')
    ∙ ap₂ (λ u v. magnitudes_below u q + magnitudes_below v r) em en in
    rw (← sums) fit

-- a product whose terms fit is one whose pair of products and their sum fit at each quadrant
pub product_fits_on_quadrants : ProductFitsOnQuadrants
product_fits_on_quadrants a b c d e f g h fit fit' near far whole =
    let x = joined a b c d in
    let y = joined e f g h in
    let rows : height x ≡ height a + height c = height-joined a b c d in (
      pair_fits a e b g fit.upper fit'.left
          (λ i j l k. split_fits a.columns b.columns a.columns b.columns (λ t. entry x i t *ℤ entry y t j) (λ t. entry a i t *ℤ entry e t j) (λ t. entry b i t *ℤ entry g t j) refl refl
          (λ t m. ap₂ ◌*ℤ◌ (entry-joined_upper_left a b c d i t l m) (upper_left e f g h a.columns b.columns e.columns f.columns (sym near) (sym far) refl refl t j m k))
          (λ t m. ap₂ ◌*ℤ◌ (entry-joined_upper_right a b c d i t l m) (lower_left e f g h a.columns b.columns e.columns f.columns (sym near) (sym far) refl refl t j m k))
          (whole i j (rw rows (omega arith)) (omega arith))),
      pair_fits a f b h fit.upper fit'.right
          (λ i j l k. split_fits a.columns b.columns a.columns b.columns (λ t. entry x i t *ℤ entry y t (e.columns + j)) (λ t. entry a i t *ℤ entry f t j) (λ t. entry b i t *ℤ entry h t j) refl refl
          (λ t m. ap₂ ◌*ℤ◌ (entry-joined_upper_left a b c d i t l m) (upper_right e f g h a.columns b.columns e.columns f.columns (sym near) (sym far) refl refl t j m k))
          (λ t m. ap₂ ◌*ℤ◌ (entry-joined_upper_right a b c d i t l m) (lower_right e f g h a.columns b.columns e.columns f.columns (sym near) (sym far) refl refl t j m k))
          (whole i (e.columns + j) (rw rows (omega arith)) (omega arith))),
      pair_fits c e d g fit.lower fit'.left
          (λ i j l k. split_fits a.columns b.columns c.columns d.columns (λ t. entry x (height a + i) t *ℤ entry y t j) (λ t. entry c i t *ℤ entry e t j) (λ t. entry d i t *ℤ entry g t j) fit.left fit.right
          (λ t m. ap₂ ◌*ℤ◌ (entry-joined_lower_left a b c d i t l m) (upper_left e f g h a.columns b.columns e.columns f.columns (sym near) (sym far) refl refl t j m k))
          (λ t m. ap₂ ◌*ℤ◌ (entry-joined_lower_right a b c d i t l m) (lower_left e f g h a.columns b.columns e.columns f.columns (sym near) (sym far) refl refl t j m k))
          (whole (height a + i) j (rw rows (omega arith)) (omega arith))),
      pair_fits c f d h fit.lower fit'.right
          (λ i j l k. split_fits a.columns b.columns c.columns d.columns (λ t. entry x (height a + i) t *ℤ entry y t (e.columns + j)) (λ t. entry c i t *ℤ entry f t j) (λ t. entry d i t *ℤ entry h t j) fit.left fit.right
          (λ t m. ap₂ ◌*ℤ◌ (entry-joined_lower_left a b c d i t l m) (upper_right e f g h a.columns b.columns e.columns f.columns (sym near) (sym far) refl refl t j m k))
          (λ t m. ap₂ ◌*ℤ◌ (entry-joined_lower_right a b c d i t l m) (lower_right e f g h a.columns b.columns e.columns f.columns (sym near) (sym far) refl refl t j m k))
          (whole (height a + i) (e.columns + j) (rw rows (omega arith)) (omega arith))),
    )

-- a sum whose terms fit is one whose terms fit on each quadrant
pub sum_fits_on_quadrants : SumFitsOnQuadrants
sum_fits_on_quadrants a b c d e f g h fit ta tc ca cb whole =
    let x = joined a b c d in
    let y = joined e f g h in
    let rows : height x ≡ height a + height c = height-joined a b c d in (
      λ i j l k.
          rw (← entry-joined_upper_left a b c d i j l k, ← upper_left e f g h (height a) (height c) a.columns b.columns (sym ta) (sym tc) (sym ca) (sym cb) i j l k)
          (whole i j (rw rows (omega arith)) (omega arith)),
      λ i j l k.
          let m : i < height a = rw fit.upper l in
          rw (← entry-joined_upper_right a b c d i j m k, ← upper_right e f g h (height a) (height c) a.columns b.columns (sym ta) (sym tc) (sym ca) (sym cb) i j m k)
          (whole i (a.columns + j) (rw rows (omega arith)) (omega arith)),
      λ i j l k.
          let n : j < a.columns = rw fit.left k in
          rw (← entry-joined_lower_left a b c d i j l n, ← lower_left e f g h (height a) (height c) a.columns b.columns (sym ta) (sym tc) (sym ca) (sym cb) i j l n)
          (whole (height a + i) j (rw rows (omega arith)) (omega arith)),
      λ i j l k.
          let m : i < height c = rw fit.lower l in
          let n : j < b.columns = rw fit.right k in
          rw (← entry-joined_lower_right a b c d i j m n, ← lower_right e f g h (height a) (height c) a.columns b.columns (sym ta) (sym tc) (sym ca) (sym cb) i j m n)
          (whole (height a + i) (a.columns + j) (rw rows (omega arith)) (omega arith)),
    )

-- a trace whose terms fit is one whose terms fit on both diagonal quadrants, and the two traces fit together
pub trace_fits_on_quadrants : TraceFitsOnQuadrants
trace_fits_on_quadrants a b c d square_a square_d fit whole =
    let x = joined a b c d in
    let parts : magnitudes_below (height a) (λ i. entry a i i) + magnitudes_below (height d) (λ i. entry d i i) ≤ 2 ^ 126 =
    split_fits (height a) (height c) (height a) (height d) (λ i. entry x i i) (λ i. entry a i i) (λ i. entry d i i) refl fit.lower
    (λ i l. entry-joined_upper_left a b c d i i l (rw (← square_a) l))
    (λ i l. lower_right a b c d (height a) (height d) (height a) (height d) refl fit.lower (sym square_a) (fit.right ∙ sym square_d) i i (rw (← fit.lower) l) (rw (← fit.lower) l))
    (subst (λ n. TermsFit n (λ i. entry x i i)) (height-joined a b c d) whole) in (
      omega arith,
      omega arith,
      omega (arith, magnitudes_bound (height a) (λ i. entry a i i), magnitudes_bound (height d) (λ i. entry d i i)),
    )

-- sums of absolute values whose terms are equal fit together
fits_same : (n : ℕ) (f g : ℕ → ℤ) → ((t : ℕ) → t < n → f t ≡ g t) → TermsFit n f → TermsFit n g
fits_same n f g same h = rw (← magnitudes_below_ext n f g same) h

-- the terms of `tmul_of` fit exactly where those of the product with the first factor transposed do
pub tmul_fits_is : TmulFitsIsProductFits
tmul_fits_is a b = (
  λ fit i j h k.
      let l : i < a.columns = rw height-transposed at h in
      fits_same (height a) (λ t. entry a t i *ℤ entry b t j) (λ t. entry (transposed a) i t *ℤ entry b t j)
      (λ t m. ap (λ z. z *ℤ entry b t j) (sym (entry-transposed a i t l m))) (fit i j l k),
  λ fit i j h k.
      fits_same (height a) (λ t. entry (transposed a) i t *ℤ entry b t j) (λ t. entry a t i *ℤ entry b t j)
      (λ t m. ap (λ z. z *ℤ entry b t j) (entry-transposed a i t h m)) (fit i j (rw height-transposed h) k),
)

-- the terms of `mult_of` fit exactly where those of the product with the second factor transposed do
pub mult_fits_is : MultFitsIsProductFits
mult_fits_is a b wide = (
  λ fit i j h k.
      fits_same a.columns (λ t. entry a i t *ℤ entry b j t) (λ t. entry a i t *ℤ entry (transposed b) t j)
      (λ t m. ap (λ z. entry a i t *ℤ z) (sym (entry-transposed b t j (rw (← wide) m) k))) (fit i j h k),
  λ fit i j h k.
      fits_same a.columns (λ t. entry a i t *ℤ entry (transposed b) t j) (λ t. entry a i t *ℤ entry b j t)
      (λ t m. ap (λ z. entry a i t *ℤ z) (entry-transposed b t j (rw (← wide) m) k)) (fit i j h k),
)

-- ---- Products with a transposed factor, on quadrants

-- a pair of products with transposed first factors
tmul_pair : (a b c d : Matrix) → PairFits (transposed a) b (transposed c) d → TmulPairFits a b c d
tmul_pair a b c d fit =
    record {
      first = (tmul_fits_is a b).1 fit.first;
      second = (tmul_fits_is c d).1 fit.second;
      together = subst₂ SumFits (sym (tmul_is a b)) (sym (tmul_is c d)) fit.together;
    }

-- a pair of products with transposed second factors
mult_pair : (a b c d : Matrix) → a.columns ≡ b.columns → c.columns ≡ d.columns → PairFits a (transposed b) c (transposed d) → MultPairFits a b c d
mult_pair a b c d near far fit =
    record {
      first = (mult_fits_is a b near).1 fit.first;
      second = (mult_fits_is c d far).1 fit.second;
      together = subst₂ SumFits (sym (mult_is a b near)) (sym (mult_is c d far)) fit.together;
    }

-- a product with the first factor transposed
pub tmul_fits_on_quadrants : TmulFitsOnQuadrants
tmul_fits_on_quadrants a b c d e f g h fit fit' near far whole =
    let four =
    product_fits_on_quadrants (transposed a) (transposed c) (transposed b) (transposed d) e f g h (QuadrantsFit-transposed a b c d fit) fit' near far
    (subst (λ m. ProductFits m (joined e f g h)) (transposed-joined a b c d fit) ((tmul_fits_is (joined a b c d) (joined e f g h)).0 whole)) in
    (tmul_pair a e c g four.0, tmul_pair a f c h four.1, tmul_pair b e d g four.2, tmul_pair b f d h four.3)

-- a product with the second factor transposed
pub mult_fits_on_quadrants : MultFitsOnQuadrants
mult_fits_on_quadrants a b c d e f g h fit fit' near far whole =
    let four =
    product_fits_on_quadrants a b c d (transposed e) (transposed g) (transposed f) (transposed h) fit (QuadrantsFit-transposed e f g h fit') (near ∙ sym (height-transposed e)) (far ∙ sym (height-transposed f))
    (subst (λ m. ProductFits (joined a b c d) m) (transposed-joined e f g h fit') ((mult_fits_is (joined a b c d) (joined e f g h) (ap₂ ◌+◌ near far)).0 whole)) in (
      mult_pair a e b f near far four.0,
      mult_pair a g b h (near ∙ fit'.left) (far ∙ fit'.right) four.1,
      mult_pair c e d f (sym fit.left ∙ near) (sym fit.right ∙ far) four.2,
      mult_pair c g d h (sym fit.left ∙ near ∙ fit'.left) (sym fit.right ∙ far ∙ fit'.right) four.3,
    )
