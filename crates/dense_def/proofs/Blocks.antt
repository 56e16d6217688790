-- The laws of blocks: a product at any split of its inner range, and matrices joined of four quadrants.
use Rattle.std.proofs.Common.{◌≡◌, ℕ, ◌+◌, ◌-◌, ◌<◌, cond, nat_lt, ℤ, ◌+ℤ◌, ◌*ℤ◌, refl, sym, ap, ap₂, ◌∙◌, arith, zero-add, lt-ltb, le-ltb}
use Rattle.dense_def.specs.Matrix.{Matrix, height, entry, IsMatrix, sum_below, plus, times, block, joined}
use Rattle.dense_def.specs.Laws.{BlockOfProduct, JoinOfQuadrants, QuadrantsOfJoin}
use Rattle.dense_def.proofs.Sums.{sum_below_ext, sum_below_split}
use Rattle.dense_def.proofs.Entries.{height-made, entry_made, IsMatrix-made, made_same, same_matrix, by_quadrants}
use Rattle.dense_def.proofs.Operations.{entry-plus, entry-times, height-times}

-- the number in row i and column j of a block
pub entry-block : (m : Matrix) (top left rows columns i j : ℕ) → i < rows → j < columns → entry (block m top left rows columns) i j ≡ entry m (top + i) (left + j)
entry-block m top left rows columns i j h k = entry_made rows columns (λ p q. entry m (top + p) (left + q)) i j h k

-- the same where the block begins at the first column
pub entry-block_left : (m : Matrix) (top rows columns i j : ℕ) → i < rows → j < columns → entry (block m top 0 rows columns) i j ≡ entry m (top + i) j
entry-block_left m top rows columns i j h k = entry-block m top 0 rows columns i j h k ∙ ap (entry m (top + i)) (zero-add j)

-- the same where it begins at the first row
pub entry-block_top : (m : Matrix) (left rows columns i j : ℕ) → i < rows → j < columns → entry (block m 0 left rows columns) i j ≡ entry m i (left + j)
entry-block_top m left rows columns i j h k = entry-block m 0 left rows columns i j h k ∙ ap (λ r. entry m r (left + j)) (zero-add i)

-- the same where it begins at the first of both
pub entry-block_corner : (m : Matrix) (rows columns i j : ℕ) → i < rows → j < columns → entry (block m 0 0 rows columns) i j ≡ entry m i j
entry-block_corner m rows columns i j h k = entry-block_left m 0 rows columns i j h k ∙ ap (λ r. entry m r j) (zero-add i)

-- the height of a block
pub height-block : (m : Matrix) (top left rows columns : ℕ) → height (block m top left rows columns) ≡ rows
height-block m top left rows columns = height-made rows columns (λ p q. entry m (top + p) (left + q))

-- a block is a matrix
pub IsMatrix-block : (m : Matrix) (top left rows columns : ℕ) → IsMatrix (block m top left rows columns)
IsMatrix-block m top left rows columns = IsMatrix-made rows columns (λ p q. entry m (top + p) (left + q))

-- a number of a product is the sum of two sums, at any split of the inner range
pub product_split : (a b : Matrix) (i j front back : ℕ) → i < height a → j < b.columns → a.columns ≡ front + back → entry (times a b) i j ≡ sum_below front (λ k. entry a i k *ℤ entry b k j) +ℤ sum_below back (λ k. entry a i (front + k) *ℤ entry b (front + k) j)
product_split a b i j front back h k split =
    entry-times a b i j h k
    ∙ ap (λ n. sum_below n (λ t. entry a i t *ℤ entry b t j)) split
    ∙ sum_below_split front back (λ t. entry a i t *ℤ entry b t j)

-- a number of the sum of two products
pub two_products : (a b c d : Matrix) (i j : ℕ) → i < height a → i < height c → j < b.columns → j < d.columns → entry (plus (times a b) (times c d)) i j ≡ sum_below a.columns (λ k. entry a i k *ℤ entry b k j) +ℤ sum_below c.columns (λ k. entry c i k *ℤ entry d k j)
two_products a b c d i j ha hc hb hd =
    entry-plus (times a b) (times c d) i j (rw height-times ha) hb
    ∙ ap₂ ◌+ℤ◌ (entry-times a b i j ha hb) (entry-times c d i j hc hd)

-- a block of a product is the sum of two products of blocks, at any split of the inner range
pub block-times : BlockOfProduct
block-times a b top left rows columns front back tall wide split =
    made_same rows columns _ _ (λ i j. entry (times a b) (top + i) (left + j)) (λ i j. entry (times (block a top 0 rows front) (block b 0 left front columns)) i j +ℤ entry (times (block a top front rows back) (block b front left back columns)) i j)
    (sym (height-times (block a top 0 rows front) (block b 0 left front columns) ∙ height-block a top 0 rows front)) refl
    (λ i j h k.
    product_split a b (top + i) (left + j) front back (omega arith) (omega arith) split
    ∙ ap₂ ◌+ℤ◌
    (sum_below_ext front _ _ (λ t l. ap₂ ◌*ℤ◌ (sym (entry-block_left a top rows front i t h l)) (sym (entry-block_top b left front columns t j l k))))
    (sum_below_ext back _ _ (λ t l. ap₂ ◌*ℤ◌ (sym (entry-block a top front rows back i t h l)) (sym (entry-block b front left back columns t j l k))))
    ∙ sym (ap₂ ◌+ℤ◌
    (entry-times (block a top 0 rows front) (block b 0 left front columns) i j (rw height-block h) k)
    (entry-times (block a top front rows back) (block b front left back columns) i j (rw height-block h) k)))

past : (n k : ℕ) → n + k - n ≡ k
past n k = omega arith

-- the number in row i and column j of a join, by the quadrant that the place lies in
module _ (a b c d : Matrix) where
  choice : ℕ → ℕ → ℤ
  choice i j = cond (nat_lt i (height a)) (cond (nat_lt j a.columns) (entry a i j) (entry b i (j - a.columns))) (cond (nat_lt j a.columns) (entry c (i - height a) j) (entry d (i - height a) (j - a.columns)))

  pub entry-joined_upper_left : (i j : ℕ) → i < height a → j < a.columns → entry (joined a b c d) i j ≡ entry a i j
  unfolding choice
  entry-joined_upper_left i j h k =
      entry_made (height a + height c) (a.columns + b.columns) choice i j (omega arith) (omega arith)
      ∙ rw (lt-ltb i (height a) h, lt-ltb j a.columns k) refl

  pub entry-joined_upper_right : (i j : ℕ) → i < height a → j < b.columns → entry (joined a b c d) i (a.columns + j) ≡ entry b i j
  unfolding choice
  entry-joined_upper_right i j h k =
      entry_made (height a + height c) (a.columns + b.columns) choice i (a.columns + j) (omega arith) (omega arith)
      ∙ rw (lt-ltb i (height a) h, le-ltb (a.columns + j) a.columns (omega arith)) (ap (entry b i) (past a.columns j))

  pub entry-joined_lower_left : (i j : ℕ) → i < height c → j < a.columns → entry (joined a b c d) (height a + i) j ≡ entry c i j
  unfolding choice
  entry-joined_lower_left i j h k =
      entry_made (height a + height c) (a.columns + b.columns) choice (height a + i) j (omega arith) (omega arith)
      ∙ rw (le-ltb (height a + i) (height a) (omega arith), lt-ltb j a.columns k) (ap (λ r. entry c r j) (past (height a) i))

  pub entry-joined_lower_right : (i j : ℕ) → i < height c → j < b.columns → entry (joined a b c d) (height a + i) (a.columns + j) ≡ entry d i j
  unfolding choice
  entry-joined_lower_right i j h k =
      entry_made (height a + height c) (a.columns + b.columns) choice (height a + i) (a.columns + j) (omega arith) (omega arith)
      ∙ rw (le-ltb (height a + i) (height a) (omega arith), le-ltb (a.columns + j) a.columns (omega arith)) (ap₂ (entry d) (past (height a) i) (past a.columns j))

  -- the height of a join
  pub height-joined : height (joined a b c d) ≡ height a + height c
  unfolding choice
  height-joined = height-made (height a + height c) (a.columns + b.columns) choice

  -- a join is a matrix
  pub IsMatrix-joined : IsMatrix (joined a b c d)
  unfolding choice
  IsMatrix-joined = IsMatrix-made (height a + height c) (a.columns + b.columns) choice

-- the same at sizes that are equal to the parts' and not written alike
module _ (a b c d : Matrix) (top bottom left right : ℕ) (tall : height a ≡ top) (low : height c ≡ bottom) (near : a.columns ≡ left) (far : b.columns ≡ right) where
  pub upper_left : (i j : ℕ) → i < top → j < left → entry (joined a b c d) i j ≡ entry a i j
  upper_left i j h k = entry-joined_upper_left a b c d i j (rw tall h) (rw near k)

  pub upper_right : (i j : ℕ) → i < top → j < right → entry (joined a b c d) i (left + j) ≡ entry b i j
  upper_right i j h k =
      ap (λ q. entry (joined a b c d) i (q + j)) (sym near) ∙ entry-joined_upper_right a b c d i j (rw tall h) (rw far k)

  pub lower_left : (i j : ℕ) → i < bottom → j < left → entry (joined a b c d) (top + i) j ≡ entry c i j
  lower_left i j h k =
      ap (λ p. entry (joined a b c d) (p + i) j) (sym tall) ∙ entry-joined_lower_left a b c d i j (rw low h) (rw near k)

  pub lower_right : (i j : ℕ) → i < bottom → j < right → entry (joined a b c d) (top + i) (left + j) ≡ entry d i j
  lower_right i j h k =
      ap₂ (λ p q. entry (joined a b c d) (p + i) (q + j)) (sym tall) (sym near)
      ∙ entry-joined_lower_right a b c d i j (rw low h) (rw far k)

  -- a matrix that agrees with four matrices on its quadrants is joined of them
  pub joined_is : (m : Matrix) → IsMatrix m → height m ≡ top + bottom → m.columns ≡ left + right → ((i j : ℕ) → i < top → j < left → entry m i j ≡ entry a i j) → ((i j : ℕ) → i < top → j < right → entry m i (left + j) ≡ entry b i j) → ((i j : ℕ) → i < bottom → j < left → entry m (top + i) j ≡ entry c i j) → ((i j : ℕ) → i < bottom → j < right → entry m (top + i) (left + j) ≡ entry d i j) → m ≡ joined a b c d
  joined_is m whole rows columns ul ur ll lr =
      same_matrix m (joined a b c d) whole (IsMatrix-joined a b c d)
      (rows ∙ ap₂ ◌+◌ (sym tall) (sym low) ∙ sym (height-joined a b c d)) (columns ∙ ap₂ ◌+◌ (sym near) (sym far))
      (λ i j h k. by_quadrants (λ p q. entry m p q ≡ entry (joined a b c d) p q) top bottom left right
      (λ p q l n. ul p q l n ∙ sym (upper_left p q l n)) (λ p q l n. ur p q l n ∙ sym (upper_right p q l n))
      (λ p q l n. ll p q l n ∙ sym (lower_left p q l n)) (λ p q l n. lr p q l n ∙ sym (lower_right p q l n))
      i j (rw (← rows) h) (rw (← columns) k))

-- parts that are equal join to matrices that are equal
pub joined_same : (a b c d a' b' c' d' : Matrix) → a ≡ a' → b ≡ b' → c ≡ c' → d ≡ d' → joined a b c d ≡ joined a' b' c' d'
joined_same a b c d a' b' c' d' p q r s =
    ap₂ (λ x y. joined x y c d) p q ∙ ap₂ (λ x y. joined a' b' x y) r s

-- a matrix is the join of its quadrants
pub joined-block : JoinOfQuadrants
joined-block m top bottom left right whole tall wide =
    sym (joined_is (block m 0 0 top left) (block m 0 left top right) (block m top 0 bottom left) (block m top left bottom right)
    top bottom left right (height-block m 0 0 top left) (height-block m top 0 bottom left) refl refl m whole tall wide
    (λ i j h k. sym (entry-block_corner m top left i j h k))
    (λ i j h k. sym (entry-block_top m left top right i j h k))
    (λ i j h k. sym (entry-block_left m top bottom left i j h k))
    (λ i j h k. sym (entry-block m top left bottom right i j h k)))

-- the quadrants of a join are its parts
pub block-joined : QuadrantsOfJoin
block-joined a b c d wa wb wc wd fit =
    let j = joined a b c d in (
      same_matrix (block j 0 0 (height a) a.columns) a (IsMatrix-block j 0 0 (height a) a.columns) wa (height-block j 0 0 (height a) a.columns) refl
          (λ p q h k. let l : p < height a = rw height-block at h in entry-block_corner j (height a) a.columns p q l k ∙ entry-joined_upper_left a b c d p q l k),
      same_matrix (block j 0 a.columns (height b) b.columns) b (IsMatrix-block j 0 a.columns (height b) b.columns) wb (height-block j 0 a.columns (height b) b.columns) refl
          (λ p q h k. let l : p < height b = rw height-block at h in entry-block_top j a.columns (height b) b.columns p q l k ∙ entry-joined_upper_right a b c d p q (rw fit.upper l) k),
      same_matrix (block j (height a) 0 (height c) c.columns) c (IsMatrix-block j (height a) 0 (height c) c.columns) wc (height-block j (height a) 0 (height c) c.columns) refl
          (λ p q h k. let l : p < height c = rw height-block at h in entry-block_left j (height a) (height c) c.columns p q l k ∙ entry-joined_lower_left a b c d p q l (rw fit.left k)),
      same_matrix (block j (height a) a.columns (height d) d.columns) d (IsMatrix-block j (height a) a.columns (height d) d.columns) wd (height-block j (height a) a.columns (height d) d.columns) refl
          (λ p q h k. let l : p < height d = rw height-block at h in entry-block j (height a) a.columns (height d) d.columns p q l k ∙ entry-joined_lower_right a b c d p q (rw fit.lower l) (rw fit.right k)),
    )
