-- Sums and joins of canonical trees.
use Rattle.std.proofs.Common.{◌≡◌, ℕ, zero, suc, ◌<◌, [], ◌∷◌, ◌+ℤ◌, refl, sym, ap, ap₂, ◌∙◌, subst, subst₂, arith}
use Rattle.dense_def.specs.Matrix.{Matrix, height, entry, plus, joined, SumFits}
use Rattle.dense_def.proofs.Sums.{unsigned_abs-add}
use Rattle.dense_def.proofs.Entries.{IsMatrix-made}
use Rattle.dense_def.proofs.Operations.{entry-plus, height-plus}
use Rattle.dense_def.proofs.Blocks.{joined_same}
use Rattle.dense_def.proofs.Quadrants.{plus-joined}
use Rattle.dense_def.proofs.Zeros.{entry-zeros, plus-zeros}
use Rattle.dense_def.proofs.Fits.{sum_fits_on_quadrants}
use Rattle.leaf_blocks.specs.Block.{IsBlock}
use Rattle.task_types.specs.Tree.{Tree, Nothing, Root, child}
use Rattle.quad_matrix.specs.declared.chunk.MatChunk.{MatChunk}
use Rattle.quad_matrix.specs.declared.kind.What.TheVariants.{Add, Join}
use Rattle.chunk_codec.specs.Spots.{side_of}
use Rattle.quad_matrix.specs.Blocks.{block_of, canonical, IsCanonical}
use Rattle.quad_matrix.specs.Goals.{goal_at, FitsAt}
use Rattle.quad_matrix.proofs.Sides.{suc-sub_one}
use Rattle.quad_matrix.proofs.Canonical.{block_of_canonical, canonical_of_block, nothing_is_canonical}
use Rattle.quad_matrix.proofs.Quadrants.{child_canonical, block_of_quadrants, squares_fit, join_of, join_canonical}

-- the sum of two blocks whose terms fit is a block
pub IsBlock-plus : (side : ℕ) (a b : Matrix) → IsBlock side a → IsBlock side b → SumFits a b → IsBlock side (plus a b)
IsBlock-plus side a b ia ib fit =
    record {
      whole = IsMatrix-made (height a) a.columns (λ i j. entry a i j +ℤ entry b i j);
      tall = height-plus a b ∙ ia.tall;
      wide = ia.wide;
      small = λ i j p q.
          let l : i < height a = rw ia.tall p in
          let k : j < a.columns = rw ia.wide q in
          rw (entry-plus a b i j l k) (omega (arith, unsigned_abs-add (entry a i j) (entry b i j), fit i j l k));
    }

-- ---- Goals that are canonical

-- the goal of a sum
pub add_canonical : (b h : ℕ) (x y : Tree MatChunk) → FitsAt b Add h (x ∷ y ∷ []) → IsCanonical b h (goal_at b Add h (x ∷ y ∷ []))
add_canonical b h x y fits =
    canonical_of_block b h (plus (block_of b h x) (block_of b h y)) (IsBlock-plus (side_of b h) (block_of b h x) (block_of b h y) fits.0.sized fits.1.sized fits.2)

-- the goal of a join
pub join_goal : (b h : ℕ) (x y z w : Tree MatChunk) → goal_at b Join (suc h) (x ∷ y ∷ z ∷ w ∷ []) ≡ canonical b (suc h) (join_of b h x y z w)
join_goal b h x y z w = ap (λ k. canonical b (suc h) (join_of b k x y z w)) (suc-sub_one h)

-- what fits a join is canonical one level below
pub join_fits : (b h : ℕ) (x y z w : Tree MatChunk) → FitsAt b Join (suc h) (x ∷ y ∷ z ∷ w ∷ []) → IsCanonical b h x × IsCanonical b h y × IsCanonical b h z × IsCanonical b h w
join_fits b h x y z w fits =
    subst (λ k. IsCanonical b k x × IsCanonical b k y × IsCanonical b k z × IsCanonical b k w) (suc-sub_one h) (fits.1, fits.2, fits.3, fits.4)

-- and the other way round
pub fits_join : (b h : ℕ) (x y z w : Tree MatChunk) → IsCanonical b h x → IsCanonical b h y → IsCanonical b h z → IsCanonical b h w → FitsAt b Join (suc h) (x ∷ y ∷ z ∷ w ∷ [])
fits_join b h x y z w ix iy iz iw =
    let low = suc-sub_one h in
    (omega arith, rw low ix, rw low iy, rw low iz, rw low iw)

-- the goal of a join is canonical
pub join_goal_canonical : (b h : ℕ) (x y z w : Tree MatChunk) → FitsAt b Join h (x ∷ y ∷ z ∷ w ∷ []) → IsCanonical b h (goal_at b Join h (x ∷ y ∷ z ∷ w ∷ []))
join_goal_canonical b zero x y z w fits = absurd (omega (arith, fits.0))
join_goal_canonical b (suc h) x y z w fits =
    let low = join_fits b h x y z w fits in
    rw (join_goal b h x y z w) (join_canonical b h x y z w low.0 low.1 low.2 low.3)

-- ---- Sums on quadrants

-- there is no fifth child
pub child_past : (t : Tree MatChunk) (q : ℕ) → child t (suc (suc (suc (suc q)))) ≡ Nothing
child_past Nothing q = refl
child_past (Root c x y z w) q = refl

-- the sum of nothing and nothing fits
nothing_fits : (b h : ℕ) → SumFits (block_of b h Nothing) (block_of b h Nothing)
nothing_fits b h i j p q = rw (entry-zeros (side_of b h) (side_of b h) i j) (omega arith)

-- the goal of the sum of the children with one number
abbrev pub child_sum : ℕ → ℕ → Tree MatChunk → Tree MatChunk → ℕ → Tree MatChunk
child_sum b h x y q = goal_at b Add h (child x q ∷ child y q ∷ [])

-- a sum that fits fits on each quadrant
module _ (b h : ℕ) (x y : Tree MatChunk) (fits : FitsAt b Add (suc h) (x ∷ y ∷ [])) where
  on_quadrants : SumFits (block_of b h (child x 0)) (block_of b h (child y 0)) × SumFits (block_of b h (child x 1)) (block_of b h (child y 1)) × SumFits (block_of b h (child x 2)) (block_of b h (child y 2)) × SumFits (block_of b h (child x 3)) (block_of b h (child y 3))
  on_quadrants =
      let x0 = child_canonical b h x fits.0 0 in
      let x1 = child_canonical b h x fits.0 1 in
      let x2 = child_canonical b h x fits.0 2 in
      let x3 = child_canonical b h x fits.0 3 in
      let y0 = child_canonical b h y fits.1 0 in
      let y1 = child_canonical b h y fits.1 1 in
      let y2 = child_canonical b h y fits.1 2 in
      sum_fits_on_quadrants _ _ _ _ _ _ (block_of b h (child y 2)) (block_of b h (child y 3)) (squares_fit (side_of b h) _ _ _ _ x0.sized x1.sized x2.sized x3.sized)
      (x0.sized.tall ∙ sym y0.sized.tall) (x2.sized.tall ∙ sym y2.sized.tall) (x0.sized.wide ∙ sym y0.sized.wide) (x1.sized.wide ∙ sym y1.sized.wide)
      (subst₂ SumFits (block_of_quadrants b h x fits.0) (block_of_quadrants b h y fits.1) fits.2)

  each : (q : ℕ) → SumFits (block_of b h (child x q)) (block_of b h (child y q))
  each zero = on_quadrants.0
  each (suc zero) = on_quadrants.1
  each (suc (suc zero)) = on_quadrants.2
  each (suc (suc (suc zero))) = on_quadrants.3
  each (suc (suc (suc (suc q)))) =
      subst₂ (λ s t. SumFits (block_of b h s) (block_of b h t)) (sym (child_past x q)) (sym (child_past y q)) (nothing_fits b h)

  -- the sums of the children fit
  pub add_on_children : (q : ℕ) → FitsAt b Add h (child x q ∷ child y q ∷ [])
  add_on_children q = (child_canonical b h x fits.0 q, child_canonical b h y fits.1 q, each q)

  -- the sum is joined of the sums of the children
  pub add_is_joined : goal_at b Add (suc h) (x ∷ y ∷ []) ≡ canonical b (suc h) (joined (plus (block_of b h (child x 0)) (block_of b h (child y 0))) (plus (block_of b h (child x 1)) (block_of b h (child y 1))) (plus (block_of b h (child x 2)) (block_of b h (child y 2))) (plus (block_of b h (child x 3)) (block_of b h (child y 3))))
  add_is_joined =
      let x0 = child_canonical b h x fits.0 0 in
      let x1 = child_canonical b h x fits.0 1 in
      let x2 = child_canonical b h x fits.0 2 in
      let x3 = child_canonical b h x fits.0 3 in
      let y0 = child_canonical b h y fits.1 0 in
      let y1 = child_canonical b h y fits.1 1 in
      let y2 = child_canonical b h y fits.1 2 in
      ap (canonical b (suc h))
      (ap₂ plus (block_of_quadrants b h x fits.0) (block_of_quadrants b h y fits.1)
      ∙ plus-joined _ _ _ _ _ _ (block_of b h (child y 2)) (block_of b h (child y 3)) (squares_fit (side_of b h) _ _ _ _ x0.sized x1.sized x2.sized x3.sized)
      (x0.sized.tall ∙ sym y0.sized.tall) (x2.sized.tall ∙ sym y2.sized.tall) (x0.sized.wide ∙ sym y0.sized.wide) (x1.sized.wide ∙ sym y1.sized.wide))

  -- the goal of a sum of children stands for the sum of their blocks
  pub block_of_sum : (q : ℕ) → block_of b h (child_sum b h x y q) ≡ plus (block_of b h (child x q)) (block_of b h (child y q))
  block_of_sum q =
      let fit = add_on_children q in
      let sized = IsBlock-plus (side_of b h) _ _ fit.0.sized fit.1.sized fit.2 in
      block_of_canonical b h _ sized.whole sized.tall sized.wide

  -- the sum is the join of the goals of the sums of the children
  pub add_is_join : goal_at b Add (suc h) (x ∷ y ∷ []) ≡ goal_at b Join (suc h) (child_sum b h x y 0 ∷ child_sum b h x y 1 ∷ child_sum b h x y 2 ∷ child_sum b h x y 3 ∷ [])
  add_is_join =
      add_is_joined
      ∙ ap (canonical b (suc h)) (sym (joined_same _ _ _ _ _ _ _ _ (block_of_sum 0) (block_of_sum 1) (block_of_sum 2) (block_of_sum 3)))
      ∙ sym (join_goal b h (child_sum b h x y 0) (child_sum b h x y 1) (child_sum b h x y 2) (child_sum b h x y 3))

-- ---- Sums with nothing

-- a tree and nothing add up to the tree
pub add_with_nothing : (b h : ℕ) (x : Tree MatChunk) → FitsAt b Add h (x ∷ Nothing ∷ []) → goal_at b Add h (x ∷ Nothing ∷ []) ≡ x
add_with_nothing b h x fits =
    let side = side_of b h in
    ap (canonical b h) (plus-zeros (block_of b h x) side side fits.0.sized.whole fits.0.sized.tall fits.0.sized.wide).0
    ∙ sym fits.0.same

-- and so do nothing and a tree
pub add_nothing_with : (b h : ℕ) (y : Tree MatChunk) → FitsAt b Add h (Nothing ∷ y ∷ []) → goal_at b Add h (Nothing ∷ y ∷ []) ≡ y
add_nothing_with b h y fits =
    let side = side_of b h in
    ap (canonical b h) (plus-zeros (block_of b h y) side side fits.1.sized.whole fits.1.sized.tall fits.1.sized.wide).1
    ∙ sym fits.1.same

-- a sum with nothing fits
pub fits_add_nothing : (b h : ℕ) (x : Tree MatChunk) → IsCanonical b h x → FitsAt b Add h (x ∷ Nothing ∷ [])
fits_add_nothing b h x is =
    (is, nothing_is_canonical b h, λ i j p q. rw (entry-zeros (side_of b h) (side_of b h) i j) (omega (arith, is.sized.small i j (rw (← is.sized.tall) p) (rw (← is.sized.wide) q))))

-- nothing and nothing add up to nothing
pub add_nothing : (b h : ℕ) → goal_at b Add h (Nothing ∷ Nothing ∷ []) ≡ Nothing
add_nothing b h = add_with_nothing b h Nothing (fits_add_nothing b h Nothing (nothing_is_canonical b h))
