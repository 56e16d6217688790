-- Canonical symmetric trees joined of three.
use Rattle.std.proofs.Common.{◌≡◌, ℕ, zero, suc, max, true, false, [], ◌∷◌, refl, sym, ap, ◌∙◌, subst, arith, ⊎_elim}
use Rattle.std.proofs.lemmas.Bool.{cases_Bool, true≢false}
use Rattle.dense_def.specs.Matrix.{Matrix, joined, transposed, peak_of, IsSymmetric}
use Rattle.dense_def.proofs.Quadrants.{IsSymmetric-joined}
use Rattle.dense_def.proofs.Peaks.{peak-joined, peak-transposed}
use Rattle.leaf_blocks.specs.Block.{IsBlock}
use Rattle.task_types.specs.Tree.{Tree, Nothing, Root, is_there}
use Rattle.chunk_codec.specs.Spots.{side_of}
use Rattle.quad_matrix.specs.declared.chunk.MatChunk.{MatChunk}
use Rattle.quad_matrix.specs.declared.chunk.MatChunk.TheVariants.{SymNode}
use Rattle.quad_matrix.specs.declared.kind.What.TheVariants.{SJoin}
use Rattle.quad_matrix.specs.Blocks.{block_of, canonical, canonical_symmetric, IsCanonical, IsCanonicalSymmetric, upper_left, upper_right, lower_right}
use Rattle.quad_matrix.specs.Goals.{goal_at, FitsAt}
use Rattle.quad_matrix.proofs.Sides.{side_twice, suc-sub_one}
use Rattle.quad_matrix.proofs.Canonical.{peak-zeros}
use Rattle.quad_matrix.proofs.Roots.{flat_not_there}
use Rattle.quad_matrix.proofs.Quadrants.{any_there, squares_fit, IsBlock-joined, quadrants_of_join, same_root}
use Rattle.quad_matrix.proofs.Symmetric.{symmetric_zero, symmetric_node, symmetric_of_block, flat_symmetric_not_there, zeros_join_symmetric}
use Rattle.quad_matrix.proofs.Transposes.{IsBlock-transposed}

-- the symmetric block whose upper quadrants, and whose lower right one, are the blocks of three trees
abbrev pub symmetric_join_of : ℕ → ℕ → Tree MatChunk → Tree MatChunk → Tree MatChunk → Matrix
symmetric_join_of b h x y z = joined (block_of b h x) (block_of b h y) (transposed (block_of b h y)) (block_of b h z)

-- the greatest of their peaks
abbrev pub symmetric_join_peak : ℕ → ℕ → Tree MatChunk → Tree MatChunk → Tree MatChunk → ℕ
symmetric_join_peak b h x y z = max (max (peak_of (block_of b h x)) (peak_of (block_of b h y))) (peak_of (block_of b h z))

-- the join of nothing three times is nothing
pub symmetric_join_nothing : (b h : ℕ) (x y z : Tree MatChunk) → any_there x y z Nothing ≡ false → canonical_symmetric b (suc h) (symmetric_join_of b h x y z) ≡ Nothing
symmetric_join_nothing b h Nothing Nothing Nothing e =
    symmetric_zero b (suc h) _ (ap peak_of (zeros_join_symmetric b h) ∙ peak-zeros (side_of b (suc h)) (side_of b (suc h)))
symmetric_join_nothing b h (Root c c0 c1 c2 c3) y z e = absurd (true≢false e)
symmetric_join_nothing b h Nothing (Root c c0 c1 c2 c3) z e = absurd (true≢false e)
symmetric_join_nothing b h Nothing Nothing (Root c c0 c1 c2 c3) e = absurd (true≢false e)

-- three canonical trees of one height and one side of leaves, of which the second one is of a general block
module _ (b h : ℕ) (x y z : Tree MatChunk) (ix : IsCanonicalSymmetric b h x) (iy : IsCanonical b h y) (iz : IsCanonicalSymmetric b h z) where
  -- the quadrant that is not kept is a block
  below : IsBlock (side_of b h) (transposed (block_of b h y))
  below = IsBlock-transposed (side_of b h) (block_of b h y) iy.sized

  -- the peak of the join is the greatest of theirs
  pub peak_of_symmetric_join : peak_of (symmetric_join_of b h x y z) ≡ symmetric_join_peak b h x y z
  peak_of_symmetric_join =
      let four = peak-joined (block_of b h x) (block_of b h y) (transposed (block_of b h y)) (block_of b h z) (squares_fit (side_of b h) (block_of b h x) (block_of b h y) (transposed (block_of b h y)) (block_of b h z) ix.sized iy.sized below iz.sized) in
      let turned = peak-transposed (block_of b h y) in
      omega (arith, four, turned)

  -- the join is a block
  pub block_of_symmetric_join : IsBlock (side_of b (suc h)) (symmetric_join_of b h x y z)
  block_of_symmetric_join =
      subst (λ n. IsBlock n (symmetric_join_of b h x y z)) (sym (side_twice b h)) (IsBlock-joined (side_of b h) (block_of b h x) (block_of b h y) (transposed (block_of b h y)) (block_of b h z) ix.sized iy.sized below iz.sized)

  -- and symmetric
  pub symmetric_join_is_symmetric : IsSymmetric (symmetric_join_of b h x y z)
  symmetric_join_is_symmetric =
      IsSymmetric-joined (block_of b h x) (block_of b h y) (block_of b h z) iy.sized.whole ix.symmetric iz.symmetric (ix.sized.tall ∙ sym iy.sized.tall) (iy.sized.wide ∙ sym iz.sized.tall)

  -- its canonical symmetric tree is canonical
  pub symmetric_join_canonical : IsCanonicalSymmetric b (suc h) (canonical_symmetric b (suc h) (symmetric_join_of b h x y z))
  symmetric_join_canonical =
      symmetric_of_block b (suc h) (symmetric_join_of b h x y z) block_of_symmetric_join symmetric_join_is_symmetric

  -- a join with a tree that is there is not zero
  symmetric_join_not_flat : any_there x y z Nothing ≡ true → peak_of (symmetric_join_of b h x y z) ≡ 0 → ⊥
  symmetric_join_not_flat there flat =
      let most : symmetric_join_peak b h x y z ≡ 0 = sym peak_of_symmetric_join ∙ flat in
      let ex : is_there x ≡ false = flat_symmetric_not_there b h x ix (omega arith) in
      let ey : is_there y ≡ false = flat_not_there b h y iy (omega arith) in
      let ez : is_there z ≡ false = flat_symmetric_not_there b h z iz (omega arith) in
      true≢false (sym there ∙ rw (ex, ey, ez) refl)

  -- its tree is a symmetric node over the three
  pub symmetric_join_some : any_there x y z Nothing ≡ true → canonical_symmetric b (suc h) (symmetric_join_of b h x y z) ≡ Root (SymNode (suc h) (symmetric_join_peak b h x y z)) x y z Nothing
  symmetric_join_some there =
      let m = symmetric_join_of b h x y z in
      let parts = quadrants_of_join (side_of b h) (block_of b h x) (block_of b h y) (transposed (block_of b h y)) (block_of b h z) ix.sized iy.sized below iz.sized in
      let ex : canonical_symmetric b h (upper_left (side_of b h) m) ≡ x = ap (canonical_symmetric b h) parts.0 ∙ sym ix.same in
      let ey : canonical b h (upper_right (side_of b h) m) ≡ y = ap (canonical b h) parts.1 ∙ sym iy.same in
      let ez : canonical_symmetric b h (lower_right (side_of b h) m) ≡ z = ap (canonical_symmetric b h) parts.3 ∙ sym iz.same in
      symmetric_node b h m (symmetric_join_not_flat there)
      ∙ same_root (SymNode (suc h) (peak_of m)) (SymNode (suc h) (symmetric_join_peak b h x y z)) _ x _ y _ z Nothing Nothing (ap (SymNode (suc h)) peak_of_symmetric_join) ex ey ez refl

  -- the join is there where one of the three is
  pub symmetric_join_there : is_there (canonical_symmetric b (suc h) (symmetric_join_of b h x y z)) ≡ any_there x y z Nothing
  symmetric_join_there =
      ⊎_elim
      (λ (e : any_there x y z Nothing ≡ true). ap is_there (symmetric_join_some e) ∙ sym e)
      (λ (e : any_there x y z Nothing ≡ false). ap is_there (symmetric_join_nothing b h x y z e) ∙ sym e)
      (cases_Bool (any_there x y z Nothing))

-- ---- Goals

-- the goal of a symmetric join
pub symmetric_join_goal : (b h : ℕ) (x y z : Tree MatChunk) → goal_at b SJoin (suc h) (x ∷ y ∷ z ∷ []) ≡ canonical_symmetric b (suc h) (symmetric_join_of b h x y z)
symmetric_join_goal b h x y z = ap (λ k. canonical_symmetric b (suc h) (symmetric_join_of b k x y z)) (suc-sub_one h)

-- what fits a symmetric join is canonical one level below
pub symmetric_join_fits : (b h : ℕ) (x y z : Tree MatChunk) → FitsAt b SJoin (suc h) (x ∷ y ∷ z ∷ []) → IsCanonicalSymmetric b h x × IsCanonical b h y × IsCanonicalSymmetric b h z
symmetric_join_fits b h x y z fits =
    subst (λ k. IsCanonicalSymmetric b k x × IsCanonical b k y × IsCanonicalSymmetric b k z) (suc-sub_one h) (fits.1, fits.2, fits.3)

-- and the other way round
pub fits_symmetric_join : (b h : ℕ) (x y z : Tree MatChunk) → IsCanonicalSymmetric b h x → IsCanonical b h y → IsCanonicalSymmetric b h z → FitsAt b SJoin (suc h) (x ∷ y ∷ z ∷ [])
fits_symmetric_join b h x y z ix iy iz = let low = suc-sub_one h in (omega arith, rw low ix, rw low iy, rw low iz)

-- the goal of a symmetric join is canonical
pub symmetric_join_goal_canonical : (b h : ℕ) (x y z : Tree MatChunk) → FitsAt b SJoin h (x ∷ y ∷ z ∷ []) → IsCanonicalSymmetric b h (goal_at b SJoin h (x ∷ y ∷ z ∷ []))
symmetric_join_goal_canonical b zero x y z fits = absurd (omega (arith, fits.0))
symmetric_join_goal_canonical b (suc h) x y z fits =
    let low = symmetric_join_fits b h x y z fits in
    rw (symmetric_join_goal b h x y z) (symmetric_join_canonical b h x y z low.0 low.1 low.2)

-- that of nothing is nothing
pub symmetric_join_goal_nothing : (b h : ℕ) → goal_at b SJoin (suc h) (Nothing ∷ Nothing ∷ Nothing ∷ []) ≡ Nothing
symmetric_join_goal_nothing b h =
    symmetric_join_goal b h Nothing Nothing Nothing ∙ symmetric_join_nothing b h Nothing Nothing Nothing refl
