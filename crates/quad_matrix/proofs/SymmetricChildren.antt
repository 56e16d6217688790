-- The goals of symmetric kinds, by the children of their inputs.
use Rattle.std.proofs.Common.{◌≡◌, ℕ, suc, ◌+◌, ◌^◌, ◌≤◌, [], ◌∷◌, ◌+ℤ◌, unsigned_abs, refl, sym, ap, ap₂, ◌∙◌, subst, subst₂}
use Rattle.dense_def.specs.Matrix.{Matrix, height, plus, transposed, trace_of, QuadrantsFit, SumFits, TraceFits}
use Rattle.dense_def.proofs.Operations.{transposed-plus}
use Rattle.dense_def.proofs.Blocks.{joined_same}
use Rattle.dense_def.proofs.Quadrants.{plus-joined, trace-joined}
use Rattle.dense_def.proofs.Fits.{sum_fits_on_quadrants, trace_fits_on_quadrants}
use Rattle.leaf_blocks.specs.Block.{IsBlock}
use Rattle.task_types.specs.Tree.{Tree, child}
use Rattle.chunk_codec.specs.Spots.{side_of}
use Rattle.quad_matrix.specs.declared.chunk.MatChunk.{MatChunk}
use Rattle.quad_matrix.specs.declared.kind.What.TheVariants.{Add, Transpose, Join, AddNum, SAdd, Full, SJoin, STrace}
use Rattle.quad_matrix.specs.Blocks.{block_of, canonical, canonical_symmetric, number_tree, IsCanonicalSymmetric}
use Rattle.quad_matrix.specs.Goals.{goal_at, FitsAt}
use Rattle.quad_matrix.proofs.Canonical.{block_of_canonical}
use Rattle.quad_matrix.proofs.Quadrants.{squares_fit}
use Rattle.quad_matrix.proofs.Symmetric.{AreSymmetricChildren, symmetric_children, block_of_symmetric_children}
use Rattle.quad_matrix.proofs.Sums.{IsBlock-plus, add_canonical, join_goal, fits_join}
use Rattle.quad_matrix.proofs.Transposes.{IsBlock-transposed, transpose_canonical, block_of_transpose}
use Rattle.quad_matrix.proofs.SymmetricJoins.{symmetric_join_goal, fits_symmetric_join}
use Rattle.quad_matrix.proofs.SymmetricSums.{symmetric_add_canonical, block_of_symmetric_add, full_canonical}
use Rattle.quad_matrix.proofs.Numbers.{number_of_tree, trace_is_number}

-- the quadrant that a symmetric tree does not keep is a block
below : (b h : ℕ) (x : Tree MatChunk) → AreSymmetricChildren b h x → IsBlock (side_of b h) (transposed (block_of b h (child x 1)))
below b h x parts = IsBlock-transposed (side_of b h) (block_of b h (child x 1)) parts.second.sized

-- ---- Sums

-- a sum of symmetric blocks that fits fits on each quadrant
module _ (b h : ℕ) (x y : Tree MatChunk) (fits : FitsAt b SAdd (suc h) (x ∷ y ∷ [])) where
  abbrev block_at : Tree MatChunk → ℕ → Matrix
  block_at tree q = block_of b h (child tree q)

  xs : AreSymmetricChildren b h x
  xs = symmetric_children b h x fits.0

  ys : AreSymmetricChildren b h y
  ys = symmetric_children b h y fits.1

  on_quadrants : SumFits (block_at x 0) (block_at y 0) × SumFits (block_at x 1) (block_at y 1) × SumFits (transposed (block_at x 1)) (transposed (block_at y 1)) × SumFits (block_at x 2) (block_at y 2)
  on_quadrants =
      sum_fits_on_quadrants (block_at x 0) (block_at x 1) (transposed (block_at x 1)) (block_at x 2) (block_at y 0) (block_at y 1) (transposed (block_at y 1)) (block_at y 2)
      (squares_fit (side_of b h) (block_at x 0) (block_at x 1) (transposed (block_at x 1)) (block_at x 2) xs.first.sized xs.second.sized (below b h x xs) xs.third.sized)
      (xs.first.sized.tall ∙ sym ys.first.sized.tall) ((below b h x xs).tall ∙ sym (below b h y ys).tall) (xs.first.sized.wide ∙ sym ys.first.sized.wide) (xs.second.sized.wide ∙ sym ys.second.sized.wide)
      (subst₂ SumFits (block_of_symmetric_children b h x fits.0) (block_of_symmetric_children b h y fits.1) fits.2)

  -- the sums of the symmetric children fit, and that of the general ones between them
  pub symmetric_add_on_first : FitsAt b SAdd h (child x 0 ∷ child y 0 ∷ [])
  symmetric_add_on_first = (xs.first, ys.first, on_quadrants.0)

  pub symmetric_add_on_second : FitsAt b Add h (child x 1 ∷ child y 1 ∷ [])
  symmetric_add_on_second = (xs.second, ys.second, on_quadrants.1)

  pub symmetric_add_on_third : FitsAt b SAdd h (child x 2 ∷ child y 2 ∷ [])
  symmetric_add_on_third = (xs.third, ys.third, on_quadrants.3)

  -- the sums of the children
  abbrev first_sum : Tree MatChunk
  first_sum = goal_at b SAdd h (child x 0 ∷ child y 0 ∷ [])

  abbrev second_sum : Tree MatChunk
  second_sum = goal_at b Add h (child x 1 ∷ child y 1 ∷ [])

  abbrev third_sum : Tree MatChunk
  third_sum = goal_at b SAdd h (child x 2 ∷ child y 2 ∷ [])

  -- they fit a symmetric join
  pub symmetric_sums_fit_join : FitsAt b SJoin (suc h) (first_sum ∷ second_sum ∷ third_sum ∷ [])
  symmetric_sums_fit_join =
      fits_symmetric_join b h first_sum second_sum third_sum (symmetric_add_canonical b h (child x 0) (child y 0) symmetric_add_on_first) (add_canonical b h (child x 1) (child y 1) symmetric_add_on_second) (symmetric_add_canonical b h (child x 2) (child y 2) symmetric_add_on_third)

  -- the sum is the symmetric join of the sums of the children
  pub symmetric_add_is_join : goal_at b SAdd (suc h) (x ∷ y ∷ []) ≡ goal_at b SJoin (suc h) (first_sum ∷ second_sum ∷ third_sum ∷ [])
  symmetric_add_is_join =
      let one : block_of b h first_sum ≡ plus (block_at x 0) (block_at y 0) = block_of_symmetric_add b h (child x 0) (child y 0) symmetric_add_on_first in
      let sized = IsBlock-plus (side_of b h) (block_at x 1) (block_at y 1) xs.second.sized ys.second.sized on_quadrants.1 in
      let two : block_of b h second_sum ≡ plus (block_at x 1) (block_at y 1) = block_of_canonical b h (plus (block_at x 1) (block_at y 1)) sized.whole sized.tall sized.wide in
      let turned : plus (transposed (block_at x 1)) (transposed (block_at y 1)) ≡ transposed (block_of b h second_sum) =
      sym (transposed-plus (block_at x 1) (block_at y 1) (xs.second.sized.tall ∙ sym ys.second.sized.tall) (xs.second.sized.wide ∙ sym ys.second.sized.wide)) ∙ ap transposed (sym two) in
      let three : block_of b h third_sum ≡ plus (block_at x 2) (block_at y 2) = block_of_symmetric_add b h (child x 2) (child y 2) symmetric_add_on_third in
      ap (canonical_symmetric b (suc h))
      (ap₂ plus (block_of_symmetric_children b h x fits.0) (block_of_symmetric_children b h y fits.1)
      ∙ plus-joined (block_at x 0) (block_at x 1) (transposed (block_at x 1)) (block_at x 2) (block_at y 0) (block_at y 1) (transposed (block_at y 1)) (block_at y 2)
      (squares_fit (side_of b h) (block_at x 0) (block_at x 1) (transposed (block_at x 1)) (block_at x 2) xs.first.sized xs.second.sized (below b h x xs) xs.third.sized)
      (xs.first.sized.tall ∙ sym ys.first.sized.tall) ((below b h x xs).tall ∙ sym (below b h y ys).tall) (xs.first.sized.wide ∙ sym ys.first.sized.wide) (xs.second.sized.wide ∙ sym ys.second.sized.wide)
      ∙ joined_same _ _ _ _ (block_of b h first_sum) (block_of b h second_sum) (transposed (block_of b h second_sum)) (block_of b h third_sum) (sym one) (sym two) turned (sym three))
      ∙ sym (symmetric_join_goal b h first_sum second_sum third_sum)

-- ---- General forms

-- the general form of a symmetric tree is joined of those of its symmetric children, and of the one between them and its transpose
module _ (b h : ℕ) (x : Tree MatChunk) (is : IsCanonicalSymmetric b (suc h) x) where
  parts : AreSymmetricChildren b h x
  parts = symmetric_children b h x is

  -- the general form of a symmetric child
  abbrev full_of : ℕ → Tree MatChunk
  full_of q = goal_at b Full h (child x q ∷ [])

  -- the transpose of the general child
  abbrev turned_second : Tree MatChunk
  turned_second = goal_at b Transpose h (child x 1 ∷ [])

  -- the parts fit a join
  pub full_parts_fit_join : FitsAt b Join (suc h) (full_of 0 ∷ child x 1 ∷ turned_second ∷ full_of 2 ∷ [])
  full_parts_fit_join =
      fits_join b h (full_of 0) (child x 1) turned_second (full_of 2) (full_canonical b h (child x 0) parts.first) parts.second (transpose_canonical b h (child x 1) parts.second) (full_canonical b h (child x 2) parts.third)

  pub full_is_join : goal_at b Full (suc h) (x ∷ []) ≡ goal_at b Join (suc h) (full_of 0 ∷ child x 1 ∷ turned_second ∷ full_of 2 ∷ [])
  full_is_join =
      let one : block_of b h (full_of 0) ≡ block_of b h (child x 0) = block_of_canonical b h (block_of b h (child x 0)) parts.first.sized.whole parts.first.sized.tall parts.first.sized.wide in
      let three : block_of b h (full_of 2) ≡ block_of b h (child x 2) = block_of_canonical b h (block_of b h (child x 2)) parts.third.sized.whole parts.third.sized.tall parts.third.sized.wide in
      let two : block_of b h turned_second ≡ transposed (block_of b h (child x 1)) = block_of_transpose b h (child x 1) parts.second in
      ap (canonical b (suc h))
      (block_of_symmetric_children b h x is
      ∙ joined_same _ _ _ _ (block_of b h (full_of 0)) (block_of b h (child x 1)) (block_of b h turned_second) (block_of b h (full_of 2)) (sym one) refl (sym two) (sym three))
      ∙ sym (join_goal b h (full_of 0) (child x 1) turned_second (full_of 2))

-- ---- Traces

module _ (b h : ℕ) (x : Tree MatChunk) (fits : FitsAt b STrace (suc h) (x ∷ [])) where
  children : AreSymmetricChildren b h x
  children = symmetric_children b h x fits.0

  squares : height (block_of b h (child x 0)) ≡ (block_of b h (child x 0)).columns
  squares = children.first.sized.tall ∙ sym children.first.sized.wide

  last_square : height (block_of b h (child x 2)) ≡ (block_of b h (child x 2)).columns
  last_square = children.third.sized.tall ∙ sym children.third.sized.wide

  quadrants_fit : QuadrantsFit (block_of b h (child x 0)) (block_of b h (child x 1)) (transposed (block_of b h (child x 1))) (block_of b h (child x 2))
  quadrants_fit =
      squares_fit (side_of b h) (block_of b h (child x 0)) (block_of b h (child x 1)) (transposed (block_of b h (child x 1))) (block_of b h (child x 2)) children.first.sized children.second.sized (below b h x children) children.third.sized

  traces : TraceFits (block_of b h (child x 0)) × TraceFits (block_of b h (child x 2)) × (unsigned_abs (trace_of (block_of b h (child x 0))) + unsigned_abs (trace_of (block_of b h (child x 2))) ≤ 2 ^ 126)
  traces =
      trace_fits_on_quadrants (block_of b h (child x 0)) (block_of b h (child x 1)) (transposed (block_of b h (child x 1))) (block_of b h (child x 2)) squares last_square quadrants_fit
      (subst TraceFits (block_of_symmetric_children b h x fits.0) fits.1)

  -- the traces of both symmetric children fit
  pub symmetric_trace_first : FitsAt b STrace h (child x 0 ∷ [])
  symmetric_trace_first = (children.first, traces.0)

  pub symmetric_trace_last : FitsAt b STrace h (child x 2 ∷ [])
  symmetric_trace_last = (children.third, traces.1)

  -- and so does their sum
  pub symmetric_trace_fits : FitsAt b AddNum 0 (goal_at b STrace h (child x 0 ∷ []) ∷ goal_at b STrace h (child x 2 ∷ []) ∷ [])
  symmetric_trace_fits = (
    refl,
    trace_is_number (block_of b h (child x 0)) traces.0,
    trace_is_number (block_of b h (child x 2)) traces.1,
    rw (number_of_tree (trace_of (block_of b h (child x 0))), number_of_tree (trace_of (block_of b h (child x 2)))) traces.2,
  )

  -- which is the whole trace
  pub symmetric_trace_on_children : goal_at b STrace (suc h) (x ∷ []) ≡ goal_at b AddNum 0 (goal_at b STrace h (child x 0 ∷ []) ∷ goal_at b STrace h (child x 2 ∷ []) ∷ [])
  symmetric_trace_on_children =
      ap number_tree
      (ap trace_of (block_of_symmetric_children b h x fits.0)
      ∙ trace-joined (block_of b h (child x 0)) (block_of b h (child x 1)) (transposed (block_of b h (child x 1))) (block_of b h (child x 2)) squares last_square quadrants_fit
      ∙ sym (ap₂ ◌+ℤ◌ (number_of_tree (trace_of (block_of b h (child x 0)))) (number_of_tree (trace_of (block_of b h (child x 2))))))
