-- What products of a block with its own transpose, and squares, of height at least 1 answer by their plans is sound.
use Rattle.std.proofs.Common.{◌≡◌, ℕ, suc, ◌≤◌, true, false, ◌&&◌, List, [], ◌∷◌, map, refl, sym, ap, ◌∙◌, subst, inl, arith}
use Rattle.std.proofs.lemmas.Bool.{le-leb}
use Rattle.dense_def.specs.Matrix.{Matrix, height, times, tmul_of, mult_of, transposed, joined, QuadrantsFit, SumFits, ProductFits, TmulFits, MultFits}
use Rattle.dense_def.proofs.Operations.{height-transposed, tmul_is, mult_is, IsSymmetric-times, IsSymmetric-mult_of, IsSymmetric-tmul_of}
use Rattle.dense_def.proofs.Quadrants.{QuadrantsFit-symmetric, symmetric_square, rank_by_rows, rank_by_columns}
use Rattle.dense_def.proofs.Fits.{product_fits_on_quadrants, tmul_fits_on_quadrants, mult_fits_on_quadrants, tmul_fits_is, mult_fits_is}
use Rattle.chunk_codec.specs.Spots.{side_of}
use Rattle.task_types.specs.Tree.{Tree, Nothing, Root, child}
use Rattle.task_types.specs.Presence.{Presence, Absent, presence_of, has_child}
use Rattle.task_types.specs.Places.{Shape, IsOneOf}
use Rattle.task_types.specs.Sound.{IsSound}
use Rattle.task_plans.specs.declared.portions.Portions.{Portions}
use Rattle.task_plans.specs.Plans.{planned_shape}
use Rattle.task_plans.specs.Sketches.{planned_outcome}
use Rattle.task_plans.proofs.ForOthers.{plan_is_sound}
use Rattle.quad_matrix.specs.declared.chunk.MatChunk.{MatChunk}
use Rattle.quad_matrix.specs.declared.kind.What.TheVariants.{Add, TMul, MulT, SAdd, Square, RankMul, TRank, SMul, MulS}
use Rattle.quad_matrix.specs.declared.kind.MatKind.{MatKind}
use Rattle.quad_matrix.specs.Chunks.{arity_of}
use Rattle.quad_matrix.specs.Blocks.{block_of, IsCanonical}
use Rattle.quad_matrix.specs.Goals.{kind_of, kind_at, goal_at, FitsAt}
use Rattle.quad_matrix.specs.Matrices.{matrices}
use Rattle.quad_matrix.specs.Products.{Neither, First, Second}
use Rattle.quad_matrix.specs.Plans.{plan_of, shapes_of}
use Rattle.quad_matrix.proofs.ForOthers.{IsBlock-product, child_canonical, block_of_quadrants, symmetric_children, block_of_symmetric_children, square_of_nothing, rank_of_nothing, transposed_rank_of_nothing}
use Rattle.matrix_tasks.proofs.ForOthers.{shapes_open, parts_below, ready_is, term_absent}
use Rattle.symm_tasks.proofs.NullInputs.{factor_missing}
use Rattle.symm_tasks.proofs.ByPlan.{child_missing}
use Rattle.symm_tasks.proofs.ProductTerms.{IsGeneral, IsMirrored, general_term, mirrored_term, general_sum, mirrored_sum, general_gives, mirrored_gives, mirrored_ending}

-- ---- Products with the own transpose

pub rank_by_plan : (b h : ℕ) (portions : Portions MatChunk) (c : MatChunk) (x0 x1 x2 x3 : Tree MatChunk) → b ≤ 64 → suc h ≤ 16
    → FitsAt b RankMul (suc h) (Root c x0 x1 x2 x3 ∷ [])
    → IsSound arity_of matrices (kind_of RankMul (suc h)) (Root c x0 x1 x2 x3 ∷ []) (planned_outcome kind_at (suc h) (plan_of RankMul) portions (map presence_of (Root c x0 x1 x2 x3 ∷ [])))
rank_by_plan b h portions c x0 x1 x2 x3 side low fits =
    let x : Tree MatChunk = Root c x0 x1 x2 x3 in
    let trees : List (Tree MatChunk) = x ∷ [] in
    let known : List Presence = map presence_of trees in
    let kind : MatKind = kind_of RankMul (suc h) in
    let rank : ℕ = matrices.rank kind in
    let n : ℕ = side_of b h in
    let ix : (q : ℕ) → IsCanonical b h (child x q) = child_canonical b h x fits.0 in
    let a : ℕ → Matrix = λ q. block_of b h (child x q) in
    let quadrants : QuadrantsFit (a 0) (a 1) (a 2) (a 3) = record {
      upper = (ix 0).sized.tall ∙ sym (ix 1).sized.tall;
      lower = (ix 2).sized.tall ∙ sym (ix 3).sized.tall;
      left = (ix 0).sized.wide ∙ sym (ix 2).sized.wide;
      right = (ix 1).sized.wide ∙ sym (ix 3).sized.wide;
    } in
    let whole : MultFits (joined (a 0) (a 1) (a 2) (a 3)) (joined (a 0) (a 1) (a 2) (a 3)) = subst (λ (m : Matrix). MultFits m m) (block_of_quadrants b h x fits.0) fits.1 in
    let four = mult_fits_on_quadrants (a 0) (a 1) (a 2) (a 3) (a 0) (a 1) (a 2) (a 3) quadrants quadrants refl refl whole in
    let own : (q : ℕ) → MultFits (a q) (a q) → IsMirrored b h RankMul (child x q ∷ []) (mult_of (a q) (a q)) = λ q fits. mirrored_term b h RankMul (child x q ∷ []) (mult_of (a q) (a q)) (ix q, fits) refl (IsBlock-product n Second (a q) (a q) (ix q).sized (ix q).sized fits) (IsSymmetric-mult_of (a q)) in
    let beside : (p q : ℕ) → MultFits (a p) (a q) → IsGeneral b h MulT (child x p ∷ child x q ∷ []) (mult_of (a p) (a q)) = λ p q fits. general_term b h MulT (child x p ∷ child x q ∷ []) (mult_of (a p) (a q)) (ix p, ix q, fits) refl (IsBlock-product n Second (a p) (a q) (ix p).sized (ix q).sized fits) in
    let missing : (q : ℕ) → (has_child (presence_of x) q && true) ≡ false → goal_at b RankMul h (child x q ∷ []) ≡ Nothing = child_missing b RankMul h (rank_of_nothing b h) x in
    let absent : (p q : ℕ) → (has_child (presence_of x) p && (has_child (presence_of x) q && true)) ≡ false → goal_at b MulT h (child x p ∷ child x q ∷ []) ≡ Nothing = λ p q e. term_absent b h Second (child x p) (child x q) (ix p) (ix q) (ready_is x x p q ∙ e) in
    let l0 : List (Tree MatChunk) = goal_at b RankMul h (child x 0 ∷ []) ∷ goal_at b RankMul h (child x 1 ∷ []) ∷ [] in
    let l1 : List (Tree MatChunk) = goal_at b MulT h (child x 0 ∷ child x 2 ∷ []) ∷ goal_at b MulT h (child x 1 ∷ child x 3 ∷ []) ∷ [] in
    let l2 : List (Tree MatChunk) = goal_at b RankMul h (child x 2 ∷ []) ∷ goal_at b RankMul h (child x 3 ∷ []) ∷ [] in
    let t0 : Tree MatChunk = goal_at b SAdd h l0 in
    let t1 : Tree MatChunk = goal_at b Add h l1 in
    let t2 : Tree MatChunk = goal_at b SAdd h l2 in
    let s0 = mirrored_sum b h RankMul RankMul (child x 0 ∷ []) (child x 1 ∷ []) (mult_of (a 0) (a 0)) (mult_of (a 1) (a 1)) four.0.together (own 0 four.0.first) (own 1 four.0.second) in
    let s1 = general_sum b h MulT MulT (child x 0 ∷ child x 2 ∷ []) (child x 1 ∷ child x 3 ∷ []) (mult_of (a 0) (a 2)) (mult_of (a 1) (a 3)) four.1.together (beside 0 2 four.1.first) (beside 1 3 four.1.second) in
    let s2 = mirrored_sum b h RankMul RankMul (child x 2 ∷ []) (child x 3 ∷ []) (mult_of (a 2) (a 2)) (mult_of (a 3) (a 3)) four.3.together (own 2 four.3.first) (own 3 four.3.second) in
    let g0 = mirrored_gives b h RankMul RankMul (child x 0 ∷ []) (child x 1 ∷ []) (mult_of (a 0) (a 0)) (mult_of (a 1) (a 1)) four.0.together rank side (omega arith) (omega arith) (omega arith) (omega arith) (has_child (presence_of x) 0 && true) (has_child (presence_of x) 1 && true) (missing 0) (missing 1) (own 0 four.0.first) (own 1 four.0.second) in
    let g1 = general_gives b h MulT MulT (child x 0 ∷ child x 2 ∷ []) (child x 1 ∷ child x 3 ∷ []) (mult_of (a 0) (a 2)) (mult_of (a 1) (a 3)) four.1.together rank side (omega arith) (omega arith) (omega arith) (omega arith) (has_child (presence_of x) 0 && (has_child (presence_of x) 2 && true)) (has_child (presence_of x) 1 && (has_child (presence_of x) 3 && true)) (absent 0 2) (absent 1 3) (beside 0 2 four.1.first) (beside 1 3 four.1.second) in
    let g2 = mirrored_gives b h RankMul RankMul (child x 2 ∷ []) (child x 3 ∷ []) (mult_of (a 2) (a 2)) (mult_of (a 3) (a 3)) four.3.together rank side (omega arith) (omega arith) (omega arith) (omega arith) (has_child (presence_of x) 2 && true) (has_child (presence_of x) 3 && true) (missing 2) (missing 3) (own 2 four.3.first) (own 3 four.3.second) in
    let wholes : mult_of (block_of b (suc h) x) (block_of b (suc h) x) ≡ mult_of (joined (a 0) (a 1) (a 2) (a 3)) (joined (a 0) (a 1) (a 2) (a 3)) = ap (λ (m : Matrix). mult_of m m) (block_of_quadrants b h x fits.0) in
    let end = mirrored_ending b h RankMul trees SAdd Add SAdd l0 l1 l2 _ _ _ (mult_of (block_of b (suc h) x) (block_of b (suc h) x)) side low (omega arith) fits refl (wholes ∙ rank_by_rows (a 0) (a 1) (a 2) (a 3) quadrants) s0 s1 s2 in
    let shape : IsOneOf (planned_shape kind_at (suc h) (plan_of RankMul) known Absent) (shapes_of kind known) = subst (λ (shapes : List (Shape MatKind)). IsOneOf (planned_shape kind_at (suc h) (plan_of RankMul) known Absent) shapes) (sym (shapes_open RankMul (suc h) known refl (le-leb (suc h) 16 low))) (inl refl) in
    plan_is_sound arity_of matrices kind_at (suc h) kind (plan_of RankMul) portions trees (record {
      few = omega arith;
      trees = t0 ∷ t1 ∷ t2 ∷ [];
      parts = parts_below rank h trees portions (plan_of RankMul).parts (t0 ∷ t1 ∷ t2 ∷ []) ((refl, refl, g0), ((refl, refl, g1), ((refl, refl, g2), tt)));
      ending = end;
      chosen = Absent;
      agree = (tt, (tt, (tt, tt)));
      planned = shape;
    })

pub transposed_rank_by_plan : (b h : ℕ) (portions : Portions MatChunk) (c : MatChunk) (x0 x1 x2 x3 : Tree MatChunk) → b ≤ 64 → suc h ≤ 16
    → FitsAt b TRank (suc h) (Root c x0 x1 x2 x3 ∷ [])
    → IsSound arity_of matrices (kind_of TRank (suc h)) (Root c x0 x1 x2 x3 ∷ []) (planned_outcome kind_at (suc h) (plan_of TRank) portions (map presence_of (Root c x0 x1 x2 x3 ∷ [])))
transposed_rank_by_plan b h portions c x0 x1 x2 x3 side low fits =
    let x : Tree MatChunk = Root c x0 x1 x2 x3 in
    let trees : List (Tree MatChunk) = x ∷ [] in
    let known : List Presence = map presence_of trees in
    let kind : MatKind = kind_of TRank (suc h) in
    let rank : ℕ = matrices.rank kind in
    let n : ℕ = side_of b h in
    let ix : (q : ℕ) → IsCanonical b h (child x q) = child_canonical b h x fits.0 in
    let a : ℕ → Matrix = λ q. block_of b h (child x q) in
    let quadrants : QuadrantsFit (a 0) (a 1) (a 2) (a 3) = record {
      upper = (ix 0).sized.tall ∙ sym (ix 1).sized.tall;
      lower = (ix 2).sized.tall ∙ sym (ix 3).sized.tall;
      left = (ix 0).sized.wide ∙ sym (ix 2).sized.wide;
      right = (ix 1).sized.wide ∙ sym (ix 3).sized.wide;
    } in
    let whole : TmulFits (joined (a 0) (a 1) (a 2) (a 3)) (joined (a 0) (a 1) (a 2) (a 3)) = subst (λ (m : Matrix). TmulFits m m) (block_of_quadrants b h x fits.0) fits.1 in
    let four = tmul_fits_on_quadrants (a 0) (a 1) (a 2) (a 3) (a 0) (a 1) (a 2) (a 3) quadrants quadrants refl refl whole in
    let own : (q : ℕ) → TmulFits (a q) (a q) → IsMirrored b h TRank (child x q ∷ []) (tmul_of (a q) (a q)) = λ q fits. mirrored_term b h TRank (child x q ∷ []) (tmul_of (a q) (a q)) (ix q, fits) refl (IsBlock-product n First (a q) (a q) (ix q).sized (ix q).sized fits) (IsSymmetric-tmul_of (a q)) in
    let beside : (p q : ℕ) → TmulFits (a p) (a q) → IsGeneral b h TMul (child x p ∷ child x q ∷ []) (tmul_of (a p) (a q)) = λ p q fits. general_term b h TMul (child x p ∷ child x q ∷ []) (tmul_of (a p) (a q)) (ix p, ix q, fits) refl (IsBlock-product n First (a p) (a q) (ix p).sized (ix q).sized fits) in
    let missing : (q : ℕ) → (has_child (presence_of x) q && true) ≡ false → goal_at b TRank h (child x q ∷ []) ≡ Nothing = child_missing b TRank h (transposed_rank_of_nothing b h) x in
    let absent : (p q : ℕ) → (has_child (presence_of x) p && (has_child (presence_of x) q && true)) ≡ false → goal_at b TMul h (child x p ∷ child x q ∷ []) ≡ Nothing = λ p q e. term_absent b h First (child x p) (child x q) (ix p) (ix q) (ready_is x x p q ∙ e) in
    let l0 : List (Tree MatChunk) = goal_at b TRank h (child x 0 ∷ []) ∷ goal_at b TRank h (child x 2 ∷ []) ∷ [] in
    let l1 : List (Tree MatChunk) = goal_at b TMul h (child x 0 ∷ child x 1 ∷ []) ∷ goal_at b TMul h (child x 2 ∷ child x 3 ∷ []) ∷ [] in
    let l2 : List (Tree MatChunk) = goal_at b TRank h (child x 1 ∷ []) ∷ goal_at b TRank h (child x 3 ∷ []) ∷ [] in
    let t0 : Tree MatChunk = goal_at b SAdd h l0 in
    let t1 : Tree MatChunk = goal_at b Add h l1 in
    let t2 : Tree MatChunk = goal_at b SAdd h l2 in
    let s0 = mirrored_sum b h TRank TRank (child x 0 ∷ []) (child x 2 ∷ []) (tmul_of (a 0) (a 0)) (tmul_of (a 2) (a 2)) four.0.together (own 0 four.0.first) (own 2 four.0.second) in
    let s1 = general_sum b h TMul TMul (child x 0 ∷ child x 1 ∷ []) (child x 2 ∷ child x 3 ∷ []) (tmul_of (a 0) (a 1)) (tmul_of (a 2) (a 3)) four.1.together (beside 0 1 four.1.first) (beside 2 3 four.1.second) in
    let s2 = mirrored_sum b h TRank TRank (child x 1 ∷ []) (child x 3 ∷ []) (tmul_of (a 1) (a 1)) (tmul_of (a 3) (a 3)) four.3.together (own 1 four.3.first) (own 3 four.3.second) in
    let g0 = mirrored_gives b h TRank TRank (child x 0 ∷ []) (child x 2 ∷ []) (tmul_of (a 0) (a 0)) (tmul_of (a 2) (a 2)) four.0.together rank side (omega arith) (omega arith) (omega arith) (omega arith) (has_child (presence_of x) 0 && true) (has_child (presence_of x) 2 && true) (missing 0) (missing 2) (own 0 four.0.first) (own 2 four.0.second) in
    let g1 = general_gives b h TMul TMul (child x 0 ∷ child x 1 ∷ []) (child x 2 ∷ child x 3 ∷ []) (tmul_of (a 0) (a 1)) (tmul_of (a 2) (a 3)) four.1.together rank side (omega arith) (omega arith) (omega arith) (omega arith) (has_child (presence_of x) 0 && (has_child (presence_of x) 1 && true)) (has_child (presence_of x) 2 && (has_child (presence_of x) 3 && true)) (absent 0 1) (absent 2 3) (beside 0 1 four.1.first) (beside 2 3 four.1.second) in
    let g2 = mirrored_gives b h TRank TRank (child x 1 ∷ []) (child x 3 ∷ []) (tmul_of (a 1) (a 1)) (tmul_of (a 3) (a 3)) four.3.together rank side (omega arith) (omega arith) (omega arith) (omega arith) (has_child (presence_of x) 1 && true) (has_child (presence_of x) 3 && true) (missing 1) (missing 3) (own 1 four.3.first) (own 3 four.3.second) in
    let wholes : tmul_of (block_of b (suc h) x) (block_of b (suc h) x) ≡ tmul_of (joined (a 0) (a 1) (a 2) (a 3)) (joined (a 0) (a 1) (a 2) (a 3)) = ap (λ (m : Matrix). tmul_of m m) (block_of_quadrants b h x fits.0) in
    let end = mirrored_ending b h TRank trees SAdd Add SAdd l0 l1 l2 _ _ _ (tmul_of (block_of b (suc h) x) (block_of b (suc h) x)) side low (omega arith) fits refl (wholes ∙ rank_by_columns (a 0) (a 1) (a 2) (a 3) quadrants) s0 s1 s2 in
    let shape : IsOneOf (planned_shape kind_at (suc h) (plan_of TRank) known Absent) (shapes_of kind known) = subst (λ (shapes : List (Shape MatKind)). IsOneOf (planned_shape kind_at (suc h) (plan_of TRank) known Absent) shapes) (sym (shapes_open TRank (suc h) known refl (le-leb (suc h) 16 low))) (inl refl) in
    plan_is_sound arity_of matrices kind_at (suc h) kind (plan_of TRank) portions trees (record {
      few = omega arith;
      trees = t0 ∷ t1 ∷ t2 ∷ [];
      parts = parts_below rank h trees portions (plan_of TRank).parts (t0 ∷ t1 ∷ t2 ∷ []) ((refl, refl, g0), ((refl, refl, g1), ((refl, refl, g2), tt)));
      ending = end;
      chosen = Absent;
      agree = (tt, (tt, (tt, tt)));
      planned = shape;
    })

-- ---- Squares

pub square_by_plan : (b h : ℕ) (portions : Portions MatChunk) (c : MatChunk) (x0 x1 x2 x3 : Tree MatChunk) → b ≤ 64 → suc h ≤ 16
    → FitsAt b Square (suc h) (Root c x0 x1 x2 x3 ∷ [])
    → IsSound arity_of matrices (kind_of Square (suc h)) (Root c x0 x1 x2 x3 ∷ []) (planned_outcome kind_at (suc h) (plan_of Square) portions (map presence_of (Root c x0 x1 x2 x3 ∷ [])))
square_by_plan b h portions c x0 x1 x2 x3 side low fits =
    let x : Tree MatChunk = Root c x0 x1 x2 x3 in
    let trees : List (Tree MatChunk) = x ∷ [] in
    let known : List Presence = map presence_of trees in
    let kind : MatKind = kind_of Square (suc h) in
    let rank : ℕ = matrices.rank kind in
    let n : ℕ = side_of b h in
    let parts = symmetric_children b h x fits.0 in
    let p : Matrix = block_of b h x0 in
    let q : Matrix = block_of b h x1 in
    let r : Matrix = block_of b h x2 in
    let tall : height p ≡ height q = parts.first.sized.tall ∙ sym parts.second.sized.tall in
    let wide : q.columns ≡ height r = parts.second.sized.wide ∙ sym parts.third.sized.tall in
    let quadrants : QuadrantsFit p q (transposed q) r = QuadrantsFit-symmetric p q r parts.first.symmetric parts.third.symmetric tall wide in
    let is : block_of b (suc h) x ≡ joined p q (transposed q) r = block_of_symmetric_children b h x fits.0 in
    let whole : ProductFits (joined p q (transposed q) r) (joined p q (transposed q) r) = subst (λ (m : Matrix). ProductFits m m) is fits.1 in
    let four = product_fits_on_quadrants p q (transposed q) r p q (transposed q) r quadrants quadrants (parts.first.sized.wide ∙ sym parts.first.sized.tall) (sym (height-transposed q)) whole in
    let f0 : IsMirrored b h Square (x0 ∷ []) (times p p) = mirrored_term b h Square (x0 ∷ []) (times p p) (parts.first, four.0.first) refl (IsBlock-product n Neither p p parts.first.sized parts.first.sized four.0.first) (IsSymmetric-times p parts.first.symmetric) in
    let rows : MultFits q q = (mult_fits_is q q refl).1 four.0.second in
    let f1 : IsMirrored b h RankMul (x1 ∷ []) (mult_of q q) = mirrored_term b h RankMul (x1 ∷ []) (mult_of q q) (parts.second, rows) refl (IsBlock-product n Second q q parts.second.sized parts.second.sized rows) (IsSymmetric-mult_of q) in
    let f2 : IsGeneral b h SMul (x0 ∷ x1 ∷ []) (times p q) = general_term b h SMul (x0 ∷ x1 ∷ []) (times p q) (parts.first, parts.second, four.1.first) refl (IsBlock-product n Neither p q parts.first.sized parts.second.sized four.1.first) in
    let f3 : IsGeneral b h MulS (x1 ∷ x2 ∷ []) (times q r) = general_term b h MulS (x1 ∷ x2 ∷ []) (times q r) (parts.second, parts.third, four.1.second) refl (IsBlock-product n Neither q r parts.second.sized parts.third.sized four.1.second) in
    let columns : TmulFits q q = (tmul_fits_is q q).1 four.3.first in
    let f4 : IsMirrored b h TRank (x1 ∷ []) (tmul_of q q) = mirrored_term b h TRank (x1 ∷ []) (tmul_of q q) (parts.second, columns) refl (IsBlock-product n First q q parts.second.sized parts.second.sized columns) (IsSymmetric-tmul_of q) in
    let f5 : IsMirrored b h Square (x2 ∷ []) (times r r) = mirrored_term b h Square (x2 ∷ []) (times r r) (parts.third, four.3.second) refl (IsBlock-product n Neither r r parts.third.sized parts.third.sized four.3.second) (IsSymmetric-times r parts.third.symmetric) in
    let e0 : SumFits (times p p) (mult_of q q) = subst (λ (m : Matrix). SumFits (times p p) m) (sym (mult_is q q refl)) four.0.together in
    let e1 : SumFits (times p q) (times q r) = four.1.together in
    let e2 : SumFits (tmul_of q q) (times r r) = subst (λ (m : Matrix). SumFits m (times r r)) (sym (tmul_is q q)) four.3.together in
    let l0 : List (Tree MatChunk) = goal_at b Square h (x0 ∷ []) ∷ goal_at b RankMul h (x1 ∷ []) ∷ [] in
    let l1 : List (Tree MatChunk) = goal_at b SMul h (x0 ∷ x1 ∷ []) ∷ goal_at b MulS h (x1 ∷ x2 ∷ []) ∷ [] in
    let l2 : List (Tree MatChunk) = goal_at b TRank h (x1 ∷ []) ∷ goal_at b Square h (x2 ∷ []) ∷ [] in
    let t0 : Tree MatChunk = goal_at b SAdd h l0 in
    let t1 : Tree MatChunk = goal_at b Add h l1 in
    let t2 : Tree MatChunk = goal_at b SAdd h l2 in
    let s0 = mirrored_sum b h Square RankMul (x0 ∷ []) (x1 ∷ []) (times p p) (mult_of q q) e0 f0 f1 in
    let s1 = general_sum b h SMul MulS (x0 ∷ x1 ∷ []) (x1 ∷ x2 ∷ []) (times p q) (times q r) e1 f2 f3 in
    let s2 = mirrored_sum b h TRank Square (x1 ∷ []) (x2 ∷ []) (tmul_of q q) (times r r) e2 f4 f5 in
    let g0 = mirrored_gives b h Square RankMul (x0 ∷ []) (x1 ∷ []) (times p p) (mult_of q q) e0 rank side (omega arith) (omega arith) (omega arith) (omega arith) (has_child (presence_of x) 0 && true) (has_child (presence_of x) 1 && true) (child_missing b Square h (square_of_nothing b h) x 0) (child_missing b RankMul h (rank_of_nothing b h) x 1) f0 f1 in
    let g1 = general_gives b h SMul MulS (x0 ∷ x1 ∷ []) (x1 ∷ x2 ∷ []) (times p q) (times q r) e1 rank side (omega arith) (omega arith) (omega arith) (omega arith) (has_child (presence_of x) 0 && (has_child (presence_of x) 1 && true)) (has_child (presence_of x) 1 && (has_child (presence_of x) 2 && true)) (λ e. factor_missing b h x0 x1 parts.first.sized parts.second.sized (ready_is x x 0 1 ∙ e)) (λ e. factor_missing b h x1 x2 parts.second.sized parts.third.sized (ready_is x x 1 2 ∙ e)) f2 f3 in
    let g2 = mirrored_gives b h TRank Square (x1 ∷ []) (x2 ∷ []) (tmul_of q q) (times r r) e2 rank side (omega arith) (omega arith) (omega arith) (omega arith) (has_child (presence_of x) 1 && true) (has_child (presence_of x) 2 && true) (child_missing b TRank h (transposed_rank_of_nothing b h) x 1) (child_missing b Square h (square_of_nothing b h) x 2) f4 f5 in
    let wholes : times (block_of b (suc h) x) (block_of b (suc h) x) ≡ times (joined p q (transposed q) r) (joined p q (transposed q) r) = ap (λ (m : Matrix). times m m) is in
    let end = mirrored_ending b h Square trees SAdd Add SAdd l0 l1 l2 _ _ _ (times (block_of b (suc h) x) (block_of b (suc h) x)) side low (omega arith) fits refl (wholes ∙ symmetric_square p q r parts.first.symmetric parts.third.symmetric tall wide) s0 s1 s2 in
    let shape : IsOneOf (planned_shape kind_at (suc h) (plan_of Square) known Absent) (shapes_of kind known) = subst (λ (shapes : List (Shape MatKind)). IsOneOf (planned_shape kind_at (suc h) (plan_of Square) known Absent) shapes) (sym (shapes_open Square (suc h) known refl (le-leb (suc h) 16 low))) (inl refl) in
    plan_is_sound arity_of matrices kind_at (suc h) kind (plan_of Square) portions trees (record {
      few = omega arith;
      trees = t0 ∷ t1 ∷ t2 ∷ [];
      parts = parts_below rank h trees portions (plan_of Square).parts (t0 ∷ t1 ∷ t2 ∷ []) ((refl, refl, g0), ((refl, refl, g1), ((refl, refl, g2), tt)));
      ending = end;
      chosen = Absent;
      agree = (tt, (tt, (tt, tt)));
      planned = shape;
    })
