-- What products with a symmetric factor, of height at least 1, answer by their plans is sound.
use Rattle.std.proofs.Common.{◌≡◌, ℕ, suc, ◌≤◌, true, ◌&&◌, List, [], ◌∷◌, map, refl, sym, ap₂, ap, ◌∙◌, subst, subst₂, inl, arith}
use Rattle.std.proofs.lemmas.Bool.{le-leb}
use Rattle.dense_def.specs.Matrix.{Matrix, height, plus, times, tmul_of, mult_of, transposed, joined, QuadrantsFit, SumFits, ProductFits}
use Rattle.dense_def.proofs.Blocks.{joined_same}
use Rattle.dense_def.proofs.Operations.{height-transposed, tmul_is, mult_is}
use Rattle.dense_def.proofs.Quadrants.{QuadrantsFit-symmetric, times-joined}
use Rattle.dense_def.proofs.Fits.{product_fits_on_quadrants, tmul_fits_is, mult_fits_is}
use Rattle.chunk_codec.specs.Spots.{side_of}
use Rattle.task_types.specs.Tree.{Tree, Root, child}
use Rattle.task_types.specs.Presence.{Presence, Absent, presence_of, has_child}
use Rattle.task_types.specs.Places.{Shape, IsOneOf}
use Rattle.task_types.specs.Sound.{IsSound}
use Rattle.task_plans.specs.declared.portions.Portions.{Portions}
use Rattle.task_plans.specs.Plans.{planned_shape}
use Rattle.task_plans.specs.Sketches.{planned_outcome}
use Rattle.task_plans.proofs.ForOthers.{plan_is_sound}
use Rattle.quad_matrix.specs.declared.chunk.MatChunk.{MatChunk}
use Rattle.quad_matrix.specs.declared.kind.What.TheVariants.{Add, Mul, TMul, MulT, SMul, MulS}
use Rattle.quad_matrix.specs.declared.kind.MatKind.{MatKind}
use Rattle.quad_matrix.specs.Chunks.{arity_of}
use Rattle.quad_matrix.specs.Blocks.{block_of, IsCanonical}
use Rattle.quad_matrix.specs.Goals.{kind_of, kind_at, goal_at, FitsAt}
use Rattle.quad_matrix.specs.Matrices.{matrices}
use Rattle.quad_matrix.specs.Products.{Neither, First, Second}
use Rattle.quad_matrix.specs.Plans.{plan_of, shapes_of}
use Rattle.quad_matrix.proofs.ForOthers.{IsBlock-product, child_canonical, block_of_quadrants, symmetric_children, block_of_symmetric_children}
use Rattle.matrix_tasks.proofs.ForOthers.{shapes_open, parts_below, ready_is, term_absent}
use Rattle.symm_tasks.proofs.NullInputs.{factor_missing}
use Rattle.symm_tasks.proofs.ProductTerms.{IsGeneral, general_term, general_sum, general_gives, general_ending}

pub symmetric_first_by_plan : (b h : ℕ) (portions : Portions MatChunk) (c : MatChunk) (x0 x1 x2 x3 : Tree MatChunk) (d : MatChunk) (y0 y1 y2 y3 : Tree MatChunk) → b ≤ 64 → suc h ≤ 16
    → FitsAt b SMul (suc h) (Root c x0 x1 x2 x3 ∷ Root d y0 y1 y2 y3 ∷ [])
    → IsSound arity_of matrices (kind_of SMul (suc h)) (Root c x0 x1 x2 x3 ∷ Root d y0 y1 y2 y3 ∷ []) (planned_outcome kind_at (suc h) (plan_of SMul) portions (map presence_of (Root c x0 x1 x2 x3 ∷ Root d y0 y1 y2 y3 ∷ [])))
symmetric_first_by_plan b h portions c x0 x1 x2 x3 d y0 y1 y2 y3 side low fits =
    let x : Tree MatChunk = Root c x0 x1 x2 x3 in
    let y : Tree MatChunk = Root d y0 y1 y2 y3 in
    let trees : List (Tree MatChunk) = x ∷ y ∷ [] in
    let known : List Presence = map presence_of trees in
    let kind : MatKind = kind_of SMul (suc h) in
    let rank : ℕ = matrices.rank kind in
    let n : ℕ = side_of b h in
    let parts = symmetric_children b h x fits.0 in
    let p : Matrix = block_of b h x0 in
    let q : Matrix = block_of b h x1 in
    let r : Matrix = block_of b h x2 in
    let tall : height p ≡ height q = parts.first.sized.tall ∙ sym parts.second.sized.tall in
    let wide : q.columns ≡ height r = parts.second.sized.wide ∙ sym parts.third.sized.tall in
    let mirror : QuadrantsFit p q (transposed q) r = QuadrantsFit-symmetric p q r parts.first.symmetric parts.third.symmetric tall wide in
    let ig : (q : ℕ) → IsCanonical b h (child y q) = child_canonical b h y fits.1 in
    let a : ℕ → Matrix = λ q. block_of b h (child y q) in
    let quadrants : QuadrantsFit (a 0) (a 1) (a 2) (a 3) = record {
      upper = (ig 0).sized.tall ∙ sym (ig 1).sized.tall;
      lower = (ig 2).sized.tall ∙ sym (ig 3).sized.tall;
      left = (ig 0).sized.wide ∙ sym (ig 2).sized.wide;
      right = (ig 1).sized.wide ∙ sym (ig 3).sized.wide;
    } in
    let es : block_of b (suc h) x ≡ joined p q (transposed q) r = block_of_symmetric_children b h x fits.0 in
    let eg : block_of b (suc h) y ≡ joined (a 0) (a 1) (a 2) (a 3) = block_of_quadrants b h y fits.1 in
    let near : p.columns ≡ height (a 0) = parts.first.sized.wide ∙ sym (ig 0).sized.tall in
    let far : q.columns ≡ height (a 2) = parts.second.sized.wide ∙ sym (ig 2).sized.tall in
    let whole : ProductFits (joined p q (transposed q) r) (joined (a 0) (a 1) (a 2) (a 3)) = subst₂ ProductFits es eg fits.2 in
    let four = product_fits_on_quadrants p q (transposed q) r (a 0) (a 1) (a 2) (a 3) mirror quadrants near far whole in
    let f00 : IsGeneral b h SMul (x0 ∷ y0 ∷ []) (times p (a 0)) = general_term b h SMul (x0 ∷ y0 ∷ []) (times p (a 0)) (parts.first, ig 0, four.0.first) refl (IsBlock-product n Neither p (a 0) parts.first.sized (ig 0).sized four.0.first) in
    let f01 : IsGeneral b h Mul (x1 ∷ y2 ∷ []) (times q (a 2)) = general_term b h Mul (x1 ∷ y2 ∷ []) (times q (a 2)) (parts.second, ig 2, four.0.second) refl (IsBlock-product n Neither q (a 2) parts.second.sized (ig 2).sized four.0.second) in
    let l0 : List (Tree MatChunk) = goal_at b SMul h (x0 ∷ y0 ∷ []) ∷ goal_at b Mul h (x1 ∷ y2 ∷ []) ∷ [] in
    let t0 : Tree MatChunk = goal_at b Add h l0 in
    let s0 = general_sum b h SMul Mul (x0 ∷ y0 ∷ []) (x1 ∷ y2 ∷ []) (times p (a 0)) (times q (a 2)) four.0.together f00 f01 in
    let g0 = general_gives b h SMul Mul (x0 ∷ y0 ∷ []) (x1 ∷ y2 ∷ []) (times p (a 0)) (times q (a 2)) four.0.together rank side (omega arith) (omega arith) (omega arith) (omega arith) (has_child (presence_of x) 0 && (has_child (presence_of y) 0 && true)) (has_child (presence_of x) 1 && (has_child (presence_of y) 2 && true)) (λ e. factor_missing b h x0 y0 parts.first.sized (ig 0).sized (ready_is x y 0 0 ∙ e)) (λ e. factor_missing b h x1 y2 parts.second.sized (ig 2).sized (ready_is x y 1 2 ∙ e)) f00 f01 in
    let f10 : IsGeneral b h SMul (x0 ∷ y1 ∷ []) (times p (a 1)) = general_term b h SMul (x0 ∷ y1 ∷ []) (times p (a 1)) (parts.first, ig 1, four.1.first) refl (IsBlock-product n Neither p (a 1) parts.first.sized (ig 1).sized four.1.first) in
    let f11 : IsGeneral b h Mul (x1 ∷ y3 ∷ []) (times q (a 3)) = general_term b h Mul (x1 ∷ y3 ∷ []) (times q (a 3)) (parts.second, ig 3, four.1.second) refl (IsBlock-product n Neither q (a 3) parts.second.sized (ig 3).sized four.1.second) in
    let l1 : List (Tree MatChunk) = goal_at b SMul h (x0 ∷ y1 ∷ []) ∷ goal_at b Mul h (x1 ∷ y3 ∷ []) ∷ [] in
    let t1 : Tree MatChunk = goal_at b Add h l1 in
    let s1 = general_sum b h SMul Mul (x0 ∷ y1 ∷ []) (x1 ∷ y3 ∷ []) (times p (a 1)) (times q (a 3)) four.1.together f10 f11 in
    let g1 = general_gives b h SMul Mul (x0 ∷ y1 ∷ []) (x1 ∷ y3 ∷ []) (times p (a 1)) (times q (a 3)) four.1.together rank side (omega arith) (omega arith) (omega arith) (omega arith) (has_child (presence_of x) 0 && (has_child (presence_of y) 1 && true)) (has_child (presence_of x) 1 && (has_child (presence_of y) 3 && true)) (λ e. factor_missing b h x0 y1 parts.first.sized (ig 1).sized (ready_is x y 0 1 ∙ e)) (λ e. factor_missing b h x1 y3 parts.second.sized (ig 3).sized (ready_is x y 1 3 ∙ e)) f10 f11 in
    let f20 : IsGeneral b h TMul (x1 ∷ y0 ∷ []) (tmul_of q (a 0)) = general_term b h TMul (x1 ∷ y0 ∷ []) (tmul_of q (a 0)) (parts.second, ig 0, ((tmul_fits_is q (a 0)).1 four.2.first)) refl (IsBlock-product n First q (a 0) parts.second.sized (ig 0).sized ((tmul_fits_is q (a 0)).1 four.2.first)) in
    let f21 : IsGeneral b h SMul (x2 ∷ y2 ∷ []) (times r (a 2)) = general_term b h SMul (x2 ∷ y2 ∷ []) (times r (a 2)) (parts.third, ig 2, four.2.second) refl (IsBlock-product n Neither r (a 2) parts.third.sized (ig 2).sized four.2.second) in
    let l2 : List (Tree MatChunk) = goal_at b TMul h (x1 ∷ y0 ∷ []) ∷ goal_at b SMul h (x2 ∷ y2 ∷ []) ∷ [] in
    let t2 : Tree MatChunk = goal_at b Add h l2 in
    let s2 = general_sum b h TMul SMul (x1 ∷ y0 ∷ []) (x2 ∷ y2 ∷ []) (tmul_of q (a 0)) (times r (a 2)) (subst (λ (m : Matrix). SumFits m (times r (a 2))) (sym (tmul_is q (a 0))) four.2.together) f20 f21 in
    let g2 = general_gives b h TMul SMul (x1 ∷ y0 ∷ []) (x2 ∷ y2 ∷ []) (tmul_of q (a 0)) (times r (a 2)) (subst (λ (m : Matrix). SumFits m (times r (a 2))) (sym (tmul_is q (a 0))) four.2.together) rank side (omega arith) (omega arith) (omega arith) (omega arith) (has_child (presence_of x) 1 && (has_child (presence_of y) 0 && true)) (has_child (presence_of x) 2 && (has_child (presence_of y) 2 && true)) (λ e. term_absent b h First x1 y0 parts.second (ig 0) (ready_is x y 1 0 ∙ e)) (λ e. factor_missing b h x2 y2 parts.third.sized (ig 2).sized (ready_is x y 2 2 ∙ e)) f20 f21 in
    let f30 : IsGeneral b h TMul (x1 ∷ y1 ∷ []) (tmul_of q (a 1)) = general_term b h TMul (x1 ∷ y1 ∷ []) (tmul_of q (a 1)) (parts.second, ig 1, ((tmul_fits_is q (a 1)).1 four.3.first)) refl (IsBlock-product n First q (a 1) parts.second.sized (ig 1).sized ((tmul_fits_is q (a 1)).1 four.3.first)) in
    let f31 : IsGeneral b h SMul (x2 ∷ y3 ∷ []) (times r (a 3)) = general_term b h SMul (x2 ∷ y3 ∷ []) (times r (a 3)) (parts.third, ig 3, four.3.second) refl (IsBlock-product n Neither r (a 3) parts.third.sized (ig 3).sized four.3.second) in
    let l3 : List (Tree MatChunk) = goal_at b TMul h (x1 ∷ y1 ∷ []) ∷ goal_at b SMul h (x2 ∷ y3 ∷ []) ∷ [] in
    let t3 : Tree MatChunk = goal_at b Add h l3 in
    let s3 = general_sum b h TMul SMul (x1 ∷ y1 ∷ []) (x2 ∷ y3 ∷ []) (tmul_of q (a 1)) (times r (a 3)) (subst (λ (m : Matrix). SumFits m (times r (a 3))) (sym (tmul_is q (a 1))) four.3.together) f30 f31 in
    let g3 = general_gives b h TMul SMul (x1 ∷ y1 ∷ []) (x2 ∷ y3 ∷ []) (tmul_of q (a 1)) (times r (a 3)) (subst (λ (m : Matrix). SumFits m (times r (a 3))) (sym (tmul_is q (a 1))) four.3.together) rank side (omega arith) (omega arith) (omega arith) (omega arith) (has_child (presence_of x) 1 && (has_child (presence_of y) 1 && true)) (has_child (presence_of x) 2 && (has_child (presence_of y) 3 && true)) (λ e. term_absent b h First x1 y1 parts.second (ig 1) (ready_is x y 1 1 ∙ e)) (λ e. factor_missing b h x2 y3 parts.third.sized (ig 3).sized (ready_is x y 2 3 ∙ e)) f30 f31 in
    let is : times (block_of b (suc h) x) (block_of b (suc h) y) ≡ joined (plus (times p (a 0)) (times q (a 2))) (plus (times p (a 1)) (times q (a 3))) (plus (tmul_of q (a 0)) (times r (a 2))) (plus (tmul_of q (a 1)) (times r (a 3))) = ap₂ times es eg ∙ times-joined p q (transposed q) r (a 0) (a 1) (a 2) (a 3) mirror quadrants near far ∙ joined_same _ _ _ _ (plus (times p (a 0)) (times q (a 2))) (plus (times p (a 1)) (times q (a 3))) (plus (tmul_of q (a 0)) (times r (a 2))) (plus (tmul_of q (a 1)) (times r (a 3))) refl refl (ap (λ (m : Matrix). plus m (times r (a 2))) (sym (tmul_is q (a 0)))) (ap (λ (m : Matrix). plus m (times r (a 3))) (sym (tmul_is q (a 1)))) in
    let end = general_ending b h SMul trees l0 l1 l2 l3 _ _ _ _ (times (block_of b (suc h) x) (block_of b (suc h) y)) side low (omega arith) fits refl is s0 s1 s2 s3 in
    let shape : IsOneOf (planned_shape kind_at (suc h) (plan_of SMul) known Absent) (shapes_of kind known) = subst (λ (shapes : List (Shape MatKind)). IsOneOf (planned_shape kind_at (suc h) (plan_of SMul) known Absent) shapes) (sym (shapes_open SMul (suc h) known refl (le-leb (suc h) 16 low))) (inl refl) in
    plan_is_sound arity_of matrices kind_at (suc h) kind (plan_of SMul) portions trees (record {
      few = omega arith;
      trees = t0 ∷ t1 ∷ t2 ∷ t3 ∷ [];
      parts = parts_below rank h trees portions (plan_of SMul).parts (t0 ∷ t1 ∷ t2 ∷ t3 ∷ []) ((refl, refl, g0), ((refl, refl, g1), ((refl, refl, g2), ((refl, refl, g3), tt))));
      ending = end;
      chosen = Absent;
      agree = (tt, (tt, (tt, (tt, tt))));
      planned = shape;
    })

pub symmetric_second_by_plan : (b h : ℕ) (portions : Portions MatChunk) (c : MatChunk) (x0 x1 x2 x3 : Tree MatChunk) (d : MatChunk) (y0 y1 y2 y3 : Tree MatChunk) → b ≤ 64 → suc h ≤ 16
    → FitsAt b MulS (suc h) (Root c x0 x1 x2 x3 ∷ Root d y0 y1 y2 y3 ∷ [])
    → IsSound arity_of matrices (kind_of MulS (suc h)) (Root c x0 x1 x2 x3 ∷ Root d y0 y1 y2 y3 ∷ []) (planned_outcome kind_at (suc h) (plan_of MulS) portions (map presence_of (Root c x0 x1 x2 x3 ∷ Root d y0 y1 y2 y3 ∷ [])))
symmetric_second_by_plan b h portions c x0 x1 x2 x3 d y0 y1 y2 y3 side low fits =
    let x : Tree MatChunk = Root c x0 x1 x2 x3 in
    let y : Tree MatChunk = Root d y0 y1 y2 y3 in
    let trees : List (Tree MatChunk) = x ∷ y ∷ [] in
    let known : List Presence = map presence_of trees in
    let kind : MatKind = kind_of MulS (suc h) in
    let rank : ℕ = matrices.rank kind in
    let n : ℕ = side_of b h in
    let parts = symmetric_children b h y fits.1 in
    let p : Matrix = block_of b h y0 in
    let q : Matrix = block_of b h y1 in
    let r : Matrix = block_of b h y2 in
    let tall : height p ≡ height q = parts.first.sized.tall ∙ sym parts.second.sized.tall in
    let wide : q.columns ≡ height r = parts.second.sized.wide ∙ sym parts.third.sized.tall in
    let mirror : QuadrantsFit p q (transposed q) r = QuadrantsFit-symmetric p q r parts.first.symmetric parts.third.symmetric tall wide in
    let ig : (q : ℕ) → IsCanonical b h (child x q) = child_canonical b h x fits.0 in
    let a : ℕ → Matrix = λ q. block_of b h (child x q) in
    let quadrants : QuadrantsFit (a 0) (a 1) (a 2) (a 3) = record {
      upper = (ig 0).sized.tall ∙ sym (ig 1).sized.tall;
      lower = (ig 2).sized.tall ∙ sym (ig 3).sized.tall;
      left = (ig 0).sized.wide ∙ sym (ig 2).sized.wide;
      right = (ig 1).sized.wide ∙ sym (ig 3).sized.wide;
    } in
    let es : block_of b (suc h) y ≡ joined p q (transposed q) r = block_of_symmetric_children b h y fits.1 in
    let eg : block_of b (suc h) x ≡ joined (a 0) (a 1) (a 2) (a 3) = block_of_quadrants b h x fits.0 in
    let near : (a 0).columns ≡ height p = (ig 0).sized.wide ∙ sym parts.first.sized.tall in
    let far : (a 1).columns ≡ height (transposed q) = (ig 1).sized.wide ∙ sym parts.second.sized.wide ∙ sym (height-transposed q) in
    let whole : ProductFits (joined (a 0) (a 1) (a 2) (a 3)) (joined p q (transposed q) r) = subst₂ ProductFits eg es fits.2 in
    let four = product_fits_on_quadrants (a 0) (a 1) (a 2) (a 3) p q (transposed q) r quadrants mirror near far whole in
    let f00 : IsGeneral b h MulS (x0 ∷ y0 ∷ []) (times (a 0) p) = general_term b h MulS (x0 ∷ y0 ∷ []) (times (a 0) p) (ig 0, parts.first, four.0.first) refl (IsBlock-product n Neither (a 0) p (ig 0).sized parts.first.sized four.0.first) in
    let f01 : IsGeneral b h MulT (x1 ∷ y1 ∷ []) (mult_of (a 1) q) = general_term b h MulT (x1 ∷ y1 ∷ []) (mult_of (a 1) q) (ig 1, parts.second, ((mult_fits_is (a 1) q ((ig 1).sized.wide ∙ sym parts.second.sized.wide)).1 four.0.second)) refl (IsBlock-product n Second (a 1) q (ig 1).sized parts.second.sized ((mult_fits_is (a 1) q ((ig 1).sized.wide ∙ sym parts.second.sized.wide)).1 four.0.second)) in
    let l0 : List (Tree MatChunk) = goal_at b MulS h (x0 ∷ y0 ∷ []) ∷ goal_at b MulT h (x1 ∷ y1 ∷ []) ∷ [] in
    let t0 : Tree MatChunk = goal_at b Add h l0 in
    let s0 = general_sum b h MulS MulT (x0 ∷ y0 ∷ []) (x1 ∷ y1 ∷ []) (times (a 0) p) (mult_of (a 1) q) (subst (λ (m : Matrix). SumFits (times (a 0) p) m) (sym (mult_is (a 1) q ((ig 1).sized.wide ∙ sym parts.second.sized.wide))) four.0.together) f00 f01 in
    let g0 = general_gives b h MulS MulT (x0 ∷ y0 ∷ []) (x1 ∷ y1 ∷ []) (times (a 0) p) (mult_of (a 1) q) (subst (λ (m : Matrix). SumFits (times (a 0) p) m) (sym (mult_is (a 1) q ((ig 1).sized.wide ∙ sym parts.second.sized.wide))) four.0.together) rank side (omega arith) (omega arith) (omega arith) (omega arith) (has_child (presence_of x) 0 && (has_child (presence_of y) 0 && true)) (has_child (presence_of x) 1 && (has_child (presence_of y) 1 && true)) (λ e. factor_missing b h x0 y0 (ig 0).sized parts.first.sized (ready_is x y 0 0 ∙ e)) (λ e. term_absent b h Second x1 y1 (ig 1) parts.second (ready_is x y 1 1 ∙ e)) f00 f01 in
    let f10 : IsGeneral b h Mul (x0 ∷ y1 ∷ []) (times (a 0) q) = general_term b h Mul (x0 ∷ y1 ∷ []) (times (a 0) q) (ig 0, parts.second, four.1.first) refl (IsBlock-product n Neither (a 0) q (ig 0).sized parts.second.sized four.1.first) in
    let f11 : IsGeneral b h MulS (x1 ∷ y2 ∷ []) (times (a 1) r) = general_term b h MulS (x1 ∷ y2 ∷ []) (times (a 1) r) (ig 1, parts.third, four.1.second) refl (IsBlock-product n Neither (a 1) r (ig 1).sized parts.third.sized four.1.second) in
    let l1 : List (Tree MatChunk) = goal_at b Mul h (x0 ∷ y1 ∷ []) ∷ goal_at b MulS h (x1 ∷ y2 ∷ []) ∷ [] in
    let t1 : Tree MatChunk = goal_at b Add h l1 in
    let s1 = general_sum b h Mul MulS (x0 ∷ y1 ∷ []) (x1 ∷ y2 ∷ []) (times (a 0) q) (times (a 1) r) four.1.together f10 f11 in
    let g1 = general_gives b h Mul MulS (x0 ∷ y1 ∷ []) (x1 ∷ y2 ∷ []) (times (a 0) q) (times (a 1) r) four.1.together rank side (omega arith) (omega arith) (omega arith) (omega arith) (has_child (presence_of x) 0 && (has_child (presence_of y) 1 && true)) (has_child (presence_of x) 1 && (has_child (presence_of y) 2 && true)) (λ e. factor_missing b h x0 y1 (ig 0).sized parts.second.sized (ready_is x y 0 1 ∙ e)) (λ e. factor_missing b h x1 y2 (ig 1).sized parts.third.sized (ready_is x y 1 2 ∙ e)) f10 f11 in
    let f20 : IsGeneral b h MulS (x2 ∷ y0 ∷ []) (times (a 2) p) = general_term b h MulS (x2 ∷ y0 ∷ []) (times (a 2) p) (ig 2, parts.first, four.2.first) refl (IsBlock-product n Neither (a 2) p (ig 2).sized parts.first.sized four.2.first) in
    let f21 : IsGeneral b h MulT (x3 ∷ y1 ∷ []) (mult_of (a 3) q) = general_term b h MulT (x3 ∷ y1 ∷ []) (mult_of (a 3) q) (ig 3, parts.second, ((mult_fits_is (a 3) q ((ig 3).sized.wide ∙ sym parts.second.sized.wide)).1 four.2.second)) refl (IsBlock-product n Second (a 3) q (ig 3).sized parts.second.sized ((mult_fits_is (a 3) q ((ig 3).sized.wide ∙ sym parts.second.sized.wide)).1 four.2.second)) in
    let l2 : List (Tree MatChunk) = goal_at b MulS h (x2 ∷ y0 ∷ []) ∷ goal_at b MulT h (x3 ∷ y1 ∷ []) ∷ [] in
    let t2 : Tree MatChunk = goal_at b Add h l2 in
    let s2 = general_sum b h MulS MulT (x2 ∷ y0 ∷ []) (x3 ∷ y1 ∷ []) (times (a 2) p) (mult_of (a 3) q) (subst (λ (m : Matrix). SumFits (times (a 2) p) m) (sym (mult_is (a 3) q ((ig 3).sized.wide ∙ sym parts.second.sized.wide))) four.2.together) f20 f21 in
    let g2 = general_gives b h MulS MulT (x2 ∷ y0 ∷ []) (x3 ∷ y1 ∷ []) (times (a 2) p) (mult_of (a 3) q) (subst (λ (m : Matrix). SumFits (times (a 2) p) m) (sym (mult_is (a 3) q ((ig 3).sized.wide ∙ sym parts.second.sized.wide))) four.2.together) rank side (omega arith) (omega arith) (omega arith) (omega arith) (has_child (presence_of x) 2 && (has_child (presence_of y) 0 && true)) (has_child (presence_of x) 3 && (has_child (presence_of y) 1 && true)) (λ e. factor_missing b h x2 y0 (ig 2).sized parts.first.sized (ready_is x y 2 0 ∙ e)) (λ e. term_absent b h Second x3 y1 (ig 3) parts.second (ready_is x y 3 1 ∙ e)) f20 f21 in
    let f30 : IsGeneral b h Mul (x2 ∷ y1 ∷ []) (times (a 2) q) = general_term b h Mul (x2 ∷ y1 ∷ []) (times (a 2) q) (ig 2, parts.second, four.3.first) refl (IsBlock-product n Neither (a 2) q (ig 2).sized parts.second.sized four.3.first) in
    let f31 : IsGeneral b h MulS (x3 ∷ y2 ∷ []) (times (a 3) r) = general_term b h MulS (x3 ∷ y2 ∷ []) (times (a 3) r) (ig 3, parts.third, four.3.second) refl (IsBlock-product n Neither (a 3) r (ig 3).sized parts.third.sized four.3.second) in
    let l3 : List (Tree MatChunk) = goal_at b Mul h (x2 ∷ y1 ∷ []) ∷ goal_at b MulS h (x3 ∷ y2 ∷ []) ∷ [] in
    let t3 : Tree MatChunk = goal_at b Add h l3 in
    let s3 = general_sum b h Mul MulS (x2 ∷ y1 ∷ []) (x3 ∷ y2 ∷ []) (times (a 2) q) (times (a 3) r) four.3.together f30 f31 in
    let g3 = general_gives b h Mul MulS (x2 ∷ y1 ∷ []) (x3 ∷ y2 ∷ []) (times (a 2) q) (times (a 3) r) four.3.together rank side (omega arith) (omega arith) (omega arith) (omega arith) (has_child (presence_of x) 2 && (has_child (presence_of y) 1 && true)) (has_child (presence_of x) 3 && (has_child (presence_of y) 2 && true)) (λ e. factor_missing b h x2 y1 (ig 2).sized parts.second.sized (ready_is x y 2 1 ∙ e)) (λ e. factor_missing b h x3 y2 (ig 3).sized parts.third.sized (ready_is x y 3 2 ∙ e)) f30 f31 in
    let is : times (block_of b (suc h) x) (block_of b (suc h) y) ≡ joined (plus (times (a 0) p) (mult_of (a 1) q)) (plus (times (a 0) q) (times (a 1) r)) (plus (times (a 2) p) (mult_of (a 3) q)) (plus (times (a 2) q) (times (a 3) r)) = ap₂ times eg es ∙ times-joined (a 0) (a 1) (a 2) (a 3) p q (transposed q) r quadrants mirror near far ∙ joined_same _ _ _ _ (plus (times (a 0) p) (mult_of (a 1) q)) (plus (times (a 0) q) (times (a 1) r)) (plus (times (a 2) p) (mult_of (a 3) q)) (plus (times (a 2) q) (times (a 3) r)) (ap (λ (m : Matrix). plus (times (a 0) p) m) (sym (mult_is (a 1) q ((ig 1).sized.wide ∙ sym parts.second.sized.wide)))) refl (ap (λ (m : Matrix). plus (times (a 2) p) m) (sym (mult_is (a 3) q ((ig 3).sized.wide ∙ sym parts.second.sized.wide)))) refl in
    let end = general_ending b h MulS trees l0 l1 l2 l3 _ _ _ _ (times (block_of b (suc h) x) (block_of b (suc h) y)) side low (omega arith) fits refl is s0 s1 s2 s3 in
    let shape : IsOneOf (planned_shape kind_at (suc h) (plan_of MulS) known Absent) (shapes_of kind known) = subst (λ (shapes : List (Shape MatKind)). IsOneOf (planned_shape kind_at (suc h) (plan_of MulS) known Absent) shapes) (sym (shapes_open MulS (suc h) known refl (le-leb (suc h) 16 low))) (inl refl) in
    plan_is_sound arity_of matrices kind_at (suc h) kind (plan_of MulS) portions trees (record {
      few = omega arith;
      trees = t0 ∷ t1 ∷ t2 ∷ t3 ∷ [];
      parts = parts_below rank h trees portions (plan_of MulS).parts (t0 ∷ t1 ∷ t2 ∷ t3 ∷ []) ((refl, refl, g0), ((refl, refl, g1), ((refl, refl, g2), ((refl, refl, g3), tt))));
      ending = end;
      chosen = Absent;
      agree = (tt, (tt, (tt, (tt, tt))));
      planned = shape;
    })
