-- What products and transposes of height at least 1 answer by their plans is sound.
use Rattle.std.proofs.Common.{◌≡◌, ℕ, suc, ◌+◌, ◌*◌, ◌<◌, ◌≤◌, Bool, true, false, ◌&&◌, List, [], ◌∷◌, map, refl, sym, ap, ap₂, ◌∙◌, subst, subst₂, inl, arith}
use Rattle.std.proofs.lemmas.Bool.{false≢true, le-leb}
use Rattle.task_types.specs.Tree.{Tree, Nothing, Root, child, is_there}
use Rattle.task_types.specs.Presence.{Presence, Absent, presence_of, has_child, all_present}
use Rattle.task_types.specs.Places.{Shape, IsOneOf}
use Rattle.task_types.specs.Sound.{IsSound}
use Rattle.task_plans.specs.declared.portions.Portions.{Portions}
use Rattle.task_plans.specs.Plans.{planned_shape}
use Rattle.task_plans.specs.Sketches.{planned_outcome}
use Rattle.task_plans.specs.Steps.{AloneGives, PairGives, PartGives}
use Rattle.task_plans.proofs.ForOthers.{plan_is_sound}
use Rattle.quad_matrix.specs.declared.chunk.MatChunk.{MatChunk}
use Rattle.quad_matrix.specs.declared.kind.What.TheVariants.{Add, Transpose, Join}
use Rattle.quad_matrix.specs.declared.kind.MatKind.{MatKind}
use Rattle.quad_matrix.specs.Chunks.{arity_of}
use Rattle.quad_matrix.specs.Blocks.{IsCanonical}
use Rattle.quad_matrix.specs.Goals.{kind_of, kind_at, goal_of, goal_at, FitsAt}
use Rattle.quad_matrix.specs.Matrices.{matrices}
use Rattle.quad_matrix.specs.Products.{Turned, Neither, First, Second, product_what, first_child, second_child, product_part, product_plan}
use Rattle.quad_matrix.specs.Plans.{plan_of, shapes_of, transpose_part}
use Rattle.quad_matrix.proofs.ForOthers.{add_canonical, fits_join, add_with_nothing, add_nothing_with, add_nothing, goal_any, child_canonical, child_known}
use Rattle.quad_matrix.proofs.ForOthers.{product_goal, product_goal_is, ProductFitsAt, fits_product, product_fits_at, product_nothing_with, product_with_nothing, term_tree, quadrant_tree, first_term_fits, second_term_fits, quadrant_fits, product_is_join}
use Rattle.quad_matrix.proofs.ForOthers.{transpose_canonical, transpose_of_nothing, child_turned, transpose_is_join}
use Rattle.matrix_tasks.proofs.Joins.{shapes_open}
use Rattle.matrix_tasks.proofs.ByPlan.{may_ask, task_gives, join_gives, parts_below}

-- ---- Terms

-- what the task of a term gives: its goal, where both factors are there, and else nothing
pub term_absent : (b h : ℕ) (turned : Turned) (x y : Tree MatChunk) → IsCanonical b h x → IsCanonical b h y → (is_there x && is_there y) ≡ false → product_goal b h turned x y ≡ Nothing
term_absent b h turned Nothing y ix iy e = product_nothing_with b h turned y iy
term_absent b h turned (Root c x0 x1 x2 x3) Nothing ix iy e = product_with_nothing b h turned (Root c x0 x1 x2 x3) ix
term_absent b h turned (Root c x0 x1 x2 x3) (Root d y0 y1 y2 y3) ix iy e = absurd (false≢true (sym e))

-- a product has its goal
term_goal_is : (b h : ℕ) (turned : Turned) (x y : Tree MatChunk) → ProductFitsAt b h turned x y → goal_of (kind_of (product_what turned) h) (x ∷ y ∷ []) ≡ product_goal b h turned x y
term_goal_is b h turned x y fits =
    goal_any b (product_what turned) h (x ∷ y ∷ []) (product_fits_at b h turned x y fits) ∙ product_goal_is b h turned x y

-- the rank of a product
rank_low : (turned : Turned) (h rank : ℕ) → 4 * h + 2 < rank → matrices.rank (kind_of (product_what turned) h) < rank
rank_low Neither h rank low = low
rank_low First h rank low = low
rank_low Second h rank low = low

-- the sum of two products of which each may be missing
pair_gives : (b h rank : ℕ) (turned : Turned) (x y u v : Tree MatChunk) (a c : Bool) → b ≤ 64 → h ≤ 16 → 4 * h + 2 < rank
    → ProductFitsAt b h turned x y → ProductFitsAt b h turned u v
    → FitsAt b Add h (product_goal b h turned x y ∷ product_goal b h turned u v ∷ [])
    → (is_there x && is_there y) ≡ a → (is_there u && is_there v) ≡ c
    → PairGives matrices rank (kind_of (product_what turned) h) (x ∷ y ∷ []) (kind_of (product_what turned) h) (u ∷ v ∷ []) (kind_of Add h) (goal_at b Add h (product_goal b h turned x y ∷ product_goal b h turned u v ∷ [])) a c
pair_gives b h rank turned x y u v false false side low lower one other both ea ec =
    let first = term_absent b h turned x y one.0 one.1 ea in
    let second = term_absent b h turned u v other.0 other.1 ec in
    sym (ap₂ (λ (s t : Tree MatChunk). goal_at b Add h (s ∷ t ∷ [])) first second ∙ add_nothing b h)
pair_gives b h rank turned x y u v true false side low lower one other both ea ec =
    let g : Tree MatChunk = product_goal b h turned x y in
    let second = term_absent b h turned u v other.0 other.1 ec in
    let fits : FitsAt b Add h (g ∷ Nothing ∷ []) = subst (λ (t : Tree MatChunk). FitsAt b Add h (g ∷ t ∷ [])) second both in
    let sum : goal_at b Add h (g ∷ product_goal b h turned u v ∷ []) ≡ g = ap (λ (t : Tree MatChunk). goal_at b Add h (g ∷ t ∷ [])) second ∙ add_with_nothing b h g fits in
    task_gives b (product_what turned) h rank (x ∷ y ∷ []) (goal_at b Add h (g ∷ product_goal b h turned u v ∷ [])) side low (rank_low turned h rank lower) (product_fits_at b h turned x y one) (product_goal_is b h turned x y ∙ sym sum)
pair_gives b h rank turned x y u v false true side low lower one other both ea ec =
    let g : Tree MatChunk = product_goal b h turned u v in
    let first = term_absent b h turned x y one.0 one.1 ea in
    let fits : FitsAt b Add h (Nothing ∷ g ∷ []) = subst (λ (t : Tree MatChunk). FitsAt b Add h (t ∷ g ∷ [])) first both in
    let sum : goal_at b Add h (product_goal b h turned x y ∷ g ∷ []) ≡ g = ap (λ (t : Tree MatChunk). goal_at b Add h (t ∷ g ∷ [])) first ∙ add_nothing_with b h g fits in
    task_gives b (product_what turned) h rank (u ∷ v ∷ []) (goal_at b Add h (product_goal b h turned x y ∷ g ∷ [])) side low (rank_low turned h rank lower) (product_fits_at b h turned u v other) (product_goal_is b h turned u v ∙ sym sum)
pair_gives b h rank turned x y u v true true side low lower one other both ea ec =
    let kind : MatKind = kind_of (product_what turned) h in
    let first = term_goal_is b h turned x y one in
    let second = term_goal_is b h turned u v other in
    let s : Tree MatChunk = goal_of kind (x ∷ y ∷ []) in
    let t : Tree MatChunk = goal_of kind (u ∷ v ∷ []) in
    let fits : FitsAt b Add h (s ∷ t ∷ []) = subst₂ (λ (s t : Tree MatChunk). FitsAt b Add h (s ∷ t ∷ [])) (sym first) (sym second) both in
    let same : goal_at b Add h (s ∷ t ∷ []) ≡ goal_at b Add h (product_goal b h turned x y ∷ product_goal b h turned u v ∷ []) = ap₂ (λ (s t : Tree MatChunk). goal_at b Add h (s ∷ t ∷ [])) first second in (
      may_ask b (product_what turned) h rank (x ∷ y ∷ []) side low (rank_low turned h rank lower) (product_fits_at b h turned x y one),
      may_ask b (product_what turned) h rank (u ∷ v ∷ []) side low (rank_low turned h rank lower) (product_fits_at b h turned u v other),
      task_gives b Add h rank (s ∷ t ∷ []) (goal_at b Add h (product_goal b h turned x y ∷ product_goal b h turned u v ∷ [])) side low (omega arith) fits same,
    )

-- a test and true
pub and-true : (b : Bool) → (b && true) ≡ b
and-true true = refl
and-true false = refl

-- a term is ready where both children are there
pub ready_is : (x y : Tree MatChunk) (p q : ℕ) → (is_there (child x p) && is_there (child y q)) ≡ (has_child (presence_of x) p && (has_child (presence_of y) q && true))
ready_is x y p q = sym (ap₂ ◌&&◌ (child_known x p) (and-true (has_child (presence_of y) q) ∙ child_known y q))

-- ---- Quadrants

module _ (b h rank : ℕ) (portions : Portions MatChunk) (x y : Tree MatChunk) (side : b ≤ 64) (low : h ≤ 16) (lower : 4 * h + 2 < rank) where
  -- a quadrant gives its tree
  quadrant_gives : (turned : Turned) → ProductFitsAt b (suc h) turned x y → (below right : Bool)
      → PairGives matrices rank (kind_of (product_what turned) h) (child x (first_child turned below false) ∷ child y (second_child turned right false) ∷ [])
      (kind_of (product_what turned) h) (child x (first_child turned below true) ∷ child y (second_child turned right true) ∷ []) (kind_of Add h) (quadrant_tree b h turned x y below right)
      (has_child (presence_of x) (first_child turned below false) && (has_child (presence_of y) (second_child turned right false) && true))
      (has_child (presence_of x) (first_child turned below true) && (has_child (presence_of y) (second_child turned right true) && true))
  quadrant_gives turned fits below right =
      pair_gives b h rank turned (child x (first_child turned below false)) (child y (second_child turned right false)) (child x (first_child turned below true)) (child y (second_child turned right true)) _ _ side low lower
      (first_term_fits b h turned x y fits below right) (second_term_fits b h turned x y fits below right) (quadrant_fits b h turned x y fits below right)
      (ready_is x y (first_child turned below false) (second_child turned right false)) (ready_is x y (first_child turned below true) (second_child turned right true))

  part_gives : (turned : Turned) → ProductFitsAt b (suc h) turned x y → (below right : Bool)
      → PartGives arity_of matrices rank (kind_at h) (x ∷ y ∷ []) portions (product_part turned below right) (quadrant_tree b h turned x y below right)
  part_gives Neither fits below right = (refl, refl, quadrant_gives Neither fits below right)
  part_gives First fits below right = (refl, refl, quadrant_gives First fits below right)
  part_gives Second fits below right = (refl, refl, quadrant_gives Second fits below right)

-- ---- Products

-- the tests of a product's shape
product_shapes : (turned : Turned) (h : ℕ) (x y : Tree MatChunk) → suc h ≤ 16 → all_present (map presence_of (x ∷ y ∷ [])) ≡ true
    → IsOneOf (planned_shape kind_at (suc h) (product_plan turned) (map presence_of (x ∷ y ∷ [])) Absent) (shapes_of (kind_of (product_what turned) (suc h)) (map presence_of (x ∷ y ∷ [])))
product_shapes turned h Nothing y low there = absurd (false≢true there)
product_shapes turned h (Root c x0 x1 x2 x3) Nothing low there = absurd (false≢true there)
product_shapes Neither h (Root c x0 x1 x2 x3) (Root d y0 y1 y2 y3) low there =
    let known : List Presence = map presence_of (Root c x0 x1 x2 x3 ∷ Root d y0 y1 y2 y3 ∷ []) in
    subst (λ (shapes : List (Shape MatKind)). IsOneOf (planned_shape kind_at (suc h) (product_plan Neither) known Absent) shapes) (sym (shapes_open (product_what Neither) (suc h) known refl (le-leb (suc h) 16 low)))
    (inl refl)
product_shapes First h (Root c x0 x1 x2 x3) (Root d y0 y1 y2 y3) low there =
    let known : List Presence = map presence_of (Root c x0 x1 x2 x3 ∷ Root d y0 y1 y2 y3 ∷ []) in
    subst (λ (shapes : List (Shape MatKind)). IsOneOf (planned_shape kind_at (suc h) (product_plan First) known Absent) shapes) (sym (shapes_open (product_what First) (suc h) known refl (le-leb (suc h) 16 low)))
    (inl refl)
product_shapes Second h (Root c x0 x1 x2 x3) (Root d y0 y1 y2 y3) low there =
    let known : List Presence = map presence_of (Root c x0 x1 x2 x3 ∷ Root d y0 y1 y2 y3 ∷ []) in
    subst (λ (shapes : List (Shape MatKind)). IsOneOf (planned_shape kind_at (suc h) (product_plan Second) known Absent) shapes) (sym (shapes_open (product_what Second) (suc h) known refl (le-leb (suc h) 16 low)))
    (inl refl)

-- of each product
abbrev ByPlan : Turned → Type 0
ByPlan turned =
    (b h : ℕ) (portions : Portions MatChunk) (x y : Tree MatChunk) → b ≤ 64 → suc h ≤ 16
    → all_present (map presence_of (x ∷ y ∷ [])) ≡ true → FitsAt b (product_what turned) (suc h) (x ∷ y ∷ [])
    → IsSound arity_of matrices (kind_of (product_what turned) (suc h)) (x ∷ y ∷ []) (planned_outcome kind_at (suc h) (plan_of (product_what turned)) portions (map presence_of (x ∷ y ∷ [])))

-- four quadrants that are canonical join to the goal
module _ (turned : Turned) (b h : ℕ) (portions : Portions MatChunk) (x y : Tree MatChunk) (side : b ≤ 64) (low : suc h ≤ 16) (fits : FitsAt b (product_what turned) (suc h) (x ∷ y ∷ [])) where
  abbrev part : Bool → Bool → Tree MatChunk
  part below right = quadrant_tree b h turned x y below right

  abbrev four : List (Tree MatChunk)
  four = part false false ∷ part false true ∷ part true false ∷ part true true ∷ []

  part_canonical : (below right : Bool) → IsCanonical b h (part below right)
  part_canonical below right =
      add_canonical b h (term_tree b h turned x y below right false) (term_tree b h turned x y below right true) (quadrant_fits b h turned x y (fits_product b (suc h) turned x y fits) below right)

  parts_fit : FitsAt b Join (suc h) four
  parts_fit =
      fits_join b h (part false false) (part false true) (part true false) (part true true) (part_canonical false false) (part_canonical false true) (part_canonical true false) (part_canonical true true)

  parts_goal : goal_at b Join (suc h) four ≡ goal_of (kind_of (product_what turned) (suc h)) (x ∷ y ∷ [])
  parts_goal =
      sym (product_is_join b h turned x y (fits_product b (suc h) turned x y fits)) ∙ sym (product_goal_is b (suc h) turned x y)
      ∙ sym (goal_any b (product_what turned) (suc h) (x ∷ y ∷ []) fits)

-- the rank of a product is above those of the tasks that it asks
rank_high : (turned : Turned) (h : ℕ) → (4 * h + 2 < matrices.rank (kind_of (product_what turned) (suc h))) × (4 * suc h < matrices.rank (kind_of (product_what turned) (suc h)))
rank_high Neither h = (omega arith, omega arith)
rank_high First h = (omega arith, omega arith)
rank_high Second h = (omega arith, omega arith)

-- what the plan of a product makes
plan_made : (turned : Turned) (b h : ℕ) (portions : Portions MatChunk) (x y : Tree MatChunk) → b ≤ 64 → suc h ≤ 16
    → all_present (map presence_of (x ∷ y ∷ [])) ≡ true → FitsAt b (product_what turned) (suc h) (x ∷ y ∷ [])
    → IsSound arity_of matrices (kind_of (product_what turned) (suc h)) (x ∷ y ∷ []) (planned_outcome kind_at (suc h) (product_plan turned) portions (map presence_of (x ∷ y ∷ [])))
plan_made turned b h portions x y side low there fits =
    let trees : List (Tree MatChunk) = x ∷ y ∷ [] in
    let kind : MatKind = kind_of (product_what turned) (suc h) in
    let high = rank_high turned h in
    let gives = part_gives b h (matrices.rank kind) portions x y side (omega arith) high.0 turned (fits_product b (suc h) turned x y fits) in
    let goals : List (Tree MatChunk) = four turned b h portions x y side low fits in
    plan_is_sound arity_of matrices kind_at (suc h) kind (product_plan turned) portions trees (record {
      few = omega arith;
      trees = goals;
      parts = parts_below (matrices.rank kind) h trees portions (product_plan turned).parts goals (gives false false, (gives false true, (gives true false, (gives true true, tt))));
      ending = join_gives b h kind trees (quadrant_tree b h turned x y false false) (quadrant_tree b h turned x y false true) (quadrant_tree b h turned x y true false) (quadrant_tree b h turned x y true true) side low high.1 (parts_fit turned b h portions x y side low fits) (parts_goal turned b h portions x y side low fits);
      chosen = Absent;
      agree = (tt, (tt, (tt, (tt, tt))));
      planned = product_shapes turned h x y low there;
    })

pub product_by_plan : (turned : Turned) → ByPlan turned
product_by_plan Neither = plan_made Neither
product_by_plan First = plan_made First
product_by_plan Second = plan_made Second

-- ---- Transposes

-- the transpose of a child, which may be missing
pub child_gives : (b h rank : ℕ) (x : Tree MatChunk) (a : Bool) → b ≤ 64 → h ≤ 16 → 4 * h + 1 < rank → IsCanonical b h x → is_there x ≡ a
    → AloneGives matrices rank (kind_of Transpose h) (x ∷ []) (goal_at b Transpose h (x ∷ [])) a
child_gives b h rank Nothing false side low lower is e = sym (transpose_of_nothing b h)
child_gives b h rank Nothing true side low lower is e = absurd (false≢true e)
child_gives b h rank (Root c x0 x1 x2 x3) false side low lower is e = absurd (false≢true (sym e))
child_gives b h rank (Root c x0 x1 x2 x3) true side low lower is e =
    let x : Tree MatChunk = Root c x0 x1 x2 x3 in
    task_gives b Transpose h rank (x ∷ []) (goal_at b Transpose h (x ∷ [])) side low lower is refl

pub child_ready : (x : Tree MatChunk) (q : ℕ) → is_there (child x q) ≡ (has_child (presence_of x) q && true)
child_ready x q = sym (and-true (has_child (presence_of x) q) ∙ child_known x q)

pub transpose_by_plan : (b h : ℕ) (portions : Portions MatChunk) (x : Tree MatChunk) → b ≤ 64 → suc h ≤ 16
    → all_present (map presence_of (x ∷ [])) ≡ true → FitsAt b Transpose (suc h) (x ∷ [])
    → IsSound arity_of matrices (kind_of Transpose (suc h)) (x ∷ []) (planned_outcome kind_at (suc h) (plan_of Transpose) portions (map presence_of (x ∷ [])))
transpose_by_plan b h portions Nothing side low there fits = absurd (false≢true there)
transpose_by_plan b h portions (Root c x0 x1 x2 x3) side low there fits =
    let x : Tree MatChunk = Root c x0 x1 x2 x3 in
    let trees : List (Tree MatChunk) = x ∷ [] in
    let known : List Presence = map presence_of trees in
    let kind : MatKind = kind_of Transpose (suc h) in
    let part : ℕ → Tree MatChunk = child_turned b h x in
    let is : (q : ℕ) → IsCanonical b h (child x q) = child_canonical b h x fits in
    let done : (q : ℕ) → IsCanonical b h (part q) = λ q. transpose_canonical b h (child x q) (is q) in
    let four : List (Tree MatChunk) = part 0 ∷ part 2 ∷ part 1 ∷ part 3 ∷ [] in
    let gives : (q : ℕ) → PartGives arity_of matrices (matrices.rank kind) (kind_at h) trees portions (transpose_part q) (part q) = λ q. (refl, child_gives b h (matrices.rank kind) (child x q) (has_child (presence_of x) q && true) side (omega arith) (omega arith) (is q) (child_ready x q)) in
    plan_is_sound arity_of matrices kind_at (suc h) kind (plan_of Transpose) portions trees (record {
      few = omega arith;
      trees = four;
      parts = parts_below (matrices.rank kind) h trees portions (plan_of Transpose).parts four (gives 0, (gives 2, (gives 1, (gives 3, tt))));
      ending = join_gives b h kind trees (part 0) (part 2) (part 1) (part 3) side low (omega arith)
          (fits_join b h (part 0) (part 2) (part 1) (part 3) (done 0) (done 2) (done 1) (done 3))
          (sym (transpose_is_join b h x fits) ∙ sym (goal_any b Transpose (suc h) trees fits));
      chosen = Absent;
      agree = (tt, (tt, (tt, (tt, tt))));
      planned = subst (λ (shapes : List (Shape MatKind)). IsOneOf (planned_shape kind_at (suc h) (plan_of Transpose) known Absent) shapes) (sym (shapes_open Transpose (suc h) known refl (le-leb (suc h) 16 low))) (inl refl);
    })
