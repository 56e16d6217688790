-- What sums and traces of height at least 1 answer by their plans is sound.
use Rattle.std.proofs.Common.{◌≡◌, ℕ, suc, ◌+◌, ◌-◌, ◌*◌, ◌<◌, ◌≤◌, true, ◌&&◌, List, [], ◌∷◌, map, refl, sym, ap, ◌∙◌, subst, inl, arith}
use Rattle.std.specs.List.{AllByRecursion}
use Rattle.std.proofs.lemmas.Bool.{false≢true, le-leb}
use Rattle.task_types.specs.Tree.{Tree, Nothing, Root, child, is_there}
use Rattle.task_types.specs.Presence.{Presence, Absent, presence_of, all_present}
use Rattle.task_types.specs.Places.{Shape, IsOneOf}
use Rattle.task_types.specs.Sound.{IsSound}
use Rattle.task_plans.specs.declared.portions.Portions.{Portions}
use Rattle.task_plans.specs.declared.plan.Part.{Part}
use Rattle.task_plans.specs.declared.plan.Ending.TheVariants.{Joined}
use Rattle.task_plans.specs.Plans.{planned_shape}
use Rattle.task_plans.specs.Sketches.{planned_outcome}
use Rattle.task_plans.specs.Steps.{MayAsk, TaskGives, EitherGives, PairGives, PartsGive, EndingGives}
use Rattle.task_plans.proofs.ForOthers.{plan_is_sound}
use Rattle.quad_matrix.specs.declared.chunk.MatChunk.{MatChunk}
use Rattle.quad_matrix.specs.declared.kind.What.{What}
use Rattle.quad_matrix.specs.declared.kind.What.TheVariants.{Add, Join, Trace, AddNum}
use Rattle.quad_matrix.specs.declared.kind.MatKind.{MatKind}
use Rattle.quad_matrix.specs.Chunks.{arity_of}
use Rattle.quad_matrix.specs.Blocks.{IsCanonical}
use Rattle.quad_matrix.specs.Goals.{kind_of, kind_at, goal_of, goal_at, FitsAt}
use Rattle.quad_matrix.specs.Matrices.{matrices}
use Rattle.quad_matrix.specs.Plans.{plan_of, shapes_of}
use Rattle.quad_matrix.proofs.ForOthers.{suc-sub_one, add_canonical, fits_join, child_sum, add_on_children, add_is_join, add_with_nothing, add_nothing_with, add_nothing, trace_first, trace_last, trace_fits, trace_on_children, trace_of_nothing, addnum_with_nothing, addnum_nothing_with, goal_any, join_goal_nothing}
use Rattle.matrix_tasks.proofs.Joins.{shapes_open}

-- a kind whose trees fit may be asked
pub may_ask : (b : ℕ) (what : What) (h rank : ℕ) (trees : List (Tree MatChunk)) → b ≤ 64 → h ≤ 16 → matrices.rank (kind_of what h) < rank → FitsAt b what h trees
    → MayAsk matrices rank (kind_of what h) trees
may_ask b what h rank trees side low lower fits =
    record { defined = record { low = low; leaf = b; leaf_high = side; fits = fits }; lower = lower }

-- and gives its goal at the side of the leaves
pub task_gives : (b : ℕ) (what : What) (h rank : ℕ) (trees : List (Tree MatChunk)) (wanted : Tree MatChunk) → b ≤ 64 → h ≤ 16 → matrices.rank (kind_of what h) < rank → FitsAt b what h trees
    → goal_at b what h trees ≡ wanted → TaskGives matrices rank (kind_of what h) trees wanted
task_gives b what h rank trees wanted side low lower fits goal =
    record { may = may_ask b what h rank trees side low lower fits; same = goal_any b what h trees fits ∙ goal }

-- a join of four canonical trees gives the goal
pub join_gives : (b h : ℕ) (kind : MatKind) (inputs : List (Tree MatChunk)) (x y z w : Tree MatChunk) → b ≤ 64 → suc h ≤ 16 → 4 * suc h < matrices.rank kind
    → FitsAt b Join (suc h) (x ∷ y ∷ z ∷ w ∷ []) → goal_at b Join (suc h) (x ∷ y ∷ z ∷ w ∷ []) ≡ goal_of kind inputs
    → EndingGives matrices kind (kind_at (suc h)) inputs (Joined Join) (x ∷ y ∷ z ∷ w ∷ [])
join_gives b h kind inputs x y z w side low lower fits goal =
    let trees : List (Tree MatChunk) = x ∷ y ∷ z ∷ w ∷ [] in (
      task_gives b Join (suc h) (matrices.rank kind) trees (goal_of kind inputs) side low lower fits goal,
      λ (all : AllByRecursion (λ (tree : Tree MatChunk). tree ≡ Nothing) trees). let none : goal_at b Join (suc h) (Nothing ∷ Nothing ∷ Nothing ∷ Nothing ∷ []) ≡ goal_at b Join (suc h) trees = cc (all.0, all.1.0, all.1.1.0, all.1.1.1.0) in sym (join_goal_nothing b h) ∙ none ∙ goal,
    )

-- parts one level below
pub parts_below : (rank h : ℕ) (inputs : List (Tree MatChunk)) (portions : Portions MatChunk) (parts : List (Part What)) (trees : List (Tree MatChunk))
    → PartsGive arity_of matrices rank (kind_at h) inputs portions parts trees → PartsGive arity_of matrices rank (kind_at (suc h - 1)) inputs portions parts trees
parts_below rank h inputs portions parts trees gives =
    subst (λ low. PartsGive arity_of matrices rank (kind_at low) inputs portions parts trees) (sym (suc-sub_one h)) gives

-- ---- Sums

-- the sum of two children, of which one may be missing
pub add_gives : (b h rank : ℕ) (x y : Tree MatChunk) → b ≤ 64 → h ≤ 16 → 4 * h + 1 < rank → FitsAt b Add h (x ∷ y ∷ [])
    → EitherGives matrices rank (kind_of Add h) x y (goal_at b Add h (x ∷ y ∷ [])) (is_there x) (is_there y)
add_gives b h rank Nothing Nothing side low lower fits = sym (add_nothing b h)
add_gives b h rank (Root c x0 x1 x2 x3) Nothing side low lower fits = sym (add_with_nothing b h (Root c x0 x1 x2 x3) fits)
add_gives b h rank Nothing (Root d y0 y1 y2 y3) side low lower fits = sym (add_nothing_with b h (Root d y0 y1 y2 y3) fits)
add_gives b h rank (Root c x0 x1 x2 x3) (Root d y0 y1 y2 y3) side low lower fits =
    task_gives b Add h rank (Root c x0 x1 x2 x3 ∷ Root d y0 y1 y2 y3 ∷ []) (goal_at b Add h (Root c x0 x1 x2 x3 ∷ Root d y0 y1 y2 y3 ∷ [])) side low lower fits refl

add_shape : (h : ℕ) (x y : Tree MatChunk) → suc h ≤ 16 → all_present (map presence_of (x ∷ y ∷ [])) ≡ true
    → IsOneOf (planned_shape kind_at (suc h) (plan_of Add) (map presence_of (x ∷ y ∷ [])) Absent) (shapes_of (kind_of Add (suc h)) (map presence_of (x ∷ y ∷ [])))
add_shape h Nothing y low there = absurd (false≢true there)
add_shape h (Root c x0 x1 x2 x3) Nothing low there = absurd (false≢true there)
add_shape h (Root c x0 x1 x2 x3) (Root d y0 y1 y2 y3) low there =
    let known : List Presence = map presence_of (Root c x0 x1 x2 x3 ∷ Root d y0 y1 y2 y3 ∷ []) in
    subst (λ (shapes : List (Shape MatKind)). IsOneOf (planned_shape kind_at (suc h) (plan_of Add) known Absent) shapes) (sym (shapes_open Add (suc h) known refl (le-leb (suc h) 16 low)))
    (inl refl)

pub add_by_plan : (b h : ℕ) (portions : Portions MatChunk) (x y : Tree MatChunk) → b ≤ 64 → suc h ≤ 16
    → all_present (map presence_of (x ∷ y ∷ [])) ≡ true → FitsAt b Add (suc h) (x ∷ y ∷ [])
    → IsSound arity_of matrices (kind_of Add (suc h)) (x ∷ y ∷ []) (planned_outcome kind_at (suc h) (plan_of Add) portions (map presence_of (x ∷ y ∷ [])))
add_by_plan b h portions x y side low there fits =
    let trees : List (Tree MatChunk) = x ∷ y ∷ [] in
    let kind : MatKind = kind_of Add (suc h) in
    let sum : ℕ → Tree MatChunk = child_sum b h x y in
    let four : List (Tree MatChunk) = sum 0 ∷ sum 1 ∷ sum 2 ∷ sum 3 ∷ [] in
    let is : (q : ℕ) → IsCanonical b h (sum q) = λ q. add_canonical b h (child x q) (child y q) (add_on_children b h x y fits q) in
    let gives : (q : ℕ) → EitherGives matrices (matrices.rank kind) (kind_of Add h) (child x q) (child y q) (sum q) (is_there (child x q)) (is_there (child y q)) = λ q. add_gives b h (matrices.rank kind) (child x q) (child y q) side (omega arith) (omega arith) (add_on_children b h x y fits q) in
    plan_is_sound arity_of matrices kind_at (suc h) kind (plan_of Add) portions trees (record {
      few = omega arith;
      trees = four;
      parts = parts_below (matrices.rank kind) h trees portions (plan_of Add).parts four (gives 0, (gives 1, (gives 2, (gives 3, tt))));
      ending = join_gives b h kind trees (sum 0) (sum 1) (sum 2) (sum 3) side low (omega arith)
          (fits_join b h (sum 0) (sum 1) (sum 2) (sum 3) (is 0) (is 1) (is 2) (is 3))
          (sym (add_is_join b h x y fits) ∙ sym (goal_any b Add (suc h) trees fits));
      chosen = Absent;
      agree = (tt, (tt, (tt, (tt, tt))));
      planned = add_shape h x y low there;
    })

-- ---- Traces

-- the trace of the first and of the last child, of which each may be missing
trace_gives : (b h rank : ℕ) (x y : Tree MatChunk) (wanted : Tree MatChunk) → b ≤ 64 → h ≤ 16 → 4 * h + 1 < rank
    → FitsAt b Trace h (x ∷ []) → FitsAt b Trace h (y ∷ []) → FitsAt b AddNum 0 (goal_at b Trace h (x ∷ []) ∷ goal_at b Trace h (y ∷ []) ∷ [])
    → goal_at b AddNum 0 (goal_at b Trace h (x ∷ []) ∷ goal_at b Trace h (y ∷ []) ∷ []) ≡ wanted
    → PairGives matrices rank (kind_of Trace h) (x ∷ []) (kind_of Trace h) (y ∷ []) (kind_of AddNum 0) wanted (is_there x && true) (is_there y && true)
trace_gives b h rank Nothing Nothing wanted side low lower one other both goal =
    let x : Tree MatChunk = goal_at b Trace h (Nothing ∷ []) in
    sym (trace_of_nothing b h) ∙ sym (addnum_with_nothing b 0 x both.1) ∙ ap (λ (tree : Tree MatChunk). goal_at b AddNum 0 (x ∷ tree ∷ [])) (sym (trace_of_nothing b h)) ∙ goal
trace_gives b h rank (Root c x0 x1 x2 x3) Nothing wanted side low lower one other both goal =
    let tree : Tree MatChunk = Root c x0 x1 x2 x3 in
    let x : Tree MatChunk = goal_at b Trace h (tree ∷ []) in
    task_gives b Trace h rank (tree ∷ []) wanted side low lower one
    (sym (addnum_with_nothing b 0 x both.1) ∙ ap (λ (tree : Tree MatChunk). goal_at b AddNum 0 (x ∷ tree ∷ [])) (sym (trace_of_nothing b h)) ∙ goal)
trace_gives b h rank Nothing (Root d y0 y1 y2 y3) wanted side low lower one other both goal =
    let tree : Tree MatChunk = Root d y0 y1 y2 y3 in
    let y : Tree MatChunk = goal_at b Trace h (tree ∷ []) in
    task_gives b Trace h rank (tree ∷ []) wanted side low lower other
    (sym (addnum_nothing_with b 0 y both.2) ∙ ap (λ (tree : Tree MatChunk). goal_at b AddNum 0 (tree ∷ y ∷ [])) (sym (trace_of_nothing b h)) ∙ goal)
trace_gives b h rank (Root c x0 x1 x2 x3) (Root d y0 y1 y2 y3) wanted side low lower one other both goal =
    let first : List (Tree MatChunk) = Root c x0 x1 x2 x3 ∷ [] in
    let second : List (Tree MatChunk) = Root d y0 y1 y2 y3 ∷ [] in
    let x : Tree MatChunk = goal_of (kind_of Trace h) first in
    let y : Tree MatChunk = goal_of (kind_of Trace h) second in
    let ex : x ≡ goal_at b Trace h first = goal_any b Trace h first one in
    let ey : y ≡ goal_at b Trace h second = goal_any b Trace h second other in
    let fits : FitsAt b AddNum 0 (x ∷ y ∷ []) = subst (λ (tree : Tree MatChunk). FitsAt b AddNum 0 (tree ∷ y ∷ [])) (sym ex) (subst (λ (tree : Tree MatChunk). FitsAt b AddNum 0 (goal_at b Trace h first ∷ tree ∷ [])) (sym ey) both) in
    let same : goal_at b AddNum 0 (x ∷ y ∷ []) ≡ goal_at b AddNum 0 (goal_at b Trace h first ∷ goal_at b Trace h second ∷ []) = cc (ex, ey) in (
      may_ask b Trace h rank first side low lower one,
      may_ask b Trace h rank second side low lower other,
      task_gives b AddNum 0 rank (x ∷ y ∷ []) wanted side (omega arith) (omega arith) fits (same ∙ goal),
    )

pub trace_by_plan : (b h : ℕ) (portions : Portions MatChunk) (x : Tree MatChunk) → b ≤ 64 → suc h ≤ 16
    → all_present (map presence_of (x ∷ [])) ≡ true → FitsAt b Trace (suc h) (x ∷ [])
    → IsSound arity_of matrices (kind_of Trace (suc h)) (x ∷ []) (planned_outcome kind_at (suc h) (plan_of Trace) portions (map presence_of (x ∷ [])))
trace_by_plan b h portions Nothing side low there fits = absurd (false≢true there)
trace_by_plan b h portions (Root c x0 x1 x2 x3) side low there fits =
    let x : Tree MatChunk = Root c x0 x1 x2 x3 in
    let trees : List (Tree MatChunk) = x ∷ [] in
    let known : List Presence = map presence_of trees in
    let kind : MatKind = kind_of Trace (suc h) in
    let wanted : Tree MatChunk = goal_of kind trees in
    let gives = trace_gives b h (matrices.rank kind) x0 x3 wanted side (omega arith) (omega arith) (trace_first b h x fits) (trace_last b h x fits) (trace_fits b h x fits) (sym (trace_on_children b h x fits) ∙ sym (goal_any b Trace (suc h) trees fits)) in
    plan_is_sound arity_of matrices kind_at (suc h) kind (plan_of Trace) portions trees (record {
      few = omega arith;
      trees = wanted ∷ [];
      parts = parts_below (matrices.rank kind) h trees portions (plan_of Trace).parts (wanted ∷ []) ((refl, refl, gives), tt);
      ending = refl;
      chosen = Absent;
      agree = (tt, tt);
      planned = subst (λ (shapes : List (Shape MatKind)). IsOneOf (planned_shape kind_at (suc h) (plan_of Trace) known Absent) shapes) (sym (shapes_open Trace (suc h) known refl (le-leb (suc h) 16 low))) (inl refl);
    })
