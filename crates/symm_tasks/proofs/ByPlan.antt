-- What symmetric sums, general forms and traces of height at least 1 answer by their plans is sound.
use Rattle.std.proofs.Common.{◌≡◌, ℕ, suc, ◌+◌, ◌*◌, ◌<◌, ◌≤◌, Bool, true, false, ◌&&◌, List, [], ◌∷◌, map, refl, sym, ap, ap₂, ◌∙◌, subst, subst₂, inl, arith}
use Rattle.std.specs.List.{AllByRecursion}
use Rattle.std.proofs.lemmas.Bool.{false≢true, le-leb}
use Rattle.task_types.specs.Tree.{Tree, Nothing, Root, child, is_there}
use Rattle.task_types.specs.Presence.{Presence, Absent, presence_of, has_child}
use Rattle.task_types.specs.Places.{Shape, IsOneOf}
use Rattle.task_types.specs.Sound.{IsSound}
use Rattle.task_plans.specs.declared.portions.Portions.{Portions}
use Rattle.task_plans.specs.declared.plan.Ending.TheVariants.{Joined}
use Rattle.task_plans.specs.Plans.{planned_shape}
use Rattle.task_plans.specs.Sketches.{planned_outcome}
use Rattle.task_plans.specs.Steps.{AloneGives, EitherGives, PairGives, EndingGives}
use Rattle.task_plans.proofs.ForOthers.{plan_is_sound}
use Rattle.quad_matrix.specs.declared.chunk.MatChunk.{MatChunk}
use Rattle.quad_matrix.specs.declared.kind.What.{What}
use Rattle.quad_matrix.specs.declared.kind.What.TheVariants.{Add, Transpose, AddNum, SAdd, Full, SJoin, STrace}
use Rattle.quad_matrix.specs.declared.kind.MatKind.{MatKind}
use Rattle.quad_matrix.specs.Chunks.{arity_of}
use Rattle.quad_matrix.specs.Blocks.{IsCanonicalSymmetric}
use Rattle.quad_matrix.specs.Goals.{kind_of, kind_at, goal_of, goal_at, FitsAt}
use Rattle.quad_matrix.specs.Matrices.{matrices}
use Rattle.quad_matrix.specs.Plans.{plan_of, shapes_of}
use Rattle.quad_matrix.proofs.ForOthers.{goal_any, add_with_nothing, add_nothing_with, addnum_with_nothing, addnum_nothing_with, trace_of_nothing, symmetric_join_goal_nothing, symmetric_add_with_nothing, symmetric_add_nothing_with, symmetric_add_nothing, symmetric_add_on_first, symmetric_add_on_second, symmetric_add_on_third, symmetric_sums_fit_join, symmetric_add_is_join, full_of_nothing, full_parts_fit_join, full_is_join, symmetric_children, symmetric_trace_first, symmetric_trace_last, symmetric_trace_fits, symmetric_trace_on_children}
use Rattle.matrix_tasks.proofs.ForOthers.{shapes_open, may_ask, task_gives, join_gives, parts_below, add_gives, child_gives, child_ready}

-- ---- Endings

-- a symmetric join of three canonical trees gives the goal
pub symmetric_join_gives : (b h : ℕ) (kind : MatKind) (inputs : List (Tree MatChunk)) (x y z : Tree MatChunk) → b ≤ 64 → suc h ≤ 16 → 4 * suc h < matrices.rank kind
    → FitsAt b SJoin (suc h) (x ∷ y ∷ z ∷ []) → goal_at b SJoin (suc h) (x ∷ y ∷ z ∷ []) ≡ goal_of kind inputs
    → EndingGives matrices kind (kind_at (suc h)) inputs (Joined SJoin) (x ∷ y ∷ z ∷ [])
symmetric_join_gives b h kind inputs x y z side low lower fits goal =
    let trees : List (Tree MatChunk) = x ∷ y ∷ z ∷ [] in (
      task_gives b SJoin (suc h) (matrices.rank kind) trees (goal_of kind inputs) side low lower fits goal,
      λ (all : AllByRecursion (λ (tree : Tree MatChunk). tree ≡ Nothing) trees). let none : goal_at b SJoin (suc h) (Nothing ∷ Nothing ∷ Nothing ∷ []) ≡ goal_at b SJoin (suc h) trees = cc (all.0, all.1.0, all.1.1.0) in sym (symmetric_join_goal_nothing b h) ∙ none ∙ goal,
    )

-- ---- Pairs of tasks

-- a sum with nothing is the other term
pub record IsSum (b k : ℕ) (sum : What) : Type 0 where
  pub with_nothing : (x : Tree MatChunk) → FitsAt b sum k (x ∷ Nothing ∷ []) → goal_at b sum k (x ∷ Nothing ∷ []) ≡ x
  pub nothing_with : (y : Tree MatChunk) → FitsAt b sum k (Nothing ∷ y ∷ []) → goal_at b sum k (Nothing ∷ y ∷ []) ≡ y

pub add_is_sum : (b h : ℕ) → IsSum b h Add
add_is_sum b h =
    record { with_nothing = λ x fits. add_with_nothing b h x fits; nothing_with = λ y fits. add_nothing_with b h y fits }

pub symmetric_add_is_sum : (b h : ℕ) → IsSum b h SAdd
symmetric_add_is_sum b h =
    record { with_nothing = λ x fits. symmetric_add_with_nothing b h x fits.0; nothing_with = λ y fits. symmetric_add_nothing_with b h y fits.1 }

pub number_add_is_sum : (b : ℕ) → IsSum b 0 AddNum
number_add_is_sum b =
    record { with_nothing = λ x fits. addnum_with_nothing b 0 x fits.1; nothing_with = λ y fits. addnum_nothing_with b 0 y fits.2 }

-- two tasks of which each may be missing, and the sum of their outputs
module _ (b h k rank : ℕ) (one other sum : What) (first second : List (Tree MatChunk)) (wanted : Tree MatChunk)
    (side : b ≤ 64) (low : h ≤ 16) (sum_low : k ≤ 16)
    (lower : matrices.rank (kind_of one h) < rank) (lower' : matrices.rank (kind_of other h) < rank) (sum_lower : matrices.rank (kind_of sum k) < rank)
    (is : IsSum b k sum) (fits : FitsAt b one h first) (fits' : FitsAt b other h second) (both : FitsAt b sum k (goal_at b one h first ∷ goal_at b other h second ∷ []))
    (goal : goal_at b sum k (goal_at b one h first ∷ goal_at b other h second ∷ []) ≡ wanted) where
  abbrev s : Tree MatChunk
  s = goal_at b one h first

  abbrev t : Tree MatChunk
  t = goal_at b other h second

  first_alone : t ≡ Nothing → s ≡ wanted
  first_alone none =
      sym (is.with_nothing s (subst (λ (t : Tree MatChunk). FitsAt b sum k (s ∷ t ∷ [])) none both))
      ∙ sym (ap (λ (t : Tree MatChunk). goal_at b sum k (s ∷ t ∷ [])) none) ∙ goal

  second_alone : s ≡ Nothing → t ≡ wanted
  second_alone none =
      sym (is.nothing_with t (subst (λ (s : Tree MatChunk). FitsAt b sum k (s ∷ t ∷ [])) none both))
      ∙ sym (ap (λ (s : Tree MatChunk). goal_at b sum k (s ∷ t ∷ [])) none) ∙ goal

  pub pair_gives : (a c : Bool) → (a ≡ false → s ≡ Nothing) → (c ≡ false → t ≡ Nothing)
      → PairGives matrices rank (kind_of one h) first (kind_of other h) second (kind_of sum k) wanted a c
  pair_gives false false none none' = sym (none refl) ∙ first_alone (none' refl)
  pair_gives true false none none' = task_gives b one h rank first wanted side low lower fits (first_alone (none' refl))
  pair_gives false true none none' = task_gives b other h rank second wanted side low lower' fits' (second_alone (none refl))
  pair_gives true true none none' =
      let es : goal_of (kind_of one h) first ≡ s = goal_any b one h first fits in
      let et : goal_of (kind_of other h) second ≡ t = goal_any b other h second fits' in (
        may_ask b one h rank first side low lower fits,
        may_ask b other h rank second side low lower' fits',
        task_gives b sum k rank (goal_of (kind_of one h) first ∷ goal_of (kind_of other h) second ∷ []) wanted side sum_low sum_lower
            (subst₂ (λ (s t : Tree MatChunk). FitsAt b sum k (s ∷ t ∷ [])) (sym es) (sym et) both)
            (ap₂ (λ (s t : Tree MatChunk). goal_at b sum k (s ∷ t ∷ [])) es et ∙ goal),
      )

-- ---- Children

not_there : (t : Tree MatChunk) → is_there t ≡ false → t ≡ Nothing
not_there Nothing e = refl
not_there (Root c x0 x1 x2 x3) e = absurd (false≢true (sym e))

-- what is nothing on nothing is nothing on a child that is not there
pub child_missing : (b : ℕ) (what : What) (h : ℕ) → goal_at b what h (Nothing ∷ []) ≡ Nothing → (x : Tree MatChunk) (q : ℕ) → (has_child (presence_of x) q && true) ≡ false
    → goal_at b what h (child x q ∷ []) ≡ Nothing
child_missing b what h goal x q e =
    subst (λ (t : Tree MatChunk). goal_at b what h (t ∷ []) ≡ Nothing) (sym (not_there (child x q) (child_ready x q ∙ e))) goal

-- the shape of a plan without portions
abbrev IsPlanned : What → ℕ → List (Tree MatChunk) → Type 0
IsPlanned what h trees = IsOneOf (planned_shape kind_at (suc h) (plan_of what) (map presence_of trees) Absent) (shapes_of (kind_of what (suc h)) (map presence_of trees))

-- ---- Sums

-- the sum of two children of which one may be missing
symmetric_add_gives : (b h rank : ℕ) (x y : Tree MatChunk) → b ≤ 64 → h ≤ 16 → 4 * h + 1 < rank → FitsAt b SAdd h (x ∷ y ∷ [])
    → EitherGives matrices rank (kind_of SAdd h) x y (goal_at b SAdd h (x ∷ y ∷ [])) (is_there x) (is_there y)
symmetric_add_gives b h rank Nothing Nothing side low lower fits = sym (symmetric_add_nothing b h)
symmetric_add_gives b h rank (Root c x0 x1 x2 x3) Nothing side low lower fits =
    sym (symmetric_add_with_nothing b h (Root c x0 x1 x2 x3) fits.0)
symmetric_add_gives b h rank Nothing (Root d y0 y1 y2 y3) side low lower fits =
    sym (symmetric_add_nothing_with b h (Root d y0 y1 y2 y3) fits.1)
symmetric_add_gives b h rank (Root c x0 x1 x2 x3) (Root d y0 y1 y2 y3) side low lower fits =
    task_gives b SAdd h rank (Root c x0 x1 x2 x3 ∷ Root d y0 y1 y2 y3 ∷ []) (goal_at b SAdd h (Root c x0 x1 x2 x3 ∷ Root d y0 y1 y2 y3 ∷ [])) side low lower fits refl

pub symmetric_add_by_plan : (b h : ℕ) (portions : Portions MatChunk) (c : MatChunk) (x0 x1 x2 x3 : Tree MatChunk) (d : MatChunk) (y0 y1 y2 y3 : Tree MatChunk) → b ≤ 64 → suc h ≤ 16
    → FitsAt b SAdd (suc h) (Root c x0 x1 x2 x3 ∷ Root d y0 y1 y2 y3 ∷ [])
    → IsSound arity_of matrices (kind_of SAdd (suc h)) (Root c x0 x1 x2 x3 ∷ Root d y0 y1 y2 y3 ∷ []) (planned_outcome kind_at (suc h) (plan_of SAdd) portions (map presence_of (Root c x0 x1 x2 x3 ∷ Root d y0 y1 y2 y3 ∷ [])))
symmetric_add_by_plan b h portions c x0 x1 x2 x3 d y0 y1 y2 y3 side low fits =
    let x : Tree MatChunk = Root c x0 x1 x2 x3 in
    let y : Tree MatChunk = Root d y0 y1 y2 y3 in
    let trees : List (Tree MatChunk) = x ∷ y ∷ [] in
    let known : List Presence = map presence_of trees in
    let kind : MatKind = kind_of SAdd (suc h) in
    let rank : ℕ = matrices.rank kind in
    let t0 : Tree MatChunk = goal_at b SAdd h (x0 ∷ y0 ∷ []) in
    let t1 : Tree MatChunk = goal_at b Add h (x1 ∷ y1 ∷ []) in
    let t2 : Tree MatChunk = goal_at b SAdd h (x2 ∷ y2 ∷ []) in
    let three : List (Tree MatChunk) = t0 ∷ t1 ∷ t2 ∷ [] in
    let shape : IsPlanned SAdd h trees = subst (λ (shapes : List (Shape MatKind)). IsOneOf (planned_shape kind_at (suc h) (plan_of SAdd) known Absent) shapes) (sym (shapes_open SAdd (suc h) known refl (le-leb (suc h) 16 low))) (inl refl) in
    plan_is_sound arity_of matrices kind_at (suc h) kind (plan_of SAdd) portions trees (record {
      few = omega arith;
      trees = three;
      parts = parts_below rank h trees portions (plan_of SAdd).parts three (
        symmetric_add_gives b h rank x0 y0 side (omega arith) (omega arith) (symmetric_add_on_first b h x y fits),
        (
          add_gives b h rank x1 y1 side (omega arith) (omega arith) (symmetric_add_on_second b h x y fits),
          (symmetric_add_gives b h rank x2 y2 side (omega arith) (omega arith) (symmetric_add_on_third b h x y fits), tt),
        ),
      );
      ending = symmetric_join_gives b h kind trees t0 t1 t2 side low (omega arith) (symmetric_sums_fit_join b h x y fits)
          (sym (symmetric_add_is_join b h x y fits) ∙ sym (goal_any b SAdd (suc h) trees fits));
      chosen = Absent;
      agree = (tt, (tt, (tt, tt)));
      planned = shape;
    })

-- ---- General forms

-- the general form of a child, which may be missing
full_gives : (b h rank : ℕ) (x : Tree MatChunk) (a : Bool) → b ≤ 64 → h ≤ 16 → 4 * h + 1 < rank → IsCanonicalSymmetric b h x → is_there x ≡ a
    → AloneGives matrices rank (kind_of Full h) (x ∷ []) (goal_at b Full h (x ∷ [])) a
full_gives b h rank Nothing false side low lower is e = sym (full_of_nothing b h)
full_gives b h rank Nothing true side low lower is e = absurd (false≢true e)
full_gives b h rank (Root c x0 x1 x2 x3) false side low lower is e = absurd (false≢true (sym e))
full_gives b h rank (Root c x0 x1 x2 x3) true side low lower is e =
    let x : Tree MatChunk = Root c x0 x1 x2 x3 in
    task_gives b Full h rank (x ∷ []) (goal_at b Full h (x ∷ [])) side low lower is refl

pub full_by_plan : (b h : ℕ) (portions : Portions MatChunk) (c : MatChunk) (x0 x1 x2 x3 : Tree MatChunk) → b ≤ 64 → suc h ≤ 16
    → FitsAt b Full (suc h) (Root c x0 x1 x2 x3 ∷ [])
    → IsSound arity_of matrices (kind_of Full (suc h)) (Root c x0 x1 x2 x3 ∷ []) (planned_outcome kind_at (suc h) (plan_of Full) portions (map presence_of (Root c x0 x1 x2 x3 ∷ [])))
full_by_plan b h portions c x0 x1 x2 x3 side low fits =
    let x : Tree MatChunk = Root c x0 x1 x2 x3 in
    let trees : List (Tree MatChunk) = x ∷ [] in
    let known : List Presence = map presence_of trees in
    let kind : MatKind = kind_of Full (suc h) in
    let rank : ℕ = matrices.rank kind in
    let parts = symmetric_children b h x fits in
    let t0 : Tree MatChunk = goal_at b Full h (x0 ∷ []) in
    let t2 : Tree MatChunk = goal_at b Transpose h (x1 ∷ []) in
    let t3 : Tree MatChunk = goal_at b Full h (x2 ∷ []) in
    let four : List (Tree MatChunk) = t0 ∷ x1 ∷ t2 ∷ t3 ∷ [] in
    let shape : IsPlanned Full h trees = subst (λ (shapes : List (Shape MatKind)). IsOneOf (planned_shape kind_at (suc h) (plan_of Full) known Absent) shapes) (sym (shapes_open Full (suc h) known refl (le-leb (suc h) 16 low))) (inl refl) in
    plan_is_sound arity_of matrices kind_at (suc h) kind (plan_of Full) portions trees (record {
      few = omega arith;
      trees = four;
      parts = parts_below rank h trees portions (plan_of Full).parts four (
        (refl, full_gives b h rank x0 (has_child (presence_of x) 0 && true) side (omega arith) (omega arith) parts.first (child_ready x 0)),
        (
          refl,
          (
            (refl, child_gives b h rank x1 (has_child (presence_of x) 1 && true) side (omega arith) (omega arith) parts.second (child_ready x 1)),
            ((refl, full_gives b h rank x2 (has_child (presence_of x) 2 && true) side (omega arith) (omega arith) parts.third (child_ready x 2)), tt),
          ),
        ),
      );
      ending = join_gives b h kind trees t0 x1 t2 t3 side low (omega arith) (full_parts_fit_join b h x fits)
          (sym (full_is_join b h x fits) ∙ sym (goal_any b Full (suc h) trees fits));
      chosen = Absent;
      agree = (tt, (tt, (tt, (tt, tt))));
      planned = shape;
    })

-- ---- Traces

pub symmetric_trace_by_plan : (b h : ℕ) (portions : Portions MatChunk) (c : MatChunk) (x0 x1 x2 x3 : Tree MatChunk) → b ≤ 64 → suc h ≤ 16
    → FitsAt b STrace (suc h) (Root c x0 x1 x2 x3 ∷ [])
    → IsSound arity_of matrices (kind_of STrace (suc h)) (Root c x0 x1 x2 x3 ∷ []) (planned_outcome kind_at (suc h) (plan_of STrace) portions (map presence_of (Root c x0 x1 x2 x3 ∷ [])))
symmetric_trace_by_plan b h portions c x0 x1 x2 x3 side low fits =
    let x : Tree MatChunk = Root c x0 x1 x2 x3 in
    let trees : List (Tree MatChunk) = x ∷ [] in
    let known : List Presence = map presence_of trees in
    let kind : MatKind = kind_of STrace (suc h) in
    let rank : ℕ = matrices.rank kind in
    let wanted : Tree MatChunk = goal_of kind trees in
    let shape : IsPlanned STrace h trees = subst (λ (shapes : List (Shape MatKind)). IsOneOf (planned_shape kind_at (suc h) (plan_of STrace) known Absent) shapes) (sym (shapes_open STrace (suc h) known refl (le-leb (suc h) 16 low))) (inl refl) in
    let gives = pair_gives b h 0 rank STrace STrace AddNum (x0 ∷ []) (x2 ∷ []) wanted side (omega arith) (omega arith) (omega arith) (omega arith) (omega arith) (number_add_is_sum b)
    (symmetric_trace_first b h x fits) (symmetric_trace_last b h x fits) (symmetric_trace_fits b h x fits)
    (sym (symmetric_trace_on_children b h x fits) ∙ sym (goal_any b STrace (suc h) trees fits))
    (has_child (presence_of x) 0 && true) (has_child (presence_of x) 2 && true)
    (child_missing b STrace h (trace_of_nothing b h) x 0) (child_missing b STrace h (trace_of_nothing b h) x 2) in
    plan_is_sound arity_of matrices kind_at (suc h) kind (plan_of STrace) portions trees (record {
      few = omega arith;
      trees = wanted ∷ [];
      parts = parts_below rank h trees portions (plan_of STrace).parts (wanted ∷ []) ((refl, refl, gives), tt);
      ending = refl;
      chosen = Absent;
      agree = (tt, tt);
      planned = shape;
    })
