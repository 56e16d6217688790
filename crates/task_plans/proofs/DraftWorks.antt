-- The works of the tasks of drafts and of shapes, for lemmas that the works of a library add up.
use Rattle.std.proofs.Common.{◌≡◌, ℕ, ◌+◌, Bool, true, false, cond, not, ◌&&◌, ◌||◌, inl, inr, List, [], ◌∷◌, ◌++◌, length, map, sum, sum_by, sym, ap, ap₂, ◌∙◌, add-zero, zero-add, append_assoc, length-append, arith}
use Rattle.std.specs.Prelude.{if◌then◌else◌}
use Rattle.std.proofs.lemmas.Bool.{cond_both}
use Rattle.std.proofs.lemmas.List.{map-append, length-map}
use Rattle.std.proofs.lemmas.List.Sums.{sum_by-append}
use Rattle.std.proofs.lemmas.List.Folds.{list_all-append}
use Rattle.task_types.specs.declared.outcome.Place.TheVariants.{Null, Child, Task}
use Rattle.task_types.specs.declared.outcome.NewTask.{NewTask}
use Rattle.task_types.specs.Tree.{Tree, tree_at, child}
use Rattle.task_types.specs.Places.{Shape, TaskShape, task_shape, same_place, places_of, filled, IsOneOf}
use Rattle.task_types.specs.Reading.{Call, reading, goals_of, call_of, in_order}
use Rattle.task_types.specs.Meanings.{Meanings}
use Rattle.task_types.proofs.InOrder.{in_order-append, length-in_order}
use Rattle.task_plans.specs.declared.plan.Ending.TheVariants.{Joined}
use Rattle.task_plans.specs.Plans.{Draft, with_alone, with_either, with_pair, task_of, are_null, given_shape, shape_with, ended}
use Rattle.task_plans.proofs.Lists.{tree_at-after}

-- ---- Shapes of a plan

-- a shape among those under a test is among them
pub one_of_cond : {K : Type 0} (test : Bool) (shape : Shape K) (shapes : List (Shape K)) → IsOneOf shape (cond test shapes []) → IsOneOf shape shapes
one_of_cond true shape shapes e = e
one_of_cond false shape shapes e = absurd e

-- a shape that is one of one is it
pub one_of_one : {K : Type 0} (shape other : Shape K) → IsOneOf shape (other ∷ []) → shape ≡ other
one_of_one shape other (inl e) = e
one_of_one shape other (inr e) = absurd e

-- also where a test chooses between it and itself
pub one_of_same : {K : Type 0} (test : Bool) (shape other : Shape K) → IsOneOf shape (cond test (other ∷ []) (other ∷ [])) → shape ≡ other
one_of_same true shape other e = one_of_one shape other e
one_of_same false shape other e = one_of_one shape other e

-- a shape that a choice gives is given by one of the choices
pub one_of_choices : {K X : Type 0} (f : X → Shape K) (shape : Shape K) (choices : List X) → IsOneOf shape (map f choices) → (choice : X) × (shape ≡ f choice)
one_of_choices f shape [] e = absurd e
one_of_choices f shape (choice ∷ choices) (inl e) = (choice, e)
one_of_choices f shape (choice ∷ choices) (inr e) = one_of_choices f shape choices e

-- ---- Works, for a library and the trees of inputs and of new chunks

-- the works of two tasks that are ready or not, and of what adds the outputs of both
abbrev pub pair_list : Bool → Bool → ℕ → ℕ → ℕ → List ℕ
pair_list a b one other both =
    if a then (if b then one ∷ other ∷ both ∷ [] else one ∷ []) else (if b then other ∷ [] else [])

module _ {C K : Type 0} (lib : Meanings C K) (trees chunks : List (Tree C)) where
  -- the work of a call
  abbrev pub call_work : Call C K → ℕ
  call_work call = lib.work call.kind call.inputs

  -- the calls of some tasks
  abbrev pub calls_of : List (TaskShape K) → List (Call C K)
  calls_of tasks = in_order (call_of lib.goal trees chunks) [] tasks

  -- the works of a shape's tasks
  abbrev pub total : Shape K → ℕ
  total shape = sum_by call_work (calls_of shape.tasks)

  -- those of a draft's
  abbrev pub draft_work : Draft K → ℕ
  draft_work draft = sum_by call_work (calls_of (map task_shape draft.tasks))

  -- a task more adds its work
  pub one_task_more : (tasks : List (NewTask K)) (task : NewTask K) → sum_by call_work (calls_of (map task_shape (tasks ++ task ∷ []))) ≡ sum_by call_work (calls_of (map task_shape tasks)) + sum_by call_work (call_of lib.goal trees chunks (calls_of (map task_shape tasks)) (task_shape task) ∷ [])
  one_task_more tasks task =
      ap (λ shapes. sum_by call_work (calls_of shapes)) (map-append task_shape tasks (task ∷ []))
      ∙ ap (sum_by call_work) (in_order-append (call_of lib.goal trees chunks) [] (map task_shape tasks) (task_shape task ∷ []))
      ∙ sum_by-append call_work (calls_of (map task_shape tasks)) (call_of lib.goal trees chunks (calls_of (map task_shape tasks)) (task_shape task) ∷ [])

  -- a child of two inputs adds the work of the sum, where both are there
  pub either_work : (draft : Draft K) (kind : K) (q : ℕ) (a b : Bool) → draft_work (with_either draft kind q a b) ≡ draft_work draft + sum (if a && b then lib.work kind (child (tree_at trees 0) q ∷ child (tree_at trees 1) q ∷ []) ∷ [] else [])
  either_work draft kind q false false = sym (add-zero (draft_work draft))
  either_work draft kind q true false = sym (add-zero (draft_work draft))
  either_work draft kind q false true = sym (add-zero (draft_work draft))
  either_work draft kind q true true = one_task_more draft.tasks (task_of kind (filled (Child 0 q ∷ Child 1 q ∷ [])))

  -- a task whose inputs are these trees, whatever tasks stand before it
  abbrev pub IsPlainTask : NewTask K → List (Tree C) → Type 0
  IsPlainTask task xs = (goals : List (Tree C)) → map (reading trees chunks goals) (places_of task.inputs) ≡ xs

  -- such a task adds the work of its kind on them
  plain_more : (tasks : List (NewTask K)) (task : NewTask K) (xs : List (Tree C)) → IsPlainTask task xs → sum_by call_work (calls_of (map task_shape (tasks ++ task ∷ []))) ≡ sum_by call_work (calls_of (map task_shape tasks)) + lib.work task.kind xs
  plain_more tasks task xs plain =
      let before = calls_of (map task_shape tasks) in
      one_task_more tasks task
      ∙ ap (λ n. sum_by call_work before + n) (zero-add (call_work (call_of lib.goal trees chunks before (task_shape task))) ∙ ap (lib.work task.kind) (plain (goals_of lib.goal before)))

  -- one task, where it is ready, adds its work
  pub alone_work : (draft : Draft K) (task : NewTask K) (xs : List (Tree C)) (a : Bool) → IsPlainTask task xs → draft_work (with_alone draft task a) ≡ draft_work draft + sum (if a then lib.work task.kind xs ∷ [] else [])
  alone_work draft task xs false plain = sym (add-zero (draft_work draft))
  alone_work draft task xs true plain =
      plain_more draft.tasks task xs plain ∙ ap (λ n. draft_work draft + n) (sym (zero-add (lib.work task.kind xs)))

  -- the goals of some tasks
  abbrev goals_in : List (NewTask K) → List (Tree C)
  goals_in tasks = goals_of lib.goal (calls_of (map task_shape tasks))

  goals_count : (tasks : List (NewTask K)) → length (goals_in tasks) ≡ length tasks
  goals_count tasks =
      length-map (calls_of (map task_shape tasks)) (λ (call : Call C K). lib.goal call.kind call.inputs)
      ∙ length-in_order (call_of lib.goal trees chunks) [] (map task_shape tasks)
      ∙ zero-add (length (map task_shape tasks))
      ∙ length-map tasks task_shape

  -- a task more is a goal more
  goals_more : (tasks : List (NewTask K)) (task : NewTask K) (xs : List (Tree C)) → IsPlainTask task xs → goals_in (tasks ++ task ∷ []) ≡ goals_in tasks ++ lib.goal task.kind xs ∷ []
  goals_more tasks task xs plain =
      let before = calls_of (map task_shape tasks) in
      let call = call_of lib.goal trees chunks before (task_shape task) in
      let goal : Call C K → Tree C = λ (call : Call C K). lib.goal call.kind call.inputs in
      ap (λ shapes. goals_of lib.goal (calls_of shapes)) (map-append task_shape tasks (task ∷ []))
      ∙ ap (goals_of lib.goal) (in_order-append (call_of lib.goal trees chunks) [] (map task_shape tasks) (task_shape task ∷ []))
      ∙ map-append goal before (call ∷ [])
      ∙ ap (λ xs. goals_in tasks ++ lib.goal task.kind xs ∷ []) (plain (goals_of lib.goal before))

  -- a pair adds them
  pub pair_work : (draft : Draft K) (one other : NewTask K) (added : K) (xs ys : List (Tree C)) (a b : Bool) → IsPlainTask one xs → IsPlainTask other ys
      → draft_work (with_pair draft one other added a b) ≡ draft_work draft + sum (pair_list a b (lib.work one.kind xs) (lib.work other.kind ys) (lib.work added (lib.goal one.kind xs ∷ lib.goal other.kind ys ∷ [])))
  pair_work draft one other added xs ys false false first second = sym (add-zero (draft_work draft))
  pair_work draft one other added xs ys true false first second =
      plain_more draft.tasks one xs first ∙ ap (λ n. draft_work draft + n) (sym (zero-add (lib.work one.kind xs)))
  pair_work draft one other added xs ys false true first second =
      plain_more draft.tasks other ys second ∙ ap (λ n. draft_work draft + n) (sym (zero-add (lib.work other.kind ys)))
  pair_work draft one other added xs ys true true first second =
      let n = length draft.tasks in
      let both : NewTask K = task_of added (filled (Task n ∷ Task (n + 1) ∷ [])) in
      let with_one : List (NewTask K) = draft.tasks ++ one ∷ [] in
      let with_two : List (NewTask K) = with_one ++ other ∷ [] in
      let work = λ (tasks : List (NewTask K)). sum_by call_work (calls_of (map task_shape tasks)) in
      let g1 : Tree C = lib.goal one.kind xs in
      let g2 : Tree C = lib.goal other.kind ys in
      let old = goals_in draft.tasks in
      let goals : goals_in with_two ≡ (old ++ g1 ∷ []) ++ g2 ∷ [] = goals_more with_one other ys second ∙ ap (λ gs. gs ++ g2 ∷ []) (goals_more draft.tasks one xs first) in
      let count : length old ≡ n = goals_count draft.tasks in
      let at_first : tree_at (goals_in with_two) n ≡ g1 = ap (λ gs. tree_at gs n) (goals ∙ append_assoc old (g1 ∷ []) (g2 ∷ [])) ∙ tree_at-after old g1 (g2 ∷ []) n (sym count) in
      let at_second : tree_at (goals_in with_two) (n + 1) ≡ g2 = ap (λ gs. tree_at gs (n + 1)) goals ∙ tree_at-after (old ++ g1 ∷ []) g2 [] (n + 1) (omega (arith, length-append old (g1 ∷ []), count)) in
      let last : work (with_two ++ both ∷ []) ≡ work with_two + lib.work added (g1 ∷ g2 ∷ []) =
      one_task_more with_two both
      ∙ ap (λ k. work with_two + k) (zero-add (lib.work added (tree_at (goals_in with_two) n ∷ tree_at (goals_in with_two) (n + 1) ∷ []))
      ∙ ap₂ (λ x y. lib.work added (x ∷ y ∷ [])) at_first at_second) in
      let joined : draft.tasks ++ (one ∷ other ∷ both ∷ []) ≡ with_two ++ both ∷ [] =
      sym (append_assoc with_one (other ∷ []) (both ∷ []) ∙ append_assoc draft.tasks (one ∷ []) (other ∷ both ∷ [])) in
      let first_work : work with_one ≡ work draft.tasks + lib.work one.kind xs = plain_more draft.tasks one xs first in
      let second_work : work with_two ≡ work with_one + lib.work other.kind ys = plain_more with_one other ys second in
      ap work joined ∙ omega (arith, first_work, second_work, last)

  -- a kind of work 1 that joins the places adds 1, where a place is not null
  pub ended_work : {O : Type 0} (kinds : O → K) (what : O) (draft : Draft K) → ((inputs : List (Tree C)) → lib.work (kinds what) inputs ≡ 1) → total (ended kinds (Joined what) draft) ≡ cond (are_null draft.places) 0 (draft_work draft + 1)
  ended_work kinds what draft one =
      let join = task_of (kinds what) (filled draft.places) in
      let call = call_of lib.goal trees chunks (calls_of (map task_shape draft.tasks)) (task_shape join) in
      cond_both (are_null draft.places) (given_shape Null) (shape_with draft.chunks (draft.tasks ++ join ∷ []) (Task (length draft.tasks)))
      (λ shape. total shape ≡ cond (are_null draft.places) 0 (draft_work draft + 1))
      (λ none. ap (λ test. cond test 0 (draft_work draft + 1)) (sym none))
      (λ some. one_task_more draft.tasks join ∙ ap (λ n. draft_work draft + n) (zero-add (call_work call) ∙ one call.inputs) ∙ ap (λ test. cond test 0 (draft_work draft + 1)) (sym some))

-- a part that is null leaves the places null, and another does not
pub either_null : {K : Type 0} (draft : Draft K) (kind : K) (q : ℕ) (a b : Bool) → are_null (with_either draft kind q a b).places ≡ (are_null draft.places && not (a || b))
either_null draft kind q false false = list_all-append (same_place Null) draft.places (Null ∷ [])
either_null draft kind q true false = list_all-append (same_place Null) draft.places (Child 0 q ∷ [])
either_null draft kind q false true = list_all-append (same_place Null) draft.places (Child 1 q ∷ [])
either_null draft kind q true true = list_all-append (same_place Null) draft.places (Task (length draft.tasks + 0) ∷ [])

-- so it is of one task
pub alone_null : {K : Type 0} (draft : Draft K) (task : NewTask K) (a : Bool) → are_null (with_alone draft task a).places ≡ (are_null draft.places && not a)
alone_null draft task false = list_all-append (same_place Null) draft.places (Null ∷ [])
alone_null draft task true = list_all-append (same_place Null) draft.places (Task (length draft.tasks + 0) ∷ [])

-- and of a pair
pub pair_null : {K : Type 0} (draft : Draft K) (one other : NewTask K) (added : K) (a b : Bool) → are_null (with_pair draft one other added a b).places ≡ (are_null draft.places && not (a || b))
pair_null draft one other added false false = list_all-append (same_place Null) draft.places (Null ∷ [])
pair_null draft one other added true false = list_all-append (same_place Null) draft.places (Task (length draft.tasks + 0) ∷ [])
pair_null draft one other added false true = list_all-append (same_place Null) draft.places (Task (length draft.tasks + 0) ∷ [])
pair_null draft one other added true true = list_all-append (same_place Null) draft.places (Task (length draft.tasks + 2) ∷ [])
