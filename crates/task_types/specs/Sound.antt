-- Sound outcomes, and the work of their tasks.
use Rattle.std.specs.Prelude.{◌≡◌, ℕ, ◌+◌, ◌<◌, ◌≤◌, List, length, map, sum_by}
use Rattle.std.specs.List.{AllByRecursion}
use Rattle.task_types.specs.declared.outcome.Outcome.{Outcome}
use Rattle.task_types.specs.declared.inputs.Inputs.{Inputs}
use Rattle.task_types.specs.Tree.{Tree}
use Rattle.task_types.specs.Presence.{presence_of}
use Rattle.task_types.specs.Shown.{Shows}
use Rattle.task_types.specs.Places.{shape_of, IsOneOf}
use Rattle.task_types.specs.Formed.{IsFormed}
use Rattle.task_types.specs.Reading.{Call, new_calls, result_tree}
use Rattle.task_types.specs.Meanings.{Meanings}

-- An outcome is sound for a kind on these trees.
pub record IsSound {C K : Type 0} (arity : C → ℕ) (lib : Meanings C K) (kind : K) (trees : List (Tree C))
    (outcome : Outcome C K) : Type 0 where
  -- it is formed
  pub formed : IsFormed arity (map presence_of trees) outcome
  -- its shape is one of the plan's
  pub planned : IsOneOf (shape_of outcome) (lib.plan kind (map presence_of trees))
  -- the goal of each new task is defined
  pub defined : AllByRecursion (λ (call : Call C K). lib.defined call.kind call.inputs) (new_calls lib.goal trees outcome)
  -- each new task has a lower rank
  pub lower : AllByRecursion (λ (call : Call C K). lib.rank call.kind < lib.rank kind) (new_calls lib.goal trees outcome)
  -- its result reads as the goal
  pub goal : result_tree lib.goal trees outcome ≡ lib.goal kind trees

-- the inputs show trees on which the goal of a kind is defined
abbrev pub HasGoal : {C K : Type 0} → Meanings C K → K → Inputs C → Type 0
HasGoal {C} lib kind inputs = (trees : List (Tree C)) × Shows inputs trees × lib.defined kind trees

-- an outcome is sound on all trees that the inputs show and on which the goal of the kind is defined
abbrev pub IsSoundFor : {C K : Type 0} → (C → ℕ) → Meanings C K → K → Inputs C → Outcome C K → Type 0
IsSoundFor {C} arity lib kind inputs outcome =
    (trees : List (Tree C)) → Shows inputs trees → lib.defined kind trees → IsSound arity lib kind trees outcome

-- the works of an outcome's new tasks
abbrev pub new_work : {C K : Type 0} → Meanings C K → List (Tree C) → Outcome C K → ℕ
new_work {C} {K} lib trees outcome =
    sum_by (λ (call : Call C K). lib.work call.kind call.inputs) (new_calls lib.goal trees outcome)

-- a goal is defined only for at most four inputs
abbrev pub HasFewInputs : {C K : Type 0} → Meanings C K → Type 0
HasFewInputs {C} {K} lib = (kind : K) (trees : List (Tree C)) → lib.defined kind trees → length trees ≤ 4

-- at each sound outcome the work of a kind is one more than the works of the new tasks
abbrev pub AddsUp : {C K : Type 0} → (C → ℕ) → Meanings C K → Type 0
AddsUp {C} {K} arity lib =
    (kind : K) (trees : List (Tree C)) (outcome : Outcome C K) → lib.defined kind trees
    → IsSound arity lib kind trees outcome
    → lib.work kind trees ≡ 1 + new_work lib trees outcome
