-- Which new tasks are Ready once all are there: those that await nothing.
use Rattle.std.proofs.Common.{◌≡◌, ℕ, ◌+◌, ◌≤◌, ◌||◌, Bool, true, false, cond, ◌++◌, List, [], ◌∷◌, length, None, Some, refl, sym, ap, ◌∙◌, arith}
use Rattle.std.specs.List.{list_any, filter}
use Rattle.cht_ids.specs.declared.refs.Ref.{Ref}
use Rattle.task_types.specs.declared.outcome.Place.{Place}
use Rattle.task_types.specs.declared.outcome.Place.TheVariants.{Null, Input as AtInput, Child, Chunk, Task}
use Rattle.task_types.specs.declared.outcome.Places.{Places}
use Rattle.task_types.specs.declared.outcome.NewTask.{NewTask}
use Rattle.task_types.specs.Places.{places_of, place_at}
use Rattle.name_states.proofs.Basics.{inserted_here}
use Rattle.task_states.specs.declared.states.TaskStatus.TheVariants.{Unknown, Waiting, Ready}
use Rattle.task_states.specs.States.{Graph, task_at, is_awaiting, status_of}
use Rattle.task_states.specs.Steps.{added}
use Rattle.name_machine.specs.NewTasks.{taken, task_numbers, new_inputs, with_tasks}
use Rattle.name_machine.proofs.Added.{old_stays}
use Rattle.core_steps.specs.Ending.{is_ready, is_ready_in, names_task, any_of, idle_numbers}
use Rattle.core_steps.proofs.Places.{few_places}

-- ---- Four places

or_false : (b : Bool) → b ≡ b || false
or_false true = refl
or_false false = refl

any_or : (a b c d : Bool) → any_of a b c d ≡ a || (b || (c || d))
any_or true b c d = refl
any_or false true c d = refl
any_or false false true d = refl
any_or false false false d = refl

four_any : (places : List Place) → length places ≤ 4
    → names_task (place_at places 0) || (names_task (place_at places 1) || (names_task (place_at places 2) || names_task (place_at places 3))) ≡ list_any names_task places
four_any [] few = refl
four_any (a ∷ []) few = refl
four_any (a ∷ b ∷ []) few = refl
four_any (a ∷ b ∷ c ∷ []) few = refl
four_any (a ∷ b ∷ c ∷ d ∷ []) few = ap (λ e. names_task a || (names_task b || (names_task c || e))) (or_false (names_task d))
four_any (a ∷ b ∷ c ∷ d ∷ e ∷ places) few = absurd (omega arith)

pub any_listed : (places : Places) (a b c d : Bool) → a ≡ names_task (place_at (places_of places) 0) → b ≡ names_task (place_at (places_of places) 1)
    → c ≡ names_task (place_at (places_of places) 2) → d ≡ names_task (place_at (places_of places) 3) → any_of a b c d ≡ list_any names_task (places_of places)
any_listed places a b c d one two three four =
    any_or a b c d ∙ (λ i. one i || (two i || (three i || four i))) ∙ four_any (places_of places) (few_places places)

-- ---- New tasks

any_awaits : (value : Place → ℕ → Ref) (numbers : List ℕ) (drawn : ℕ) (places : List Place) → list_any is_awaiting (new_inputs value numbers drawn places) ≡ list_any names_task places
any_awaits value numbers drawn [] = refl
any_awaits value numbers drawn (Null ∷ places) = any_awaits value numbers drawn places
any_awaits value numbers drawn (AtInput i ∷ places) = any_awaits value numbers (drawn + 1) places
any_awaits value numbers drawn (Child i j ∷ places) = any_awaits value numbers (drawn + 1) places
any_awaits value numbers drawn (Chunk i ∷ places) = any_awaits value numbers (drawn + 1) places
any_awaits value numbers drawn (Task i ∷ places) = refl

-- a task that no worker runs is Ready where it awaits nothing
fresh_ready : (awaits : Bool) → is_ready (cond awaits Waiting Ready) ≡ cond awaits false true
fresh_ready true = refl
fresh_ready false = refl

-- a test, and its opposite, before the rest of a list
listed_by : (number : ℕ) (awaits : Bool) (test : Bool) (some none : List ℕ) → test ≡ cond awaits false true → some ≡ none
    → cond test (number ∷ some) some ≡ (cond awaits [] (number ∷ [])) ++ none
listed_by number true test some none is rest = ap (λ b. cond b (number ∷ some) some) is ∙ rest
listed_by number false test some none is rest = ap (λ b. cond b (number ∷ some) some) is ∙ ap (λ xs. number ∷ xs) rest

module _ {K : Type 0} (value : Place → ℕ → Ref) (numbers : List ℕ) (caller : ℕ) where
  -- the first of new tasks is Ready where it awaits nothing
  first_ready : (base : ℕ) (task : NewTask K) (tasks : List (NewTask K)) (graph : Graph Ref K)
      → is_ready_in (with_tasks value numbers caller base (task ∷ tasks) graph) (base + 1) ≡ cond (list_any names_task (places_of task.inputs)) false true
  first_ready base task tasks graph =
      let inputs = new_inputs value numbers (base + 1) (places_of task.inputs) in
      let rest : ℕ = base + 1 + taken (places_of task.inputs) in
      let one : Graph Ref K = added graph (base + 1) caller task.kind inputs in
      let there : task_at (with_tasks value numbers caller rest tasks one) (base + 1) ≡ Some (record { caller = caller; kind = task.kind; inputs = inputs; runner = None; asked = None }) =
      old_stays value numbers caller rest tasks one (base + 1) (omega arith) ∙ inserted_here graph.tasks (base + 1) (base + 1) _ _ refl refl in
      ap (λ o. is_ready (elim o [ None ↦ Unknown | Some t ↦ status_of t ])) there
      ∙ ap (λ b. is_ready (cond b Waiting Ready)) (any_awaits value numbers (base + 1) (places_of task.inputs))
      ∙ fresh_ready (list_any names_task (places_of task.inputs))

  idle_are : (base : ℕ) (tasks : List (NewTask K)) (graph : Graph Ref K)
      → filter (is_ready_in (with_tasks value numbers caller base tasks graph)) (task_numbers base tasks) ≡ idle_numbers tasks (task_numbers base tasks)
  idle_are base [] graph = refl
  idle_are base (task ∷ tasks) graph =
      let inputs = new_inputs value numbers (base + 1) (places_of task.inputs) in
      let rest : ℕ = base + 1 + taken (places_of task.inputs) in
      listed_by (base + 1) (list_any names_task (places_of task.inputs)) _ _ _ (first_ready base task tasks graph) (idle_are rest tasks (added graph (base + 1) caller task.kind inputs))

-- so of those that were added
pub idle_listed : {K : Type 0} (value : Place → ℕ → Ref) (numbers : List ℕ) (caller base : ℕ) (tasks : List (NewTask K)) (graph after : Graph Ref K) (given found : List ℕ)
    → after ≡ with_tasks value numbers caller base tasks graph → found ≡ task_numbers base tasks → given ≡ found
    → idle_numbers tasks given ≡ filter (is_ready_in after) found
idle_listed value numbers caller base tasks graph after given found after_is found_is same =
    ap (idle_numbers tasks) (same ∙ found_is) ∙ sym (idle_are value numbers caller base tasks graph) ∙ (λ i. filter (is_ready_in (sym after_is i)) (sym found_is i))
