-- What a list of events tells of tasks is so.
use Rattle.std.proofs.Common.{◌≡◌, ℕ, zero, suc, ◌+◌, ◌<◌, ◌≤◌, nat_cmp, List, [], ◌∷◌, ◌++◌, length, Some, refl, ◌∙◌, arith}
use Rattle.std.specs.FinMap as map
use Rattle.task_types.specs.declared.outcome.NewTask.{NewTask}
use Rattle.task_types.specs.Places.{places_of}
use Rattle.task_states.specs.States.{Unfinished, Graph, task_at}
use Rattle.name_states.proofs.Basics.{inserted_here, inserted_other}
use Rattle.cht_history.specs.declared.event.Event.{Event}
use Rattle.name_machine.specs.NewTasks.{taken, task_numbers, number_at}
use Rattle.name_machine.specs.Parts.{Told, told_tasks, told_more, told_after, finishes_by, finishes_from}

module _ {K : Type 0} where
  -- one more event
  pub told_then : (told : Told) (events : List (Event K)) (event : Event K) → told_after told (events ++ event ∷ []) ≡ told_more (told_after told events) event
  told_then told [] event = refl
  told_then told (first ∷ events) event = told_then (told_more told first) events event

  pub finishes_then : (told : Told) (caller : ℕ) (events : List (Event K)) (event : Event K)
      → finishes_from told caller (events ++ event ∷ []) ≡ finishes_from told caller events + finishes_by (told_after told events) caller event
  finishes_then told caller [] event = omega arith
  finishes_then told caller (first ∷ events) event = let rest = finishes_then (told_more told first) caller events event in omega arith

  -- what is told of new tasks
  pub told_old : (caller drawn q : ℕ) (tasks : List (NewTask K)) (callers : map.FinMap nat_cmp ℕ) → q ≤ drawn → map.get (told_tasks caller drawn tasks callers) q ≡ map.get callers q
  told_old caller drawn q [] callers h = refl
  told_old caller drawn q (task ∷ tasks) callers h =
      told_old caller (drawn + 1 + taken (places_of task.inputs)) q tasks (map.insert callers (drawn + 1) caller) (omega arith)
      ∙ inserted_other callers (drawn + 1) q caller (λ same. omega arith)

  pub told_new : (caller drawn i : ℕ) (tasks : List (NewTask K)) (callers : map.FinMap nat_cmp ℕ) → i < length tasks
      → map.get (told_tasks caller drawn tasks callers) (number_at (task_numbers drawn tasks) i) ≡ Some caller
  told_new caller drawn i [] callers h = absurd (omega arith)
  told_new caller drawn zero (task ∷ tasks) callers h =
      told_old caller (drawn + 1 + taken (places_of task.inputs)) (drawn + 1) tasks (map.insert callers (drawn + 1) caller) (omega arith)
      ∙ inserted_here callers (drawn + 1) (drawn + 1) caller caller refl refl
  told_new caller drawn (suc i) (task ∷ tasks) callers h =
      told_new caller (drawn + 1 + taken (places_of task.inputs)) i tasks (map.insert callers (drawn + 1) caller) (omega arith)

module _ {X K : Type 0} where
  -- what is told is so: as many numbers were drawn, and each unfinished task is whose it is told to be
  pub record Tells (told : Told) (drawn : ℕ) (graph : Graph X K) : Type 0 where
    pub drawn_is : told.drawn ≡ drawn
    pub callers : (q : ℕ) (t : Unfinished X K) → task_at graph q ≡ Some t → map.get told.callers q ≡ Some t.caller
