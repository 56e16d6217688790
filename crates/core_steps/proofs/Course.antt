-- The course of a finish: what stands after its chunks and its tasks, from where it begins.
use Rattle.std.proofs.Common.{◌≡◌, ℕ, ◌++◌, List, map as each, Some, refl}
use Rattle.cht_ids.specs.declared.refs.Ref.{Ref}
use Rattle.task_types.specs.declared.outcome.Outcome.{Outcome}
use Rattle.task_types.specs.Tree.{Tree}
use Rattle.task_types.specs.Presence.{Presence}
use Rattle.task_types.specs.Reading.{new_trees}
use Rattle.name_states.specs.States.{IdRecord, id_at}
use Rattle.name_states.specs.Trees.{tree_of}
use Rattle.name_states.specs.declared.holder.Holder.TheVariants.{Task as ByTask}
use Rattle.task_states.specs.States.{Unfinished, task_at}
use Rattle.name_machine.specs.Control.{Control, Grown, ref_known}
use Rattle.name_machine.proofs.FinishNames.{IsIn}
use Rattle.name_machine.specs.Standing.{IsRefOf}
use Rattle.name_machine.proofs.FinishMiddle.{Middle}
use Rattle.name_machine.proofs.FinishChunks.{ChunkStage}
use Rattle.name_machine.proofs.FinishAdded.{TaskStage}
use Rattle.name_machine.proofs.FinishStages as stages
use Rattle.core_steps.specs.Begin.{CanFinish}
use Rattle.core_steps.specs.Conditions.{presences}

module _ {C K : Type 0} (arity : C → ℕ) (control : Control C (Unit {0}) K) (worker task : ℕ) (ran : Unfinished Ref K) (outcome : Outcome C K)
    (can : CanFinish arity control worker task ran outcome) where
  abbrev pub inputs : List Ref
  inputs = each ref_known ran.inputs

  abbrev pub trees : List (Tree C)
  trees = each (tree_of control.names) inputs

  abbrev known : List Presence
  known = presences arity control ran

  -- after the new chunks
  abbrev pub grown : Grown C
  grown = stages.grown arity control can.orderly can.together.tasks_drawn task ran can.there worker outcome known can.formed trees refl

  abbrev pub numbers : List ℕ
  numbers = stages.numbers arity control can.orderly can.together.tasks_drawn task ran can.there worker outcome known can.formed trees refl

  -- after the new tasks
  abbrev pub second : Control C (Unit {0}) K
  second = stages.with_its_tasks arity control can.orderly can.together.tasks_drawn task ran can.there worker outcome known can.formed trees refl

  abbrev pub chunked : Control C (Unit {0}) K
  chunked = stages.with_its_chunks arity control can.orderly can.together.tasks_drawn task ran can.there worker outcome known can.formed trees refl

  abbrev pub made_trees : List (Tree C)
  made_trees = new_trees trees outcome

  pub chunk_stage : ChunkStage arity task control worker inputs trees grown made_trees
  chunk_stage = stages.chunk_stage arity control can.orderly can.together.tasks_drawn task ran can.there worker outcome known can.formed trees refl

  pub task_stage : TaskStage arity task grown.names inputs grown.chunks trees made_trees numbers ran.caller chunked second outcome.tasks
  task_stage = stages.task_stage arity control can.orderly can.together.tasks_drawn task ran can.there worker outcome known can.formed trees refl

  pub second_middle : Middle arity task second
  second_middle = task_stage.middle

  pub second_there : task_at second.graph task ≡ Some ran
  second_there = stages.still_there arity control can.orderly can.together.tasks_drawn task ran can.there worker outcome known can.formed trees refl

  pub listed_held : (r : Ref) → IsIn r (inputs ++ grown.chunks) → IsRefOf second.names (ByTask task) r
  listed_held = stages.listed_held arity control can.orderly can.together.tasks_drawn task ran can.there worker outcome known can.formed trees refl

  pub held_listed : (q : ℕ) (entry : IdRecord) → id_at second.names q ≡ Some entry → entry.holder ≡ ByTask task → IsIn q (stages.numbers_of (inputs ++ grown.chunks))
  held_listed = stages.held_listed arity control can.orderly can.together.tasks_drawn task ran can.there worker outcome known can.formed trees refl
