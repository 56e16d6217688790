-- What a start answers of which a worker gets what the task is shown.
use Rattle.std.specs.Prelude.{◌≡◌, ◌≢◌, ℕ, Some}
use Rattle.task_types.specs.Tree.{Tree}
use Rattle.task_types.specs.Shown.{Shows}
use Rattle.task_types.specs.Meanings.{Meanings}
use Rattle.task_states.specs.declared.states.TaskStatus.TheVariants.{Ready}
use Rattle.task_states.specs.States.{Unfinished, task_at, status}
use Rattle.cht_history.specs.declared.event.Event.TheVariants.{Start as StartEvent}
use Rattle.name_machine.specs.Steps.{input_trees}
use Rattle.core_state.specs.Contents.{Contents}
use Rattle.cht_core.specs.declared.answers.Begin.{Begin}
use Rattle.cht_core.specs.declared.answers.Begin.TheVariants as begin
use Rattle.cht_core.specs.declared.answers.Execution.{Execution}
use Rattle.cht_core.specs.Events.{state, Happens}

module _ {L C K : Type 0} (lib : Meanings C K) (arity : C → ℕ) (before after : Contents C K) where
  -- A worker began a task, which is an event. It is told the kind of the task, and gets inputs that show the trees of the task; the goal is
  -- defined on these.
  pub record IsOn (worker task : ℕ) (execution : Execution L C K) : Type 0 where
    pub happens : Happens lib arity before after (StartEvent worker task)
    pub task_is : execution.task ≡ task
    pub unfinished : Unfinished (Tree C) K
    pub there : task_at (state lib before).graph task ≡ Some unfinished
    pub kind : execution.kind ≡ unfinished.kind
    pub shown : Shows execution.inputs (input_trees unfinished)
    pub defined : lib.defined unfinished.kind (input_trees unfinished)

  -- The worker began the task; the status of the task is answered exactly where it is not Ready; and a task that is Ready may not be begun
  -- for want of memory. Nothing changes in these two cases.
  abbrev pub IsEntered : ℕ → ℕ → Begin L C K → Type 0
  IsEntered worker task (begin.Started execution) = IsOn worker task execution
  IsEntered worker task (begin.NotReady other) = (other ≡ status (state lib before).graph task) × (other ≢ Ready) × (after ≡ before)
  IsEntered worker task begin.Memory = (status (state lib before).graph task ≡ Ready) × (after ≡ before)
