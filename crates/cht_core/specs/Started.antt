-- What a start answers.
use Rattle.std.specs.Prelude.{◌≡◌, ◌≢◌, ℕ, Some}
use Rattle.task_types.specs.Tree.{Tree}
use Rattle.task_types.specs.Shown.{Shows}
use Rattle.task_types.specs.Meanings.{Meanings}
use Rattle.task_states.specs.declared.states.TaskStatus.TheVariants.{Ready}
use Rattle.task_states.specs.States.{Unfinished, task_at, status}
use Rattle.cht_history.specs.declared.event.Event.TheVariants.{Start as StartEvent}
use Rattle.name_machine.specs.Steps.{input_trees}
use Rattle.core_state.specs.Contents.{Contents}
use Rattle.cht_core.specs.declared.answers.Start.{Start}
use Rattle.cht_core.specs.declared.answers.Start.TheVariants as start
use Rattle.cht_core.specs.declared.answers.Started.{Started}
use Rattle.cht_core.specs.Events.{state, Happens}
use Rattle.cht_core.specs.Granted.{AreOwn, inputs_granted}

module _ {L C K : Type 0} (lib : Meanings C K) (arity : C → ℕ) (before after : Contents C K) where
  -- A worker began a task, which is an event. It is told the kind of the task, and gets its inputs, each null or of the worker's own
  -- store, which show the trees of the task; the goal is defined on these.
  pub record IsBegun (worker task : ℕ) (started : Started L C K) : Type 0 where
    pub happens : Happens lib arity before after (StartEvent worker task)
    pub task_is : started.task ≡ task
    pub unfinished : Unfinished (Tree C) K
    pub there : task_at (state lib before).graph task ≡ Some unfinished
    pub kind : started.kind ≡ unfinished.kind
    pub own : AreOwn started.inputs
    pub shown : Shows (inputs_granted started.inputs) (input_trees unfinished)
    pub defined : lib.defined unfinished.kind (input_trees unfinished)

  -- A start: the worker began the task; the status of the task is answered exactly where it is not Ready; and a task that is Ready may
  -- not be begun for want of memory. Nothing changes in these two cases.
  abbrev pub IsStarted : ℕ → ℕ → Start L C K → Type 0
  IsStarted worker task (start.Started started) = IsBegun worker task started
  IsStarted worker task (start.NotReady other) = (other ≡ status (state lib before).graph task) × (other ≢ Ready) × (after ≡ before)
  IsStarted worker task start.Memory = (status (state lib before).graph task ≡ Ready) × (after ≡ before)
