-- The tasks that became Ready.
use Rattle.std.specs.Prelude.{◌≡◌, ◌↔◌, ℕ, List}
use Rattle.std.specs.List.{Contains}
use Rattle.std.specs.List.Sorted.{IsStrictlyIncreasing}
use Rattle.task_states.specs.declared.states.TaskStatus.TheVariants.{Ready}
use Rattle.task_states.specs.States.{Graph, status}

-- The numbers of a list rise, and a task is among them exactly where it is Ready and was not Ready before.
pub record AreNewlyReady {X K : Type 0} (before after : Graph X K) (ready : List ℕ) : Type 0 where
  pub rise : IsStrictlyIncreasing ready
  pub exactly : (task : ℕ) → Contains ready task ↔ ((status after task ≡ Ready) × (status before task ≡ Ready → ⊥))
