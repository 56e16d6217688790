use Rattle.std.proofs.Common.{◌≡◌, ℕ, ◌<◌, Some, slice_get}
use Rattle.task_types.specs.declared.outcome.NewTask.{NewTask}
use Rattle.task_types.specs.Shown.{presences_in}
use Rattle.task_types.specs.Formed.{MayStand}
use Rattle.task_types.proofs.formed.are_tasks.Given as goal

-- the places of each task so far may stand
abbrev pub invariant-loop-i : goal.invariant-loop-i
invariant-loop-i g l = (k : ℕ) (task : NewTask g.row.K.Denot) → k < l.i → slice_get l.tasks k ≡ Some task → MayStand (presences_in l.inputs) l.chunks k task.inputs
