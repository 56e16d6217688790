use Rattle.std.proofs.Common.{◌≡◌, length}
use Rattle.core_state.proofs.TasksEnded.{TasksLeft, rest_after}
use Rattle.core_state.proofs.abandoning.end_tasks.Given as goal

abbrev pub invariant-loop-next : goal.invariant-loop-next
invariant-loop-next g l = record {
  left : TasksLeft l.graph.graph l.initial.names.names l.names.names l.c l.next;
  stores : length l.names.room.bodies ≡ length l.initial.names.room.bodies;
}

abbrev pub decreases-loop-next : goal.decreases-loop-next
decreases-loop-next g l = rest_after l.next
