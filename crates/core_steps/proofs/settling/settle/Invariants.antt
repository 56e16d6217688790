use Rattle.std.proofs.Common.{◌+◌, ◌≤◌, length, vec_len, vec_capacity, ◌≡◌}
use Rattle.task_states.specs.Listing.{awaiters}
use Rattle.core_steps.proofs.Delivering.{IsSettling}
use Rattle.core_steps.proofs.settling.settle.Given as goal

abbrev pub invariant-loop-awaiter : goal.invariant-loop-awaiter
invariant-loop-awaiter g l = record {
  settling : IsSettling l.initial.names.names l.initial.graph.graph l.initial.ready.items l.task l.r l.names.names l.graph.graph l.ready.items l.asked;
  enough : length (awaiters l.graph.graph l.task) ≤ l.names.room.ids;
  fits : vec_len l.ready + length (awaiters l.graph.graph l.task) ≤ vec_capacity l.ready;
  room : l.initial.names.room.ids + length (awaiters l.graph.graph l.task) ≤ l.names.room.ids + length (awaiters l.initial.graph.graph l.task);
  stores : length l.names.room.bodies ≡ length l.initial.names.room.bodies;
  spare : l.graph.spare ≡ l.initial.graph.spare;
  len : vec_len l.ready + length (awaiters l.graph.graph l.task) ≤ vec_len l.initial.ready + length (awaiters l.initial.graph.graph l.task);
  capacity : vec_capacity l.ready ≡ vec_capacity l.initial.ready;
}

abbrev pub decreases-loop-awaiter : goal.decreases-loop-awaiter
decreases-loop-awaiter g l = length (awaiters l.graph.graph l.task)
