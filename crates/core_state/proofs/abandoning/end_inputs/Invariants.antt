use Rattle.std.proofs.Common.{◌≡◌, ◌-◌, length}
use Rattle.core_state.proofs.TasksEnded.{InputsLeft}
use Rattle.core_state.proofs.abandoning.end_inputs.Given as goal

abbrev pub invariant-loop-input : goal.invariant-loop-input
invariant-loop-input g l = record {
  left : InputsLeft l.graph.graph l.initial.names.names l.names.names l.task l.place;
  stores : length l.names.room.bodies ≡ length l.initial.names.room.bodies;
}

abbrev pub decreases-loop-input : goal.decreases-loop-input
decreases-loop-input g l = 4 - l.place
