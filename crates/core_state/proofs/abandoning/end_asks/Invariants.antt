use Rattle.std.proofs.Common.{◌≡◌, length}
use Rattle.std.specs.FinMap as map
use Rattle.core_state.proofs.OutputsEnded.{AsksLeft}
use Rattle.core_state.proofs.abandoning.end_asks.Given as goal

abbrev pub invariant-loop-task : goal.invariant-loop-task
invariant-loop-task g l = record {
  remains : AsksLeft l.initial.names.names l.names.names l.initial.asks.asks l.asks.asks l.c l.owed l.left;
  stores : length l.names.room.bodies ≡ length l.initial.names.room.bodies;
  callers : length l.asks.rooms ≡ length l.initial.asks.rooms;
}

abbrev pub decreases-loop-task : goal.decreases-loop-task
decreases-loop-task g l = map.len l.asks.asks
