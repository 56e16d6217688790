use Rattle.std.proofs.Common.{◌≤◌, length}
use Rattle.cht_io.proofs.Adds.{IsCut}
use Rattle.cht_io.proofs.pieces.write_all.Given as goal

abbrev pub invariant-loop-rest : goal.invariant-loop-rest
invariant-loop-rest g l = record {
  later : g.K.Sink.faults l.initial.sink ≤ g.K.Sink.faults l.sink;
  cut : IsCut (g.K.Sink.took l.initial.sink) l.piece l.rest (g.K.Sink.took l.sink);
}

abbrev pub decreases-loop-rest : goal.decreases-loop-rest
decreases-loop-rest g l = length l.rest
