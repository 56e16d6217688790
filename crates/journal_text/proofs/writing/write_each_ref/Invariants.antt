use Rattle.std.proofs.Common.{◌≤◌, take}
use Rattle.std.specs.List.{flat_map}
use Rattle.journal_text.specs.Openings.{ref_part}
use Rattle.journal_text.specs.Sending.{IsSent}
use Rattle.journal_text.proofs.writing.write_each_ref.Given as goal

abbrev pub invariant-loop-r : goal.invariant-loop-r
invariant-loop-r g l = record {
  later : g.S.Sink.faults l.fn.sink ≤ g.S.Sink.faults l.sink;
  sent : IsSent (g.S.Sink.took l.fn.sink) l.fn.held (flat_map ref_part (take l.r-index l.refs)) (g.S.Sink.took l.sink) l.held;
}
