use Rattle.std.proofs.Common.{◌≤◌, take}
use Rattle.std.specs.List.{flat_map}
use Rattle.journal_text.specs.Openings.{chunk_line}
use Rattle.journal_text.specs.Sending.{IsSent}
use Rattle.journal_text.proofs.writing.write_chunks.Given as goal

abbrev pub invariant-loop-places : goal.invariant-loop-places
invariant-loop-places g l = record {
  later : g.S.Sink.faults l.fn.sink ≤ g.S.Sink.faults l.sink;
  sent : IsSent (g.S.Sink.took l.fn.sink) l.fn.held (flat_map chunk_line (take l.places-index l.chunks)) (g.S.Sink.took l.sink) l.held;
}
