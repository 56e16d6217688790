use Rattle.std.proofs.Common.{◌≤◌, take}
use Rattle.std.specs.List.{flat_map}
use Rattle.journal_text.specs.Openings.{event_text}
use Rattle.journal_text.specs.Sending.{IsSent}
use Rattle.journal_text.proofs.writing.write_events.Given as goal

abbrev pub invariant-loop-i : goal.invariant-loop-i
invariant-loop-i g l = record {
  later : g.S.Sink.faults l.fn.sink ≤ g.S.Sink.faults l.sink;
  sent : IsSent (g.S.Sink.took l.fn.sink) l.fn.held (flat_map (event_text g.K.Kinds.name_of g.K.Kinds.height_of) (take l.i l.journal.events)) (g.S.Sink.took l.sink) l.held;
}
