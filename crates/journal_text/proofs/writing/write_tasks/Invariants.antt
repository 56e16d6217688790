use Rattle.std.proofs.Common.{◌≤◌, take}
use Rattle.std.specs.List.{flat_map}
use Rattle.journal_text.specs.Openings.{task_line}
use Rattle.journal_text.specs.Sending.{IsSent}
use Rattle.journal_text.proofs.writing.write_tasks.Given as goal

abbrev pub invariant-loop-task : goal.invariant-loop-task
invariant-loop-task g l = record {
  later : g.S.Sink.faults l.fn.sink ≤ g.S.Sink.faults l.sink;
  sent : IsSent (g.S.Sink.took l.fn.sink) l.fn.held (flat_map (task_line g.K.Kinds.name_of g.K.Kinds.height_of) (take l.task-index l.tasks)) (g.S.Sink.took l.sink) l.held;
}
