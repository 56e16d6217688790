use Rattle.std.proofs.Common.{ap, sym}
use Rattle.std.specs.Option.{option_map}
use Rattle.task_links.specs.Inside.{entries_at, station_at}
use Rattle.task_links.specs.Callers.{caller_at, bounds_at, bounds_of}
use Rattle.task_links.proofs.Splicing.{floor_first}
use Rattle.task_graph.proofs.Readings.{tail_of}
use Rattle.task_graph.proofs.parts.Parts.around.Goals as goal

pub returns-then-last-task-clause-below : goal.returns-then-last-task-clause-below
returns-then-last-task-clause-below g c =
    let floor = floor_first (bounds_at (caller_at c.args.self.now.callers)) (station_at (entries_at c.args.self.now.entries)) c.args.caller c.args.task c.requires.ordered (bounds_of c.get-row.result)
    (ap (option_map bounds_of) c.get-row.ensures) _ c.in-Some.is in
    (floor.0, floor.1, floor.2, c.if-last-task.true, floor.3)

pub returns-then-last-task-clause-behind : goal.returns-then-last-task-clause-behind
returns-then-last-task-clause-behind g c =
    let tail = tail_of (bounds_at (caller_at c.args.self.now.callers)) (station_at (entries_at c.args.self.now.entries)) c.args.caller c.requires.ordered (bounds_of c.get-row.result)
    (ap (option_map bounds_of) c.get-row.ensures) _ c.in-Some.is in
    (tail.0, tail.1, sym tail.3)
