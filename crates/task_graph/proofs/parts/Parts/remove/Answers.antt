use Rattle.std.proofs.Common.{arith}
use Rattle.std.proofs.lemmas.Grind.{common_steps}
use Rattle.task_graph.proofs.Marking.{entry_of}
use Rattle.task_graph.proofs.Awaiting.{loose_of, none_from, status_running}
use Rattle.task_graph.proofs.Going.{going_some, going-whole, going-graph}
use Rattle.task_graph.proofs.Keeping.{taken-whole, taken-graph}
use Rattle.task_graph.proofs.Runs.{caller_low}
use Rattle.task_graph.proofs.parts.Parts.remove.Goals as goal

pub take-entry-requires-clause-there : goal.take-entry-requires-clause-there
take-entry-requires-clause-there g c = entry_of c.args.self.now c.args.task c.requires.there

pub get-row-requires : goal.get-row-requires
get-row-requires g c = caller_low c.args.self.now c.requires.whole c.args.task c.take-entry.result c.take-entry.ensures.entry

pub overflow_sub-row : goal.overflow_sub-row
overflow_sub-row g c =
    let loose = loose_of c.args.self.now c.args.task c.take-entry.result c.requires.whole c.take-entry.ensures.entry c.requires.waits c.requires.awaited in
    let b = c.take-entry.ensures.beside in
    let runs = status_running c.args.self.now c.args.task c.take-entry.result c.requires.whole c.take-entry.ensures.entry c.requires.waits (grind (arith, common_steps)) in
    going_some c.args.self.now c.take-entry.new.self b.0 c.args.task c.get-row.result c.requires.whole c.take-entry.result loose b.1 b.2 c.take-entry.ensures.ordered c.take-entry.ensures.load c.take-entry.ensures.rows runs c.get-row.ensures

pub count-requires : goal.count-requires
count-requires g c =
    caller_low c.args.self.now c.requires.whole c.args.task c.take-entry.result c.take-entry.ensures.entry

pub returns-then-is_some-clause-whole : goal.returns-then-is_some-clause-whole
returns-then-is_some-clause-whole g c =
    let loose = loose_of c.args.self.now c.args.task c.take-entry.result c.requires.whole c.take-entry.ensures.entry c.requires.waits c.requires.awaited in
    let b = c.take-entry.ensures.beside in
    let runs = status_running c.args.self.now c.args.task c.take-entry.result c.requires.whole c.take-entry.ensures.entry c.requires.waits (grind (arith, common_steps)) in
    going-whole c.args.self.now c.take-entry.new.self c.count.new.self b.0 c.args.task c.get-row.result c.requires.whole c.take-entry.result loose b.1 b.2 c.take-entry.ensures.ordered c.take-entry.ensures.load c.take-entry.ensures.rows runs c.get-row.ensures c.count.ensures.entries c.count.ensures.callers c.count.ensures.len

pub returns-then-is_some-clause-graph : goal.returns-then-is_some-clause-graph
returns-then-is_some-clause-graph g c =
    let loose = loose_of c.args.self.now c.args.task c.take-entry.result c.requires.whole c.take-entry.ensures.entry c.requires.waits c.requires.awaited in
    let b = c.take-entry.ensures.beside in
    let runs = status_running c.args.self.now c.args.task c.take-entry.result c.requires.whole c.take-entry.ensures.entry c.requires.waits (grind (arith, common_steps)) in
    going-graph c.args.self.now c.take-entry.new.self c.count.new.self b.0 c.args.task c.get-row.result c.requires.whole c.take-entry.result loose b.1 b.2 c.take-entry.ensures.ordered c.take-entry.ensures.load c.take-entry.ensures.rows runs c.get-row.ensures c.count.ensures.entries c.count.ensures.callers c.count.ensures.len

pub returns-else-is_some-clause-whole : goal.returns-else-is_some-clause-whole
returns-else-is_some-clause-whole g c =
    let loose = loose_of c.args.self.now c.args.task c.take-entry.result c.requires.whole c.take-entry.ensures.entry c.requires.waits c.requires.awaited in
    let b = c.take-entry.ensures.beside in
    taken-whole c.args.self.now c.take-entry.new.self b.0 c.args.task c.requires.whole c.take-entry.result loose b.1 b.2 c.take-entry.ensures.ordered c.take-entry.ensures.load c.take-entry.ensures.rows (none_from c.take-entry.result.runner (grind (arith, common_steps)))

pub returns-else-is_some-clause-graph : goal.returns-else-is_some-clause-graph
returns-else-is_some-clause-graph g c =
    let loose = loose_of c.args.self.now c.args.task c.take-entry.result c.requires.whole c.take-entry.ensures.entry c.requires.waits c.requires.awaited in
    let b = c.take-entry.ensures.beside in
    taken-graph c.args.self.now c.take-entry.new.self b.0 c.args.task c.requires.whole c.take-entry.result loose b.1 b.2 c.take-entry.ensures.ordered c.take-entry.ensures.load c.take-entry.ensures.rows
