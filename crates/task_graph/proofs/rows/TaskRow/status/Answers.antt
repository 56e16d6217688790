use Rattle.std.proofs.Common.{true, false, is_some, refl}
use Rattle.task_graph.proofs.RowReading.{row_status}
use Rattle.task_graph.proofs.rows.TaskRow.status.Goals as goal

pub returns-then-any_awaits : goal.returns-then-any_awaits
returns-then-any_awaits g c = row_status c.args.self.now c.given.result.now true (is_some c.args.self.now.runner) c.given.ensures c.if-any_awaits.ensures refl

pub returns-then-is_some : goal.returns-then-is_some
returns-then-is_some g c = row_status c.args.self.now c.given.result.now false true c.given.ensures c.if-any_awaits.ensures c.if-is_some.ensures

pub returns-else-is_some : goal.returns-else-is_some
returns-else-is_some g c = row_status c.args.self.now c.given.result.now false false c.given.ensures c.if-any_awaits.ensures c.if-is_some.ensures
