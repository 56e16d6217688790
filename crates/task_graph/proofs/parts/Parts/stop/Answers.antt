use Rattle.std.proofs.Common.{refl}
use Rattle.task_graph.proofs.Keeping.{stop-whole, stop-graph}
use Rattle.task_graph.proofs.parts.Parts.stop.Goals as goal

pub returns-clause-whole : goal.returns-clause-whole
returns-clause-whole g c = stop-whole c.args.self.now (record c.args.self.now { callers = c.set.new.self }) c.args.caller c.get-row.result c.requires.whole c.get-row.ensures refl c.set.ensures.at c.set.ensures.len

pub returns-clause-graph : goal.returns-clause-graph
returns-clause-graph g c = stop-graph c.args.self.now (record c.args.self.now { callers = c.set.new.self }) c.args.caller c.get-row.result c.requires.whole c.get-row.ensures refl c.set.ensures.at c.set.ensures.len
