use Rattle.std.proofs.Common.{refl}
use Rattle.task_graph.proofs.Sweeps.{swept_whole, swept_graph}
use Rattle.task_graph.proofs.parts.Parts.abandon.Goals as goal

pub returns-clause-whole : goal.returns-clause-whole
returns-clause-whole g c = swept_whole c.args.self.now c.sweep.new.self (record c.sweep.new.self { callers = c.set.new.self }) c.args.caller c.requires.whole c.sweep.ensures.swept refl c.sweep.ensures.callers c.set.ensures.at c.set.ensures.len

pub returns-clause-graph : goal.returns-clause-graph
returns-clause-graph g c = swept_graph c.args.self.now c.sweep.new.self (record c.sweep.new.self { callers = c.set.new.self }) c.args.caller c.requires.whole c.sweep.ensures.swept refl c.sweep.ensures.callers c.set.ensures.at c.set.ensures.len
