use Rattle.std.proofs.Common.{sym, ap, length}
use Rattle.task_states.proofs.Listings.{lists_none}
use Rattle.task_graph.specs.Graphs.{graph_of}
use Rattle.task_graph.proofs.Strangers.{strange}
use Rattle.task_graph.proofs.parts.Parts.awaiters.Goals as goal

pub returns-in-None-clause-some : goal.returns-in-None-clause-some
returns-in-None-clause-some g c = sym (ap length (lists_none (graph_of c.args.self.now) c.args.task (strange c.args.self.now c.args.task c.requires.whole (sym c.in-None.ensures))))
