use Rattle.std.proofs.Common.{sym}
use Rattle.task_graph.proofs.Strangers.{strange}
use Rattle.task_graph.proofs.parts.Parts.awaiter.Goals as goal

pub returns-in-None-clause-least : goal.returns-in-None-clause-least
returns-in-None-clause-least g c = strange c.args.self.now c.args.task c.requires.whole (sym c.in-None.ensures)
