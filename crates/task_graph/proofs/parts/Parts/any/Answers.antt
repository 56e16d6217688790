use Rattle.task_graph.proofs.Readings.{any_iff}
use Rattle.task_graph.proofs.parts.Parts.any.Goals as goal

pub returns : goal.returns
returns g c = any_iff c.args.self.now _ c.requires c.any_wanted.ensures
