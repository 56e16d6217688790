use Rattle.std.proofs.Common.{sym, ◌∙◌}
use Rattle.task_links.specs.Kept.{opened}
use Rattle.task_graph.proofs.Runs.{status_there, status_none}
use Rattle.task_graph.proofs.parts.Parts.status.Goals as goal

pub returns-in-None : goal.returns-in-None
returns-in-None g c = sym (status_none c.args.self.now c.args.task (sym c.in-None.ensures))

pub returns-in-Some : goal.returns-in-Some
returns-in-Some g c = c.status.ensures ∙ sym (status_there c.args.self.now c.args.task (opened c.in-Some.kept.now) (sym c.in-Some.ensures))
