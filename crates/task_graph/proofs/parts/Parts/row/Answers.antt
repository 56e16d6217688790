use Rattle.std.proofs.Common.{Some, sym, ap, ◌∙◌}
use Rattle.task_links.specs.Kept.{opened}
use Rattle.task_graph.proofs.Runs.{task_there, task_none}
use Rattle.task_graph.proofs.parts.Parts.row.Goals as goal

pub returns-in-None-clause-row : goal.returns-in-None-clause-row
returns-in-None-clause-row g c = sym (task_none c.args.self.now c.args.task (sym c.in-None.ensures))

pub returns-in-Some-clause-row : goal.returns-in-Some-clause-row
returns-in-Some-clause-row g c = ap Some c.row_of.ensures.row ∙ sym (task_there c.args.self.now c.args.task (opened c.in-Some.kept.now) (sym c.in-Some.ensures))
