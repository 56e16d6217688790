use Rattle.std.proofs.Common.{◌∙◌}
use Rattle.task_links.proofs.Inputs.{any_kept}
use Rattle.task_links.proofs.kept.Kept.is_waiting.Goals as goal

pub returns : goal.returns
returns g c = c.any_awaits.ensures ∙ any_kept c.args.self.now.count c.args.self.now.places
