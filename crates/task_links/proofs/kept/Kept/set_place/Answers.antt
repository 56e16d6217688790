use Rattle.std.proofs.Common.{refl}
use Rattle.task_links.proofs.Writing.{kept_placed}
use Rattle.task_links.specs.Kept.{opened_place}
use Rattle.task_links.proofs.kept.Kept.set_place.Goals as goal

pub returns : goal.returns
returns g c = kept_placed c.args.self.now c.args.place c.args.kept (opened_place c.args.kept) refl
