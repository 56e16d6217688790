use Rattle.std.proofs.Common.{◌∙◌}
use Rattle.task_links.specs.Inside.{entries_at}
use Rattle.task_links.proofs.Writing.{shown_same}
use Rattle.task_links.proofs.entries.Entries.set_next.Goals as goal

pub returns-clause-shown : goal.returns-clause-shown
returns-clause-shown g c = λ q. c.set_place-was.ensures.shown q ∙ shown_same (entries_at c.args.self.now) c.args.spot c.link-link.result c.args.next c.link-link.ensures q
