use Rattle.std.proofs.Common.{sym, ap, subst}
use Rattle.std.specs.Option.{option_map}
use Rattle.task_links.specs.Kept.{opened}
use Rattle.task_links.specs.Inside.{entries_at}
use Rattle.task_links.specs.Weave.{head_at, head_of, link_at, IsEnd}
use Rattle.task_links.proofs.Walking.{last_there, gap_behind}
use Rattle.task_links.proofs.entries.Entries.gap.Goals as goal

pub link-link-requires : goal.link-link-requires
link-link-requires g c =
    last_there (head_at (entries_at c.args.self.now)) (link_at (entries_at c.args.self.now)) c.args.task c.args.number c.requires.woven (opened c.look-kept.result.now).first c.in-Some.last
    (subst (λ o. IsEnd (link_at (entries_at c.args.self.now)) c.args.task (opened c.look-kept.result.now).first o) (sym c.in-Some.ensures) (c.requires.woven.lasts c.args.task (head_of (opened c.look-kept.result.now)) (ap (option_map head_of) c.look-kept.ensures)))

pub returns-then-link-number : goal.returns-then-link-number
returns-then-link-number g c =
    gap_behind (head_at (entries_at c.args.self.now)) (link_at (entries_at c.args.self.now)) c.args.task c.args.number c.requires.woven (opened c.look-kept.result.now).first c.in-Some.last c.link-link.result c.link-link.ensures c.if-link-number.true
    (subst (λ o. IsEnd (link_at (entries_at c.args.self.now)) c.args.task (opened c.look-kept.result.now).first o) (sym c.in-Some.ensures) (c.requires.woven.lasts c.args.task (head_of (opened c.look-kept.result.now)) (ap (option_map head_of) c.look-kept.ensures)))

pub walk-requires-clause-first : goal.walk-requires-clause-first
walk-requires-clause-first g c = (head_of (opened c.look-kept.result.now), ap (option_map head_of) c.look-kept.ensures, c.first.ensures)
