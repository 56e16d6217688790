use Rattle.std.proofs.Common.{◌<◌, subst, sym}
use Rattle.task_links.specs.Inside.{entries_at}
use Rattle.task_links.specs.Weave.{head_at, link_at, IsBelow, rest_from}
use Rattle.task_links.proofs.Walking.{some_is, next_there, gap_at_end, gap_at, step_on, nearer}
use Rattle.task_links.proofs.entries.Entries.walk.Goals as goal

pub loop-next-init : goal.loop-next-init
loop-next-init g c = c.requires.first

pub link-link-requires : goal.link-link-requires
link-link-requires g c =
    let n = next_there (head_at (entries_at c.args.self.now)) (link_at (entries_at c.args.self.now)) c.args.task c.args.number c.requires.woven c.loop-next.before c.in-Some.spot (subst (λ o. IsBelow (head_at (entries_at c.args.self.now)) (link_at (entries_at c.args.self.now)) c.args.task c.args.number c.loop-next.before o) c.in-Some.is c.loop-next.invariant) in
    some_is _ n.0 n.1

pub returns-then-link-number : goal.returns-then-link-number
returns-then-link-number g c =
    gap_at (head_at (entries_at c.args.self.now)) (link_at (entries_at c.args.self.now)) c.args.task c.args.number c.requires.woven c.loop-next.before c.in-Some.spot c.link-link.result c.link-link.ensures c.if-link-number.true (subst (λ o. IsBelow (head_at (entries_at c.args.self.now)) (link_at (entries_at c.args.self.now)) c.args.task c.args.number c.loop-next.before o) c.in-Some.is c.loop-next.invariant)

pub loop-next-smaller : goal.loop-next-smaller
loop-next-smaller g c =
    subst (λ o. rest_from (link_at (entries_at c.args.self.now)) c.link-link.result.next < rest_from (link_at (entries_at c.args.self.now)) o) (sym c.in-Some.is)
    (nearer (head_at (entries_at c.args.self.now)) (link_at (entries_at c.args.self.now)) c.args.task c.args.number c.requires.woven c.in-Some.spot c.link-link.result c.link-link.ensures)

pub loop-next-preserved : goal.loop-next-preserved
loop-next-preserved g c =
    step_on (head_at (entries_at c.args.self.now)) (link_at (entries_at c.args.self.now)) c.args.task c.args.number c.requires.woven c.loop-next.before c.in-Some.spot c.link-link.result c.link-link.ensures c.if-link-number.false c.requires.unused
    (subst (λ o. IsBelow (head_at (entries_at c.args.self.now)) (link_at (entries_at c.args.self.now)) c.args.task c.args.number c.loop-next.before o) c.in-Some.is c.loop-next.invariant)

pub returns : goal.returns
returns g c =
    gap_at_end (head_at (entries_at c.args.self.now)) (link_at (entries_at c.args.self.now)) c.args.task c.args.number c.requires.woven c.loop-next.before
    (subst (λ o. IsBelow (head_at (entries_at c.args.self.now)) (link_at (entries_at c.args.self.now)) c.args.task c.args.number c.loop-next.before o) c.in_default.is c.loop-next.invariant)
