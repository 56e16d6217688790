use Rattle.std.proofs.Common.{◌<◌, arith, subst, sym}
use Rattle.task_links.specs.Inside.{entries_at}
use Rattle.task_links.specs.Weave.{link_at, head_at, rest_from}
use Rattle.task_graph.specs.Counted.{IsCounted}
use Rattle.task_links.proofs.Walking.{some_is, nearer}
use Rattle.task_graph.proofs.Tallies.{next_link, count_step, count_more}
use Rattle.task_graph.proofs.parts.Parts.inputs_awaiting.Goals as goal

pub link-link-requires : goal.link-link-requires
link-link-requires g c =
    let l = next_link c.args.self.now c.args.task c.requires.whole c.in-Some.spot c.loop-next.count (subst (λ o. IsCounted c.args.self.now c.args.task o c.loop-next.count) c.in-Some.is c.loop-next.invariant) in
    some_is _ l.0 l.1

pub returns-then-count-clause-none : goal.returns-then-count-clause-none
returns-then-count-clause-none g c =
    let more = count_more c.args.self.now c.args.task c.requires.whole c.in-Some.spot c.loop-next.count (subst (λ o. IsCounted c.args.self.now c.args.task o c.loop-next.count) c.in-Some.is c.loop-next.invariant) in
    let full = c.if-count.true in
    omega arith

pub loop-next-smaller : goal.loop-next-smaller
loop-next-smaller g c =
    subst (λ o. rest_from (link_at (entries_at c.args.self.now.entries)) c.link-link.result.next < rest_from (link_at (entries_at c.args.self.now.entries)) o) (sym c.in-Some.is)
    (nearer (head_at (entries_at c.args.self.now.entries)) (link_at (entries_at c.args.self.now.entries)) c.args.task 0 c.requires.whole.woven c.in-Some.spot c.link-link.result c.link-link.ensures)

pub loop-next-preserved : goal.loop-next-preserved
loop-next-preserved g c =
    count_step c.args.self.now c.args.task c.requires.whole c.in-Some.spot c.link-link.result c.loop-next.count c.link-link.ensures
    (subst (λ o. IsCounted c.args.self.now c.args.task o c.loop-next.count) c.in-Some.is c.loop-next.invariant)

pub returns-clause-some : goal.returns-clause-some
returns-clause-some g c = subst (λ o. IsCounted c.args.self.now c.args.task o c.loop-next.count) c.in_default.is c.loop-next.invariant
