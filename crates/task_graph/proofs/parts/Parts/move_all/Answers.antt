use Rattle.std.proofs.Common.{ap, sym, ◌∙◌, refl}
use Rattle.std.specs.Option.{option_map}
use Rattle.task_links.specs.Inside.{entries_at}
use Rattle.task_links.specs.Weave.{head_at, head_of}
use Rattle.task_graph.specs.Graphs.{graph_of}
use Rattle.task_graph.proofs.Awaiting.{first_link}
use Rattle.task_graph.proofs.Moves.{none_moved, one_moved, moved_graph, callers_moved, entry_of_caller, movable, awaited_place, own_there, nearer_end, none_awaits}
use Rattle.task_graph.proofs.parts.Parts.move_all.Goals as goal

pub loop-next-init : goal.loop-next-init
loop-next-init g c = (c.requires.whole, none_moved c.args.task c.args.to (graph_of c.args.self.now), c.requires.callers, record { len = refl; room = refl }, c.requires.first)

pub move_first-next-requires-clause-movable : goal.move_first-next-requires-clause-movable
move_first-next-requires-clause-movable g c =
    let callers = c.loop-next.invariant.2 in
    let e = entry_of_caller c.loop-next.self c.args.task callers.0 callers.1 in
    let o = entry_of_caller c.loop-next.self c.args.to callers.0 callers.2 in
    let first = sym (c.loop-next.invariant.4 (head_of e.0) (ap (option_map head_of) e.1)) ∙ c.in-Some.is in
    movable c.loop-next.self c.args.task c.args.to e.0 c.loop-next.invariant.0 e.1 c.in-Some.spot first callers.0 e.2 o.0 o.1 o.2

pub loop-next-smaller : goal.loop-next-smaller
loop-next-smaller g c =
    let callers = c.loop-next.invariant.2 in
    let e = entry_of_caller c.loop-next.self c.args.task callers.0 callers.1 in
    let first = sym (c.loop-next.invariant.4 (head_of e.0) (ap (option_map head_of) e.1)) ∙ c.in-Some.is in
    nearer_end c.loop-next.self c.args.task c.args.to e.0 c.loop-next.invariant.0 e.1 c.in-Some.spot first c.move_first-next.new.self c.move_first-next.ensures.moved c.move_first-next.ensures.whole c.requires.apart

pub loop-next-preserved : goal.loop-next-preserved
loop-next-preserved g c =
    let callers = c.loop-next.invariant.2 in
    let e = entry_of_caller c.loop-next.self c.args.task callers.0 callers.1 in
    let first = sym (c.loop-next.invariant.4 (head_of e.0) (ap (option_map head_of) e.1)) ∙ c.in-Some.is in
    let own = own_there c.loop-next.self c.args.task c.args.to e.0 c.loop-next.invariant.0 e.1 c.in-Some.spot first in
    let step = c.move_first-next.ensures.moved in
    let link = first_link c.loop-next.self c.args.task e.0 c.loop-next.invariant.0 e.1 c.in-Some.spot first in
    let moved = one_moved c.args.task c.args.to (graph_of c.args.self.now) c.loop-next.self c.move_first-next.new.self c.in-Some.spot c.loop-next.invariant.1 step c.requires.apart own.0 own.1
    (awaited_place c.loop-next.self c.args.task c.args.to e.0 c.loop-next.invariant.0 e.1 c.in-Some.spot first step.link step.was own.0 own.1) in
    let size = c.loop-next.invariant.3 in
    let more = c.move_first-next.ensures.size in (
      c.move_first-next.ensures.whole,
      moved,
      (
        c.requires.callers.0,
        callers_moved c.args.task c.args.to (graph_of c.args.self.now) (graph_of c.move_first-next.new.self) moved c.args.task c.requires.callers.0 c.requires.callers.1,
        callers_moved c.args.task c.args.to (graph_of c.args.self.now) (graph_of c.move_first-next.new.self) moved c.args.to c.requires.callers.0 c.requires.callers.2,
      ),
      record { len = more.len ∙ size.len; room = more.room ∙ size.room },
      λ head is. c.move_first-next.ensures.next link.0 head link.1 (λ same. c.requires.apart (sym link.2 ∙ same)) (ap (head_at (entries_at c.move_first-next.new.self.entries)) link.2 ∙ is),
    )

pub returns-clause-graph : goal.returns-clause-graph
returns-clause-graph g c =
    let callers = c.loop-next.invariant.2 in
    let e = entry_of_caller c.loop-next.self c.args.task callers.0 callers.1 in
    let first = sym (c.loop-next.invariant.4 (head_of e.0) (ap (option_map head_of) e.1)) ∙ c.in_default.is in
    moved_graph c.args.task c.args.to (graph_of c.args.self.now) c.loop-next.self c.loop-next.invariant.0 c.loop-next.invariant.1 (none_awaits c.loop-next.self c.args.task e.0 c.loop-next.invariant.0 e.1 first)
