use Rattle.task_links.specs.Kept.{opened}
use Rattle.std.proofs.Common.{◌<◌, Some, ap, sym, subst, ◌∙◌}
use Rattle.task_states.proofs.Options.{same_some}
use Rattle.task_links.specs.Inside.{entries_at}
use Rattle.task_graph.specs.Graphs.{graph_of}
use Rattle.task_graph.specs.Reading.{IsCeiling, rest_to}
use Rattle.task_graph.proofs.Moves.{entry_of_caller}
use Rattle.task_links.proofs.Walking.{some_is}
use Rattle.task_graph.proofs.Readings.{ceiling_next, nearer_last, found_above, none_above, caller_there}
use Rattle.task_graph.proofs.parts.Parts.above.Goals as goal

pub returns-then-task-after : goal.returns-then-task-after
returns-then-task-after g c =
    let ceiling = subst (IsCeiling (graph_of c.args.self.now) c.args.caller c.args.after) c.in-Some.is c.loop-at.invariant in
    found_above c.args.self.now c.requires.whole c.args.caller c.args.after c.in-Some.task ceiling c.if-task-after.true

pub look-kept-requires : goal.look-kept-requires
look-kept-requires g c =
    let ceiling = subst (IsCeiling (graph_of c.args.self.now) c.args.caller c.args.after) c.in-Some.is c.loop-at.invariant in
    let e = entry_of_caller c.args.self.now c.in-Some.task c.args.caller ceiling.0 in
    some_is (entries_at c.args.self.now.entries c.in-Some.task) e.0 e.1

pub loop-at-preserved : goal.loop-at-preserved
loop-at-preserved g c =
    let ceiling = subst (IsCeiling (graph_of c.args.self.now) c.args.caller c.args.after) c.in-Some.is c.loop-at.invariant in
    subst (IsCeiling (graph_of c.args.self.now) c.args.caller c.args.after) (sym c.follower-at.ensures)
    (ceiling_next c.args.self.now c.requires.whole c.args.caller c.args.after c.in-Some.task (opened c.look-kept.result.now) ceiling c.look-kept.ensures c.if-task-after.false)

pub loop-at-smaller : goal.loop-at-smaller
loop-at-smaller g c =
    let ceiling = subst (IsCeiling (graph_of c.args.self.now) c.args.caller c.args.after) c.in-Some.is c.loop-at.invariant in
    let e = opened c.look-kept.result.now in
    let of = same_some e.caller c.args.caller (sym (caller_there c.args.self.now c.requires.whole c.in-Some.task e c.look-kept.ensures) ∙ ceiling.0) in
    subst (λ o. rest_to c.args.last c.follower-at.result < rest_to c.args.last o) (sym c.in-Some.is)
    (nearer_last c.args.self.now c.requires.whole c.args.last c.in-Some.task e c.follower-at.result (sym c.follower-at.ensures) c.look-kept.ensures (λ n is. c.requires.last n (is ∙ ap Some of)))

pub returns : goal.returns
returns g c = none_above c.args.self.now c.requires.whole c.args.caller c.args.after (subst (IsCeiling (graph_of c.args.self.now) c.args.caller c.args.after) c.in_default.is c.loop-at.invariant)
