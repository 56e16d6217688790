use Rattle.std.proofs.Common.{ℕ, Option, sym, subst, arith}
use Rattle.task_states.specs.Awaiters.{IsLeastOf, IsLater}
use Rattle.task_graph.specs.Graphs.{graph_of}
use Rattle.task_links.specs.Kept.{opened}
use Rattle.task_graph.proofs.Readings.{after_found, last_greatest, no_last, ceiling_first}
use Rattle.task_graph.proofs.parts.Parts.next_of.Goals as goal

pub returns-then-kept-caller : goal.returns-then-kept-caller
returns-then-kept-caller g c =
    subst (λ (o : Option ℕ). IsLeastOf (IsLater (graph_of c.args.self.now) c.args.caller c.args.after) o) (sym c.follower.ensures)
    (after_found c.args.self.now c.requires.whole c.args.after (opened c.in-Some.kept.now) c.args.caller (sym c.in-Some.ensures) c.if-kept-caller.true)

pub above-requires-clause-last : goal.above-requires-clause-last
above-requires-clause-last g c = last_greatest c.args.self.now c.requires.whole c.args.caller c.get-row.result c.in-Some-last.last c.get-row.ensures c.in-Some-last.is

pub above-requires-clause-from : goal.above-requires-clause-from
above-requires-clause-from g c = ceiling_first c.args.self.now c.requires.whole c.args.caller c.args.after c.get-row.result c.get-row.ensures

pub returns-in-None : goal.returns-in-None
returns-in-None g c = λ n later. no_last c.args.self.now c.requires.whole c.args.caller c.get-row.result c.get-row.ensures c.in-None.is n later.0

pub returns-then-last-after : goal.returns-then-last-after
returns-then-last-after g c = λ n later.
    let low = last_greatest c.args.self.now c.requires.whole c.args.caller c.get-row.result c.in-Some-last.last c.get-row.ensures c.in-Some-last.is n later.0 in
    let above = later.1 in
    let test = c.if-last-after.true in
    omega arith
