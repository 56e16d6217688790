use Rattle.std.proofs.Common.{None, sym, subst, refl, inr, arith}
use Rattle.task_states.specs.Awaiters.{IsRunnable, IsLeastAwaiter}
use Rattle.task_states.proofs.Runnables.{runs_same}
use Rattle.task_links.specs.Inside.{entries_at}
use Rattle.task_links.specs.Weave.{head_at, link_at, IsFirst}
use Rattle.task_graph.specs.Graphs.{graph_of}
use Rattle.task_graph.proofs.FirstInputs.{least_first, least_low}
use Rattle.task_graph.proofs.Staying.{stays_known, stays_unasked}
use Rattle.task_graph.proofs.parts.Parts.deliver_to.Goals as goal

pub spot_at-requires : goal.spot_at-requires
spot_at-requires g c =
    let least = subst (IsLeastAwaiter (graph_of c.args.self.now) c.args.task) c.in-Input.is c.requires.least in
    let low = least_low c.args.self.now c.args.task c.in-Input.of c.in-Input.place c.in-Input.number c.requires.whole least in
    omega (arith, low)

pub settle_first-requires-clause-first : goal.settle_first-requires-clause-first
settle_first-requires-clause-first g c =
    let least = subst (IsLeastAwaiter (graph_of c.args.self.now) c.args.task) c.in-Input.is c.requires.least in
    subst (IsFirst (head_at (entries_at c.args.self.now.entries)) (link_at (entries_at c.args.self.now.entries))) (sym c.spot_at.ensures)
    (least_first c.args.self.now c.args.task c.in-Input.of c.in-Input.place c.in-Input.number c.requires.whole least)

pub returns-in-Input-clause-stays : goal.returns-in-Input-clause-stays
returns-in-Input-clause-stays g c =
    λ q runs. subst (λ graph. IsRunnable graph q) (sym c.settle_first.ensures.graph) (stays_known (graph_of c.args.self.now) c.spot_at.result.task q c.spot_at.result.place c.args.r runs)

pub returns-in-Asked-clause-runs : goal.returns-in-Asked-clause-runs
returns-in-Asked-clause-runs g c = λ q runs.
    inr (runs_same (graph_of c.args.self.now) c.args.task q (λ u. record u { asked = None }) (λ u. (refl, refl)) (subst (λ graph. IsRunnable graph q) c.unask.ensures.graph runs))

pub returns-in-Asked-clause-stays : goal.returns-in-Asked-clause-stays
returns-in-Asked-clause-stays g c =
    λ q runs. subst (λ graph. IsRunnable graph q) (sym c.unask.ensures.graph) (stays_unasked (graph_of c.args.self.now) c.args.task q runs)
