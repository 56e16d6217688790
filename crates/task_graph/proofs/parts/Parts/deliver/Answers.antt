use Rattle.std.proofs.Common.{None, sym, subst, refl, inr, ◌∙◌}
use Rattle.task_states.specs.Awaiters.{IsRunnable}
use Rattle.task_states.proofs.Runnables.{runs_same}
use Rattle.task_graph.specs.Graphs.{graph_of}
use Rattle.task_graph.proofs.FirstInputs.{delivered_at, delivered_asked}
use Rattle.task_graph.proofs.Marking.{entry_of}
use Rattle.task_graph.proofs.Staying.{stays_known, stays_unasked}
use Rattle.task_graph.proofs.parts.Parts.deliver.Goals as goal

pub look-kept-requires : goal.look-kept-requires
look-kept-requires g c = entry_of c.args.self.now c.args.task c.requires.there

pub returns-in-None-clause-graph : goal.returns-in-None-clause-graph
returns-in-None-clause-graph g c = λ awaiter least. c.unask.ensures.graph ∙ delivered_asked (graph_of c.args.self.now) c.args.task c.args.r awaiter (c.in-None.ensures.input awaiter least)

pub returns-in-Some-clause-graph : goal.returns-in-Some-clause-graph
returns-in-Some-clause-graph g c =
    λ awaiter least. c.settle_first.ensures.graph ∙ delivered_at (graph_of c.args.self.now) c.args.task c.in-Some.spot c.args.r awaiter (c.in-Some.ensures.input awaiter least)

pub returns-in-None-clause-runs : goal.returns-in-None-clause-runs
returns-in-None-clause-runs g c = λ q runs.
    inr (runs_same (graph_of c.args.self.now) c.args.task q (λ u. record u { asked = None }) (λ u. (refl, refl)) (subst (λ graph. IsRunnable graph q) c.unask.ensures.graph runs))

pub returns-in-None-clause-stays : goal.returns-in-None-clause-stays
returns-in-None-clause-stays g c =
    λ q runs. subst (λ graph. IsRunnable graph q) (sym c.unask.ensures.graph) (stays_unasked (graph_of c.args.self.now) c.args.task q runs)

pub returns-in-Some-clause-stays : goal.returns-in-Some-clause-stays
returns-in-Some-clause-stays g c =
    λ q runs. subst (λ graph. IsRunnable graph q) (sym c.settle_first.ensures.graph) (stays_known (graph_of c.args.self.now) c.in-Some.spot.task q c.in-Some.spot.place c.args.r runs)
