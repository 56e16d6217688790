use Rattle.std.proofs.Common.{Some, subst, sym, inl, inr}
use Rattle.task_states.specs.Awaiters.{IsRunnable}
use Rattle.task_states.proofs.Runnables.{runs_started}
use Rattle.task_graph.specs.Graphs.{graph_of}
use Rattle.task_graph.proofs.Staying.{lost_changed, never_started}
use Rattle.task_graph.proofs.held.Held.start.Goals as goal

pub retire-requires-clause-queued : goal.retire-requires-clause-queued
retire-requires-clause-queued g c =
    λ q runs. c.requires.held.queued q (runs_started (graph_of c.args.self.now.parts) c.args.task q c.args.worker (subst (λ graph. IsRunnable graph q) c.start.ensures.graph runs))

pub retire-requires-clause-never : goal.retire-requires-clause-never
retire-requires-clause-never g c = λ runs. never_started (graph_of c.args.self.now.parts) c.args.task c.args.worker (subst (λ graph. IsRunnable graph c.args.task) c.start.ensures.graph runs)

pub retire-requires-clause-least : goal.retire-requires-clause-least
retire-requires-clause-least g c =
    λ q is. elim (lost_changed (graph_of c.args.self.now.parts) c.args.task q (λ u. record u { runner = Some c.args.worker }) (c.requires.held.least q is)) [ inl same ↦ inl same | inr runs ↦ inr (subst (λ graph. IsRunnable graph q) (sym c.start.ensures.graph) runs) ]
