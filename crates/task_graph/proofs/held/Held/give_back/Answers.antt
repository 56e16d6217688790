use Rattle.std.proofs.Common.{None, subst, sym, inl, inr}
use Rattle.task_states.specs.Awaiters.{IsRunnable}
use Rattle.task_states.proofs.Runnables.{runs_changed}
use Rattle.task_graph.specs.Graphs.{graph_of}
use Rattle.task_graph.proofs.Staying.{stays_given_back}
use Rattle.task_graph.proofs.held.Held.give_back.Goals as goal

pub requeue-requires-clause-queued : goal.requeue-requires-clause-queued
requeue-requires-clause-queued g c =
    λ q runs. elim (runs_changed (graph_of c.args.self.now.parts) c.args.task q (λ u. record u { runner = None }) (subst (λ graph. IsRunnable graph q) c.give_back.ensures.graph runs)) [ inl same ↦ inl same | inr before ↦ inr (c.requires.held.queued q before) ]

pub requeue-requires-clause-least : goal.requeue-requires-clause-least
requeue-requires-clause-least g c =
    λ q is. subst (λ graph. IsRunnable graph q) (sym c.give_back.ensures.graph) (stays_given_back (graph_of c.args.self.now.parts) c.args.task q (c.requires.held.least q is))
