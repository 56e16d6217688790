use Rattle.std.proofs.Common.{subst, sym, inl, inr}
use Rattle.task_states.specs.Awaiters.{IsRunnable}
use Rattle.task_states.proofs.Runnables.{runs_removed}
use Rattle.task_graph.specs.Graphs.{graph_of}
use Rattle.task_graph.proofs.Staying.{lost_removed, never_removed}
use Rattle.task_graph.proofs.held.Held.remove.Goals as goal

pub retire-requires-clause-queued : goal.retire-requires-clause-queued
retire-requires-clause-queued g c =
    λ q runs. c.requires.held.queued q (runs_removed (graph_of c.args.self.now.parts) c.args.task q (subst (λ graph. IsRunnable graph q) c.remove.ensures.graph runs))

pub retire-requires-clause-never : goal.retire-requires-clause-never
retire-requires-clause-never g c = λ runs. never_removed (graph_of c.args.self.now.parts) c.args.task (subst (λ graph. IsRunnable graph c.args.task) c.remove.ensures.graph runs)

pub retire-requires-clause-least : goal.retire-requires-clause-least
retire-requires-clause-least g c =
    λ q is. elim (lost_removed (graph_of c.args.self.now.parts) c.args.task q (c.requires.held.least q is)) [ inl same ↦ inl same | inr runs ↦ inr (subst (λ graph. IsRunnable graph q) (sym c.remove.ensures.graph) runs) ]
