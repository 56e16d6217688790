use Rattle.std.proofs.Common.{subst}
use Rattle.task_states.specs.Awaiters.{IsRunnable}
use Rattle.task_states.proofs.Runnables.{runs_stopped}
use Rattle.task_graph.specs.Graphs.{graph_of}
use Rattle.task_graph.proofs.held.Held.stop.Goals as goal

pub clean-requires-clause-queued : goal.clean-requires-clause-queued
clean-requires-clause-queued g c =
    λ q runs. c.requires.held.queued q (runs_stopped (graph_of c.args.self.now.parts) c.args.caller q (subst (λ graph. IsRunnable graph q) c.stop.ensures.graph runs))
