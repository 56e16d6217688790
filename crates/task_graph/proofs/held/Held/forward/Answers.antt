use Rattle.std.proofs.Common.{subst, sym}
use Rattle.task_states.specs.Awaiters.{IsRunnable}
use Rattle.task_states.proofs.Runnables.{runs_forwarded}
use Rattle.task_graph.specs.Graphs.{graph_of}
use Rattle.task_graph.proofs.Cleaning.{held_after}
use Rattle.task_graph.proofs.Staying.{stays_forwarded}
use Rattle.task_graph.proofs.held.Held.forward.Goals as goal

pub returns-clause-held : goal.returns-clause-held
returns-clause-held g c =
    held_after c.args.self.now c.forward.new.self c.requires.held c.forward.ensures.whole c.forward.ensures.size
    (λ q runs. runs_forwarded (graph_of c.args.self.now.parts) c.args.task c.args.to q (subst (λ graph. IsRunnable graph q) c.forward.ensures.graph runs))
    (λ q runs. subst (λ graph. IsRunnable graph q) (sym c.forward.ensures.graph) (stays_forwarded (graph_of c.args.self.now.parts) c.args.task c.args.to q runs))
