use Rattle.std.proofs.Common.{Some, refl, subst, sym}
use Rattle.task_states.specs.Awaiters.{IsRunnable}
use Rattle.task_states.proofs.Runnables.{runs_same}
use Rattle.task_graph.specs.Graphs.{graph_of}
use Rattle.task_graph.proofs.Cleaning.{held_after}
use Rattle.task_graph.proofs.Marking.{unused_of}
use Rattle.task_graph.proofs.Staying.{stays_asked}
use Rattle.task_graph.proofs.held.Held.ask.Goals as goal

pub ask-requires-clause-free : goal.ask-requires-clause-free
ask-requires-clause-free g c =
    unused_of c.args.self.now.parts c.args.number c.requires.free

pub returns-clause-held : goal.returns-clause-held
returns-clause-held g c =
    held_after c.args.self.now c.ask.new.self c.requires.held c.ask.ensures.whole c.ask.ensures.size
    (λ q runs. runs_same (graph_of c.args.self.now.parts) c.args.task q (λ u. record u { asked = Some c.args.number }) (λ u. (refl, refl)) (subst (λ graph. IsRunnable graph q) c.ask.ensures.graph runs))
    (λ q runs. subst (λ graph. IsRunnable graph q) (sym c.ask.ensures.graph) (stays_asked (graph_of c.args.self.now.parts) c.args.task q c.args.number runs))
