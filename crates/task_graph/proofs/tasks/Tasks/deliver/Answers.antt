use Rattle.std.proofs.Common.{subst, sym}
use Rattle.task_states.specs.Awaiters.{IsNotAwaited}
use Rattle.task_graph.specs.Contents.{Contents}
use Rattle.task_graph.proofs.Strangers.{awaited_there}
use Rattle.task_graph.proofs.tasks.Tasks.deliver.Goals as goal

pub deliver-requires-clause-there : goal.deliver-requires-clause-there
deliver-requires-clause-there g c =
    awaited_there c.self.inside.held.parts c.args.task c.self.invariant.whole
    (subst (λ (v : Contents g.row.K.Denot). IsNotAwaited v.graph c.args.task → ⊥) (sym c.self.view_is) c.requires)
