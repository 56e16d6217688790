use Rattle.std.proofs.Common.{subst}
use Rattle.task_states.specs.Awaiters.{IsLeastOf, IsLater}
use Rattle.task_graph.specs.Contents.{Contents}
use Rattle.task_graph.proofs.tasks.Tasks.next_of.Goals as goal

pub returns : goal.returns
returns g c = subst (λ (v : Contents g.row.K.Denot). IsLeastOf (IsLater v.graph c.args.caller c.args.after) c.next_of.result) c.self.view_is c.next_of.ensures
