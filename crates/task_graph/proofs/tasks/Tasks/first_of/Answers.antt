use Rattle.std.proofs.Common.{◌≡◌, Some, subst}
use Rattle.task_states.specs.States.{caller_of}
use Rattle.task_states.specs.Awaiters.{IsLeastOf}
use Rattle.task_graph.specs.Contents.{Contents}
use Rattle.task_graph.proofs.Readings.{first_least}
use Rattle.task_graph.proofs.tasks.Tasks.first_of.Goals as goal

pub returns : goal.returns
returns g c =
    subst (λ (v : Contents g.row.K.Denot). IsLeastOf (λ task. caller_of v.graph task ≡ Some c.args.caller) c.get-row.result.first) c.self.view_is
    (first_least c.self.inside.held.parts c.self.invariant.whole c.args.caller c.get-row.result c.get-row.ensures)
