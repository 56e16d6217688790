use Rattle.std.proofs.Common.{◌≡◌, sym, subst}
use Rattle.task_states.specs.States.{is_stopped}
use Rattle.task_graph.specs.Contents.{Contents}
use Rattle.task_graph.proofs.Runs.{stopped_is}
use Rattle.task_graph.proofs.tasks.Tasks.is_stopped.Goals as goal

pub returns : goal.returns
returns g c = subst (λ (v : Contents g.row.K.Denot). c.get-row.result.stopped ≡ is_stopped v.graph c.args.caller) c.self.view_is (sym (stopped_is c.self.inside.held.parts c.args.caller c.get-row.result c.get-row.ensures))
