use Rattle.std.proofs.Common.{subst}
use Rattle.task_states.specs.Awaiters.{IsLeastOf, IsRunnable}
use Rattle.task_graph.specs.Contents.{Contents}
use Rattle.task_graph.proofs.Readings.{least_runs}
use Rattle.task_graph.proofs.tasks.Tasks.least_ready.Goals as goal

pub returns : goal.returns
returns g c = subst (λ (v : Contents g.row.K.Denot). IsLeastOf (IsRunnable v.graph) c.least.result) c.self.view_is (least_runs c.self.inside.held c.least.result c.self.invariant c.least.ensures)
