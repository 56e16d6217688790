use Rattle.std.proofs.Common.{ℕ, subst, IsTrue, ◌↔◌}
use Rattle.task_states.specs.Awaiters.{IsWanted}
use Rattle.task_graph.specs.Contents.{Contents}
use Rattle.task_graph.proofs.tasks.Tasks.any.Goals as goal

pub returns : goal.returns
returns g c = subst (λ (v : Contents g.row.K.Denot). IsTrue c.any.result ↔ ((task : ℕ) × IsWanted v.graph task)) c.self.view_is c.any.ensures
