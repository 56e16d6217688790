use Rattle.task_states.proofs.Awaited.{awaits_nothing}
use Rattle.task_states.proofs.laws.waiting_tasks_await.Goals as goal

pub returns : goal.returns
returns g c = awaits_nothing
