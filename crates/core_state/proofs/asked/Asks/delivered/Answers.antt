use Rattle.core_state.proofs.Asking.{delivered_is, not_asked}
use Rattle.core_state.proofs.asked.Asks.delivered.Goals as goal

pub returns-in-None : goal.returns-in-None
returns-in-None c = rw (← c.self.view_is) (λ ask found. absurd (not_asked c.self.inside.by_task.entries c.args.task c.in-None.ensures.value ask found))

pub returns-in-Some : goal.returns-in-Some
returns-in-Some c = rw (← c.self.view_is) (delivered_is c.self.inside.by_task.entries c.args.task c.in-Some.kept.now c.in-Some.ensures.value)
