use Rattle.core_state.proofs.Resolving.{named_is}
use Rattle.core_state.proofs.finish.new_task.Goals as goal

pub returns-in-Task : goal.returns-in-Task
returns-in-Task c = named_is c.args.numbers.now c.args.place c.in-Task.i c.in-Task.is
