use Rattle.std.proofs.Common.{◌∙◌, arith}
use Rattle.core_steps.proofs.Holding.{number_is}
use Rattle.core_steps.proofs.tasks.number_at.Goals as goal

pub returns-in-None : goal.returns-in-None
returns-in-None c = c.in-None.ensures.lookup.4 (omega arith) 0 ∙ number_is c.args.numbers.now c.args.place

pub returns-in-Some : goal.returns-in-Some
returns-in-Some c = c.in-Some.ensures.lookup.4 (omega arith) 0 ∙ number_is c.args.numbers.now c.args.place
