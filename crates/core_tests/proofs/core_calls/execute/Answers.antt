use Rattle.core_tests.proofs.Trying.{may_finish_it}
use Rattle.core_tests.proofs.core_calls.execute.Goals as goal

pub returns-in-Started-clause-sound : goal.returns-in-Started-clause-sound
returns-in-Started-clause-sound c =
    may_finish_it c.args.core.now c.start.new.self c.args.w c.args.task c.in-Started.started c.outcome_of.result c.in-Started.ensures c.outcome_of.ensures
