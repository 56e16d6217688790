use Rattle.core_tests.proofs.Trying.{has_asked}
use Rattle.core_tests.proofs.core_calls.told_to_stop.Goals as goal

pub collect-requires-clause-asked : goal.collect-requires-clause-asked
collect-requires-clause-asked c κs = has_asked c.args.core.now c.args.task c.requires
