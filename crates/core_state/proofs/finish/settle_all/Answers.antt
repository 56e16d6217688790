use Rattle.task_states.specs.States.{asked_of}
use Rattle.core_state.proofs.Resolving.{none_answered}
use Rattle.core_state.proofs.finish.settle_all.Goals as goal

pub returns-in-None-clause-asks : goal.returns-in-None-clause-asks
returns-in-None-clause-asks g c =
    none_answered c.args.asks.now.asks c.args.r (asked_of c.args.graph.now.graph c.args.task) c.settle.result c.settle.ensures.asked c.in-None.is
