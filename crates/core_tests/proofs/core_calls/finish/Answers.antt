use Rattle.core_tests.proofs.Trying.{awaits_finished}
use Rattle.core_tests.proofs.core_calls.finish.Goals as goal

pub returns : goal.returns
returns c =
    awaits_finished c.args.core.now c.finish.new.self c.args.w c.args.task c.args.outcome c.requires.sound c.requires.awaits c.in_ok-ready.ensures.event
