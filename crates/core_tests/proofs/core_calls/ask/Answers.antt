use Rattle.core_tests.proofs.Trying.{awaits_asked}
use Rattle.core_tests.proofs.core_calls.ask.Goals as goal

pub returns : goal.returns
returns c = awaits_asked c.args.core.now c.ask.new.self c.in_ok-ask.field-0 _ _ c.requires.tried c.in_ok-ask.ensures.event
