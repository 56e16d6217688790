use Rattle.core_tests.proofs.Trying.{opened}
use Rattle.core_tests.proofs.core_calls.open.Goals as goal

pub returns : goal.returns
returns c = opened c.in_ok-new.field-0 c.in_ok-new.ensures.state c.in_ok-new.ensures.callers c.in_ok-new.ensures.workers
