use Rattle.name_states.proofs.SweptOnce.{swept_once, nothing_goes}
use Rattle.name_states.proofs.laws.sweeping.Goals as goal

pub returns-clause-once : goal.returns-clause-once
returns-clause-once g c = swept_once

pub returns-clause-nothing : goal.returns-clause-nothing
returns-clause-nothing g c = nothing_goes
