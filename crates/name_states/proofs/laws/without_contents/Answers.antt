use Rattle.name_states.proofs.WithoutContents.{without_registered, without_swept, without_sound, same_reaching}
use Rattle.name_states.proofs.laws.without_contents.Goals as goal

pub returns-clause-registering : goal.returns-clause-registering
returns-clause-registering g c = without_registered

pub returns-clause-sweeping : goal.returns-clause-sweeping
returns-clause-sweeping g c = without_swept

pub returns-clause-rules : goal.returns-clause-rules
returns-clause-rules g c = without_sound

pub returns-clause-reached : goal.returns-clause-reached
returns-clause-reached g c = same_reaching
