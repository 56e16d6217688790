use Rattle.task_types.proofs.Deciding.{places_decided}
use Rattle.task_types.proofs.laws.places_decided.Goals as goal

pub returns : goal.returns
returns c = places_decided
