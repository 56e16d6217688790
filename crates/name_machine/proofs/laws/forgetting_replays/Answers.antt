use Rattle.name_machine.proofs.Forgets.{forgetting_replays}
use Rattle.name_machine.proofs.laws.forgetting_replays.Goals as goal

pub returns : goal.returns
returns g c = λ arity plans. forgetting_replays arity plans
