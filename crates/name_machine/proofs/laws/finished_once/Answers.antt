use Rattle.name_machine.proofs.Once.{finished_once}
use Rattle.name_machine.proofs.laws.finished_once.Goals as goal

pub returns : goal.returns
returns g c = finished_once
