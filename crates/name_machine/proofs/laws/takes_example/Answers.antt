use Rattle.name_machine.proofs.Exampling.{takes_example}
use Rattle.name_machine.proofs.laws.takes_example.Goals as goal

pub returns : goal.returns
returns g c = takes_example
