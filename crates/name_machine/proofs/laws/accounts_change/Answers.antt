use Rattle.name_machine.proofs.Accounts.{accounts_change}
use Rattle.name_machine.proofs.laws.accounts_change.Goals as goal

pub returns : goal.returns
returns g c = accounts_change g.L.Library.meanings g.L.Chunk.Payload.arity g.met.L.Library.adds_up
