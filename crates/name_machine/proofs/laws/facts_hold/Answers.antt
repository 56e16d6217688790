use Rattle.name_machine.proofs.Runs.{facts_hold}
use Rattle.name_machine.proofs.laws.facts_hold.Goals as goal

pub returns : goal.returns
returns g c = facts_hold g.L.Library.meanings g.L.Chunk.Payload.arity
