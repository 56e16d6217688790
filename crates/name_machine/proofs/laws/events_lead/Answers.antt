use Rattle.name_machine.proofs.ComesOn.{opening_comes_of_none, events_lead_on}
use Rattle.name_machine.proofs.laws.events_lead.Goals as goal

pub returns-clause-opening : goal.returns-clause-opening
returns-clause-opening g c = λ plans. opening_comes_of_none g.L.Library.meanings g.L.Chunk.Payload.arity plans

pub returns-clause-steps : goal.returns-clause-steps
returns-clause-steps g c = λ plans. events_lead_on g.L.Library.meanings g.L.Chunk.Payload.arity plans
