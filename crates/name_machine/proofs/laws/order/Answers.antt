use Rattle.name_machine.proofs.KeepsOrder.{opening_is_orderly, keeps_order}
use Rattle.name_machine.proofs.laws.order.Goals as goal

pub returns-clause-opening : goal.returns-clause-opening
returns-clause-opening g c = opening_is_orderly _ g.L.Chunk.Payload.arity

pub returns-clause-steps : goal.returns-clause-steps
returns-clause-steps g c = λ plans. keeps_order g.L.Library.meanings g.L.Chunk.Payload.arity plans
