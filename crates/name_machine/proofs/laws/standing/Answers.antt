use Rattle.name_machine.proofs.Stand.{opening_stands}
use Rattle.name_machine.proofs.Empty.{empty_both_ways}
use Rattle.name_machine.proofs.StandsStep.{stands_step}
use Rattle.name_machine.proofs.laws.standing.Goals as goal

pub returns-clause-opening : goal.returns-clause-opening
returns-clause-opening g c = opening_stands g.L.Library.meanings

pub returns-clause-steps : goal.returns-clause-steps
returns-clause-steps g c = λ plans. stands_step g.L.Library.meanings g.L.Chunk.Payload.arity plans

pub returns-clause-empty : goal.returns-clause-empty
returns-clause-empty g c = empty_both_ways g.L.Library.meanings g.L.Chunk.Payload.arity
