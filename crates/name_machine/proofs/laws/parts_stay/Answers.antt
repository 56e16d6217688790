use Rattle.name_machine.proofs.CallerParts.{leaves_callers}
use Rattle.name_machine.proofs.WorkerParts.{leaves_workers}
use Rattle.name_machine.proofs.laws.parts_stay.Goals as goal

pub returns-clause-callers : goal.returns-clause-callers
returns-clause-callers g c = leaves_callers g.L.Library.meanings g.L.Chunk.Payload.arity g.met.L.Library.adds_up

pub returns-clause-workers : goal.returns-clause-workers
returns-clause-workers g c = leaves_workers g.L.Library.meanings g.L.Chunk.Payload.arity
