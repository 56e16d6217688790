use Rattle.cht_core.proofs.StartCalls.{begun_granted}
use Rattle.cht_core.proofs.cores.Core.start.Goals as goal

pub returns-in-Started : goal.returns-in-Started
returns-in-Started g c =
    begun_granted g.L.Library.meanings g.L.Chunk.Payload.arity c.args.self.now c.begin.new.self c.args.w c.args.task c.in-Started.execution c.granted.result
    c.granted.ensures.task c.granted.ensures.kind c.granted.ensures.own c.granted.ensures.shows c.in-Started.ensures
