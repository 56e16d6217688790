use Rattle.name_machine.proofs.Stopping.{stops_are_last, stops_end}
use Rattle.name_machine.proofs.laws.stops.Goals as goal

pub returns : goal.returns
returns g c = record {
  last = stops_are_last g.L.Library.meanings g.L.Chunk.Payload.arity;
  end = stops_end g.L.Library.meanings g.L.Chunk.Payload.arity;
}
