use Rattle.cht_plain.proofs.Started.{begun_so}
use Rattle.cht_plain.proofs.serving.begin_newest.Goals as goal

pub begin-requires-clause-idle : goal.begin-requires-clause-idle
begin-requires-clause-idle g c κs within = c.requires.idle 0

pub returns-in-Started : goal.returns-in-Started
returns-in-Started g c =
    begun_so g.L.Library.meanings g.L.Chunk.Payload.arity c.args.core.now c.begin.new.self c.in-Some.task c.in-Started.started c.requires c.in-Started.ensures
