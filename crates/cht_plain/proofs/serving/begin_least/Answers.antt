use Rattle.cht_plain.proofs.Ready.{wanted}
use Rattle.cht_plain.proofs.Started.{begun_so}
use Rattle.cht_plain.proofs.serving.begin_least.Goals as goal

pub begin-requires-clause-idle : goal.begin-requires-clause-idle
begin-requires-clause-idle g c κs within = c.requires.waiting.idle 0

pub unreachable-requires-in-End : goal.unreachable-requires-in-End
unreachable-requires-in-End g c = c.in-End.ensures c.requires.ready.0 (wanted _ _ c.requires.ready.1)

pub unreachable-requires-in-Later : goal.unreachable-requires-in-Later
unreachable-requires-in-Later g c = c.in-Later.ensures.1 c.requires.ready.0 c.requires.ready.1

pub returns-in-Started : goal.returns-in-Started
returns-in-Started g c =
    begun_so g.L.Library.meanings g.L.Chunk.Payload.arity c.args.core.now c.begin.new.self c.in-Run.task c.in-Started.started c.requires.waiting c.in-Started.ensures
