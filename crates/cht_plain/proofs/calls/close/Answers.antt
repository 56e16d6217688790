use Rattle.cht_plain.proofs.Closed.{closed}
use Rattle.cht_plain.proofs.calls.close.Goals as goal

pub returns : goal.returns
returns g c =
    closed g.L.Library.meanings g.L.Chunk.Payload.arity _ c.args.core c.into_journal.result c.requires.rest c.stands.ensures c.requires.empty c.into_journal.ensures.events
    c.into_journal.ensures.replayed
