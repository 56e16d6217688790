use Rattle.cht_plain.proofs.Closed.{new_rests, new_seen}
use Rattle.cht_plain.proofs.calls.new.Goals as goal

pub returns-clause-rest : goal.returns-clause-rest
returns-clause-rest g c =
    new_rests g.L.Library.meanings c.new.result c.new.ensures.state c.new.ensures.events c.new.ensures.callers c.new.ensures.workers

pub returns-clause-seen : goal.returns-clause-seen
returns-clause-seen g c = new_seen g.L.Library.meanings c.new.result c.new.ensures.state c.new.ensures.events
