use Rattle.std.proofs.lemmas.Result.{on_err_weaker}
use Rattle.mm_text.proofs.OnItsWay.{way_fails}
use Rattle.mm_text.proofs.writing.write_market.Goals as goal

pub returns-clause-front : goal.returns-clause-front
returns-clause-front g c =
    rw c.write_opening-text.ensures at
    (on_err_weaker c.flush.result (way_fails _ _ _ _ _ c.in_ok-write_cells.ensures.whole) c.flush.ensures.front)
