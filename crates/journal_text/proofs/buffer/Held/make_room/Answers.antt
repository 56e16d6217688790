use Rattle.std.proofs.lemmas.Result.{on_err_weaker}
use Rattle.journal_text.proofs.Sending.{failed_before}
use Rattle.journal_text.proofs.buffer.Held.make_room.Goals as goal

pub returns-clause-front : goal.returns-clause-front
returns-clause-front g c = on_err_weaker c.flush.result (λ fault more. failed_before _ _ _ more fault) c.flush.ensures.front
