use Rattle.std.proofs.Common.{[], ◌∷◌}
use Rattle.cht_ids.specs.Refs.{id_text}
use Rattle.journal_text.proofs.tails.read_subject.Goals as goal

pub returns-then-are_read-clause-every : goal.returns-then-are_read-clause-every
returns-then-are_read-clause-every c = λ caller id w-caller w-id e.
    let same-caller = c.in_ok-caller.ensures.every caller (id_text id ∷ []) w-caller e in
    let same-id = c.in_ok-id.ensures.every id ([]) w-id (cc c.in_ok-caller.ensures.read.0) in
    cc
