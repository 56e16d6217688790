use Rattle.std.proofs.Common.{[], ◌∷◌}
use Rattle.cht_ids.specs.Refs.{id_text}
use Rattle.journal_text.proofs.tails.read_copy.Goals as goal

pub returns-in_err-to-clause-every : goal.returns-in_err-to-clause-every
returns-in_err-to-clause-every c = λ caller from to w-caller w-from w-to e. absurd (c.in_err-to.ensures.every to ([]) w-to (cc (c.in_ok-caller.ensures.read.0, c.in_ok-from.ensures.read.0)))

pub returns-then-are_read-clause-every : goal.returns-then-are_read-clause-every
returns-then-are_read-clause-every c = λ caller from to w-caller w-from w-to e.
    let same-caller = c.in_ok-caller.ensures.every caller (id_text from ∷ id_text to ∷ []) w-caller e in
    let same-from = c.in_ok-from.ensures.every from (id_text to ∷ []) w-from (cc c.in_ok-caller.ensures.read.0) in
    let same-to = c.in_ok-to.ensures.every to ([]) w-to (cc (c.in_ok-caller.ensures.read.0, c.in_ok-from.ensures.read.0)) in
    cc
