use Rattle.std.proofs.Common.{[], ◌∷◌}
use Rattle.journal_text.specs.Text.{number, place_text}
use Rattle.journal_text.proofs.tails.read_plan.Goals as goal

pub returns-in_err-tasks-clause-every : goal.returns-in_err-tasks-clause-every
returns-in_err-tasks-clause-every c = λ chunks tasks place w-chunks w-tasks w-place e. absurd (c.in_err-tasks.ensures.every tasks (place_text place ∷ []) w-tasks (cc c.in_ok-chunks.ensures.read.0))

pub returns-then-are_read-clause-every : goal.returns-then-are_read-clause-every
returns-then-are_read-clause-every c = λ chunks tasks place w-chunks w-tasks w-place e.
    let same-chunks = c.in_ok-chunks.ensures.every chunks (number tasks ∷ place_text place ∷ []) w-chunks e in
    let same-tasks = c.in_ok-tasks.ensures.every tasks (place_text place ∷ []) w-tasks (cc c.in_ok-chunks.ensures.read.0) in
    let same-place = c.in_ok-place.ensures.every place ([]) w-place (cc (c.in_ok-chunks.ensures.read.0, c.in_ok-tasks.ensures.read.0)) in
    cc
