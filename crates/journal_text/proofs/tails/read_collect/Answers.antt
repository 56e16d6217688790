use Rattle.std.proofs.Common.{[], ◌∷◌}
use Rattle.cht_ids.specs.Refs.{ref_text}
use Rattle.journal_text.specs.Text.{number}
use Rattle.journal_text.proofs.tails.read_collect.Goals as goal

pub returns-in_err-task-clause-every : goal.returns-in_err-task-clause-every
returns-in_err-task-clause-every c = λ caller task got w-caller w-task w-got e. absurd (c.in_err-task.ensures.every task (ref_text got ∷ []) w-task (cc c.in_ok-caller.ensures.read.0))

pub returns-then-are_read-clause-every : goal.returns-then-are_read-clause-every
returns-then-are_read-clause-every c = λ caller task got w-caller w-task w-got e.
    let same-caller = c.in_ok-caller.ensures.every caller (number task ∷ ref_text got ∷ []) w-caller e in
    let same-task = c.in_ok-task.ensures.every task (ref_text got ∷ []) w-task (cc c.in_ok-caller.ensures.read.0) in
    let same-got = c.in_ok-got.ensures.every got ([]) w-got (cc (c.in_ok-caller.ensures.read.0, c.in_ok-task.ensures.read.0)) in
    cc
