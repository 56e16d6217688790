use Rattle.std.proofs.Common.{[], ◌∷◌}
use Rattle.journal_text.specs.Text.{number}
use Rattle.journal_text.proofs.tails.read_step.Goals as goal

pub returns-in_err-task-clause-every : goal.returns-in_err-task-clause-every
returns-in_err-task-clause-every c = λ worker task w-worker w-task e. absurd (c.in_err-task.ensures.every task ([]) w-task (cc c.in_ok-worker.ensures.read.0))

pub returns-then-are_read-clause-every : goal.returns-then-are_read-clause-every
returns-then-are_read-clause-every c = λ worker task w-worker w-task e.
    let same-worker = c.in_ok-worker.ensures.every worker (number task ∷ []) w-worker e in
    let same-task = c.in_ok-task.ensures.every task ([]) w-task (cc c.in_ok-worker.ensures.read.0) in
    cc
