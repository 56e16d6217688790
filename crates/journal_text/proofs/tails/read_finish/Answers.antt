use Rattle.std.proofs.Common.{[], ◌∷◌}
use Rattle.journal_text.specs.Text.{number, place_text}
use Rattle.journal_text.proofs.Finishes.{same_finish}
use Rattle.journal_text.proofs.tails.read_finish.Goals as goal

pub returns-in_err-task-clause-every : goal.returns-in_err-task-clause-every
returns-in_err-task-clause-every c = λ worker task chunks tasks place w-worker w-task w-chunks w-tasks w-place e.
    absurd (c.in_err-task.ensures.every task (number chunks ∷ number tasks ∷ place_text place ∷ []) w-task (cc c.in_ok-worker.ensures.read.0))

pub returns-clause-every : goal.returns-clause-every
returns-clause-every c = λ worker task chunks tasks place w-worker w-task w-chunks w-tasks w-place e.
    let same-worker = c.in_ok-worker.ensures.every worker (number task ∷ number chunks ∷ number tasks ∷ place_text place ∷ []) w-worker e in
    let same-task = c.in_ok-task.ensures.every task (number chunks ∷ number tasks ∷ place_text place ∷ []) w-task (cc c.in_ok-worker.ensures.read.0) in
    let same-plan = c.in_ok-chunks.ensures.every chunks tasks place w-chunks w-tasks w-place (cc (c.in_ok-worker.ensures.read.0, c.in_ok-task.ensures.read.0)) in
    same_finish _ _ _ _ _ _ _ _ _ _ same-worker same-task same-plan
