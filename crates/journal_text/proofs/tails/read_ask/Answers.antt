use Rattle.std.proofs.Common.{◌∷◌}
use Rattle.std.specs.Prelude.{map}
use Rattle.cht_ids.specs.Refs.{ref_text}
use Rattle.journal_text.specs.Text.{number}
use Rattle.journal_text.proofs.tails.read_ask.Goals as goal

pub returns-in_err-task-clause-every : goal.returns-in_err-task-clause-every
returns-in_err-task-clause-every g c = λ caller task kind inputs w-caller w-task w-kind w-inputs e. absurd (c.in_err-task.ensures.every task (g.K.Kinds.name_of kind ∷ number (g.K.Kinds.height_of kind) ∷ map ref_text inputs) w-task (cc c.in_ok-caller.ensures.read.0))

pub returns-clause-every : goal.returns-clause-every
returns-clause-every g c = λ caller task kind inputs w-caller w-task w-kind w-inputs e.
    let same-caller = c.in_ok-caller.ensures.every caller (number task ∷ g.K.Kinds.name_of kind ∷ number (g.K.Kinds.height_of kind) ∷ map ref_text inputs) w-caller e in
    let same-task = c.in_ok-task.ensures.every task (g.K.Kinds.name_of kind ∷ number (g.K.Kinds.height_of kind) ∷ map ref_text inputs) w-task (cc c.in_ok-caller.ensures.read.0) in
    let same-kind = c.in_ok-kind.ensures.every kind (map ref_text inputs) w-kind (cc (c.in_ok-caller.ensures.read.0, c.in_ok-task.ensures.read.0)) in
    let same-inputs = c.in_ok-inputs.ensures.every inputs w-inputs (cc (c.in_ok-caller.ensures.read.0, c.in_ok-task.ensures.read.0, c.in_ok-kind.ensures.read.0)) in
    cc
