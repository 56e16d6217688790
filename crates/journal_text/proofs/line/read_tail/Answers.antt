use Rattle.std.proofs.Common.{◌∙◌}
use Rattle.journal_text.specs.Heads.{words_left}
use Rattle.journal_text.proofs.Finishes.{at_finish}
use Rattle.journal_text.proofs.line.read_tail.Goals as goal

pub returns-in_ok-worker-in-Finish-clause-every : goal.returns-in_ok-worker-in-Finish-clause-every
returns-in_ok-worker-in-Finish-clause-every g c = λ head verb within e.
    let read = c.in_ok-worker-in-Finish in
    at_finish g.K.Kinds.name_of g.K.Kinds.height_of read.worker read.task read.chunks read.tasks read.result (words_left c.args.words.more c.args.words.rest.now)
    read.ensures.every head (verb ∙ c.in-Finish.is) within e
