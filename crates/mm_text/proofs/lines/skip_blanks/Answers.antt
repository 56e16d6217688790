use Rattle.mm_text.proofs.Cutting.{words_none, words_from}
use Rattle.mm_text.proofs.lines.skip_blanks.Goals as goal

pub returns-in_err-word_start-clause-none : goal.returns-in_err-word_start-clause-none
returns-in_err-word_start-clause-none c = rw c.from_residual.ensures (words_none c.args.line.now c.in_err-word_start.ensures)

pub returns-clause-same : goal.returns-clause-same
returns-clause-same c = (words_from c.args.line.now c.in_ok-word_start.field-0 c.in_ok-word_start.ensures).0

pub returns-clause-begins : goal.returns-clause-begins
returns-clause-begins c = (words_from c.args.line.now c.in_ok-word_start.field-0 c.in_ok-word_start.ensures).1
