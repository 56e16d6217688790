use Rattle.std.proofs.Common.{◌∙◌}
use Rattle.journal_text.proofs.Decimals.{plain_text, text_plain}
use Rattle.journal_text.proofs.decimal.read_decimal.Goals as goal

pub returns-clause-read : goal.returns-clause-read
returns-clause-read c = plain_text c.read_plain.result c.args.word.now c.read_plain.ensures

pub returns-clause-every : goal.returns-clause-every
returns-clause-every c = λ n low e. c.read_plain.ensures ∙ text_plain n c.args.word.now low e
