use Rattle.cht_run.proofs.Journals.{none_ends_empty}
use Rattle.cht_run.proofs.command.cht.Goals as goal

pub returns-else-is_plain-clause-ends_empty : goal.returns-else-is_plain-clause-ends_empty
returns-else-is_plain-clause-ends_empty g c = none_ends_empty c.args.journal.now c.requires.empty
