use Rattle.cht_run.proofs.Journals.{none_ends_empty}
use Rattle.cht_run.proofs.plain.judge.Goals as goal

pub returns-in-Err-Fault-clause-ends_empty : goal.returns-in-Err-Fault-clause-ends_empty
returns-in-Err-Fault-clause-ends_empty g c = none_ends_empty c.args.journal.now c.requires.empty

pub returns-in-Err-Memory-clause-ends_empty : goal.returns-in-Err-Memory-clause-ends_empty
returns-in-Err-Memory-clause-ends_empty g c = none_ends_empty c.args.journal.now c.requires.empty
