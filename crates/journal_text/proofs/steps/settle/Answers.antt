use Rattle.std.proofs.Common.{arith}
use Rattle.journal_text.proofs.Advance.{settled}
use Rattle.journal_text.proofs.steps.settle.Goals as goal

pub returns : goal.returns
returns g c = settled g.K.Kinds.name_of g.K.Kinds.height_of c.args.journal.now.events c.args.part c.add.result c.add.new.journal.events c.add.ensures c.requires.within c.requires.part (omega arith) (omega arith)
