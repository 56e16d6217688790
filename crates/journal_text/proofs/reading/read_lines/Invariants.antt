use Rattle.std.proofs.Common.{length}
use Rattle.journal_text.proofs.Passed.{IsRead}
use Rattle.journal_text.proofs.reading.read_lines.Given as goal

abbrev pub invariant-loop-line : goal.invariant-loop-line
invariant-loop-line g l = IsRead g.K.Kinds.name_of g.K.Kinds.height_of l.bytes l.passed l.left l.journal.events l.part

abbrev pub decreases-loop-line : goal.decreases-loop-line
decreases-loop-line g l = length l.left
