use Rattle.std.proofs.Common.{length}
use Rattle.cht_script.specs.Judging.{AreJudgedTo}
use Rattle.cht_script.proofs.judge.judge_all.Given as goal

abbrev pub invariant-loop-statement : goal.invariant-loop-statement
invariant-loop-statement l = AreJudgedTo l.statements l.shapes l.known l.left

abbrev pub decreases-loop-statement : goal.decreases-loop-statement
decreases-loop-statement l = length l.left
