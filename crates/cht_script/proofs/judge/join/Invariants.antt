use Rattle.std.proofs.Common.{◌≡◌, ◌++◌, length}
use Rattle.std.specs.Vec.Iter.{into_iter_items}
use Rattle.cht_script.specs.Judging.{steps_of}
use Rattle.cht_script.proofs.judge.join.Given as goal

abbrev pub invariant-loop-shapes : goal.invariant-loop-shapes
invariant-loop-shapes l = steps_of l.fn.statements l.fn.shapes ≡ l.steps.items ++ steps_of (into_iter_items l.waiting) l.left

abbrev pub decreases-loop-shapes : goal.decreases-loop-shapes
decreases-loop-shapes l = length l.left
