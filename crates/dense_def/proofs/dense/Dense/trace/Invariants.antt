use Rattle.std.proofs.Common.{◌≡◌}
use Rattle.dense_def.specs.Matrix.{entry, sum_below}
use Rattle.dense_def.proofs.dense.Dense.trace.Given as goal

abbrev pub invariant-loop-place : goal.invariant-loop-place
invariant-loop-place l = l.total ≡ sum_below l.place (λ i. entry l.self i i)
