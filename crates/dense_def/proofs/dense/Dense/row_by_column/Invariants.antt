use Rattle.std.proofs.Common.{◌≡◌, ◌*ℤ◌}
use Rattle.dense_def.specs.Matrix.{entry, sum_below}
use Rattle.dense_def.proofs.dense.Dense.row_by_column.Given as goal

abbrev pub invariant-loop-inner : goal.invariant-loop-inner
invariant-loop-inner l = l.total ≡ sum_below l.inner (λ k. entry l.self l.row k *ℤ entry l.other k l.column)
