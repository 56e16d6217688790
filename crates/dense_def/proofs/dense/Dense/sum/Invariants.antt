use Rattle.std.proofs.Common.{◌≡◌, ◌+ℤ◌}
use Rattle.dense_def.specs.Matrix.{entry, tabulate}
use Rattle.dense_def.proofs.RowByRow.{end_to_end}
use Rattle.dense_def.proofs.dense.Dense.sum.Given as goal

abbrev pub invariant-loop-row : goal.invariant-loop-row
invariant-loop-row l =
    l.entries.items ≡ end_to_end l.row (λ i. tabulate l.self.columns (λ j. entry l.self i j +ℤ entry l.other i j))
