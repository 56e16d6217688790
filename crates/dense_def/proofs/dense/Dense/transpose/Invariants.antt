use Rattle.std.proofs.Common.{◌≡◌}
use Rattle.dense_def.specs.Matrix.{height, entry, tabulate}
use Rattle.dense_def.proofs.RowByRow.{end_to_end}
use Rattle.dense_def.proofs.dense.Dense.transpose.Given as goal

abbrev pub invariant-loop-column : goal.invariant-loop-column
invariant-loop-column l =
    l.entries.items ≡ end_to_end l.column (λ j. tabulate (height l.self) (λ i. entry l.self i j))
