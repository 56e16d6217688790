use Rattle.std.proofs.Common.{◌≡◌, ◌*ℤ◌}
use Rattle.dense_def.specs.Matrix.{entry, tabulate, sum_below}
use Rattle.dense_def.proofs.RowByRow.{end_to_end}
use Rattle.dense_def.proofs.dense.Dense.product.Given as goal

abbrev pub invariant-loop-row : goal.invariant-loop-row
invariant-loop-row l =
    l.entries.items ≡ end_to_end l.row (λ i. tabulate l.other.columns (λ j. sum_below l.self.columns (λ k. entry l.self i k *ℤ entry l.other k j)))
