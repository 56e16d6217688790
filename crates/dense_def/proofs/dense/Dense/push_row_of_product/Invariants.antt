use Rattle.std.proofs.Common.{◌≡◌, ◌++◌, ◌*ℤ◌}
use Rattle.dense_def.specs.Matrix.{entry, tabulate, sum_below}
use Rattle.dense_def.proofs.dense.Dense.push_row_of_product.Given as goal

abbrev pub invariant-loop-column : goal.invariant-loop-column
invariant-loop-column l =
    l.entries.items ≡ l.initial.entries.items ++ tabulate l.column (λ j. sum_below l.self.columns (λ k. entry l.self l.row k *ℤ entry l.other k j))
