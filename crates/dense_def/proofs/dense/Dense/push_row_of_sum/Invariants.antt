use Rattle.std.proofs.Common.{◌≡◌, ◌++◌, ◌+ℤ◌}
use Rattle.dense_def.specs.Matrix.{entry, tabulate}
use Rattle.dense_def.proofs.dense.Dense.push_row_of_sum.Given as goal

abbrev pub invariant-loop-column : goal.invariant-loop-column
invariant-loop-column l =
    l.entries.items ≡ l.initial.entries.items ++ tabulate l.column (λ j. entry l.self l.row j +ℤ entry l.other l.row j)
