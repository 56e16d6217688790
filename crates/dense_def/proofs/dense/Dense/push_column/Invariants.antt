use Rattle.std.proofs.Common.{◌≡◌, ◌++◌}
use Rattle.dense_def.specs.Matrix.{entry, tabulate}
use Rattle.dense_def.proofs.dense.Dense.push_column.Given as goal

abbrev pub invariant-loop-row : goal.invariant-loop-row
invariant-loop-row l = l.entries.items ≡ l.initial.entries.items ++ tabulate l.row (λ i. entry l.self i l.column)
