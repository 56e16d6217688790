use Rattle.std.proofs.Common.{◌+ℤ◌, ◌*ℤ◌}
use Rattle.leaf_blocks.specs.Block.{number_at}
use Rattle.leaf_blocks.proofs.Rows.{WrittenBelow}
use Rattle.leaf_blocks.proofs.kernels.add_scaled.Given as goal

abbrev pub invariant-loop-j : goal.invariant-loop-j
invariant-loop-j l = WrittenBelow l.row l.j (λ j. number_at l.fn.row j +ℤ l.factor *ℤ number_at l.other j) (number_at l.fn.row)
