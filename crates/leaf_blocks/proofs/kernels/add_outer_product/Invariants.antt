use Rattle.std.proofs.Common.{◌+ℤ◌, ◌*ℤ◌}
use Rattle.leaf_blocks.specs.Block.{number_at, place}
use Rattle.leaf_blocks.proofs.Rows.{RowsWritten}
use Rattle.leaf_blocks.proofs.kernels.add_outer_product.Given as goal

abbrev pub invariant-loop-i : goal.invariant-loop-i
invariant-loop-i l =
    RowsWritten l.out l.side l.i (λ i j. place l.side l.fn.out i j +ℤ number_at l.factors i *ℤ number_at l.other j) (place l.side l.fn.out)
