use Rattle.std.proofs.Common.{pos, ◌*ℤ◌}
use Rattle.dense_def.specs.Matrix.{sum_below}
use Rattle.leaf_blocks.specs.Block.{place}
use Rattle.leaf_blocks.proofs.Rows.{RowsWritten}
use Rattle.leaf_blocks.proofs.kernels.product_into.Given as goal

abbrev pub invariant-loop-i : goal.invariant-loop-i
invariant-loop-i l =
    RowsWritten l.out l.side l.i (λ i j. sum_below l.side (λ k. place l.side l.first i k *ℤ place l.side l.second k j)) (λ i j. pos 0)
