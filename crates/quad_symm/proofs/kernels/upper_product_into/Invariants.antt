use Rattle.std.proofs.Common.{pos, ◌*ℤ◌}
use Rattle.dense_def.specs.Matrix.{sum_below}
use Rattle.leaf_blocks.specs.Block.{place}
use Rattle.quad_symm.proofs.Written.{UpperWritten}
use Rattle.quad_symm.proofs.kernels.upper_product_into.Given as goal

abbrev pub invariant-loop-i : goal.invariant-loop-i
invariant-loop-i l =
    UpperWritten l.out l.side l.i (λ i j. sum_below l.side (λ k. place l.side l.first i k *ℤ place l.side l.second k j)) (λ i j. pos 0)
