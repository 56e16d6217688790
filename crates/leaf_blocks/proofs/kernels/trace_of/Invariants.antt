use Rattle.std.proofs.Common.{◌≡◌}
use Rattle.dense_def.specs.Matrix.{sum_below}
use Rattle.leaf_blocks.specs.Block.{place}
use Rattle.leaf_blocks.proofs.kernels.trace_of.Given as goal

abbrev pub invariant-loop-i : goal.invariant-loop-i
invariant-loop-i l = l.sum ≡ sum_below l.i (λ i. place l.side l.numbers i i)
