use Rattle.std.proofs.Common.{◌≡◌}
use Rattle.dense_def.specs.Matrix.{sum_below}
use Rattle.leaf_blocks.specs.Block.{number_at}
use Rattle.leaf_blocks.specs.Symmetric.{triangle_index}
use Rattle.leaf_blocks.proofs.kernels.triangle_trace_of.Given as goal

abbrev pub invariant-loop-i : goal.invariant-loop-i
invariant-loop-i l = l.sum ≡ sum_below l.i (λ i. number_at l.numbers (triangle_index l.side i i))
