use Rattle.std.proofs.Common.{◌≡◌, ◌+ℤ◌, length, vec_capacity}
use Rattle.dense_def.specs.Matrix.{tabulate}
use Rattle.leaf_blocks.specs.Block.{number_at}
use Rattle.leaf_blocks.proofs.kernels.sum_of.Given as goal

abbrev pub invariant-loop-i : goal.invariant-loop-i
invariant-loop-i l =
    (vec_capacity l.sum ≡ length l.first) × (l.sum.items ≡ tabulate l.i (λ i. number_at l.first i +ℤ number_at l.second i))
