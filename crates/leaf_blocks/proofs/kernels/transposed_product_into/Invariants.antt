use Rattle.std.proofs.Common.{◌≡◌, ◌*ℤ◌}
use Rattle.dense_def.specs.Matrix.{sum_below}
use Rattle.leaf_blocks.specs.Block.{place, EachPlace}
use Rattle.leaf_blocks.proofs.kernels.transposed_product_into.Given as goal

abbrev pub invariant-loop-k : goal.invariant-loop-k
invariant-loop-k l =
    EachPlace l.side (λ i j. place l.side l.out i j ≡ sum_below l.k (λ k. place l.side l.first k i *ℤ place l.side l.second k j))
