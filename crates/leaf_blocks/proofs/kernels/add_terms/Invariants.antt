use Rattle.std.proofs.Common.{◌≡◌, ◌*ℤ◌}
use Rattle.std.specs.Prelude.{EachIndex}
use Rattle.dense_def.specs.Matrix.{sum_below}
use Rattle.leaf_blocks.specs.Block.{number_at, place}
use Rattle.leaf_blocks.proofs.kernels.add_terms.Given as goal

abbrev pub invariant-loop-k : goal.invariant-loop-k
invariant-loop-k l =
    EachIndex l.row (λ j. number_at l.row j ≡ sum_below l.k (λ k. number_at l.factors k *ℤ place l.side l.other k j))
