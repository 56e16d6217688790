use Rattle.std.proofs.Common.{◌≡◌, ◌≤◌, ◌-◌, length, ◌*ℤ◌}
use Rattle.std.specs.Prelude.{EachIndex}
use Rattle.dense_def.specs.Matrix.{sum_below}
use Rattle.leaf_blocks.specs.Block.{number_at, place}
use Rattle.leaf_blocks.proofs.kernels.product_row_into.Given as goal

abbrev pub invariant-loop-from : goal.invariant-loop-from
invariant-loop-from l =
    (l.from ≤ length l.factors) × EachIndex l.row (λ j. number_at l.row j ≡ sum_below l.from (λ k. number_at l.factors k *ℤ place (length l.row) l.other k j))

abbrev pub decreases-loop-from : goal.decreases-loop-from
decreases-loop-from l = length l.factors - l.from
