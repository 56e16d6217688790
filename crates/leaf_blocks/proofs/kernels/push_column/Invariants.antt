use Rattle.std.proofs.Common.{◌≡◌, ◌++◌, vec_capacity}
use Rattle.dense_def.specs.Matrix.{tabulate}
use Rattle.leaf_blocks.specs.Block.{place}
use Rattle.leaf_blocks.proofs.kernels.push_column.Given as goal

abbrev pub invariant-loop-i : goal.invariant-loop-i
invariant-loop-i l =
    (vec_capacity l.out ≡ vec_capacity l.fn.out) × (l.out.items ≡ l.fn.out.items ++ tabulate l.i (λ i. place l.side l.numbers i l.column))
