use Rattle.std.proofs.Common.{◌≡◌, ◌++◌, vec_capacity}
use Rattle.dense_def.specs.Matrix.{tabulate}
use Rattle.leaf_blocks.specs.Symmetric.{mirrored_place}
use Rattle.quad_symm.proofs.kernels.push_mirrored_row.Given as goal

abbrev pub invariant-loop-j : goal.invariant-loop-j
invariant-loop-j l =
    (vec_capacity l.out ≡ vec_capacity l.fn.out) × (l.out.items ≡ l.fn.out.items ++ tabulate l.j (λ j. mirrored_place l.side l.numbers l.row j))
