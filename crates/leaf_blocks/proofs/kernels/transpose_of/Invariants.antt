use Rattle.std.proofs.Common.{◌≡◌, ◌*◌, vec_capacity}
use Rattle.leaf_blocks.specs.Block.{place}
use Rattle.leaf_blocks.proofs.Rows.{RowsBuilt}
use Rattle.leaf_blocks.proofs.kernels.transpose_of.Given as goal

abbrev pub invariant-loop-i : goal.invariant-loop-i
invariant-loop-i l =
    (vec_capacity l.turned ≡ l.side * l.side) × RowsBuilt l.turned.items l.side l.i (λ i j. place l.side l.numbers j i)
