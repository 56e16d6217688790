use Rattle.std.proofs.Common.{◌≡◌, ◌*◌, vec_capacity}
use Rattle.leaf_blocks.specs.Symmetric.{mirrored_place}
use Rattle.leaf_blocks.proofs.Rows.{RowsBuilt}
use Rattle.quad_symm.proofs.kernels.mirrored_of.Given as goal

abbrev pub invariant-loop-i : goal.invariant-loop-i
invariant-loop-i l =
    (vec_capacity l.whole ≡ l.side * l.side) × RowsBuilt l.whole.items l.side l.i (mirrored_place l.side l.numbers)
