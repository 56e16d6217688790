use Rattle.std.proofs.Common.{take}
use Rattle.quad_matrix.proofs.TriangleWritten.{UpperWritten}
use Rattle.quad_matrix.proofs.entries.symmetric_leaf_block.Given as goal

abbrev pub invariant-loop-spot : goal.invariant-loop-spot
invariant-loop-spot l = UpperWritten l.numbers.items l.side (take l.spot-index l.spot-items)
