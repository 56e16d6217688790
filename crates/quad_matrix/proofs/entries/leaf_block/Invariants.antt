use Rattle.std.proofs.Common.{take}
use Rattle.quad_matrix.proofs.Written.{SpotsWritten}
use Rattle.quad_matrix.proofs.entries.leaf_block.Given as goal

abbrev pub invariant-loop-spot : goal.invariant-loop-spot
invariant-loop-spot l = SpotsWritten l.numbers.items l.side (take l.spot-index l.spot-items)
