use Rattle.std.proofs.Common.{◌≡◌, take}
use Rattle.quad_matrix.specs.Quarters.{quarters_of}
use Rattle.quad_matrix.proofs.entries.split.Given as goal

abbrev pub invariant-loop-spot : goal.invariant-loop-spot
invariant-loop-spot l = l.quarters ≡ quarters_of l.half (take l.spot-index l.spot-items)
