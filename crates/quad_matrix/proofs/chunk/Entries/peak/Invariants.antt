use Rattle.std.proofs.Common.{◌≡◌, take}
use Rattle.chunk_codec.specs.Spots.{greatest_of}
use Rattle.quad_matrix.proofs.chunk.Entries.peak.Given as goal

abbrev pub invariant-loop-spot : goal.invariant-loop-spot
invariant-loop-spot l = l.peak ≡ greatest_of (take l.spot-index l.spot-items)
