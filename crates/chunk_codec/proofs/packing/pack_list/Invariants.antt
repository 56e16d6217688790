use Rattle.std.proofs.Common.{◌≡◌, ◌++◌, take}
use Rattle.std.specs.Prelude.{flat_map}
use Rattle.chunk_codec.specs.Bytes.{spot_bytes}
use Rattle.chunk_codec.proofs.packing.pack_list.Given as goal

abbrev pub invariant-loop-spot : goal.invariant-loop-spot
invariant-loop-spot l = l.bytes.items ≡ l.initial.bytes.items ++ flat_map spot_bytes (take l.spot-index l.list)
