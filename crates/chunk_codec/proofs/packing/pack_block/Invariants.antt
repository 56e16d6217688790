use Rattle.std.proofs.Common.{◌≡◌, ◌++◌, take}
use Rattle.std.specs.Prelude.{flat_map}
use Rattle.chunk_codec.specs.Bytes.{long_bytes}
use Rattle.chunk_codec.proofs.packing.pack_block.Given as goal

abbrev pub invariant-loop-entry : goal.invariant-loop-entry
invariant-loop-entry l = l.bytes.items ≡ l.initial.bytes.items ++ flat_map long_bytes (take l.entry-index l.entries)
