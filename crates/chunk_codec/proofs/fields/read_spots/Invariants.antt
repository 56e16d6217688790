use Rattle.std.proofs.Common.{◌≡◌, ◌++◌, ◌+◌, ◌*◌, All, length}
use Rattle.std.specs.Prelude.{flat_map}
use Rattle.chunk_codec.specs.Parts.{HasWidths}
use Rattle.chunk_codec.specs.Bytes.{spot_bytes}
use Rattle.chunk_codec.proofs.fields.read_spots.Given as goal

abbrev pub invariant-loop : goal.invariant-loop
invariant-loop l = record {
  read : flat_map spot_bytes l.list.items ++ l.rest ≡ l.bytes;
  left : length l.rest + 16 * l.counter ≡ 16 * l.count;
  count : length l.list.items ≡ l.counter;
  widths : All HasWidths l.list.items;
}
