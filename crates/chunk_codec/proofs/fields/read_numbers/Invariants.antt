use Rattle.std.proofs.Common.{◌≡◌, ◌++◌, ◌+◌, ◌*◌, All, FitsSigned, length}
use Rattle.std.specs.Prelude.{flat_map}
use Rattle.std.specs.Int.{w128}
use Rattle.chunk_codec.specs.Bytes.{long_bytes}
use Rattle.chunk_codec.proofs.fields.read_numbers.Given as goal

abbrev pub invariant-loop : goal.invariant-loop
invariant-loop l = record {
  read : flat_map long_bytes l.numbers.items ++ l.rest ≡ l.bytes;
  left : length l.rest + 16 * l.counter ≡ 16 * l.count;
  count : length l.numbers.items ≡ l.counter;
  fit : All (FitsSigned w128) l.numbers.items;
}
