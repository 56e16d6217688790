use Rattle.std.proofs.Common.{◌≡◌, ◌<◌, ◌^◌, take}
use Rattle.chunk_codec.specs.Bytes.{big_endian}
use Rattle.chunk_codec.proofs.numbers.number.Given as goal

abbrev pub invariant-loop-byte : goal.invariant-loop-byte
invariant-loop-byte l = record {
  spelled : big_endian l.byte-index l.number ≡ take l.byte-index l.bytes;
  bound : l.number < 256 ^ l.byte-index;
}
