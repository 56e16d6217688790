use Rattle.std.proofs.Common.{◌∙◌, ap, rules, FitsSigned, to_z-of_z, of_z}
use Rattle.std.specs.Int.{w64}
use Rattle.chunk_codec.specs.Bytes.{big_endian}
use Rattle.chunk_codec.proofs.BigEndian.{high_first_is}
use Rattle.chunk_codec.proofs.numbers.bytes_of_64.Goals as goal

pub returns : goal.returns
returns c =
    let fits : FitsSigned w64 c.args.number = search rules in
    c.to_be_bytes.ensures ∙ high_first_is 8 _ ∙ ap (big_endian 8) (c.cast_unsigned.ensures ∙ ap (of_z w64) (to_z-of_z fits))
