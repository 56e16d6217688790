use Rattle.std.proofs.Common.{◌∙◌}
use Rattle.chunk_codec.proofs.BigEndian.{high_first_is}
use Rattle.chunk_codec.proofs.numbers.bytes_of_128.Goals as goal

pub returns : goal.returns
returns c = c.to_be_bytes.ensures ∙ high_first_is 16 _
