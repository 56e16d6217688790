use Rattle.chunk_codec.proofs.Fronts.{one_chunk}
use Rattle.chunk_codec.proofs.laws.bytes_have_one_chunk.Goals as goal

pub returns : goal.returns
returns c = one_chunk
