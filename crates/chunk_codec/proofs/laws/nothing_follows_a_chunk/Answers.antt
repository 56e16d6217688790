use Rattle.chunk_codec.proofs.Fronts.{nothing_more}
use Rattle.chunk_codec.proofs.laws.nothing_follows_a_chunk.Goals as goal

pub returns : goal.returns
returns c = nothing_more
