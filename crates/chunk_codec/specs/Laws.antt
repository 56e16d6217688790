-- The laws of the bytes of chunks.
use Rattle.std.specs.Prelude.{◌≡◌, ℕ, List, [], ◌++◌}
use Rattle.chunk_codec.specs.declared.plain.Plain.{Plain}
use Rattle.chunk_codec.specs.Sound.{IsSound}
use Rattle.chunk_codec.specs.Bytes.{spelling}

-- two sound chunks with the same bytes are the same chunk
abbrev pub BytesHaveOneChunk : Type 0
BytesHaveOneChunk = (one other : Plain) → IsSound one → IsSound other → spelling one ≡ spelling other → one ≡ other

-- what follows the bytes of a sound chunk is nothing, where the whole are the bytes of a sound chunk
abbrev pub NothingFollows : Type 0
NothingFollows = (one other : Plain) (more : List ℕ) → IsSound one → IsSound other → spelling one ++ more ≡ spelling other → more ≡ []
