-- The bytes of chunks, format 1: a tag, then the fields. All numbers are big-endian, signed ones in two's complement.
use Rattle.std.specs.Prelude.{◌≡◌, ℕ, zero, suc, ◌/◌, ◌%◌, Bool, List, [], ◌∷◌, ◌++◌, length, flat_map, ℤ, Result, Ok, Err, if◌then◌else◌}
use Rattle.std.specs.Int.{w64, w128, cast_unsigned}
use Rattle.cht_ids.specs.declared.unpack.Unpack.{Unpack}
use Rattle.cht_ids.specs.declared.unpack.Unpack.TheVariants.{NotChunk, Memory}
use Rattle.chunk_codec.specs.declared.plain.Spot.{Spot}
use Rattle.chunk_codec.specs.declared.plain.Plain.{Plain}
use Rattle.chunk_codec.specs.declared.plain.Plain.TheVariants.{Leaf, Node, SymLeaf, SymNode, Entries, Num}
use Rattle.chunk_codec.specs.Sound.{greatest}

-- ---- Numbers

-- the lowest k bytes of a number, the highest of them first
unfoldable pub big_endian : ℕ → ℕ → List ℕ
big_endian zero n = []
big_endian (suc k) n = big_endian k (n / 256) ++ (n % 256 ∷ [])

-- the 16 bytes of a signed number of 128 bits
abbrev pub long_bytes : ℤ → List ℕ
long_bytes number = big_endian 16 (cast_unsigned w128 number)

-- ---- Parts

-- the 16 bytes of an entry of a list: its row, its column and its value
abbrev pub spot_bytes : Spot → List ℕ
spot_bytes spot = (big_endian 4 spot.row ++ big_endian 4 spot.column) ++ big_endian 8 (cast_unsigned w64 spot.value)

-- a dense block: its side in one byte, its peak, its numbers
abbrev pub block_bytes : ℕ → ℕ → List ℤ → List ℕ
block_bytes side peak entries = side ∷ (big_endian 16 peak ++ flat_map long_bytes entries)

-- a node: its height in one byte, its peak
abbrev pub node_bytes : ℕ → ℕ → List ℕ
node_bytes height peak = height ∷ big_endian 16 peak

-- a list of entries: leaf, height and a flag in one byte each, how many entries there are, the entries
abbrev pub list_bytes : ℕ → ℕ → Bool → List Spot → List ℕ
list_bytes leaf height symmetric list =
    leaf ∷ height ∷ (if symmetric then 1 else 0) ∷ (big_endian 4 (length list) ++ flat_map spot_bytes list)

-- ---- Chunks

-- the bytes of a chunk: its tag, and its fields
abbrev pub spelling : Plain → List ℕ
spelling (Leaf side entries) = 1 ∷ block_bytes side (greatest entries) entries
spelling (Node height peak) = 2 ∷ node_bytes height peak
spelling (SymLeaf side entries) = 3 ∷ block_bytes side (greatest entries) entries
spelling (SymNode height peak) = 4 ∷ node_bytes height peak
spelling (Entries leaf height symmetric list) = 5 ∷ list_bytes leaf height symmetric list
spelling (Num number) = 6 ∷ long_bytes number

-- ---- Reading

-- What reading bytes gives: a sound value that has them, no chunk only where no sound value has them, or want of memory.
abbrev pub Reads : {V : Type 0} → (V → Type 0) → (V → List ℕ) → List ℕ → Result V Unpack → Type 0
Reads Sound bytes_of bytes (Ok value) = Sound value × (bytes_of value ≡ bytes)
Reads {V} Sound bytes_of bytes (Err NotChunk) = (value : V) → Sound value → bytes_of value ≡ bytes → ⊥
Reads Sound bytes_of bytes (Err Memory) = Unit {0}
