-- What the reader of a chunk's fields gives for each form, before they are a chunk.
use Rattle.std.specs.Prelude.{◌≡◌, ℕ, ◌^◌, ◌<◌, Bool, not, ◌&&◌, ◌||◌, ◌==◌, nat_lt, nat_le, List, length, unsigned_abs, FitsSigned, if◌then◌else◌}
use Rattle.std.specs.Int.{w64}
use Rattle.chunk_codec.specs.declared.plain.Spot.{Spot}
use Rattle.chunk_codec.specs.declared.parts.Block.{Block}
use Rattle.chunk_codec.specs.declared.parts.Node.{Node}
use Rattle.chunk_codec.specs.declared.parts.Listed.{Listed}
use Rattle.chunk_codec.specs.Spots.{AreSoundSpots}
use Rattle.chunk_codec.specs.Sound.{greatest, square_places, triangle_places, IsSoundBlock, IsSoundNode}
use Rattle.chunk_codec.specs.Bytes.{block_bytes, node_bytes, list_bytes}

-- how many numbers a dense block of that side has, or its upper triangle alone
abbrev pub places_of : Bool → ℕ → ℕ
places_of triangle side = if triangle then triangle_places side else square_places side

-- a sound dense block, or the upper triangle of one
abbrev pub IsBlock : Bool → Block → Type 0
IsBlock triangle block =
    IsSoundBlock block.side (greatest block.entries) × (length block.entries ≡ places_of triangle block.side)

-- the bytes behind the tag of a block: its side, its peak and its numbers
abbrev pub bytes_of_block : Block → List ℕ
bytes_of_block block = block_bytes block.side (greatest block.entries) block.entries

-- a sound node
abbrev pub IsNode : Node → Type 0
IsNode node = IsSoundNode node.height node.peak

-- the bytes behind the tag of a node: its height and its peak
abbrev pub bytes_of_node : Node → List ℕ
bytes_of_node node = node_bytes node.height node.peak

-- a sound list of entries
abbrev pub AreListed : Listed → Type 0
AreListed listed = AreSoundSpots listed.leaf listed.height listed.symmetric listed.list

-- the bytes behind the tag of a list: its leaf, its height, whether it is symmetric, and its entries
abbrev pub bytes_of_list : Listed → List ℕ
bytes_of_list listed = list_bytes listed.leaf listed.height listed.symmetric listed.list

-- the fields of an entry have the widths of its bytes
pub record HasWidths (spot : Spot) : Type 0 where
  pub row : spot.row < 2 ^ 32
  pub column : spot.column < 2 ^ 32
  pub value : FitsSigned w64 spot.value

-- whether an entry may stand in a list of a block of that side
abbrev pub may_be_listed : ℕ → Bool → Spot → Bool
may_be_listed side symmetric spot =
    nat_lt spot.row side && nat_lt spot.column side && not (unsigned_abs spot.value == 0) && (not symmetric || nat_le spot.row spot.column)
