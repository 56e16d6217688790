-- Lists of entries as blocks. Rows and columns count from 0.
use Rattle.std.specs.Prelude.{◌≡◌, ℕ, ◌+◌, ◌-◌, min, max, Bool, true, false, ◌&&◌, ◌==◌, nat_le, if◌then◌else◌, List, [], ◌∷◌, map, filter, ℤ, pos}
use Rattle.dense_def.specs.Matrix.{Matrix, made}
use Rattle.chunk_codec.specs.declared.plain.Spot.{Spot}
use Rattle.chunk_codec.specs.Spots.{AreSoundSpots}
use Rattle.quad_matrix.specs.declared.chunk.Entries.{Entries}

-- whether an entry names row i and column j
abbrev pub is_at : ℕ → ℕ → Spot → Bool
is_at i j spot = spot.row == i && spot.column == j

-- the value of the entry that names row i and column j, and 0 where none does
abbrev pub spot_value : List Spot → ℕ → ℕ → ℤ
spot_value [] i j = pos 0
spot_value (spot ∷ spots) i j = if is_at i j spot then spot.value else spot_value spots i j

-- the block of some entries: their values, and 0 elsewhere
abbrev pub block_of_spots : ℕ → List Spot → Matrix
block_of_spots side spots = made side side (λ i j. spot_value spots i j)

-- the symmetric block whose upper triangle some entries give: the place below the diagonal has the value of the one above it
-- with row and column exchanged
abbrev pub mirrored_block : ℕ → List Spot → Matrix
mirrored_block side spots = made side side (λ i j. spot_value spots (min i j) (max i j))

-- the block of a list of entries, by whether it is symmetric
abbrev pub block_listed : Bool → ℕ → List Spot → Matrix
block_listed false side spots = block_of_spots side spots
block_listed true side spots = mirrored_block side spots

-- A sound list of entries of a block with leaves of side b and h levels above them; `mirrored` tells whether it is the list of
-- a symmetric block, which has no entry below the diagonal.
pub record AreSoundEntries (b h : ℕ) (mirrored : Bool) (entries : Entries) : Type 0 where
  pub leaf : entries.leaf ≡ b
  pub height : entries.height ≡ h
  pub symmetric : entries.symmetric ≡ mirrored
  pub listed : AreSoundSpots b h mirrored entries.list

-- the quadrant in which an entry lies, for quadrants of side half: 0 upper left, 1 upper right, 2 lower left, 3 lower right
abbrev pub quadrant_of : ℕ → Spot → ℕ
quadrant_of half spot = (if nat_le half spot.row then 2 else 0) + (if nat_le half spot.column then 1 else 0)

-- an index relative to the quadrant that begins at half, or to the one before it
abbrev pub relative : ℕ → ℕ → ℕ
relative half i = if nat_le half i then i - half else i

-- an entry relative to its quadrant
abbrev pub moved : ℕ → Spot → Spot
moved half spot =
    record { row = relative half spot.row; column = relative half spot.column; value = spot.value }

-- the entries that lie in a quadrant, relative to it
abbrev pub part_of : ℕ → ℕ → List Spot → List Spot
part_of half q spots = map (moved half) (filter (λ (spot : Spot). quadrant_of half spot == q) spots)
