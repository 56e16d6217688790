-- The entries of a market in a form, as those of a list for a quadtree.
use Rattle.std.specs.Prelude.{◌≡◌, ℕ, ◌+◌, ◌-◌, ◌*◌, ◌^◌, ◌≤◌, min, List, IsPermutation, pos, ◌<ℤ◌, unsigned_abs}
use Rattle.std.specs.List.Sorted.{IsNonDecreasingBy}
use Rattle.mm_text.specs.declared.market.Entry.{Entry}
use Rattle.mm_text.specs.declared.market.Form.{Form}
use Rattle.mm_text.specs.declared.market.Form.TheVariants.{General, Symmetric}
use Rattle.chunk_codec.specs.declared.plain.Spot.{Spot}

-- an entry whose row and column count from 1, with both counted from 0
abbrev pub spot_of : Entry → Spot
spot_of e = record { row = e.row - 1; column = e.column - 1; value = e.value }

-- the same with row and column exchanged
abbrev pub mirrored_spot : Entry → Spot
mirrored_spot e = record { row = e.column - 1; column = e.row - 1; value = e.value }

-- an entry in a form as one of a list: in the symmetric form, what stands below the diagonal comes to stand above it
abbrev pub spot_in : Form → Entry → Spot
spot_in General e = spot_of e
spot_in Symmetric e = mirrored_spot e

-- row and column of an entry count from 1
abbrev pub IsCounted : Entry → Type 0
IsCounted e = (1 ≤ e.row) × (1 ≤ e.column)

-- the value is one of 64 bits, with its sign
abbrev pub HasSmallValue : Spot → Type 0
HasSmallValue spot = (unsigned_abs spot.value ≤ 2 ^ 63) × (spot.value <ℤ pos (2 ^ 63))

-- the place of an entry as one number: it grows with the row, and within a row with the column
abbrev pub place_of : Spot → ℕ
place_of spot = spot.row * 2 ^ 32 + spot.column

-- how a list is put in order: as the entries stood, or for the symmetric form, in which they were exchanged, by their places
abbrev pub ArePutInOrder : Form → List Spot → List Spot → Type 0
ArePutInOrder General before after = after ≡ before
ArePutInOrder Symmetric before after = IsPermutation before after × IsNonDecreasingBy place_of after

-- the most rows and columns of a matrix that a script lists, where trees have this side
abbrev pub most_listed : ℕ → ℕ
most_listed side = min 4096 side
