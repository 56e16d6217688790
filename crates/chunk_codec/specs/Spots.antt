-- Blocks as lists of entries. Rows and columns count from 0.
use Rattle.std.specs.Prelude.{◌≡◌, ℕ, ◌*◌, ◌^◌, ◌<◌, ◌≤◌, max, Bool, true, ◌&&◌, ◌||◌, ◌==◌, nat_lt, IsTrue, List, [], ◌∷◌, length, All, pos, ◌<ℤ◌, unsigned_abs}
use Rattle.chunk_codec.specs.declared.plain.Spot.{Spot}

-- the side of a block whose leaves have side b, and which has h levels above them
abbrev pub side_of : ℕ → ℕ → ℕ
side_of b h = b * 2 ^ h

-- whether one entry stands before another: in an earlier row, or in the same row and an earlier column
abbrev pub stands_before : Spot → Spot → Bool
stands_before one other = nat_lt one.row other.row || (one.row == other.row && nat_lt one.column other.column)

-- whether each entry stands before the next
abbrev pub spots_rise : List Spot → Bool
spots_rise [] = true
spots_rise (spot ∷ []) = true
spots_rise (spot ∷ next ∷ spots) = stands_before spot next && spots_rise (next ∷ spots)

-- an entry of a block of this side, with a value other than 0 from -2 ^ 63 to 2 ^ 63 - 1
pub record IsSpot (side : ℕ) (spot : Spot) : Type 0 where
  pub row : spot.row < side
  pub column : spot.column < side
  pub value : spot.value ≡ pos 0 → ⊥
  pub small : unsigned_abs spot.value ≤ 2 ^ 63
  pub below : spot.value <ℤ pos (2 ^ 63)

-- the entry lies on the diagonal or above it
abbrev pub IsUpper : Spot → Type 0
IsUpper spot = spot.row ≤ spot.column

-- A sound list of entries: of a block with leaves of side b and h levels above them, and of the upper triangle alone where
-- it is to be symmetric.
pub record AreSoundSpots (b h : ℕ) (symmetric : Bool) (list : List Spot) : Type 0 where
  pub leaf_low : 1 ≤ b
  pub leaf_high : b ≤ 64
  pub low : h ≤ 16
  pub some : 1 ≤ length list
  pub few : length list < 2 ^ 32
  pub rising : IsTrue (spots_rise list)
  pub spots : All (IsSpot (side_of b h)) list
  pub upper : IsTrue symmetric → All IsUpper list

-- the greatest absolute value of an entry of a list, and 0 where there is none
abbrev pub greatest_of : List Spot → ℕ
greatest_of [] = 0
greatest_of (spot ∷ spots) = max (unsigned_abs spot.value) (greatest_of spots)
