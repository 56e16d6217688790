-- Sound contents of chunks: those that have bytes. The rules are over plain numbers and lists, so that each library can state
-- them of its own contents.
use Rattle.std.specs.Prelude.{◌≡◌, ℕ, ◌+◌, ◌*◌, ◌/◌, ◌^◌, ◌≤◌, max, List, [], ◌∷◌, length, ℤ, unsigned_abs}
use Rattle.chunk_codec.specs.declared.plain.Plain.{Plain}
use Rattle.chunk_codec.specs.declared.plain.Plain.TheVariants.{Leaf, Node, SymLeaf, SymNode, Entries, Num}
use Rattle.chunk_codec.specs.Spots.{AreSoundSpots}

-- the greatest absolute value of some numbers, and 0 where there is none
abbrev pub greatest : List ℤ → ℕ
greatest [] = 0
greatest (number ∷ numbers) = max (unsigned_abs number) (greatest numbers)

-- a sound peak: the greatest absolute value of what is not all zero, and of at most 2 ^ 126
pub record IsSoundPeak (peak : ℕ) : Type 0 where
  pub some : 1 ≤ peak
  pub small : peak ≤ 2 ^ 126

-- a sound dense block: its side, and the greatest absolute value of its numbers
pub record IsSoundBlock (side peak : ℕ) : Type 0 where
  pub low : 1 ≤ side
  pub high : side ≤ 64
  pub range : IsSoundPeak peak

-- a sound node: how many levels stand below it, and the greatest absolute value of its block
pub record IsSoundNode (height peak : ℕ) : Type 0 where
  pub low : 1 ≤ height
  pub high : height ≤ 16
  pub range : IsSoundPeak peak

-- a sound number: not 0, and of at most 2 ^ 126 in absolute value
abbrev pub IsSoundNumber : ℤ → Type 0
IsSoundNumber number = IsSoundPeak (unsigned_abs number)

-- how many numbers a square block of that side has
abbrev pub square_places : ℕ → ℕ
square_places side = side * side

-- how many numbers the upper triangle of a square block of that side has
abbrev pub triangle_places : ℕ → ℕ
triangle_places side = side * (side + 1) / 2

-- what makes the content of a chunk sound
abbrev pub IsSound : Plain → Type 0
IsSound (Leaf side entries) = IsSoundBlock side (greatest entries) × (length entries ≡ square_places side)
IsSound (Node height peak) = IsSoundNode height peak
IsSound (SymLeaf side entries) = IsSoundBlock side (greatest entries) × (length entries ≡ triangle_places side)
IsSound (SymNode height peak) = IsSoundNode height peak
IsSound (Entries leaf height symmetric spots) = AreSoundSpots leaf height symmetric spots
IsSound (Num number) = IsSoundNumber number
