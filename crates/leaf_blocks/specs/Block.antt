-- Square blocks, as a leaf holds them: all numbers in one list, row after row. Rows and columns count from 0.
use Rattle.std.specs.Prelude.{◌≡◌, ℕ, ◌+◌, ◌*◌, ◌^◌, ◌<◌, ◌≤◌, List, length, slice_index_or, All, ℤ, pos, unsigned_abs}
use Rattle.dense_def.specs.Matrix.{Matrix, height, entry, IsMatrix}

-- ---- Places

-- the number at an index of a list, and 0 past its end
abbrev pub number_at : List ℤ → ℕ → ℤ
number_at numbers i = slice_index_or numbers i (pos 0)

-- the number in row i and column j, where rows of that many numbers stand one after another in a list
abbrev pub place : ℕ → List ℤ → ℕ → ℕ → ℤ
place columns numbers i j = number_at numbers (i * columns + j)

-- what holds at each place of a square of that side
abbrev pub EachPlace : ℕ → (ℕ → ℕ → Type 0) → Type 0
EachPlace side P = (i j : ℕ) → i < side → j < side → P i j

-- ---- Blocks

-- the number is at most 2 ^ 126 in absolute value
abbrev pub IsSmall : ℤ → Type 0
IsSmall number = unsigned_abs number ≤ 2 ^ 126

-- the list has the numbers of a square of that side, and each of them is small
pub record FillsSquare (side : ℕ) (numbers : List ℤ) : Type 0 where
  pub full : length numbers ≡ side * side
  pub small : All IsSmall numbers

-- the matrix is a square of that side, and each of its numbers is small
pub record IsBlock (side : ℕ) (block : Matrix) : Type 0 where
  pub whole : IsMatrix block
  pub tall : height block ≡ side
  pub wide : block.columns ≡ side
  pub small : EachPlace side (λ i j. IsSmall (entry block i j))
