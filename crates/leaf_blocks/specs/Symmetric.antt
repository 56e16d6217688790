-- Symmetric square blocks, as a leaf holds them: the upper triangle in one list, row after row. Row i has its columns i, i + 1, and so on.
use Rattle.std.specs.Prelude.{◌≡◌, ℕ, ◌+◌, ◌-◌, ◌*◌, ◌/◌, ◌<◌, ◌≤◌, min, max, List, length, All, ℤ}
use Rattle.dense_def.specs.Matrix.{Matrix, made, IsSymmetric}
use Rattle.leaf_blocks.specs.Block.{number_at, IsSmall, IsBlock}

-- ---- Places on and above the diagonal

-- the triangular number 1 + 2 + .. + n: how many places a triangle of that side has
abbrev pub triangular : ℕ → ℕ
triangular n = n * (n + 1) / 2

-- The index of the place in row i and column j, on or above the diagonal: the one in a full square, less the places below the diagonal
-- that are left out up to row i, which are 1 in row 1, 2 in row 2, and i in row i.
abbrev pub triangle_index : ℕ → ℕ → ℕ → ℕ
triangle_index side i j = i * side + j - triangular i

-- what holds at each place on or above the diagonal of a square of that side
abbrev pub EachUpper : ℕ → (ℕ → ℕ → Type 0) → Type 0
EachUpper side P = (i j : ℕ) → i ≤ j → j < side → P i j

-- ---- Blocks

-- the number in row i and column j of a symmetric block of that side: below the diagonal it is the one in row j and column i
abbrev pub mirrored_place : ℕ → List ℤ → ℕ → ℕ → ℤ
mirrored_place side numbers i j = number_at numbers (triangle_index side (min i j) (max i j))

-- the symmetric block of that side whose upper triangle stands in a list
abbrev pub mirrored : ℕ → List ℤ → Matrix
mirrored side numbers = made side side (λ i j. mirrored_place side numbers i j)

-- the list has the numbers of the upper triangle of a square of that side, and each of them is small
pub record FillsTriangle (side : ℕ) (numbers : List ℤ) : Type 0 where
  pub full : length numbers ≡ triangular side
  pub small : All IsSmall numbers

-- the matrix is a symmetric square of that side, and each of its numbers is small
pub record IsSymmetricBlock (side : ℕ) (matrix : Matrix) : Type 0 where
  pub square : IsBlock side matrix
  pub symmetric : IsSymmetric matrix
