-- The text of a matrix, after the coordinate form of the Matrix Market exchange format.
use Rattle.std.specs.Prelude.{◌≡◌, ℕ, List, [], ◌∷◌, ◌++◌, length, Option, codes, ℤ, pos}
use Rattle.std.specs.List.{flat_map}
use Rattle.cht_io.specs.Bytes.{Adds}
use Rattle.cht_ids.specs.Numeral.{number_text}
use Rattle.dense_def.specs.Matrix.{Matrix, height}
use Rattle.mm_text.specs.declared.market.Cell.{Cell}
use Rattle.mm_text.specs.declared.market.Form.{Form}
use Rattle.mm_text.specs.declared.market.Form.TheVariants.{General, Symmetric}
use Rattle.mm_text.specs.Cells.{cells_listed}

-- the first line
abbrev pub banner : Form → List ℕ
banner General = codes "%%MatrixMarket matrix coordinate integer general"
banner Symmetric = codes "%%MatrixMarket matrix coordinate integer symmetric"

-- a line of three numbers with single spaces (32) between them, ended by a line feed (10)
abbrev pub line_of_three : ℕ → ℕ → ℤ → List ℕ
line_of_three a b c = number_text (pos a) ++ 32 ∷ number_text (pos b) ++ 32 ∷ number_text c ++ 10 ∷ []

-- the line of a cell: row, column and value
abbrev pub cell_line : Cell → List ℕ
cell_line cell = line_of_three cell.row cell.column cell.value

-- what stands before the lines of that many cells: the banner, and the line `rows columns entries`
abbrev pub opening : Form → ℕ → ℕ → ℕ → List ℕ
opening form rows columns count = banner form ++ 10 ∷ line_of_three rows columns (pos count)

-- the text of these cells in a matrix of this shape: the banner, the line `rows columns entries`, a line for each cell
abbrev pub text_of_cells : Form → ℕ → ℕ → List Cell → List ℕ
text_of_cells form rows columns cells = opening form rows columns (length cells) ++ flat_map cell_line cells

-- the text of a dense matrix in a form
abbrev pub matrix_text : Form → Matrix → List ℕ
matrix_text form m = text_of_cells form (height m) m.columns (cells_listed form m)

-- a text on its way: a sink took a front of it, and the rest is held
abbrev pub IsOnItsWay : Option (List ℕ) → List ℕ → List ℕ → Option (List ℕ) → Type 0
IsOnItsWay before text held after = (front : List ℕ) × (front ++ held ≡ text) × Adds before front after
