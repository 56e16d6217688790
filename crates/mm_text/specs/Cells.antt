-- The numbers of a matrix that are not zero, as a list.
use Rattle.std.specs.Prelude.{ℕ, ◌+◌, Bool, false, ◌==◌, nat_le, if◌then◌else◌, List, [], ◌∷◌, ◌++◌, map, ℤ, pos, negsuc}
use Rattle.std.specs.List.{filter}
use Rattle.dense_def.specs.Matrix.{Matrix}
use Rattle.mm_text.specs.declared.market.Cell.{Cell}
use Rattle.mm_text.specs.declared.market.Entry.{Entry}
use Rattle.mm_text.specs.declared.market.Form.{Form}
use Rattle.mm_text.specs.declared.market.Form.TheVariants.{General, Symmetric}

-- whether a number is 0
abbrev pub is_zero : ℤ → Bool
is_zero (pos n) = n == 0
is_zero (negsuc n) = false

-- the numbers of one row that are not zero, from column j on
abbrev pub cells_of_row : ℕ → ℕ → List ℤ → List Cell
cells_of_row i j [] = []
cells_of_row i j (x ∷ xs) =
    if is_zero x then cells_of_row i (j + 1) xs else record { row = i; column = j; value = x } ∷ cells_of_row i (j + 1) xs

-- those of the rows from row i on, row by row
abbrev pub cells_of_rows : ℕ → List (List ℤ) → List Cell
cells_of_rows i [] = []
cells_of_rows i (row ∷ rows) = cells_of_row i 1 row ++ cells_of_rows (i + 1) rows

-- The numbers of a matrix that are not zero, with their places, row by row and within a row by rising column. Rows
-- and columns count from 1.
abbrev pub cells_of : Matrix → List Cell
cells_of m = cells_of_rows 1 m.rows

-- whether a cell stands on or below the diagonal
abbrev pub is_low : Cell → Bool
is_low cell = nat_le cell.column cell.row

-- the cells by which a form lists a matrix: all of them, or for the symmetric form those on or below the diagonal
abbrev pub cells_listed : Form → Matrix → List Cell
cells_listed General m = cells_of m
cells_listed Symmetric m = filter is_low (cells_of m)

-- an entry as a cell
abbrev pub cell_of : Entry → Cell
cell_of e = record { row = e.row; column = e.column; value = e.value }

-- entries as cells
abbrev pub entry_cells : List Entry → List Cell
entry_cells entries = map cell_of entries
