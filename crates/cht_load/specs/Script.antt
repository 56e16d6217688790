-- The text of a generated script.
use Rattle.std.specs.Prelude.{ℕ, zero, suc, ◌+◌, ◌*◌, ◌/◌, ◌%◌, List, [], ◌∷◌, ◌++◌, ℤ, pos, ◌-ℤ◌, codes}
use Rattle.cht_ids.specs.Numeral.{number_text}
use Rattle.cht_load.specs.Draws.{state_after, draw}

-- the texts f 0, f 1, .. f (n - 1), one after another
unfoldable pub texts : (ℕ → List ℕ) → ℕ → List ℕ
texts f zero = []
texts f (suc n) = texts f n ++ f n

-- a number and the byte behind it
abbrev pub number_and : ℕ → ℕ → List ℕ
number_and byte n = number_text (pos n) ++ (byte ∷ [])

-- an entry line: row and column, counted from 1, and the value (32 is a space, 10 a line feed)
abbrev pub entry_line : ℕ → ℕ → ℤ → List ℕ
entry_line row column value = (number_and 32 row ++ number_and 32 column) ++ (number_text value ++ (10 ∷ []))

-- how far apart the columns of a row stand
abbrev pub step : ℕ → ℕ → ℕ
step size fill = size / fill

-- The column of the entry with number k, counted from 0, of a row whose first draw begins at a state: from the place that
-- the row's first draw gives, in steps, round the row.
abbrev pub column_of : ℕ → ℕ → ℕ → ℕ → ℕ
column_of size fill state k = 1 + (draw state 1 + k * step size fill) % size

-- its value, from -99 to 99, by a draw of its own
abbrev pub value_of : ℕ → ℕ → ℤ
value_of state k = pos (draw state (k + 2) % 199) -ℤ pos 99

-- a row, counted from 1, whose first draw begins at a state
abbrev pub row_text : ℕ → ℕ → ℕ → ℕ → List ℕ
row_text size fill row state = texts (λ k. entry_line row (column_of size fill state k) (value_of state k)) fill

-- the rows of a matrix: each takes one draw, and one for each of its entries
abbrev pub rows_text : ℕ → ℕ → ℕ → List ℕ
rows_text size fill state = texts (λ r. row_text size fill (r + 1) (state_after state (r * (fill + 1)))) size

-- the lines before the entries of a matrix
abbrev pub head_text : List ℕ → ℕ → ℕ → List ℕ
head_text name size fill =
    ((codes "market " ++ name) ++ codes "\n%%MatrixMarket matrix coordinate integer general\n") ++ ((number_and 32 size ++ number_and 32 size) ++ number_and 10 (size * fill))

-- a matrix whose first draw begins at a state
abbrev pub matrix_text : List ℕ → ℕ → ℕ → ℕ → List ℕ
matrix_text name size fill state = head_text name size fill ++ rows_text size fill state

-- the script: two matrices with one state running through both, their product, its trace and its count
abbrev pub script_text : ℕ → ℕ → ℕ → List ℕ
script_text number size fill =
    (((codes "grid " ++ number_and 32 size) ++ codes "leaf 32\n") ++ matrix_text (codes "a") size fill number)
    ++ matrix_text (codes "b") size fill (state_after number (size * (fill + 1))) ++ codes "mul c a b\ntrace c\ncount c\n"
