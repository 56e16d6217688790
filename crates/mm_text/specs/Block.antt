-- What stands in a block of lines: a banner, a size line, and as many entry lines as that says. Lines count from 1 at the
-- banner. Comments, whose first byte is `%` (37), may stand between the banner and the size line, and blank lines anywhere
-- behind the banner.
use Rattle.std.specs.Prelude.{ℕ, ◌+◌, ◌*◌, max, min, Bool, false, ◌&&◌, ◌||◌, ◌==◌, not, nat_le, nat_lt, is_none, if◌then◌else◌, List, [], ◌∷◌, length, map, take, codes, Option, None, Some, option_map, option_and_then, Result, Ok, Err, ℤ, pos, negsuc}
use Rattle.std.specs.List.{list_any, filter, filter_map}
use Rattle.std.specs.Str.{bytes_eq}
use Rattle.cht_ids.specs.Numeral.{number_64}
use Rattle.dense_def.specs.Matrix.{Matrix, made}
use Rattle.mm_text.specs.declared.market.Entry.{Entry}
use Rattle.mm_text.specs.declared.market.MarketFault.{MarketFault}
use Rattle.mm_text.specs.declared.market.Form.{Form}
use Rattle.mm_text.specs.declared.market.Form.TheVariants.{General, Symmetric}
use Rattle.mm_text.specs.Lines.{words_of, is_text}
use Rattle.mm_text.specs.Faults.{first_code, first_fault, numbered}

-- ---- Lines that are skipped

-- a line without words
abbrev pub is_empty_line : List ℕ → Bool
is_empty_line line = length (words_of line) == 0

-- a comment of a block
abbrev pub is_note : List ℕ → Bool
is_note [] = false
is_note (byte ∷ rest) = byte == 37

-- ---- The banner

-- an ASCII capital (65 to 90) as the small letter; other bytes as they are
abbrev pub small_letter : ℕ → ℕ
small_letter byte = if nat_le 65 byte && nat_le byte 90 then byte + 32 else byte

-- whether a word is this one, in any ASCII case; the second is given in small letters
abbrev pub is_word : List ℕ → List ℕ → Bool
is_word word small = bytes_eq (map small_letter word) small

-- the form that the last word of a banner names
abbrev pub form_named : List ℕ → Option Form
form_named word =
    if is_word word (codes "general") then Some General
    else if is_word word (codes "symmetric") then Some Symmetric else None

-- the form that the five words of a banner name
abbrev pub banner_form : List (List ℕ) → Option Form
banner_form (a ∷ b ∷ c ∷ d ∷ e ∷ []) =
    if is_word a (codes "%%matrixmarket") && is_word b (codes "matrix") && is_word c (codes "coordinate")
    && is_word d (codes "integer")
    then form_named e else None
banner_form words = None

-- ---- Three numbers

-- whether each word is a numeral of 64 bits
abbrev pub are_numerals : List (List ℕ) → Bool
are_numerals words = not (list_any (λ word. is_none (number_64 word)) words)

-- the numbers of three words
abbrev pub numbers_of : List (List ℕ) → Option (ℤ × ℤ × ℤ)
numbers_of (a ∷ b ∷ c ∷ []) =
    option_and_then (λ x. option_and_then (λ y. option_map (λ z. (x, y, z)) (number_64 c)) (number_64 b)) (number_64 a)
numbers_of words = None

-- the three numbers of a line
abbrev pub three_of : List ℕ → Option (ℤ × ℤ × ℤ)
three_of line = numbers_of (words_of line)

-- low ≤ z ≤ high, for a number that may be negative
abbrev pub lies_within : ℕ → ℕ → ℤ → Bool
lies_within low high (pos n) = nat_le low n && nat_le n high
lies_within low high (negsuc n) = false

-- a number that is not negative, and 0 for one that is
abbrev pub natural : ℤ → ℕ
natural (pos n) = n
natural (negsuc n) = 0

-- ---- The size line

-- what a size line says
pub record Sizes : Type 0 where
  pub rows : ℕ
  pub columns : ℕ
  pub entries : ℕ

-- whether rows and columns lie from 1 to the grid, and are equal for the symmetric form
abbrev pub is_shape : ℕ → Form → ℤ × ℤ × ℤ → Bool
is_shape grid General n = lies_within 1 grid n.0 && lies_within 1 grid n.1
is_shape grid Symmetric n = lies_within 1 grid n.0 && lies_within 1 grid n.1 && natural n.0 == natural n.1

-- a shape, and no more entries than it has places
abbrev pub sizes_from : ℕ → Form → ℤ × ℤ × ℤ → Option Sizes
sizes_from grid form n =
    if is_shape grid form n && lies_within 0 (natural n.0 * natural n.1) n.2
    then Some (record { rows = natural n.0; columns = natural n.1; entries = natural n.2 })
    else None

-- what a size line says, for the largest number of rows and columns
abbrev pub sizes_of : ℕ → Form → List ℕ → Option Sizes
sizes_of grid form line = option_and_then (sizes_from grid form) (three_of line)

-- ---- Entry lines

-- what an entry line says: row and column, counted from 1, and value
abbrev pub entry_from : ℤ × ℤ × ℤ → Entry
entry_from n = record { row = natural n.0; column = natural n.1; value = n.2 }

-- what a line of three numbers says as an entry
abbrev pub entry_of : List ℕ → Option Entry
entry_of line = option_map entry_from (three_of line)

-- whether an entry names row i and column j
abbrev pub names : ℕ → ℕ → Entry → Bool
names i j e = e.row == i && e.column == j

-- whether row and column lie within the matrix
abbrev pub is_inside : Sizes → ℤ × ℤ × ℤ → Bool
is_inside sizes n = lies_within 1 sizes.rows n.0 && lies_within 1 sizes.columns n.1

-- whether what a line of three numbers says is so; false for any other line
abbrev pub says : {A : Type 0} → (A → Bool) → Option A → Bool
says test None = false
says test (Some x) = test x

-- whether a line is an entry for this place
abbrev pub names_place : Entry → List ℕ → Bool
names_place e line = says (names e.row e.column) (entry_of line)

-- whether one of these lines is an entry for the place that the line names
abbrev pub is_repeated : List (ℕ × List ℕ) → List ℕ → Bool
is_repeated before line = says (λ e. list_any (λ (earlier : ℕ × List ℕ). names_place e earlier.1) before) (entry_of line)

-- whether an entry stands above the diagonal of a symmetric block
abbrev pub is_above : Form → Entry → Bool
is_above General e = false
is_above Symmetric e = nat_lt e.row e.column

-- The rule that an entry line breaks, from the entry lines before it: 2 other bytes than text, 5 a word that is no
-- numeral, 9 not three words, 10 a row or a column outside the matrix, 11 a place that was named before, 12 a place above
-- the diagonal of a symmetric block.
abbrev pub entry_code : Form → Sizes → List (ℕ × List ℕ) → List ℕ → Option ℕ
entry_code form sizes before line =
    first_code
    ((2, not (is_text line))
    ∷ (5, not (are_numerals (words_of line)))
    ∷ (9, not (length (words_of line) == 3))
    ∷ (10, says (λ n. not (is_inside sizes n)) (three_of line))
    ∷ (11, is_repeated before line)
    ∷ (12, says (is_above form) (entry_of line))
    ∷ [])

-- ---- The block

-- a fault at a line
abbrev pub fault_at : ℕ → ℕ → MarketFault
fault_at n code = record { line = n; code = code }

-- the fault of a line with this number, if a rule has this code
abbrev pub at_line : ℕ → Option ℕ → Option MarketFault
at_line n code = option_map (fault_at n) code

-- what is found, unless there is this fault
abbrev pub unless : {A F : Type 0} → Option F → Result A F → Result A F
unless None found = found
unless (Some fault) found = Err fault

-- what is found, and else this fault
abbrev pub found_or : {A F : Type 0} → F → Option A → Result A F
found_or fault None = Err fault
found_or fault (Some x) = Ok x

-- what comes of what was found, if it was
abbrev pub and_then : {A B F : Type 0} → (A → Result B F) → Result A F → Result B F
and_then next (Ok x) = next x
and_then next (Err fault) = Err fault

-- what the first line gives: the form of its banner; 2 other bytes than text, 7 no banner
abbrev pub banner_in : List ℕ → Result Form MarketFault
banner_in line =
    unless (at_line 1 (first_code ((2, not (is_text line)) ∷ []))) (found_or (fault_at 1 7) (banner_form (words_of line)))

-- the lines from the size line on
abbrev pub from_sizes : List (ℕ × List ℕ) → List (ℕ × List ℕ)
from_sizes [] = []
from_sizes (line ∷ lines) = if is_note line.1 || is_empty_line line.1 then from_sizes lines else line ∷ lines

-- what a size line gives; 2 other bytes than text, 5 a word that is no numeral, 8 no sizes
abbrev pub sizes_in : ℕ → Form → ℕ × List ℕ → Result Sizes MarketFault
sizes_in grid form line =
    unless
    (at_line line.0 (first_code ((2, not (is_text line.1)) ∷ (5, not (are_numerals (words_of line.1))) ∷ [])))
    (found_or (fault_at line.0 8) (sizes_of grid form line.1))

-- the fault of an entry line, from the entry lines before it
abbrev pub entry_fault : Form → Sizes → List (ℕ × List ℕ) → ℕ × List ℕ → Option MarketFault
entry_fault form sizes before line = at_line line.0 (entry_code form sizes before line.1)

-- the entry lines: the first so many that are not blank
abbrev pub entry_lines : ℕ → List (ℕ × List ℕ) → List (ℕ × List ℕ)
entry_lines entries lines = take entries (filter (λ (line : ℕ × List ℕ). not (is_empty_line line.1)) lines)

-- the number of the last of these lines, and n where there is none
abbrev pub last_number : ℕ → List (ℕ × List ℕ) → ℕ
last_number n [] = n
last_number n (line ∷ lines) = last_number line.0 lines

-- what a block gives: its form, its sizes, its entries in the order of their lines, and how many lines it takes
pub record Block : Type 0 where
  pub form : Form
  pub sizes : Sizes
  pub entries : List Entry
  pub lines : ℕ

-- the block with these entry lines behind its size line
abbrev pub block_of : Form → Sizes → ℕ → List (ℕ × List ℕ) → Block
block_of form sizes n lines = record {
  form = form;
  sizes = sizes;
  entries = filter_map (λ (line : ℕ × List ℕ). entry_of line.1) lines;
  lines = last_number n lines;
}

-- The block of these entry lines, where no rule is broken and as many are there as the size line says; 13 where lines
-- are missing, at the line after the last.
abbrev pub block_of_entries : ℕ → Form → Sizes → ℕ → List (ℕ × List ℕ) → Result Block MarketFault
block_of_entries end form sizes n lines =
    unless (first_fault (entry_fault form sizes) [] lines)
    (if length lines == sizes.entries then Ok (block_of form sizes n lines) else Err (fault_at end 13))

-- the block of the lines from the size line on, where the text ends before line `end`
abbrev pub block_from_sizes : ℕ → ℕ → Form → List (ℕ × List ℕ) → Result Block MarketFault
block_from_sizes end grid form [] = Err (fault_at end 13)
block_from_sizes end grid form (line ∷ lines) =
    and_then (λ (sizes : Sizes). block_of_entries end form sizes line.0 (entry_lines sizes.entries lines)) (sizes_in grid form line)

-- The block at the front of these lines, for a grid: the largest number of rows and of columns; or the fault of the
-- first line at which a rule is broken, with the least code. Lines may follow the block.
abbrev pub block_in : ℕ → List (List ℕ) → Result Block MarketFault
block_in grid [] = Err (fault_at 1 13)
block_in grid (first ∷ lines) =
    and_then (λ form. block_from_sizes (2 + length lines) grid form (from_sizes (numbered 2 lines))) (banner_in first)

-- ---- What a block means

-- the value of the entry that names row i and column j, and 0 where none does
abbrev pub value_at : List Entry → ℕ → ℕ → ℤ
value_at [] i j = pos 0
value_at (e ∷ es) i j = if names i j e then e.value else value_at es i j

-- The number in row i and column j, counted from 1, of the matrix that entries in a form list. In the symmetric form an entry
-- stands for both places.
abbrev pub number_listed : Form → List Entry → ℕ → ℕ → ℤ
number_listed General entries i j = value_at entries i j
number_listed Symmetric entries i j = value_at entries (max i j) (min i j)

-- the matrix of so many rows and columns that entries in a form list: their values, and 0 elsewhere
abbrev pub matrix_listed : Form → ℕ → ℕ → List Entry → Matrix
matrix_listed form rows columns entries = made rows columns (λ i j. number_listed form entries (i + 1) (j + 1))

-- the matrix of a block
abbrev pub matrix_of : Block → Matrix
matrix_of block = matrix_listed block.form block.sizes.rows block.sizes.columns block.entries
