-- What the steps of a reader answer, line after line.
use Rattle.std.specs.Prelude.{◌≡◌, ℕ, zero, suc, ◌+◌, ◌≤◌, Bool, true, ◌&&◌, ◌||◌, ◌==◌, if◌then◌else◌, not, List, [], ◌∷◌, ◌++◌, length, take, drop, Option, None, Some, Result, Ok, Err, ℤ}
use Rattle.std.specs.List.{filter}
use Rattle.mm_text.specs.declared.market.Entry.{Entry}
use Rattle.mm_text.specs.declared.market.Form.{Form}
use Rattle.mm_text.specs.declared.market.Form.TheVariants.{General, Symmetric}
use Rattle.mm_text.specs.declared.market.MarketFault.{MarketFault}
use Rattle.mm_text.specs.declared.places.Listed.{Listed}
use Rattle.mm_text.specs.declared.sizes.SizeLine.{SizeLine}
use Rattle.mm_text.specs.Lines.{cut_lines, lines_of, words_of, is_text}
use Rattle.mm_text.specs.Faults.{first_code, numbered}
use Rattle.mm_text.specs.Block.{Sizes, Block, is_note, is_empty_line, is_inside, are_numerals, says, is_above, lies_within, natural, entry_from, entry_of, three_of, fault_at, block_in, block_of_entries}

-- ---- Lines

-- the lines of a text that stands behind n lines, with their numbers
abbrev pub lines_behind : ℕ → List ℕ → List (ℕ × List ℕ)
lines_behind n rest = numbered (suc n) (lines_of rest)

-- A reader comes from behind n lines to behind m lines: what it passes in the text are whole lines, and the rest is left.
pub record Passes (n : ℕ) (text : List ℕ) (m : ℕ) (rest : List ℕ) : Type 0 where
  pub lines : ℕ
  pub count : m ≡ n + lines
  pub front : List ℕ
  pub whole : front ++ rest ≡ text
  pub few : lines ≤ length front
  pub left : cut_lines rest ≡ drop lines (cut_lines text)
  pub total : m + length (cut_lines rest) ≡ n + length (cut_lines text)

-- whether a line is passed over: a blank one, and a comment where comments may stand
abbrev pub is_passed : Bool → List ℕ → Bool
is_passed comments line = (comments && is_note line) || is_empty_line line

-- the lines from the first that is not passed over
abbrev pub from_line : Bool → List (ℕ × List ℕ) → List (ℕ × List ℕ)
from_line comments [] = []
from_line comments (line ∷ lines) = if is_passed comments line.1 then from_line comments lines else line ∷ lines

-- lines that are not blank
abbrev pub filled : List (ℕ × List ℕ) → List (ℕ × List ℕ)
filled lines = filter (λ (line : ℕ × List ℕ). not (is_empty_line line.1)) lines

-- ---- What a line says

-- The code of a line that is not three numbers: 2 other bytes than text, 5 a word that is no numeral, and else this one.
abbrev pub code_without_numbers : ℕ → List ℕ → ℕ
code_without_numbers otherwise line =
    if not (is_text line) then 2 else if not (are_numerals (words_of line)) then 5 else otherwise

-- what a size line says, as it was read
abbrev pub sizes_told : SizeLine → Sizes
sizes_told line = record { rows = line.rows; columns = line.columns; entries = line.entries }

-- a row or a column, which counts from 1 and is at most `high`
abbrev pub index_of : ℕ → ℤ → Option ℕ
index_of high n = if lies_within 1 high n then Some (natural n) else None

-- whether a matrix of so many rows and columns can have a form
abbrev pub fits_form : Form → ℕ → ℕ → Bool
fits_form General rows columns = true
fits_form Symmetric rows columns = rows == columns

-- the entry of three numbers, where it lies within the matrix
abbrev pub entry_inside : Sizes → ℤ × ℤ × ℤ → Option Entry
entry_inside sizes n = if is_inside sizes n then Some (entry_from n) else None

-- ---- The first lines

-- the number of the line after the last of a text that stands behind n lines
abbrev pub line_after : ℕ → List ℕ → ℕ
line_after n rest = suc (n + length (cut_lines rest))

-- Behind the banner and the size line of a block stands this text: the block is that of the entry lines there, for this form,
-- these sizes, and a size line with this number.
abbrev pub IsHead : ℕ → List (List ℕ) → Form → Sizes → ℕ → List ℕ → Type 0
IsHead grid lines form sizes n rest =
    block_in grid lines ≡ block_of_entries (line_after n rest) form sizes n (take sizes.entries (filled (lines_behind n rest)))

-- ---- Entry lines on their own

-- The rule that an entry line breaks on its own: those of an entry line without the one on places that were named before.
abbrev pub own_code : Form → Sizes → List ℕ → Option ℕ
own_code form sizes line =
    first_code
    ((2, not (is_text line))
    ∷ (5, not (are_numerals (words_of line)))
    ∷ (9, not (length (words_of line) == 3))
    ∷ (10, says (λ n. not (is_inside sizes n)) (three_of line))
    ∷ (12, says (is_above form) (entry_of line))
    ∷ [])

-- the entry with the number of its line, where the line breaks no rule on its own; a line without an entry breaks one
abbrev pub told_as : ℕ → Option ℕ → Option Entry → Result Listed MarketFault
told_as n (Some code) entry = Err (fault_at n code)
told_as n None None = Err (fault_at n 9)
told_as n None (Some entry) = Ok (record { entry = entry; line = n })

-- what an entry line says on its own
abbrev pub told : Form → Sizes → ℕ × List ℕ → Result Listed MarketFault
told form sizes line = told_as line.0 (own_code form sizes line.1) (entry_of line.1)

-- ---- All entry lines

-- entries, and the fault behind them if there is one
abbrev pub Found : Type 0
Found = List Listed × Option MarketFault

-- what a first line gives together with what the others give, which are not read where it breaks a rule
abbrev pub with_first : Result Listed MarketFault → Found → Found
with_first (Err fault) others = ([], Some fault)
with_first (Ok one) others = (one ∷ others.0, others.1)

-- The entries of so many lines, up to the first that breaks a rule on its own, with that fault; 13 where lines are missing, at
-- the line after the last.
abbrev pub gathered : Form → Sizes → ℕ → ℕ → List (ℕ × List ℕ) → Found
gathered form sizes end zero lines = ([], None)
gathered form sizes end (suc n) [] = ([], Some (fault_at end 13))
gathered form sizes end (suc n) (line ∷ lines) = with_first (told form sizes line) (gathered form sizes end n lines)

-- the entries of the next so many lines that are not blank, in a text behind m lines
abbrev pub gathered_at : Form → Sizes → ℕ → ℕ → List ℕ → Found
gathered_at form sizes n m rest = gathered form sizes (line_after m rest) n (filled (lines_behind m rest))

-- the line of the last of these entries, and n where there is none
abbrev pub last_line : ℕ → List Listed → ℕ
last_line n [] = n
last_line n (one ∷ ones) = last_line one.line ones

-- What a block gives: the first repeated place is told before the fault behind the entries.
abbrev pub judged : Option ℕ → Option MarketFault → Block → Result Block MarketFault
judged (Some line) stop block = Err (fault_at line 11)
judged None (Some fault) block = Err fault
judged None None block = Ok block
