-- A text as a list of items: its grid line, and then each statement with its line, or a whole block. Lines count from 1.
use Rattle.std.specs.Prelude.{ℕ, zero, suc, ◌+◌, not, if◌then◌else◌, List, [], ◌∷◌, length, Option, None, Some, Result, Ok, Err, option_map}
use Rattle.mm_text.specs.declared.market.MarketFault.{MarketFault}
use Rattle.mm_text.specs.Lines.{lines_of, words_of, is_text}
use Rattle.mm_text.specs.Faults.{first_code}
use Rattle.mm_text.specs.Block as listing
use Rattle.cht_script.specs.declared.script.Fault.{Fault}
use Rattle.cht_script.specs.Words.{is_name, grid_of, is_skipped}
use Rattle.cht_script.specs.Statements.{Said, Market, said_in}

-- ---- Faults

-- a fault at a line
abbrev pub fault_at : ℕ → ℕ → Fault
fault_at n code = record { line = n; code = code }

-- the fault of a block that follows line n
abbrev pub fault_behind : ℕ → MarketFault → Fault
fault_behind n fault = fault_at (n + fault.line) fault.code

-- ---- The grid line

-- what a text begins with: the largest number of rows and columns, the side of a leaf block, the number of the grid line,
-- and the lines behind it
pub record Heading : Type 0 where
  pub grid : ℕ
  pub leaf : ℕ
  pub number : ℕ
  pub behind : List (List ℕ)

-- a grid line as a heading
abbrev pub heading_from : ℕ → List (List ℕ) → ℕ × ℕ → Heading
heading_from n behind limits = record { grid = limits.0; leaf = limits.1; number = n; behind = behind }

-- The heading of the lines from line n on: the first line that is not skipped is a grid line. Else the fault of that line:
-- 2 other bytes than text, 3 no grid line; 3 at the line after the last where none is there.
abbrev pub heading_in : ℕ → List (List ℕ) → Result Heading Fault
heading_in n [] = Err (fault_at n 3)
heading_in n (line ∷ lines) =
    if is_skipped line then heading_in (suc n) lines
    else
    listing.unless (option_map (fault_at n) (first_code ((2, not (is_text line)) ∷ [])))
    (listing.found_or (fault_at n 3) (option_map (heading_from n lines) (grid_of (words_of line))))

-- ---- Items

-- What a script says after its heading: a line, with its number; or a block, with the number of its line `market NAME`, the
-- name, and what the lines behind that line give.
pub data Item : Type 0 where
  Line : ℕ → List ℕ → Item
  Block : ℕ → List ℕ → Result listing.Block MarketFault → Item

-- the name of a line `market NAME`
abbrev pub name_listed : Option Said → Option (List ℕ)
name_listed (Some (Market (name ∷ []))) = if is_name name then Some name else None
name_listed said = None

-- the item of a line that is not skipped, with this name if it begins a block
abbrev pub item_named : ℕ → ℕ → List ℕ → List (List ℕ) → Option (List ℕ) → Item
item_named grid n line lines None = Line n line
item_named grid n line lines (Some name) = Block n name (listing.block_in grid lines)

-- the item of line n, which is not skipped, with the lines behind it
abbrev pub item_of : ℕ → ℕ → List ℕ → List (List ℕ) → Item
item_of grid n line lines = item_named grid n line lines (name_listed (said_in (words_of line)))

-- how many lines belong to what a block's lines give, of this many that are there: all of them where it has a fault
abbrev pub lines_of_block : ℕ → Result listing.Block MarketFault → ℕ
lines_of_block most (Ok block) = block.lines
lines_of_block most (Err fault) = most

-- how many of the lines behind an item belong to it
abbrev pub lines_taken : ℕ → Item → ℕ
lines_taken most (Line n line) = 0
lines_taken most (Block n name found) = lines_of_block most found

-- The items of the lines from line n on, the first `within` of which belong to a block before them.
abbrev pub items_in : ℕ → ℕ → ℕ → List (List ℕ) → List Item
items_in grid n within [] = []
items_in grid n (suc within) (line ∷ lines) = items_in grid (suc n) within lines
items_in grid n zero (line ∷ lines) =
    if is_skipped line then items_in grid (suc n) 0 lines
    else
    item_of grid n line lines
    ∷ items_in grid (suc n) (lines_taken (length lines) (item_of grid n line lines)) lines

-- the items behind a heading
abbrev pub items_behind : Result Heading Fault → List Item
items_behind (Ok heading) = items_in heading.grid (suc heading.number) 0 heading.behind
items_behind (Err fault) = []

-- the heading of a text
abbrev pub heading_of : List ℕ → Result Heading Fault
heading_of text = heading_in 1 (lines_of text)

-- the items of a text
abbrev pub items_of : List ℕ → List Item
items_of text = items_behind (heading_of text)
