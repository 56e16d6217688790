-- What is read of a text before the names in it are judged: its statements up to the first line that breaks a rule on lines. These
-- rules have the codes 1 to 13, and know nothing of what names mean.
use Rattle.std.specs.Prelude.{◌≡◌, ℕ, ◌^◌, ◌≤◌, Bool, true, not, nat_le, is_none, if◌then◌else◌, List, [], ◌∷◌, length, map, Option, None, Some, option_map, option_and_then, Result, Ok, Err}
use Rattle.std.specs.List.{flat_map}
use Rattle.mm_text.specs.Lines.{words_of, is_text}
use Rattle.mm_text.specs.Faults.{first_code}
use Rattle.cht_script.specs.declared.script.Begun.{Begun}
use Rattle.cht_script.specs.declared.script.Fault.{Fault}
use Rattle.cht_script.specs.declared.script.Script.{Script}
use Rattle.cht_script.specs.Statements.{Said, said_in}
use Rattle.cht_script.specs.Items.{fault_at, Heading, heading_of, Item, Line, Block, items_behind}
use Rattle.cht_script.specs.Verdict.{word_rules, block_fault, most_bytes}
use Rattle.cht_script.specs.Meaning.{Deed, deeds_in}
use Rattle.cht_script.specs.Limits.{AreLimits}
use Rattle.cht_script.specs.Reading.{name_bytes, deed_of, AreFormed}

-- ---- The rules on lines

-- the rules for a line that says this, without those on what its names mean; 4 where it says nothing
abbrev pub line_rules : Option Said → List (ℕ × Bool)
line_rules None = (4, true) ∷ []
line_rules (Some said) = word_rules said

-- the fault of an item by the rules on lines
abbrev pub line_fault : Item → Option Fault
line_fault (Line n line) = option_map (fault_at n) (first_code ((2, not (is_text line)) ∷ line_rules (said_in (words_of line))))
line_fault (Block n name found) = block_fault n found

-- ---- Up to the first that is broken

-- the items before the first with such a fault
abbrev pub items_read : List Item → List Item
items_read [] = []
items_read (item ∷ items) = if is_none (line_fault item) then item ∷ items_read items else []

-- the first item with such a fault
abbrev pub item_stopped : List Item → Option Item
item_stopped [] = None
item_stopped (item ∷ items) = if is_none (line_fault item) then item_stopped items else Some item

-- the line of a block, with its name
abbrev pub begun_in : Item → Option (ℕ × List ℕ)
begun_in (Line n line) = None
begun_in (Block n name found) = Some (n, name)

-- ---- The text

-- the heading of a text that is not too long
abbrev pub front_of : List ℕ → Result Heading Fault
front_of text = if nat_le (length text) most_bytes then heading_of text else Err (fault_at 0 1)

-- the largest number of rows and columns; 1 where no heading was read
abbrev pub grid_read : Result Heading Fault → ℕ
grid_read (Ok heading) = heading.grid
grid_read (Err fault) = 1

-- the side of a leaf block; 1 where no heading was read
abbrev pub leaf_read : Result Heading Fault → ℕ
leaf_read (Ok heading) = heading.leaf
leaf_read (Err fault) = 1

-- the first fault by the rules on lines
abbrev pub stop_with : Result Heading Fault → Option Fault
stop_with (Err fault) = Some fault
stop_with (Ok heading) = option_and_then line_fault (item_stopped (items_behind (Ok heading)))

-- the line `market NAME` in whose block that fault lies
abbrev pub begun_with : Result Heading Fault → Option (ℕ × List ℕ)
begun_with front = option_and_then begun_in (item_stopped (items_behind front))

-- the statements before that fault
abbrev pub deeds_with : Result Heading Fault → List Deed
deeds_with front = flat_map deeds_in (items_read (items_behind front))

-- ---- What was read

-- a line `market NAME` that was read
abbrev pub begun_told : Begun → ℕ × List ℕ
begun_told begun = (begun.line, name_bytes begun.to)

-- this is what is read of the text
pub record IsParsed (text : List ℕ) (script : Script) : Type 0 where
  pub grid : script.grid ≡ grid_read (front_of text)
  pub leaf : script.leaf ≡ leaf_read (front_of text)
  pub within : AreLimits (script.grid, script.leaf)
  pub deeds : map deed_of script.statements ≡ deeds_with (front_of text)
  pub formed : AreFormed script.grid script.statements
  pub begun : option_map begun_told script.begun ≡ begun_with (front_of text)
  pub stop : script.stop ≡ stop_with (front_of text)
  pub few : length script.statements ≤ 2 ^ 26

-- this is what is read of some text
abbrev pub IsParsedOfSome : Script → Type 0
IsParsedOfSome script = (text : List ℕ) × IsParsed text script
