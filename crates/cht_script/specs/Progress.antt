-- How far a reader has come, what a line adds, and where the reading stops.
use Rattle.std.specs.Prelude.{◌≡◌, ℕ, suc, ◌+◌, ◌≤◌, ◌<◌, ◌^◌, Bool, true, is_none, List, [], ◌∷◌, ◌++◌, length, map, Option, None, Some, option_map, option_and_then, Ok}
use Rattle.std.specs.List.{flat_map, list_all}
use Rattle.mm_text.specs.Lines.{lines_of}
use Rattle.cht_script.specs.declared.heading.Heading as front
use Rattle.cht_script.specs.declared.reader.Reader.{Reader}
use Rattle.cht_script.specs.declared.reader.Reading.{Reading}
use Rattle.cht_script.specs.declared.reader.Stop.{Stop}
use Rattle.cht_script.specs.declared.script.Fault.{Fault}
use Rattle.cht_script.specs.declared.script.Statement.{Statement}
use Rattle.cht_script.specs.Items.{Item, item_of, items_in, items_behind, lines_taken}
use Rattle.cht_script.specs.Meaning.{deeds_in}
use Rattle.cht_script.specs.Reading.{deed_of, IsFormed, AreFormed}
use Rattle.cht_script.specs.Parsing.{line_fault, items_read, item_stopped, begun_in, begun_told}
use Rattle.cht_script.specs.Steps.{heading_told}

-- ---- One line

-- the item of a line, where the reader has counted it and stands behind it
abbrev pub item_at : List ℕ → Reader → Item
item_at line reader = item_of reader.grid reader.lines line (lines_of reader.rest.now)

-- The line's item breaks no rule on lines, and the reader went behind it: it has one more statement.
pub record IsTaken (line : List ℕ) (old new : Reader) : Type 0 where
  pub clean : line_fault (item_at line old) ≡ None
  pub behind : items_in old.grid (suc old.lines) (lines_taken (length (lines_of old.rest.now)) (item_at line old)) (lines_of old.rest.now)
      ≡ items_in old.grid (suc new.lines) 0 (lines_of new.rest.now)
  pub statement : Statement
  pub deed : deeds_in (item_at line old) ≡ deed_of statement ∷ []
  pub formed : IsFormed old.grid statement
  pub statements : new.statements ≡ old.statements ++ statement ∷ []
  pub grid : new.grid ≡ old.grid
  pub room : new.lines + length (lines_of new.rest.now) ≤ old.lines + length (lines_of old.rest.now)
  pub later : old.lines ≤ new.lines
  pub shorter : length new.rest.now ≤ length old.rest.now

-- the fault of an item, and the line of its block
pub record IsStopOf (item : Item) (stop : Stop) : Type 0 where
  pub fault : line_fault item ≡ Some stop.fault
  pub begun : begun_in item ≡ option_map begun_told stop.begun

-- the line's item breaks a rule on lines, and the reader has no more statements
pub record IsStopped (line : List ℕ) (old new : Reader) (stop : Stop) : Type 0 where
  pub here : IsStopOf (item_at line old) stop
  pub statements : new.statements ≡ old.statements
  pub grid : new.grid ≡ old.grid

-- what reading a line gave
abbrev pub Reads : List ℕ → Reader → Reader → Option Stop → Type 0
Reads line old new None = IsTaken line old new
Reads line old new (Some stop) = IsStopped line old new stop

-- The lines that were read and those that are left are no more than a script has bytes, and each statement has a line of its
-- own.
pub record HasPlace (reader : Reader) : Type 0 where
  pub lines : reader.lines + length (lines_of reader.rest.now) ≤ 2 ^ 26
  pub few : length reader.statements ≤ reader.lines

-- The same where the last line was counted, and gave no statement yet.
pub record HasRoom (reader : Reader) : Type 0 where
  pub lines : reader.lines + length (lines_of reader.rest.now) ≤ 2 ^ 26
  pub few : length reader.statements < reader.lines

-- ---- All lines

-- whether an item breaks no rule on lines
abbrev pub is_clean : Item → Bool
is_clean item = is_none (line_fault item)

-- Of these items some were read: they break no rule on lines, and the reader has their statements. The others are those of the
-- lines that are left.
pub record IsReadTo (items : List Item) (reader : Reader) : Type 0 where
  pub before : List Item
  pub left : items ≡ before ++ items_in reader.grid (suc reader.lines) 0 (lines_of reader.rest.now)
  pub clean : list_all is_clean before ≡ true
  pub deeds : map deed_of reader.statements ≡ flat_map deeds_in before
  pub formed : AreFormed reader.grid reader.statements

-- the fault of where a reader stopped
abbrev pub fault_stopped : Stop → Fault
fault_stopped stop = stop.fault

-- the line `market NAME` of where a reader stopped
abbrev pub begun_stopped : Stop → Option (ℕ × List ℕ)
begun_stopped stop = option_map begun_told stop.begun

-- these are the statements of the items up to the first that breaks a rule on lines, and this is its fault, if one does
pub record IsReadOf (grid : ℕ) (items : List Item) (said : List Statement) (stop : Option Stop) : Type 0 where
  pub deeds : map deed_of said ≡ flat_map deeds_in (items_read items)
  pub formed : AreFormed grid said
  pub fault : option_map fault_stopped stop ≡ option_and_then line_fault (item_stopped items)
  pub begun : option_and_then begun_stopped stop ≡ option_and_then begun_in (item_stopped items)

-- what a reader knows of all items behind a line: it read on, or it stopped
abbrev pub HasPassed : List Item → Reader → Option Stop → Type 0
HasPassed items new None = IsReadTo items new
HasPassed items new (Some stop) = IsReadOf new.grid items new.statements (Some stop)

-- the items behind a heading that was read
abbrev pub items_after : front.Heading → List Item
items_after heading = items_behind (Ok (heading_told heading))

-- what was read behind a heading
pub record IsReadBehind (heading : front.Heading) (reading : Reading) : Type 0 where
  pub read : IsReadOf heading.grid (items_after heading) reading.statements reading.stop
  pub few : length reading.statements ≤ 2 ^ 26
