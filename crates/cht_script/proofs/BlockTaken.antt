-- What a block adds to a reader.
use Rattle.std.proofs.Common.{◌≡◌, ℕ, zero, suc, ◌+◌, ◌-◌, ◌<◌, ◌≤◌, true, List, [], ◌∷◌, ◌++◌, length, map, take, drop, Option, Some, Ok, Err, ℤ, refl, sym, ap, ap₂, ◌∙◌, arith}
use Rattle.std.specs.Prelude.{max, min}
use Rattle.std.specs.List.{filter}
use Rattle.std.proofs.lemmas.List.{drop-map, length-drop, take_all}
use Rattle.dense_def.specs.Matrix.{Matrix, made}
use Rattle.dense_def.proofs.Entries.{made_same}
use Rattle.mm_text.specs.declared.market.Form.{Form}
use Rattle.mm_text.specs.declared.market.Form.TheVariants.{General, Symmetric}
use Rattle.mm_text.specs.declared.market.Entry.{Entry}
use Rattle.mm_text.specs.declared.market.Market.{Market}
use Rattle.mm_text.specs.declared.market.MarketFault.{MarketFault}
use Rattle.mm_text.specs.declared.market.MarketRead.{MarketRead}
use Rattle.mm_text.specs.Lines.{cut_lines, lines_of, words_of, without_return}
use Rattle.mm_text.specs.Block as listing
use Rattle.mm_text.specs.Cells.{cells_of, is_low, cells_listed, entry_cells}
use Rattle.mm_text.specs.Reading.{IsMarketOf, IsBlockRead}
use Rattle.cht_script.specs.declared.reader.Reader.{Reader}
use Rattle.cht_script.specs.declared.reader.Stop.{Stop}
use Rattle.cht_script.specs.declared.script.Name.{Name}
use Rattle.cht_script.specs.declared.script.Statement.TheVariants as statements
use Rattle.cht_script.specs.Words.{is_name}
use Rattle.cht_script.specs.Statements as say
use Rattle.cht_script.specs.Statements.{said_in}
use Rattle.cht_script.specs.Items.{Block, item_of, items_in, lines_taken}
use Rattle.cht_script.specs.Meaning.{Lists, deeds_in}
use Rattle.cht_script.specs.Reading.{name_bytes, matrix_of_market, IsGoodMarket}
use Rattle.cht_script.specs.Parsing.{line_fault, begun_in}
use Rattle.cht_script.specs.Progress.{item_at, IsTaken, IsStopped}
use Rattle.cht_script.proofs.Cells.{value_at-made, value_at-low}
use Rattle.cht_script.proofs.BlockParts.{block_placed}

-- ---- The matrix

-- the numbers that entries list are those of the block, in either form
abbrev AreNumbersOf : listing.Block → Form → List Entry → ℕ → ℕ → Type 0
AreNumbersOf block form entries i j = listing.number_listed form entries (i + 1) (j + 1) ≡ listing.number_listed form block.entries (i + 1) (j + 1)

general_read : (block : listing.Block) (entries : List Entry) (rows columns : ℕ)
    → entry_cells entries ≡ cells_of (made rows columns (λ i j. listing.number_listed General block.entries (i + 1) (j + 1)))
    → (i j : ℕ) → i < rows → j < columns → AreNumbersOf block General entries i j
general_read block entries rows columns cells i j row column =
    value_at-made rows columns (λ i j. listing.number_listed General block.entries (i + 1) (j + 1)) entries cells i j row column

-- the place on or below the diagonal of two that mirror each other
low_place : (rows i j : ℕ) → i < rows → j < rows → (max i j < rows) × ((min i j < rows) × (min i j ≤ max i j))
low_place rows i j row column = (grind arith, (grind arith, grind arith))

max_next : (i j : ℕ) → max (i + 1) (j + 1) ≡ max i j + 1
max_next i j = grind arith

min_next : (i j : ℕ) → min (i + 1) (j + 1) ≡ min i j + 1
min_next i j = grind arith

max_low : (i j : ℕ) → j ≤ i → max (i + 1) (j + 1) ≡ i + 1
max_low i j le = grind arith

min_low : (i j : ℕ) → j ≤ i → min (i + 1) (j + 1) ≡ j + 1
min_low i j le = grind arith

symmetric_read : (block : listing.Block) (entries : List Entry) (rows columns : ℕ) → rows ≡ columns
    → entry_cells entries ≡ filter is_low (cells_of (made rows columns (λ i j. listing.number_listed Symmetric block.entries (i + 1) (j + 1))))
    → (i j : ℕ) → i < rows → j < columns → AreNumbersOf block Symmetric entries i j
symmetric_read block entries rows columns square cells i j row column =
    let f : ℕ → ℕ → ℤ = λ i j. listing.number_listed Symmetric block.entries (i + 1) (j + 1) in
    let low = low_place rows i j row (omega arith) in
    let here : listing.value_at entries (max i j + 1) (min i j + 1) ≡ f (max i j) (min i j) =
    value_at-low rows columns f entries cells (max i j) (min i j) low.0 (omega (arith, low.1.0)) low.1.1 in
    ap₂ (listing.value_at entries) (max_next i j) (min_next i j)
    ∙ (here
    ∙ (ap₂ (listing.value_at block.entries) (max_low (max i j) (min i j) low.1.1) (min_low (max i j) (min i j) low.1.1)
    ∙ sym (ap₂ (listing.value_at block.entries) (max_next i j) (min_next i j))))

form_read : (block : listing.Block) (form : Form) (entries : List Entry) (rows columns : ℕ) → (form ≡ Symmetric → rows ≡ columns)
    → entry_cells entries ≡ cells_listed form (made rows columns (λ i j. listing.number_listed form block.entries (i + 1) (j + 1)))
    → (i j : ℕ) → i < rows → j < columns → AreNumbersOf block form entries i j
form_read block General entries rows columns square cells i j row column = general_read block entries rows columns cells i j row column
form_read block Symmetric entries rows columns square cells i j row column = symmetric_read block entries rows columns (square refl) cells i j row column

-- the entries that were read give the matrix of the block
matrix_read : (block : listing.Block) (market : Market) → (block.form ≡ Symmetric → block.sizes.rows ≡ block.sizes.columns) → IsMarketOf block market
    → matrix_of_market market ≡ listing.matrix_of block
matrix_read block market square is =
    ap (λ form. listing.matrix_listed form market.rows market.columns market.entries) is.form
    ∙ made_same market.rows market.columns block.sizes.rows block.sizes.columns
    (λ i j. listing.number_listed block.form market.entries (i + 1) (j + 1))
    (λ i j. listing.number_listed block.form block.entries (i + 1) (j + 1)) is.rows is.columns
    (λ i j row column.
    form_read block block.form market.entries block.sizes.rows block.sizes.columns square is.entries i j
    (omega (arith, is.rows)) (omega (arith, is.columns)))

market_good : (grid : ℕ) (lines : List (List ℕ)) (block : listing.Block) (market : Market) → listing.block_in grid lines ≡ Ok block → IsMarketOf block market
    → IsGoodMarket grid market
market_good grid lines block market found is =
    let sizes = (block_placed grid lines block found).sizes in
    record {
      rows = rw is.rows sizes.rows;
      columns = rw is.columns sizes.columns;
      square = λ form. is.rows ∙ (sizes.square (sym is.form ∙ form) ∙ sym is.columns);
      entries = is.entries ∙ ap₂ cells_listed (sym is.form) (sym (matrix_read block market sizes.square is));
    }

-- ---- The lines behind it

items_skipped : (grid n within : ℕ) (lines : List (List ℕ)) → items_in grid n within lines ≡ items_in grid (n + within) 0 (drop within lines)
items_skipped grid n zero lines = ap (λ k. items_in grid k 0 lines) (omega arith)
items_skipped grid n (suc within) [] = refl
items_skipped grid n (suc within) (line ∷ lines) =
    items_skipped grid (suc n) within lines ∙ ap (λ k. items_in grid k 0 (drop within lines)) (omega arith)

lines_behind : (text : List ℕ) (bytes n : ℕ) → cut_lines (drop bytes text) ≡ drop n (cut_lines text) → lines_of (drop bytes text) ≡ drop n (lines_of text)
lines_behind text bytes n behind = ap (map without_return) behind ∙ sym (drop-map without_return n (cut_lines text))

-- the rest of a text from a place, as a slice gives it
pub slice_rest : (text : List ℕ) (n : ℕ) → take (length text - n) (drop n text) ≡ drop n text
slice_rest text n = take_all (length text - n) (drop n text) (omega (arith, length-drop n text))

-- ---- The item

block_item : (grid n : ℕ) (line word : List ℕ) (lines : List (List ℕ)) → said_in (words_of line) ≡ Some (say.Market (word ∷ [])) → is_name word ≡ true
    → item_of grid n line lines ≡ Block n word (listing.block_in grid lines)
block_item grid n line word lines said name = rw (said, name) refl

same_lists : (n : ℕ) (a b : List ℕ) (f g : Form) (m k : Matrix) → a ≡ b → f ≡ g → m ≡ k → Lists n a f m ∷ [] ≡ Lists n b g k ∷ []
same_lists n a b f g m k name form matrix = λ i. Lists n (name i) (form i) (matrix i) ∷ []

-- ---- A line that says `market`

-- where a reader stands behind a block that was read
pub record IsBehind (old new : Reader) (to : Name) (read : MarketRead) : Type 0 where
  pub rest : new.rest.now ≡ drop read.bytes old.rest.now
  pub lines : new.lines ≡ old.lines + read.lines
  pub statements : new.statements ≡ old.statements ++ statements.Market old.lines to read.market ∷ []
  pub grid : new.grid ≡ old.grid

-- a block takes no more lines than there are
pub lines_enough : (grid : ℕ) (text : List ℕ) (read : MarketRead) → IsBlockRead grid text read → read.lines ≤ length (lines_of text)
lines_enough grid text read is = rw is.lines (block_placed grid (lines_of text) is.block is.found).lines

pub block_taken : (line : List ℕ) (old new : Reader) (word : List ℕ) (to : Name) (read : MarketRead)
    → said_in (words_of line) ≡ Some (say.Market (word ∷ [])) → is_name word ≡ true → name_bytes to ≡ word
    → IsBlockRead old.grid old.rest.now read → IsBehind old new to read → IsTaken line old new
block_taken line old new word to read said name bytes is moved =
    let lines = lines_of old.rest.now in
    let item : item_at line old ≡ Block old.lines word (Ok is.block) = block_item old.grid old.lines line word lines said name ∙ ap (Block old.lines word) is.found in
    let rest : lines_of new.rest.now ≡ drop read.lines lines = ap lines_of moved.rest ∙ lines_behind old.rest.now read.bytes read.lines is.behind in
    let enough = lines_enough old.grid old.rest.now read is in
    let sizes = (block_placed old.grid lines is.block is.found).sizes in
    record {
      clean = ap line_fault item;
      behind = ap (λ x. items_in old.grid (suc old.lines) (lines_taken (length lines) x) lines) item
          ∙ (items_skipped old.grid (suc old.lines) is.block.lines lines
          ∙ (ap (λ k. items_in old.grid k 0 (drop is.block.lines lines)) (omega (arith, moved.lines, is.lines))
          ∙ ap (items_in old.grid (suc new.lines) 0) (ap (λ k. drop k lines) (sym is.lines) ∙ sym rest)));
      statement = statements.Market old.lines to read.market;
      deed = ap deeds_in item ∙ same_lists old.lines word (name_bytes to) is.block.form read.market.form (listing.matrix_of is.block) (matrix_of_market read.market)
          (sym bytes) (sym is.market.form) (sym (matrix_read is.block read.market sizes.square is.market));
      formed = market_good old.grid lines is.block read.market is.found is.market;
      statements = moved.statements;
      grid = moved.grid;
      room = omega (arith, ap length rest, length-drop read.lines lines, enough, moved.lines);
      later = omega (arith, moved.lines);
      shorter = omega (arith, ap length moved.rest, length-drop read.bytes old.rest.now);
    }

-- ---- A block that has a fault

abbrev begun_at : ℕ → List ℕ → Option (ℕ × List ℕ)
begun_at n name = Some (n, name)

pub block_stops : (line : List ℕ) (old : Reader) (word : List ℕ) (to : Name) (fault : MarketFault) (stop : Stop)
    → said_in (words_of line) ≡ Some (say.Market (word ∷ [])) → is_name word ≡ true → name_bytes to ≡ word
    → listing.block_in old.grid (lines_of old.rest.now) ≡ Err fault
    → stop ≡ record { begun = Some (record { line = old.lines; to = to }); fault = record { line = old.lines + fault.line; code = fault.code } }
    → IsStopped line old old stop
block_stops line old word to fault stop said name bytes found is =
    let lines = lines_of old.rest.now in
    let item : item_at line old ≡ Block old.lines word (Err fault) = block_item old.grid old.lines line word lines said name ∙ ap (Block old.lines word) found in
    rw is
    (record {
      here = record {
        fault = ap line_fault item;
        begun = ap begun_in item ∙ ap (begun_at old.lines) (sym bytes);
      };
      statements = refl;
      grid = refl;
    })
