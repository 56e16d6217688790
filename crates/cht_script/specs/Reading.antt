-- Statements and shapes as they were read.
use Rattle.std.specs.Prelude.{◌≡◌, ℕ, ◌*◌, ◌^◌, ◌<◌, ◌≤◌, List, [], ◌∷◌, take}
use Rattle.dense_def.specs.Matrix.{Matrix}
use Rattle.mm_text.specs.declared.market.Market.{Market}
use Rattle.mm_text.specs.declared.market.Form.TheVariants.{Symmetric}
use Rattle.mm_text.specs.Block.{matrix_listed}
use Rattle.mm_text.specs.Cells.{cells_listed, entry_cells}
use Rattle.cht_script.specs.declared.checked.Shape.{Shape}
use Rattle.cht_script.specs.declared.checked.Shapes.{Shapes}
use Rattle.cht_script.specs.declared.script.Name.{Name}
use Rattle.cht_script.specs.declared.script.Names.{Names}
use Rattle.cht_script.specs.declared.script.Statement as statement
use Rattle.cht_script.specs.declared.script.Statement.TheVariants as statements
use Rattle.cht_script.specs.Statements.{names_after}
use Rattle.cht_script.specs.Meaning.{Deed, Lists, Acts}

-- ---- Names and shapes

-- the bytes of a name
abbrev pub name_bytes : Name → List ℕ
name_bytes name = take name.len name.bytes

-- the first `count` names, at most three
abbrev pub names_of : Names → List (List ℕ)
names_of names = take names.count (name_bytes names.first ∷ name_bytes names.second ∷ name_bytes names.third ∷ [])

-- the first `count` shapes, at most three
abbrev pub shapes_of : Shapes → List Shape
shapes_of shapes = take shapes.count (shapes.first ∷ shapes.second ∷ shapes.third ∷ [])

-- names past `count` repeat the first
pub record RepeatFirst (names : Names) : Type 0 where
  pub second : names.count ≤ 1 → names.second ≡ names.first
  pub third : names.count ≤ 2 → names.third ≡ names.first

-- shapes past `count` repeat the first
pub record RepeatFirstShape (shapes : Shapes) : Type 0 where
  pub second : shapes.count ≤ 1 → shapes.second ≡ shapes.first
  pub third : shapes.count ≤ 2 → shapes.third ≡ shapes.first

-- ---- Statements

-- the matrix that the entries that were read list
abbrev pub matrix_of_market : Market → Matrix
matrix_of_market market = matrix_listed market.form market.rows market.columns market.entries

-- a statement that was read, as the statement that it is
abbrev pub deed_of : statement.Statement → Deed
deed_of (statements.Market line to market) = Lists line (name_bytes to) market.form (matrix_of_market market)
deed_of (statements.Act line verb names) = Acts line verb (names_of names)

-- a matrix within the grid, square where its form is symmetric, whose entries are the numbers other than 0 that its form lists,
-- row by row
pub record IsGoodMarket (grid : ℕ) (market : Market) : Type 0 where
  pub rows : (1 ≤ market.rows) × (market.rows ≤ grid)
  pub columns : (1 ≤ market.columns) × (market.columns ≤ grid)
  pub square : market.form ≡ Symmetric → market.rows ≡ market.columns
  pub entries : entry_cells market.entries ≡ cells_listed market.form (matrix_of_market market)

-- the shape of such a matrix
abbrev pub shape_of_market : Market → Shape
shape_of_market market = record { rows = market.rows; columns = market.columns; form = market.form }

-- a statement as it is kept: its matrix is good, or it has as many names as belong to its verb, and those past them repeat the
-- first
abbrev pub IsFormed : ℕ → statement.Statement → Type 0
IsFormed grid (statements.Market line to market) = IsGoodMarket grid market
IsFormed grid (statements.Act line verb names) = (names.count ≡ names_after verb) × RepeatFirst names

-- each of these statements is so
abbrev pub AreFormed : ℕ → List statement.Statement → Type 0
AreFormed grid [] = Unit {0}
AreFormed grid (one ∷ others) = IsFormed grid one × AreFormed grid others

-- ---- Levels

-- h is the least number of levels with which leaves of side b reach the grid
pub record IsLeastHeight (grid b h : ℕ) : Type 0 where
  pub enough : grid ≤ b * 2 ^ h
  pub least : (k : ℕ) → k < h → b * 2 ^ k < grid
