-- What a read of a block answers: the block of the definition, or its fault.
use Rattle.std.specs.Prelude.{◌≡◌, ℕ, ◌+◌, ◌≤◌, List, length, drop, Ok, Err}
use Rattle.mm_text.specs.declared.market.Market.{Market}
use Rattle.mm_text.specs.declared.market.MarketRead.{MarketRead}
use Rattle.mm_text.specs.declared.market.MarketRefused.{MarketRefused}
use Rattle.mm_text.specs.declared.market.MarketRefused.TheVariants as refusals
use Rattle.mm_text.specs.Lines.{cut_lines, lines_of}
use Rattle.mm_text.specs.Block.{Block, block_in, matrix_of}
use Rattle.mm_text.specs.Cells.{cells_listed, entry_cells}

-- the market is the matrix of the block, as the cells by which its form lists it
pub record IsMarketOf (block : Block) (market : Market) : Type 0 where
  pub form : market.form ≡ block.form
  pub rows : market.rows ≡ block.sizes.rows
  pub columns : market.columns ≡ block.sizes.columns
  pub entries : entry_cells market.entries ≡ cells_listed block.form (matrix_of block)

-- The text begins with a block, and this is what was read of it: its matrix in the form of the text, how many lines it
-- takes, and how many bytes these lines take. What stands behind these bytes are the other lines.
pub record IsBlockRead (grid : ℕ) (text : List ℕ) (read : MarketRead) : Type 0 where
  pub block : Block
  pub found : block_in grid (lines_of text) ≡ Ok block
  pub market : IsMarketOf block read.market
  pub lines : read.lines ≡ block.lines
  pub within : read.bytes ≤ length text
  pub behind : cut_lines (drop read.bytes text) ≡ drop read.lines (cut_lines text)

-- a refusal of the text: the fault of the definition, or want of memory
abbrev pub IsBlockRefused : ℕ → List ℕ → MarketRefused → Type 0
IsBlockRefused grid text refusals.Memory = Unit {0}
IsBlockRefused grid text (refusals.Fault fault) = block_in grid (lines_of text) ≡ Err fault

-- the line of a fault is one of the text, or the line after its last
abbrev pub IsPlaced : List ℕ → MarketRefused → Type 0
IsPlaced text refusals.Memory = Unit {0}
IsPlaced text (refusals.Fault fault) = (1 ≤ fault.line) × (fault.line ≤ 1 + length (lines_of text))
