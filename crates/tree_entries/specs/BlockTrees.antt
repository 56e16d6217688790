-- The trees of blocks that a caller of an engine holds, and their numbers other than 0.
use Rattle.std.specs.Prelude.{◌≡◌, ℕ, ◌≤◌, List, length, Option, Result, Ok, Err}
use Rattle.cht_io.specs.Bytes.{Adds, AddsFront}
use Rattle.cht_ids.specs.declared.refs.Id.{Id}
use Rattle.cht_ids.specs.declared.refs.Ref.TheVariants.{Id as Held}
use Rattle.task_types.specs.Tree.{Tree}
use Rattle.name_machine.specs.Paths.{tree_below}
use Rattle.mm_text.specs.declared.market.Cell.{Cell}
use Rattle.mm_text.specs.declared.market.Form.{Form}
use Rattle.mm_text.specs.declared.market.Form.TheVariants.{General, Symmetric}
use Rattle.mm_text.specs.Cells.{cells_listed}
use Rattle.mm_text.specs.Written.{text_of_cells}
use Rattle.cht_engine.specs.Seen.{Seen, tree_named}
use Rattle.quad_matrix.specs.declared.chunk.MatChunk.{MatChunk}
use Rattle.quad_matrix.specs.declared.kind.MatKind.{MatKind}
use Rattle.quad_matrix.specs.Blocks.{block_of, IsCanonical, IsCanonicalSymmetric}
use Rattle.tree_entries.specs.declared.unprinted.Unprinted.{Unprinted}

-- ---- Whole trees

-- the tree is the canonical tree of a block in a form, for leaves of side b and h levels above them
abbrev pub IsCanonicalIn : Form → ℕ → ℕ → Tree MatChunk → Type 0
IsCanonicalIn General b h tree = IsCanonical b h tree
IsCanonicalIn Symmetric b h tree = IsCanonicalSymmetric b h tree

-- the same for leaves of some side and some levels above them
pub record IsBlockTree (form : Form) (tree : Tree MatChunk) : Type 0 where
  pub leaf : ℕ
  pub height : ℕ
  pub leaf_low : 1 ≤ leaf
  pub leaf_high : leaf ≤ 64
  pub low : height ≤ 16
  pub canonical : IsCanonicalIn form leaf height tree

-- The cells are those by which a form lists the block of a tree, for each side of leaves and each number of levels for which the tree is
-- canonical.
abbrev pub AreEntriesOf : Form → Tree MatChunk → List Cell → Type 0
AreEntriesOf form tree cells = (b h : ℕ) → IsCanonicalIn form b h tree → cells ≡ cells_listed form (block_of b h tree)

-- the number is that of these cells
abbrev pub IsCountOf : Form → Tree MatChunk → ℕ → Type 0
IsCountOf form tree n = (b h : ℕ) → IsCanonicalIn form b h tree → n ≡ length (cells_listed form (block_of b h tree))

-- a text was written, or a front of it
abbrev pub IsWrittenAs : Result (Unit {0}) Unprinted → List ℕ → Option (List ℕ) → Option (List ℕ) → Type 0
IsWrittenAs (Ok done) text before after = Adds before text after
IsWrittenAs (Err why) text before after = AddsFront before text after

-- the text of these cells, in a matrix of that many rows and columns, was written, or a front of it
abbrev pub IsPrinted : Form → ℕ → ℕ → Tree MatChunk → Result (Unit {0}) Unprinted → Option (List ℕ) → Option (List ℕ) → Type 0
IsPrinted form rows columns tree answer before after =
    (b h : ℕ) → IsCanonicalIn form b h tree
    → IsWrittenAs answer (text_of_cells form rows columns (cells_listed form (block_of b h tree))) before after

-- ---- Parts of trees

-- the tree that is reached from an identifier by a path of child numbers
abbrev pub tree_reached : Seen MatChunk MatKind → Id → List ℕ → Tree MatChunk
tree_reached seen id path = tree_below (tree_named seen (Held id)) path
