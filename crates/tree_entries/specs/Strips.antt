-- The leaf blocks of a tree, strip by strip. A strip is a row of leaf blocks, its pieces are those that are not zero, from left to right, and
-- strips count from 0.
use Rattle.std.specs.Prelude.{◌≡◌, ℕ, zero, suc, ◌+◌, ◌-◌, ◌*◌, ◌/◌, ◌%◌, ◌^◌, ◌<◌, ◌≤◌, Bool, true, false, ◌==◌, if◌then◌else◌, List, [], ◌∷◌, ◌++◌, length, slice_index_or, All, Some, ℤ, pos}
use Rattle.std.specs.List.{flat_map}
use Rattle.dense_def.specs.Matrix.{height, entry, tabulate}
use Rattle.task_types.specs.Tree.{Tree, Nothing, Root, child}
use Rattle.name_machine.specs.Paths.{root_content}
use Rattle.mm_text.specs.declared.market.Cell.{Cell}
use Rattle.mm_text.specs.Cells.{cells_of_row}
use Rattle.quad_matrix.specs.declared.chunk.MatChunk.{MatChunk}
use Rattle.quad_matrix.specs.declared.chunk.MatChunk.TheVariants.{Leaf, Node, SymLeaf, SymNode, Entries, Num}
use Rattle.tree_entries.specs.declared.place.Place.{Place}
use Rattle.tree_entries.specs.declared.piece.Piece.{Piece}
use Rattle.tree_entries.specs.declared.strips.Strips.{Strips}

-- ---- Strips of pieces

-- the pieces of a strip, and none past the last strip
abbrev pub strip_at : List (List Piece) → ℕ → List Piece
strip_at strips s = slice_index_or strips s []

-- a piece in its strip, and nothing in each other one
abbrev pub only_in : ℕ → Piece → ℕ → List Piece
only_in strip piece s = if s == strip then piece ∷ [] else []

-- each strip has more pieces at its end
pub record IsGathered (before after : List (List Piece)) (more : ℕ → List Piece) : Type 0 where
  pub long : length after ≡ length before
  pub each : (s : ℕ) → strip_at after s ≡ strip_at before s ++ more s

-- ---- The pieces of a tree

-- The pieces of a tree in strip s, where so many strips stand above its block, and so many leaf blocks to the left of it. Where the block stands
-- turned, its transpose stands there, so that the second and the third quadrant change places. Of a symmetric block the pieces are those
-- on and below the diagonal: below it stands its second quadrant, turned.
abbrev pub part : Bool → ℕ → ℕ → Tree MatChunk → ℕ → List Piece
part turned above left Nothing s = []
part turned above left (Root (Leaf m) a b c d) s = only_in above (record { content = Leaf m; left = left; turned = turned }) s
part turned above left (Root (SymLeaf m) a b c d) s = only_in above (record { content = SymLeaf m; left = left; turned = turned }) s
part false above left (Root (Node k peak) a b c d) s =
    part false above left a s ++ part false above (left + 2 ^ (k - 1)) b s
    ++ part false (above + 2 ^ (k - 1)) left c s ++ part false (above + 2 ^ (k - 1)) (left + 2 ^ (k - 1)) d s
part true above left (Root (Node k peak) a b c d) s =
    part true above left a s ++ part true above (left + 2 ^ (k - 1)) c s
    ++ part true (above + 2 ^ (k - 1)) left b s ++ part true (above + 2 ^ (k - 1)) (left + 2 ^ (k - 1)) d s
part turned above left (Root (SymNode k peak) a b c d) s =
    part false above left a s ++ part true (above + 2 ^ (k - 1)) left b s ++ part false (above + 2 ^ (k - 1)) (left + 2 ^ (k - 1)) c s
part turned above left (Root (Entries entries) a b c d) s = []
part turned above left (Root (Num n) a b c d) s = []

-- the number of the quadrant that stands in the upper right of a block, and of that in its lower left
abbrev pub upper_child : Bool → ℕ
upper_child false = 1
upper_child true = 2

abbrev pub lower_child : Bool → ℕ
lower_child false = 2
lower_child true = 1

-- the pieces of a node from those of its children, where its quadrants are of so many leaf blocks in each direction
abbrev pub quadrants_part : Bool → ℕ → ℕ → ℕ → Tree MatChunk → ℕ → List Piece
quadrants_part turned half above left tree s =
    part turned above left (child tree 0) s ++ part turned above (left + half) (child tree (upper_child turned)) s
    ++ part turned (above + half) left (child tree (lower_child turned)) s ++ part turned (above + half) (left + half) (child tree 3) s

-- the same of a symmetric node
abbrev pub symmetric_part : ℕ → ℕ → ℕ → Tree MatChunk → ℕ → List Piece
symmetric_part half above left tree s =
    part false above left (child tree 0) s ++ part true (above + half) left (child tree 1) s
    ++ part false (above + half) (left + half) (child tree 2) s

-- ---- Heights

-- The nodes of a tree tell how many levels stand below them, and there are h levels below its root.
abbrev pub HasLevels : ℕ → Tree MatChunk → Type 0
HasLevels h Nothing = Unit {0}
HasLevels h (Root (Leaf m) a b c d) = h ≡ 0
HasLevels h (Root (Node k peak) a b c d) =
    (low : ℕ) × (h ≡ suc low) × (k ≡ h) × HasLevels low a × HasLevels low b × HasLevels low c × HasLevels low d
HasLevels h (Root (SymLeaf m) a b c d) = h ≡ 0
HasLevels h (Root (SymNode k peak) a b c d) =
    (low : ℕ) × (h ≡ suc low) × (k ≡ h) × HasLevels low a × HasLevels low b × HasLevels low c × HasLevels low d
HasLevels h (Root (Entries entries) a b c d) = h ≡ 0
HasLevels h (Root (Num n) a b c d) = h ≡ 0

-- how many levels a content tells
abbrev pub levels_in : MatChunk → ℕ
levels_in (Leaf m) = 0
levels_in (Node k peak) = k
levels_in (SymLeaf m) = 0
levels_in (SymNode k peak) = k
levels_in (Entries entries) = 0
levels_in (Num n) = 0

-- how many levels the root of a tree tells
abbrev pub levels_of : Tree MatChunk → ℕ
levels_of Nothing = 0
levels_of (Root content a b c d) = levels_in content

-- the tree has at most 16 levels, and its nodes tell them
pub record AreLevels (tree : Tree MatChunk) : Type 0 where
  pub low : levels_of tree ≤ 16
  pub told : HasLevels (levels_of tree) tree

-- A tree so many levels down a tree of at most 16 levels, whose block stands within so many strips, and within 2 ^ 16 leaf blocks from left
-- to right.
pub record IsPlaced (strips depth : ℕ) (at : Place) (tree : Tree MatChunk) : Type 0 where
  pub height : ℕ
  pub levels : HasLevels height tree
  pub deep : depth + height ≤ 16
  pub above : at.above + 2 ^ height ≤ strips
  pub left : at.left + 2 ^ height ≤ 2 ^ 16
  pub few : strips ≤ 2 ^ 16

-- the same of a node, with so many levels below it
pub record IsPlacedNode (strips depth height : ℕ) (at : Place) (tree : Tree MatChunk) : Type 0 where
  pub high : 1 ≤ height
  pub levels : (j : ℕ) → HasLevels (height - 1) (child tree j)
  pub deep : depth + height ≤ 16
  pub above : at.above + 2 ^ height ≤ strips
  pub left : at.left + 2 ^ height ≤ 2 ^ 16
  pub few : strips ≤ 2 ^ 16

-- ---- The cells of a strip

-- the side of a leaf
abbrev pub side_in : MatChunk → ℕ
side_in (Leaf m) = height m
side_in (Node k peak) = 0
side_in (SymLeaf m) = height m
side_in (SymNode k peak) = 0
side_in (Entries entries) = 0
side_in (Num n) = 0

-- how many numbers of row r a leaf of side b has in it: all, or of a symmetric leaf those on and below the diagonal
abbrev pub width_in : ℕ → ℕ → MatChunk → ℕ
width_in b r (Leaf m) = b
width_in b r (Node k peak) = 0
width_in b r (SymLeaf m) = r + 1
width_in b r (SymNode k peak) = 0
width_in b r (Entries entries) = 0
width_in b r (Num n) = 0

-- the number in a place of a leaf, or of its transpose
abbrev pub number_in : Bool → MatChunk → ℕ → ℕ → ℤ
number_in false (Leaf m) i j = entry m i j
number_in true (Leaf m) i j = entry m j i
number_in turned (Node k peak) i j = pos 0
number_in turned (SymLeaf m) i j = entry m i j
number_in turned (SymNode k peak) i j = pos 0
number_in turned (Entries entries) i j = pos 0
number_in turned (Num n) i j = pos 0

-- the first numbers of row r of a piece
abbrev pub line_front : ℕ → Piece → ℕ → List ℤ
line_front n piece r = tabulate n (λ j. number_in piece.turned piece.content r j)

-- the cells of row r of a piece with leaves of side b, in row `number` of the matrix
abbrev pub piece_cells : ℕ → ℕ → ℕ → Piece → List Cell
piece_cells b r number piece = cells_of_row number (piece.left * b + 1) (line_front (width_in b r piece.content) piece r)

-- those of the pieces of a strip, from left to right
abbrev pub strip_cells : ℕ → ℕ → ℕ → List Piece → List Cell
strip_cells b r number pieces = flat_map (piece_cells b r number) pieces

-- the cells of row n of the matrix, counted from 0
abbrev pub row_listed : ℕ → List (List Piece) → ℕ → List Cell
row_listed b strips n = strip_cells b (n % b) (n + 1) (strip_at strips (n / b))

-- the n lists f 0, f 1, .. f (n - 1), one behind the other
abbrev pub lists_below : ℕ → (ℕ → List Cell) → List Cell
lists_below zero f = []
lists_below (suc n) f = f 0 ++ lists_below n (λ i. f (suc i))

-- the cells of all rows
abbrev pub all_listed : Strips → List Cell
all_listed strips = lists_below (length strips.strips.items * strips.side) (row_listed strips.side strips.strips.items)

-- ---- Strips that can be read

-- a piece is a leaf of that side, and stands within 2 ^ 16 leaf blocks from left to right
pub record Fits (b : ℕ) (piece : Piece) : Type 0 where
  pub side : side_in piece.content ≡ b
  pub left : piece.left < 2 ^ 16

-- all pieces have the side of the strips, which is at most 64, and there are at most 2 ^ 16 strips
pub record IsReadable (strips : Strips) : Type 0 where
  pub small : strips.side ≤ 64
  pub few : length strips.strips.items ≤ 2 ^ 16
  pub fit : (s : ℕ) → All (Fits strips.side) (strip_at strips.strips.items s)

-- the side of the first piece, and 0 where there is none
abbrev pub first_side : List (List Piece) → ℕ
first_side [] = 0
first_side ([] ∷ strips) = first_side strips
first_side ((piece ∷ pieces) ∷ strips) = side_in piece.content

-- they are the strips of a tree
pub record AreStripsOf (tree : Tree MatChunk) (strips : Strips) : Type 0 where
  pub side : strips.side ≡ first_side strips.strips.items
  pub few : length strips.strips.items ≤ 2 ^ 16
  pub all : (content : MatChunk) → Some content ≡ root_content tree → length strips.strips.items ≡ 2 ^ levels_of tree
  pub each : (s : ℕ) → strip_at strips.strips.items s ≡ part false 0 0 tree s
