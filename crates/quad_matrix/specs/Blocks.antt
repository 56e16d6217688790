-- What trees stand for, and the canonical trees of blocks and numbers.
use Rattle.std.specs.Prelude.{◌≡◌, ℕ, zero, suc, ◌-◌, ◌^◌, ◌≤◌, max, ◌==◌, if◌then◌else◌, List, [], ◌∷◌, ℤ, pos, unsigned_abs}
use Rattle.dense_def.specs.Matrix.{Matrix, height, block, joined, transposed, zeros, peak_of, IsSymmetric}
use Rattle.leaf_blocks.specs.Block.{IsBlock}
use Rattle.task_types.specs.Tree.{Tree, Nothing, Root, tree_value}
use Rattle.quad_matrix.specs.declared.chunk.MatChunk.{MatChunk}
use Rattle.quad_matrix.specs.declared.chunk.MatChunk.TheVariants.{Leaf, Node, SymLeaf, SymNode, Entries, Num}
use Rattle.chunk_codec.specs.Spots.{side_of}
use Rattle.quad_matrix.specs.Spots.{block_listed}

-- ---- What trees stand for

-- What a tree stands for: a block, for leaves of side b and h levels above them, and a number.
pub record MatValue : Type 0 where
  pub block : ℕ → ℕ → Matrix
  pub number : ℤ

-- nothing stands for the zero block of each size, and for 0
abbrev pub no_value : MatValue
no_value = record { block = λ b h. zeros (side_of b h) (side_of b h); number = pos 0 }

-- what stands for a block alone
abbrev pub a_block : (ℕ → ℕ → Matrix) → MatValue
a_block m = record { block = m; number = pos 0 }

-- what a content stands for, given what its children stand for: a node joins its four quadrants, and a symmetric node its three and the
-- transpose of the second one
abbrev pub stands : MatChunk → List MatValue → MatValue
stands (Leaf m) values = a_block (λ b h. m)
stands (Node k peak) (x ∷ y ∷ z ∷ w ∷ []) =
    a_block (λ b h. joined (x.block b (h - 1)) (y.block b (h - 1)) (z.block b (h - 1)) (w.block b (h - 1)))
stands (Node k peak) values = no_value
stands (SymLeaf m) values = a_block (λ b h. m)
stands (SymNode k peak) (x ∷ y ∷ z ∷ w ∷ []) =
    a_block (λ b h. joined (x.block b (h - 1)) (y.block b (h - 1)) (transposed (y.block b (h - 1))) (z.block b (h - 1)))
stands (SymNode k peak) values = no_value
stands (Entries entries) values = a_block (λ b h. block_listed entries.symmetric (side_of b h) entries.list)
stands (Num n) values = record no_value { number = n }

-- what a tree stands for
abbrev pub value : Tree MatChunk → MatValue
value tree = tree_value no_value stands tree

-- the block of a tree with leaves of side b and h levels above them
abbrev pub block_of : ℕ → ℕ → Tree MatChunk → Matrix
block_of b h tree = (value tree).block b h

-- the number of a tree
abbrev pub number_of : Tree MatChunk → ℤ
number_of tree = (value tree).number

-- ---- Quadrants

-- the upper left quadrant of a matrix, where a quadrant has so many rows and columns
abbrev pub upper_left : ℕ → Matrix → Matrix
upper_left half m = block m 0 0 half half

-- the upper right one
abbrev pub upper_right : ℕ → Matrix → Matrix
upper_right half m = block m 0 half half half

-- the lower left one
abbrev pub lower_left : ℕ → Matrix → Matrix
lower_left half m = block m half 0 half half

-- the lower right one
abbrev pub lower_right : ℕ → Matrix → Matrix
lower_right half m = block m half half half half

-- ---- Canonical trees

-- a content without children
abbrev pub alone : MatChunk → Tree MatChunk
alone content = Root content Nothing Nothing Nothing Nothing

-- The canonical tree of a block with leaves of side b and h levels above them: nothing where the block is zero, else a
-- leaf, or a node with the block's peak over the canonical trees of its quadrants.
abbrev pub canonical : ℕ → ℕ → Matrix → Tree MatChunk
canonical b zero m = if peak_of m == 0 then Nothing else alone (Leaf m)
canonical b (suc h) m =
    if peak_of m == 0 then Nothing
    else
    Root (Node (suc h) (peak_of m))
    (canonical b h (upper_left (side_of b h) m)) (canonical b h (upper_right (side_of b h) m))
    (canonical b h (lower_left (side_of b h) m)) (canonical b h (lower_right (side_of b h) m))

-- The canonical symmetric tree of a symmetric block: nothing where the block is zero, else a symmetric leaf, or a symmetric node with the
-- block's peak over the canonical symmetric trees of the quadrants on the diagonal, and the canonical tree of the upper right one between
-- them.
abbrev pub canonical_symmetric : ℕ → ℕ → Matrix → Tree MatChunk
canonical_symmetric b zero m = if peak_of m == 0 then Nothing else alone (SymLeaf m)
canonical_symmetric b (suc h) m =
    if peak_of m == 0 then Nothing
    else
    Root (SymNode (suc h) (peak_of m))
    (canonical_symmetric b h (upper_left (side_of b h) m)) (canonical b h (upper_right (side_of b h) m))
    (canonical_symmetric b h (lower_right (side_of b h) m)) Nothing

-- the canonical tree of a number: nothing for 0
abbrev pub number_tree : ℤ → Tree MatChunk
number_tree n = if unsigned_abs n == 0 then Nothing else alone (Num n)

-- the tree is the canonical tree of its block, whose numbers are at most 2 ^ 126 in absolute value
pub record IsCanonical (b h : ℕ) (tree : Tree MatChunk) : Type 0 where
  pub sized : IsBlock (side_of b h) (block_of b h tree)
  pub same : tree ≡ canonical b h (block_of b h tree)

-- the tree is the canonical symmetric tree of its block, which is symmetric, and whose numbers are at most 2 ^ 126 in absolute value
pub record IsCanonicalSymmetric (b h : ℕ) (tree : Tree MatChunk) : Type 0 where
  pub sized : IsBlock (side_of b h) (block_of b h tree)
  pub symmetric : IsSymmetric (block_of b h tree)
  pub same : tree ≡ canonical_symmetric b h (block_of b h tree)

-- the tree is the canonical tree of its number, which is at most 2 ^ 126 in absolute value
pub record IsNumber (tree : Tree MatChunk) : Type 0 where
  pub small : unsigned_abs (number_of tree) ≤ 2 ^ 126
  pub same : tree ≡ number_tree (number_of tree)

-- ---- The side of the leaves

-- the side of the leaves of a tree, and 0 where it has none
abbrev pub leaf_of : Tree MatChunk → ℕ
leaf_of Nothing = 0
leaf_of (Root (Leaf m) a b c d) = height m
leaf_of (Root (Node k peak) a b c d) = max (max (leaf_of a) (leaf_of b)) (max (leaf_of c) (leaf_of d))
leaf_of (Root (SymLeaf m) a b c d) = height m
leaf_of (Root (SymNode k peak) a b c d) = max (max (leaf_of a) (leaf_of b)) (max (leaf_of c) (leaf_of d))
leaf_of (Root (Entries entries) a b c d) = entries.leaf
leaf_of (Root (Num n) a b c d) = 0

-- the side of the leaves of some trees, and 0 where they have none
abbrev pub leaf_in : List (Tree MatChunk) → ℕ
leaf_in [] = 0
leaf_in (tree ∷ trees) = max (leaf_of tree) (leaf_in trees)
