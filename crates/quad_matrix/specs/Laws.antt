-- The laws of quadtrees, as statements. The functions of `laws` carry each as their contract.
use Rattle.std.specs.Prelude.{◌≡◌, ℕ, suc, ◌*◌, ◌^◌, ◌≤◌, Bool, List, [], ◌∷◌, ℤ}
use Rattle.dense_def.specs.Matrix.{Matrix, IsMatrix, joined, transposed, completed, peak_of, IsSymmetric}
use Rattle.leaf_blocks.specs.Block.{IsBlock}
use Rattle.chunk_codec.specs.Spots.{side_of}
use Rattle.task_types.specs.Tree.{Tree, Nothing, Root, child}
use Rattle.task_types.specs.Sound.{HasFewInputs, AddsUp}
use Rattle.task_plans.specs.declared.plan.Part.{Part}
use Rattle.task_plans.specs.Portions.{AreSound}
use Rattle.quad_matrix.specs.declared.chunk.MatChunk.{MatChunk}
use Rattle.quad_matrix.specs.declared.chunk.Entries.{Entries}
use Rattle.quad_matrix.specs.declared.kind.What.{What}
use Rattle.quad_matrix.specs.Chunks.{arity_of, IsSoundChunk, peak_in}
use Rattle.quad_matrix.specs.Spots.{AreSoundEntries}
use Rattle.quad_matrix.specs.Blocks.{block_of, number_of, canonical, canonical_symmetric, number_tree, IsCanonical, IsCanonicalSymmetric, IsNumber}
use Rattle.quad_matrix.specs.Goals.{kind_of, goal_at, goal_of, FitsAt, IsOutput}
use Rattle.quad_matrix.specs.Products.{Turned, product_what, product_of, inner_size, InnerSizesAgree}
use Rattle.quad_matrix.specs.Portions.{portions_of, TakeMirrored}
use Rattle.quad_matrix.specs.Matrices.{matrices}

-- ---- Canonical trees

-- the canonical tree of a block stands for the block
abbrev pub CanonicalStands : Type 0
CanonicalStands = (b h : ℕ) (m : Matrix) → IsBlock (side_of b h) m → block_of b h (canonical b h m) ≡ m

-- and is canonical
abbrev pub CanonicalIsSo : Type 0
CanonicalIsSo = (b h : ℕ) (m : Matrix) → IsBlock (side_of b h) m → IsCanonical b h (canonical b h m)

-- canonical trees of one block are one
abbrev pub CanonicalIsOnly : Type 0
CanonicalIsOnly =
    (b h : ℕ) (one other : Tree MatChunk) → IsCanonical b h one → IsCanonical b h other → block_of b h one ≡ block_of b h other
    → one ≡ other

-- nothing is canonical
abbrev pub NothingIsCanonical : Type 0
NothingIsCanonical = (b h : ℕ) → IsCanonical b h Nothing

-- the children of a canonical tree are canonical
abbrev pub ChildrenAreCanonical : Type 0
ChildrenAreCanonical = (b h : ℕ) (tree : Tree MatChunk) → IsCanonical b (suc h) tree → (q : ℕ) → IsCanonical b h (child tree q)

-- and their blocks are the quadrants of its block
abbrev pub ChildrenAreQuadrants : Type 0
ChildrenAreQuadrants =
    (b h : ℕ) (tree : Tree MatChunk) → IsCanonical b (suc h) tree
    → block_of b (suc h) tree ≡ joined (block_of b h (child tree 0)) (block_of b h (child tree 1)) (block_of b h (child tree 2)) (block_of b h (child tree 3))

-- the peak in the root of a canonical tree is the peak of its block
abbrev pub RootHasPeak : Type 0
RootHasPeak =
    (b h : ℕ) (content : MatChunk) (x y z w : Tree MatChunk) → IsCanonical b h (Root content x y z w)
    → peak_in content ≡ peak_of (block_of b h (Root content x y z w))

-- ---- Canonical symmetric trees

-- the canonical symmetric tree of a symmetric block stands for the block
abbrev pub SymmetricStands : Type 0
SymmetricStands =
    (b h : ℕ) (m : Matrix) → IsBlock (side_of b h) m → IsSymmetric m → block_of b h (canonical_symmetric b h m) ≡ m

-- and is canonical
abbrev pub SymmetricIsSo : Type 0
SymmetricIsSo =
    (b h : ℕ) (m : Matrix) → IsBlock (side_of b h) m → IsSymmetric m → IsCanonicalSymmetric b h (canonical_symmetric b h m)

-- canonical symmetric trees of one block are one
abbrev pub SymmetricIsOnly : Type 0
SymmetricIsOnly =
    (b h : ℕ) (one other : Tree MatChunk) → IsCanonicalSymmetric b h one → IsCanonicalSymmetric b h other
    → block_of b h one ≡ block_of b h other → one ≡ other

-- nothing is canonical in this form too
abbrev pub NothingIsSymmetric : Type 0
NothingIsSymmetric = (b h : ℕ) → IsCanonicalSymmetric b h Nothing

-- the children on the diagonal are canonical symmetric trees, the one between them is a canonical tree, and there is no fourth one
abbrev pub SymmetricChildren : Type 0
SymmetricChildren =
    (b h : ℕ) (tree : Tree MatChunk) → IsCanonicalSymmetric b (suc h) tree
    → IsCanonicalSymmetric b h (child tree 0) × IsCanonical b h (child tree 1) × IsCanonicalSymmetric b h (child tree 2)
    × (child tree 3 ≡ Nothing)

-- their blocks are the quadrants of its block, of which the lower left one is the transpose of the upper right one
abbrev pub SymmetricQuadrants : Type 0
SymmetricQuadrants =
    (b h : ℕ) (tree : Tree MatChunk) → IsCanonicalSymmetric b (suc h) tree
    → block_of b (suc h) tree
    ≡ joined (block_of b h (child tree 0)) (block_of b h (child tree 1)) (transposed (block_of b h (child tree 1))) (block_of b h (child tree 2))

-- the peak in the root of a canonical symmetric tree is the peak of its block
abbrev pub SymmetricRootHasPeak : Type 0
SymmetricRootHasPeak =
    (b h : ℕ) (content : MatChunk) (x y z w : Tree MatChunk) → IsCanonicalSymmetric b h (Root content x y z w)
    → peak_in content ≡ peak_of (block_of b h (Root content x y z w))

-- ---- Numbers

-- the tree of a number stands for it
abbrev pub NumberStands : Type 0
NumberStands = (n : ℤ) → number_of (number_tree n) ≡ n

-- trees of one number are one
abbrev pub NumberIsOnly : Type 0
NumberIsOnly = (one other : Tree MatChunk) → IsNumber one → IsNumber other → number_of one ≡ number_of other → one ≡ other

-- ---- Goals and works

-- the goal of a kind is a canonical tree, or the tree of a number
abbrev pub GoalsAreCanonical : Type 0
GoalsAreCanonical =
    (b : ℕ) (what : What) (h : ℕ) (trees : List (Tree MatChunk)) → FitsAt b what h trees → IsOutput b what h (goal_at b what h trees)

-- the goal of a kind is the one at each side of the leaves at which the trees fit
abbrev pub GoalsHaveNoSide : Type 0
GoalsHaveNoSide =
    (b : ℕ) (what : What) (h : ℕ) (trees : List (Tree MatChunk)) → FitsAt b what h trees
    → goal_of (kind_of what h) trees ≡ goal_at b what h trees

-- The goal of a product is defined on the trees of two matrices completed by zeros, where the inner size of the matrices themselves
-- times both peaks is at most 2 ^ 126.
abbrev pub ProductFitsByPeaks : Type 0
ProductFitsByPeaks =
    (b h : ℕ) (turned : Turned) (x y : Tree MatChunk) (m n : Matrix) → IsCanonical b h x → IsCanonical b h y
    → block_of b h x ≡ completed (side_of b h) m → block_of b h y ≡ completed (side_of b h) n
    → IsMatrix m → IsMatrix n → InnerSizesAgree turned m n → inner_size turned m ≤ side_of b h
    → inner_size turned m * peak_of m * peak_of n ≤ 2 ^ 126
    → FitsAt b (product_what turned) h (x ∷ y ∷ [])

-- where it is defined, the goal of a product is the tree of the product completed by zeros
abbrev pub ProductStands : Type 0
ProductStands =
    (b h : ℕ) (turned : Turned) (x y : Tree MatChunk) (m n : Matrix) → FitsAt b (product_what turned) h (x ∷ y ∷ [])
    → block_of b h x ≡ completed (side_of b h) m → block_of b h y ≡ completed (side_of b h) n
    → IsMatrix m → IsMatrix n → InnerSizesAgree turned m n → inner_size turned m ≤ side_of b h
    → IsCanonical b h (goal_at b (product_what turned) h (x ∷ y ∷ []))
    × (block_of b h (goal_at b (product_what turned) h (x ∷ y ∷ [])) ≡ completed (side_of b h) (product_of turned m n))

-- goals are defined for at most four inputs
abbrev pub GoalsHaveFewInputs : Type 0
GoalsHaveFewInputs = HasFewInputs matrices

-- works add up: at a sound outcome the work of a kind is one more than those of the new tasks
abbrev pub WorksAddUp : Type 0
WorksAddUp = AddsUp arity_of matrices

-- ---- Portions

-- the portions of a sound list are sound, where parts take only portions on the diagonal as upper triangles
abbrev pub PortionsAreSound : Type 0
PortionsAreSound =
    (b h : ℕ) (mirrored : Bool) (entries : Entries) (parts : List (Part What)) → AreSoundEntries b (suc h) mirrored entries
    → TakeMirrored mirrored parts → AreSound IsSoundChunk (portions_of entries parts)
