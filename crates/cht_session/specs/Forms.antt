-- Matrices in the general and in the symmetric form: their trees, the tasks that verbs ask for them, and the lists of their entries.
use Rattle.std.specs.Prelude.{◌≡◌, ℕ, ◌≤◌, ◌==◌, Bool, true, false, if◌then◌else◌, List, [], ◌∷◌, Option, None, Some}
use Rattle.dense_def.specs.Matrix.{Matrix, height, peak_of, IsMatrix, completed}
use Rattle.chunk_codec.specs.Spots.{side_of}
use Rattle.task_types.specs.Tree.{Tree}
use Rattle.quad_matrix.specs.declared.chunk.MatChunk.{MatChunk}
use Rattle.quad_matrix.specs.declared.chunk.Entries.{Entries}
use Rattle.quad_matrix.specs.declared.kind.What.{What}
use Rattle.quad_matrix.specs.declared.kind.What.TheVariants as what
use Rattle.quad_matrix.specs.Spots.{AreSoundEntries, block_listed}
use Rattle.quad_matrix.specs.Blocks.{block_of, canonical, canonical_symmetric}
use Rattle.quad_matrix.specs.Works.{assign_work, symmetric_assign_work}
use Rattle.mm_text.specs.declared.market.Form.{Form}
use Rattle.mm_text.specs.declared.market.Form.TheVariants.{General, Symmetric}
use Rattle.tree_entries.specs.BlockTrees.{IsCanonicalIn}
use Rattle.cht_script.specs.declared.checked.Shape.{Shape}
use Rattle.cht_script.specs.declared.script.Verb.{Verb}
use Rattle.cht_script.specs.declared.script.Verb.TheVariants.{Copy, Add, Mul, TMul, MulT, Square, Full, Trace, Count, Print, Delete}
use Rattle.cht_script.specs.Statements.{is_symmetric}

-- ---- Trees

-- the tree of a matrix in a form: the canonical tree of the matrix completed by zeros, with leaves of side b and h levels above them
abbrev pub tree_in : Form → ℕ → ℕ → Matrix → Tree MatChunk
tree_in General b h m = canonical b h (completed (side_of b h) m)
tree_in Symmetric b h m = canonical_symmetric b h (completed (side_of b h) m)

-- the tree is canonical in its form, and its block is this matrix completed by zeros
pub record IsTreeIn (form : Form) (b h : ℕ) (m : Matrix) (tree : Tree MatChunk) : Type 0 where
  pub canonical : IsCanonicalIn form b h tree
  pub block : block_of b h tree ≡ completed (side_of b h) m

-- a matrix that is no larger than the blocks, as high as it is wide in the symmetric form, and has a tree in its form
pub record IsSoundIn (form : Form) (b h : ℕ) (m : Matrix) : Type 0 where
  pub whole : IsMatrix m
  pub rows : height m ≤ side_of b h
  pub columns : m.columns ≤ side_of b h
  pub formed : form ≡ Symmetric → height m ≡ m.columns
  pub tree : IsTreeIn form b h m (tree_in form b h m)

-- the shape of a matrix in a form
abbrev pub shape_of : Form → Matrix → Shape
shape_of form m = record { rows = height m; columns = m.columns; form = form }

-- ---- What verbs ask

-- what adds two matrices in a form
abbrev pub sum_asked : Form → What
sum_asked General = what.Add
sum_asked Symmetric = what.SAdd

-- what multiplies two matrices in these forms, of which one at most is symmetric
abbrev pub product_asked : Form → Form → What
product_asked General General = what.Mul
product_asked General Symmetric = what.MulS
product_asked Symmetric form = what.SMul

-- what sums the diagonal of a matrix in a form
abbrev pub trace_asked : Form → What
trace_asked General = what.Trace
trace_asked Symmetric = what.STrace

-- What a verb asks for inputs in these forms; the second is not looked at where there is one input. A verb that asks no task has a sum here,
-- which nobody asks.
abbrev pub what_asked : Verb → Form → Form → What
what_asked Copy f g = what.Add
what_asked Add f g = sum_asked f
what_asked Mul f g = product_asked f g
what_asked TMul f g = what.TMul
what_asked MulT f g = what.MulT
what_asked Square f g = what.Square
what_asked Full f g = what.Full
what_asked Trace f g = trace_asked f
what_asked Count f g = what.Add
what_asked Print f g = what.Add
what_asked Delete f g = what.Add

-- the inputs of what a verb asks, of its first and its second one; none where it asks nothing
abbrev pub inputs_asked : {X : Type 0} → Verb → X → X → List X
inputs_asked Copy x y = []
inputs_asked Add x y = x ∷ y ∷ []
inputs_asked Mul x y = x ∷ y ∷ []
inputs_asked TMul x y = x ∷ y ∷ []
inputs_asked MulT x y = x ∷ y ∷ []
inputs_asked Square x y = x ∷ []
inputs_asked Full x y = x ∷ []
inputs_asked Trace x y = x ∷ []
inputs_asked Count x y = []
inputs_asked Print x y = []
inputs_asked Delete x y = []

-- whether a verb asks for a matrix
abbrev pub asks_matrix : Verb → Bool
asks_matrix Copy = false
asks_matrix Add = true
asks_matrix Mul = true
asks_matrix TMul = true
asks_matrix MulT = true
asks_matrix Square = true
asks_matrix Full = true
asks_matrix Trace = false
asks_matrix Count = false
asks_matrix Print = false
asks_matrix Delete = false

-- ---- Lists

-- what makes the tree of a list of entries
abbrev pub what_listed : Form → What
what_listed General = what.Assign
what_listed Symmetric = what.SAssign

-- the work of it, by the block that the list stands for
abbrev pub list_work : Form → ℕ → ℕ → Matrix → ℕ
list_work General b h m = assign_work b h m
list_work Symmetric b h m = symmetric_assign_work b h m

-- the work for a matrix that is listed in a form: none where all its numbers are 0
abbrev pub work_listed : Form → ℕ → ℕ → Matrix → ℕ
work_listed form b h m = if peak_of m == 0 then 0 else list_work form b h (completed (side_of b h) m)

-- the entries of a matrix as a list in a form, or none where all its numbers are 0
abbrev pub IsListIn : Form → ℕ → ℕ → Matrix → Option Entries → Type 0
IsListIn form b h m None = peak_of m ≡ 0
IsListIn form b h m (Some entries) =
    AreSoundEntries b h (is_symmetric form) entries
    × (block_listed (is_symmetric form) (side_of b h) entries.list ≡ completed (side_of b h) m)
