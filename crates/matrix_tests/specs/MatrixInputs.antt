-- What the inputs of the tests show: canonical trees with leaves of side 1, and numbers, none of them large.
use Rattle.std.specs.Prelude.{◌≡◌, ℕ, ◌^◌, ◌≤◌, Bool, true, false, ◌||◌, if◌then◌else◌, unsigned_abs}
use Rattle.dense_def.specs.Matrix.{peak_of}
use Rattle.task_types.specs.declared.inputs.View.{View}
use Rattle.task_types.specs.declared.inputs.View.TheVariants as view
use Rattle.task_types.specs.declared.inputs.Inputs.{Inputs}
use Rattle.task_types.specs.Tree.{Tree}
use Rattle.task_types.specs.Presence.{is_present}
use Rattle.task_types.specs.Shown.{view_of, mask, presence_in}
use Rattle.quad_matrix.specs.declared.chunk.MatChunk.{MatChunk}
use Rattle.quad_matrix.specs.declared.chunk.MatChunk.TheVariants.{Node}
use Rattle.quad_matrix.specs.declared.kind.What.{What}
use Rattle.quad_matrix.specs.declared.kind.What.TheVariants.{Assign, Add, Mul, TMul, MulT, Transpose, Join, Trace, AddNum, SAssign, SAdd, Square, RankMul, TRank, SMul, MulS, Full, SJoin, STrace}
use Rattle.quad_matrix.specs.Blocks.{block_of, number_of, IsCanonical, IsNumber}
use Rattle.matrix_tasks.specs.Answers.{greatest_peak}

-- a view shows a canonical tree of this height
abbrev pub ShowsBlock : ℕ → View MatChunk → Type 0
ShowsBlock h shown =
    (tree : Tree MatChunk) × IsCanonical 1 h tree × (peak_of (block_of 1 h tree) ≤ 2 ^ 62) × (shown ≡ view_of tree)

-- a view shows the tree of a number
abbrev pub ShowsNumber : View MatChunk → Type 0
ShowsNumber shown =
    (tree : Tree MatChunk) × IsNumber tree × (unsigned_abs (number_of tree) ≤ 2 ^ 62) × (shown ≡ view_of tree)

-- whether a view shows something
abbrev pub shows_some : View MatChunk → Bool
shows_some shown = is_present (presence_in shown)

-- whether a kind is a product of two general blocks
abbrev pub is_product : What → Bool
is_product Assign = false
is_product Add = false
is_product Mul = true
is_product TMul = true
is_product MulT = true
is_product Transpose = false
is_product Join = false
is_product Trace = false
is_product AddNum = false
is_product SAssign = false
is_product SAdd = false
is_product Square = false
is_product RankMul = false
is_product TRank = false
is_product SMul = false
is_product MulS = false
is_product Full = false
is_product SJoin = false
is_product STrace = false

-- what shows a block of this height, where inputs show its quadrants
abbrev pub over : ℕ → Inputs MatChunk → View MatChunk
over height inputs =
    if shows_some inputs.first || shows_some inputs.second || shows_some inputs.third || shows_some inputs.fourth
    then view.There (Node height (greatest_peak inputs))
    (mask (shows_some inputs.first) (shows_some inputs.second) (shows_some inputs.third) (shows_some inputs.fourth))
    else view.Nothing
