-- What the kinds of symmetric matrices answer without new tasks, as functions of what is shown of the inputs.
use Rattle.std.specs.Prelude.{◌≡◌, ℕ, max, Bool, true, false, ◌==◌, if◌then◌else◌, Option, None, Some, []}
use Rattle.dense_def.specs.Matrix.{Matrix, peak_of, plus}
use Rattle.task_types.specs.declared.outcome.Place.TheVariants.{Null}
use Rattle.task_types.specs.declared.outcome.Outcome.{Outcome}
use Rattle.task_types.specs.declared.inputs.View.{View}
use Rattle.task_types.specs.declared.inputs.View.TheVariants as view
use Rattle.task_types.specs.declared.inputs.Inputs.{Inputs}
use Rattle.task_types.specs.Shown.{presences_in}
use Rattle.chunk_codec.specs.Sound.{IsSoundNode}
use Rattle.task_plans.specs.Plans.{are_null}
use Rattle.task_plans.specs.Outcomes.{given, one_chunk}
use Rattle.quad_matrix.specs.declared.chunk.MatChunk.{MatChunk}
use Rattle.quad_matrix.specs.declared.chunk.MatChunk.TheVariants.{SymLeaf, SymNode}
use Rattle.quad_matrix.specs.declared.chunk.Entries.{Entries}
use Rattle.quad_matrix.specs.declared.kind.What.{What}
use Rattle.quad_matrix.specs.declared.kind.What.TheVariants.{Assign, Add, Mul, TMul, MulT, Transpose, Join, Trace, AddNum, SAssign, SAdd, Square, RankMul, TRank, SMul, MulS, Full, SJoin, STrace}
use Rattle.quad_matrix.specs.declared.kind.MatKind.{MatKind}
use Rattle.quad_matrix.specs.Spots.{AreSoundEntries, mirrored_block}
use Rattle.quad_matrix.specs.Products.{Turned, product_of}
use Rattle.quad_matrix.specs.Plans.{symmetric_join_places}
use Rattle.matrix_tasks.specs.Answers.{leaf_outcome, peak_shown}

-- ---- Kinds

-- whether a kind is one of symmetric matrices
abbrev pub is_symmetric : What → Bool
is_symmetric Assign = false
is_symmetric Add = false
is_symmetric Mul = false
is_symmetric TMul = false
is_symmetric MulT = false
is_symmetric Transpose = false
is_symmetric Join = false
is_symmetric Trace = false
is_symmetric AddNum = false
is_symmetric SAssign = true
is_symmetric SAdd = true
is_symmetric Square = true
is_symmetric RankMul = true
is_symmetric TRank = true
is_symmetric SMul = true
is_symmetric MulS = true
is_symmetric Full = true
is_symmetric SJoin = true
is_symmetric STrace = true

-- ---- Outcomes

-- a symmetric block as a leaf, or null where it is zero
abbrev pub symmetric_leaf_outcome : Matrix → Outcome MatChunk MatKind
symmetric_leaf_outcome m = if peak_of m == 0 then given Null else one_chunk (SymLeaf m) []

-- ---- What is shown of an input

-- the symmetric leaf that an input shows, if it shows one
abbrev pub symmetric_leaf_shown : View MatChunk → Option Matrix
symmetric_leaf_shown view.Nothing = None
symmetric_leaf_shown (view.There (SymLeaf m) present) = Some m
symmetric_leaf_shown (view.There content present) = None

-- the greatest peak of the first three inputs
abbrev pub greatest_of_three : Inputs MatChunk → ℕ
greatest_of_three inputs =
    max (max (peak_shown inputs.first) (peak_shown inputs.second)) (peak_shown inputs.third)

-- ---- Answers

-- a symmetric node over the inputs that are there, or null where none is
abbrev pub symmetric_join_answer : ℕ → Inputs MatChunk → Outcome MatChunk MatKind
symmetric_join_answer height inputs =
    if are_null (symmetric_join_places (presences_in inputs)) then given Null
    else one_chunk (SymNode height (greatest_of_three inputs)) (symmetric_join_places (presences_in inputs))

-- where an input is there, a symmetric node over the inputs is sound
abbrev pub SymmetricNodeFits : ℕ → Inputs MatChunk → Type 0
SymmetricNodeFits height inputs =
    are_null (symmetric_join_places (presences_in inputs)) ≡ false → IsSoundNode height (greatest_of_three inputs)

-- the sum of two symmetric leaves
abbrev pub symmetric_add_answer : Option Matrix → Option Matrix → Outcome MatChunk MatKind
symmetric_add_answer (Some m) (Some n) = symmetric_leaf_outcome (plus m n)
symmetric_add_answer one other = given Null

-- the product of a leaf with itself, of which one factor may be transposed, as a symmetric leaf
abbrev pub own_product_answer : Turned → Option Matrix → Outcome MatChunk MatKind
own_product_answer turned (Some m) = symmetric_leaf_outcome (product_of turned m m)
own_product_answer turned None = given Null

-- the general form of a symmetric leaf
abbrev pub full_answer : Option Matrix → Outcome MatChunk MatKind
full_answer (Some m) = leaf_outcome m
full_answer None = given Null

-- some entries are a sound list for a symmetric leaf
abbrev pub AreForSymmetricLeaf : Option Entries → Type 0
AreForSymmetricLeaf None = Unit {0}
AreForSymmetricLeaf (Some entries) = AreSoundEntries entries.leaf 0 true entries

-- the symmetric leaf of some entries
abbrev pub symmetric_assign_answer : Option Entries → Outcome MatChunk MatKind
symmetric_assign_answer None = given Null
symmetric_assign_answer (Some entries) = symmetric_leaf_outcome (mirrored_block entries.leaf entries.list)
