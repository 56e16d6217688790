-- What the kinds answer without new tasks, as functions of what is shown of the inputs.
use Rattle.std.specs.Prelude.{◌≡◌, ℕ, ◌≤◌, Bool, true, false, ◌==◌, if◌then◌else◌, max, Option, None, Some, List, [], ℤ, pos, unsigned_abs}
use Rattle.dense_def.specs.Matrix.{Matrix, height, peak_of, plus, transposed, trace_of, SumFits, TraceFits}
use Rattle.task_types.specs.declared.outcome.Place.{Place}
use Rattle.task_types.specs.declared.outcome.Place.TheVariants.{Null}
use Rattle.task_types.specs.declared.outcome.Outcome.{Outcome}
use Rattle.task_types.specs.declared.inputs.View.{View}
use Rattle.task_types.specs.declared.inputs.View.TheVariants as view
use Rattle.task_types.specs.declared.inputs.Inputs.{Inputs}
use Rattle.task_types.specs.Presence.{Presence}
use Rattle.task_types.specs.Shown.{presences_in}
use Rattle.chunk_codec.specs.Sound.{IsSoundNode}
use Rattle.task_plans.specs.Plans.{are_null, other_place}
use Rattle.task_plans.specs.Outcomes.{given, one_chunk}
use Rattle.quad_matrix.specs.declared.chunk.MatChunk.{MatChunk}
use Rattle.quad_matrix.specs.declared.chunk.MatChunk.TheVariants.{Leaf, Node, Num}
use Rattle.quad_matrix.specs.declared.chunk.MatChunk.TheVariants as chunk
use Rattle.quad_matrix.specs.declared.chunk.Entries.{Entries}
use Rattle.quad_matrix.specs.declared.kind.What.{What}
use Rattle.quad_matrix.specs.declared.kind.What.TheVariants.{Assign, Add, Mul, TMul, MulT, Transpose, Join, Trace, AddNum, SAssign, SAdd, Square, RankMul, TRank, SMul, MulS, Full, SJoin, STrace}
use Rattle.quad_matrix.specs.declared.kind.MatKind.{MatKind}
use Rattle.quad_matrix.specs.Spots.{AreSoundEntries, block_of_spots}
use Rattle.quad_matrix.specs.Chunks.{peak_in}
use Rattle.quad_matrix.specs.Products.{Turned, product_of, FactorsFit}
use Rattle.quad_matrix.specs.Plans.{join_places}

-- ---- Kinds

-- whether a kind is one of general matrices and numbers
abbrev pub is_general : What → Bool
is_general Assign = true
is_general Add = true
is_general Mul = true
is_general TMul = true
is_general MulT = true
is_general Transpose = true
is_general Join = true
is_general Trace = true
is_general AddNum = true
is_general SAssign = false
is_general SAdd = false
is_general Square = false
is_general RankMul = false
is_general TRank = false
is_general SMul = false
is_general MulS = false
is_general Full = false
is_general SJoin = false
is_general STrace = false

-- ---- Outcomes

-- a block as a leaf, or null where it is zero
abbrev pub leaf_outcome : Matrix → Outcome MatChunk MatKind
leaf_outcome m = if peak_of m == 0 then given Null else one_chunk (Leaf m) []

-- a number as a chunk, or null for 0
abbrev pub number_outcome : ℤ → Outcome MatChunk MatKind
number_outcome n = if unsigned_abs n == 0 then given Null else one_chunk (Num n) []

-- ---- What is shown of an input

-- the peak of an input, and 0 where it is null
abbrev pub peak_shown : View MatChunk → ℕ
peak_shown view.Nothing = 0
peak_shown (view.There content present) = peak_in content

-- the greatest peak of the four inputs
abbrev pub greatest_peak : Inputs MatChunk → ℕ
greatest_peak inputs =
    max (max (peak_shown inputs.first) (peak_shown inputs.second)) (max (peak_shown inputs.third) (peak_shown inputs.fourth))

-- the number that an input shows, and 0 where it shows none
abbrev pub number_shown : View MatChunk → ℤ
number_shown view.Nothing = pos 0
number_shown (view.There (Num n) present) = n
number_shown (view.There content present) = pos 0

-- ---- Answers

-- a node over the inputs that are there, or null where none is
abbrev pub join_answer : ℕ → Inputs MatChunk → Outcome MatChunk MatKind
join_answer height inputs =
    if are_null (join_places (presences_in inputs)) then given Null
    else one_chunk (Node height (greatest_peak inputs)) (join_places (presences_in inputs))

-- where an input is there, a node over the inputs is sound
abbrev pub NodeFits : ℕ → Inputs MatChunk → Type 0
NodeFits height inputs = are_null (join_places (presences_in inputs)) ≡ false → IsSoundNode height (greatest_peak inputs)

-- where an input is null: of a sum the other input, else null; joins are not asked for it
abbrev pub null_place : What → List Presence → Place
null_place Assign known = Null
null_place Add known = other_place known
null_place Mul known = Null
null_place TMul known = Null
null_place MulT known = Null
null_place Transpose known = Null
null_place Join known = Null
null_place Trace known = Null
null_place AddNum known = other_place known
null_place SAssign known = Null
null_place SAdd known = other_place known
null_place Square known = Null
null_place RankMul known = Null
null_place TRank known = Null
null_place SMul known = Null
null_place MulS known = Null
null_place Full known = Null
null_place SJoin known = Null
null_place STrace known = Null

-- the leaf that an input shows, if it shows one
abbrev pub leaf_shown : View MatChunk → Option Matrix
leaf_shown view.Nothing = None
leaf_shown (view.There (Leaf m) present) = Some m
leaf_shown (view.There content present) = None

-- two leaves have one side, of at most 64, and the terms of their sum fit
abbrev pub LeavesFit : Option Matrix → Option Matrix → Type 0
LeavesFit (Some m) (Some n) = (height m ≡ height n) × (height m ≤ 64) × SumFits m n
LeavesFit (Some m) None = Unit {0}
LeavesFit None other = Unit {0}

-- the sum of two leaves
abbrev pub add_answer : Option Matrix → Option Matrix → Outcome MatChunk MatKind
add_answer (Some m) (Some n) = leaf_outcome (plus m n)
add_answer one other = given Null

-- two leaves have one side, of at most 64, and the terms of their product fit
abbrev pub FactorsAreLeaves : Turned → Option Matrix → Option Matrix → Type 0
FactorsAreLeaves turned (Some m) (Some n) = (height m ≡ height n) × (height m ≤ 64) × FactorsFit turned m n
FactorsAreLeaves turned (Some m) None = Unit {0}
FactorsAreLeaves turned None other = Unit {0}

-- the product of two leaves
abbrev pub product_answer : Turned → Option Matrix → Option Matrix → Outcome MatChunk MatKind
product_answer turned (Some m) (Some n) = leaf_outcome (product_of turned m n)
product_answer turned one other = given Null

-- a leaf has a side of at most 64
abbrev pub IsLeaf : Option Matrix → Type 0
IsLeaf (Some m) = height m ≤ 64
IsLeaf None = Unit {0}

-- the transpose of a leaf
abbrev pub transpose_answer : Option Matrix → Outcome MatChunk MatKind
transpose_answer (Some m) = leaf_outcome (transposed m)
transpose_answer None = given Null

-- the terms of the trace of a leaf fit
abbrev pub LeafFits : Option Matrix → Type 0
LeafFits (Some m) = TraceFits m
LeafFits None = Unit {0}

-- the trace of a leaf
abbrev pub trace_answer : Option Matrix → Outcome MatChunk MatKind
trace_answer (Some m) = number_outcome (trace_of m)
trace_answer None = given Null

-- the entries that an input shows, if it shows some
abbrev pub entries_shown : View MatChunk → Option Entries
entries_shown view.Nothing = None
entries_shown (view.There (chunk.Entries entries) present) = Some entries
entries_shown (view.There content present) = None

-- some entries are a sound list for a leaf
abbrev pub AreForLeaf : Option Entries → Type 0
AreForLeaf None = Unit {0}
AreForLeaf (Some entries) = AreSoundEntries entries.leaf 0 false entries

-- the leaf of some entries
abbrev pub assign_answer : Option Entries → Outcome MatChunk MatKind
assign_answer None = given Null
assign_answer (Some entries) = leaf_outcome (block_of_spots entries.leaf entries.list)
