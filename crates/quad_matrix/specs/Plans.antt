-- The plans of the kinds: the table, and which shapes an outcome may have where only the presence of the inputs and of their
-- children is known.
use Rattle.std.specs.Prelude.{ℕ, zero, suc, Bool, true, false, ◌&&◌, ◌==◌, nat_le, if◌then◌else◌, List, [], ◌∷◌, length}
use Rattle.task_types.specs.declared.outcome.Place.{Place}
use Rattle.task_types.specs.declared.outcome.Place.TheVariants.{Null, Child, Chunk}
use Rattle.task_types.specs.Presence.{Presence, all_present}
use Rattle.task_types.specs.Places.{filled, Shape, shape_from}
use Rattle.task_plans.specs.declared.plan.Part.{Part}
use Rattle.task_plans.specs.declared.plan.Part.TheVariants.{Portion, Itself, Alone, Either, Pair}
use Rattle.task_plans.specs.declared.plan.Term.{Term}
use Rattle.task_plans.specs.declared.plan.Ending.TheVariants.{Joined, Single}
use Rattle.task_plans.specs.Plans.{Plan, term_on, planned_shapes, given_shape, chunk_shape, are_null, input_place, other_place}
use Rattle.quad_matrix.specs.declared.kind.What.{What}
use Rattle.quad_matrix.specs.declared.kind.What.TheVariants.{Assign, Add, Mul, TMul, MulT, Transpose, Join, Trace, AddNum, SAssign, SAdd, Square, RankMul, TRank, SMul, MulS, Full, SJoin, STrace}
use Rattle.quad_matrix.specs.declared.kind.MatKind.{MatKind}
use Rattle.quad_matrix.specs.Goals.{kind_at}
use Rattle.quad_matrix.specs.Products.{Neither, First, Second, product_plan, child_in}

-- ---- The table

-- the transpose of one child
abbrev pub transpose_part : ℕ → Part What
transpose_part q = Alone (term_on Transpose (Child 0 q ∷ []))

-- the general form of one symmetric child
abbrev pub full_part : ℕ → Part What
full_part q = Alone (term_on Full (Child 0 q ∷ []))

-- the number of the child of a symmetric node that stands in the upper or lower half, to the left or to the right; below the diagonal it is
-- the one above it, whose transpose stands there
abbrev pub kept_child : Bool → Bool → ℕ
kept_child false false = 0
kept_child false true = 1
kept_child true false = 1
kept_child true true = 2

-- how a child of a symmetric first factor is multiplied with a child of the second one, by where the first stands
abbrev pub symmetric_first : Bool → Bool → What
symmetric_first false false = SMul
symmetric_first false true = Mul
symmetric_first true false = TMul
symmetric_first true true = SMul

-- a term of a quadrant of a product of a symmetric block with a general one
abbrev pub symmetric_first_term : Bool → Bool → Bool → Term What
symmetric_first_term lower right far =
    term_on (symmetric_first lower far) (Child 0 (kept_child lower far) ∷ Child 1 (child_in far right) ∷ [])

-- how a child of the first factor is multiplied with a child of a symmetric second one, by where the second stands
abbrev pub symmetric_second : Bool → Bool → What
symmetric_second false false = MulS
symmetric_second false true = MulT
symmetric_second true false = Mul
symmetric_second true true = MulS

-- a term of a quadrant of a product of a general block with a symmetric one
abbrev pub symmetric_second_term : Bool → Bool → Bool → Term What
symmetric_second_term lower right far =
    term_on (symmetric_second right far) (Child 0 (child_in lower far) ∷ Child 1 (kept_child right far) ∷ [])

-- the plan of four quadrants, each the sum of two terms
abbrev pub quadrants_plan : (Bool → Bool → Bool → Term What) → Plan What
quadrants_plan term =
    record {
      parts =
          Pair (term false false false) (term false false true) Add ∷ Pair (term false true false) (term false true true) Add
          ∷ Pair (term true false false) (term true false true) Add ∷ Pair (term true true false) (term true true true) Add
          ∷ [];
      ending = Joined Join;
    }

-- a task on one child, and on two children of the first input
abbrev pub on_child : What → ℕ → Term What
on_child what p = term_on what (Child 0 p ∷ [])

abbrev pub on_children : What → ℕ → ℕ → Term What
on_children what p q = term_on what (Child 0 p ∷ Child 0 q ∷ [])

-- the three quadrants of a symmetric result that are kept, each the sum of two terms: for each the first term and the other one
abbrev pub square_term : ℕ → Bool → Term What
square_term zero false = on_child Square 0
square_term zero true = on_child RankMul 1
square_term (suc zero) false = on_children SMul 0 1
square_term (suc zero) true = on_children MulS 1 2
square_term (suc (suc q)) false = on_child TRank 1
square_term (suc (suc q)) true = on_child Square 2

abbrev pub rank_term : ℕ → Bool → Term What
rank_term zero false = on_child RankMul 0
rank_term zero true = on_child RankMul 1
rank_term (suc zero) false = on_children MulT 0 2
rank_term (suc zero) true = on_children MulT 1 3
rank_term (suc (suc q)) false = on_child RankMul 2
rank_term (suc (suc q)) true = on_child RankMul 3

abbrev pub transposed_rank_term : ℕ → Bool → Term What
transposed_rank_term zero false = on_child TRank 0
transposed_rank_term zero true = on_child TRank 2
transposed_rank_term (suc zero) false = on_children TMul 0 1
transposed_rank_term (suc zero) true = on_children TMul 2 3
transposed_rank_term (suc (suc q)) false = on_child TRank 1
transposed_rank_term (suc (suc q)) true = on_child TRank 3

-- the plan of such a result
abbrev pub symmetric_quadrants_plan : (ℕ → Bool → Term What) → Plan What
symmetric_quadrants_plan term =
    record {
      parts =
          Pair (term 0 false) (term 0 true) SAdd ∷ Pair (term 1 false) (term 1 true) Add
          ∷ Pair (term 2 false) (term 2 true) SAdd
          ∷ [];
      ending = Joined SJoin;
    }

-- the trace of a general block or of a symmetric one
abbrev pub trace_what : Bool → What
trace_what false = Trace
trace_what true = STrace

-- the number of the last child on the diagonal, of a general node or of a symmetric one
abbrev pub last_child : Bool → ℕ
last_child false = 3
last_child true = 2

-- the trace of one child
abbrev pub trace_term : Bool → ℕ → Term What
trace_term mirrored q = term_on (trace_what mirrored) (Child 0 q ∷ [])

-- the plan of a trace: the sum of the traces of both children on the diagonal
abbrev pub trace_plan : Bool → Plan What
trace_plan mirrored =
    record { parts = Pair (trace_term mirrored 0) (trace_term mirrored (last_child mirrored)) AddNum ∷ []; ending = Single }

-- the plan of each kind; joins and a sum of numbers ask no tasks
abbrev pub plan_of : What → Plan What
plan_of Assign =
    record {
      parts = Portion Assign 0 false ∷ Portion Assign 1 false ∷ Portion Assign 2 false ∷ Portion Assign 3 false ∷ [];
      ending = Joined Join;
    }
plan_of Add = record { parts = Either Add 0 ∷ Either Add 1 ∷ Either Add 2 ∷ Either Add 3 ∷ []; ending = Joined Join }
plan_of Mul = product_plan Neither
plan_of TMul = product_plan First
plan_of MulT = product_plan Second
plan_of Transpose =
    record {
      parts = transpose_part 0 ∷ transpose_part 2 ∷ transpose_part 1 ∷ transpose_part 3 ∷ [];
      ending = Joined Join;
    }
plan_of Trace = trace_plan false
plan_of Join = record { parts = []; ending = Single }
plan_of AddNum = record { parts = []; ending = Single }
plan_of SAssign =
    record { parts = Portion SAssign 0 true ∷ Portion Assign 1 false ∷ Portion SAssign 3 true ∷ []; ending = Joined SJoin }
plan_of SAdd = record { parts = Either SAdd 0 ∷ Either Add 1 ∷ Either SAdd 2 ∷ []; ending = Joined SJoin }
plan_of Square = symmetric_quadrants_plan square_term
plan_of RankMul = symmetric_quadrants_plan rank_term
plan_of TRank = symmetric_quadrants_plan transposed_rank_term
plan_of SMul = quadrants_plan symmetric_first_term
plan_of MulS = quadrants_plan symmetric_second_term
plan_of Full =
    record {
      parts = full_part 0 ∷ Itself 0 1 ∷ transpose_part 1 ∷ full_part 2 ∷ [];
      ending = Joined Join;
    }
plan_of SJoin = record { parts = []; ending = Single }
plan_of STrace = trace_plan true

-- ---- The shapes of each kind

-- how many inputs a kind has
abbrev pub inputs_of : What → ℕ
inputs_of Assign = 1
inputs_of Add = 2
inputs_of Mul = 2
inputs_of TMul = 2
inputs_of MulT = 2
inputs_of Transpose = 1
inputs_of Join = 4
inputs_of Trace = 1
inputs_of AddNum = 2
inputs_of SAssign = 1
inputs_of SAdd = 2
inputs_of Square = 1
inputs_of RankMul = 1
inputs_of TRank = 1
inputs_of SMul = 2
inputs_of MulS = 2
inputs_of Full = 1
inputs_of SJoin = 3
inputs_of STrace = 1

-- the heights that a kind may have
abbrev pub may_have : What → ℕ → Bool
may_have Assign height = nat_le height 16
may_have Add height = nat_le height 16
may_have Mul height = nat_le height 16
may_have TMul height = nat_le height 16
may_have MulT height = nat_le height 16
may_have Transpose height = nat_le height 16
may_have Join height = nat_le 1 height && nat_le height 16
may_have Trace height = nat_le height 16
may_have AddNum height = height == 0
may_have SAssign height = nat_le height 16
may_have SAdd height = nat_le height 16
may_have Square height = nat_le height 16
may_have RankMul height = nat_le height 16
may_have TRank height = nat_le height 16
may_have SMul height = nat_le height 16
may_have MulS height = nat_le height 16
may_have Full height = nat_le height 16
may_have SJoin height = nat_le 1 height && nat_le height 16
may_have STrace height = nat_le height 16

-- the children of a join
abbrev pub join_places : List Presence → List Place
join_places known = input_place known 0 ∷ input_place known 1 ∷ input_place known 2 ∷ input_place known 3 ∷ []

-- those of a symmetric join
abbrev pub symmetric_join_places : List Presence → List Place
symmetric_join_places known = input_place known 0 ∷ input_place known 1 ∷ input_place known 2 ∷ []

-- one node chunk over some places, if one of them is not null
abbrev pub node_shape : List Place → Shape MatKind
node_shape places = if are_null places then given_shape Null else shape_from (filled places ∷ []) [] (Chunk 0)

-- one node chunk over the inputs that are there, if one is
abbrev pub joined_shape : List Presence → Shape MatKind
joined_shape known = node_shape (join_places known)

-- the same of a symmetric join
abbrev pub symmetric_joined_shape : List Presence → Shape MatKind
symmetric_joined_shape known = node_shape (symmetric_join_places known)

-- the shape where an input is null
abbrev pub null_shape : What → List Presence → Shape MatKind
null_shape Assign known = given_shape Null
null_shape Add known = given_shape (other_place known)
null_shape Mul known = given_shape Null
null_shape TMul known = given_shape Null
null_shape MulT known = given_shape Null
null_shape Transpose known = given_shape Null
null_shape Join known = joined_shape known
null_shape Trace known = given_shape Null
null_shape AddNum known = given_shape (other_place known)
null_shape SAssign known = given_shape Null
null_shape SAdd known = given_shape (other_place known)
null_shape Square known = given_shape Null
null_shape RankMul known = given_shape Null
null_shape TRank known = given_shape Null
null_shape SMul known = given_shape Null
null_shape MulS known = given_shape Null
null_shape Full known = given_shape Null
null_shape SJoin known = symmetric_joined_shape known
null_shape STrace known = given_shape Null

-- the shapes at height 0: null, or one chunk
abbrev pub low_shapes : List (Shape MatKind)
low_shapes = given_shape Null ∷ chunk_shape ∷ []

-- the shapes of a kind that asks tasks: at height 0 none are asked, above it those of its plan
abbrev pub shapes_at : What → ℕ → List Presence → List (Shape MatKind)
shapes_at what zero known = low_shapes
shapes_at what (suc h) known = planned_shapes kind_at (suc h) (plan_of what) known

-- the shapes where all inputs are there
abbrev pub full_shapes : What → ℕ → List Presence → List (Shape MatKind)
full_shapes Assign height known = shapes_at Assign height known
full_shapes Add height known = shapes_at Add height known
full_shapes Mul height known = shapes_at Mul height known
full_shapes TMul height known = shapes_at TMul height known
full_shapes MulT height known = shapes_at MulT height known
full_shapes Transpose height known = shapes_at Transpose height known
full_shapes Join height known = joined_shape known ∷ []
full_shapes Trace height known = shapes_at Trace height known
full_shapes AddNum height known = low_shapes
full_shapes SAssign height known = shapes_at SAssign height known
full_shapes SAdd height known = shapes_at SAdd height known
full_shapes Square height known = shapes_at Square height known
full_shapes RankMul height known = shapes_at RankMul height known
full_shapes TRank height known = shapes_at TRank height known
full_shapes SMul height known = shapes_at SMul height known
full_shapes MulS height known = shapes_at MulS height known
full_shapes Full height known = shapes_at Full height known
full_shapes SJoin height known = symmetric_joined_shape known ∷ []
full_shapes STrace height known = shapes_at STrace height known

-- the shapes that an outcome of a kind may have
abbrev pub shapes_of : MatKind → List Presence → List (Shape MatKind)
shapes_of kind known =
    if (length known == inputs_of kind.what) && may_have kind.what kind.height
    then (if all_present known then full_shapes kind.what kind.height known else null_shape kind.what known ∷ [])
    else []
