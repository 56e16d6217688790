-- The small library of sums.
use Rattle.std.specs.Prelude.{◌≡◌, ◌≢◌, ℕ, zero, suc, ◌+◌, ◌-◌, ◌<◌, ◌^◌, Bool, true, false, ◌==◌, if◌then◌else◌, List, [], ◌∷◌, ◌++◌, sum, codes}
use Rattle.task_types.specs.declared.outcome.Place.{Place}
use Rattle.task_types.specs.declared.outcome.Place.TheVariants.{Null, Input, Child, Chunk, Task}
use Rattle.task_types.specs.declared.outcome.NewTask.{NewTask}
use Rattle.task_types.specs.declared.outcome.Outcome.{Outcome}
use Rattle.task_types.specs.declared.inputs.View.{View}
use Rattle.task_types.specs.declared.inputs.View.TheVariants as view
use Rattle.task_types.specs.declared.sums.Term.{Term}
use Rattle.task_types.specs.declared.sums.Term.TheVariants.{Number, Sum}
use Rattle.task_types.specs.declared.sums.Aim.{Aim}
use Rattle.task_types.specs.declared.sums.Aim.TheVariants.{Total, Plus}
use Rattle.task_types.specs.declared.sums.SumKind.{SumKind}
use Rattle.task_types.specs.Tree.{Tree, Nothing, Root, tree_at, is_there, tree_value}
use Rattle.task_types.specs.Presence.{Presence, Absent, Present, has_child}
use Rattle.task_types.specs.Shown.{mask_presence}
use Rattle.task_types.specs.Places.{Shape, filled, shape_of}
use Rattle.task_types.specs.Meanings.{Meanings}

-- how many children a term has
abbrev pub arity_of : Term → ℕ
arity_of (Number n) = 0
arity_of Sum = 2

-- which terms are sound: a number is not 0
abbrev pub IsSoundTerm : Term → Type 0
IsSoundTerm (Number n) = n ≢ 0
IsSoundTerm Sum = Unit {0}

-- the names of the kinds
abbrev pub aim_name : Aim → List ℕ
aim_name Total = codes "total"
aim_name Plus = codes "plus"

-- a kind
abbrev pub kind_of : Aim → ℕ → SumKind
kind_of aim height = record { aim = aim; height = height }

-- what a term stands for, given what its children stand for: its number, or the sum of the first two
abbrev pub term_value : Term → List ℕ → ℕ
term_value (Number n) values = n
term_value Sum [] = 0
term_value Sum (a ∷ []) = a
term_value Sum (a ∷ b ∷ values) = a + b

-- the total of a tree
abbrev pub total : Tree Term → ℕ
total tree = tree_value 0 term_value tree

-- a tree with so many sums above each number
abbrev pub HasHeight : ℕ → Tree Term → Type 0
HasHeight height Nothing = Unit {0}
HasHeight zero (Root (Number n) a b c d) = Unit {0}
HasHeight zero (Root Sum a b c d) = ⊥
HasHeight (suc height) (Root (Number n) a b c d) = ⊥
HasHeight (suc height) (Root Sum a b c d) = HasHeight height a × HasHeight height b

-- the tree of a number: nothing for 0
abbrev pub number_tree : ℕ → Tree Term
number_tree n = if n == 0 then Nothing else Root (Number n) Nothing Nothing Nothing Nothing

-- a tree of a number
abbrev pub IsNumber : Tree Term → Type 0
IsNumber tree = tree ≡ number_tree (total tree)

-- where the goals are defined
abbrev pub sum_defined : Aim → ℕ → List (Tree Term) → Type 0
sum_defined Total height (tree ∷ []) = HasHeight height tree × (total tree < 2 ^ 64)
sum_defined Plus height (one ∷ other ∷ []) =
    (height ≡ 0) × IsNumber one × IsNumber other × (total one + total other < 2 ^ 64)
sum_defined aim height _ = ⊥

-- the goals
abbrev pub sum_goal : Aim → List (Tree Term) → Tree Term
sum_goal Total trees = number_tree (total (tree_at trees 0))
sum_goal Plus trees = number_tree (total (tree_at trees 0) + total (tree_at trees 1))

-- an outcome without chunks and tasks
abbrev pub given : Place → Outcome Term SumKind
given place = record { chunks = []; tasks = []; result = place }

-- an outcome with a number as its one chunk
abbrev pub number_chunk : ℕ → Outcome Term SumKind
number_chunk n =
    record { chunks = record { body = Number n; children = filled [] } ∷ []; tasks = []; result = Chunk 0 }

-- an outcome with a number as its one chunk, or null for 0
abbrev pub number_outcome : ℕ → Outcome Term SumKind
number_outcome n = if n == 0 then given Null else number_chunk n

-- the total of a child of input 0
abbrev pub total_task : ℕ → ℕ → NewTask SumKind
total_task height j = record { kind = kind_of Total height; inputs = filled (Child 0 j ∷ []) }

-- the sum of the outputs of the first two tasks
abbrev pub plus_task : NewTask SumKind
plus_task = record { kind = kind_of Plus 0; inputs = filled (Task 0 ∷ Task 1 ∷ []) }

-- the totals of the children that are there, and their sum
abbrev pub halves_outcome : ℕ → Bool → Bool → Outcome Term SumKind
halves_outcome height false false = given Null
halves_outcome height true false = record { chunks = []; tasks = total_task height 0 ∷ []; result = Task 0 }
halves_outcome height false true = record { chunks = []; tasks = total_task height 1 ∷ []; result = Task 0 }
halves_outcome height true true =
    record { chunks = []; tasks = total_task height 0 ∷ total_task height 1 ∷ plus_task ∷ []; result = Task 2 }

-- an outcome with one more task
abbrev pub asking : Outcome Term SumKind → Aim → ℕ → List Place → Outcome Term SumKind
asking outcome aim height inputs =
    record outcome { tasks = outcome.tasks ++ record { kind = kind_of aim height; inputs = filled inputs } ∷ [] }

-- what a total answers on what it is shown of its input
abbrev pub total_answer : ℕ → View Term → Outcome Term SumKind
total_answer height view.Nothing = given Null
total_answer height (view.There (Number n) present) = number_outcome n
total_answer height (view.There Sum present) =
    halves_outcome (height - 1) (has_child (mask_presence present) 0) (has_child (mask_presence present) 1)

-- the number that an input shows
abbrev pub number_in : View Term → ℕ
number_in view.Nothing = 0
number_in (view.There (Number n) present) = n
number_in (view.There Sum present) = 0

-- of two inputs with a null one, the place of the other
abbrev pub other_input : View Term → View Term → Place
other_input view.Nothing view.Nothing = Null
other_input view.Nothing (view.There content present) = Input 1
other_input (view.There content present) other = Input 0

-- the shape of an outcome that is null
abbrev pub null_shape : Shape SumKind
null_shape = shape_of (given Null)

-- the shape of one chunk without children, which is the result
abbrev pub number_shape : Shape SumKind
number_shape = record { chunks = [] ∷ []; tasks = []; result = Chunk 0 }

-- the shapes that a kind may have
abbrev pub sum_shapes : Aim → ℕ → List Presence → List (Shape SumKind)
sum_shapes Total height (Absent ∷ []) = null_shape ∷ []
sum_shapes Total zero (Present a b c d ∷ []) = null_shape ∷ number_shape ∷ []
sum_shapes Total (suc height) (Present a b c d ∷ []) = shape_of (halves_outcome height a b) ∷ []
sum_shapes Plus zero (Absent ∷ Absent ∷ []) = null_shape ∷ []
sum_shapes Plus zero (Absent ∷ Present a b c d ∷ []) = shape_of (given (Input 1)) ∷ []
sum_shapes Plus zero (Present a b c d ∷ Absent ∷ []) = shape_of (given (Input 0)) ∷ []
sum_shapes Plus zero (Present a b c d ∷ Present e f g h ∷ []) = null_shape ∷ number_shape ∷ []
sum_shapes aim height _ = []

-- the ranks: a plus below each total, and totals by height
abbrev pub sum_rank : Aim → ℕ → ℕ
sum_rank Plus height = 0
sum_rank Total height = suc height

-- the works of the new tasks of a total, given those of the totals of two children
abbrev pub child_works : Bool → Bool → ℕ → ℕ → List ℕ
child_works false false a b = []
child_works true false a b = a ∷ []
child_works false true a b = b ∷ []
child_works true true a b = a ∷ b ∷ 1 ∷ []

-- the works: one each, and for a sum those of its new tasks
abbrev pub total_work : ℕ → Tree Term → ℕ
total_work height Nothing = 1
total_work zero (Root content a b c d) = 1
total_work (suc height) (Root content a b c d) =
    1 + sum (child_works (is_there a) (is_there b) (total_work height a) (total_work height b))

-- the works of the kinds
abbrev pub sum_work : Aim → ℕ → List (Tree Term) → ℕ
sum_work Total height trees = total_work height (tree_at trees 0)
sum_work Plus height trees = 1

-- the meanings of the library
abbrev pub sum_meanings : Meanings Term SumKind
sum_meanings = record {
  Value = ℕ;
  nothing = 0;
  stands = term_value;
  defined = λ kind trees. sum_defined kind.aim kind.height trees;
  goal = λ kind trees. sum_goal kind.aim trees;
  plan = λ kind known. sum_shapes kind.aim kind.height known;
  rank = λ kind. sum_rank kind.aim kind.height;
  work = λ kind trees. sum_work kind.aim kind.height trees;
}
