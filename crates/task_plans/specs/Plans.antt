-- Plans: which chunks and tasks an outcome may have, where only the presence of the inputs and of their children is known.
-- All is said for any operations O and kinds K; `kinds` gives the kind of each operation one level below.
use Rattle.std.specs.Prelude.{ℕ, ◌+◌, ◌-◌, Bool, true, false, ◌&&◌, ◌||◌, ◌==◌, not, if◌then◌else◌, List, [], ◌∷◌, ◌++◌, length, map, replicate}
use Rattle.std.specs.List.{list_all, list_any, filter}
use Rattle.task_types.specs.declared.outcome.Place.{Place}
use Rattle.task_types.specs.declared.outcome.Place.TheVariants.{Null, Input, Child, Chunk, Task}
use Rattle.task_types.specs.declared.outcome.Places.{Places}
use Rattle.task_types.specs.declared.outcome.NewTask.{NewTask}
use Rattle.task_types.specs.Presence.{Presence, Absent, Present, is_present, has_child, presence_at}
use Rattle.task_types.specs.Places.{places_of, filled, same_place, Shape, shape_from}
use Rattle.task_types.specs.Formed.{may_stand}
use Rattle.task_plans.specs.declared.plan.Term.{Term}
use Rattle.task_plans.specs.declared.plan.Part.{Part}
use Rattle.task_plans.specs.declared.plan.Part.TheVariants.{Portion, Itself, Alone, Either, Pair}
use Rattle.task_plans.specs.declared.plan.Ending.{Ending}
use Rattle.task_plans.specs.declared.plan.Ending.TheVariants.{Joined, Single}

-- ---- The rows of a table

-- the parts of a kind of height at least 1, and its ending
pub record Plan (O : Type 0) : Type 0 where
  pub parts : List (Part O)
  pub ending : Ending O

-- a term on children and inputs
abbrev pub term_on : {O : Type 0} → O → List Place → Term O
term_on what places = record { what = what; inputs = filled places }

-- ---- What the parts make

-- what is made so far: so many chunks without children, tasks, and the places of the parts
pub record Draft (K : Type 0) : Type 0 where
  pub chunks : ℕ
  pub tasks : List (NewTask K)
  pub places : List Place

-- nothing
abbrev pub no_draft : {K : Type 0} → Draft K
no_draft = record { chunks = 0; tasks = []; places = [] }

-- a new task
abbrev pub task_of : {K : Type 0} → K → Places → NewTask K
task_of kind inputs = record { kind = kind; inputs = inputs }

-- a part that gives a place alone
abbrev pub with_place : {K : Type 0} → Draft K → Place → Draft K
with_place draft place = record draft { places = draft.places ++ place ∷ [] }

-- a part whose place is the output of the last of these new tasks
abbrev pub with_tasks : {K : Type 0} → Draft K → List (NewTask K) → ℕ → Draft K
with_tasks draft tasks last =
    record draft { tasks = draft.tasks ++ tasks; places = draft.places ++ Task (length draft.tasks + last) ∷ [] }

-- a portion as a new chunk, if it has an entry
abbrev pub with_portion : {K : Type 0} → Draft K → K → Bool → Draft K
with_portion draft kind false = with_place draft Null
with_portion draft kind true =
    record (with_tasks draft (task_of kind (filled (Chunk draft.chunks ∷ [])) ∷ []) 0) { chunks = draft.chunks + 1 }

-- a child as it is, if it is there
abbrev pub with_itself : {K : Type 0} → Draft K → Place → Bool → Draft K
with_itself draft place false = with_place draft Null
with_itself draft place true = with_place draft place

-- one task, if what it names is there
abbrev pub with_alone : {K : Type 0} → Draft K → NewTask K → Bool → Draft K
with_alone draft task false = with_place draft Null
with_alone draft task true = with_tasks draft (task ∷ []) 0

-- a child of two inputs
abbrev pub with_either : {K : Type 0} → Draft K → K → ℕ → Bool → Bool → Draft K
with_either draft kind q false false = with_place draft Null
with_either draft kind q true false = with_place draft (Child 0 q)
with_either draft kind q false true = with_place draft (Child 1 q)
with_either draft kind q true true = with_tasks draft (task_of kind (filled (Child 0 q ∷ Child 1 q ∷ [])) ∷ []) 0

-- two tasks, of which each may be missing
abbrev pub with_pair : {K : Type 0} → Draft K → NewTask K → NewTask K → K → Bool → Bool → Draft K
with_pair draft one other sum false false = with_place draft Null
with_pair draft one other sum true false = with_tasks draft (one ∷ []) 0
with_pair draft one other sum false true = with_tasks draft (other ∷ []) 0
with_pair draft one other sum true true =
    with_tasks draft
    (one ∷ other ∷ task_of sum (filled (Task (length draft.tasks) ∷ Task (length draft.tasks + 1) ∷ [])) ∷ []) 2

-- whether all that a term names is there
abbrev pub is_ready : {O : Type 0} → List Presence → Term O → Bool
is_ready known term = list_all (may_stand known 0 0) (places_of term.inputs)

-- the task of a term
abbrev pub term_task : {O K : Type 0} → (O → K) → Term O → NewTask K
term_task kinds term = task_of (kinds term.what) term.inputs

-- What one more part makes. `chosen` tells which portions have an entry.
abbrev pub with_part : {O K : Type 0} → (O → K) → List Presence → Presence → Draft K → Part O → Draft K
with_part kinds known chosen draft (Portion what q symmetric) = with_portion draft (kinds what) (has_child chosen q)
with_part kinds known chosen draft (Itself i q) = with_itself draft (Child i q) (has_child (presence_at known i) q)
with_part kinds known chosen draft (Alone term) = with_alone draft (term_task kinds term) (is_ready known term)
with_part kinds known chosen draft (Either what q) =
    with_either draft (kinds what) q (has_child (presence_at known 0) q) (has_child (presence_at known 1) q)
with_part kinds known chosen draft (Pair one other sum) =
    with_pair draft (term_task kinds one) (term_task kinds other) (kinds sum) (is_ready known one) (is_ready known other)

-- what some parts make, one after another
abbrev pub with_parts : {O K : Type 0} → (O → K) → List Presence → Presence → Draft K → List (Part O) → Draft K
with_parts kinds known chosen draft [] = draft
with_parts kinds known chosen draft (part ∷ parts) =
    with_parts kinds known chosen (with_part kinds known chosen draft part) parts

-- ---- Shapes

-- the shape of an outcome with so many chunks without children
abbrev pub shape_with : {K : Type 0} → ℕ → List (NewTask K) → Place → Shape K
shape_with chunks tasks output = shape_from (replicate chunks (filled [])) tasks output

-- the shape of an outcome without new chunks and tasks
abbrev pub given_shape : {K : Type 0} → Place → Shape K
given_shape output = shape_with 0 [] output

-- the shape of one chunk without children as the result
abbrev pub chunk_shape : {K : Type 0} → Shape K
chunk_shape = shape_with 1 [] (Chunk 0)

-- whether all places are null
abbrev pub are_null : List Place → Bool
are_null places = list_all (same_place Null) places

-- the shape once a kind has joined the places of the parts, or the one place is the result
abbrev pub ended : {O K : Type 0} → (O → K) → Ending O → Draft K → Shape K
ended kinds (Joined what) draft =
    if are_null draft.places then given_shape Null
    else
    shape_with draft.chunks (draft.tasks ++ task_of (kinds what) (filled draft.places) ∷ []) (Task (length draft.tasks))
ended kinds Single draft = shape_with draft.chunks draft.tasks (filled draft.places).first

-- The shape of a kind of a height of at least 1 whose inputs are there, by its plan; `kind_at` gives the kind of each operation
-- at each height.
abbrev pub planned_shape : {O K : Type 0} → (ℕ → O → K) → ℕ → Plan O → List Presence → Presence → Shape K
planned_shape kind_at height plan known chosen =
    ended (kind_at height) plan.ending (with_parts (kind_at (height - 1)) known chosen no_draft plan.parts)

-- ---- Choices of portions

-- whether a part takes the portion with a number
abbrev pub takes : {O : Type 0} → ℕ → Part O → Bool
takes q (Portion what n symmetric) = n == q
takes q (Itself i n) = false
takes q (Alone term) = false
takes q (Either what n) = false
takes q (Pair one other sum) = false

-- whether some part takes the portion with a number
abbrev pub is_taken : {O : Type 0} → List (Part O) → ℕ → Bool
is_taken parts q = list_any (takes q) parts

-- the choices among four portions with at least one
abbrev pub choices : List Presence
choices =
    Present true false false false ∷ Present false true false false ∷ Present true true false false
    ∷ Present false false true false ∷ Present true false true false ∷ Present false true true false
    ∷ Present true true true false ∷ Present false false false true ∷ Present true false false true
    ∷ Present false true false true ∷ Present true true false true ∷ Present false false true true
    ∷ Present true false true true ∷ Present false true true true ∷ Present true true true true
    ∷ []

-- whether a choice has the portion with a number only where some part takes it
abbrev pub may_choose : {O : Type 0} → List (Part O) → Presence → ℕ → Bool
may_choose parts chosen q = not (has_child chosen q) || is_taken parts q

-- whether a choice has only portions that some part takes
abbrev pub is_choice : {O : Type 0} → List (Part O) → Presence → Bool
is_choice parts chosen =
    may_choose parts chosen 0 && may_choose parts chosen 1 && may_choose parts chosen 2 && may_choose parts chosen 3

-- which portions may have an entry: at least one where some part takes a portion
abbrev pub choices_of : {O : Type 0} → List (Part O) → List Presence
choices_of parts =
    if is_taken parts 0 || is_taken parts 1 || is_taken parts 2 || is_taken parts 3
    then filter (is_choice parts) choices
    else Absent ∷ []

-- the shapes of a kind of a height of at least 1 whose inputs are there
abbrev pub planned_shapes : {O K : Type 0} → (ℕ → O → K) → ℕ → Plan O → List Presence → List (Shape K)
planned_shapes kind_at height plan known = map (planned_shape kind_at height plan known) (choices_of plan.parts)

-- ---- Places of inputs

-- an input, or null where it is absent
abbrev pub input_place : List Presence → ℕ → Place
input_place known i = if is_present (presence_at known i) then Input i else Null

-- of two inputs the first that is there, else the second
abbrev pub other_place : List Presence → Place
other_place known = if is_present (presence_at known 0) then Input 0 else input_place known 1
