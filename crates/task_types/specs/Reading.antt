-- The trees that the places of an outcome name.
use Rattle.std.specs.Prelude.{List, [], ◌∷◌, ◌++◌, map}
use Rattle.task_types.specs.declared.outcome.Place.{Place}
use Rattle.task_types.specs.declared.outcome.Place.TheVariants.{Null, Input, Child, Chunk, Task}
use Rattle.task_types.specs.declared.outcome.NewChunk.{NewChunk}
use Rattle.task_types.specs.declared.outcome.Outcome.{Outcome}
use Rattle.task_types.specs.Tree.{Tree, Nothing, tree_at, child, rooted}
use Rattle.task_types.specs.Places.{places_of, TaskShape, shape_of}

-- the tree that a place names, over the trees of the inputs, of the new chunks and of the new tasks' outputs
abbrev pub reading : {C : Type 0} → List (Tree C) → List (Tree C) → List (Tree C) → Place → Tree C
reading inputs chunks tasks Null = Nothing
reading inputs chunks tasks (Input i) = tree_at inputs i
reading inputs chunks tasks (Child i j) = child (tree_at inputs i) j
reading inputs chunks tasks (Chunk i) = tree_at chunks i
reading inputs chunks tasks (Task i) = tree_at tasks i

-- what the items of a list give, in order, each from what the items before it gave
abbrev pub in_order : {X Y : Type 0} → (List Y → X → Y) → List Y → List X → List Y
in_order step before [] = before
in_order step before (x ∷ xs) = in_order step (before ++ step before x ∷ []) xs

-- the tree of a new chunk, over the trees of the chunks before it
abbrev pub chunk_tree : {C : Type 0} → List (Tree C) → List (Tree C) → NewChunk C → Tree C
chunk_tree inputs before chunk = rooted chunk.body (map (reading inputs before []) (places_of chunk.children))

-- the trees of the new chunks of an outcome
abbrev pub new_trees : {C K : Type 0} → List (Tree C) → Outcome C K → List (Tree C)
new_trees inputs outcome = in_order (chunk_tree inputs) [] outcome.chunks

-- a kind on the trees of its inputs
pub record Call (C K : Type 0) : Type 0 where
  pub kind : K
  pub inputs : List (Tree C)

-- the goals of calls
abbrev pub goals_of : {C K : Type 0} → (K → List (Tree C) → Tree C) → List (Call C K) → List (Tree C)
goals_of {C} {K} goal calls = map (λ (call : Call C K). goal call.kind call.inputs) calls

-- a new task on the trees of its inputs, where each task before it is read as its goal
abbrev pub call_of : {C K : Type 0} → (K → List (Tree C) → Tree C) → List (Tree C) → List (Tree C) → List (Call C K)
    → TaskShape K → Call C K
call_of goal inputs chunks before task =
    record { kind = task.kind; inputs = map (reading inputs chunks (goals_of goal before)) task.inputs }

-- the new tasks of an outcome, on the trees of their inputs
abbrev pub new_calls : {C K : Type 0} → (K → List (Tree C) → Tree C) → List (Tree C) → Outcome C K → List (Call C K)
new_calls goal inputs outcome =
    in_order (call_of goal inputs (new_trees inputs outcome)) [] (shape_of outcome).tasks

-- the tree that an outcome's result names
abbrev pub result_tree : {C K : Type 0} → (K → List (Tree C) → Tree C) → List (Tree C) → Outcome C K → Tree C
result_tree goal inputs outcome =
    reading inputs (new_trees inputs outcome) (goals_of goal (new_calls goal inputs outcome)) outcome.result
