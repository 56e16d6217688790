-- An outcome that is built step by step: what is known of its chunks, its tasks, and the places that are left to be used.
use Rattle.std.specs.Prelude.{◌≡◌, ℕ, ◌+◌, ◌<◌, Bool, true, ◌||◌, List, [], ◌++◌, length, map, drop}
use Rattle.std.specs.List.{list_all, AllByRecursion}
use Rattle.task_types.specs.declared.outcome.Place.{Place}
use Rattle.task_types.specs.declared.outcome.Place.TheVariants.{Chunk, Task}
use Rattle.task_types.specs.declared.outcome.NewTask.{NewTask}
use Rattle.task_types.specs.declared.outcome.NewChunk.{NewChunk}
use Rattle.task_types.specs.Tree.{Tree}
use Rattle.task_types.specs.Presence.{presence_of}
use Rattle.task_types.specs.Places.{is_among, task_shape}
use Rattle.task_types.specs.Formed.{may_stand, AreFormedChunks, AreFormedTasks, is_child_of, is_input_of}
use Rattle.task_types.specs.Reading.{reading, in_order, chunk_tree, Call, goals_of, call_of}
use Rattle.task_types.specs.Meanings.{Meanings}

-- whether a new chunk is used by a later chunk, by a task, or by one of the places that are left
abbrev pub is_chunk_held : {C K : Type 0} → List (NewChunk C) → List (NewTask K) → List Place → ℕ → Bool
is_chunk_held chunks tasks places i =
    is_child_of (Chunk i) (drop (i + 1) chunks) || is_input_of (Chunk i) tasks || is_among (Chunk i) places

-- whether a new task is used by a later task, or by one of the places that are left
abbrev pub is_task_held : {K : Type 0} → List (NewTask K) → List Place → ℕ → Bool
is_task_held tasks places i = is_input_of (Task i) (drop (i + 1) tasks) || is_among (Task i) places

-- the trees of new chunks, one after another
abbrev pub trees_of : {C : Type 0} → List (Tree C) → List (NewChunk C) → List (Tree C)
trees_of inputs chunks = in_order (chunk_tree inputs) [] chunks

-- new tasks on the trees of their inputs, over these trees of new chunks
abbrev pub calls_of : {C K : Type 0} → (K → List (Tree C) → Tree C) → List (Tree C) → List (Tree C) → List (NewTask K)
    → List (Call C K)
calls_of goal inputs chunks tasks = in_order (call_of goal inputs chunks) [] (map task_shape tasks)

-- the goals of these calls are defined, of lower rank, and these trees
pub record AreAsked {C K : Type 0} (lib : Meanings C K) (rank : ℕ) (calls : List (Call C K)) (goals : List (Tree C))
    : Type 0 where
  pub defined : AllByRecursion (λ (call : Call C K). lib.defined call.kind call.inputs) calls
  pub lower : AllByRecursion (λ (call : Call C K). lib.rank call.kind < rank) calls
  pub same : goals_of lib.goal calls ≡ goals

-- What holds of the chunks and tasks that an outcome has so far, for a kind of this rank on these inputs, and of the
-- places that are left to be used: they read as these trees, whatever chunks and tasks come later.
pub record IsStage {C K : Type 0} (arity : C → ℕ) (lib : Meanings C K) (rank : ℕ) (inputs : List (Tree C))
    (chunks : List (NewChunk C)) (tasks : List (NewTask K)) (places : List Place) (trees : List (Tree C))
    : Type 0 where
  pub chunks_formed : AreFormedChunks arity (map presence_of inputs) chunks
  pub tasks_formed : AreFormedTasks (map presence_of inputs) (length chunks) tasks
  pub stand : list_all (may_stand (map presence_of inputs) (length chunks) (length tasks)) places ≡ true
  pub chunks_held : (i : ℕ) → i < length chunks → is_chunk_held chunks tasks places i ≡ true
  pub tasks_held : (i : ℕ) → i < length tasks → is_task_held tasks places i ≡ true
  pub goals : List (Tree C)
  pub asked :
      (later : List (Tree C)) → AreAsked lib rank (calls_of lib.goal inputs (trees_of inputs chunks ++ later) tasks) goals
  pub read : (later more : List (Tree C)) → map (reading inputs (trees_of inputs chunks ++ later) (goals ++ more)) places ≡ trees
