-- The rules of a formed outcome.
use Rattle.std.specs.Prelude.{◌≡◌, ℕ, ◌+◌, ◌≤◌, Bool, true, ◌||◌, nat_lt, IsTrue, Some, List, length, drop, slice_get, EachIndex}
use Rattle.std.specs.List.{list_all, list_any}
use Rattle.task_types.specs.declared.outcome.Place.{Place}
use Rattle.task_types.specs.declared.outcome.Place.TheVariants.{Null, Input, Child, Chunk, Task}
use Rattle.task_types.specs.declared.outcome.Places.{Places}
use Rattle.task_types.specs.declared.outcome.NewTask.{NewTask}
use Rattle.task_types.specs.declared.outcome.NewChunk.{NewChunk}
use Rattle.task_types.specs.declared.outcome.Outcome.{Outcome}
use Rattle.task_types.specs.Presence.{Presence, is_present, has_child, presence_at}
use Rattle.task_types.specs.Places.{places_of, same_place, is_among}

-- Whether a place may stand where only the first so many new chunks and new tasks may be named, for inputs of which
-- this is known: it is null, or it names an input or a child that is there, or one of those chunks or tasks.
abbrev pub may_stand : List Presence → ℕ → ℕ → Place → Bool
may_stand known chunks tasks Null = true
may_stand known chunks tasks (Input i) = is_present (presence_at known i)
may_stand known chunks tasks (Child i j) = has_child (presence_at known i) j
may_stand known chunks tasks (Chunk i) = nat_lt i chunks
may_stand known chunks tasks (Task i) = nat_lt i tasks

-- at most four places, each of which may stand
pub record MayStand (known : List Presence) (chunks tasks : ℕ) (places : Places) : Type 0 where
  pub few : places.count ≤ 4
  pub each : IsTrue (list_all (may_stand known chunks tasks) (places_of places))

-- a new chunk has as many child places as its arity, and among the new things they name only earlier chunks
pub record IsFormedChunk {C : Type 0} (arity : C → ℕ) (known : List Presence) (earlier : ℕ) (chunk : NewChunk C)
    : Type 0 where
  pub all_children : chunk.children.count ≡ arity chunk.body
  pub places : MayStand known earlier 0 chunk.children

-- all new chunks are so
abbrev pub AreFormedChunks : {C : Type 0} → (C → ℕ) → List Presence → List (NewChunk C) → Type 0
AreFormedChunks {C} arity known chunks =
    (i : ℕ) (chunk : NewChunk C) → slice_get chunks i ≡ Some chunk → IsFormedChunk arity known i chunk

-- the inputs of each new task name, among the new tasks, only earlier ones
abbrev pub AreFormedTasks : {K : Type 0} → List Presence → ℕ → List (NewTask K) → Type 0
AreFormedTasks {K} known chunks tasks =
    (i : ℕ) (task : NewTask K) → slice_get tasks i ≡ Some task → MayStand known chunks i task.inputs

-- whether a place is a child of one of these new chunks
abbrev pub is_child_of : {C : Type 0} → Place → List (NewChunk C) → Bool
is_child_of {C} place chunks = list_any (λ (chunk : NewChunk C). is_among place (places_of chunk.children)) chunks

-- whether a place is an input of one of these new tasks
abbrev pub is_input_of : {K : Type 0} → Place → List (NewTask K) → Bool
is_input_of {K} place tasks = list_any (λ (task : NewTask K). is_among place (places_of task.inputs)) tasks

-- whether a new chunk is mentioned by a later chunk or by a task, or is the result
abbrev pub is_chunk_used : {C K : Type 0} → List (NewChunk C) → List (NewTask K) → Place → ℕ → Bool
is_chunk_used chunks tasks result i =
    is_child_of (Chunk i) (drop (i + 1) chunks) || is_input_of (Chunk i) tasks || same_place (Chunk i) result

-- whether a new task is mentioned by a later task, or is the result
abbrev pub is_task_used : {K : Type 0} → List (NewTask K) → Place → ℕ → Bool
is_task_used tasks result i = is_input_of (Task i) (drop (i + 1) tasks) || same_place (Task i) result

-- The rules of a formed outcome with these new chunks, new tasks and result, for contents with these arities and
-- inputs of which this is known.
pub record KeepsRules {C K : Type 0} (arity : C → ℕ) (known : List Presence) (chunks : List (NewChunk C))
    (tasks : List (NewTask K)) (result : Place) : Type 0 where
  pub few_chunks : length chunks ≤ 8
  pub few_tasks : length tasks ≤ 16
  pub chunks_formed : AreFormedChunks arity known chunks
  pub tasks_formed : AreFormedTasks known (length chunks) tasks
  pub result_stands : IsTrue (may_stand known (length chunks) (length tasks) result)
  pub chunks_used : EachIndex chunks (λ i. IsTrue (is_chunk_used chunks tasks result i))
  pub tasks_used : EachIndex tasks (λ i. IsTrue (is_task_used tasks result i))

-- an outcome is formed
abbrev pub IsFormed : {C K : Type 0} → (C → ℕ) → List Presence → Outcome C K → Type 0
IsFormed arity known outcome = KeepsRules arity known outcome.chunks outcome.tasks outcome.result
