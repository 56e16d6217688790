-- The places of an outcome, and its shape: what is left of it without contents.
use Rattle.std.specs.Prelude.{◌≡◌, ◌⊎◌, ℕ, zero, suc, Bool, true, false, ◌&&◌, ◌==◌, List, [], ◌∷◌, length, map, take}
use Rattle.std.specs.List.{list_any}
use Rattle.task_types.specs.declared.outcome.Place.{Place}
use Rattle.task_types.specs.declared.outcome.Place.TheVariants.{Null, Input, Child, Chunk, Task}
use Rattle.task_types.specs.declared.outcome.Places.{Places}
use Rattle.task_types.specs.declared.outcome.NewTask.{NewTask}
use Rattle.task_types.specs.declared.outcome.NewChunk.{NewChunk}
use Rattle.task_types.specs.declared.outcome.Outcome.{Outcome}

-- the first `count` places, at most four
abbrev pub places_of : Places → List Place
places_of places = take places.count (places.first ∷ places.second ∷ places.third ∷ places.fourth ∷ [])

-- the place with a number, counted from 0; null past the end
abbrev pub place_at : List Place → ℕ → Place
place_at [] i = Null
place_at (place ∷ places) zero = place
place_at (place ∷ places) (suc i) = place_at places i

-- places in order, with null past them
abbrev pub filled : List Place → Places
filled places = record {
  count = length places;
  first = place_at places 0;
  second = place_at places 1;
  third = place_at places 2;
  fourth = place_at places 3;
}

-- whether two places are the same
abbrev pub same_place : Place → Place → Bool
same_place Null Null = true
same_place (Input i) (Input k) = i == k
same_place (Child i j) (Child k l) = (i == k) && (j == l)
same_place (Chunk i) (Chunk k) = i == k
same_place (Task i) (Task k) = i == k
same_place _ _ = false

-- whether a place is one of these
abbrev pub is_among : Place → List Place → Bool
is_among place places = list_any (same_place place) places

-- a new task with the list of its places
pub record TaskShape (K : Type 0) : Type 0 where
  pub kind : K
  pub inputs : List Place

-- The shape of an outcome: the child places of its new chunks, its new tasks, and its result.
pub record Shape (K : Type 0) : Type 0 where
  pub chunks : List (List Place)
  pub tasks : List (TaskShape K)
  pub result : Place

-- the shape of a new task
abbrev pub task_shape : {K : Type 0} → NewTask K → TaskShape K
task_shape task = record { kind = task.kind; inputs = places_of task.inputs }

-- the shape of new chunks with these child places, of new tasks and of a result
abbrev pub shape_from : {K : Type 0} → List Places → List (NewTask K) → Place → Shape K
shape_from chunks tasks result =
    record { chunks = map places_of chunks; tasks = map task_shape tasks; result = result }

-- the shape of an outcome
abbrev pub shape_of : {C K : Type 0} → Outcome C K → Shape K
shape_of {C} {K} outcome =
    shape_from (map (λ (chunk : NewChunk C). chunk.children) outcome.chunks) outcome.tasks outcome.result

-- whether a shape is one of these
abbrev pub IsOneOf : {K : Type 0} → Shape K → List (Shape K) → Type 0
IsOneOf shape [] = ⊥
IsOneOf shape (first ∷ shapes) = (shape ≡ first) ⊎ IsOneOf shape shapes
