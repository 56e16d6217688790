-- The numbers that a finished task draws for what it registers, and its new tasks. What a known input is stays open: a tree, or a
-- reference.
use Rattle.std.specs.Prelude.{ℕ, zero, suc, ◌+◌, List, [], ◌∷◌}
use Rattle.task_types.specs.declared.outcome.Place.{Place}
use Rattle.task_types.specs.declared.outcome.Place.TheVariants.{Null, Input as AtInput, Child, Chunk, Task}
use Rattle.task_types.specs.declared.outcome.Places.{Places}
use Rattle.task_types.specs.declared.outcome.NewTask.{NewTask}
use Rattle.task_types.specs.Places.{places_of}
use Rattle.task_states.specs.States.{Input, Known, Awaits, Graph}
use Rattle.task_states.specs.Steps.{added}

-- how many numbers a place draws: one where it is not null
abbrev pub drawn_for : Place → ℕ
drawn_for Null = 0
drawn_for (AtInput i) = 1
drawn_for (Child i j) = 1
drawn_for (Chunk i) = 1
drawn_for (Task i) = 1

-- how many of these places are not null
abbrev pub taken : List Place → ℕ
taken [] = 0
taken (place ∷ places) = drawn_for place + taken places

-- how many numbers new chunks draw: each one for the body, one for its identifier, and one for each child that is not null
abbrev pub drawn_by_chunks : List Places → ℕ
drawn_by_chunks [] = 0
drawn_by_chunks (chunk ∷ chunks) = 2 + taken (places_of chunk) + drawn_by_chunks chunks

-- the number at a place of a list, counted from 0; 0 past the end
abbrev pub number_at : List ℕ → ℕ → ℕ
number_at [] i = 0
number_at (number ∷ numbers) zero = number
number_at (number ∷ numbers) (suc i) = number_at numbers i

module _ {K : Type 0} where
  -- how many numbers new tasks draw: each one for itself, and one for each input that is not null
  abbrev pub drawn_by_tasks : List (NewTask K) → ℕ
  drawn_by_tasks [] = 0
  drawn_by_tasks (task ∷ tasks) = 1 + taken (places_of task.inputs) + drawn_by_tasks tasks

  -- the numbers of new tasks, after so many numbers that were drawn before
  abbrev pub task_numbers : ℕ → List (NewTask K) → List ℕ
  task_numbers drawn [] = []
  task_numbers drawn (task ∷ tasks) = (drawn + 1) ∷ task_numbers (drawn + 1 + taken (places_of task.inputs)) tasks

module _ {X : Type 0} where
  -- The inputs of a new task, after so many numbers that were drawn before. An input that is a new task's output awaits that
  -- task, under the number that is drawn for it; every other one is known.
  abbrev pub new_inputs : (Place → ℕ → X) → List ℕ → ℕ → List Place → List (Input X)
  new_inputs value numbers drawn [] = []
  new_inputs value numbers drawn (Null ∷ places) = Known (value Null 0) ∷ new_inputs value numbers drawn places
  new_inputs value numbers drawn (AtInput i ∷ places) = Known (value (AtInput i) (drawn + 1)) ∷ new_inputs value numbers (drawn + 1) places
  new_inputs value numbers drawn (Child i j ∷ places) = Known (value (Child i j) (drawn + 1)) ∷ new_inputs value numbers (drawn + 1) places
  new_inputs value numbers drawn (Chunk i ∷ places) = Known (value (Chunk i) (drawn + 1)) ∷ new_inputs value numbers (drawn + 1) places
  new_inputs value numbers drawn (Task i ∷ places) = Awaits (number_at numbers i) (drawn + 1) ∷ new_inputs value numbers (drawn + 1) places

module _ {X K : Type 0} where
  -- New tasks of a caller, in order, after so many numbers that were drawn before. The value of a place that is not a task's
  -- output may depend on the number that is drawn for it.
  abbrev pub with_tasks : (Place → ℕ → X) → List ℕ → ℕ → ℕ → List (NewTask K) → Graph X K → Graph X K
  with_tasks value numbers caller drawn [] graph = graph
  with_tasks value numbers caller drawn (task ∷ tasks) graph =
      with_tasks value numbers caller (drawn + 1 + taken (places_of task.inputs)) tasks
      (added graph (drawn + 1) caller task.kind (new_inputs value numbers (drawn + 1) (places_of task.inputs)))
