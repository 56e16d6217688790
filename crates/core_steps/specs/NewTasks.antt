-- What new tasks get for the places of their inputs, and what it takes to add them.
use Rattle.std.specs.Prelude.{◌≡◌, ℕ, ◌+◌, ◌<◌, ◌≤◌, List, [], ◌∷◌, length, Some}
use Rattle.cht_ids.specs.declared.refs.Ref.{Ref}
use Rattle.task_types.specs.declared.outcome.Place.{Place}
use Rattle.task_types.specs.declared.outcome.Place.TheVariants.{Null, Input as AtInput, Child, Chunk, Task}
use Rattle.name_states.specs.States.{NameState, IdRecord, id_at}
use Rattle.task_states.specs.declared.states.Awaiter.{Awaiter}
use Rattle.task_states.specs.declared.states.Slot.{Slot}
use Rattle.task_states.specs.declared.states.Slot.TheVariants.{Known, Awaits}
use Rattle.task_states.specs.States.{Unfinished, Graph, task_at, caller_of}
use Rattle.task_states.specs.Awaiters.{IsAwaiter, number_of}
use Rattle.name_machine.specs.Control.{with_number}
use Rattle.name_machine.specs.NewTasks.{drawn_for, number_at}

-- An input of a new task, after so many numbers that were drawn before: the output of a new task is awaited under the next number, and of
-- what any other place names there is a copy with the next number.
abbrev pub slot_for : (Place → Ref) → List ℕ → ℕ → Place → Slot
slot_for read numbers drawn Null = Known (with_number (read Null) 0)
slot_for read numbers drawn (AtInput i) = Known (with_number (read (AtInput i)) (drawn + 1))
slot_for read numbers drawn (Child i j) = Known (with_number (read (Child i j)) (drawn + 1))
slot_for read numbers drawn (Chunk i) = Known (with_number (read (Chunk i)) (drawn + 1))
slot_for read numbers drawn (Task i) = Awaits (number_at numbers i) (drawn + 1)

-- the same for all places in order
abbrev pub slots_for : (Place → Ref) → List ℕ → ℕ → List Place → List Slot
slots_for read numbers drawn [] = []
slots_for read numbers drawn (place ∷ places) = slot_for read numbers drawn place ∷ slots_for read numbers (drawn + drawn_for place) places

-- all identifiers stay, and the bodies are the same
pub record AreKept {C : Type 0} (before after : NameState C) : Type 0 where
  pub ids : (number : ℕ) (entry : IdRecord) → id_at before number ≡ Some entry → id_at after number ≡ Some entry
  pub bodies : after.bodies ≡ before.bodies

module _ {X K : Type 0} where
  -- no unfinished task has a number above this one, and none is awaited under such a number
  pub record IsGraphWithin (graph : Graph X K) (bound : ℕ) : Type 0 where
    pub tasks : (number : ℕ) (task : Unfinished X K) → task_at graph number ≡ Some task → number ≤ bound
    pub awaiters : (task : ℕ) (awaiter : Awaiter) → IsAwaiter graph task awaiter → number_of awaiter ≤ bound

  -- unfinished tasks of a caller
  abbrev pub AreTasksOf : Graph X K → ℕ → List ℕ → Type 0
  AreTasksOf graph caller numbers = (i : ℕ) → i < length numbers → caller_of graph (number_at numbers i) ≡ Some caller
