-- Identifiers that go one after the other, what a task holds in a list of references, and which of some tasks are Ready.
use Rattle.std.specs.Prelude.{◌≡◌, ℕ, Bool, true, false, if◌then◌else◌, List, [], ◌∷◌, ◌++◌, slice_get, Some}
use Rattle.std.specs.List.{list_any}
use Rattle.std.specs.Option.{ForSome}
use Rattle.cht_ids.specs.declared.refs.Id.{Id}
use Rattle.cht_ids.specs.declared.refs.Ref.{Ref}
use Rattle.cht_ids.specs.declared.refs.Ref.TheVariants.{Null, Id as Held}
use Rattle.task_types.specs.declared.outcome.Place.{Place}
use Rattle.task_types.specs.declared.outcome.Place.TheVariants.{Null as NullPlace, Input, Child, Chunk, Task}
use Rattle.task_types.specs.declared.outcome.NewTask.{NewTask}
use Rattle.task_types.specs.Places.{places_of}
use Rattle.name_states.specs.declared.holder.Holder.TheVariants.{Task as ByTask}
use Rattle.name_states.specs.States.{NameState, IdRecord, id_at, holder_of, IsLive}
use Rattle.name_states.specs.Steps.{IsOutside, without_id}
use Rattle.name_states.specs.Reached.{swept}
use Rattle.task_states.specs.declared.states.TaskStatus.{TaskStatus}
use Rattle.task_states.specs.declared.states.TaskStatus.TheVariants.{Unknown, Waiting, Ready, Running}
use Rattle.task_states.specs.States.{Graph, status}

-- whether a status is that of a task that can be run
abbrev pub is_ready : TaskStatus → Bool
is_ready Unknown = false
is_ready Waiting = false
is_ready Ready = true
is_ready Running = false

-- whether a task can be run
abbrev pub is_ready_in : {X K : Type 0} → Graph X K → ℕ → Bool
is_ready_in graph task = is_ready (status graph task)

-- whether a place names the output of a new task
abbrev pub names_task : Place → Bool
names_task NullPlace = false
names_task (Input i) = false
names_task (Child i j) = false
names_task (Chunk i) = false
names_task (Task i) = true

-- whether one of four holds
abbrev pub any_of : Bool → Bool → Bool → Bool → Bool
any_of first second third fourth = if first then true else (if second then true else (if third then true else fourth))

module _ {K : Type 0} where
  -- the number of a new task, where it awaits nothing: no input is the output of a new task
  abbrev pub idle_number : NewTask K → ℕ → List ℕ
  idle_number task number = if list_any names_task (places_of task.inputs) then [] else number ∷ []

  -- the numbers of those of new tasks, in order, that await nothing
  abbrev pub idle_numbers : List (NewTask K) → List ℕ → List ℕ
  idle_numbers [] numbers = []
  idle_numbers (task ∷ tasks) [] = []
  idle_numbers (task ∷ tasks) (number ∷ numbers) = idle_number task number ++ idle_numbers tasks numbers

module _ {C : Type 0} where
  -- an identifier goes, where the reference is not null, and then what is not reached
  abbrev pub deleted_ref : NameState C → Ref → NameState C
  deleted_ref names Null = names
  deleted_ref names (Held id) = swept (without_id names id.number)

  -- the same for all references in order
  abbrev pub deleted_refs : NameState C → List Ref → NameState C
  deleted_refs names [] = names
  deleted_refs names (r ∷ refs) = deleted_refs (deleted_ref names r) refs

  -- a reference is null, or a live identifier that a caller or a task holds
  abbrev pub IsDeletable : NameState C → Ref → Type 0
  IsDeletable names Null = Unit {0}
  IsDeletable names (Held id) = IsLive names id × ForSome (holder_of names id) IsOutside

  -- each of these is so, once those before it are gone
  abbrev pub AreDeletable : NameState C → List Ref → Type 0
  AreDeletable names [] = Unit {0}
  AreDeletable names (r ∷ refs) = IsDeletable names r × AreDeletable (deleted_ref names r) refs

  -- The identifiers that a task holds are exactly the references of a list that are not null, each once.
  pub record HoldsExactly (names : NameState C) (task : ℕ) (refs : List Ref) : Type 0 where
    pub held : (place : ℕ) (id : Id) → slice_get refs place ≡ Some (Held id) → holder_of names id ≡ Some (ByTask task)
    pub once : (place other : ℕ) (one two : Id) → slice_get refs place ≡ Some (Held one) → slice_get refs other ≡ Some (Held two)
        → one.number ≡ two.number → place ≡ other
    pub all : (number : ℕ) (entry : IdRecord) → id_at names number ≡ Some entry → entry.holder ≡ ByTask task
        → (place : ℕ) × (slice_get refs place ≡ Some (Held (record { owner = entry.owner; number = number })))
