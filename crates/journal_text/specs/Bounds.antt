-- Which journals the text is read back of.
use Rattle.std.specs.Prelude.{ℕ, ◌^◌, ◌<◌, ◌≤◌, List, length}
use Rattle.std.specs.List.{AllByRecursion}
use Rattle.cht_ids.specs.declared.refs.Id.{Id}
use Rattle.cht_ids.specs.declared.refs.Ref.{Ref}
use Rattle.cht_ids.specs.declared.refs.Ref.TheVariants.{Null as NullRef, Id as Held}
use Rattle.task_types.specs.declared.outcome.Place.{Place}
use Rattle.task_types.specs.declared.outcome.Place.TheVariants.{Null, Input, Child, Chunk, Task}
use Rattle.task_types.specs.declared.outcome.Places.{Places}
use Rattle.task_types.specs.declared.outcome.NewTask.{NewTask}
use Rattle.task_types.specs.Places.{places_of}
use Rattle.cht_history.specs.declared.event.Event.{Event}
use Rattle.cht_history.specs.declared.event.Event.TheVariants.{Register, Copy, Delete, Ask, Collect, Abandon, Stop, Start, GiveBack, Finish}

-- a caller, a worker or an owner
abbrev pub IsActor : ℕ → Type 0
IsActor n = n < 64

-- the number of a task or of an identifier
abbrev pub IsNumber : ℕ → Type 0
IsNumber n = (1 ≤ n) × (n < 2 ^ 128)

-- an identifier
abbrev pub IsName : Id → Type 0
IsName id = IsActor id.owner × IsNumber id.number

-- a reference
abbrev pub IsMention : Ref → Type 0
IsMention NullRef = Unit {0}
IsMention (Held id) = IsName id

-- at most four references
abbrev pub AreMentions : List Ref → Type 0
AreMentions refs = (length refs ≤ 4) × AllByRecursion IsMention refs

-- a place: its numbers have 8 bits
abbrev pub IsPlace : Place → Type 0
IsPlace Null = Unit {0}
IsPlace (Input i) = i < 256
IsPlace (Child i j) = (i < 256) × (j < 256)
IsPlace (Chunk i) = i < 256
IsPlace (Task i) = i < 256

-- the places of a new chunk, or of a new task
abbrev pub ArePlaces : Places → Type 0
ArePlaces places = AllByRecursion IsPlace (places_of places)

module _ {K : Type 0} (height_of : K → ℕ) where
  -- a kind of a height that blocks may have
  abbrev pub IsLow : K → Type 0
  IsLow kind = height_of kind ≤ 16

  -- a new task
  abbrev pub IsTask : NewTask K → Type 0
  IsTask task = IsLow task.kind × ArePlaces task.inputs

  -- an event all of whose numbers are in their ranges
  abbrev pub IsWithin : Event K → Type 0
  IsWithin (Register caller id children) = IsActor caller × IsName id × AreMentions children
  IsWithin (Copy caller from to) = IsActor caller × IsName from × IsName to
  IsWithin (Delete caller id) = IsActor caller × IsName id
  IsWithin (Ask caller task kind inputs) = IsActor caller × IsNumber task × IsLow kind × AreMentions inputs
  IsWithin (Collect caller task got) = IsActor caller × IsNumber task × IsMention got
  IsWithin (Abandon caller) = IsActor caller
  IsWithin (Stop caller) = IsActor caller
  IsWithin (Start worker task) = IsActor worker × IsNumber task
  IsWithin (GiveBack worker task) = IsActor worker × IsNumber task
  IsWithin (Finish worker task chunks tasks result) =
      IsActor worker × IsNumber task × (length chunks < 2 ^ 64) × AllByRecursion ArePlaces chunks
      × (length tasks < 2 ^ 64) × AllByRecursion IsTask tasks × IsPlace result

  -- a journal of such events
  abbrev pub AreWithin : List (Event K) → Type 0
  AreWithin events = AllByRecursion IsWithin events
