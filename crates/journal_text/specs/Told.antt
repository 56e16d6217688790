-- What the text tells of a journal: all but what stands in places past their number.
use Rattle.std.specs.Prelude.{map}
use Rattle.task_types.specs.declared.outcome.Places.{Places}
use Rattle.task_types.specs.declared.outcome.NewTask.{NewTask}
use Rattle.task_types.specs.Places.{places_of, filled}
use Rattle.cht_history.specs.declared.event.Event.{Event}
use Rattle.cht_history.specs.declared.event.Event.TheVariants.{Register, Copy, Delete, Ask, Collect, Abandon, Stop, Start, GiveBack, Finish}

-- the places that count, with null past them
abbrev pub told_places : Places → Places
told_places places = filled (places_of places)

module _ {K : Type 0} where
  -- the same of a new task
  abbrev pub told_task : NewTask K → NewTask K
  told_task task = record { kind = task.kind; inputs = told_places task.inputs }

  -- and of an event
  abbrev pub told : Event K → Event K
  told (Register caller id children) = Register caller id children
  told (Copy caller from to) = Copy caller from to
  told (Delete caller id) = Delete caller id
  told (Ask caller task kind inputs) = Ask caller task kind inputs
  told (Collect caller task got) = Collect caller task got
  told (Abandon caller) = Abandon caller
  told (Stop caller) = Stop caller
  told (Start worker task) = Start worker task
  told (GiveBack worker task) = GiveBack worker task
  told (Finish worker task chunks tasks result) = Finish worker task (map told_places chunks) (map told_task tasks) result
