-- The parts of callers and workers: what each sees of a state and its history.
use Rattle.std.specs.Prelude.{ℕ, ◌+◌, ◌==◌, Bool, false, if◌then◌else◌, List, [], ◌∷◌, map as each, filter, sum, Option, None, Some}
use Rattle.std.specs.Ordering.{nat_cmp}
use Rattle.std.specs.FinMap as map
use Rattle.task_types.specs.declared.outcome.NewTask.{NewTask}
use Rattle.task_types.specs.Tree.{Tree}
use Rattle.task_types.specs.Places.{places_of}
use Rattle.task_types.specs.Meanings.{Meanings}
use Rattle.name_states.specs.Steps.{present}
use Rattle.task_states.specs.Maps.{chosen}
use Rattle.task_states.specs.States.{Unfinished}
use Rattle.cht_history.specs.declared.event.Event.{Event}
use Rattle.cht_history.specs.declared.event.Event.TheVariants.{Register, Copy, Delete, Ask as AskEvent, Collect, Abandon, Stop, Start, GiveBack, Finish}
use Rattle.name_machine.specs.States.{Machine, Holding, Ask}
use Rattle.name_machine.specs.NewTasks.{taken, drawn_by_chunks, drawn_by_tasks}
use Rattle.name_machine.specs.Steps.{input_trees}
use Rattle.name_machine.specs.Goals.{read_input, goal_of}
use Rattle.name_machine.specs.Replay.{is_runner}

-- an identifier's owner and the tree that it names
pub record Named (C : Type 0) : Type 0 where
  pub owner : ℕ
  pub tree : Tree C

-- The part of a caller: its identifiers by number with what they name, its asks with their goals, its account, and its events but
-- for stops.
pub record CallerPart (C K : Type 0) : Type 0 where
  pub names : map.FinMap nat_cmp (Named C)
  pub asks : map.FinMap nat_cmp (Tree C)
  pub account : ℕ
  pub events : List (Event K)

-- The part of a worker: the task that it runs with its kind and the trees of its inputs, or nothing, and its events.
pub record Running (C K : Type 0) : Type 0 where
  pub task : ℕ
  pub kind : K
  pub inputs : List (Tree C)

pub record WorkerPart (C K : Type 0) : Type 0 where
  pub runs : Option (Running C K)
  pub events : List (Event K)

module _ {C : Type 0} where
  -- what an identifier is to a caller that holds it
  abbrev pub named_for : ℕ → ℕ → Holding C → Option (Named C)
  named_for caller number holding = if holding.caller == caller then Some (record { owner = holding.owner; tree = holding.tree }) else None

  -- the identifiers of a caller
  abbrev pub names_of : map.FinMap nat_cmp (Holding C) → ℕ → map.FinMap nat_cmp (Named C)
  names_of holdings caller = chosen (named_for caller) holdings

  -- the goal of an ask, where it is a caller's
  abbrev pub goal_for : ℕ → ℕ → Ask (Tree C) (Tree C) → Option (Tree C)
  goal_for caller task ask = if ask.caller == caller then Some ask.goal else None

  -- the goals of a caller's asks, by the numbers of the tasks that it asked
  abbrev pub asks_of : map.FinMap nat_cmp (Ask (Tree C) (Tree C)) → ℕ → map.FinMap nat_cmp (Tree C)
  asks_of asks caller = chosen (goal_for caller) asks

module _ {K : Type 0} where
  -- whether an event is one of a caller's own: all that it did, but no stop
  abbrev pub is_callers_own : ℕ → Event K → Bool
  is_callers_own caller (Register by id children) = by == caller
  is_callers_own caller (Copy by from to) = by == caller
  is_callers_own caller (Delete by id) = by == caller
  is_callers_own caller (AskEvent by task kind inputs) = by == caller
  is_callers_own caller (Collect by task got) = by == caller
  is_callers_own caller (Abandon by) = by == caller
  is_callers_own caller (Stop by) = false
  is_callers_own caller (Start worker task) = false
  is_callers_own caller (GiveBack worker task) = false
  is_callers_own caller (Finish worker task chunks tasks result) = false

  -- whether an event is one of a worker's own
  abbrev pub is_workers_own : ℕ → Event K → Bool
  is_workers_own worker (Register caller id children) = false
  is_workers_own worker (Copy caller from to) = false
  is_workers_own worker (Delete caller id) = false
  is_workers_own worker (AskEvent caller task kind inputs) = false
  is_workers_own worker (Collect caller task got) = false
  is_workers_own worker (Abandon caller) = false
  is_workers_own worker (Stop caller) = false
  is_workers_own worker (Start by task) = by == worker
  is_workers_own worker (GiveBack by task) = by == worker
  is_workers_own worker (Finish by task chunks tasks result) = by == worker

-- What a list of events tells of tasks: how many numbers were drawn, and whose task each number is.
pub record Told : Type 0 where
  pub drawn : ℕ
  pub callers : map.FinMap nat_cmp ℕ

-- nothing is told yet
abbrev pub untold : Told
untold = record { drawn = 0; callers = map.empty }

-- whether a number is the task of a caller
abbrev pub is_whose : ℕ → Option ℕ → Bool
is_whose caller None = false
is_whose caller (Some other) = other == caller

module _ {K : Type 0} where
  -- new tasks are their caller's, after so many numbers that were drawn before
  abbrev pub told_tasks : ℕ → ℕ → List (NewTask K) → map.FinMap nat_cmp ℕ → map.FinMap nat_cmp ℕ
  told_tasks caller drawn [] callers = callers
  told_tasks caller drawn (task ∷ tasks) callers =
      told_tasks caller (drawn + 1 + taken (places_of task.inputs)) tasks (map.insert callers (drawn + 1) caller)

  -- new tasks are those of the caller whose task was finished, if it was anybody's
  abbrev pub told_finish : Option ℕ → ℕ → List (NewTask K) → map.FinMap nat_cmp ℕ → map.FinMap nat_cmp ℕ
  told_finish None drawn tasks callers = callers
  told_finish (Some caller) drawn tasks callers = told_tasks caller drawn tasks callers

  -- what is told after one more event
  abbrev pub told_more : Told → Event K → Told
  told_more told (Register caller id children) = record told { drawn = told.drawn + 2 + present children }
  told_more told (Copy caller from to) = record told { drawn = told.drawn + 1 }
  told_more told (Delete caller id) = told
  told_more told (AskEvent caller task kind inputs) =
      record { drawn = told.drawn + 2 + present inputs; callers = map.insert told.callers (told.drawn + 1) caller }
  told_more told (Collect caller task got) = told
  told_more told (Abandon caller) = told
  told_more told (Stop caller) = told
  told_more told (Start worker task) = told
  told_more told (GiveBack worker task) = told
  told_more told (Finish worker task chunks tasks result) =
      let drawn : ℕ = told.drawn + drawn_by_chunks chunks in
      record { drawn = drawn + drawn_by_tasks tasks; callers = told_finish (map.get told.callers task) drawn tasks told.callers }

  -- what is told after events in order
  abbrev pub told_after : Told → List (Event K) → Told
  told_after told [] = told
  told_after told (event ∷ events) = told_after (told_more told event) events

  -- how many tasks of a caller an event finishes
  abbrev pub finishes_by : Told → ℕ → Event K → ℕ
  finishes_by told caller (Register by id children) = 0
  finishes_by told caller (Copy by from to) = 0
  finishes_by told caller (Delete by id) = 0
  finishes_by told caller (AskEvent by task kind inputs) = 0
  finishes_by told caller (Collect by task got) = 0
  finishes_by told caller (Abandon by) = 0
  finishes_by told caller (Stop by) = 0
  finishes_by told caller (Start worker task) = 0
  finishes_by told caller (GiveBack worker task) = 0
  finishes_by told caller (Finish worker task chunks tasks result) = if is_whose caller (map.get told.callers task) then 1 else 0

  -- how many tasks of a caller some events finish
  abbrev pub finishes_from : Told → ℕ → List (Event K) → ℕ
  finishes_from told caller [] = 0
  finishes_from told caller (event ∷ events) = finishes_by told caller event + finishes_from (told_more told event) caller events

  -- how many tasks of a caller the events of a journal finish
  abbrev pub finishes_of : ℕ → List (Event K) → ℕ
  finishes_of caller events = finishes_from untold caller events

module _ {C K : Type 0} where
  -- the work of a task where it is a caller's, and tasks have these goals
  abbrev pub work_for : Meanings C K → (ℕ → Tree C) → ℕ → ℕ → Unfinished (Tree C) K → Option ℕ
  work_for lib goals caller number task =
      if task.caller == caller then Some (lib.work task.kind (each (read_input goals) task.inputs)) else None

  -- the works of a caller's unfinished tasks, by number
  abbrev pub works_of : Meanings C K → Machine C K → ℕ → map.FinMap nat_cmp ℕ
  works_of lib machine caller = chosen (work_for lib (goal_of lib machine) caller) machine.graph.tasks

  -- what is left to do for a caller
  abbrev pub work_left : Meanings C K → Machine C K → ℕ → ℕ
  work_left lib machine caller = sum (map.values (works_of lib machine caller))

  -- The account of a caller: how many of its tasks were finished, and the works of those that are not yet.
  abbrev pub account_of : Meanings C K → Machine C K → List (Event K) → ℕ → ℕ
  account_of lib machine events caller = finishes_of caller events + work_left lib machine caller

  -- the part of a caller
  abbrev pub caller_part : Meanings C K → Machine C K → List (Event K) → ℕ → CallerPart C K
  caller_part lib machine events caller =
      record {
        names = names_of machine.holdings caller;
        asks = asks_of machine.asks caller;
        account = account_of lib machine events caller;
        events = filter (is_callers_own caller) events;
      }

  -- the first task of a list that a worker runs, if one of them is
  abbrev pub run_among : ℕ → List (ℕ × Unfinished (Tree C) K) → Option (Running C K)
  run_among worker [] = None
  run_among worker (entry ∷ entries) =
      if is_runner worker entry.1.runner then Some (record { task = entry.0; kind = entry.1.kind; inputs = input_trees entry.1 })
      else run_among worker entries

  -- the part of a worker
  abbrev pub worker_part : Machine C K → List (Event K) → ℕ → WorkerPart C K
  worker_part machine events worker =
      record { runs = run_among worker (map.entries machine.graph.tasks); events = filter (is_workers_own worker) events }
