-- The unfinished tasks. What a known input is stays open: a reference where a program runs, a tree where it is given a meaning.
use Rattle.std.specs.Prelude.{◌≡◌, ℕ, Bool, true, false, ◌==◌, ◌&&◌, if◌then◌else◌, List, slice_get, Option, None, Some}
use Rattle.std.specs.List.{list_any}
use Rattle.std.specs.Option.{option_map, is_some}
use Rattle.std.specs.Ordering.{nat_cmp}
use Rattle.std.specs.FinMap as map
use Rattle.std.specs.FinSet as numbers
use Rattle.task_states.specs.Maps.{kept}
use Rattle.task_states.specs.declared.states.TaskStatus.{TaskStatus}
use Rattle.task_states.specs.declared.states.TaskStatus.TheVariants.{Unknown, Waiting, Ready, Running}

-- an input: it is known, or it awaits the output of a task, under a number of its own
pub data Input (X : Type 0) : Type 0 where
  Known : X → Input X
  Awaits : ℕ → ℕ → Input X

-- An unfinished task: the caller to whom it belongs, its kind, its inputs, the worker that runs it, if one does, and the
-- number of the asked output, where the caller itself awaits this task.
pub record Unfinished (X K : Type 0) : Type 0 where
  pub caller : ℕ
  pub kind : K
  pub inputs : List (Input X)
  pub runner : Option ℕ
  pub asked : Option ℕ

-- the unfinished tasks by number, and the callers that are stopped
pub record Graph (X K : Type 0) : Type 0 where
  pub tasks : map.FinMap nat_cmp (Unfinished X K)
  pub stopped : numbers.FinSet nat_cmp

-- whether a status is that of a task that a worker runs
abbrev pub is_running : TaskStatus → Bool
is_running Unknown = false
is_running Waiting = false
is_running Ready = false
is_running Running = true

module _ {X : Type 0} where
  -- whether an input awaits a task
  abbrev pub is_awaiting : Input X → Bool
  is_awaiting (Known x) = false
  is_awaiting (Awaits task number) = true

  -- whether an input awaits the task with this number
  abbrev pub awaits : ℕ → Input X → Bool
  awaits task (Known x) = false
  awaits task (Awaits awaited number) = awaited == task

module _ {X K : Type 0} where
  -- no tasks, and no caller is stopped
  abbrev pub no_tasks : Graph X K
  no_tasks = record { tasks = map.empty; stopped = numbers.empty }

  -- the task with a number
  abbrev pub task_at : Graph X K → ℕ → Option (Unfinished X K)
  task_at graph number = map.get graph.tasks number

  -- how far a task is: Waiting where an input awaits, else Running where a worker runs it, else Ready
  abbrev pub status_of : Unfinished X K → TaskStatus
  status_of task = if list_any is_awaiting task.inputs then Waiting else (if is_some task.runner then Running else Ready)

  -- how far the task with a number is
  abbrev pub status : Graph X K → ℕ → TaskStatus
  status graph number = elim (task_at graph number) [ None ↦ Unknown | Some task ↦ status_of task ]

  -- the input of a task at a place, counted from 0
  abbrev pub input_at : Graph X K → ℕ → ℕ → Option (Input X)
  input_at graph number place = elim (task_at graph number) [ None ↦ None | Some task ↦ slice_get task.inputs place ]

  -- a task that awaits nothing
  abbrev pub AwaitsNothing : Graph X K → ℕ → Type 0
  AwaitsNothing graph number = (place : ℕ) (task : ℕ) (drawn : ℕ) → input_at graph number place ≡ Some (Awaits task drawn) → ⊥

  -- the caller of a task
  abbrev pub caller_of : Graph X K → ℕ → Option ℕ
  caller_of graph number = option_map (λ task. task.caller) (task_at graph number)

  -- the kind of a task
  abbrev pub kind_of : Graph X K → ℕ → Option K
  kind_of graph number = option_map (λ task. task.kind) (task_at graph number)

  -- the number of the asked output of a task
  abbrev pub asked_of : Graph X K → ℕ → Option ℕ
  asked_of graph number = elim (task_at graph number) [ None ↦ None | Some task ↦ task.asked ]

  -- whether a caller is stopped
  abbrev pub is_stopped : Graph X K → ℕ → Bool
  is_stopped graph caller = numbers.contains graph.stopped caller

  -- whether a task belongs to this caller and is Running
  abbrev pub is_run_for : ℕ → Unfinished X K → Bool
  is_run_for caller task = (task.caller == caller) && is_running (status_of task)

  -- how many tasks of a caller are Running
  abbrev pub running : Graph X K → ℕ → ℕ
  running graph caller = map.len (kept (is_run_for caller) graph.tasks)
