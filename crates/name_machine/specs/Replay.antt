-- Replay: the control state after a list of events, or a failure. It knows of a library no more than its plans and its kinds' names.
use Rattle.std.specs.Prelude.{ℕ, ◌+◌, ◌==◌, ◌&&◌, not, nat_le, Bool, true, false, if◌then◌else◌, List, [], ◌∷◌, length, map as each, Option, None, Some}
use Rattle.std.specs.Option.{option_and_then}
use Rattle.std.specs.List.{list_all, list_any}
use Rattle.std.specs.FinMap as map
use Rattle.cht_ids.specs.declared.refs.Id.{Id}
use Rattle.cht_ids.specs.declared.refs.Ref.{Ref}
use Rattle.cht_ids.specs.declared.refs.Ref.TheVariants.{Null as NullRef, Id as Held}
use Rattle.task_types.specs.declared.outcome.Place.{Place}
use Rattle.task_types.specs.declared.outcome.Places.{Places}
use Rattle.task_types.specs.declared.outcome.NewTask.{NewTask}
use Rattle.task_types.specs.Presence.{Presence, Absent, Present}
use Rattle.task_types.specs.Places.{Shape, places_of, shape_from}
use Rattle.task_types.specs.Deciding.{is_one_of}
use Rattle.name_states.specs.declared.holder.Holder.{Holder}
use Rattle.name_states.specs.declared.holder.Holder.TheVariants.{Caller as ByCaller, Task as ByTask, Body as ByBody}
use Rattle.name_states.specs.States.{NameState, IdRecord, record_of, children_of}
use Rattle.task_states.specs.declared.states.TaskStatus.{TaskStatus}
use Rattle.task_states.specs.declared.states.TaskStatus.TheVariants.{Unknown, Waiting, Ready, Running}
use Rattle.task_states.specs.States.{Unfinished, task_at, status, is_stopped, running}
use Rattle.cht_history.specs.declared.event.Event.{Event}
use Rattle.cht_history.specs.declared.event.Event.TheVariants.{Register, Copy, Delete, Ask as AskEvent, Collect, Abandon, Stop, Start, GiveBack, Finish}
use Rattle.name_machine.specs.States.{Ask, has_ask}
use Rattle.name_machine.specs.Control.{Control, no_control, tidied, ref_at, ref_known, is_uncollected, effect_with}

-- what a replay knows of a library: the shapes that an outcome of a kind may have, and whether two kinds are the same
pub record Plans (K : Type 0) : Type 0 where
  pub plan : K → List Presence → List (Shape K)
  pub same : K → K → Bool

-- whether an identifier has this owner and this number
abbrev pub is_id : ℕ → ℕ → Id → Bool
is_id owner number id = (id.owner == owner) && (id.number == number)

-- whether two references are the same
abbrev pub same_ref : Ref → Ref → Bool
same_ref NullRef NullRef = true
same_ref NullRef (Held id) = false
same_ref (Held id) NullRef = false
same_ref (Held id) (Held other) = is_id other.owner other.number id

-- whether a reference is not null
abbrev pub is_held : Ref → Bool
is_held NullRef = false
is_held (Held id) = true

-- whether what was delivered is this reference
abbrev pub delivered_is : Ref → Option Ref → Bool
delivered_is got None = false
delivered_is got (Some r) = same_ref got r

-- whether a status is that of a ready task
abbrev pub is_ready : TaskStatus → Bool
is_ready Unknown = false
is_ready Waiting = false
is_ready Ready = true
is_ready Running = false

-- whether a holder is this caller
abbrev pub is_caller : ℕ → Holder → Bool
is_caller caller (ByCaller other) = other == caller
is_caller caller (ByTask task) = false
is_caller caller (ByBody body) = false

-- a state of a replay: of each content the number of its children is kept, and of goals nothing
abbrev pub Replayed : Type 0 → Type 0
Replayed K = Control ℕ (Unit {0}) K

-- what is known of a reference: which of its children are not null
abbrev pub presence_of_ref : NameState ℕ → Ref → Presence
presence_of_ref names NullRef = Absent
presence_of_ref names (Held id) =
    let children : List Ref = children_of names id in
    Present (is_held (ref_at children 0)) (is_held (ref_at children 1)) (is_held (ref_at children 2)) (is_held (ref_at children 3))

-- whether the worker that runs a task is this one
abbrev pub is_runner : ℕ → Option ℕ → Bool
is_runner worker None = false
is_runner worker (Some other) = other == worker

-- whether an ask is of a caller and was delivered this reference
abbrev pub is_delivered : ℕ → Ref → Option (Ask (Unit {0}) Ref) → Bool
is_delivered caller got None = false
is_delivered caller got (Some ask) = (ask.caller == caller) && delivered_is got ask.delivered

module _ {K : Type 0} where
  -- ---- What a caller may mention

  -- whether a caller holds what an identifier names, and it is no output that the caller has not collected
  abbrev pub is_callers : Replayed K → ℕ → Id → Option IdRecord → Bool
  is_callers control caller id None = false
  is_callers control caller id (Some entry) =
      is_caller caller entry.holder && not (list_any (is_uncollected caller id.number) (map.values control.asks))

  -- whether a caller holds an identifier
  abbrev pub is_mine : Replayed K → ℕ → Id → Bool
  is_mine control caller id = is_callers control caller id (record_of control.names id)

  -- whether a reference is null or the caller holds it
  abbrev pub may_mention : Replayed K → ℕ → Ref → Bool
  may_mention control caller NullRef = true
  may_mention control caller (Held id) = is_mine control caller id

  -- ---- What is known of inputs

  -- whether the plan allows the shape of a finish
  abbrev pub is_planned : Plans K → NameState ℕ → Unfinished Ref K → List Places → List (NewTask K) → Place → Bool
  is_planned plans names task chunks tasks result =
      is_one_of plans.same (shape_from chunks tasks result) (plans.plan task.kind (each (λ input. presence_of_ref names (ref_known input)) task.inputs))

  -- whether a worker runs a task
  abbrev pub is_run_by : ℕ → Option (Unfinished Ref K) → Bool
  is_run_by worker None = false
  is_run_by worker (Some task) = is_runner worker task.runner

  -- whether a worker runs no task
  abbrev pub runs_nothing : Replayed K → ℕ → Bool
  runs_nothing control worker = not (list_any (λ task. is_runner worker task.runner) (map.values control.graph.tasks))

  -- ---- Where each event is allowed

  -- whether a finish of a task is allowed: the worker runs it, and the plan allows the shape
  abbrev pub is_finish : Plans K → Replayed K → ℕ → List Places → List (NewTask K) → Place → Option (Unfinished Ref K) → Bool
  is_finish plans control worker chunks tasks result None = false
  is_finish plans control worker chunks tasks result (Some task) =
      is_runner worker task.runner && is_planned plans control.names task chunks tasks result

  -- Whether an event is allowed in a state: its callers hold what they mention, its numbers are the next ones, its references are
  -- those that the rules give, and the shape of a finish is one of the plan's.
  abbrev pub is_allowed : Plans K → Replayed K → Event K → Bool
  is_allowed plans control (Register caller id children) =
      nat_le (length children) 4 && list_all (may_mention control caller) children && is_id 0 (control.drawn + 2) id
  is_allowed plans control (Copy caller from to) = is_mine control caller from && is_id from.owner (control.drawn + 1) to
  is_allowed plans control (Delete caller id) = is_mine control caller id
  is_allowed plans control (AskEvent caller task kind inputs) =
      not (is_stopped control.graph caller) && list_all (may_mention control caller) inputs && (task == control.drawn + 1)
  is_allowed plans control (Collect caller task got) =
      not (is_stopped control.graph caller) && is_delivered caller got (map.get control.asks task)
  is_allowed plans control (Abandon caller) = has_ask control.asks caller && (running control.graph caller == 0)
  is_allowed plans control (Stop caller) = has_ask control.asks caller && not (is_stopped control.graph caller)
  is_allowed plans control (Start worker task) = is_ready (status control.graph task) && runs_nothing control worker
  is_allowed plans control (GiveBack worker task) = is_run_by worker (task_at control.graph task)
  is_allowed plans control (Finish worker task chunks tasks result) =
      is_finish plans control worker chunks tasks result (task_at control.graph task)

  -- ---- Replay

  -- what is kept of the contents that an event registers: the numbers of their children
  abbrev pub arities : Event K → List ℕ
  arities (Register caller id children) = length children ∷ []
  arities (Copy caller from to) = []
  arities (Delete caller id) = []
  arities (AskEvent caller task kind inputs) = []
  arities (Collect caller task got) = []
  arities (Abandon caller) = []
  arities (Stop caller) = []
  arities (Start worker task) = []
  arities (GiveBack worker task) = []
  arities (Finish worker task chunks tasks result) = each (λ chunk. length (places_of chunk)) chunks

  -- what an event makes of a state, before what is not reached goes
  abbrev pub effect : Replayed K → Event K → Replayed K
  effect control event = effect_with control (arities event) event

  -- the state after an event, and a failure where it is not allowed; what is not reached goes
  abbrev pub happens : Plans K → Replayed K → Event K → Option (Replayed K)
  happens plans control event = if is_allowed plans control event then Some (tidied (effect control event)) else None

  -- the state after events in order
  abbrev pub replay_from : Plans K → Replayed K → List (Event K) → Option (Replayed K)
  replay_from plans control [] = Some control
  replay_from plans control (event ∷ events) = option_and_then (λ next. replay_from plans next events) (happens plans control event)

  -- the control state after a list of events; nothing where one of them is not allowed
  abbrev pub replay : Plans K → List (Event K) → Option (Replayed K)
  replay plans events = replay_from plans no_control events
