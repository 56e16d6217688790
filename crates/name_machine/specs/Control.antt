-- The control state: the machine with references in place of trees. Bodies are known by number, with an owner, what is kept of
-- the content (the content itself, or no more than how many children it has) and a reference for each child; identifiers with a
-- body and a holder.
use Rattle.std.specs.Prelude.{ℕ, zero, suc, ◌+◌, ◌==◌, ◌&&◌, not, Bool, false, if◌then◌else◌, List, [], ◌∷◌, ◌++◌, map as each, Option, None, Some}
use Rattle.std.specs.Option.{is_some}
use Rattle.std.specs.List.{list_any, flat_map}
use Rattle.std.specs.Ordering.{nat_cmp}
use Rattle.std.specs.FinMap as map
use Rattle.cht_ids.specs.declared.refs.Id.{Id}
use Rattle.cht_ids.specs.declared.refs.Ref.{Ref}
use Rattle.cht_ids.specs.declared.refs.Ref.TheVariants.{Null as NullRef, Id as Held}
use Rattle.task_types.specs.declared.outcome.Place.{Place}
use Rattle.task_types.specs.declared.outcome.Place.TheVariants.{Null, Input as AtInput, Child, Chunk, Task}
use Rattle.task_types.specs.declared.outcome.Places.{Places}
use Rattle.task_types.specs.declared.outcome.NewTask.{NewTask}
use Rattle.task_types.specs.Places.{places_of}
use Rattle.name_states.specs.declared.holder.Holder.{Holder}
use Rattle.name_states.specs.declared.holder.Holder.TheVariants.{Caller as ByCaller, Task as ByTask, Body as ByBody}
use Rattle.name_states.specs.States.{NameState, IdRecord, no_names, id_at, children_of}
use Rattle.name_states.specs.Steps.{present, numbered, linked, without_id}
use Rattle.name_states.specs.Steps as names
use Rattle.name_states.specs.Reached.{swept}
use Rattle.task_states.specs.Maps.{each_changed, kept}
use Rattle.task_states.specs.States.{Input, Known, Awaits, Unfinished, Graph, no_tasks, task_at, asked_of, caller_of}
use Rattle.task_states.specs.Steps.{added, with_asked, started, given_back, all_delivered, forwarded, removed, with_stopped, abandoned}
use Rattle.cht_history.specs.declared.event.Event.{Event}
use Rattle.cht_history.specs.declared.event.Event.TheVariants.{Register, Copy, Delete, Ask as AskEvent, Collect, Abandon, Stop, Start, GiveBack, Finish}
use Rattle.name_machine.specs.States.{Ask, is_of}
use Rattle.name_machine.specs.NewTasks.{drawn_by_tasks, task_numbers, number_at, with_tasks, taken}

-- How many numbers were drawn; the identifiers and bodies; the asks, by the number of the task that was asked; and the unfinished
-- tasks. A known input of a task is a reference that the task holds. B is what bodies keep of contents, and G what asks keep of
-- goals.
pub record Control (B G K : Type 0) : Type 0 where
  pub drawn : ℕ
  pub names : NameState B
  pub asks : map.FinMap nat_cmp (Ask G Ref)
  pub graph : Graph Ref K

-- the reference at a place of a list, counted from 0; null past the end
abbrev pub ref_at : List Ref → ℕ → Ref
ref_at [] i = NullRef
ref_at (r ∷ refs) zero = r
ref_at (r ∷ refs) (suc i) = ref_at refs i

-- a reference with another number; null stays null
abbrev pub with_number : Ref → ℕ → Ref
with_number NullRef number = NullRef
with_number (Held id) number = Held (record { owner = id.owner; number = number })

-- an input as a reference; null where it is awaited
abbrev pub ref_known : Input Ref → Ref
ref_known (Known r) = r
ref_known (Awaits task number) = NullRef

-- whether a holder is this task
abbrev pub is_task : ℕ → Holder → Bool
is_task task (ByCaller caller) = false
is_task task (ByTask other) = other == task
is_task task (ByBody body) = false

-- an input that awaits a task: its number, and the task that will hold it
abbrev pub number_awaiting : ℕ → ℕ → Input Ref → List (ℕ × Holder)
number_awaiting task of (Known r) = []
number_awaiting task of (Awaits awaited number) = if awaited == task then (number, ByTask of) ∷ [] else []

-- the number of what was asked, and the caller that will hold it
abbrev pub number_asked : ℕ → Option ℕ → List (ℕ × Holder)
number_asked caller None = []
number_asked caller (Some number) = (number, ByCaller caller) ∷ []

-- whether a task belongs to a caller
abbrev pub is_task_of : ℕ → Option ℕ → Bool
is_task_of caller None = false
is_task_of caller (Some other) = other == caller

-- whether a task holds an identifier
abbrev pub is_held_by : ℕ → ℕ → Option IdRecord → Bool
is_held_by task number None = false
is_held_by task number (Some entry) = is_task task entry.holder

module _ {G : Type 0} where
  -- whether an ask of a caller was delivered the identifier with this number
  abbrev pub is_uncollected : ℕ → ℕ → Ask G Ref → Bool
  is_uncollected caller number ask = is_of caller ask && (ask.number == number) && is_some ask.delivered

  -- an ask whose output has this number gets its copy of what a reference names
  abbrev pub answered_with : Option ℕ → Ref → Ask G Ref → Ask G Ref
  answered_with None r ask = ask
  answered_with (Some number) r ask =
      if ask.number == number then record ask { delivered = Some (with_number r number) } else ask

module _ {K : Type 0} where
  -- the inputs of a task that await another one
  abbrev pub numbers_awaiting : ℕ → ℕ × Unfinished Ref K → List (ℕ × Holder)
  numbers_awaiting task entry = flat_map (number_awaiting task entry.0) entry.1.inputs

  -- what was asked of a task, if it was
  abbrev pub asked_numbers : Option (Unfinished Ref K) → List (ℕ × Holder)
  asked_numbers None = []
  asked_numbers (Some task) = number_asked task.caller task.asked

  -- All that awaits a task: each number that was drawn for its output, and who is to hold the copy with that number.
  abbrev pub awaiting : Graph Ref K → ℕ → List (ℕ × Holder)
  awaiting graph task = flat_map (numbers_awaiting task) (map.entries graph.tasks) ++ asked_numbers (task_at graph task)

module _ {B : Type 0} where
  -- one copy of what a reference names; nothing for null
  abbrev pub copy_of : NameState B → Ref → ℕ → Holder → NameState B
  copy_of state NullRef number holder = state
  copy_of state (Held id) number holder = names.copied state id.number number holder

  -- a copy of what a reference names for each number and holder
  abbrev pub copies_of : NameState B → Ref → List (ℕ × Holder) → NameState B
  copies_of state r [] = state
  copies_of state r (one ∷ more) = copies_of (copy_of state r one.0 one.1) r more

  -- all identifiers but those that a test names
  abbrev pub without_ids : NameState B → (ℕ → Option IdRecord → Bool) → NameState B
  without_ids state goes = record state { ids = map.retain_keys state.ids (λ number. not (goes number (id_at state number))) }

  -- the child of what a reference names, by its number counted from 0; null where there is none
  abbrev pub child_named : NameState B → Ref → ℕ → Ref
  child_named state NullRef j = NullRef
  child_named state (Held id) j = ref_at (children_of state id) j

  -- the reference that a place names, over the references of a task's inputs and of its new chunks; null for an output
  abbrev pub ref_named : NameState B → List Ref → List Ref → Place → Ref
  ref_named state inputs chunks Null = NullRef
  ref_named state inputs chunks (AtInput i) = ref_at inputs i
  ref_named state inputs chunks (Child i j) = child_named state (ref_at inputs i) j
  ref_named state inputs chunks (Chunk i) = ref_at chunks i
  ref_named state inputs chunks (Task i) = NullRef

-- what new chunks make of the names: the names, how many numbers were drawn, and a reference to each new chunk
pub record Grown (B : Type 0) : Type 0 where
  pub names : NameState B
  pub drawn : ℕ
  pub chunks : List Ref

module _ {B : Type 0} where
  -- One more chunk of a task, owned by a worker, over the references that its child places name. The task holds it.
  abbrev pub chunk_more : ℕ → ℕ → List Ref → B → List Place → Grown B → Grown B
  chunk_more worker task inputs content places grown =
      let refs : List Ref = each (ref_named grown.names inputs grown.chunks) places in
      record {
        names = names.registered grown.names grown.drawn (ByTask task) worker content refs;
        drawn = grown.drawn + 2 + taken places;
        chunks = grown.chunks ++ Held (record { owner = worker; number = grown.drawn + 2 }) ∷ [];
      }

  -- new chunks in order, each with what is kept of its content
  abbrev pub chunks_more : ℕ → ℕ → List Ref → List B → List Places → Grown B → Grown B
  chunks_more worker task inputs contents [] grown = grown
  chunks_more worker task inputs [] (places ∷ chunks) grown = grown
  chunks_more worker task inputs (content ∷ contents) (places ∷ chunks) grown =
      chunks_more worker task inputs contents chunks (chunk_more worker task inputs content (places_of places) grown)

  -- the copies that a new task holds of its inputs, after so many numbers that were drawn before
  abbrev pub input_copies : (Place → Ref) → ℕ → ℕ → List Place → NameState B → NameState B
  input_copies read task drawn [] state = state
  input_copies read task drawn (Null ∷ places) state = input_copies read task drawn places state
  input_copies read task drawn (AtInput i ∷ places) state =
      input_copies read task (drawn + 1) places (copy_of state (read (AtInput i)) (drawn + 1) (ByTask task))
  input_copies read task drawn (Child i j ∷ places) state =
      input_copies read task (drawn + 1) places (copy_of state (read (Child i j)) (drawn + 1) (ByTask task))
  input_copies read task drawn (Chunk i ∷ places) state =
      input_copies read task (drawn + 1) places (copy_of state (read (Chunk i)) (drawn + 1) (ByTask task))
  input_copies read task drawn (Task i ∷ places) state = input_copies read task (drawn + 1) places state

  -- the same for all new tasks in order
  abbrev pub task_copies : {K : Type 0} → (Place → Ref) → ℕ → List (NewTask K) → NameState B → NameState B
  task_copies read drawn [] state = state
  task_copies read drawn (task ∷ tasks) state =
      task_copies read (drawn + 1 + taken (places_of task.inputs)) tasks (input_copies read (drawn + 1) (drawn + 1) (places_of task.inputs) state)

module _ {B G K : Type 0} where
  -- the opening state
  abbrev pub no_control : Control B G K
  no_control = record { drawn = 0; names = no_names; asks = map.empty; graph = no_tasks }

  -- what is not reached goes
  abbrev pub tidied : Control B G K → Control B G K
  tidied control = record control { names = swept control.names }

  -- ---- What each event makes of the control state, before what is not reached goes

  abbrev pub register_event : Control B G K → ℕ → B → List Ref → Control B G K
  register_event control caller content children =
      record control {
        drawn = control.drawn + 2 + present children;
        names = names.registered control.names control.drawn (ByCaller caller) 0 content children;
      }

  abbrev pub copy_event : Control B G K → ℕ → Id → Control B G K
  copy_event control caller from =
      record control {
        drawn = control.drawn + 1;
        names = names.copied control.names from.number (control.drawn + 1) (ByCaller caller);
      }

  abbrev pub delete_event : Control B G K → Id → Control B G K
  delete_event control id = record control { names = without_id control.names id.number }

  -- the task holds copies of what the caller mentioned
  abbrev pub ask_event : Control B G K → ℕ → G → K → List Ref → Control B G K
  ask_event control caller goal kind inputs =
      record {
        drawn = control.drawn + 2 + present inputs;
        names = linked control.names (control.drawn + 1) (ByTask (control.drawn + 1)) inputs;
        asks = map.insert control.asks (control.drawn + 1) (record {
          caller = caller;
          number = control.drawn + 2 + present inputs;
          goal = goal;
          delivered = None;
        });
        graph = with_asked (added control.graph (control.drawn + 1) caller kind (each Known (numbered (control.drawn + 1) inputs))) (control.drawn + 1) (control.drawn + 2 + present inputs);
      }

  abbrev pub collect_event : Control B G K → ℕ → Control B G K
  collect_event control task = record control { asks = map.remove control.asks task }

  -- whether an identifier with this number and holder goes when a caller gives up: a task of the caller holds it, or it is an
  -- output that the caller has not collected
  abbrev pub goes_from : Control B G K → ℕ → ℕ → Holder → Bool
  goes_from control caller number (ByCaller other) = list_any (is_uncollected caller number) (map.values control.asks)
  goes_from control caller number (ByTask task) = is_task_of caller (caller_of control.graph task)
  goes_from control caller number (ByBody body) = false

  abbrev pub goes_with : Control B G K → ℕ → ℕ → Option IdRecord → Bool
  goes_with control caller number None = false
  goes_with control caller number (Some entry) = goes_from control caller number entry.holder

  abbrev pub abandon_event : Control B G K → ℕ → Control B G K
  abandon_event control caller =
      record control {
        names = without_ids control.names (goes_with control caller);
        asks = kept (λ ask. not (is_of caller ask)) control.asks;
        graph = abandoned control.graph caller;
      }

  abbrev pub stop_event : Control B G K → ℕ → Control B G K
  stop_event control caller = record control { graph = with_stopped control.graph caller }

  abbrev pub start_event : Control B G K → ℕ → ℕ → Control B G K
  start_event control worker task = record control { graph = started control.graph task worker }

  abbrev pub give_back_event : Control B G K → ℕ → Control B G K
  give_back_event control task = record control { graph = given_back control.graph task }

  -- all that awaits a task gets a copy of what a reference names, under the number that was drawn for it
  abbrev pub settled_to : Control B G K → ℕ → Ref → Control B G K
  settled_to control task r =
      record control {
        names = copies_of control.names r (awaiting control.graph task);
        asks = each_changed (answered_with (asked_of control.graph task) r) control.asks;
        graph = all_delivered control.graph task (with_number r);
      }

  -- all that awaits a task awaits another in its place, or gets copies of what a place names
  abbrev pub resolved_to : Control B G K → ℕ → List ℕ → (Place → Ref) → Place → Control B G K
  resolved_to control task numbers read Null = settled_to control task NullRef
  resolved_to control task numbers read (AtInput i) = settled_to control task (read (AtInput i))
  resolved_to control task numbers read (Child i j) = settled_to control task (read (Child i j))
  resolved_to control task numbers read (Chunk i) = settled_to control task (read (Chunk i))
  resolved_to control task numbers read (Task i) = record control { graph = forwarded control.graph task (number_at numbers i) }

  -- the new chunks of a task are there
  abbrev pub with_chunks : Control B G K → ℕ → ℕ → List Ref → List B → List Places → Grown B
  with_chunks control worker task inputs contents chunks =
      chunks_more worker task inputs contents chunks (record { names = control.names; drawn = control.drawn; chunks = [] })

  -- new tasks of a caller are there and hold their inputs, on top of new chunks
  abbrev pub with_new_tasks : Control B G K → ℕ → List Ref → List (NewTask K) → Grown B → Control B G K
  with_new_tasks control caller inputs tasks grown =
      let read : Place → Ref = ref_named grown.names inputs grown.chunks in
      record control {
        drawn = grown.drawn + drawn_by_tasks tasks;
        names = task_copies read grown.drawn tasks grown.names;
        graph = with_tasks (λ place number. with_number (read place) number) (task_numbers grown.drawn tasks) caller grown.drawn tasks control.graph;
      }

  -- a task goes with the identifiers that it holds
  abbrev pub without_task : Control B G K → ℕ → Control B G K
  without_task control task =
      record control { names = without_ids control.names (is_held_by task); graph = removed control.graph task }

  -- The outcome of a task takes effect: its chunks are registered on the worker that ran it, its new tasks are there and hold their
  -- inputs, what awaited it is settled or handed on, and it goes with the identifiers that it holds.
  abbrev pub finish_event : Control B G K → ℕ → ℕ → Unfinished Ref K → List B → List Places → List (NewTask K) → Place → Control B G K
  finish_event control worker task unfinished contents chunks tasks result =
      let inputs : List Ref = each ref_known unfinished.inputs in
      let grown : Grown B = with_chunks control worker task inputs contents chunks in
      without_task (resolved_to (with_new_tasks control unfinished.caller inputs tasks grown) task (task_numbers grown.drawn tasks) (ref_named grown.names inputs grown.chunks) result) task

  -- what is left of a finish, where there is such a task
  abbrev pub after_finish : Control B G K → ℕ → ℕ → List B → List Places → List (NewTask K) → Place → Option (Unfinished Ref K) → Control B G K
  after_finish control worker task contents chunks tasks result None = control
  after_finish control worker task contents chunks tasks result (Some unfinished) =
      finish_event control worker task unfinished contents chunks tasks result

  -- a caller registers the first of these contents
  abbrev pub after_register : Control B G K → ℕ → List B → List Ref → Control B G K
  after_register control caller [] children = control
  after_register control caller (content ∷ contents) children = register_event control caller content children

module _ {B K : Type 0} where
  -- What an event makes of a control state without goals, before what is not reached goes. The contents are those that it registers,
  -- in order: one where a caller registers, and those of the new chunks where a task is finished.
  abbrev pub effect_with : Control B (Unit {0}) K → List B → Event K → Control B (Unit {0}) K
  effect_with control contents (Register caller id children) = after_register control caller contents children
  effect_with control contents (Copy caller from to) = copy_event control caller from
  effect_with control contents (Delete caller id) = delete_event control id
  effect_with control contents (AskEvent caller task kind inputs) = ask_event control caller tt kind inputs
  effect_with control contents (Collect caller task got) = collect_event control task
  effect_with control contents (Abandon caller) = abandon_event control caller
  effect_with control contents (Stop caller) = stop_event control caller
  effect_with control contents (Start worker task) = start_event control worker task
  effect_with control contents (GiveBack worker task) = give_back_event control task
  effect_with control contents (Finish worker task chunks tasks result) =
      after_finish control worker task contents chunks tasks result (task_at control.graph task)
