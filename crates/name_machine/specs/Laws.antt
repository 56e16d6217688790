-- The laws of the machine and of replay, as statements. The functions of `laws` carry each as their contract.
use Rattle.std.specs.Prelude.{◌↔◌, length, [], ◌∷◌, ◌++◌, ◌-◌, map as each, if◌then◌else◌, ◌≡◌, ℕ, ◌+◌, ◌≤◌, ◌==◌, Bool, true, false, List, slice_get, count_by, None, Some}
use Rattle.std.specs.List.{list_any}
use Rattle.std.specs.Option.{is_some}
use Rattle.std.specs.FinMap as map
use Rattle.cht_ids.specs.declared.refs.Id.{Id}
use Rattle.cht_ids.specs.declared.refs.Ref.{Ref}
use Rattle.cht_ids.specs.declared.refs.Ref.TheVariants.{Id as Held}
use Rattle.task_types.specs.declared.outcome.Place.{Place}
use Rattle.task_types.specs.declared.outcome.Places.{Places}
use Rattle.task_types.specs.declared.outcome.NewTask.{NewTask}
use Rattle.task_types.specs.declared.outcome.NewChunk.{NewChunk}
use Rattle.task_types.specs.declared.outcome.Outcome.{Outcome}
use Rattle.task_types.specs.Tree.{Tree}
use Rattle.task_types.specs.Sound.{IsSound}
use Rattle.name_states.specs.declared.holder.Holder.TheVariants.{Caller as ByCaller}
use Rattle.name_states.specs.States.{IdRecord, record_of}
use Rattle.task_states.specs.declared.states.TaskStatus.TheVariants.{Ready}
use Rattle.task_states.specs.States.{Unfinished, task_at, status, is_stopped}
use Rattle.task_types.specs.Meanings.{Meanings}
use Rattle.cht_history.specs.declared.event.Event.{Event}
use Rattle.cht_history.specs.declared.event.Event.TheVariants.{Register, Copy, Delete, Ask, Collect, Abandon, Stop, Start, GiveBack, Finish}
use Rattle.name_machine.specs.Control.{Control, no_control, tidied, effect_with}
use Rattle.name_machine.specs.Forgetting.{forgotten}
use Rattle.name_machine.specs.Standing.{machine_of, IsOrderly, HasNothing, HoldsNothing}
use Rattle.name_machine.specs.States.{Machine, Ask as AskOf, opening, tree_named}
use Rattle.name_machine.specs.Steps.{input_trees}
use Rattle.name_machine.specs.Machine.{IsStep, IsLegalRun}
use Rattle.name_machine.specs.Facts.{HoldsTogether}
use Rattle.name_machine.specs.Parts.{is_callers_own, is_workers_own, work_left, account_of, caller_part, worker_part}
use Rattle.name_machine.specs.Replay.{Plans, Replayed, is_mine, is_planned, is_allowed, arities, happens, replay}

module _ {K : Type 0} where
  -- whether an event is the finish of a task
  abbrev pub is_finish_of : ℕ → Event K → Bool
  is_finish_of task (Register caller id children) = false
  is_finish_of task (Copy caller from to) = false
  is_finish_of task (Delete caller id) = false
  is_finish_of task (Ask caller number kind inputs) = false
  is_finish_of task (Collect caller number got) = false
  is_finish_of task (Abandon caller) = false
  is_finish_of task (Stop caller) = false
  is_finish_of task (Start worker number) = false
  is_finish_of task (GiveBack worker number) = false
  is_finish_of task (Finish worker number chunks tasks result) = number == task

-- in every legal run of any library the facts hold
abbrev pub FactsHold : {C K : Type 0} → Meanings C K → (C → ℕ) → Type 0
FactsHold {C} {K} lib arity =
    (events : List (Event K)) (after : Machine C K) → IsLegalRun lib arity events after → HoldsTogether lib after

-- ---- Parts

module _ {C K : Type 0} where
  -- What an event makes of the account of a caller: its own ask adds the work of the asked kind on the trees of the inputs, its own
  -- abandon takes off what was left to do for it, and every other event leaves it.
  abbrev pub account_then : Meanings C K → Machine C K → ℕ → Event K → ℕ → ℕ
  account_then lib before caller (Register by id children) account = account
  account_then lib before caller (Copy by from to) account = account
  account_then lib before caller (Delete by id) account = account
  account_then lib before caller (Ask by task kind inputs) account =
      if by == caller then account + lib.work kind (each (tree_named before) inputs) else account
  account_then lib before caller (Collect by task got) account = account
  account_then lib before caller (Abandon by) account = if by == caller then account - work_left lib before caller else account
  account_then lib before caller (Stop by) account = account
  account_then lib before caller (Start worker task) account = account
  account_then lib before caller (GiveBack worker task) account = account
  account_then lib before caller (Finish worker task chunks tasks result) account = account

-- an event, after a legal run, changes the account of each caller as told
abbrev pub AccountsChange : {C K : Type 0} → Meanings C K → (C → ℕ) → Type 0
AccountsChange {C} {K} lib arity =
    (events : List (Event K)) (before after : Machine C K) (event : Event K) (caller : ℕ) → IsLegalRun lib arity events before
    → IsStep lib arity before event after
    → account_of lib after (events ++ event ∷ []) caller ≡ account_then lib before caller event (account_of lib before events caller)

-- an event, after a legal run, leaves the part of each caller whose own it is not
abbrev pub LeavesCallers : {C K : Type 0} → Meanings C K → (C → ℕ) → Type 0
LeavesCallers {C} {K} lib arity =
    (events : List (Event K)) (before after : Machine C K) (event : Event K) (caller : ℕ) → IsLegalRun lib arity events before
    → IsStep lib arity before event after → is_callers_own caller event ≡ false
    → caller_part lib after (events ++ event ∷ []) caller ≡ caller_part lib before events caller

-- an event, after a legal run, leaves the part of each worker whose own it is not
abbrev pub LeavesWorkers : {C K : Type 0} → Meanings C K → (C → ℕ) → Type 0
LeavesWorkers {C} {K} lib arity =
    (events : List (Event K)) (before after : Machine C K) (event : Event K) (worker : ℕ) → IsLegalRun lib arity events before
    → IsStep lib arity before event after → is_workers_own worker event ≡ false
    → worker_part after (events ++ event ∷ []) worker ≡ worker_part before events worker

-- ---- Stops

module _ {K : Type 0} where
  -- whether an event is a caller's ask, or its abandon
  abbrev pub asks_or_abandons : ℕ → Event K → Bool
  asks_or_abandons caller (Register by id children) = false
  asks_or_abandons caller (Copy by from to) = false
  asks_or_abandons caller (Delete by id) = false
  asks_or_abandons caller (Ask by task kind inputs) = by == caller
  asks_or_abandons caller (Collect by task got) = false
  asks_or_abandons caller (Abandon by) = by == caller
  asks_or_abandons caller (Stop by) = false
  asks_or_abandons caller (Start worker task) = false
  asks_or_abandons caller (GiveBack worker task) = false
  asks_or_abandons caller (Finish worker task chunks tasks result) = false

  -- whether an event is a caller's abandon
  abbrev pub abandons : ℕ → Event K → Bool
  abandons caller (Register by id children) = false
  abandons caller (Copy by from to) = false
  abandons caller (Delete by id) = false
  abandons caller (Ask by task kind inputs) = false
  abandons caller (Collect by task got) = false
  abandons caller (Abandon by) = by == caller
  abandons caller (Stop by) = false
  abandons caller (Start worker task) = false
  abandons caller (GiveBack worker task) = false
  abandons caller (Finish worker task chunks tasks result) = false

  -- A stop of a caller stands among some events, and no ask and no abandon of the caller after it: what it asked, it asked before.
  pub record HasStopLast (caller : ℕ) (events : List (Event K)) : Type 0 where
    pub front : List (Event K)
    pub back : List (Event K)
    pub split : events ≡ front ++ Stop caller ∷ back
    pub none_since : list_any (asks_or_abandons caller) back ≡ false

-- where a caller is stopped its asks are older than its last stop
abbrev pub StopsAreLast : {C K : Type 0} → Meanings C K → (C → ℕ) → Type 0
StopsAreLast {C} {K} lib arity =
    (events : List (Event K)) (after : Machine C K) (caller : ℕ) → IsLegalRun lib arity events after → is_stopped after.graph caller ≡ true
    → HasStopLast caller events

-- where a caller is not stopped it abandoned after each of its stops
abbrev pub StopsEnd : {C K : Type 0} → Meanings C K → (C → ℕ) → Type 0
StopsEnd {C} {K} lib arity =
    (events front back : List (Event K)) (after : Machine C K) (caller : ℕ) → IsLegalRun lib arity events after
    → is_stopped after.graph caller ≡ false → events ≡ front ++ Stop caller ∷ back → list_any (abandons caller) back ≡ true

-- in a list of events that can be replayed no task is finished twice
abbrev pub FinishedOnce : {K : Type 0} → Plans K → Type 0
FinishedOnce {K} plans =
    (events : List (Event K)) (control : Replayed K) (task : ℕ) → replay plans events ≡ Some control
    → count_by (is_finish_of task) events ≤ 1

-- ---- What a replay refuses, in every state

module _ {K : Type 0} where
  -- a caller mentions an identifier in an event, as what it holds
  abbrev pub Mentions : Event K → ℕ → Id → Type 0
  Mentions (Register by id children) caller mentioned = (by ≡ caller) × (i : ℕ) × (slice_get children i ≡ Some (Held mentioned))
  Mentions (Copy by from to) caller mentioned = (by ≡ caller) × (from ≡ mentioned)
  Mentions (Delete by id) caller mentioned = (by ≡ caller) × (id ≡ mentioned)
  Mentions (Ask by number kind inputs) caller mentioned = (by ≡ caller) × (i : ℕ) × (slice_get inputs i ≡ Some (Held mentioned))
  Mentions (Collect by number got) caller mentioned = ⊥
  Mentions (Abandon by) caller mentioned = ⊥
  Mentions (Stop by) caller mentioned = ⊥
  Mentions (Start worker number) caller mentioned = ⊥
  Mentions (GiveBack worker number) caller mentioned = ⊥
  Mentions (Finish worker number chunks tasks result) caller mentioned = ⊥

  -- a number that an event tells is the one whose turn it is, after so many numbers that were drawn before
  abbrev pub IsInTurn : ℕ → Event K → Type 0
  IsInTurn drawn (Register caller id children) = id.number ≡ drawn + 2
  IsInTurn drawn (Copy caller from to) = to.number ≡ drawn + 1
  IsInTurn drawn (Delete caller id) = Unit {0}
  IsInTurn drawn (Ask caller number kind inputs) = number ≡ drawn + 1
  IsInTurn drawn (Collect caller number got) = Unit {0}
  IsInTurn drawn (Abandon caller) = Unit {0}
  IsInTurn drawn (Stop caller) = Unit {0}
  IsInTurn drawn (Start worker number) = Unit {0}
  IsInTurn drawn (GiveBack worker number) = Unit {0}
  IsInTurn drawn (Finish worker number chunks tasks result) = Unit {0}

-- what a caller mentions that it does not hold is refused
abbrev pub RefusesStrange : {K : Type 0} → Plans K → Type 0
RefusesStrange {K} plans =
    (control : Replayed K) (event : Event K) (caller : ℕ) (id : Id) → Mentions event caller id → is_mine control caller id ≡ false
    → happens plans control event ≡ None

-- a caller does not hold an identifier that is not live
abbrev pub DeadIsStrange : Type 0 → Type 0
DeadIsStrange K =
    (control : Replayed K) (caller : ℕ) (id : Id) → record_of control.names id ≡ None → is_mine control caller id ≡ false

-- a caller does not hold what another caller, a task or a body holds
abbrev pub OthersAreStrange : Type 0 → Type 0
OthersAreStrange K =
    (control : Replayed K) (caller : ℕ) (id : Id) (entry : IdRecord) → record_of control.names id ≡ Some entry
    → (entry.holder ≡ ByCaller caller → ⊥) → is_mine control caller id ≡ false

-- what was delivered to a caller is not in its map before it collects it
abbrev pub UncollectedIsStrange : Type 0 → Type 0
UncollectedIsStrange K =
    (control : Replayed K) (caller task : ℕ) (id : Id) (ask : AskOf (Unit {0}) Ref) → map.get control.asks task ≡ Some ask
    → ask.caller ≡ caller → ask.number ≡ id.number → is_some ask.delivered ≡ true → is_mine control caller id ≡ false

-- a number that is not the next one is refused
abbrev pub RefusesOutOfTurn : {K : Type 0} → Plans K → Type 0
RefusesOutOfTurn {K} plans =
    (control : Replayed K) (event : Event K) → (IsInTurn control.drawn event → ⊥) → happens plans control event ≡ None

-- a start is refused where the task is not ready: where it waits, is run, or is none
abbrev pub RefusesNotReady : {K : Type 0} → Plans K → Type 0
RefusesNotReady {K} plans =
    (control : Replayed K) (worker task : ℕ) → (status control.graph task ≡ Ready → ⊥) → happens plans control (Start worker task) ≡ None

-- a worker's second start is refused
abbrev pub RefusesSecondStart : {K : Type 0} → Plans K → Type 0
RefusesSecondStart {K} plans =
    (control : Replayed K) (worker task other : ℕ) (unfinished : Unfinished Ref K) → task_at control.graph other ≡ Some unfinished
    → unfinished.runner ≡ Some worker → happens plans control (Start worker task) ≡ None

-- a shape that the plan does not allow is refused
abbrev pub RefusesUnplanned : {K : Type 0} → Plans K → Type 0
RefusesUnplanned {K} plans =
    (control : Replayed K) (worker task : ℕ) (unfinished : Unfinished Ref K) (chunks : List Places) (tasks : List (NewTask K)) (result : Place)
    → task_at control.graph task ≡ Some unfinished → is_planned plans control.names unfinished chunks tasks result ≡ false
    → happens plans control (Finish worker task chunks tasks result) ≡ None

-- ---- What a control state stands for

-- the opening state stands for the opening state, and has nothing in it
abbrev pub OpeningStands : {C K : Type 0} → Meanings C K → Type 0
OpeningStands {C} {K} lib = machine_of lib (no_control {B = C} {G = Unit {0}} {K = K}) ≡ opening

-- a state in which nothing is held, asked or unfinished is stood for exactly by the control states that have nothing
abbrev pub EmptyBothWays : {C K : Type 0} → Meanings C K → (C → ℕ) → Type 0
EmptyBothWays {C} {K} lib arity =
    (control : Control C (Unit {0}) K) → IsOrderly arity control → HasNothing control ↔ HoldsNothing (machine_of lib control)

-- What the machine asks of an event beside what a replay asks, where contents are registered in order: a register is of one content, with
-- as many children as it wants; the goal of an ask is defined on the trees of what is mentioned; and a finish is by an outcome that is
-- sound for its task, with these contents in its chunks.
abbrev pub IsAsWanted : {C K : Type 0} → Meanings C K → (C → ℕ) → Machine C K → List C → Event K → Type 0
IsAsWanted {C} {K} lib arity before contents (Register caller id children) = (content : C) × (contents ≡ content ∷ []) × (length children ≡ arity content)
IsAsWanted lib arity before contents (Copy caller from to) = Unit {0}
IsAsWanted lib arity before contents (Delete caller id) = Unit {0}
IsAsWanted lib arity before contents (Ask caller number kind inputs) = lib.defined kind (each (tree_named before) inputs)
IsAsWanted lib arity before contents (Collect caller number got) = Unit {0}
IsAsWanted lib arity before contents (Abandon caller) = Unit {0}
IsAsWanted lib arity before contents (Stop caller) = Unit {0}
IsAsWanted lib arity before contents (Start worker number) = Unit {0}
IsAsWanted lib arity before contents (GiveBack worker number) = Unit {0}
IsAsWanted {C} {K} lib arity before contents (Finish worker number chunks tasks result) =
    (unfinished : Unfinished (Tree C) K) × (outcome : Outcome C K) × (task_at before.graph number ≡ Some unfinished)
    × (each (λ (chunk : NewChunk C). chunk.body) outcome.chunks ≡ contents)
    × (each (λ (chunk : NewChunk C). chunk.children) outcome.chunks ≡ chunks) × (outcome.tasks ≡ tasks) × (outcome.result ≡ result)
    × IsSound arity lib unfinished.kind (input_trees unfinished) outcome

-- Such an event, where it is allowed, is the step of the machine of its name between the states that are stood for.
abbrev pub StandsStep : {C K : Type 0} → Meanings C K → (C → ℕ) → Plans K → Type 0
StandsStep {C} {K} lib arity plans =
    (control : Control C (Unit {0}) K) (contents : List C) (event : Event K) → IsOrderly arity control → HoldsTogether lib (machine_of lib control)
    → IsAsWanted lib arity (machine_of lib control) contents event → is_allowed plans (forgotten arity control) event ≡ true
    → IsStep lib arity (machine_of lib control) event (machine_of lib (tidied (effect_with control contents event)))

-- such an event, where it is allowed, leaves a control state that is in order
abbrev pub KeepsOrder : {C K : Type 0} → Meanings C K → (C → ℕ) → Plans K → Type 0
KeepsOrder {C} {K} lib arity plans =
    (control : Control C (Unit {0}) K) (contents : List C) (event : Event K) → IsOrderly arity control → HoldsTogether lib (machine_of lib control)
    → IsAsWanted lib arity (machine_of lib control) contents event → is_allowed plans (forgotten arity control) event ≡ true
    → IsOrderly arity (tidied (effect_with control contents event))

-- the opening state is in order
abbrev pub OpeningIsOrderly : {C : Type 0} → Type 0 → (C → ℕ) → Type 0
OpeningIsOrderly {C} K arity = IsOrderly arity (no_control {B = C} {G = Unit {0}} {K = K})

-- ---- A control state and its events

-- A control state with contents comes of a list of events: it is in order, the legal run of these events leads to the state that it
-- stands for, and a replay of them leads to it without its contents.
pub record ComesOf {C K : Type 0} (lib : Meanings C K) (arity : C → ℕ) (plans : Plans K) (events : List (Event K)) (control : Control C (Unit {0}) K) : Type 0 where
  pub ordered : IsOrderly arity control
  pub run : IsLegalRun lib arity events (machine_of lib control)
  pub replayed : replay plans events ≡ Some (forgotten arity control)

-- the opening state comes of no events
abbrev pub OpeningComesOfNone : {C K : Type 0} → Meanings C K → (C → ℕ) → Plans K → Type 0
OpeningComesOfNone {C} {K} lib arity plans = ComesOf lib arity plans [] (no_control {B = C} {G = Unit {0}} {K = K})

-- where a control state comes of some events, and one more is allowed there and is as the machine wants it, with as many contents as it
-- tells, the state after it comes of all of them
abbrev pub EventsLeadOn : {C K : Type 0} → Meanings C K → (C → ℕ) → Plans K → Type 0
EventsLeadOn {C} {K} lib arity plans =
    (events : List (Event K)) (control : Control C (Unit {0}) K) (contents : List C) (event : Event K) → ComesOf lib arity plans events control
    → IsAsWanted lib arity (machine_of lib control) contents event → each arity contents ≡ arities event → is_allowed plans (forgotten arity control) event ≡ true
    → ComesOf lib arity plans (events ++ event ∷ []) (tidied (effect_with control contents event))
