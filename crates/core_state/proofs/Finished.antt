-- What hangs together once the outcome of a task took effect.
use Rattle.std.proofs.Common.{◌≡◌, ℕ, zero, suc, ◌+◌, ◌*◌, ◌<◌, ◌≤◌, ◌⊎◌, inl, inr, Bool, true, false, cond, nat_eq, List, [], ◌∷◌, ◌++◌, map as each, length, take, get_or, slice_set, Option, None, Some, refl, sym, ap, subst, ◌∙◌, arith, nat_cmp}
use Rattle.std.specs.Prelude.{slice_get}
use Rattle.std.specs.Option.{option_map}
use Rattle.std.specs.List.{flat_map}
use Rattle.std.specs.FinMap as map
use Rattle.std.specs.FinSet as sets
use Rattle.std.proofs.Math.ListN.{length-set}
use Rattle.std.proofs.lemmas.Option.{slice_get_read}
use Rattle.cht_ids.specs.declared.refs.Ref.{Ref}
use Rattle.cht_ids.specs.declared.refs.Ref.TheVariants.{Null as NullRef, Id as Held}
use Rattle.task_types.specs.declared.outcome.Place.{Place}
use Rattle.task_types.specs.declared.outcome.Place.TheVariants.{Null, Input as AtInput, Child, Chunk, Task}
use Rattle.task_types.specs.declared.outcome.Places.{Places}
use Rattle.task_types.specs.declared.outcome.NewChunk.{NewChunk}
use Rattle.task_types.specs.declared.outcome.NewTask.{NewTask}
use Rattle.task_types.specs.declared.outcome.Outcome.{Outcome}
use Rattle.task_types.specs.Places.{places_of}
use Rattle.name_states.specs.declared.holder.Holder.{Holder}
use Rattle.name_states.specs.declared.holder.Holder.TheVariants.{Task as ByTask}
use Rattle.name_states.specs.States.{NameState}
use Rattle.name_states.specs.Reached.{swept}
use Rattle.name_states.proofs.Basics.{none_not_some, same_some, same_or_not, test_same, test_apart, inserted_here, inserted_other, removed_from, removed_other}
use Rattle.name_states.proofs.Swept.{id-left}
use Rattle.task_states.specs.Maps.{each_changed}
use Rattle.task_states.specs.States.{Input, Known, Awaits, Unfinished, Graph, task_at, asked_of, is_stopped}
use Rattle.task_states.specs.Steps.{added, removed}
use Rattle.task_states.proofs.Maps.{same_maps, get-each_changed}
use Rattle.cht_history.specs.History.{History}
use Rattle.cht_history.specs.declared.event.Event.{Event}
use Rattle.chunk_refs.specs.Room.{Contents as Names}
use Rattle.chunk_refs.proofs.Stores.{get-set_here, get-set_other}
use Rattle.name_machine.specs.States.{Ask, is_of, has_ask}
use Rattle.name_machine.specs.NewTasks.{taken, drawn_by_chunks, drawn_by_tasks, new_inputs, with_tasks}
use Rattle.name_machine.specs.Control.{Control, Grown, ref_known, is_held_by, with_number, number_awaiting, number_asked, numbers_awaiting, asked_numbers, awaiting, answered_with, copy_of, copies_of, without_ids, ref_named, chunk_more, chunks_more, input_copies, task_copies, resolved_to, without_task, tidied, after_finish}
use Rattle.name_machine.specs.Replay.{is_run_by}
use Rattle.name_machine.proofs.Values.{any_from, any_to}
use Rattle.name_machine.proofs.Tasks.{mapped_from}
use Rattle.name_machine.proofs.Fewer.{left_at}
use Rattle.name_machine.proofs.Added.{old_stays, new_from}
use Rattle.name_machine.proofs.FinishChunks.{chunks_draw}
use Rattle.core_steps.specs.Begin.{CanFinish}
use Rattle.core_steps.specs.Conditions.{bodies_of, finish_of}
use Rattle.core_steps.proofs.Awaited as awaited
use Rattle.core_steps.proofs.Course as course
use Rattle.core_steps.proofs.Resolved.{unanswered}
use Rattle.core_state.specs.AskTable.{AskTable}
use Rattle.core_state.specs.Contents.{after_event}
use Rattle.core_state.specs.Effect.{control_of}
use Rattle.core_state.specs.Inside.{contents_of, AreRun, IsKept}
use Rattle.core_state.specs.Needed.{due_for_holder, due_for_id, due_for_output, due_for_ask, due_for_caller, total_by, total_below}
use Rattle.core_state.proofs.Totals.{total_less, total_replaced, below_same}
use Rattle.core_state.proofs.Needs.{due_copied, due_registered, more_events}
use Rattle.core_state.proofs.Effects as effects
use Rattle.core_state.proofs.Working.{count_set, run_is}

-- ---- What callers may delete

abbrev due_list : List (ℕ × Holder) → ℕ
due_list [] = 0
due_list (one ∷ more) = due_for_holder one.1 + due_list more

due_more : (xs ys : List (ℕ × Holder)) → due_list (xs ++ ys) ≡ due_list xs + due_list ys
due_more [] ys = omega arith
due_more (x ∷ xs) ys = let rest = due_more xs ys in omega arith

due_input : (task of : ℕ) (input : Input Ref) → due_list (number_awaiting task of input) ≡ 0
due_input task of (Known r) = refl
due_input task of (Awaits a n) = elim (nat_eq a task) as (λ b. due_list (cond b ((n, ByTask of) ∷ []) []) ≡ 0) [ true ↦ refl | false ↦ refl ]

due_inputs : (task of : ℕ) (inputs : List (Input Ref)) → due_list (flat_map (number_awaiting task of) inputs) ≡ 0
due_inputs task of [] = refl
due_inputs task of (input ∷ inputs) =
    let first = due_input task of input in
    let rest = due_inputs task of inputs in
    let both = due_more (number_awaiting task of input) (flat_map (number_awaiting task of) inputs) in
    omega arith

abbrev one_if : Option ℕ → ℕ
one_if None = 0
one_if (Some n) = 1

due_number : (caller : ℕ) (asked : Option ℕ) → due_list (number_asked caller asked) ≡ one_if asked
due_number caller None = refl
due_number caller (Some n) = refl

module _ {K : Type 0} where
  due_entries : (task : ℕ) (es : List (ℕ × Unfinished Ref K)) → due_list (flat_map (numbers_awaiting task) es) ≡ 0
  due_entries task [] = refl
  due_entries task (e ∷ es) =
      let first = due_inputs task e.0 e.1.inputs in
      let rest = due_entries task es in
      let both = due_more (numbers_awaiting task e) (flat_map (numbers_awaiting task) es) in
      omega arith

  -- of all that await a task the caller alone may delete its copy
  due_awaiting : (graph : Graph Ref K) (task : ℕ) (ran : Unfinished Ref K) → task_at graph task ≡ Some ran → due_list (awaiting graph task) ≡ one_if ran.asked
  due_awaiting graph task ran there =
      let inputs = due_entries task (map.entries graph.tasks) in
      let asker : due_list (asked_numbers (task_at graph task)) ≡ one_if ran.asked = ap (λ o. due_list (asked_numbers o)) there ∙ due_number ran.caller ran.asked in
      let both = due_more (flat_map (numbers_awaiting task) (map.entries graph.tasks)) (asked_numbers (task_at graph task)) in
      omega arith

module _ {C : Type 0} where
  due_copy : (names : NameState C) (r : Ref) (number : ℕ) (holder : Holder) → total_by due_for_id (copy_of names r number holder).ids ≤ due_for_holder holder + total_by due_for_id names.ids
  due_copy names NullRef number holder = omega arith
  due_copy names (Held id) number holder = due_copied names id.number number holder

  due_copies : (names : NameState C) (r : Ref) (list : List (ℕ × Holder)) → total_by due_for_id (copies_of names r list).ids ≤ due_list list + total_by due_for_id names.ids
  due_copies names r [] = omega arith
  due_copies names r (one ∷ more) =
      let first = due_copy names r one.0 one.1 in
      let rest = due_copies (copy_of names r one.0 one.1) r more in
      omega arith

  -- new chunks and the inputs of new tasks are held by tasks
  due_chunks : (worker task : ℕ) (inputs : List Ref) (contents : List C) (chunks : List Places) (grown : Grown C)
      → total_by due_for_id (chunks_more worker task inputs contents chunks grown).names.ids ≤ total_by due_for_id grown.names.ids
  due_chunks worker task inputs contents [] grown = omega arith
  due_chunks worker task inputs [] (places ∷ chunks) grown = omega arith
  due_chunks worker task inputs (content ∷ contents) (places ∷ chunks) grown =
      let first = due_registered grown.names grown.drawn (ByTask task) worker content (each (ref_named grown.names inputs grown.chunks) (places_of places)) in
      let rest = due_chunks worker task inputs contents chunks (chunk_more worker task inputs content (places_of places) grown) in
      omega arith

  due_inputs_of : (read : Place → Ref) (task drawn : ℕ) (places : List Place) (names : NameState C) → total_by due_for_id (input_copies read task drawn places names).ids ≤ total_by due_for_id names.ids
  due_inputs_of read task drawn [] names = omega arith
  due_inputs_of read task drawn (Null ∷ places) names = due_inputs_of read task drawn places names
  due_inputs_of read task drawn (AtInput i ∷ places) names =
      let first = due_copy names (read (AtInput i)) (drawn + 1) (ByTask task) in
      let rest = due_inputs_of read task (drawn + 1) places (copy_of names (read (AtInput i)) (drawn + 1) (ByTask task)) in
      omega arith
  due_inputs_of read task drawn (Child i j ∷ places) names =
      let first = due_copy names (read (Child i j)) (drawn + 1) (ByTask task) in
      let rest = due_inputs_of read task (drawn + 1) places (copy_of names (read (Child i j)) (drawn + 1) (ByTask task)) in
      omega arith
  due_inputs_of read task drawn (Chunk i ∷ places) names =
      let first = due_copy names (read (Chunk i)) (drawn + 1) (ByTask task) in
      let rest = due_inputs_of read task (drawn + 1) places (copy_of names (read (Chunk i)) (drawn + 1) (ByTask task)) in
      omega arith
  due_inputs_of read task drawn (Task i ∷ places) names = due_inputs_of read task (drawn + 1) places names

  due_tasks : {K : Type 0} (read : Place → Ref) (drawn : ℕ) (tasks : List (NewTask K)) (names : NameState C) → total_by due_for_id (task_copies read drawn tasks names).ids ≤ total_by due_for_id names.ids
  due_tasks read drawn [] names = omega arith
  due_tasks read drawn (task ∷ tasks) names =
      let first = due_inputs_of read (drawn + 1) (drawn + 1) (places_of task.inputs) names in
      let rest = due_tasks read (drawn + 1 + taken (places_of task.inputs)) tasks (input_copies read (drawn + 1) (drawn + 1) (places_of task.inputs) names) in
      omega arith

  -- what a task holds, and what is not reached then, takes nothing to it
  due_left : (names : NameState C) (task : ℕ) → total_by due_for_id (swept (without_ids names (is_held_by task))).ids ≤ total_by due_for_id names.ids
  due_left names task =
      total_less due_for_id (swept (without_ids names (is_held_by task))).ids names.ids (λ q v is. (left_at names (is_held_by task) q v (id-left (without_ids names (is_held_by task)) q v is).0).0)

-- ---- Asks

abbrev Asks : Type 0
Asks = map.FinMap nat_cmp (Ask (Unit {0}) Ref)

bools_same : (a b : Bool) → (a ≡ true → b ≡ true) → (b ≡ true → a ≡ true) → a ≡ b
bools_same true b to from = sym (to refl)
bools_same false true to from = from refl
bools_same false false to from = refl

caller_stays : (asked : Option ℕ) (r : Ref) (ask : Ask (Unit {0}) Ref) → (answered_with asked r ask).caller ≡ ask.caller
caller_stays None r ask = refl
caller_stays (Some n) r ask =
    elim (nat_eq ask.number n) as (λ b. (cond b (record ask { delivered = Some (with_number r n) }) ask).caller ≡ ask.caller) [ true ↦ refl | false ↦ refl ]

-- a caller has an ask exactly where it had one
has_stays : (asks : Asks) (asked : Option ℕ) (r : Ref) (c : ℕ) → has_ask (each_changed (answered_with asked r) asks) c ≡ has_ask asks c
has_stays asks asked r c =
    bools_same (has_ask (each_changed (answered_with asked r) asks) c) (has_ask asks c)
    (λ has.
    let one = any_to (is_of c) (each_changed (answered_with asked r) asks) has in
    let was = mapped_from (answered_with asked r) (map.get asks one.0) one.1 (sym (get-each_changed (answered_with asked r) asks one.0) ∙ one.2) in
    any_from (is_of c) asks one.0 was.0 was.1
    (ap (λ k. nat_eq k c) (sym (ap (λ (a : Ask (Unit {0}) Ref). a.caller) was.2 ∙ caller_stays asked r was.0)) ∙ one.3))
    (λ has.
    let one = any_to (is_of c) asks has in
    any_from (is_of c) (each_changed (answered_with asked r) asks) one.0 (answered_with asked r one.1)
    (get-each_changed (answered_with asked r) asks one.0 ∙ ap (option_map (answered_with asked r)) one.2)
    (ap (λ k. nat_eq k c) (caller_stays asked r one.1) ∙ one.3))

callers_stay : (asks : Asks) (asked : Option ℕ) (r : Ref) (key : ℕ) (b : Ask (Unit {0}) Ref) → map.get (each_changed (answered_with asked r) asks) key ≡ Some b
    → (a : Ask (Unit {0}) Ref) × (map.get asks key ≡ Some a) × (b.caller ≡ a.caller)
callers_stay asks asked r key b is =
    let was = mapped_from (answered_with asked r) (map.get asks key) b (sym (get-each_changed (answered_with asked r) asks key) ∙ is) in
    (was.0, was.1, ap (λ (a : Ask (Unit {0}) Ref). a.caller) was.2 ∙ caller_stays asked r was.0)

output_due : (x : Ref) → due_for_output (Some x) ≡ 1
output_due NullRef = refl
output_due (Held id) = refl

-- the ask that is answered is owed one less
due_answered : (asks : Asks) (r : Ref) (number key : ℕ) (ask : Ask (Unit {0}) Ref) → map.get asks key ≡ Some ask → ask.number ≡ number → ask.delivered ≡ None
    → ((k l : ℕ) (a b : Ask (Unit {0}) Ref) → map.get asks k ≡ Some a → map.get asks l ≡ Some b → a.number ≡ b.number → k ≡ l)
    → total_by due_for_ask (each_changed (answered_with (Some number) r) asks) + 1 ≡ total_by due_for_ask asks
due_answered asks r number key ask there named none differ =
    let now : Ask (Unit {0}) Ref = record ask { delivered = Some (with_number r number) } in
    let here : answered_with (Some number) r ask ≡ now = ap (λ b. cond b now ask) (ap (λ k. nat_eq k number) named ∙ test_same number) in
    let same : each_changed (answered_with (Some number) r) asks ≡ map.insert asks key now =
    same_maps (each_changed (answered_with (Some number) r) asks) (map.insert asks key now) (λ q.
    get-each_changed (answered_with (Some number) r) asks q
    ∙ elim (same_or_not q key) [
      | inl is ↦ ap (λ k. option_map (answered_with (Some number) r) (map.get asks k)) is ∙ ap (option_map (answered_with (Some number) r)) there ∙ ap Some here ∙ sym (inserted_here asks key q now now is refl)
      | inr apart ↦
          elim (map.get asks q) as (λ o. map.get asks q ≡ o → option_map (answered_with (Some number) r) o ≡ o) [
            | None ↦ λ at. refl
            | Some other ↦ λ at.
                ap (λ b. Some (cond b (record other { delivered = Some (with_number r number) }) other))
                (test_apart other.number number (λ clash. apart (differ q key other ask at there (clash ∙ sym named))))
          ] refl
          ∙ sym (inserted_other asks key q now apart)
    ]) in
    let total : total_by due_for_ask (each_changed (answered_with (Some number) r) asks) ≡ total_by due_for_ask (map.insert asks key now) = ap (total_by due_for_ask) same in
    let replaced = total_replaced due_for_ask asks key ask now there in
    let before : due_for_ask ask ≡ 2 = ap due_for_output none in
    let after : due_for_ask now ≡ 1 = output_due (with_number r number) in
    omega arith

-- ---- Numbers

taken_few : (places : List Place) → taken places ≤ length places
taken_few [] = omega arith
taken_few (Null ∷ places) = let rest = taken_few places in omega arith
taken_few (AtInput i ∷ places) = let rest = taken_few places in omega arith
taken_few (Child i j ∷ places) = let rest = taken_few places in omega arith
taken_few (Chunk i ∷ places) = let rest = taken_few places in omega arith
taken_few (Task i ∷ places) = let rest = taken_few places in omega arith

take_few : {X : Type 0} (n : ℕ) (xs : List X) → length (take n xs) ≤ length xs
take_few zero xs = omega arith
take_few (suc n) [] = omega arith
take_few (suc n) (x ∷ xs) = let rest = take_few n xs in omega arith

places_few : (places : Places) → taken (places_of places) ≤ 4
places_few places =
    let few = taken_few (places_of places) in
    let four = take_few places.count (places.first ∷ places.second ∷ places.third ∷ places.fourth ∷ []) in
    omega arith

chunks_few : (chunks : List Places) → drawn_by_chunks chunks ≤ 6 * length chunks
chunks_few [] = omega arith
chunks_few (chunk ∷ chunks) = let first = places_few chunk in let rest = chunks_few chunks in omega arith

tasks_few : {K : Type 0} (tasks : List (NewTask K)) → drawn_by_tasks tasks ≤ 5 * length tasks
tasks_few [] = omega arith
tasks_few (task ∷ tasks) = let first = places_few task.inputs in let rest = tasks_few tasks in omega arith

each_few : {X Y : Type 0} (f : X → Y) (xs : List X) → length (each f xs) ≡ length xs
each_few f [] = refl
each_few f (x ∷ xs) = ap suc (each_few f xs)

stopped_stay : {K : Type 0} (value : Place → ℕ → Ref) (numbers : List ℕ) (caller drawn : ℕ) (tasks : List (NewTask K)) (graph : Graph Ref K)
    → (with_tasks value numbers caller drawn tasks graph).stopped ≡ graph.stopped
stopped_stay value numbers caller drawn [] graph = refl
stopped_stay value numbers caller drawn (task ∷ tasks) graph =
    stopped_stay value numbers caller (drawn + 1 + taken (places_of task.inputs)) tasks
    (added graph (drawn + 1) caller task.kind (new_inputs value numbers (drawn + 1) (places_of task.inputs)))

-- ---- What is left

module _ {C K : Type 0} (arity : C → ℕ) (control : Control C (Unit {0}) K) (worker task : ℕ) (ran : Unfinished Ref K) (outcome : Outcome C K)
    (can : CanFinish arity control worker task ran outcome) where
  abbrev grown : Grown C
  grown = awaited.grown arity control worker task ran outcome can

  abbrev numbers : List ℕ
  numbers = awaited.numbers arity control worker task ran outcome can

  abbrev read : Place → Ref
  read = awaited.read arity control worker task ran outcome can

  abbrev tasked : Control C (Unit {0}) K
  tasked = awaited.tasked arity control worker task ran outcome can

  abbrev value : Place → ℕ → Ref
  value place number = with_number (read place) number

  abbrev on : Place → Control C (Unit {0}) K
  on place = resolved_to tasked task numbers read place

  -- asks after the output is handed on, and what is owed for identifiers and asks
  record Owes (names : NameState C) (asks : Asks) : Type 0 where
    pub due : total_by due_for_id names.ids + total_by due_for_ask asks ≤ total_by due_for_id tasked.names.ids + total_by due_for_ask control.asks
    pub has : (c : ℕ) → has_ask asks c ≡ has_ask control.asks c
    pub callers : (key : ℕ) (b : Ask (Unit {0}) Ref) → map.get asks key ≡ Some b → (a : Ask (Unit {0}) Ref) × (map.get control.asks key ≡ Some a) × (b.caller ≡ a.caller)

  asked_due : (asked : Option ℕ) → ran.asked ≡ asked → (r : Ref) → total_by due_for_ask (each_changed (answered_with asked r) control.asks) + one_if asked ≡ total_by due_for_ask control.asks
  asked_due None is r =
      let same : total_by due_for_ask (each_changed (answered_with None r) control.asks) ≡ total_by due_for_ask control.asks = ap (total_by due_for_ask) (unanswered control.asks r) in
      omega arith
  asked_due (Some n) is r =
      let own = can.together.asked task n ran can.there is in
      due_answered control.asks r n own.0 own.1 own.2 own.4 own.5 can.together.outputs_differ

  settled_owes : (r : Ref) → Owes (copies_of tasked.names r (awaiting tasked.graph task)) (each_changed (answered_with (asked_of tasked.graph task) r) control.asks)
  settled_owes r =
      let there = awaited.still_there arity control worker task ran outcome can in
      let asked_is : asked_of tasked.graph task ≡ ran.asked = ap (λ (o : Option (Unfinished Ref K)). elim o as (λ x. Option ℕ) [ None ↦ None | Some t ↦ t.asked ]) there in
      record {
        due =
            let copies = due_copies tasked.names r (awaiting tasked.graph task) in
            let list = due_awaiting tasked.graph task ran there in
            let asks = asked_due ran.asked refl r in
            let same : total_by due_for_ask (each_changed (answered_with (asked_of tasked.graph task) r) control.asks) ≡ total_by due_for_ask (each_changed (answered_with ran.asked r) control.asks) =
            ap (λ o. total_by due_for_ask (each_changed (answered_with o r) control.asks)) asked_is in
            omega arith;
        has = has_stays control.asks (asked_of tasked.graph task) r;
        callers = callers_stay control.asks (asked_of tasked.graph task) r;
      }

  place_owes : (place : Place) → Owes (on place).names (on place).asks
  place_owes Null = settled_owes NullRef
  place_owes (AtInput i) = settled_owes (read (AtInput i))
  place_owes (Child i j) = settled_owes (read (Child i j))
  place_owes (Chunk i) = settled_owes (read (Chunk i))
  place_owes (Task i) = record { due = omega arith; has = λ c. refl; callers = λ key b is. (b, is, refl) }

  -- ---- Tasks

  abbrev left : Graph Ref K
  left = removed (on outcome.result).graph task

  left_from : (q : ℕ) (v : Unfinished Ref K) → task_at left q ≡ Some v
      → (q ≡ task → ⊥) × (((u : Unfinished Ref K) × (task_at control.graph q ≡ Some u) × (v.caller ≡ u.caller) × (v.runner ≡ u.runner)) ⊎ ((v.caller ≡ ran.caller) × (v.runner ≡ None)))
  left_from q v is =
      let handed = (effects.result_on arity control worker task ran outcome can).handed in
      let was = removed_from (on outcome.result).graph.tasks task q v is in
      let u = handed.from q v was.1 in
      let now = handed.other q u.0 was.0 u.1 in
      let same : v ≡ now.0 = same_some v now.0 (sym was.1 ∙ now.1) in
      let caller : v.caller ≡ u.0.caller = ap (λ (t : Unfinished Ref K). t.caller) same ∙ now.3 in
      let runner : v.runner ≡ u.0.runner = ap (λ (t : Unfinished Ref K). t.runner) same ∙ now.4 in (
        was.0,
        elim (new_from value numbers ran.caller grown.drawn outcome.tasks control.graph q u.0 u.1) [
          | inl old ↦ inl (u.0, old, caller, runner)
          | inr new ↦ inr (caller ∙ ap (λ (t : Unfinished Ref K). t.caller) new.is, runner ∙ ap (λ (t : Unfinished Ref K). t.runner) new.is)
        ],
      )

  left_to : (q : ℕ) (u : Unfinished Ref K) → (q ≡ task → ⊥) → task_at control.graph q ≡ Some u → (v : Unfinished Ref K) × (task_at left q ≡ Some v) × (v.runner ≡ u.runner)
  left_to q u apart is =
      let handed = (effects.result_on arity control worker task ran outcome can).handed in
      let low = can.together.tasks_drawn q u is in
      let up = (course.chunk_stage arity control worker task ran outcome can).up in
      let there : task_at tasked.graph q ≡ Some u = old_stays value numbers ran.caller grown.drawn outcome.tasks control.graph q (omega arith) ∙ is in
      let now = handed.other q u apart there in
      (now.0, removed_other (on outcome.result).graph.tasks task q apart ∙ now.1, now.4)

  stopped_is : left.stopped ≡ control.graph.stopped
  stopped_is =
      (effects.result_on arity control worker task ran outcome can).handed.stopped
      ∙ stopped_stay value numbers ran.caller grown.drawn outcome.tasks control.graph

  left_run : (running : List (Option ℕ)) → AreRun control.graph running → slice_get running worker ≡ Some (Some task) → AreRun left (slice_set running worker None)
  left_run running run runs = record {
    runner = λ q w v is by.
        let was = left_from q v is in
        elim was.1 [
          | inl old ↦
              let before = run.runner q w old.0 old.1 (sym old.3 ∙ by) in
              elim (same_or_not w worker) [
                | inl same ↦ absurd (was.0 (sym (same_some task q (same_some (Some task) (Some q) (sym runs ∙ ap (slice_get running) (sym same) ∙ before)))))
                | inr apart ↦ get-set_other running worker w None apart ∙ before
              ]
          | inr new ↦ absurd (none_not_some new.1 by)
        ];
    task = λ w q is.
        elim (same_or_not w worker) [
          | inl same ↦ absurd (none_not_some refl (same_some None (Some q) (sym (get-set_here running worker None (Some task) runs) ∙ ap (slice_get (slice_set running worker None)) (sym same) ∙ is)))
          | inr apart ↦
              let old = run.task w q (sym (get-set_other running worker w None apart) ∙ is) in
              elim (same_or_not q task) [
                | inl here ↦
                    let both : ran ≡ old.0 = same_some ran old.0 (sym can.there ∙ ap (task_at control.graph) (sym here) ∙ old.1) in
                    absurd (apart (same_some w worker (sym old.2 ∙ ap (λ (t : Unfinished Ref K). t.runner) (sym both) ∙ can.runner)))
                | inr other ↦ (let now = left_to q old.0 other old.1 in (now.0, now.1, now.2 ∙ old.2))
              ]
        ];
  }

  -- ---- Numbers

  numbers_few : tasked.drawn ≤ control.drawn + 128
  numbers_few =
      let chunks = chunks_draw arity task control worker (each ref_known ran.inputs) (course.trees arity control worker task ran outcome can) outcome.chunks (record { names = control.names; drawn = control.drawn; chunks = [] }) in
      let few = chunks_few (each (λ (chunk : NewChunk C). chunk.children) outcome.chunks) in
      let count = each_few (λ (chunk : NewChunk C). chunk.children) outcome.chunks in
      let more = tasks_few outcome.tasks in
      let eight = can.formed.few_chunks in
      let sixteen = can.formed.few_tasks in
      omega arith

  tasked_due : total_by due_for_id tasked.names.ids ≤ total_by due_for_id control.names.ids
  tasked_due =
      let chunks = due_chunks worker task (each ref_known ran.inputs) (bodies_of outcome) (each (λ (chunk : NewChunk C). chunk.children) outcome.chunks) (record { names = control.names; drawn = control.drawn; chunks = [] }) in
      let tasks = due_tasks read grown.drawn outcome.tasks grown.names in
      omega arith

  -- the control state is this
  abbrev final : Control C (Unit {0}) K
  final = tidied (without_task (on outcome.result) task)

  pub final_is : (now : Control C (Unit {0}) K)
      → now ≡ tidied (after_finish control worker task (bodies_of outcome) (each (λ (chunk : NewChunk C). chunk.children) outcome.chunks) outcome.tasks outcome.result (task_at control.graph task))
      → now ≡ final
  final_is now is =
      is ∙ ap (λ o. tidied (after_finish control worker task (bodies_of outcome) (each (λ (chunk : NewChunk C). chunk.children) outcome.chunks) outcome.tasks outcome.result o)) can.there

  final_drawn : (place : Place) → (on place).drawn ≡ tasked.drawn
  final_drawn Null = refl
  final_drawn (AtInput i) = refl
  final_drawn (Child i j) = refl
  final_drawn (Chunk i) = refl
  final_drawn (Task i) = refl

-- ---- What hangs together then

module _ {C K : Type 0} (drawn : ℕ) (names : Names C) (table : AskTable) (graph : Graph Ref K) (history : History K) (callers : ℕ) (running : List (Option ℕ)) (owed : ℕ)
    (kept : IsKept drawn names table graph history callers running owed)
    (arity : C → ℕ) (worker task : ℕ) (ran : Unfinished Ref K) (outcome : Outcome C K)
    (can : CanFinish arity (control_of drawn names.names table.asks graph) worker task ran outcome)
    (runs : slice_get running worker ≡ Some (Some task)) where
  abbrev before : Control C (Unit {0}) K
  before = control_of drawn names.names table.asks graph

  module _ (drawn2 : ℕ) (names2 : Names C) (table2 : AskTable) (graph2 : Graph Ref K) (history2 : History K) (event : Event K)
      (effect : control_of drawn2 names2.names table2.asks graph2
      ≡ tidied (after_finish before worker task (bodies_of outcome) (each (λ (chunk : NewChunk C). chunk.children) outcome.chunks) outcome.tasks outcome.result (task_at graph task)))
      (events : history2.events ≡ history.events ++ event ∷ []) where
    abbrev last : Control C (Unit {0}) K
    last = final arity before worker task ran outcome can

    now_is : control_of drawn2 names2.names table2.asks graph2 ≡ last
    now_is = final_is arity before worker task ran outcome can (control_of drawn2 names2.names table2.asks graph2) effect

    pub finished_kept : (owed2 : ℕ) → length names2.room.bodies ≡ length names.room.bodies → length table2.rooms ≡ length table.rooms
        → owed2 + 1 ≡ owed → history2.spare + 1 ≡ history.spare
        → IsKept drawn2 names2 table2 graph2 history2 callers (slice_set running worker None) owed2
    finished_kept owed2 stores rooms less spare =
        let long : length (slice_set running worker None) ≡ length running = length-set running worker None in
        let owes = place_owes arity before worker task ran outcome can outcome.result in
        let drawn_is : drawn2 ≡ (tasked arity before worker task ran outcome can).drawn = ap (λ (s : Control C (Unit {0}) K). s.drawn) now_is ∙ final_drawn arity before worker task ran outcome can outcome.result in
        let asks_is : table2.asks ≡ (on arity before worker task ran outcome can outcome.result).asks = ap (λ (s : Control C (Unit {0}) K). s.asks) now_is in
        let graph_is : graph2 ≡ left arity before worker task ran outcome can = ap (λ (s : Control C (Unit {0}) K). s.graph) now_is in
        let few = numbers_few arity before worker task ran outcome can in
        let count = count_set running worker (Some task) None runs in
        let ids : total_by due_for_id names2.names.ids ≡ total_by due_for_id last.names.ids = ap (λ (s : Control C (Unit {0}) K). total_by due_for_id s.names.ids) now_is in
        let fewer = due_left (on arity before worker task ran outcome can outcome.result).names task in
        let tasks_due = tasked_due arity before worker task ran outcome can in
        let asks_due : total_by due_for_ask table2.asks ≡ total_by due_for_ask (on arity before worker task ran outcome can outcome.result).asks = ap (total_by due_for_ask) asks_is in
        let due = owes.due in
        let stopped : graph2.stopped ≡ graph.stopped = ap (λ (g : Graph Ref K). g.stopped) graph_is ∙ stopped_is arity before worker task ran outcome can in
        let shares : total_below callers (due_for_caller table2.asks (is_stopped graph2)) ≡ total_below callers (due_for_caller table.asks (is_stopped graph)) =
        below_same callers (due_for_caller table2.asks (is_stopped graph2)) (due_for_caller table.asks (is_stopped graph))
        (λ q low.
        (λ i. cond (has_ask (asks_is i) q) (cond (sets.contains (stopped i) q) 1 2) 0)
        ∙ ap (λ b. cond b (cond (is_stopped graph q) 1 2) 0) (owes.has q)) in
        record {
          few_callers = kept.few_callers;
          few_workers = let few_workers = kept.few_workers in omega arith;
          some_worker = let some = kept.some_worker in omega arith;
          stores = stores ∙ kept.stores ∙ sym long;
          lists = rooms ∙ kept.lists;
          tasks = λ q v is.
              let was = left_from arity before worker task ran outcome can q v (ap (λ (g : Graph Ref K). task_at g q) (sym graph_is) ∙ is) in
              elim was.1 [
                | inl old ↦ subst (λ n. n < callers) (sym old.2) (kept.tasks q old.0 old.1)
                | inr new ↦ subst (λ n. n < callers) (sym new.0) (kept.tasks task ran can.there)
              ];
          asks = λ key b is.
              let was = owes.callers key b (ap (λ (m : Asks). map.get m key) (sym asks_is) ∙ is) in
              subst (λ n. n < callers) (sym was.2) (kept.asks key was.0 was.1);
          run =
              subst (λ (g : Graph Ref K). AreRun g (slice_set running worker None)) (sym graph_is)
              (left_run arity before worker task ran outcome can running kept.run runs);
          few = more_events drawn names table graph history callers running owed kept history2 event 128 drawn2 events (omega arith) (omega arith);
          room = let room = kept.room in omega arith;
          enough = let was = kept.enough in omega arith;
        }

    -- and the control state is that after the event
    pub finished_is : event ≡ finish_of worker task outcome
        → contents_of drawn2 names2 table2 graph2 history2 callers (slice_set running worker None)
        ≡ after_event (contents_of drawn names table graph history callers running) (bodies_of outcome) (finish_of worker task outcome)
    finished_is event_is =
        let long : length (slice_set running worker None) ≡ length running = length-set running worker None in
        λ i. record { control = effect i; events = (events ∙ ap (λ e. history.events ++ e ∷ []) event_is) i; callers = callers; workers = long i }

-- ---- Which task a worker runs

pub run_here : (running : List (Option ℕ)) (worker task : ℕ) (now : Option ℕ) → worker < length running → now ≡ get_or running worker now → slice_get running worker ≡ Some (Some task)
    → now ≡ Some task
run_here running worker task now within read is =
    same_some now (Some task) (sym (slice_get_read running (length running) worker now refl within read) ∙ is)

module _ {C K : Type 0} (arity : C → ℕ) (drawn : ℕ) (names : NameState C) (asks : Asks) (graph : Graph Ref K) (running : List (Option ℕ)) (run : AreRun graph running)
    (worker task : ℕ) (ran : Unfinished Ref K) (outcome : Outcome C K) (can : CanFinish arity (control_of drawn names asks graph) worker task ran outcome) where
  pub runs_it : slice_get running worker ≡ Some (Some task)
  runs_it = run.runner task worker ran can.there can.runner

  module _ (found : ℕ) (now : Option ℕ) (within : worker < length running) (read : now ≡ get_or running worker now) (is : now ≡ Some found) where
    pub found_is : task ≡ found
    found_is = same_some task found (sym (run_here running worker task now within read runs_it) ∙ is)

    pub can_here : CanFinish arity (control_of drawn names asks graph) worker found ran outcome
    can_here = subst (λ k. CanFinish arity (control_of drawn names asks graph) worker k ran outcome) found_is can

    -- the same with more room, and with the new tasks as a slice
    pub can_then : (names2 : NameState C) (graph2 : Graph Ref K) (tasks : List (NewTask K)) → names2 ≡ names → graph2 ≡ graph → tasks ≡ outcome.tasks
        → CanFinish arity (control_of drawn names2 asks graph2) worker found ran (record { chunks = outcome.chunks; tasks = tasks; result = outcome.result })
    can_then names2 graph2 tasks names_is graph_is tasks_are =
        subst (λ n. CanFinish arity (control_of drawn n asks graph2) worker found ran (record { chunks = outcome.chunks; tasks = tasks; result = outcome.result })) (sym names_is)
        (subst (λ gr. CanFinish arity (control_of drawn names asks gr) worker found ran (record { chunks = outcome.chunks; tasks = tasks; result = outcome.result })) (sym graph_is)
        (subst (λ ts. CanFinish arity (control_of drawn names asks graph) worker found ran (record { chunks = outcome.chunks; tasks = ts; result = outcome.result })) (sym tasks_are) can_here))

  -- no other task is run by the worker
  pub run_one : (other : ℕ) → is_run_by worker (task_at graph other) ≡ true → other ≡ task
  run_one other runs =
      let there = run_is worker (task_at graph other) runs in
      same_some other task (same_some (Some other) (Some task) (sym (run.runner other worker there.0 there.1 there.2) ∙ runs_it))
