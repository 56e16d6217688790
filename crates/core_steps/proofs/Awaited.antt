-- Who awaits the task that a finish ends, once its new chunks and its new tasks are there: those that awaited it before. Their numbers are
-- free in the names and differ, and what the result names is live. So all that awaits can be settled, or handed on.
use Rattle.std.proofs.Common.{◌≡◌, ℕ, zero, suc, ◌<◌, ◌≤◌, inl, inr, true, List, [], ◌∷◌, map as each, length, slice_get, Option, None, Some, refl, sym, ap, subst, ◌∙◌, arith}
use Rattle.std.specs.Option.{option_map}
use Rattle.std.specs.List.{All}
use Rattle.std.specs.FinMap as map
use Rattle.std.proofs.lemmas.Bool.{ltb-true}
use Rattle.std.proofs.lemmas.Option.{slice_get_within}
use Rattle.std.proofs.lemmas.List.Elements.{All-head}
use Rattle.cht_ids.specs.declared.refs.Ref.{Ref}
use Rattle.cht_ids.specs.declared.refs.Ref.TheVariants.{Null as NullRef}
use Rattle.task_types.specs.declared.outcome.Place.{Place}
use Rattle.task_types.specs.declared.outcome.Place.TheVariants.{Task}
use Rattle.task_types.specs.declared.outcome.NewTask.{NewTask}
use Rattle.task_types.specs.declared.outcome.NewChunk.{NewChunk}
use Rattle.task_types.specs.declared.outcome.Outcome.{Outcome}
use Rattle.task_types.specs.Tree.{Tree}
use Rattle.task_types.specs.Presence.{Presence}
use Rattle.task_types.specs.Places.{places_of}
use Rattle.task_types.specs.Formed.{may_stand}
use Rattle.name_states.specs.States.{id_at, IsLiveRef}
use Rattle.name_states.specs.Trees.{tree_of}
use Rattle.name_states.proofs.Basics.{same_some, none_not_some}
use Rattle.task_states.specs.declared.states.Awaiter.{Awaiter}
use Rattle.task_states.specs.declared.states.Awaiter.TheVariants.{Input as AtInput, Asked}
use Rattle.task_states.specs.States.{Awaits, Unfinished, Graph, task_at, input_at}
use Rattle.task_states.specs.Steps.{delivered}
use Rattle.task_states.specs.Awaiters.{number_of, IsAsked, IsAwaiter}
use Rattle.task_states.specs.Listing.{awaiters}
use Rattle.task_states.proofs.Deliveries.{delivers_to_one, input_there, task_behind}
use Rattle.task_states.proofs.Listings.{all_await}
use Rattle.task_graph.specs.Contents.{AreOfOneCaller, IsAskedOnce}
use Rattle.name_machine.specs.States.{Ask}
use Rattle.name_machine.specs.NewTasks.{task_numbers, number_at, new_inputs}
use Rattle.name_machine.specs.Control.{Control, Grown, ref_known, with_number, ref_named, with_chunks, with_new_tasks}
use Rattle.name_machine.specs.Standing.{HasNoOutput}
use Rattle.name_machine.proofs.Added.{number_drawn, awaits_named, new_of, old_stays, new_from, new_at}
use Rattle.name_machine.proofs.Finishing.{one_there}
use Rattle.name_machine.proofs.FinishMiddle.{Middle}
use Rattle.name_machine.proofs.FinishChunks.{passes_at}
use Rattle.name_machine.proofs.FinishStages.{chunk_stage, task_stage, still_there as ran_is_there, kept_good}
use Rattle.core_steps.specs.Conditions.{bodies_of, presences}
use Rattle.core_steps.specs.Begin.{CanFinish}
use Rattle.core_steps.specs.Delivered.{AreSetApart}
use Rattle.core_steps.proofs.Delivering.{one_less}

-- ---- How many await

module _ {K : Type 0} (task : ℕ) where
  first_awaits : (graph : Graph Ref K) (a : Awaiter) (more : List Awaiter) → awaiters graph task ≡ a ∷ more → IsAwaiter graph task a
  first_awaits graph a more is = All-head (IsAwaiter graph task) a more (subst (All (IsAwaiter graph task)) is (all_await graph task))

  fewer_from : (n : ℕ) (one two : Graph Ref K) → ((a : Awaiter) → IsAwaiter two task a → IsAwaiter one task a) → (list : List Awaiter) → awaiters two task ≡ list → length list ≡ n
      → length list ≤ length (awaiters one task)
  fewer_from n one two all [] is count = omega arith
  fewer_from zero one two all (a ∷ more) is count = absurd (omega arith)
  fewer_from (suc n) one two all (a ∷ more) is count =
      let awaits = first_awaits two a more is in
      let less_two = one_less two (delivered two task a NullRef) task a NullRef awaits refl in
      let less_one = one_less one (delivered one task a NullRef) task a NullRef (all a awaits) refl in
      let whole : length (awaiters two task) ≡ length (a ∷ more) = ap length is in
      let rest =
      fewer_from n (delivered one task a NullRef) (delivered two task a NullRef)
      (λ b still.
      let was = (delivers_to_one two task a NullRef awaits task b).0 still in
      (delivers_to_one one task a NullRef (all a awaits) task b).1 (all b was.0, was.1))
      (awaiters (delivered two task a NullRef) task) refl (omega arith) in
      omega arith

  -- no more await a task where each that awaits it awaits it in another graph
  pub fewer_await : (one two : Graph Ref K) → ((a : Awaiter) → IsAwaiter two task a → IsAwaiter one task a) → length (awaiters two task) ≤ length (awaiters one task)
  fewer_await one two all = fewer_from (length (awaiters two task)) one two all (awaiters two task) refl refl

-- ---- At this point of a finish

module _ {C K : Type 0} (arity : C → ℕ) (control : Control C (Unit {0}) K) (worker task : ℕ) (ran : Unfinished Ref K) (outcome : Outcome C K) (can : CanFinish arity control worker task ran outcome) where
  abbrev pub inputs : List Ref
  inputs = each ref_known ran.inputs

  abbrev pub grown : Grown C
  grown = with_chunks control worker task inputs (bodies_of outcome) (each (λ (chunk : NewChunk C). chunk.children) outcome.chunks)

  abbrev pub numbers : List ℕ
  numbers = task_numbers grown.drawn outcome.tasks

  -- the reference that a place names
  abbrev pub read : Place → Ref
  read = ref_named grown.names inputs grown.chunks

  -- the state with the new chunks and the new tasks
  abbrev pub tasked : Control C (Unit {0}) K
  tasked = with_new_tasks control ran.caller inputs outcome.tasks grown

  abbrev known : List Presence
  known = presences arity control ran

  abbrev trees : List (Tree C)
  trees = each (tree_of control.names) inputs

  abbrev value : Place → ℕ → Ref
  value place number = with_number (read place) number

  pub middle : Middle arity task tasked
  middle = (task_stage arity control can.orderly can.together.tasks_drawn task ran can.there worker outcome known can.formed trees refl).middle

  pub still_there : task_at tasked.graph task ≡ Some ran
  still_there = ran_is_there arity control can.orderly can.together.tasks_drawn task ran can.there worker outcome known can.formed trees refl

  task_low : task ≤ grown.drawn
  task_low =
      let low = can.together.tasks_drawn task ran can.there in
      let up = (chunk_stage arity control can.orderly can.together.tasks_drawn task ran can.there worker outcome known can.formed trees refl).up in
      omega arith

  -- what a place names is live
  pub place_live : (place : Place) → may_stand known (length outcome.chunks) (length outcome.tasks) place ≡ true → IsLiveRef tasked.names (read place)
  place_live place may = (kept_good arity control can.orderly can.together.tasks_drawn task ran can.there worker outcome known can.formed trees refl place may).0

  pub result_live : IsLiveRef tasked.names (read outcome.result)
  result_live = place_live outcome.result can.formed.result_stands

  -- ---- The numbers

  ran_is : (t : Unfinished Ref K) → task_at tasked.graph task ≡ Some t → t ≡ ran
  ran_is t at = same_some t ran (sym at ∙ still_there)

  -- the ask under whose number the task is asked for
  own_ask : (c n : ℕ) → IsAsked tasked.graph task c n
      → (key : ℕ) × (ask : Ask (Unit {0}) Ref) × (map.get control.asks key ≡ Some ask) × (ask.caller ≡ ran.caller) × (ask.number ≡ n) × (ask.delivered ≡ None)
  own_ask c n asked = can.together.asked task n ran can.there (ap (λ (t : Unfinished Ref K). t.asked) (sym (ran_is asked.unfinished asked.there)) ∙ asked.number_is)

  caller_is : (c n : ℕ) → IsAsked tasked.graph task c n → c ≡ ran.caller
  caller_is c n asked = sym asked.caller_is ∙ ap (λ (t : Unfinished Ref K). t.caller) (ran_is asked.unfinished asked.there)

  number_free : (a : Awaiter) → IsAwaiter tasked.graph task a → id_at tasked.names (number_of a) ≡ None
  number_free (AtInput of place n) at = (middle.aside.inputs n (of, place, task, at)).1
  number_free (Asked c n) asked =
      let own = own_ask c n asked in
      ap (id_at tasked.names) (sym own.4) ∙ middle.aside.outputs own.0 own.1 own.2 (subst HasNoOutput (sym own.5) tt)

  -- no number is above what was drawn
  pub number_low : (a : Awaiter) → IsAwaiter tasked.graph task a → number_of a ≤ tasked.drawn
  number_low (AtInput of place n) at = (middle.aside.inputs n (of, place, task, at)).0
  number_low (Asked c n) asked =
      let own = own_ask c n asked in
      subst (λ m. m ≤ tasked.drawn) own.4 (middle.aside.drawn own.0 own.1 own.2)

  never_both : (of place n c m : ℕ) → input_at tasked.graph of place ≡ Some (Awaits task n) → IsAsked tasked.graph task c m → n ≡ m → ⊥
  never_both of place n c m at asked same =
      let own = own_ask c m asked in
      middle.aside.unasked own.0 own.1 own.2 (of, place, task, at ∙ ap (λ k. Some (Awaits task k)) (same ∙ sym own.4))

  numbers_apart : (one other : Awaiter) → IsAwaiter tasked.graph task one → IsAwaiter tasked.graph task other → number_of one ≡ number_of other → one ≡ other
  numbers_apart (AtInput of place n) (AtInput q p m) at is same =
      let both = middle.aside.one_place of place task q p task m (at ∙ ap (λ k. Some (Awaits task k)) same) is in
      λ i. AtInput (both.0 i) (both.1 i) (same i)
  numbers_apart (AtInput of place n) (Asked c m) at asked same = absurd (never_both of place n c m at asked same)
  numbers_apart (Asked c n) (AtInput q p m) asked at same = absurd (never_both q p m c n at asked (sym same))
  numbers_apart (Asked c n) (Asked d m) one two same =
      let callers : c ≡ d = caller_is c n one ∙ sym (caller_is d m two) in
      λ i. Asked (callers i) (same i)

  pub set_apart : AreSetApart tasked.names tasked.graph task
  set_apart = record { free = number_free; apart = numbers_apart }

  -- ---- No new task awaits it

  -- an input of a new task awaits a new task
  awaits_new : (i : ℕ) (new : NewTask K) (start p a n : ℕ) → slice_get outcome.tasks i ≡ Some new → slice_get (new_inputs value numbers start (places_of new.inputs)) p ≡ Some (Awaits a n) → grown.drawn < a
  awaits_new i new start p a n at is =
      let named = awaits_named value numbers start p a n (places_of new.inputs) is in
      let lower = ltb-true named.0 i (passes_at (may_stand known (length outcome.chunks) i) (places_of new.inputs) p (Task named.0) (can.formed.tasks_formed i new at).each named.1) in
      let within = slice_get_within outcome.tasks i new at in
      let low = (number_drawn grown.drawn named.0 outcome.tasks (omega arith)).0 in
      let number = named.2 in
      omega arith

  pub awaited_before : (a : Awaiter) → IsAwaiter tasked.graph task a → IsAwaiter control.graph task a
  awaited_before (AtInput of place n) at =
      let t = task_behind tasked.graph of place (Awaits task n) at in
      elim (new_from value numbers ran.caller grown.drawn outcome.tasks control.graph of t.0 t.1) [
        | inl was ↦ input_there control.graph of place t.0 was ∙ t.2
        | inr new ↦
            let input = ap (λ (u : Unfinished Ref K). slice_get u.inputs place) (sym new.is) ∙ t.2 in
            let high = awaits_new new.index new.task new.start place task n new.at input in
            let low = task_low in
            absurd (omega arith)
      ]
  awaited_before (Asked c n) asked = record {
    unfinished = asked.unfinished;
    there = sym (old_stays value numbers ran.caller grown.drawn outcome.tasks control.graph task task_low) ∙ asked.there;
    caller_is = asked.caller_is;
    number_is = asked.number_is;
  }

  -- so no more await it than before
  pub no_more_await : length (awaiters tasked.graph task) ≤ length (awaiters control.graph task)
  no_more_await = fewer_await task control.graph tasked.graph awaited_before

  -- ---- A result that is the output of a new task

  module _ (i : ℕ) (result : outcome.result ≡ Task i) where
    result_within : i < length outcome.tasks
    result_within = ltb-true i (length outcome.tasks) (ap (may_stand known (length outcome.chunks) (length outcome.tasks)) (sym result) ∙ can.formed.result_stands)

    new_there : (start : ℕ) × (new : NewTask K) × (task_at tasked.graph (number_at numbers i) ≡ Some (new_of value numbers ran.caller start new))
    new_there =
        let new = one_there outcome.tasks i result_within in
        let at = new_at value numbers ran.caller grown.drawn i outcome.tasks control.graph new.0 new.1 in
        (at.0, new.0, at.1)

    pub of_one_caller : AreOfOneCaller tasked.graph task (number_at numbers i)
    of_one_caller = (
      ran.caller,
      ap (option_map (λ (t : Unfinished Ref K). t.caller)) still_there,
      ap (option_map (λ (t : Unfinished Ref K). t.caller)) new_there.2,
    )

    pub another_task : task ≡ number_at numbers i → ⊥
    another_task same =
        let high = (number_drawn grown.drawn i outcome.tasks result_within).0 in
        let low = task_low in
        omega arith

    pub asked_once : IsAskedOnce tasked.graph task (number_at numbers i)
    asked_once asked that one two =
        none_not_some (ap (λ (o : Option (Unfinished Ref K)). elim o as (λ _. Option ℕ) [ None ↦ None | Some t ↦ t.asked ]) new_there.2) two
