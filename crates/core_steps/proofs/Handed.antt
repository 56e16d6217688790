-- The unfinished tasks once the output of a finished one is handed on, and which became Ready.
use Rattle.std.proofs.Common.{◌≡◌, ℕ, zero, suc, inl, inr, Bool, true, false, cond, nat_eq, List, [], ◌∷◌, map as each, slice_get, Option, None, Some, is_some, IsSome, refl, sym, ap, ◌∙◌}
use Rattle.std.specs.Option.{option_map}
use Rattle.std.specs.List.{list_any}
use Rattle.cht_ids.specs.declared.refs.Ref.{Ref}
use Rattle.name_states.proofs.Basics.{none_not_some, same_some, same_or_not, test_same, test_apart}
use Rattle.task_states.specs.declared.states.TaskStatus.{TaskStatus}
use Rattle.task_states.specs.declared.states.TaskStatus.TheVariants.{Unknown, Waiting, Ready, Running}
use Rattle.task_states.specs.declared.states.Awaiter.TheVariants.{Input as AtInput, Asked}
use Rattle.task_states.specs.Maps.{each_changed}
use Rattle.task_states.specs.States.{Input, Known, Awaits, Unfinished, Graph, task_at, asked_of, status, status_of, is_awaiting, AwaitsNothing}
use Rattle.task_states.specs.Steps.{settled, redirected, all_delivered, inputs_redirected, without_asked, asked_moved, forwarded}
use Rattle.task_states.specs.Awaiters.{IsNotAwaited}
use Rattle.task_states.proofs.Maps.{get-each_changed}
use Rattle.task_states.proofs.Changes.{changed_here, changed_other, changed_from}
use Rattle.task_states.proofs.Deliveries.{task_behind}
use Rattle.name_machine.proofs.Tasks.{mapped_from}
use Rattle.name_machine.proofs.FinishSettled.{settled_awaits}

-- ---- Inputs, each changed

each_input : {X : Type 0} (f : Input X → Input X) (inputs : List (Input X)) (p : ℕ) (x : Input X) → slice_get (each f inputs) p ≡ Some x
    → (i : Input X) × (slice_get inputs p ≡ Some i) × (f i ≡ x)
each_input f [] p x is = absurd (none_not_some refl is)
each_input f (i ∷ inputs) zero x is = (i, refl, same_some (f i) x is)
each_input f (i ∷ inputs) (suc p) x is = each_input f inputs p x is

-- what is done to inputs where a task's output is handed on: known ones stay, and none awaits the task then
pub record HandsOn (task : ℕ) (f : Input Ref → Input Ref) : Type 0 where
  pub known : (r : Ref) → f (Known r) ≡ Known r
  pub never : (i : Input Ref) (n : ℕ) → f i ≡ Awaits task n → ⊥

pub settles : (task : ℕ) (value : ℕ → Ref) → HandsOn task (settled task value)
settles task value = record {
  known = λ r. refl;
  never = λ i n is. (settled_awaits task value i task n (sym is)).1 refl;
}

pub redirects : (task to : ℕ) → (to ≡ task → ⊥) → HandsOn task (redirected task to)
redirects task to apart = record { known = λ r. refl; never = never }
  where
    never : (i : Input Ref) (n : ℕ) → redirected task to i ≡ Awaits task n → ⊥
    never (Known r) n is = let clash : Known r ≡ Awaits task n = is in cc
    never (Awaits a m) n is = elim (same_or_not a task) [
      | inl same ↦
          let now : ◌≡◌ {A = Input Ref} (Awaits to m) (Awaits task n) = sym (ap (λ b. Awaits (cond b to a) m) (ap (λ k. nat_eq k task) same ∙ test_same task)) ∙ is in
          let clash : to ≡ task = cc in
          apart clash
      | inr other ↦
          let now : ◌≡◌ {A = Input Ref} (Awaits a m) (Awaits task n) = sym (ap (λ b. Awaits (cond b to a) m) (test_apart a task other)) ∙ is in
          let clash : a ≡ task = cc in
          other clash
    ]

-- whether one awaits stays, where it is handed to another task
redirected_waits : (task to : ℕ) (inputs : List (Input Ref)) → list_any is_awaiting (each (redirected task to) inputs) ≡ list_any is_awaiting inputs
redirected_waits task to [] = refl
redirected_waits task to (Known r ∷ inputs) = redirected_waits task to inputs
redirected_waits task to (Awaits a n ∷ inputs) = refl

-- where all are known they stay
known_stay : (task : ℕ) (f : Input Ref → Input Ref) → HandsOn task f → (inputs : List (Input Ref)) → list_any is_awaiting inputs ≡ false → list_any is_awaiting (each f inputs) ≡ false
known_stay task f hands [] is = refl
known_stay task f hands (Known r ∷ inputs) is = ap (λ i. list_any is_awaiting (i ∷ each f inputs)) (hands.known r) ∙ known_stay task f hands inputs is
known_stay task f hands (Awaits a n ∷ inputs) is = absurd (let clash : true ≡ false = is in cc)

-- ---- How far a task is

module _ {X K : Type 0} where
  -- a Ready task awaits nothing, and nobody runs it
  pub ready_is : (graph : Graph X K) (task : ℕ) → status graph task ≡ Ready
      → (u : Unfinished X K) × (task_at graph task ≡ Some u) × (list_any is_awaiting u.inputs ≡ false) × (u.runner ≡ None)
  ready_is graph task is = go (task_at graph task) refl
    where
      shown : (o : Option (Unfinished X K)) → TaskStatus
      shown o = elim o [ None ↦ Unknown | Some u ↦ status_of u ]

      run : (u : Unfinished X K) (o : Option ℕ) → u.runner ≡ o → cond (is_some o) Running Ready ≡ Ready → u.runner ≡ None
      run u None runner ready = runner
      run u (Some w) runner ready = absurd (let clash : Running ≡ Ready = ready in cc)

      wait : (u : Unfinished X K) (b : Bool) → list_any is_awaiting u.inputs ≡ b → cond b Waiting (cond (is_some u.runner) Running Ready) ≡ Ready
          → (list_any is_awaiting u.inputs ≡ false) × (u.runner ≡ None)
      wait u true waits ready = absurd (let clash : Waiting ≡ Ready = ready in cc)
      wait u false waits ready = (waits, run u u.runner refl ready)

      go : (o : Option (Unfinished X K)) → task_at graph task ≡ o → (u : Unfinished X K) × (task_at graph task ≡ Some u) × (list_any is_awaiting u.inputs ≡ false) × (u.runner ≡ None)
      go None at = absurd (let clash : Unknown ≡ Ready = sym (ap (λ o. elim o [ None ↦ Unknown | Some u ↦ status_of u ]) at) ∙ is in cc)
      go (Some u) at =
          let ready : status_of u ≡ Ready = sym (ap (λ o. elim o [ None ↦ Unknown | Some u ↦ status_of u ]) at) ∙ is in
          let both = wait u (list_any is_awaiting u.inputs) refl ready in
          (u, at, both.0, both.1)

  pub ready_from : (graph : Graph X K) (task : ℕ) (u : Unfinished X K) → task_at graph task ≡ Some u → list_any is_awaiting u.inputs ≡ false → u.runner ≡ None → status graph task ≡ Ready
  ready_from graph task u at waits runner =
      ap (λ o. elim o [ None ↦ Unknown | Some u ↦ status_of u ]) at
      ∙ ap (λ b. cond b Waiting (cond (is_some u.runner) Running Ready)) waits
      ∙ ap (λ o. cond (is_some o) Running Ready) runner

-- ---- What is left of each task

-- The output of a task is handed on: its own inputs are changed, and its caller awaits it no more; each other task has its inputs changed,
-- and belongs to whom it belonged and is run by whom it was run.
pub record IsHanded {K : Type 0} (before after : Graph Ref K) (task : ℕ) (f : Input Ref → Input Ref) : Type 0 where
  pub here : (u : Unfinished Ref K) → task_at before task ≡ Some u
      → (v : Unfinished Ref K) × (task_at after task ≡ Some v) × (v.inputs ≡ each f u.inputs) × (v.asked ≡ None) × (v.runner ≡ u.runner)
  pub other : (q : ℕ) (u : Unfinished Ref K) → (q ≡ task → ⊥) → task_at before q ≡ Some u
      → (v : Unfinished Ref K) × (task_at after q ≡ Some v) × (v.inputs ≡ each f u.inputs) × (v.caller ≡ u.caller) × (v.runner ≡ u.runner)
  pub from : (q : ℕ) (v : Unfinished Ref K) → task_at after q ≡ Some v → (u : Unfinished Ref K) × (task_at before q ≡ Some u)
  pub stopped : after.stopped ≡ before.stopped

module _ {K : Type 0} (graph : Graph Ref K) (task : ℕ) where
  abbrev no_more : Unfinished Ref K → Unfinished Ref K
  no_more u = record u { asked = None }

  module _ (value : ℕ → Ref) where
    abbrev change : Unfinished Ref K → Unfinished Ref K
    change u = record u { inputs = each (settled task value) u.inputs }

    abbrev changed : Graph Ref K
    changed = record graph { tasks = each_changed change graph.tasks }

    pub settled_hands : IsHanded graph (all_delivered graph task value) task (settled task value)
    settled_hands = record {
      here = λ u at. (
        no_more (change u),
        changed_here changed task task no_more refl ∙ ap (option_map no_more) (get-each_changed change graph.tasks task ∙ ap (option_map change) at),
        refl,
        refl,
        refl,
      );
      other = λ q u apart at. (
        change u,
        changed_other changed task q no_more apart ∙ get-each_changed change graph.tasks q ∙ ap (option_map change) at,
        refl,
        refl,
        refl,
      );
      from = λ q v is.
          let was = changed_from changed task q no_more v is in
          let old = mapped_from change (task_at graph q) was.0 (sym (get-each_changed change graph.tasks q) ∙ was.1) in
          (old.0, old.1);
      stopped = refl;
    }

  module _ (to : ℕ) (apart : to ≡ task → ⊥) where
    abbrev redirect : Unfinished Ref K → Unfinished Ref K
    redirect u = record u { inputs = each (redirected task to) u.inputs }

    abbrev first : Graph Ref K
    first = inputs_redirected graph task to

    first_at : (q : ℕ) (u : Unfinished Ref K) → task_at graph q ≡ Some u → task_at first q ≡ Some (redirect u)
    first_at q u at = get-each_changed redirect graph.tasks q ∙ ap (option_map redirect) at

    first_from : (q : ℕ) (v : Unfinished Ref K) → task_at first q ≡ Some v → (u : Unfinished Ref K) × (task_at graph q ≡ Some u)
    first_from q v is = let old = mapped_from redirect (task_at graph q) v (sym (get-each_changed redirect graph.tasks q) ∙ is) in (old.0, old.1)

    abbrev second : Graph Ref K
    second = without_asked first task

    abbrev ask_for : ℕ → Unfinished Ref K → Unfinished Ref K
    ask_for number u = record u { asked = Some number }

    moved_hands : (asked : Option ℕ) → asked_of graph task ≡ asked → IsHanded graph (asked_moved first task to asked) task (redirected task to)
    moved_hands None none = record {
      here = λ u at. (redirect u, first_at task u at, refl, sym (ap (λ (o : Option (Unfinished Ref K)). elim o as (λ x. Option ℕ) [ None ↦ None | Some t ↦ t.asked ]) at) ∙ none, refl);
      other = λ q u other at. (redirect u, first_at q u at, refl, refl, refl);
      from = first_from;
      stopped = refl;
    }
    moved_hands (Some number) some = record {
      here = λ u at. (
        no_more (redirect u),
        changed_other second to task (ask_for number) (λ same. apart (sym same)) ∙ changed_here first task task no_more refl ∙ ap (option_map no_more) (first_at task u at),
        refl,
        refl,
        refl,
      );
      other = λ q u other at.
          let before : task_at second q ≡ Some (redirect u) = changed_other first task q no_more other ∙ first_at q u at in
          elim (same_or_not q to) [
            | inl same ↦ (ask_for number (redirect u), changed_here second to q (ask_for number) same ∙ ap (option_map (ask_for number)) before, refl, refl, refl)
            | inr still ↦ (redirect u, changed_other second to q (ask_for number) still ∙ before, refl, refl, refl)
          ];
      from = λ q v is.
          let last = changed_from second to q (ask_for number) v is in
          let was = changed_from first task q no_more last.0 last.1 in
          first_from q was.0 was.1;
      stopped = refl;
    }

    pub forwarded_hands : IsHanded graph (forwarded graph task to) task (redirected task to)
    forwarded_hands = moved_hands (asked_of graph task) refl

module _ {K : Type 0} (before after : Graph Ref K) (task : ℕ) (f : Input Ref → Input Ref) (handed : IsHanded before after task f) (hands : HandsOn task f)
    (ran : Unfinished Ref K) (there : task_at before task ≡ Some ran) where
  pub still_there : IsSome (task_at after task)
  still_there = let now = handed.here ran there in ap is_some now.1

  -- it awaits nothing, where it awaited nothing
  pub awaits_nothing : ((p a n : ℕ) → slice_get ran.inputs p ≡ Some (Awaits a n) → ⊥) → AwaitsNothing after task
  awaits_nothing idle p a n is =
      let now = handed.here ran there in
      let at = task_behind after task p (Awaits a n) is in
      let same : at.0 ≡ now.0 = same_some at.0 now.0 (sym at.1 ∙ now.1) in
      let input = each_input f ran.inputs p (Awaits a n) (ap (λ inputs. slice_get inputs p) (sym (ap (λ (v : Unfinished Ref K). v.inputs) same ∙ now.2)) ∙ at.2) in
      go input.0 input.1 input.2
    where
      go : (i : Input Ref) → slice_get ran.inputs p ≡ Some i → f i ≡ Awaits a n → ⊥
      go (Known r) old new = let clash : Known r ≡ Awaits a n = sym (hands.known r) ∙ new in cc
      go (Awaits b m) old new = idle p b m old

  -- a task's inputs were changed
  inputs_from : (q : ℕ) (v : Unfinished Ref K) → task_at after q ≡ Some v → (u : Unfinished Ref K) × (task_at before q ≡ Some u) × (v.inputs ≡ each f u.inputs)
  inputs_from q v is =
      let was = handed.from q v is in
      elim (same_or_not q task) [
        | inl same ↦
            let now = handed.here was.0 (ap (task_at before) (sym same) ∙ was.1) in
            let one : v ≡ now.0 = same_some v now.0 (sym is ∙ ap (task_at after) same ∙ now.1) in
            (was.0, was.1, ap (λ (t : Unfinished Ref K). t.inputs) one ∙ now.2)
        | inr apart ↦
            let now = handed.other q was.0 apart was.1 in
            let one : v ≡ now.0 = same_some v now.0 (sym is ∙ now.1) in
            (was.0, was.1, ap (λ (t : Unfinished Ref K). t.inputs) one ∙ now.2)
      ]

  -- nobody awaits it
  pub not_awaited : IsNotAwaited after task
  not_awaited (AtInput of place number) is =
      let at = task_behind after of place (Awaits task number) is in
      let was = inputs_from of at.0 at.1 in
      let input = each_input f was.0.inputs place (Awaits task number) (ap (λ inputs. slice_get inputs place) (sym was.2) ∙ at.2) in
      hands.never input.0 number input.2
  not_awaited (Asked caller number) asked =
      let now = handed.here ran there in
      let same : asked.unfinished ≡ now.0 = same_some asked.unfinished now.0 (sym asked.there ∙ now.1) in
      none_not_some (ap (λ (v : Unfinished Ref K). v.asked) same ∙ now.3) asked.number_is

  -- what is Ready stays Ready
  pub ready_stays : (q : ℕ) → (q ≡ task → ⊥) → status before q ≡ Ready → status after q ≡ Ready
  ready_stays q apart is =
      let was = ready_is before q is in
      let now = handed.other q was.0 apart was.1 in
      ready_from after q now.0 now.1 (ap (list_any is_awaiting) now.2 ∙ known_stay task f hands was.0.inputs was.2) (now.4 ∙ was.3)

  -- and what is run is not Ready
  pub run_not_ready : (worker : ℕ) → ran.runner ≡ Some worker → status after task ≡ Ready → ⊥
  run_not_ready worker runs is =
      let ready = ready_is after task is in
      let now = handed.here ran there in
      let same : ready.0 ≡ now.0 = same_some ready.0 now.0 (sym ready.1 ∙ now.1) in
      none_not_some ready.3 (ap (λ (v : Unfinished Ref K). v.runner) same ∙ now.4 ∙ runs)

-- where the output is handed to another task nothing becomes Ready
module _ {K : Type 0} (before : Graph Ref K) (task to : ℕ) (apart : to ≡ task → ⊥) where
  ready_then : (q : ℕ) (u v : Unfinished Ref K) → task_at before q ≡ Some u → v.inputs ≡ each (redirected task to) u.inputs → v.runner ≡ u.runner
      → list_any is_awaiting v.inputs ≡ false → v.runner ≡ None → status before q ≡ Ready
  ready_then q u v at inputs runner waits free =
      ready_from before q u at (sym (redirected_waits task to u.inputs) ∙ ap (list_any is_awaiting) (sym inputs) ∙ waits) (sym runner ∙ free)

  pub forwarded_ready : (q : ℕ) → status (forwarded before task to) q ≡ Ready → status before q ≡ Ready
  forwarded_ready q is =
      let handed = forwarded_hands before task to apart in
      let ready = ready_is (forwarded before task to) q is in
      let was = handed.from q ready.0 ready.1 in
      elim (same_or_not q task) [
        | inl here ↦
            let now = handed.here was.0 (ap (task_at before) (sym here) ∙ was.1) in
            let same : ready.0 ≡ now.0 = same_some ready.0 now.0 (sym ready.1 ∙ ap (task_at (forwarded before task to)) here ∙ now.1) in
            ready_then q was.0 ready.0 was.1 (ap (λ (v : Unfinished Ref K). v.inputs) same ∙ now.2) (ap (λ (v : Unfinished Ref K). v.runner) same ∙ now.4) ready.2 ready.3
        | inr other ↦
            let now = handed.other q was.0 other was.1 in
            let same : ready.0 ≡ now.0 = same_some ready.0 now.0 (sym ready.1 ∙ now.1) in
            ready_then q was.0 ready.0 was.1 (ap (λ (v : Unfinished Ref K). v.inputs) same ∙ now.2) (ap (λ (v : Unfinished Ref K). v.runner) same ∙ now.4) ready.2 ready.3
      ]
