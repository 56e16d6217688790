-- Who awaits after a step awaited before, or was brought by it. For every crate that cites `specs/Awaiters.antt`.
use Rattle.std.proofs.Common.{◌≡◌, ℕ, true, cond, Option, Some, None, nat_eq, refl, sym, ap, ◌∙◌, ◌⊎◌, inl, inr, List, [], ◌∷◌, zero, suc}
use Rattle.std.specs.Prelude.{slice_get, if◌then◌else◌}
use Rattle.std.specs.Option.{is_some}
use Rattle.std.specs.List.{list_any}
use Rattle.std.specs.FinMap as map
use Rattle.task_states.specs.declared.states.Awaiter.{Awaiter}
use Rattle.task_states.specs.declared.states.Awaiter.TheVariants.{Input as AtInput, Asked}
use Rattle.task_states.specs.declared.states.TaskStatus.{TaskStatus}
use Rattle.task_states.specs.declared.states.TaskStatus.TheVariants.{Unknown, Waiting, Ready, Running}
use Rattle.task_states.specs.States.{Input, Known, Awaits, Unfinished, Graph, task_at, status, status_of, is_awaiting, AwaitsNothing}
use Rattle.task_states.specs.Steps.{with_task, added, with_asked, removed}
use Rattle.task_states.specs.Awaiters.{number_of, IsAsked, IsAwaiter}
use Rattle.task_states.proofs.Maps.{same_or_not, test_same, test_apart, get_inserted, get_removed}
use Rattle.task_states.proofs.Options.{not_none, same_some}
use Rattle.task_states.proofs.Changes.{changed_from}
use Rattle.task_states.proofs.Deliveries.{input_there, task_behind}

module _ {X : Type 0} where
  any_awaiting : (inputs : List (Input X)) (place t number : ℕ) → slice_get inputs place ≡ Some (Awaits t number) → list_any is_awaiting inputs ≡ true
  any_awaiting [] place t number is = absurd (not_none None (Awaits t number) refl is)
  any_awaiting (Awaits s n ∷ inputs) place t number is = refl
  any_awaiting (Known x ∷ inputs) zero t number is = absurd (let clash : Known x ≡ Awaits t number = same_some (Known x) (Awaits t number) is in cc)
  any_awaiting (Known x ∷ inputs) (suc place) t number is = any_awaiting inputs place t number is

module _ {X K : Type 0} where
  -- an awaiter, from the task that it stands in
  asked_from : (graph : Graph X K) (of c n : ℕ) (u v : Unfinished X K) → task_at graph of ≡ Some u → u.caller ≡ v.caller → u.asked ≡ v.asked → v.caller ≡ c → v.asked ≡ Some n → IsAsked graph of c n
  asked_from graph of c n u v there caller asked caller_is number_is = record { unfinished = u; there = there; caller_is = caller ∙ caller_is; number_is = asked ∙ number_is }

  -- a change that leaves inputs and who asked
  pub awaits_kept : (graph : Graph X K) (t : ℕ) (change : Unfinished X K → Unfinished X K)
      → ((u : Unfinished X K) → ((change u).caller ≡ u.caller) × ((change u).asked ≡ u.asked) × ((change u).inputs ≡ u.inputs))
      → (of : ℕ) (a : Awaiter) → IsAwaiter (with_task graph t change) of a → IsAwaiter graph of a
  awaits_kept graph t change keeps of (AtInput q p n) awaits =
      let v = task_behind (with_task graph t change) q p (Awaits of n) awaits in
      let u = changed_from graph t q change v.0 v.1 in
      let inputs : u.0.inputs ≡ v.0.inputs = elim (u.2) [ inl here ↦ sym (keeps u.0).2 ∙ ap (λ (w : Unfinished X K). w.inputs) here.1 | inr other ↦ ap (λ (w : Unfinished X K). w.inputs) other.1 ] in
      input_there graph q p u.0 u.1 ∙ ap (λ inputs. slice_get inputs p) inputs ∙ v.2
  awaits_kept graph t change keeps of (Asked c n) asked =
      let u = changed_from graph t of change asked.unfinished asked.there in
      elim (u.2) [
        | inl here ↦
            asked_from graph of c n u.0 asked.unfinished u.1 (sym (keeps u.0).0 ∙ ap (λ (w : Unfinished X K). w.caller) here.1) (sym (keeps u.0).1 ∙ ap (λ (w : Unfinished X K). w.asked) here.1)
            asked.caller_is asked.number_is
        | inr other ↦ asked_from graph of c n u.0 asked.unfinished u.1 (ap (λ (w : Unfinished X K). w.caller) other.1) (ap (λ (w : Unfinished X K). w.asked) other.1) asked.caller_is asked.number_is
      ]

  -- what was asked of a task
  pub awaits_asked : (graph : Graph X K) (t number of : ℕ) (a : Awaiter) → IsAwaiter (with_asked graph t number) of a → ((of ≡ t) × (number_of a ≡ number)) ⊎ IsAwaiter graph of a
  awaits_asked graph t number of (AtInput q p n) awaits =
      let change : Unfinished X K → Unfinished X K = λ u. record u { asked = Some number } in
      let v = task_behind (with_task graph t change) q p (Awaits of n) awaits in
      let u = changed_from graph t q change v.0 v.1 in
      let inputs : u.0.inputs ≡ v.0.inputs = elim (u.2) [ inl here ↦ ap (λ (w : Unfinished X K). w.inputs) here.1 | inr other ↦ ap (λ (w : Unfinished X K). w.inputs) other.1 ] in
      inr (input_there graph q p u.0 u.1 ∙ ap (λ inputs. slice_get inputs p) inputs ∙ v.2)
  awaits_asked graph t number of (Asked c n) asked =
      let change : Unfinished X K → Unfinished X K = λ u. record u { asked = Some number } in
      let u = changed_from graph t of change asked.unfinished asked.there in
      elim (u.2) [
        | inl here ↦ inl (here.0, same_some n number (sym asked.number_is ∙ sym (ap (λ (w : Unfinished X K). w.asked) here.1)))
        | inr other ↦ inr (asked_from graph of c n u.0 asked.unfinished u.1 (ap (λ (w : Unfinished X K). w.caller) other.1) (ap (λ (w : Unfinished X K). w.asked) other.1) asked.caller_is asked.number_is)
      ]

  -- a task that is there afterwards, where one more was added
  added_from : (graph : Graph X K) (n caller : ℕ) (kind : K) (inputs : List (Input X)) (q : ℕ) (v : Unfinished X K) → task_at (added graph n caller kind inputs) q ≡ Some v
      → ((q ≡ n) × (v ≡ record { caller = caller; kind = kind; inputs = inputs; runner = None; asked = None })) ⊎ (task_at graph q ≡ Some v)
  added_from graph n caller kind inputs q v is =
      let new : Unfinished X K = record { caller = caller; kind = kind; inputs = inputs; runner = None; asked = None } in
      elim (same_or_not q n) [
        | inl same ↦ inl (same, same_some v new (sym is ∙ get_inserted graph.tasks n new q ∙ ap (λ b. cond b (Some new) (map.get graph.tasks q)) (ap (λ r. nat_eq r n) same ∙ test_same n)))
        | inr apart ↦ inr (sym (get_inserted graph.tasks n new q ∙ ap (λ b. cond b (Some new) (map.get graph.tasks q)) (test_apart q n apart)) ∙ is)
      ]

  -- one more task: its awaiting inputs
  pub awaits_added : (graph : Graph X K) (n caller : ℕ) (kind : K) (inputs : List (Input X)) (of : ℕ) (a : Awaiter) → IsAwaiter (added graph n caller kind inputs) of a
      → ((place : ℕ) × (number : ℕ) × (slice_get inputs place ≡ Some (Awaits of number)) × (a ≡ AtInput n place number)) ⊎ IsAwaiter graph of a
  awaits_added graph n caller kind inputs of (AtInput q p number) awaits =
      let v = task_behind (added graph n caller kind inputs) q p (Awaits of number) awaits in
      elim (added_from graph n caller kind inputs q v.0 v.1) [
        | inl here ↦ inl (p, number, sym (ap (λ (w : Unfinished X K). slice_get w.inputs p) here.1) ∙ v.2, ap (λ k. AtInput k p number) here.0)
        | inr before ↦ inr (input_there graph q p v.0 before ∙ v.2)
      ]
  awaits_added graph n caller kind inputs of (Asked c number) asked =
      elim (added_from graph n caller kind inputs of asked.unfinished asked.there) [
        | inl here ↦ absurd (not_none asked.unfinished.asked number (ap (λ (w : Unfinished X K). w.asked) here.1) asked.number_is)
        | inr before ↦ inr (asked_from graph of c number asked.unfinished asked.unfinished before refl refl asked.caller_is asked.number_is)
      ]

  removed_from : (graph : Graph X K) (n q : ℕ) (v : Unfinished X K) → task_at (removed graph n) q ≡ Some v → task_at graph q ≡ Some v
  removed_from graph n q v is =
      elim (same_or_not q n) [
        | inl same ↦ absurd (not_none (task_at (removed graph n) q) v (get_removed graph.tasks n q ∙ ap (λ b. cond b None (map.get graph.tasks q)) (ap (λ r. nat_eq r n) same ∙ test_same n)) is)
        | inr apart ↦ sym (get_removed graph.tasks n q ∙ ap (λ b. cond b None (map.get graph.tasks q)) (test_apart q n apart)) ∙ is
      ]

  -- one task less
  pub awaits_removed : (graph : Graph X K) (n of : ℕ) (a : Awaiter) → IsAwaiter (removed graph n) of a → IsAwaiter graph of a
  awaits_removed graph n of (AtInput q p number) awaits =
      let v = task_behind (removed graph n) q p (Awaits of number) awaits in
      input_there graph q p v.0 (removed_from graph n q v.0 v.1) ∙ v.2
  awaits_removed graph n of (Asked c number) asked =
      asked_from graph of c number asked.unfinished asked.unfinished (removed_from graph n of asked.unfinished asked.there) refl refl asked.caller_is asked.number_is

  -- ---- Tasks that are not Waiting

  status_there : (graph : Graph X K) (q : ℕ) (u : Unfinished X K) → task_at graph q ≡ Some u → status graph q ≡ status_of u
  status_there graph q u is = ap (λ (o : Option (Unfinished X K)). elim o as (λ _. TaskStatus) [ None ↦ Unknown | Some task ↦ status_of task ]) is

  -- a task that is not Waiting awaits nothing
  pub awaits_nothing : (graph : Graph X K) (t : ℕ) → (status graph t ≡ Waiting → ⊥) → AwaitsNothing graph t
  awaits_nothing graph t not_waiting place of number is =
      let u = task_behind graph t place (Awaits of number) is in
      not_waiting (status_there graph t u.0 u.1 ∙ ap (λ b. if b then Waiting else (if is_some u.0.runner then Running else Ready)) (any_awaiting u.0.inputs place of number u.2))
