-- One task changed: what stands under each number then. For every crate that cites `specs/Steps.antt`.
use Rattle.std.proofs.Common.{◌≡◌, ℕ, cond, Some, None, nat_eq, refl, sym, ap, ◌∙◌, ◌⊎◌, inl, inr}
use Rattle.std.specs.Option.{option_map}
use Rattle.std.specs.FinMap as map
use Rattle.std.specs.Ordering.{nat_cmp}
use Rattle.task_states.specs.States.{Unfinished, Graph, task_at}
use Rattle.task_states.specs.Maps.{put_at}
use Rattle.task_states.specs.Steps.{with_task}
use Rattle.task_states.proofs.Maps.{same_or_not, test_same, test_apart, same_maps, get_inserted}
use Rattle.task_states.proofs.Options.{map_same, map_id, map_behind}

module _ {X K : Type 0} where
  pub get_changed : (tasks : map.FinMap nat_cmp (Unfinished X K)) (t q : ℕ) (change : Unfinished X K → Unfinished X K)
      → map.get (put_at tasks t (option_map change (map.get tasks t))) q ≡ cond (nat_eq q t) (option_map change (map.get tasks t)) (map.get tasks q)
  get_changed tasks t q change =
      elim (map.get tasks t) as (λ o. map.get tasks t ≡ o → map.get (put_at tasks t (option_map change o)) q ≡ cond (nat_eq q t) (option_map change o) (map.get tasks q)) [
        | None ↦ λ is. elim (same_or_not q t) [
          | inl same ↦ ap (map.get tasks) same ∙ is ∙ sym (ap (λ b. cond b None (map.get tasks q)) (ap (λ r. nat_eq r t) same ∙ test_same t))
          | inr apart ↦ sym (ap (λ b. cond b None (map.get tasks q)) (test_apart q t apart))
        ]
        | Some u ↦ λ is. get_inserted tasks t (change u) q
      ] refl

  -- the tasks, from what each became
  pub tasks_changed : (tasks new : map.FinMap nat_cmp (Unfinished X K)) (t : ℕ) (change : Unfinished X K → Unfinished X K) (at : ℕ → Unfinished X K → Unfinished X K)
      → ((q : ℕ) → map.get new q ≡ option_map (at q) (map.get tasks q)) → ((u : Unfinished X K) → at t u ≡ change u) → ((q : ℕ) (u : Unfinished X K) → (q ≡ t → ⊥) → at q u ≡ u)
      → new ≡ put_at tasks t (option_map change (map.get tasks t))
  tasks_changed tasks new t change at made here other =
      same_maps new (put_at tasks t (option_map change (map.get tasks t))) (λ q. made q
      ∙ elim (same_or_not q t) [
        | inl same ↦
            ap (λ o. option_map (at q) o) (ap (map.get tasks) same)
            ∙ ap (λ r. option_map (at r) (map.get tasks t)) same
            ∙ map_same (at t) change here (map.get tasks t)
            ∙ sym (ap (λ b. cond b (option_map change (map.get tasks t)) (map.get tasks q)) (ap (λ r. nat_eq r t) same ∙ test_same t))
        | inr apart ↦ map_id (at q) (λ u. other q u apart) (map.get tasks q) ∙ sym (ap (λ b. cond b (option_map change (map.get tasks t)) (map.get tasks q)) (test_apart q t apart))
      ] ∙ sym (get_changed tasks t q change))

  -- the changed task, and every other
  pub changed_here : (graph : Graph X K) (t q : ℕ) (change : Unfinished X K → Unfinished X K) → q ≡ t → task_at (with_task graph t change) q ≡ option_map change (task_at graph q)
  changed_here graph t q change same =
      get_changed graph.tasks t q change
      ∙ ap (λ b. cond b (option_map change (map.get graph.tasks t)) (map.get graph.tasks q)) (ap (λ r. nat_eq r t) same ∙ test_same t)
      ∙ ap (λ r. option_map change (map.get graph.tasks r)) (sym same)

  pub changed_other : (graph : Graph X K) (t q : ℕ) (change : Unfinished X K → Unfinished X K) → (q ≡ t → ⊥) → task_at (with_task graph t change) q ≡ task_at graph q
  changed_other graph t q change apart =
      get_changed graph.tasks t q change ∙ ap (λ b. cond b (option_map change (map.get graph.tasks t)) (map.get graph.tasks q)) (test_apart q t apart)

  -- a task that is there afterwards was there
  pub changed_from : (graph : Graph X K) (t q : ℕ) (change : Unfinished X K → Unfinished X K) (v : Unfinished X K) → task_at (with_task graph t change) q ≡ Some v
      → (u : Unfinished X K) × (task_at graph q ≡ Some u) × (((q ≡ t) × (change u ≡ v)) ⊎ ((q ≡ t → ⊥) × (u ≡ v)))
  changed_from graph t q change v is =
      elim (same_or_not q t) [
        | inl same ↦
            let was = map_behind change (task_at graph q) v (sym (changed_here graph t q change same) ∙ is) in
            (was.0, was.1, inl (same, was.2))
        | inr apart ↦ (v, sym (changed_other graph t q change apart) ∙ is, inr (apart, refl))
      ]
