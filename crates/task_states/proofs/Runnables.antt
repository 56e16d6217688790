-- Which tasks can be run after a step could be run before. For every crate that cites `specs/Steps.antt`.
use Rattle.std.proofs.Common.{◌≡◌, ℕ, Bool, true, false, cond, not, ◌||◌, ◌&&◌, Option, Some, None, is_some, nat_eq, refl, sym, ap, ◌∙◌, ◌⊎◌, inl, inr, List, [], ◌∷◌}
use Rattle.std.specs.Prelude.{map as each, if◌then◌else◌}
use Rattle.std.specs.List.{list_any}
use Rattle.std.specs.Option.{option_map, option_and_then}
use Rattle.std.specs.FinMap as map
use Rattle.std.specs.FinSet as numbers
use Rattle.std.specs.Cmp.{nat_cmp_total, unsigned_tied}
use Rattle.task_states.specs.declared.states.TaskStatus.{TaskStatus}
use Rattle.task_states.specs.declared.states.TaskStatus.TheVariants.{Unknown, Waiting, Ready, Running}
use Rattle.task_states.specs.States.{Input, Known, Awaits, Unfinished, Graph, is_awaiting, status, status_of, task_at, is_stopped, asked_of}
use Rattle.task_states.specs.Steps.{with_task, redirected, inputs_redirected, added, removed, with_stopped, abandoned, asked_moved, forwarded, with_asked, without_asked}
use Rattle.task_states.specs.Awaiters.{IsRunnable}
use Rattle.task_states.proofs.Maps.{same_or_not, test_same, test_apart, get-each_changed, get-kept, get_inserted, get_removed}
use Rattle.task_states.proofs.Options.{not_none, same_some, map_behind}
use Rattle.task_states.proofs.Changes.{get_changed}

abbrev status_in : {X K : Type 0} → Option (Unfinished X K) → TaskStatus
status_in None = Unknown
status_in (Some u) = status_of u

status_is : {X K : Type 0} (graph : Graph X K) (q : ℕ) → status graph q ≡ status_in (task_at graph q)
status_is graph q = elim (task_at graph q) as (λ o. elim o as (λ _. TaskStatus) [ None ↦ Unknown | Some task ↦ status_of task ] ≡ status_in o) [ None ↦ refl | Some u ↦ refl ]

-- a task that can be run, from its parts
pub runs_from : {X K : Type 0} (graph : Graph X K) (q : ℕ) (u : Unfinished X K) → task_at graph q ≡ Some u → status_of u ≡ Ready → is_stopped graph u.caller ≡ false → IsRunnable graph q
runs_from graph q u there ready going = record { unfinished = u; there = there; ready = status_is graph q ∙ ap status_in there ∙ ready; not_stopped = going }

pub ready_of : {X K : Type 0} (graph : Graph X K) (q : ℕ) (runs : IsRunnable graph q) → status_of runs.unfinished ≡ Ready
ready_of graph q runs = sym (status_is graph q ∙ ap status_in runs.there) ∙ runs.ready

module _ {X K : Type 0} (graph : Graph X K) where
  -- one task changed
  pub runs_changed : (t q : ℕ) (change : Unfinished X K → Unfinished X K) → IsRunnable (with_task graph t change) q → (q ≡ t) ⊎ IsRunnable graph q
  runs_changed t q change runs =
      elim (same_or_not q t) [
        | inl same ↦ inl same
        | inr apart ↦ inr (runs_from graph q runs.unfinished (sym (ap (λ b. cond b (option_map change (map.get graph.tasks t)) (map.get graph.tasks q)) (test_apart q t apart)) ∙ sym (get_changed graph.tasks t q change) ∙ runs.there) (ready_of (with_task graph t change) q runs) runs.not_stopped)
      ]

  own_changed : (t q : ℕ) (change : Unfinished X K → Unfinished X K) (runs : IsRunnable (with_task graph t change) q) → q ≡ t → (u : Unfinished X K) × (task_at graph q ≡ Some u) × (change u ≡ runs.unfinished)
  own_changed t q change runs same =
      let b = map_behind change (map.get graph.tasks t) runs.unfinished (sym (ap (λ b. cond b (option_map change (map.get graph.tasks t)) (map.get graph.tasks q)) (ap (λ r. nat_eq r t) same ∙ test_same t)) ∙ sym (get_changed graph.tasks t q change) ∙ runs.there) in
      (b.0, ap (map.get graph.tasks) same ∙ b.1, b.2)

  -- a change that leaves how far a task is
  pub runs_same : (t q : ℕ) (change : Unfinished X K → Unfinished X K) → ((u : Unfinished X K) → (status_of (change u) ≡ status_of u) × ((change u).caller ≡ u.caller)) → IsRunnable (with_task graph t change) q → IsRunnable graph q
  runs_same t q change same runs =
      elim (runs_changed t q change runs) [
        | inl at ↦
            let o = own_changed t q change runs at in
            runs_from graph q o.0 o.1 (sym (same o.0).0 ∙ ap status_of o.2 ∙ ready_of (with_task graph t change) q runs) (ap (is_stopped graph) (sym (same o.0).1 ∙ ap (λ (u : Unfinished X K). u.caller) o.2) ∙ runs.not_stopped)
        | inr before ↦ before
      ]

  never_ready : (waits : Bool) → (if waits then Waiting else Running) ≡ Ready → ⊥
  never_ready true is = let clash : Waiting ≡ Ready = is in cc
  never_ready false is = let clash : Running ≡ Ready = is in cc

  -- a task that a worker runs is not Ready
  pub runs_started : (t q worker : ℕ) → IsRunnable (with_task graph t (λ u. record u { runner = Some worker })) q → IsRunnable graph q
  runs_started t q worker runs =
      elim (runs_changed t q (λ u. record u { runner = Some worker }) runs) [
        | inl at ↦
            let o = own_changed t q (λ u. record u { runner = Some worker }) runs at in
            absurd (never_ready (list_any is_awaiting o.0.inputs) (ap status_of o.2 ∙ ready_of (with_task graph t (λ u. record u { runner = Some worker })) q runs))
        | inr before ↦ before
      ]

  any_redirected : (task to : ℕ) (inputs : List (Input X)) → list_any is_awaiting (each (redirected task to) inputs) ≡ list_any is_awaiting inputs
  any_redirected task to [] = refl
  any_redirected task to (Known r ∷ inputs) = any_redirected task to inputs
  any_redirected task to (Awaits t n ∷ inputs) = refl

  redirected_status : (task to : ℕ) (u : Unfinished X K) → status_of u ≡ status_of (record u { inputs = each (redirected task to) u.inputs })
  redirected_status task to u = ap (λ b. if b then Waiting else (if is_some u.runner then Running else Ready)) (sym (any_redirected task to u.inputs))

  redirected_runs : (task to q : ℕ) (runs : IsRunnable (inputs_redirected graph task to) q) (u : Unfinished X K) → task_at graph q ≡ Some u → record u { inputs = each (redirected task to) u.inputs } ≡ runs.unfinished → IsRunnable graph q
  redirected_runs task to q runs u there same =
      runs_from graph q u there (redirected_status task to u ∙ ap status_of same ∙ ready_of (inputs_redirected graph task to) q runs) (ap (is_stopped graph) (ap (λ (v : Unfinished X K). v.caller) same) ∙ runs.not_stopped)

  -- inputs that await another task
  pub runs_redirected : (task to q : ℕ) → IsRunnable (inputs_redirected graph task to) q → IsRunnable graph q
  runs_redirected task to q runs =
      let change : Unfinished X K → Unfinished X K = λ u. record u { inputs = each (redirected task to) u.inputs } in
      let b = map_behind change (map.get graph.tasks q) runs.unfinished (sym (get-each_changed change graph.tasks q) ∙ runs.there) in
      redirected_runs task to q runs b.0 b.1 b.2

  -- one task more
  pub runs_added : (t caller : ℕ) (kind : K) (inputs : List (Input X)) (q : ℕ) → IsRunnable (added graph t caller kind inputs) q → (q ≡ t) ⊎ IsRunnable graph q
  runs_added t caller kind inputs q runs =
      elim (same_or_not q t) [
        | inl same ↦ inl same
        | inr apart ↦ inr (runs_from graph q runs.unfinished (sym (ap (λ b. cond b (Some (record { caller = caller; kind = kind; inputs = inputs; runner = None; asked = None })) (map.get graph.tasks q)) (test_apart q t apart)) ∙ sym (get_inserted graph.tasks t (record { caller = caller; kind = kind; inputs = inputs; runner = None; asked = None }) q) ∙ runs.there) (ready_of (added graph t caller kind inputs) q runs) runs.not_stopped)
      ]

  -- one task less
  pub runs_removed : (t q : ℕ) → IsRunnable (removed graph t) q → IsRunnable graph q
  runs_removed t q runs =
      elim (same_or_not q t) [
        | inl same ↦ absurd (not_none (map.get (map.remove graph.tasks t) q) runs.unfinished (get_removed graph.tasks t q ∙ ap (λ b. cond b None (map.get graph.tasks q)) (ap (λ r. nat_eq r t) same ∙ test_same t)) runs.there)
        | inr apart ↦ runs_from graph q runs.unfinished (sym (ap (λ b. cond b None (map.get graph.tasks q)) (test_apart q t apart)) ∙ sym (get_removed graph.tasks t q) ∙ runs.there) (ready_of (removed graph t) q runs) runs.not_stopped
      ]

  or_false : (a b : Bool) → (a || b) ≡ false → b ≡ false
  or_false true b is = absurd (cc)
  or_false false b is = is

  -- one caller more is stopped
  pub runs_stopped : (c q : ℕ) → IsRunnable (with_stopped graph c) q → IsRunnable graph q
  runs_stopped c q runs =
      runs_from graph q runs.unfinished runs.there (ready_of (with_stopped graph c) q runs)
      (or_false (nat_eq runs.unfinished.caller c) (is_stopped graph runs.unfinished.caller) (sym (numbers.contains-insert nat_cmp_total graph.stopped c runs.unfinished.caller ∙ ap (λ b. b || is_stopped graph runs.unfinished.caller) (unsigned_tied runs.unfinished.caller c)) ∙ runs.not_stopped))

  kept_some : (c : ℕ) (o : Option (Unfinished X K)) (u : Unfinished X K) → option_and_then (λ value. cond (not (nat_eq value.caller c)) (Some value) None) o ≡ Some u → (o ≡ Some u) × (nat_eq u.caller c ≡ false)
  kept_some c None u is = absurd (not_none None u refl is)
  kept_some c (Some v) u is =
      elim (nat_eq v.caller c) as (λ b. nat_eq v.caller c ≡ b → cond (not b) (Some v) None ≡ Some u → (Some v ≡ Some u) × (nat_eq u.caller c ≡ false)) [
        | true ↦ λ test none. absurd (not_none None u refl none)
        | false ↦ λ test some. (some, ap (λ (x : Unfinished X K). nat_eq x.caller c) (sym (same_some v u some)) ∙ test)
      ] refl is

  -- a caller's tasks less
  pub runs_abandoned : (c q : ℕ) → IsRunnable (abandoned graph c) q → IsRunnable graph q
  runs_abandoned c q runs =
      let k = kept_some c (map.get graph.tasks q) runs.unfinished (sym (get-kept (λ task. not (nat_eq task.caller c)) graph.tasks q) ∙ runs.there) in
      runs_from graph q runs.unfinished k.0 (ready_of (abandoned graph c) q runs)
      (sym (numbers.contains-remove nat_cmp_total graph.stopped c runs.unfinished.caller ∙ ap (λ b. not b && is_stopped graph runs.unfinished.caller) (unsigned_tied runs.unfinished.caller c ∙ k.1)) ∙ runs.not_stopped)

moved_back : {X K : Type 0} (graph : Graph X K) (task to q number : ℕ) → IsRunnable (with_asked (without_asked graph task) to number) q → IsRunnable graph q
moved_back graph task to q number runs =
    runs_same graph task q (λ u. record u { asked = None }) (λ u. (refl, refl)) (runs_same (without_asked graph task) to q (λ u. record u { asked = Some number }) (λ u. (refl, refl)) runs)

module _ {X K : Type 0} (graph : Graph X K) where
  moved_runs : (task to q : ℕ) (o : Option ℕ) → IsRunnable (asked_moved (inputs_redirected graph task to) task to o) q → IsRunnable (inputs_redirected graph task to) q
  moved_runs task to q None runs = runs
  moved_runs task to q (Some number) runs = moved_back (inputs_redirected graph task to) task to q number runs

  -- all that awaits one task awaits another
  pub runs_forwarded : (task to q : ℕ) → IsRunnable (forwarded graph task to) q → IsRunnable graph q
  runs_forwarded task to q runs = runs_redirected graph task to q (moved_runs task to q (asked_of graph task) runs)
