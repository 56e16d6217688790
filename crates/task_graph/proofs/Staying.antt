-- Which tasks can still be run after a step.
use Rattle.std.proofs.Common.{not, ◌&&◌, ◌≡◌, ℕ, zero, suc, Bool, true, false, cond, Option, Some, None, is_some, refl, sym, ap, ap₂, ◌∙◌, ◌⊎◌, inl, inr, List, [], ◌∷◌}
use Rattle.std.specs.Prelude.{map as each, set, if◌then◌else◌}
use Rattle.std.specs.List.{list_any}
use Rattle.std.specs.Option.{option_map}
use Rattle.std.specs.FinMap as map
use Rattle.task_states.specs.declared.states.TaskStatus.TheVariants.{Waiting, Ready, Running}
use Rattle.task_states.specs.States.{Input, Known, Awaits, Unfinished, Graph, is_awaiting, status_of, task_at, is_stopped, asked_of}
use Rattle.task_states.specs.Steps.{with_task, redirected, inputs_redirected, added, removed, asked_moved, forwarded, with_asked, without_asked, started, given_back}
use Rattle.task_states.specs.Awaiters.{IsRunnable}
use Rattle.task_states.proofs.Maps.{same_or_not, test_same, test_apart, get-each_changed, get_inserted, get_removed}
use Rattle.task_states.proofs.Options.{not_none, same_some, map_behind}
use Rattle.task_states.proofs.Changes.{get_changed}
use Rattle.task_states.proofs.Runnables.{runs_from, ready_of}

idle_test : (waits runs : Bool) → (if waits then Waiting else (if runs then Running else Ready)) ≡ Ready → waits ≡ false
idle_test true runs is = let clash : Waiting ≡ Ready = is in cc
idle_test false runs is = refl

busy_test : (waits : Bool) → (if waits then Waiting else Running) ≡ Ready → ⊥
busy_test true is = let clash : Waiting ≡ Ready = is in cc
busy_test false is = let clash : Running ≡ Ready = is in cc

both_false : (a b : Bool) → true ≡ (not a && not b) → (a ≡ false) × (b ≡ false)
both_false true b test = absurd (cc)
both_false false true test = absurd (cc)
both_false false false test = (refl, refl)

not_both_false : (a b : Bool) → false ≡ (not a && not b) → a ≡ false → b ≡ false → ⊥
not_both_false a b test one two = let clash : false ≡ true = test ∙ ap₂ (λ x y. not x && not y) one two in cc

module _ {X : Type 0} where
  any_known : (inputs : List (Input X)) (place : ℕ) (x : X) → list_any is_awaiting inputs ≡ false → list_any is_awaiting (set inputs place (Known x)) ≡ false
  any_known [] place x none = refl
  any_known (Known y ∷ inputs) zero x none = none
  any_known (Known y ∷ inputs) (suc place) x none = any_known inputs place x none
  any_known (Awaits task number ∷ inputs) place x none = absurd (cc)

  any_redirected : (task to : ℕ) (inputs : List (Input X)) → list_any is_awaiting (each (redirected task to) inputs) ≡ list_any is_awaiting inputs
  any_redirected task to [] = refl
  any_redirected task to (Known x ∷ inputs) = any_redirected task to inputs
  any_redirected task to (Awaits t n ∷ inputs) = refl

module _ {X K : Type 0} where
  -- a Ready task awaits nothing
  pub idle_of : (u : Unfinished X K) → status_of u ≡ Ready → list_any is_awaiting u.inputs ≡ false
  idle_of u ready = idle_test (list_any is_awaiting u.inputs) (is_some u.runner) ready

  -- a Ready task with a known input more
  pub ready_known : (u : Unfinished X K) (place : ℕ) (x : X) → status_of u ≡ Ready → status_of (record u { inputs = set u.inputs place (Known x) }) ≡ Ready
  ready_known u place x ready =
      ap (λ b. if b then Waiting else (if is_some u.runner then Running else Ready)) (any_known u.inputs place x (idle_of u ready) ∙ sym (idle_of u ready)) ∙ ready

  -- a Ready task that no worker runs
  pub ready_idle : (u : Unfinished X K) → status_of u ≡ Ready → status_of (record u { runner = None }) ≡ Ready
  ready_idle u ready = ap (λ b. if b then Waiting else Ready) (idle_of u ready)

  redirected_status : (task to : ℕ) (u : Unfinished X K) → status_of (record u { inputs = each (redirected task to) u.inputs }) ≡ status_of u
  redirected_status task to u = ap (λ b. if b then Waiting else (if is_some u.runner then Running else Ready)) (any_redirected task to u.inputs)

module _ {X K : Type 0} (graph : Graph X K) where
  pub there_changed : (t : ℕ) (change : Unfinished X K → Unfinished X K) → task_at (with_task graph t change) t ≡ option_map change (task_at graph t)
  there_changed t change = get_changed graph.tasks t t change ∙ ap (λ b. cond b (option_map change (map.get graph.tasks t)) (map.get graph.tasks t)) (test_same t)

  -- another task than the one that changed
  pub apart_changed : (t q : ℕ) (change : Unfinished X K → Unfinished X K) → (q ≡ t → ⊥) → IsRunnable graph q → IsRunnable (with_task graph t change) q
  apart_changed t q change apart runs =
      runs_from (with_task graph t change) q runs.unfinished (get_changed graph.tasks t q change ∙ ap (λ b. cond b (option_map change (map.get graph.tasks t)) (map.get graph.tasks q)) (test_apart q t apart) ∙ runs.there) (ready_of graph q runs) runs.not_stopped

  pub lost_changed : (t q : ℕ) (change : Unfinished X K → Unfinished X K) → IsRunnable graph q → (q ≡ t) ⊎ IsRunnable (with_task graph t change) q
  lost_changed t q change runs = elim (same_or_not q t) [ inl same ↦ inl same | inr apart ↦ inr (apart_changed t q change apart runs) ]

  -- a change that leaves a Ready task Ready
  pub stays_changed : (t q : ℕ) (change : Unfinished X K → Unfinished X K) → ((u : Unfinished X K) → status_of u ≡ Ready → (status_of (change u) ≡ Ready) × ((change u).caller ≡ u.caller)) → IsRunnable graph q → IsRunnable (with_task graph t change) q
  stays_changed t q change stays runs =
      elim (same_or_not q t) [
        | inl same ↦
            let ready = stays runs.unfinished (ready_of graph q runs) in
            let there : task_at (with_task graph t change) q ≡ Some (change runs.unfinished) = ap (map.get (with_task graph t change).tasks) same ∙ there_changed t change ∙ ap (option_map change) (ap (map.get graph.tasks) (sym same) ∙ runs.there) in
            runs_from (with_task graph t change) q (change runs.unfinished) there ready.0 (ap (is_stopped graph) ready.1 ∙ runs.not_stopped)
        | inr apart ↦ apart_changed t q change apart runs
      ]

  here_added : (t caller : ℕ) (kind : K) (inputs : List (Input X)) → task_at (added graph t caller kind inputs) t ≡ Some (record { caller = caller; kind = kind; inputs = inputs; runner = None; asked = None })
  here_added t caller kind inputs =
      get_inserted graph.tasks t (record { caller = caller; kind = kind; inputs = inputs; runner = None; asked = None }) t ∙ ap (λ b. cond b (Some (record { caller = caller; kind = kind; inputs = inputs; runner = None; asked = None })) (map.get graph.tasks t)) (test_same t)

  -- one task more
  pub stays_added : (t caller : ℕ) (kind : K) (inputs : List (Input X)) (q : ℕ) → task_at graph t ≡ None → IsRunnable graph q → IsRunnable (added graph t caller kind inputs) q
  stays_added t caller kind inputs q new runs =
      elim (same_or_not q t) [
        | inl same ↦ absurd (not_none (map.get graph.tasks q) runs.unfinished (ap (map.get graph.tasks) same ∙ new) runs.there)
        | inr apart ↦ runs_from (added graph t caller kind inputs) q runs.unfinished (get_inserted graph.tasks t (record { caller = caller; kind = kind; inputs = inputs; runner = None; asked = None }) q ∙ ap (λ b. cond b (Some (record { caller = caller; kind = kind; inputs = inputs; runner = None; asked = None })) (map.get graph.tasks q)) (test_apart q t apart) ∙ runs.there) (ready_of graph q runs) runs.not_stopped
      ]

  -- the task that comes, with its inputs
  pub runs_new : (t caller : ℕ) (kind : K) (inputs : List (Input X)) → true ≡ (not (is_stopped graph caller) && not (list_any is_awaiting inputs)) → IsRunnable (added graph t caller kind inputs) t
  runs_new t caller kind inputs test =
      let both = both_false (is_stopped graph caller) (list_any is_awaiting inputs) test in
      runs_from (added graph t caller kind inputs) t (record { caller = caller; kind = kind; inputs = inputs; runner = None; asked = None }) (here_added t caller kind inputs) (ap (λ b. if b then Waiting else Ready) both.1) both.0

  pub never_new : (t caller : ℕ) (kind : K) (inputs : List (Input X)) → false ≡ (not (is_stopped graph caller) && not (list_any is_awaiting inputs)) → IsRunnable (added graph t caller kind inputs) t → ⊥
  never_new t caller kind inputs test runs =
      let one : record { caller = caller; kind = kind; inputs = inputs; runner = None; asked = None } ≡ runs.unfinished = same_some _ runs.unfinished (sym (here_added t caller kind inputs) ∙ runs.there) in
      let ready = ready_of (added graph t caller kind inputs) t runs in
      not_both_false (is_stopped graph caller) (list_any is_awaiting inputs) test
      (ap (λ (u : Unfinished X K). is_stopped graph u.caller) one ∙ runs.not_stopped) (ap (λ (u : Unfinished X K). list_any is_awaiting u.inputs) one ∙ idle_of runs.unfinished ready)

  -- one task less
  pub lost_removed : (t q : ℕ) → IsRunnable graph q → (q ≡ t) ⊎ IsRunnable (removed graph t) q
  lost_removed t q runs =
      elim (same_or_not q t) [
        | inl same ↦ inl same
        | inr apart ↦ inr (runs_from (removed graph t) q runs.unfinished (get_removed graph.tasks t q ∙ ap (λ b. cond b None (map.get graph.tasks q)) (test_apart q t apart) ∙ runs.there) (ready_of graph q runs) runs.not_stopped)
      ]

  pub never_removed : (t : ℕ) → IsRunnable (removed graph t) t → ⊥
  never_removed t runs = not_none (map.get (map.remove graph.tasks t) t) runs.unfinished (get_removed graph.tasks t t ∙ ap (λ b. cond b None (map.get graph.tasks t)) (test_same t)) runs.there

  -- a task that a worker runs is not Ready
  pub never_started : (t worker : ℕ) → IsRunnable (started graph t worker) t → ⊥
  never_started t worker runs =
      let change : Unfinished X K → Unfinished X K = λ u. record u { runner = Some worker } in
      let b = map_behind change (map.get graph.tasks t) runs.unfinished (sym (there_changed t change) ∙ runs.there) in
      busy_test (list_any is_awaiting b.0.inputs) (ap status_of b.2 ∙ ready_of (started graph t worker) t runs)

  pub stays_asked : (t q number : ℕ) → IsRunnable graph q → IsRunnable (with_asked graph t number) q
  stays_asked t q number runs = stays_changed t q (λ u. record u { asked = Some number }) (λ u ready. (ready, refl)) runs

  pub stays_unasked : (t q : ℕ) → IsRunnable graph q → IsRunnable (without_asked graph t) q
  stays_unasked t q runs = stays_changed t q (λ u. record u { asked = None }) (λ u ready. (ready, refl)) runs

  pub stays_given_back : (t q : ℕ) → IsRunnable graph q → IsRunnable (given_back graph t) q
  stays_given_back t q runs = stays_changed t q (λ u. record u { runner = None }) (λ u ready. (ready_idle u ready, refl)) runs

  -- an input that is known
  pub stays_known : (t q place : ℕ) (x : X) → IsRunnable graph q → IsRunnable (with_task graph t (λ u. record u { inputs = set u.inputs place (Known x) })) q
  stays_known t q place x runs = stays_changed t q (λ u. record u { inputs = set u.inputs place (Known x) }) (λ u ready. (ready_known u place x ready, refl)) runs

  -- inputs that await another task
  stays_redirected : (task to q : ℕ) → IsRunnable graph q → IsRunnable (inputs_redirected graph task to) q
  stays_redirected task to q runs =
      let change : Unfinished X K → Unfinished X K = λ u. record u { inputs = each (redirected task to) u.inputs } in
      runs_from (inputs_redirected graph task to) q (change runs.unfinished) (get-each_changed change graph.tasks q ∙ ap (option_map change) runs.there) (redirected_status task to runs.unfinished ∙ ready_of graph q runs) runs.not_stopped

moved_stays : {X K : Type 0} (graph : Graph X K) (task to q : ℕ) (o : Option ℕ) → IsRunnable graph q → IsRunnable (asked_moved graph task to o) q
moved_stays graph task to q None runs = runs
moved_stays graph task to q (Some number) runs = stays_asked (without_asked graph task) to q number (stays_unasked graph task q runs)

-- all that awaits one task awaits another
pub stays_forwarded : {X K : Type 0} (graph : Graph X K) (task to q : ℕ) → IsRunnable graph q → IsRunnable (forwarded graph task to) q
stays_forwarded graph task to q runs = moved_stays (inputs_redirected graph task to) task to q (asked_of graph task) (stays_redirected graph task to q runs)
