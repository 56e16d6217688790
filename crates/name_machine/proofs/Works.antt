-- What is left to do for a caller, and what leaves it.
use Rattle.std.proofs.Common.{◌≡◌, ℕ, zero, suc, ◌<◌, true, false, cond, nat_eq, nat_cmp, map as each, Option, None, Some, refl, sym, ap, ◌∙◌, arith}
use Rattle.std.specs.Option.{option_and_then}
use Rattle.std.specs.FinMap as map
use Rattle.task_types.specs.Tree.{Tree}
use Rattle.task_types.specs.Meanings.{Meanings}
use Rattle.task_states.specs.Maps.{chosen}
use Rattle.task_states.proofs.Maps.{get-chosen, same_maps}
use Rattle.task_states.specs.States.{Unfinished, Graph, task_at}
use Rattle.name_states.proofs.Basics.{none_not_some, same_some, same_options, same_from_test, test_same}
use Rattle.name_machine.specs.States.{Machine, Ask}
use Rattle.name_machine.specs.Goals.{read_input, goal_of}
use Rattle.name_machine.specs.Parts.{work_for, works_of, work_left}
use Rattle.name_machine.proofs.Invariant.{Keeps, same_readings, own_readings}
use Rattle.name_machine.proofs.Totals.{total}

-- what a choice keeps of a map, under one key
module _ {X Y : Type 0} (choice : ℕ → X → Option Y) where
  pub chosen_from : (m : map.FinMap nat_cmp X) (q : ℕ) (y : Y) → map.get (chosen choice m) q ≡ Some y → (x : X) × (map.get m q ≡ Some x) × (choice q x ≡ Some y)
  chosen_from m q y is = go (map.get m q) refl (sym (get-chosen choice m q) ∙ is)
    where
      go : (o : Option X) → map.get m q ≡ o → option_and_then (choice q) o ≡ Some y → (x : X) × (map.get m q ≡ Some x) × (choice q x ≡ Some y)
      go None at found = absurd (none_not_some refl found)
      go (Some x) at found = (x, at, found)

  pub chosen_to : (m : map.FinMap nat_cmp X) (q : ℕ) (x : X) (y : Y) → map.get m q ≡ Some x → choice q x ≡ Some y → map.get (chosen choice m) q ≡ Some y
  chosen_to m q x y at is = get-chosen choice m q ∙ ap (option_and_then (choice q)) at ∙ is

-- what a test lets through
pub let_through : {Y : Type 0} (n c : ℕ) (x y : Y) → cond (nat_eq n c) (Some x) None ≡ Some y → (n ≡ c) × (y ≡ x)
let_through n c x y is =
    elim (nat_eq n c) as (λ b. nat_eq n c ≡ b → cond b (Some x) None ≡ Some y → (n ≡ c) × (y ≡ x)) [
      | true ↦ λ e found. (same_from_test n c e, sym (same_some x y found))
      | false ↦ λ e found. absurd (none_not_some refl found)
    ] refl is

pub lets_through : {Y : Type 0} (n c : ℕ) (x : Y) → n ≡ c → cond (nat_eq n c) (Some x) None ≡ Some x
lets_through n c x same = ap (λ b. cond b (Some x) None) (ap (λ k. nat_eq k c) same ∙ test_same c)

module _ {C K : Type 0} (lib : Meanings C K) where
  -- the works of a caller's tasks, where tasks have these goals
  abbrev pub works_by : (ℕ → Tree C) → Graph (Tree C) K → ℕ → map.FinMap nat_cmp ℕ
  works_by goals graph c = chosen (work_for lib goals c) graph.tasks

  -- the work of a task
  abbrev pub work_by : (ℕ → Tree C) → Unfinished (Tree C) K → ℕ
  work_by goals t = lib.work t.kind (each (read_input goals) t.inputs)

  pub work_from : (goals : ℕ → Tree C) (graph : Graph (Tree C) K) (c q n : ℕ) → map.get (works_by goals graph c) q ≡ Some n
      → (t : Unfinished (Tree C) K) × (task_at graph q ≡ Some t) × (t.caller ≡ c) × (n ≡ work_by goals t)
  work_from goals graph c q n is =
      let found = chosen_from (work_for lib goals c) graph.tasks q n is in
      let passed = let_through found.0.caller c (work_by goals found.0) n found.2 in
      (found.0, found.1, passed.0, passed.1)

  pub work_to : (goals : ℕ → Tree C) (graph : Graph (Tree C) K) (c q : ℕ) (t : Unfinished (Tree C) K) → task_at graph q ≡ Some t → t.caller ≡ c
      → map.get (works_by goals graph c) q ≡ Some (work_by goals t)
  work_to goals graph c q t is own = chosen_to (work_for lib goals c) graph.tasks q t (work_by goals t) is (lets_through t.caller c (work_by goals t) own)

  -- works are the same where a caller's tasks have the same work in both states
  pub works_alike : (goals after : ℕ → Tree C) (graph final : Graph (Tree C) K) (c : ℕ)
      → ((q : ℕ) (t : Unfinished (Tree C) K) → task_at graph q ≡ Some t → t.caller ≡ c
      → (u : Unfinished (Tree C) K) × (task_at final q ≡ Some u) × (u.caller ≡ c) × (work_by after u ≡ work_by goals t))
      → ((q : ℕ) (u : Unfinished (Tree C) K) → task_at final q ≡ Some u → u.caller ≡ c → (t : Unfinished (Tree C) K) × (task_at graph q ≡ Some t) × (t.caller ≡ c))
      → works_by after final c ≡ works_by goals graph c
  works_alike goals after graph final c to back =
      same_maps (works_by after final c) (works_by goals graph c) (λ q. same_options _ _
      (λ n is.
      let found = work_from after final c q n is in
      let t = back q found.0 found.1 found.2 in
      let u = to q t.0 t.1 t.2 in
      work_to goals graph c q t.0 t.1 t.2 ∙ ap Some (sym u.3 ∙ ap (work_by after) (same_some u.0 found.0 (sym u.1 ∙ found.1)) ∙ sym found.3))
      (λ n is.
      let found = work_from goals graph c q n is in
      let u = to q found.0 found.1 found.2 in
      work_to after final c q u.0 u.1 u.2 ∙ ap Some (u.3 ∙ sym found.3)))

  -- the works of a state, by the goals that are kept
  pub works_kept : (machine : Machine C K) (c : ℕ) (keeps : Keeps lib machine.drawn machine.graph machine.asks) → works_of lib machine c ≡ works_by keeps.goals machine.graph c
  works_kept machine c keeps =
      works_alike keeps.goals (goal_of lib machine) machine.graph machine.graph c
      (λ q t is own. (t, is, own, ap (lib.work t.kind) (own_readings lib machine.drawn machine.graph machine.asks keeps q t is)))
      (λ q u is own. (u, is, own))

  -- a task of a caller in two states
  abbrev pub Stays : Graph (Tree C) K → ℕ → Unfinished (Tree C) K → Type 0
  Stays graph q t = (u : Unfinished (Tree C) K) × (task_at graph q ≡ Some u) × (u.caller ≡ t.caller) × (u.kind ≡ t.kind) × (u.inputs ≡ t.inputs)

  module _ (drawn more : ℕ) (graph final : Graph (Tree C) K) (asks later : map.FinMap nat_cmp (Ask (Tree C) (Tree C))) (keeps : Keeps lib drawn graph asks) (kept : Keeps lib more final later) (c : ℕ)
      (stays : (q : ℕ) (t : Unfinished (Tree C) K) → task_at graph q ≡ Some t → t.caller ≡ c → Stays final q t) where
    -- goals of a caller's tasks are the same where the tasks stay
    pub goals_agree : (depth q : ℕ) (t : Unfinished (Tree C) K) → keeps.level q < depth → task_at graph q ≡ Some t → t.caller ≡ c → kept.goals q ≡ keeps.goals q
    goals_agree zero q t high is own = absurd (omega arith)
    goals_agree (suc depth) q t high is own =
        let u = stays q t is own in
        kept.goal_is q u.0 u.1
        ∙ (λ i. lib.goal (u.3 i) (each (read_input kept.goals) (u.4 i)))
        ∙ ap (lib.goal t.kind) (same_readings kept.goals keeps.goals t.inputs (λ p a n at.
        let other = keeps.there q p a n t is at in
        let falls = keeps.falls q p a n t is at in
        goals_agree depth a other.0 (omega arith) other.1 (other.2 ∙ own)))
        ∙ sym (keeps.goal_is q t is)

    pub reads_agree : (q : ℕ) (t : Unfinished (Tree C) K) → task_at graph q ≡ Some t → t.caller ≡ c → each (read_input kept.goals) t.inputs ≡ each (read_input keeps.goals) t.inputs
    reads_agree q t is own =
        same_readings kept.goals keeps.goals t.inputs (λ p a n at.
        let other = keeps.there q p a n t is at in
        goals_agree (suc (keeps.level a)) a other.0 (omega arith) other.1 (other.2 ∙ own))

    pub works_stay : ((q : ℕ) (u : Unfinished (Tree C) K) → task_at final q ≡ Some u → u.caller ≡ c → (t : Unfinished (Tree C) K) × (task_at graph q ≡ Some t) × (t.caller ≡ c))
        → works_by kept.goals final c ≡ works_by keeps.goals graph c
    works_stay back =
        works_alike keeps.goals kept.goals graph final c
        (λ q t is own.
        let u = stays q t is own in
        (u.0, u.1, u.2 ∙ own, (λ i. lib.work (u.3 i) (each (read_input kept.goals) (u.4 i))) ∙ ap (lib.work t.kind) (reads_agree q t is own))) back

  -- what is left to do stays with a caller's tasks
  pub left_stays : (before after : Machine C K) (c : ℕ) → Keeps lib before.drawn before.graph before.asks → Keeps lib after.drawn after.graph after.asks
      → ((q : ℕ) (t : Unfinished (Tree C) K) → task_at before.graph q ≡ Some t → t.caller ≡ c → Stays after.graph q t)
      → ((q : ℕ) (u : Unfinished (Tree C) K) → task_at after.graph q ≡ Some u → u.caller ≡ c → (t : Unfinished (Tree C) K) × (task_at before.graph q ≡ Some t) × (t.caller ≡ c))
      → work_left lib after c ≡ work_left lib before c
  left_stays before after c keeps kept stays back =
      ap total (works_kept after c kept
      ∙ works_stay before.drawn after.drawn before.graph after.graph before.asks after.asks keeps kept c stays back
      ∙ sym (works_kept before c keeps))
