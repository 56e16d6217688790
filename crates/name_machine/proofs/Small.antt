-- Every step but an ask and a finish keeps what is kept.
use Rattle.std.proofs.Common.{◌≡◌, ℕ, zero, suc, ◌⊎◌, inl, inr, true, false, cond, not, ◌&&◌, ◌||◌, nat_eq, nat_cmp, List, [], ◌∷◌, map as each, slice_get, Option, None, Some, is_some, refl, sym, ap, subst, ◌∙◌}
use Rattle.std.specs.Option.{option_map}
use Rattle.std.specs.List.{list_any}
use Rattle.std.specs.Cmp.{nat_cmp_total, unsigned_tied}
use Rattle.std.specs.FinMap as map
use Rattle.std.specs.FinSet as numbers
use Rattle.task_types.specs.Tree.{Tree, Nothing}
use Rattle.task_types.specs.Meanings.{Meanings}
use Rattle.task_states.specs.declared.states.TaskStatus.{TaskStatus}
use Rattle.task_states.specs.declared.states.TaskStatus.TheVariants.{Unknown, Waiting, Ready, Running}
use Rattle.task_states.specs.Maps.{kept}
use Rattle.task_states.specs.States.{Input, Known, Awaits, Unfinished, Graph, is_awaiting, no_tasks, task_at, status_of, status, is_stopped}
use Rattle.task_states.specs.Steps.{with_task, with_stopped, abandoned}
use Rattle.task_states.proofs.Maps.{get-kept}
use Rattle.name_states.proofs.Basics.{none_not_some, same_some, same_or_not, one_of, same_from_test, test_same, test_apart, removed_other, removed_from}
use Rattle.name_machine.specs.States.{Ask, is_of}
use Rattle.name_machine.specs.Goals.{read_input}
use Rattle.name_machine.proofs.Tasks.{passed_from, passed_to, changed_here, changed_other, changed_from}
use Rattle.task_types.proofs.FormedTest.{both_left, both_right}
use Rattle.name_machine.specs.Facts.{EndsAtAsk}
use Rattle.name_machine.proofs.Ends.{IsStill, ends_more}
use Rattle.name_machine.proofs.Invariant.{Keeps}

-- ---- The opening state

pub kept_at_opening : {C K : Type 0} (lib : Meanings C K) → Keeps lib 0 no_tasks map.empty
kept_at_opening {C} {K} lib =
    let none : (q : ℕ) (t : Unfinished (Tree C) K) → task_at no_tasks q ≡ Some t → ⊥ = λ q t is. none_not_some (map.get-empty nat_cmp q) is in
    let no_ask : (k : ℕ) (a : Ask (Tree C) (Tree C)) → map.get {R = nat_cmp} map.empty k ≡ Some a → ⊥ = λ k a is. none_not_some (map.get-empty nat_cmp k) is in
    record {
      goals = λ q. Nothing;
      level = λ q. 0;
      numbers = λ q t is. absurd (none q t is);
      low = λ q t is. absurd (none q t is);
      falls = λ q p a n t is at. absurd (none q t is);
      there = λ q p a n t is at. absurd (none q t is);
      goal_is = λ q t is. absurd (none q t is);
      defined = λ q t is. absurd (none q t is);
      runs_known = λ q p a n w t is runs at. none q t is;
      runs_one = λ q r w t u is at one other. absurd (none q t is);
      ask_for = λ q m t is asked. absurd (none q t is);
      asked_one = λ q r m t u is at one other. absurd (none q t is);
      ask_one = λ k l a b is at same. absurd (no_ask k a is);
      ask_drawn = λ k a is. absurd (no_ask k a is);
      served = λ k a is. absurd (no_ask k a is);
      awaited = λ q t is. absurd (none q t is);
      stopped = λ c is. absurd (let clash : false ≡ true = sym (numbers.contains-empty nat_cmp c) ∙ is in cc);
    }

-- ---- A worker begins a task, or gives it back

-- a ready task awaits nothing
awaits_none : {X : Type 0} (inputs : List (Input X)) (p a n : ℕ) → list_any is_awaiting inputs ≡ false → slice_get inputs p ≡ Some (Awaits a n) → ⊥
awaits_none [] p a n is at = none_not_some refl at
awaits_none (Known x ∷ inputs) zero a n is at = let clash : Known x ≡ Awaits a n = same_some _ _ at in cc
awaits_none (Known x ∷ inputs) (suc p) a n is at = awaits_none inputs p a n is at
awaits_none (Awaits b m ∷ inputs) p a n is at = let clash : true ≡ false = is in cc

ready_of : {X K : Type 0} (t : Unfinished X K) → status_of t ≡ Ready → list_any is_awaiting t.inputs ≡ false
ready_of t is =
    elim (list_any is_awaiting t.inputs) as (λ b. list_any is_awaiting t.inputs ≡ b → cond b Waiting (cond (is_some t.runner) Running Ready) ≡ Ready → list_any is_awaiting t.inputs ≡ false) [
      | true ↦ λ e r. absurd (cc)
      | false ↦ λ e r. e
    ] refl is

pub status_at : {X K : Type 0} (graph : Graph X K) (q : ℕ) (t : Unfinished X K) → task_at graph q ≡ Some t → status graph q ≡ status_of t
status_at {X} {K} graph q t is = ap (λ (o : Option (Unfinished X K)). elim o as (λ x. TaskStatus) [ None ↦ Unknown | Some task ↦ status_of task ]) is

pub ready_awaits_nothing : {X K : Type 0} (graph : Graph X K) (q p a n : ℕ) (t : Unfinished X K) → status graph q ≡ Ready → task_at graph q ≡ Some t
    → slice_get t.inputs p ≡ Some (Awaits a n) → ⊥
ready_awaits_nothing graph q p a n t ready is at = awaits_none t.inputs p a n (ready_of t (sym (status_at graph q t is) ∙ ready)) at

module _ {C K : Type 0} (lib : Meanings C K) (drawn : ℕ) (graph : Graph (Tree C) K) (asks : map.FinMap nat_cmp (Ask (Tree C) (Tree C))) (keeps : Keeps lib drawn graph asks) where
  module _ (task : ℕ) (runner : Option ℕ)
      (ready : (p a n w : ℕ) (t : Unfinished (Tree C) K) → runner ≡ Some w → task_at graph task ≡ Some t → slice_get t.inputs p ≡ Some (Awaits a n) → ⊥)
      (idle : (q w : ℕ) (t : Unfinished (Tree C) K) → runner ≡ Some w → task_at graph q ≡ Some t → t.runner ≡ Some w → ⊥) where
    abbrev run_it : Unfinished (Tree C) K → Unfinished (Tree C) K
    run_it t = record t { runner = runner }

    abbrev run : Graph (Tree C) K
    run = with_task graph task run_it

    record Was (q : ℕ) (t : Unfinished (Tree C) K) : Type 0 where
      pub before : Unfinished (Tree C) K
      pub there : task_at graph q ≡ Some before
      pub caller : t.caller ≡ before.caller
      pub kind : t.kind ≡ before.kind
      pub inputs : t.inputs ≡ before.inputs
      pub asked : t.asked ≡ before.asked
      pub run_by : ((q ≡ task) × (t.runner ≡ runner)) ⊎ ((q ≡ task → ⊥) × (t.runner ≡ before.runner))

    was : (q : ℕ) (t : Unfinished (Tree C) K) → task_at run q ≡ Some t → Was q t
    was q t is =
        let from = changed_from graph task q run_it t is in
        elim from.2 [
          | inl here ↦ record {
            before = from.0;
            there = from.1;
            caller = ap (λ v. v.caller) here.1;
            kind = ap (λ v. v.kind) here.1;
            inputs = ap (λ v. v.inputs) here.1;
            asked = ap (λ v. v.asked) here.1;
            run_by = inl (here.0, ap (λ v. v.runner) here.1);
          }
          | inr other ↦ record {
            before = from.0;
            there = from.1;
            caller = ap (λ v. v.caller) other.1;
            kind = ap (λ v. v.kind) other.1;
            inputs = ap (λ v. v.inputs) other.1;
            asked = ap (λ v. v.asked) other.1;
            run_by = inr (other.0, ap (λ v. v.runner) other.1);
          }
        ]

    run_still : (q : ℕ) (t : Unfinished (Tree C) K) → task_at graph q ≡ Some t → IsStill run q t
    run_still q t is =
        elim (same_or_not q task) [
          | inl same ↦
              (run_it t, ap (task_at run) same ∙ changed_here graph task run_it ∙ ap (option_map run_it) (ap (task_at graph) (sym same) ∙ is), refl, refl, refl)
          | inr apart ↦ (t, changed_other graph task q run_it apart ∙ is, refl, refl, refl)
        ]

    input_was : (q p a n : ℕ) (t : Unfinished (Tree C) K) (w : Was q t) → slice_get t.inputs p ≡ Some (Awaits a n) → slice_get w.before.inputs p ≡ Some (Awaits a n)
    input_was q p a n t w at = ap (λ inputs. slice_get inputs p) (sym w.inputs) ∙ at

    pub kept_by_runner : Keeps lib drawn run asks
    kept_by_runner = record {
      goals = keeps.goals;
      level = keeps.level;
      numbers = λ q t is. let w = was q t is in keeps.numbers q w.before w.there;
      low = λ q t is. let w = was q t is in keeps.low q w.before w.there;
      falls = λ q p a n t is at. let w = was q t is in keeps.falls q p a n w.before w.there (input_was q p a n t w at);
      there = λ q p a n t is at.
          let w = was q t is in
          let other = keeps.there q p a n w.before w.there (input_was q p a n t w at) in
          let u = run_still a other.0 other.1 in
          (u.0, u.1, u.2 ∙ other.2 ∙ sym w.caller);
      goal_is = λ q t is. let w = was q t is in keeps.goal_is q w.before w.there ∙ (λ i. lib.goal (sym w.kind i) (each (read_input keeps.goals) (sym w.inputs i)));
      defined = λ q t is.
          let w = was q t is in
          subst (λ kind. lib.defined kind (each (read_input keeps.goals) t.inputs)) (sym w.kind)
          (subst (λ inputs. lib.defined w.before.kind (each (read_input keeps.goals) inputs)) (sym w.inputs) (keeps.defined q w.before w.there));
      runs_known = λ q p a n w t is runs at.
          let v = was q t is in
          elim v.run_by [
            | inl here ↦ ready p a n w v.before (sym here.1 ∙ runs) (ap (task_at graph) (sym here.0) ∙ v.there) (input_was q p a n t v at)
            | inr other ↦ keeps.runs_known q p a n w v.before v.there (sym other.1 ∙ runs) (input_was q p a n t v at)
          ];
      runs_one = λ q r w t u is at runs other.
          let v = was q t is in
          let x = was r u at in
          elim v.run_by [
            | inl here ↦ elim x.run_by [
              | inl there ↦ here.0 ∙ sym there.0
              | inr there ↦ absurd (idle r w x.before (sym here.1 ∙ runs) x.there (sym there.1 ∙ other))
            ]
            | inr here ↦ elim x.run_by [
              | inl there ↦ absurd (idle q w v.before (sym there.1 ∙ other) v.there (sym here.1 ∙ runs))
              | inr there ↦ keeps.runs_one q r w v.before x.before v.there x.there (sym here.1 ∙ runs) (sym there.1 ∙ other)
            ]
          ];
      ask_for = λ q m t is asked.
          let w = was q t is in
          let ask = keeps.ask_for q m w.before w.there (sym w.asked ∙ asked) in
          (ask.0, ask.1, ask.2, ask.3 ∙ sym w.caller, ask.4, ask.5);
      asked_one = λ q r m t u is at asked other.
          let w = was q t is in
          let x = was r u at in
          keeps.asked_one q r m w.before x.before w.there x.there (sym w.asked ∙ asked) (sym x.asked ∙ other);
      ask_one = keeps.ask_one;
      ask_drawn = keeps.ask_drawn;
      served = λ k a is. elim (keeps.served k a is) [
        | inl done ↦ inl done
        | inr waits ↦ (let u = run_still waits.1 waits.2 waits.3 in inr (waits.0, waits.1, u.0, u.1, u.3 ∙ waits.4, u.2 ∙ waits.5, waits.6))
      ];
      awaited = λ q t is.
          let w = was q t is in
          subst (λ c. EndsAtAsk run asks c q) (sym w.caller)
          (ends_more graph run asks asks w.before.caller (λ r u at own. run_still r u at) (λ k a at own none. at) q (keeps.awaited q w.before w.there));
      stopped = keeps.stopped;
    }

  -- ---- A caller is stopped

  pub kept_by_stop : (caller : ℕ) → (k : ℕ) (a : Ask (Tree C) (Tree C)) → map.get asks k ≡ Some a → a.caller ≡ caller → Keeps lib drawn (with_stopped graph caller) asks
  kept_by_stop caller k a is own = record {
    goals = keeps.goals;
    level = keeps.level;
    numbers = keeps.numbers;
    low = keeps.low;
    falls = keeps.falls;
    there = keeps.there;
    goal_is = keeps.goal_is;
    defined = keeps.defined;
    runs_known = keeps.runs_known;
    runs_one = keeps.runs_one;
    ask_for = keeps.ask_for;
    asked_one = keeps.asked_one;
    ask_one = keeps.ask_one;
    ask_drawn = keeps.ask_drawn;
    served = keeps.served;
    awaited = λ q t at.
        ends_more graph (with_stopped graph caller) asks asks t.caller (λ r u there own. (u, there, refl, refl, refl)) (λ l b there own none. there) q (keeps.awaited q t at);
    stopped = λ c stopped.
        elim (one_of (nat_eq c caller) (is_stopped graph c) (sym (numbers.contains-insert nat_cmp_total graph.stopped caller c ∙ ap (λ b. b || is_stopped graph c) (unsigned_tied c caller)) ∙ stopped)) [
          | inl same ↦ (k, a, is, own ∙ sym (same_from_test c caller same))
          | inr before ↦ keeps.stopped c before
        ];
  }

  -- ---- A delivered ask goes

  pub kept_by_collect : (task caller : ℕ) (a : Ask (Tree C) (Tree C)) (output : Tree C) → map.get asks task ≡ Some a → a.delivered ≡ Some output → a.caller ≡ caller
      → is_stopped graph caller ≡ false → Keeps lib drawn graph (map.remove asks task)
  kept_by_collect task caller a output is done own goes_on =
      let open_stays : (k : ℕ) (b : Ask (Tree C) (Tree C)) → map.get asks k ≡ Some b → b.delivered ≡ None → map.get (map.remove asks task) k ≡ Some b =
      λ k b at none. removed_other asks task k (λ same.
      let one : a ≡ b = same_some a b (sym is ∙ ap (map.get asks) (sym same) ∙ at) in
      none_not_some none (ap (λ x. x.delivered) (sym one) ∙ done)) ∙ at in
      record {
        goals = keeps.goals;
        level = keeps.level;
        numbers = keeps.numbers;
        low = keeps.low;
        falls = keeps.falls;
        there = keeps.there;
        goal_is = keeps.goal_is;
        defined = keeps.defined;
        runs_known = keeps.runs_known;
        runs_one = keeps.runs_one;
        ask_for = λ q m t at asked. let ask = keeps.ask_for q m t at asked in (ask.0, ask.1, open_stays ask.0 ask.1 ask.2 ask.5, ask.3, ask.4, ask.5);
        asked_one = keeps.asked_one;
        ask_one = λ k l b c at there same. keeps.ask_one k l b c (removed_from asks task k b at).1 (removed_from asks task l c there).1 same;
        ask_drawn = λ k b at. keeps.ask_drawn k b (removed_from asks task k b at).1;
        served = λ k b at. keeps.served k b (removed_from asks task k b at).1;
        awaited = λ q t at.
            ends_more graph graph asks (map.remove asks task) t.caller (λ r u there theirs. (u, there, refl, refl, refl)) (λ k b there theirs none. open_stays k b there none) q (keeps.awaited q t at);
        stopped = λ c stopped.
            let ask = keeps.stopped c stopped in (
              ask.0,
              ask.1,
              removed_other asks task ask.0 (λ same.
                  let one : a ≡ ask.1 = same_some a ask.1 (sym is ∙ ap (map.get asks) (sym same) ∙ ask.2) in
                  let which : c ≡ caller = sym ask.3 ∙ ap (λ x. x.caller) (sym one) ∙ own in
                  let clash : false ≡ true = sym goes_on ∙ ap (is_stopped graph) (sym which) ∙ stopped in
                  cc) ∙ ask.2,
              ask.3,
            );
      }

  -- ---- A caller gives up

  other_stays : (n c : ℕ) → (n ≡ c → ⊥) → not (nat_eq n c) ≡ true
  other_stays n c apart = ap not (test_apart n c apart)

  stays_other : (n c : ℕ) → not (nat_eq n c) ≡ true → n ≡ c → ⊥
  stays_other n c is same = let clash : false ≡ true = sym (ap not (ap (λ m. nat_eq m c) same ∙ test_same c)) ∙ is in cc

  module _ (caller : ℕ) where
    abbrev pub left : Graph (Tree C) K
    left = abandoned graph caller

    abbrev pub left_asks : map.FinMap nat_cmp (Ask (Tree C) (Tree C))
    left_asks = kept (λ ask. not (is_of caller ask)) asks

    pub left_task : (q : ℕ) (t : Unfinished (Tree C) K) → task_at left q ≡ Some t → (task_at graph q ≡ Some t) × (t.caller ≡ caller → ⊥)
    left_task q t is =
        let passed = passed_from (λ (u : Unfinished (Tree C) K). not (nat_eq u.caller caller)) (task_at graph q) t (sym (get-kept (λ (u : Unfinished (Tree C) K). not (nat_eq u.caller caller)) graph.tasks q) ∙ is) in
        (passed.0, stays_other t.caller caller passed.1)

    pub task_left : (q : ℕ) (t : Unfinished (Tree C) K) → task_at graph q ≡ Some t → (t.caller ≡ caller → ⊥) → task_at left q ≡ Some t
    task_left q t is apart =
        get-kept (λ (u : Unfinished (Tree C) K). not (nat_eq u.caller caller)) graph.tasks q
        ∙ passed_to (λ (u : Unfinished (Tree C) K). not (nat_eq u.caller caller)) (task_at graph q) t is (other_stays t.caller caller apart)

    pub left_ask : (k : ℕ) (a : Ask (Tree C) (Tree C)) → map.get left_asks k ≡ Some a → (map.get asks k ≡ Some a) × (a.caller ≡ caller → ⊥)
    left_ask k a is =
        let passed = passed_from (λ (b : Ask (Tree C) (Tree C)). not (is_of caller b)) (map.get asks k) a (sym (get-kept (λ (b : Ask (Tree C) (Tree C)). not (is_of caller b)) asks k) ∙ is) in
        (passed.0, stays_other a.caller caller passed.1)

    pub ask_left : (k : ℕ) (a : Ask (Tree C) (Tree C)) → map.get asks k ≡ Some a → (a.caller ≡ caller → ⊥) → map.get left_asks k ≡ Some a
    ask_left k a is apart =
        get-kept (λ (b : Ask (Tree C) (Tree C)). not (is_of caller b)) asks k
        ∙ passed_to (λ (b : Ask (Tree C) (Tree C)). not (is_of caller b)) (map.get asks k) a is (other_stays a.caller caller apart)

    pub kept_by_abandon : Keeps lib drawn left left_asks
    kept_by_abandon = record {
      goals = keeps.goals;
      level = keeps.level;
      numbers = λ q t is. keeps.numbers q t (left_task q t is).0;
      low = λ q t is. keeps.low q t (left_task q t is).0;
      falls = λ q p a n t is at. keeps.falls q p a n t (left_task q t is).0 at;
      there = λ q p a n t is at.
          let was = left_task q t is in
          let other = keeps.there q p a n t was.0 at in
          (other.0, task_left a other.0 other.1 (λ same. was.1 (sym other.2 ∙ same)), other.2);
      goal_is = λ q t is. keeps.goal_is q t (left_task q t is).0;
      defined = λ q t is. keeps.defined q t (left_task q t is).0;
      runs_known = λ q p a n w t is runs at. keeps.runs_known q p a n w t (left_task q t is).0 runs at;
      runs_one = λ q r w t u is at one other. keeps.runs_one q r w t u (left_task q t is).0 (left_task r u at).0 one other;
      ask_for = λ q m t is asked.
          let was = left_task q t is in
          let ask = keeps.ask_for q m t was.0 asked in
          (ask.0, ask.1, ask_left ask.0 ask.1 ask.2 (λ same. was.1 (sym ask.3 ∙ same)), ask.3, ask.4, ask.5);
      asked_one = λ q r m t u is at one other. keeps.asked_one q r m t u (left_task q t is).0 (left_task r u at).0 one other;
      ask_one = λ k l a b is at same. keeps.ask_one k l a b (left_ask k a is).0 (left_ask l b at).0 same;
      ask_drawn = λ k a is. keeps.ask_drawn k a (left_ask k a is).0;
      served = λ k a is.
          let was = left_ask k a is in
          elim (keeps.served k a was.0) [
            | inl done ↦ inl done
            | inr waits ↦
                inr (waits.0, waits.1, waits.2, task_left waits.1 waits.2 waits.3 (λ same. was.1 (sym waits.5 ∙ same)), waits.4, waits.5, waits.6)
          ];
      awaited = λ q t is.
          let was = left_task q t is in
          ends_more graph left asks left_asks t.caller
          (λ r u at own. (u, task_left r u at (λ same. was.1 (sym own ∙ same)), refl, refl, refl))
          (λ k a at own none. ask_left k a at (λ same. was.1 (sym own ∙ same))) q (keeps.awaited q t was.0);
      stopped = λ c is.
          let parts = sym (numbers.contains-remove nat_cmp_total graph.stopped caller c ∙ ap (λ b. not b && is_stopped graph c) (unsigned_tied c caller)) ∙ is in
          let ask = keeps.stopped c (both_right (not (nat_eq c caller)) (is_stopped graph c) parts) in
          let apart = stays_other c caller (both_left (not (nat_eq c caller)) (is_stopped graph c) parts) in
          (ask.0, ask.1, ask_left ask.0 ask.1 ask.2 (λ same. apart (sym ask.3 ∙ same)), ask.3);
    }
