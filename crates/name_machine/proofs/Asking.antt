-- An ask keeps what is kept.
use Rattle.std.proofs.Common.{◌≡◌, ℕ, zero, suc, ◌+◌, ◌<◌, ◌≤◌, ◌⊎◌, inl, inr, cond, nat_eq, nat_cmp, List, [], ◌∷◌, map as each, slice_get, None, Some, refl, sym, ap, subst, ◌∙◌, arith}
use Rattle.std.specs.Option.{option_map}
use Rattle.std.specs.FinMap as map
use Rattle.task_types.specs.Tree.{Tree}
use Rattle.task_types.specs.Meanings.{Meanings}
use Rattle.task_states.specs.States.{Known, Awaits, Unfinished, Graph, task_at}
use Rattle.task_states.specs.Steps.{added, with_asked}
use Rattle.name_states.proofs.Basics.{none_not_some, same_some, same_or_not, test_same, test_apart, inserted_here, inserted_other, inserted_from}
use Rattle.name_machine.specs.States.{Ask}
use Rattle.name_machine.specs.Goals.{read_input}
use Rattle.name_machine.specs.Facts.{EndsAtAsk, Asked}
use Rattle.name_machine.proofs.Tasks.{changed_here, changed_other}
use Rattle.name_machine.proofs.Ends.{ends_more}
use Rattle.name_machine.proofs.Invariant.{Keeps, IsServedBy, same_readings}

-- known inputs await nothing, and read as what they are
pub known_await_nothing : {X : Type 0} (values : List X) (p a n : ℕ) → slice_get (each Known values) p ≡ Some (Awaits a n) → ⊥
known_await_nothing [] p a n is = none_not_some refl is
known_await_nothing (x ∷ values) zero a n is = let clash : Known x ≡ Awaits a n = same_some _ _ is in cc
known_await_nothing (x ∷ values) (suc p) a n is = known_await_nothing values p a n is

pub known_read : {C : Type 0} (goals : ℕ → Tree C) (trees : List (Tree C)) → each (read_input goals) (each Known trees) ≡ trees
known_read goals [] = refl
known_read goals (tree ∷ trees) = ap (λ rest. tree ∷ rest) (known_read goals trees)

module _ {C K : Type 0} (lib : Meanings C K) (drawn : ℕ) (graph : Graph (Tree C) K) (asks : map.FinMap nat_cmp (Ask (Tree C) (Tree C))) (keeps : Keeps lib drawn graph asks) (caller : ℕ) (kind : K) (trees : List (Tree C)) (number : ℕ) (defined : lib.defined kind trees) (above : drawn + 1 < number) where
  abbrev pub new : Unfinished (Tree C) K
  new = record { caller = caller; kind = kind; inputs = each Known trees; runner = None; asked = Some number }

  abbrev pub new_ask : Ask (Tree C) (Tree C)
  new_ask = record { caller = caller; number = number; goal = lib.goal kind trees; delivered = None }

  abbrev pub after : Graph (Tree C) K
  after = with_asked (added graph (drawn + 1) caller kind (each Known trees)) (drawn + 1) number

  abbrev pub later : map.FinMap nat_cmp (Ask (Tree C) (Tree C))
  later = map.insert asks (drawn + 1) new_ask

  abbrev bare : Unfinished (Tree C) K
  bare = record { caller = caller; kind = kind; inputs = each Known trees; runner = None; asked = None }

  abbrev ask_it : Unfinished (Tree C) K → Unfinished (Tree C) K
  ask_it t = record t { asked = Some number }

  abbrev between : Graph (Tree C) K
  between = added graph (drawn + 1) caller kind (each Known trees)

  pub task_new : task_at after (drawn + 1) ≡ Some new
  task_new = changed_here between (drawn + 1) ask_it ∙ ap (option_map ask_it) (inserted_here graph.tasks (drawn + 1) (drawn + 1) bare bare refl refl)

  task_old : (q : ℕ) → (q ≡ drawn + 1 → ⊥) → task_at after q ≡ task_at graph q
  task_old q apart = changed_other between (drawn + 1) q ask_it apart ∙ inserted_other graph.tasks (drawn + 1) q bare apart

  pub task_from : (q : ℕ) (t : Unfinished (Tree C) K) → task_at after q ≡ Some t → ((q ≡ drawn + 1) × (t ≡ new)) ⊎ ((q ≡ drawn + 1 → ⊥) × (task_at graph q ≡ Some t))
  task_from q t is =
      elim (same_or_not q (drawn + 1)) [
        | inl same ↦ inl (same, same_some t new (sym is ∙ ap (task_at after) same ∙ task_new))
        | inr apart ↦ inr (apart, sym (task_old q apart) ∙ is)
      ]

  ask_old : (k : ℕ) (a : Ask (Tree C) (Tree C)) → map.get asks k ≡ Some a → map.get later k ≡ Some a
  ask_old k a is = let h = (keeps.ask_drawn k a is).0 in inserted_other asks (drawn + 1) k new_ask (λ same. omega arith) ∙ is

  pub still : (q : ℕ) (t : Unfinished (Tree C) K) → task_at graph q ≡ Some t → task_at after q ≡ Some t
  still q t is = let h = keeps.numbers q t is in task_old q (λ same. omega arith) ∙ is

  abbrev goals : ℕ → Tree C
  goals q = cond (nat_eq q (drawn + 1)) (lib.goal kind trees) (keeps.goals q)

  abbrev level : ℕ → ℕ
  level q = cond (nat_eq q (drawn + 1)) drawn (keeps.level q)

  goals_old : (q : ℕ) → q ≤ drawn → goals q ≡ keeps.goals q
  goals_old q h = ap (λ b. cond b (lib.goal kind trees) (keeps.goals q)) (test_apart q (drawn + 1) (λ same. omega arith))

  level_old : (q : ℕ) → q ≤ drawn → level q ≡ keeps.level q
  level_old q h = ap (λ b. cond b drawn (keeps.level q)) (test_apart q (drawn + 1) (λ same. omega arith))

  goals_new : goals (drawn + 1) ≡ lib.goal kind trees
  goals_new = ap (λ b. cond b (lib.goal kind trees) (keeps.goals (drawn + 1))) (test_same (drawn + 1))

  level_new : level (drawn + 1) ≡ drawn
  level_new = ap (λ b. cond b drawn (keeps.level (drawn + 1))) (test_same (drawn + 1))

  old_reads : (q : ℕ) (t : Unfinished (Tree C) K) → task_at graph q ≡ Some t → each (read_input goals) t.inputs ≡ each (read_input keeps.goals) t.inputs
  old_reads q t is =
      same_readings goals keeps.goals t.inputs (λ p a n at.
      let other = keeps.there q p a n t is at in
      goals_old a (keeps.numbers a other.0 other.1))

  -- inputs of a new task await nothing
  new_awaits : (t : Unfinished (Tree C) K) (p a n : ℕ) → t ≡ new → slice_get t.inputs p ≡ Some (Awaits a n) → ⊥
  new_awaits t p a n is at = known_await_nothing trees p a n (sym (ap (λ (u : Unfinished (Tree C) K). slice_get u.inputs p) is) ∙ at)

  new_served : (k : ℕ) (a : Ask (Tree C) (Tree C)) → a ≡ new_ask → IsServedBy goals after a
  new_served k a is =
      inr (ap (λ b. b.delivered) is, drawn + 1, new, task_new, ap (λ b. Some b.number) (sym is), ap (λ b. b.caller) (sym is), goals_new ∙ ap (λ b. b.goal) (sym is))

  old_served : (k : ℕ) (a : Ask (Tree C) (Tree C)) → map.get asks k ≡ Some a → IsServedBy goals after a
  old_served k a is =
      elim (keeps.served k a is) [
        | inl done ↦ inl done
        | inr waits ↦ inr (waits.0, waits.1, waits.2, still waits.1 waits.2 waits.3, waits.4, waits.5, goals_old waits.1 (keeps.numbers waits.1 waits.2 waits.3) ∙ waits.6)
      ]

  ends_old : (q : ℕ) (t : Unfinished (Tree C) K) → task_at graph q ≡ Some t → EndsAtAsk after later t.caller q
  ends_old q t is =
      ends_more graph after asks later t.caller (λ r u at own. (u, still r u at, refl, refl, refl)) (λ k a at own none. ask_old k a at) q (keeps.awaited q t is)

  -- numbers asked before are below
  below : (q m : ℕ) (t : Unfinished (Tree C) K) → task_at graph q ≡ Some t → t.asked ≡ Some m → m ≤ drawn
  below q m t is asked =
      let ask = keeps.ask_for q m t is asked in
      let h = (keeps.ask_drawn ask.0 ask.1 ask.2).1 in
      subst (λ n. n ≤ drawn) ask.4 h

  pub kept_by_ask : Keeps lib number after later
  kept_by_ask = record {
    goals = goals;
    level = level;
    numbers = λ q t is. elim (task_from q t is) [ inl here ↦ (let e = here.0 in omega arith) | inr old ↦ (let h = keeps.numbers q t old.1 in omega arith) ];
    low = λ q t is. elim (task_from q t is) [
      | inl here ↦ (let e : level q ≡ drawn = ap level here.0 ∙ level_new in omega arith)
      | inr old ↦ (let h = keeps.low q t old.1 in let e = level_old q (keeps.numbers q t old.1) in omega arith)
    ];
    falls = λ q p a n t is at. elim (task_from q t is) [
      | inl here ↦ absurd (new_awaits t p a n here.1 at)
      | inr old ↦
          let other = keeps.there q p a n t old.1 at in
          let e = level_old q (keeps.numbers q t old.1) in
          let f = level_old a (keeps.numbers a other.0 other.1) in
          let h = keeps.falls q p a n t old.1 at in
          omega arith
    ];
    there = λ q p a n t is at. elim (task_from q t is) [
      | inl here ↦ absurd (new_awaits t p a n here.1 at)
      | inr old ↦ (let other = keeps.there q p a n t old.1 at in (other.0, still a other.0 other.1, other.2))
    ];
    goal_is = λ q t is. elim (task_from q t is) [
      | inl here ↦ ap goals here.0 ∙ goals_new ∙ ap (lib.goal kind) (sym (known_read goals trees)) ∙ ap (λ (u : Unfinished (Tree C) K). lib.goal u.kind (each (read_input goals) u.inputs)) (sym here.1)
      | inr old ↦ goals_old q (keeps.numbers q t old.1) ∙ keeps.goal_is q t old.1 ∙ ap (lib.goal t.kind) (sym (old_reads q t old.1))
    ];
    defined = λ q t is. elim (task_from q t is) [
      | inl here ↦ subst (λ (u : Unfinished (Tree C) K). lib.defined u.kind (each (read_input goals) u.inputs)) (sym here.1) (subst (lib.defined kind) (sym (known_read goals trees)) defined)
      | inr old ↦ subst (lib.defined t.kind) (sym (old_reads q t old.1)) (keeps.defined q t old.1)
    ];
    runs_known = λ q p a n w t is runs at. elim (task_from q t is) [
      | inl here ↦ new_awaits t p a n here.1 at
      | inr old ↦ keeps.runs_known q p a n w t old.1 runs at
    ];
    runs_one = λ q r w t u is at runs run. elim (task_from q t is) [
      | inl here ↦ absurd (none_not_some (ap (λ (v : Unfinished (Tree C) K). v.runner) here.1) runs)
      | inr old ↦ elim (task_from r u at) [
        | inl here ↦ absurd (none_not_some (ap (λ (v : Unfinished (Tree C) K). v.runner) here.1) run)
        | inr other ↦ keeps.runs_one q r w t u old.1 other.1 runs run
      ]
    ];
    ask_for = λ q m t is asked. elim (task_from q t is) [
      | inl here ↦
          let m_is : number ≡ m = same_some number m (sym (ap (λ (v : Unfinished (Tree C) K). v.asked) here.1) ∙ asked) in
          (drawn + 1, new_ask, inserted_here asks (drawn + 1) (drawn + 1) new_ask new_ask refl refl, ap (λ (v : Unfinished (Tree C) K). v.caller) (sym here.1), m_is, refl)
      | inr old ↦ (let ask = keeps.ask_for q m t old.1 asked in (ask.0, ask.1, ask_old ask.0 ask.1 ask.2, ask.3, ask.4, ask.5))
    ];
    asked_one = λ q r m t u is at asked other. elim (task_from q t is) [
      | inl here ↦
          let m_is : number ≡ m = same_some number m (sym (ap (λ (v : Unfinished (Tree C) K). v.asked) here.1) ∙ asked) in
          elim (task_from r u at) [
            | inl there ↦ here.0 ∙ sym there.0
            | inr old ↦ absurd (let h = below r m u old.1 other in omega arith)
          ]
      | inr old ↦ elim (task_from r u at) [
        | inl there ↦
            absurd (let m_is : number ≡ m = same_some number m (sym (ap (λ (v : Unfinished (Tree C) K). v.asked) there.1) ∙ other) in let h = below q m t old.1 asked in omega arith)
        | inr there ↦ keeps.asked_one q r m t u old.1 there.1 asked other
      ]
    ];
    ask_one = λ k l a b is at same. elim (inserted_from asks (drawn + 1) k new_ask a is) [
      | inl here ↦ elim (inserted_from asks (drawn + 1) l new_ask b at) [
        | inl there ↦ here.0 ∙ sym there.0
        | inr other ↦
            absurd (let h = (keeps.ask_drawn l b other.1).1 in let e : a.number ≡ number = ap (λ c. c.number) here.1 in omega arith)
      ]
      | inr old ↦ elim (inserted_from asks (drawn + 1) l new_ask b at) [
        | inl there ↦
            absurd (let h = (keeps.ask_drawn k a old.1).1 in let e : b.number ≡ number = ap (λ c. c.number) there.1 in omega arith)
        | inr other ↦ keeps.ask_one k l a b old.1 other.1 same
      ]
    ];
    ask_drawn = λ k a is. elim (inserted_from asks (drawn + 1) k new_ask a is) [
      | inl here ↦ (let e : a.number ≡ number = ap (λ c. c.number) here.1 in let f = here.0 in (omega arith, omega arith))
      | inr old ↦ (let h = (keeps.ask_drawn k a old.1).0 in let g = (keeps.ask_drawn k a old.1).1 in (omega arith, omega arith))
    ];
    served = λ k a is. elim (inserted_from asks (drawn + 1) k new_ask a is) [
      | inl here ↦ new_served k a here.1
      | inr old ↦ old_served k a old.1
    ];
    awaited = λ q t is. elim (task_from q t is) [
      | inl here ↦
          subst (λ (n : ℕ). EndsAtAsk after later t.caller n) (sym here.0)
          (subst (λ (u : Unfinished (Tree C) K). EndsAtAsk after later u.caller (drawn + 1)) (sym here.1)
          (Asked (drawn + 1) number (drawn + 1) new new_ask task_new refl refl (inserted_here asks (drawn + 1) (drawn + 1) new_ask new_ask refl refl) refl refl refl))
      | inr old ↦ ends_old q t old.1
    ];
    stopped = λ c is. let ask = keeps.stopped c is in (ask.0, ask.1, ask_old ask.0 ask.1 ask.2, ask.3);
  }
