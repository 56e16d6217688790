-- What each step keeps: the facts of every state that is reached, with a goal and a level for each unfinished task.
use Rattle.std.proofs.Common.{◌≡◌, ℕ, zero, suc, ◌<◌, ◌≤◌, ◌⊎◌, inl, inr, true, List, [], ◌∷◌, map as each, slice_get, nat_cmp, nat_eq, Option, None, Some, refl, sym, ap, subst, ◌∙◌, arith}
use Rattle.std.specs.FinMap as map
use Rattle.task_types.specs.Tree.{Tree}
use Rattle.task_types.specs.Meanings.{Meanings}
use Rattle.task_states.specs.States.{Input, Known, Awaits, Unfinished, Graph, task_at, input_at, is_stopped}
use Rattle.name_states.proofs.Basics.{none_not_some, same_some}
use Rattle.name_machine.specs.States.{Machine, Ask, is_of}
use Rattle.name_machine.specs.Steps.{tree_known}
use Rattle.name_machine.specs.Goals.{read_input, goal_from, goal_within}
use Rattle.name_machine.specs.Facts.{Asked, Awaited, EndsAtAsk, HoldsTogether}
use Rattle.name_machine.proofs.Values.{any_from}
use Rattle.name_states.proofs.Basics.{test_same}

-- a caller awaits an output under a number
abbrev pub IsAskFor : {G X : Type 0} → map.FinMap nat_cmp (Ask G X) → ℕ → ℕ → Type 0
IsAskFor {G} {X} asks caller number =
    (key : ℕ) × (ask : Ask G X) × (map.get asks key ≡ Some ask) × (ask.caller ≡ caller) × (ask.number ≡ number) × (ask.delivered ≡ None)

module _ {C K : Type 0} where
  -- an ask has its goal, or its caller awaits a task with that goal
  abbrev pub IsServedBy : (ℕ → Tree C) → Graph (Tree C) K → Ask (Tree C) (Tree C) → Type 0
  IsServedBy goals graph ask =
      (ask.delivered ≡ Some ask.goal)
      ⊎ ((ask.delivered ≡ None) × (number : ℕ) × (task : Unfinished (Tree C) K) × (task_at graph number ≡ Some task)
      × (task.asked ≡ Some ask.number) × (task.caller ≡ ask.caller) × (goals number ≡ ask.goal))

module _ {C K : Type 0} where
  -- an input of a task that is there
  pub input_of : (graph : Graph (Tree C) K) (q p : ℕ) (x : Input (Tree C)) → input_at graph q p ≡ Some x
      → (t : Unfinished (Tree C) K) × (task_at graph q ≡ Some t) × (slice_get t.inputs p ≡ Some x)
  input_of graph q p x is = go (task_at graph q) is refl
    where
      go : (o : Option (Unfinished (Tree C) K)) → (elim o [ None ↦ None | Some task ↦ slice_get task.inputs p ]) ≡ Some x → task_at graph q ≡ o
          → (t : Unfinished (Tree C) K) × (task_at graph q ≡ Some t) × (slice_get t.inputs p ≡ Some x)
      go None found at = absurd (none_not_some refl found)
      go (Some t) found at = (t, at, found)

module _ {C : Type 0} where
  -- inputs read the same where each awaited task has the same goal
  pub same_readings : (f g : ℕ → Tree C) (inputs : List (Input (Tree C))) → ((p a n : ℕ) → slice_get inputs p ≡ Some (Awaits a n) → f a ≡ g a)
      → each (read_input f) inputs ≡ each (read_input g) inputs
  same_readings f g [] same = refl
  same_readings f g (Known tree ∷ inputs) same = ap (λ rest. tree ∷ rest) (same_readings f g inputs (λ p a n is. same (suc p) a n is))
  same_readings f g (Awaits a n ∷ inputs) same = let here = same 0 a n refl in let rest = same_readings f g inputs (λ p a n is. same (suc p) a n is) in cc

-- inputs that await nothing read as they are
pub known_trees : {C : Type 0} (goals : ℕ → Tree C) (inputs : List (Input (Tree C))) → ((p a n : ℕ) → slice_get inputs p ≡ Some (Awaits a n) → ⊥)
    → each (read_input goals) inputs ≡ each tree_known inputs
known_trees goals [] none = refl
known_trees goals (Known tree ∷ inputs) none = ap (λ rest. tree ∷ rest) (known_trees goals inputs (λ p a n is. none (suc p) a n is))
known_trees goals (Awaits a n ∷ inputs) none = absurd (none 0 a n refl)

-- a way that ends at an ask that was not delivered is none where all were
pub never_ends : {C K : Type 0} (graph : Graph (Tree C) K) (asks : map.FinMap nat_cmp (Ask (Tree C) (Tree C))) (c q : ℕ)
    → ((key : ℕ) (ask : Ask (Tree C) (Tree C)) → map.get asks key ≡ Some ask → ask.caller ≡ c → ask.delivered ≡ None → ⊥) → EndsAtAsk graph asks c q → ⊥
never_ends graph asks c q delivered (Asked task number key t ask at own asked found theirs same none) = delivered key ask found theirs none
never_ends graph asks c q delivered (Awaited task by t at own awaits rest) = never_ends graph asks c by delivered rest

module _ {C K : Type 0} (lib : Meanings C K) where
  -- what is kept, of the numbers that were drawn, the unfinished tasks and the asks
  pub record Keeps (drawn : ℕ) (graph : Graph (Tree C) K) (asks : map.FinMap nat_cmp (Ask (Tree C) (Tree C))) : Type 0 where
    pub goals : ℕ → Tree C
    pub level : ℕ → ℕ
    pub numbers : (q : ℕ) (t : Unfinished (Tree C) K) → task_at graph q ≡ Some t → q ≤ drawn
    pub low : (q : ℕ) (t : Unfinished (Tree C) K) → task_at graph q ≡ Some t → level q < drawn
    pub falls : (q p a n : ℕ) (t : Unfinished (Tree C) K) → task_at graph q ≡ Some t → slice_get t.inputs p ≡ Some (Awaits a n) → level a < level q
    pub there : (q p a n : ℕ) (t : Unfinished (Tree C) K) → task_at graph q ≡ Some t → slice_get t.inputs p ≡ Some (Awaits a n)
        → (u : Unfinished (Tree C) K) × (task_at graph a ≡ Some u) × (u.caller ≡ t.caller)
    pub goal_is : (q : ℕ) (t : Unfinished (Tree C) K) → task_at graph q ≡ Some t → goals q ≡ lib.goal t.kind (each (read_input goals) t.inputs)
    pub defined : (q : ℕ) (t : Unfinished (Tree C) K) → task_at graph q ≡ Some t → lib.defined t.kind (each (read_input goals) t.inputs)
    pub runs_known : (q p a n w : ℕ) (t : Unfinished (Tree C) K) → task_at graph q ≡ Some t → t.runner ≡ Some w → slice_get t.inputs p ≡ Some (Awaits a n) → ⊥
    pub runs_one : (q r w : ℕ) (t u : Unfinished (Tree C) K) → task_at graph q ≡ Some t → task_at graph r ≡ Some u → t.runner ≡ Some w → u.runner ≡ Some w → q ≡ r
    pub ask_for : (q m : ℕ) (t : Unfinished (Tree C) K) → task_at graph q ≡ Some t → t.asked ≡ Some m → IsAskFor asks t.caller m
    pub asked_one : (q r m : ℕ) (t u : Unfinished (Tree C) K) → task_at graph q ≡ Some t → task_at graph r ≡ Some u → t.asked ≡ Some m → u.asked ≡ Some m → q ≡ r
    pub ask_one : (k l : ℕ) (a b : Ask (Tree C) (Tree C)) → map.get asks k ≡ Some a → map.get asks l ≡ Some b → a.number ≡ b.number → k ≡ l
    pub ask_drawn : (k : ℕ) (a : Ask (Tree C) (Tree C)) → map.get asks k ≡ Some a → (k ≤ drawn) × (a.number ≤ drawn)
    pub served : (k : ℕ) (a : Ask (Tree C) (Tree C)) → map.get asks k ≡ Some a → IsServedBy goals graph a
    pub awaited : (q : ℕ) (t : Unfinished (Tree C) K) → task_at graph q ≡ Some t → EndsAtAsk graph asks t.caller q
    pub stopped : (c : ℕ) → is_stopped graph c ≡ true → (k : ℕ) × (a : Ask (Tree C) (Tree C)) × (map.get asks k ≡ Some a) × (a.caller ≡ c)

  -- what is kept does not fall with what was drawn
  pub drawn_more : (drawn more : ℕ) (graph : Graph (Tree C) K) (asks : map.FinMap nat_cmp (Ask (Tree C) (Tree C))) → drawn ≤ more → Keeps drawn graph asks → Keeps more graph asks
  drawn_more drawn more graph asks up keeps = record {
    goals = keeps.goals;
    level = keeps.level;
    numbers = λ q t is. let h = keeps.numbers q t is in omega arith;
    low = λ q t is. let h = keeps.low q t is in omega arith;
    falls = keeps.falls;
    there = keeps.there;
    goal_is = keeps.goal_is;
    defined = keeps.defined;
    runs_known = keeps.runs_known;
    runs_one = keeps.runs_one;
    ask_for = keeps.ask_for;
    asked_one = keeps.asked_one;
    ask_one = keeps.ask_one;
    ask_drawn = λ k a is. let h = (keeps.ask_drawn k a is).0 in let i = (keeps.ask_drawn k a is).1 in (omega arith, omega arith);
    served = keeps.served;
    awaited = keeps.awaited;
    stopped = keeps.stopped;
  }

  -- ---- From what is kept to the facts

  module _ (drawn : ℕ) (graph : Graph (Tree C) K) (asks : map.FinMap nat_cmp (Ask (Tree C) (Tree C))) (keeps : Keeps drawn graph asks) where
    -- goals as far as a depth above a task's level are the goals
    pub goals_within : (depth q : ℕ) (t : Unfinished (Tree C) K) → task_at graph q ≡ Some t → keeps.level q < depth → goal_within lib depth graph q ≡ keeps.goals q
    goals_within zero q t is high = absurd (omega arith)
    goals_within (suc depth) q t is high =
        ap (goal_from lib (goal_within lib depth graph)) is
        ∙ ap (lib.goal t.kind) (same_readings (goal_within lib depth graph) keeps.goals t.inputs (λ p a n at.
        let other = keeps.there q p a n t is at in
        let lower = keeps.falls q p a n t is at in
        goals_within depth a other.0 other.1 (omega arith)))
        ∙ sym (keeps.goal_is q t is)

    pub own_goal : (q : ℕ) (t : Unfinished (Tree C) K) → task_at graph q ≡ Some t → goal_within lib drawn graph q ≡ keeps.goals q
    own_goal q t is = goals_within drawn q t is (keeps.low q t is)

    pub own_readings : (q : ℕ) (t : Unfinished (Tree C) K) → task_at graph q ≡ Some t
        → each (read_input (goal_within lib drawn graph)) t.inputs ≡ each (read_input keeps.goals) t.inputs
    own_readings q t is =
        same_readings (goal_within lib drawn graph) keeps.goals t.inputs (λ p a n at.
        let other = keeps.there q p a n t is at in own_goal a other.0 other.1)

  -- the facts
  pub facts : (machine : Machine C K) → Keeps machine.drawn machine.graph machine.asks → HoldsTogether lib machine
  facts machine keeps = record {
    defined = λ q t is. subst (lib.defined t.kind) (sym (own_readings machine.drawn machine.graph machine.asks keeps q t is)) (keeps.defined q t is);
    served = λ k a is. elim (keeps.served k a is) [
      | inl done ↦ inl done
      | inr waits ↦ inr (waits.0, waits.1, waits.2, waits.3, waits.4, waits.5, own_goal machine.drawn machine.graph machine.asks keeps waits.1 waits.2 waits.3 ∙ waits.6)
    ];
    levels = record {
      level = keeps.level;
      few = keeps.low;
      falls = λ q a awaits. let t = input_of machine.graph q awaits.0 (Awaits a awaits.1) awaits.2 in keeps.falls q awaits.0 a awaits.1 t.0 t.1 t.2;
    };
    own = λ q a t is awaits.
        let u = input_of machine.graph q awaits.0 (Awaits a awaits.1) awaits.2 in
        let other = keeps.there q awaits.0 a awaits.1 u.0 u.1 u.2 in
        let same : u.0 ≡ t = same_some u.0 t (sym u.1 ∙ is) in
        (other.0, other.1, other.2 ∙ ap (λ v. v.caller) same);
    awaited = keeps.awaited;
    asked = record { asks = keeps.ask_for; differ = keeps.asked_one };
    runs = λ worker q a runs awaits.
        let u = input_of machine.graph q awaits.0 (Awaits a awaits.1) awaits.2 in
        let same : runs.0 ≡ u.0 = same_some runs.0 u.0 (sym runs.1 ∙ u.1) in
        keeps.runs_known q awaits.0 a awaits.1 worker u.0 u.1 (ap (λ v. v.runner) (sym same) ∙ runs.2) u.2;
    one = λ worker q r one other. keeps.runs_one q r worker one.0 other.0 one.1 other.1 one.2 other.2;
    run_defined = λ worker q t is runs.
        subst (lib.defined t.kind) (known_trees keeps.goals t.inputs (λ p a n at. keeps.runs_known q p a n worker t is runs at)) (keeps.defined q t is);
    no_tasks = λ c delivered q t is own. never_ends machine.graph machine.asks c q delivered (subst (λ k. EndsAtAsk machine.graph machine.asks k q) own (keeps.awaited q t is));
    numbered = record { tasks = keeps.numbers; asks = keeps.ask_drawn; differ = keeps.ask_one };
    stopped = λ c is. let ask = keeps.stopped c is in any_from (is_of c) machine.asks ask.0 ask.1 ask.2 (ap (λ n. nat_eq n c) ask.3 ∙ test_same c);
  }
