-- What is not there: nobody but the caller has anything, and at rest the caller has nothing but its identifiers.
use Rattle.std.proofs.Common.{◌≡◌, ℕ, true, false, nat_cmp, Option, Some, inl, inr, refl, sym, ap, ◌∙◌}
use Rattle.std.specs.FinMap as map
use Rattle.task_types.specs.Tree.{Tree}
use Rattle.task_types.specs.Meanings.{Meanings}
use Rattle.task_states.specs.Maps.{chosen}
use Rattle.task_states.specs.States.{Unfinished, Graph, task_at, is_stopped}
use Rattle.name_states.proofs.Basics.{none_not_some, none_or_some, same_or_not}
use Rattle.name_machine.specs.States.{Ask, Holding, is_of}
use Rattle.name_machine.specs.Goals.{goal_of}
use Rattle.name_machine.specs.Facts.{HoldsTogether, EndsAtAsk, Asked, Awaited}
use Rattle.name_machine.specs.Parts.{named_for, goal_for, works_of}
use Rattle.name_machine.proofs.Totals.{total_none}
use Rattle.name_machine.proofs.Values.{any_to}
use Rattle.name_machine.proofs.Works.{chosen_to, lets_through, work_from}
use Rattle.core_state.specs.Contents.{Contents}
use Rattle.cht_core.specs.Events.{state}
use Rattle.cht_plain.specs.Alone.{seen_of, left, IsAlone, IsAtRest}

-- a map of which a choice makes nothing has no value of which it makes something
none_chosen : {X Y : Type 0} (choice : ℕ → X → Option Y) (m : map.FinMap nat_cmp X) (k : ℕ) (x : X) (y : Y) → chosen choice m ≡ map.empty
    → map.get m k ≡ Some x → choice k x ≡ Some y → ⊥
none_chosen choice m k x y empty is makes =
    none_not_some (ap (λ n. map.get n k) empty ∙ map.get-empty nat_cmp k) (chosen_to choice m k x y is makes)

-- the ask at the end of a way
ask_of : {X Y G K : Type 0} (graph : Graph X K) (asks : map.FinMap nat_cmp (Ask G Y)) (c q : ℕ) → EndsAtAsk graph asks c q
    → (key : ℕ) × (a : Ask G Y) × (map.get asks key ≡ Some a) × (a.caller ≡ c)
ask_of graph asks c q (Asked task number key t ask at own asked found theirs same none) = (key, ask, found, theirs)
ask_of graph asks c q (Awaited task by t at own awaits rest) = ask_of graph asks c by rest

module _ {C K : Type 0} (lib : Meanings C K) (core : Contents C K) where
  -- all that is asked is the caller's
  pub asked_by : IsAlone lib core → (key : ℕ) (a : Ask (Tree C) (Tree C)) → map.get (state lib core).asks key ≡ Some a → a.caller ≡ 0
  asked_by alone key a is =
      elim (same_or_not a.caller 0) [
        | inl same ↦ same
        | inr apart ↦
            absurd (none_chosen (goal_for a.caller) (state lib core).asks key a a.goal (alone.others a.caller apart).1 is
            (lets_through a.caller a.caller a.goal refl))
      ]

  -- all that is held is the caller's
  held_by : IsAlone lib core → (key : ℕ) (h : Holding C) → map.get (state lib core).holdings key ≡ Some h → h.caller ≡ 0
  held_by alone key h is =
      elim (same_or_not h.caller 0) [
        | inl same ↦ same
        | inr apart ↦
            absurd (none_chosen (named_for h.caller) (state lib core).holdings key h (record { owner = h.owner; tree = h.tree }) (alone.others h.caller apart).0 is
            (lets_through h.caller h.caller (record { owner = h.owner; tree = h.tree }) refl))
      ]

  -- all tasks are the caller's
  pub task_by : IsAlone lib core → HoldsTogether lib (state lib core) → (q : ℕ) (t : Unfinished (Tree C) K) → task_at (state lib core).graph q ≡ Some t → t.caller ≡ 0
  task_by alone facts q t is =
      let ask = ask_of (state lib core).graph (state lib core).asks t.caller q (facts.awaited q t is) in
      sym ask.3 ∙ asked_by alone ask.0 ask.1 ask.2

  -- where the caller holds nothing, nothing is held
  pub none_held : IsAlone lib core → (seen_of lib core).names ≡ map.empty → (key : ℕ) (h : Holding C) → map.get (state lib core).holdings key ≡ Some h → ⊥
  none_held alone empty key h is =
      none_chosen (named_for 0) (state lib core).holdings key h (record { owner = h.owner; tree = h.tree }) empty is
      (lets_through h.caller 0 (record { owner = h.owner; tree = h.tree }) (held_by alone key h is))

  -- at rest nothing is asked, no task is unfinished, nobody is stopped, and there is nothing to do
  pub none_asked : IsAtRest lib core → (key : ℕ) (a : Ask (Tree C) (Tree C)) → map.get (state lib core).asks key ≡ Some a → ⊥
  none_asked rest key a is =
      none_chosen (goal_for 0) (state lib core).asks key a a.goal rest.asks is (lets_through a.caller 0 a.goal (asked_by rest.alone key a is))

  pub none_unfinished : IsAtRest lib core → HoldsTogether lib (state lib core) → (q : ℕ) (t : Unfinished (Tree C) K) → task_at (state lib core).graph q ≡ Some t → ⊥
  none_unfinished rest facts q t is =
      let ask = ask_of (state lib core).graph (state lib core).asks t.caller q (facts.awaited q t is) in
      none_asked rest ask.0 ask.1 ask.2

  pub none_stopped : IsAtRest lib core → HoldsTogether lib (state lib core) → (caller : ℕ) → is_stopped (state lib core).graph caller ≡ false
  none_stopped rest facts caller =
      elim (is_stopped (state lib core).graph caller) as (λ b. is_stopped (state lib core).graph caller ≡ b → b ≡ false) [
        | true ↦ λ is. absurd (let ask = any_to (is_of caller) (state lib core).asks (facts.stopped caller is) in none_asked rest ask.0 ask.1 ask.2)
        | false ↦ λ is. refl
      ] refl

  pub none_left : IsAtRest lib core → HoldsTogether lib (state lib core) → left lib core ≡ 0
  none_left rest facts =
      total_none (works_of lib (state lib core) 0) (λ q. elim (none_or_some (map.get (works_of lib (state lib core) 0) q)) [
        | inl none ↦ none
        | inr some ↦ absurd (let found = work_from lib (goal_of lib (state lib core)) (state lib core).graph 0 q some.0 some.1 in none_unfinished rest facts q found.0 found.1)
      ])
