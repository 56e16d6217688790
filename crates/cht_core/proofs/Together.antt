-- What holds of the state that a core stands for holds of its control state, as far as it does not hang on trees.
use Rattle.std.proofs.Common.{◌≡◌, ℕ, zero, suc, inl, inr, true, nat_eq, List, [], ◌∷◌, map as each, slice_get, Option, None, Some, refl, sym, ap, ◌∙◌}
use Rattle.std.specs.Option.{option_map}
use Rattle.std.specs.Ordering.{nat_cmp}
use Rattle.std.specs.FinMap as map
use Rattle.cht_ids.specs.declared.refs.Ref.{Ref}
use Rattle.task_types.specs.Tree.{Tree}
use Rattle.task_types.specs.Meanings.{Meanings}
use Rattle.name_states.proofs.Basics.{none_or_some, none_not_some, same_some, test_same}
use Rattle.task_states.specs.States.{Input, Awaits, Unfinished, Graph, task_at}
use Rattle.name_machine.specs.States.{Ask, is_of, has_ask}
use Rattle.name_machine.specs.Control.{Control}
use Rattle.name_machine.specs.Facts.{AwaitsTask, EndsAtAsk, Asked, Awaited, HoldsTogether}
use Rattle.name_machine.specs.Standing.{input_shown, task_shown, graph_shown, ask_shown, machine_of}
use Rattle.name_machine.proofs.Ends.{inputs_at}
use Rattle.name_machine.proofs.Stand.{shown_at}
use Rattle.name_machine.proofs.Tasks.{mapped_from}
use Rattle.name_machine.proofs.Values.{any_to, any_from}
use Rattle.name_machine.proofs.Works.{chosen_from, chosen_to}
use Rattle.name_states.specs.Trees.{tree_of}
use Rattle.core_steps.specs.Conditions.{HangsTogether}

-- what awaits stays so when it is shown
awaits_shown : {C : Type 0} (g : Input Ref → Input (Tree C)) → ((a n : ℕ) → g (Awaits a n) ≡ Awaits a n) → (inputs : List (Input Ref)) (place a n : ℕ)
    → slice_get inputs place ≡ Some (Awaits a n) → slice_get (each g inputs) place ≡ Some (Awaits a n)
awaits_shown g same [] place a n at = absurd (none_not_some refl at)
awaits_shown g same (i ∷ inputs) zero a n at = ap (λ o. option_map g o) at ∙ ap Some (same a n)
awaits_shown g same (i ∷ inputs) (suc place) a n at = awaits_shown g same inputs place a n at

-- a caller of an unfinished task has an ask, where going on from the task ends at one
pub ends_asked : {X Y G K : Type 0} (g : Graph X K) (asks : map.FinMap nat_cmp (Ask G Y)) (c q : ℕ) → EndsAtAsk g asks c q → has_ask asks c ≡ true
ends_asked g asks c q (Asked task number key t ask at own asked found theirs same none) =
    any_from (is_of c) asks key ask found (ap (λ n. nat_eq n c) theirs ∙ test_same c)
ends_asked g asks c q (Awaited task by t at own awaits rest) = ends_asked g asks c by rest

module _ {C K : Type 0} (lib : Meanings C K) (control : Control C (Unit {0}) K) (facts : HoldsTogether lib (machine_of lib control)) where
  abbrev graph : Graph (Tree C) K
  graph = graph_shown control.names control.graph

  there_shown : (task : ℕ) (t : Unfinished Ref K) → task_at control.graph task ≡ Some t → task_at graph task ≡ Some (task_shown control.names t)
  there_shown task t is = shown_at control.names control.graph task ∙ ap (option_map (task_shown control.names)) is

  there_from : (task : ℕ) (t : Unfinished (Tree C) K) → task_at graph task ≡ Some t
      → (u : Unfinished Ref K) × (task_at control.graph task ≡ Some u) × (t ≡ task_shown control.names u)
  there_from task t is = mapped_from (task_shown control.names) (task_at control.graph task) t (sym (shown_at control.names control.graph task) ∙ is)

  shown_ask : (key : ℕ) (ask : Ask (Unit {0}) Ref) → map.get control.asks key ≡ Some ask
      → map.get (machine_of lib control).asks key ≡ Some (ask_shown lib control.drawn control.names graph ask)
  shown_ask key ask is = chosen_to (λ task ask. Some (ask_shown lib control.drawn control.names graph ask)) control.asks key ask _ is refl

  pub ask_from : (key : ℕ) (ask : Ask (Tree C) (Tree C)) → map.get (machine_of lib control).asks key ≡ Some ask
      → (a : Ask (Unit {0}) Ref) × (map.get control.asks key ≡ Some a) × (ask ≡ ask_shown lib control.drawn control.names graph a)
  ask_from key ask is =
      let from = chosen_from (λ task ask. Some (ask_shown lib control.drawn control.names graph ask)) control.asks key ask is in
      (from.0, from.1, sym (same_some _ ask from.2))

  awaits_of : (task awaited : ℕ) → AwaitsTask control.graph task awaited → AwaitsTask graph task awaited
  awaits_of task awaited awaits =
      let place : ℕ = awaits.0 in
      let number : ℕ = awaits.1 in
      elim (none_or_some (task_at control.graph task)) [
        | inl none ↦ absurd (none_not_some (ap (λ (o : Option (Unfinished Ref K)). elim o as (λ x. Option (Input Ref)) [ None ↦ None | Some t ↦ slice_get t.inputs place ]) none) awaits.2)
        | inr some ↦ (
          place,
          number,
          inputs_at graph task place (task_shown control.names some.0) (there_shown task some.0 some.1)
              ∙ awaits_shown (input_shown control.names) (λ a n. refl) some.0.inputs place awaited number (sym (inputs_at control.graph task place some.0 some.1) ∙ awaits.2),
        )
      ]

  pub has_ask_from : (caller : ℕ) → has_ask (machine_of lib control).asks caller ≡ true → has_ask control.asks caller ≡ true
  has_ask_from caller is =
      let one = any_to (is_of caller) (machine_of lib control).asks is in
      let from = ask_from one.0 one.1 one.2 in
      any_from (is_of caller) control.asks one.0 from.0 from.1
      (ap (λ (a : Ask (Tree C) (Tree C)). nat_eq a.caller caller) (sym from.2) ∙ one.3)

  none_from : {X Y : Type 0} (f : X → Y) (o : Option X) → option_map f o ≡ None → o ≡ None
  none_from f None is = refl
  none_from f (Some x) is = absurd (none_not_some is refl)

  pub hangs_together : HangsTogether control
  hangs_together = record {
    tasks_drawn = λ number task is. facts.numbered.tasks number (task_shown control.names task) (there_shown number task is);
    asks_drawn = λ key ask is. (facts.numbered.asks key (ask_shown lib control.drawn control.names graph ask) (shown_ask key ask is)).0;
    outputs_differ = λ key other one two first second same.
        facts.numbered.differ key other (ask_shown lib control.drawn control.names graph one) (ask_shown lib control.drawn control.names graph two) (shown_ask key one first) (shown_ask other two second) same;
    asked = λ task number t is asked.
        (let r = facts.asked.asks task number (task_shown control.names t) (there_shown task t is) asked in
        let from = ask_from r.0 r.1 r.2 in (
          r.0,
          from.0,
          from.1,
          ap (λ (a : Ask (Tree C) (Tree C)). a.caller) (sym from.2) ∙ r.3,
          ap (λ (a : Ask (Tree C) (Tree C)). a.number) (sym from.2) ∙ r.4,
          none_from (tree_of control.names) from.0.delivered (ap (λ (a : Ask (Tree C) (Tree C)). a.delivered) (sym from.2) ∙ r.5),
        ));
    asked_differ = λ task other number one two first second a b.
        facts.asked.differ task other number (task_shown control.names one) (task_shown control.names two) (there_shown task one first) (there_shown other two second) a b;
    own = λ task awaited t is awaits.
        (let r = facts.own task awaited (task_shown control.names t) (there_shown task t is) (awaits_of task awaited awaits) in
        let from = there_from awaited r.0 r.1 in
        (from.0, from.1, ap (λ (u : Unfinished (Tree C) K). u.caller) (sym from.2) ∙ r.2));
    runs = λ worker task awaited t is runner awaits.
        facts.runs worker task awaited (task_shown control.names t, there_shown task t is, runner) (awaits_of task awaited awaits);
    tasks_asked = λ number task is.
        has_ask_from task.caller (ends_asked graph (machine_of lib control).asks task.caller number (facts.awaited number (task_shown control.names task) (there_shown number task is)));
    stopped_asked = λ caller is. has_ask_from caller (facts.stopped caller is);
  }
