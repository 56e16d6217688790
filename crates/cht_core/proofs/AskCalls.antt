-- What a stop and a collect answer.
use Rattle.std.proofs.Common.{◌≡◌, ℕ, Bool, true, false, List, [], Option, None, Some, IsSome, refl, sym, ap, subst, ◌∙◌}
use Rattle.std.specs.Option.{option_map, is_some}
use Rattle.std.specs.FinMap as map
use Rattle.cht_ids.specs.declared.refs.Ref.{Ref}
use Rattle.task_types.specs.Tree.{Tree}
use Rattle.task_types.specs.Meanings.{Meanings}
use Rattle.task_types.specs.Sound.{AddsUp}
use Rattle.name_states.specs.Trees.{tree_of}
use Rattle.task_states.specs.States.{is_stopped}
use Rattle.cht_history.specs.declared.event.Event.TheVariants.{Stop}
use Rattle.name_machine.specs.States.{Ask, has_ask}
use Rattle.name_machine.specs.Control.{Control}
use Rattle.name_machine.specs.Facts.{HoldsTogether}
use Rattle.name_machine.specs.Standing.{machine_of}
use Rattle.name_machine.proofs.Stand.{ask_shown_has}
use Rattle.core_steps.specs.Conditions.{IsDelivered}
use Rattle.core_state.specs.Contents.{Contents, after_event}
use Rattle.cht_core.specs.Events.{state}
use Rattle.cht_core.specs.Answers.{HasAsked, IsNotDelivered, IsStopped}
use Rattle.cht_core.proofs.Calls.{IsCore, stop_made}
use Rattle.cht_core.proofs.Together.{ask_from, has_ask_from}

pub true_not_false : {b : Bool} → b ≡ true → b ≡ false → ⊥
true_not_false really never = let clash : true ≡ false = sym really ∙ never in cc

module _ {C K : Type 0} (lib : Meanings C K) (control : Control C (Unit {0}) K) (facts : HoldsTogether lib (machine_of lib control)) where
  -- what a caller asked is an ask of the control state
  asked_in : (caller task : ℕ) → HasAsked (machine_of lib control) caller task
      → (a : Ask (Unit {0}) Ref) × (map.get control.asks task ≡ Some a) × (a.caller ≡ caller)
  asked_in caller task asked =
      let from = ask_from lib control facts task asked.ask asked.there in
      (from.0, from.1, ap (λ (a : Ask (Tree C) (Tree C)). a.caller) (sym from.2) ∙ asked.own)

  pub asked_there : (caller task : ℕ) → HasAsked (machine_of lib control) caller task → IsSome (map.get control.asks task)
  asked_there caller task asked = ap is_some (asked_in caller task asked).1

  pub asked_delivered : (caller task : ℕ) (result : Option Ref) (r : Ref) → HasAsked (machine_of lib control) caller task
      → ((a : Ask (Unit {0}) Ref) → map.get control.asks task ≡ Some a → result ≡ a.delivered) → result ≡ Some r → IsDelivered control caller task
  asked_delivered caller task result r asked told is =
      let a = asked_in caller task asked in
      record { ask = a.0; there = a.1; own = a.2; delivered = ap is_some (sym (told a.0 a.1) ∙ is) }

  pub not_delivered : (task : ℕ) (result : Option Ref) → ((a : Ask (Unit {0}) Ref) → map.get control.asks task ≡ Some a → result ≡ a.delivered) → result ≡ None
      → IsNotDelivered (machine_of lib control) task
  not_delivered task result told is =
      λ ask there.
      (let from = ask_from lib control facts task ask there in
      ap (λ (a : Ask (Tree C) (Tree C)). a.delivered) from.2 ∙ ap (option_map (tree_of control.names)) (sym (told from.0 from.1) ∙ is))

module _ {C K : Type 0} (lib : Meanings C K) (arity : C → ℕ) (name : K → List ℕ) (height : K → ℕ) (adds_up : AddsUp arity lib)
    (before now after : Contents C K) (view : before ≡ now) (stands : IsCore lib arity name height adds_up before) where
  pub stop_answer : (c : ℕ) → has_ask before.control.asks c ≡ true → is_stopped before.control.graph c ≡ false → after ≡ after_event before [] (Stop c)
      → IsStopped lib arity now after c
  stop_answer c asked goes_on after_is = record {
    stops = λ has going. (stop_made lib arity name height adds_up before now after view stands c asked goes_on after_is).happens;
    nothing_asked = λ none.
        absurd (true_not_false (subst (λ (core : Contents C K). has_ask (state lib core).asks c ≡ true) view (ask_shown_has lib before.control c asked)) none);
    stopped_already = λ already. absurd (true_not_false already (subst (λ (core : Contents C K). is_stopped (state lib core).graph c ≡ false) view goes_on));
  }

  pub stop_none : (c : ℕ) → has_ask before.control.asks c ≡ false → IsStopped lib arity now now c
  stop_none c none = record {
    stops = λ has going.
        absurd (true_not_false (has_ask_from lib before.control stands.facts c (subst (λ (core : Contents C K). has_ask (state lib core).asks c ≡ true) (sym view) has)) none);
    nothing_asked = λ nothing. refl;
    stopped_already = λ already. refl;
  }
