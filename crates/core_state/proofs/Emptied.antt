-- Where nothing is left.
use Rattle.std.proofs.Common.{◌≡◌, ℕ, Bool, true, false, ◌&&◌, nat_eq, ◌↔◌, refl, sym, ap, ◌∙◌}
use Rattle.std.specs.Ordering.{nat_cmp}
use Rattle.std.specs.FinMap as map
use Rattle.cht_ids.specs.declared.refs.Ref.{Ref}
use Rattle.name_states.specs.States.{live_ids, live_bodies}
use Rattle.name_states.proofs.Basics.{same_from_test, test_same, none_or_some}
use Rattle.std.proofs.Common.{inl, inr}
use Rattle.task_states.specs.States.{Unfinished, is_stopped}
use Rattle.task_states.proofs.Maps.{same_maps}
use Rattle.name_machine.specs.States.{has_ask}
use Rattle.name_machine.specs.Control.{Control}
use Rattle.name_machine.specs.Standing.{HasNothing}
use Rattle.core_steps.specs.Conditions.{HangsTogether}
use Rattle.core_state.proofs.Fresh.{no_ask}

both : (a b : Bool) → (a && b) ≡ true → (a ≡ true) × (b ≡ true)
both true b is = (refl, is)
both false b is = absurd (let clash : false ≡ true = is in cc)

both_true : (a b : Bool) → a ≡ true → b ≡ true → (a && b) ≡ true
both_true a b p q = ap (λ x. x && b) p ∙ q

module _ {C K : Type 0} (control : Control C (Unit {0}) K) (together : HangsTogether control) where
  nobody_asks : map.len control.asks ≡ 0 → (caller : ℕ) → has_ask control.asks caller ≡ false
  nobody_asks none caller = no_ask control.asks (map.empty_of_len control.asks none) caller

  no_tasks_left : map.len control.asks ≡ 0 → map.len control.graph.tasks ≡ 0
  no_tasks_left none =
      ap map.len (same_maps control.graph.tasks map.empty (λ q. elim (none_or_some (map.get control.graph.tasks q)) [
        | inl is ↦ is ∙ sym (map.get-empty nat_cmp q)
        | inr found ↦ absurd (let clash : false ≡ true = sym (nobody_asks none found.0.caller) ∙ together.tasks_asked q found.0 found.1 in cc)
      ]))
      ∙ map.len-empty nat_cmp (Unfinished Ref K)

  nobody_stopped : map.len control.asks ≡ 0 → (caller : ℕ) → is_stopped control.graph caller ≡ false
  nobody_stopped none caller =
      elim (is_stopped control.graph caller) as (λ b. is_stopped control.graph caller ≡ b → b ≡ false) [
        | true ↦ λ is. absurd (let clash : false ≡ true = sym (nobody_asks none caller) ∙ together.stopped_asked caller is in cc)
        | false ↦ λ is. refl
      ] refl

  -- nothing is left exactly where no identifier is live, and nothing is asked
  pub empty_is : (ids : ℕ) (asked : Bool) → ids ≡ live_ids control.names → asked ≡ nat_eq (map.len control.asks) 0
      → (live_ids control.names ≡ 0 → live_bodies control.names ≡ 0) → ((nat_eq ids 0 && asked) ≡ true) ↔ HasNothing control
  empty_is ids asked ids_is asked_is bodies = (
    (λ is.
        let tests = both _ _ is in
        let no_ids : live_ids control.names ≡ 0 = sym ids_is ∙ same_from_test ids 0 tests.0 in
        let no_asks : map.len control.asks ≡ 0 = same_from_test (map.len control.asks) 0 (sym asked_is ∙ tests.1) in
        (no_ids, bodies no_ids, no_asks, no_tasks_left no_asks, nobody_stopped no_asks)),
    (λ nothing. both_true _ _ (ap (λ n. nat_eq n 0) (ids_is ∙ nothing.0) ∙ test_same 0) (asked_is ∙ ap (λ n. nat_eq n 0) nothing.2 ∙ test_same 0)),
  )
