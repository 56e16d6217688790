-- The empty state, both ways.
use Rattle.std.proofs.Common.{◌≡◌, ℕ, Bool, true, false, cond, nat_cmp, Option, None, Some, refl, sym, ap, ◌∙◌}
use Rattle.std.specs.List.{list_any}
use Rattle.std.specs.FinMap as map
use Rattle.task_types.specs.Meanings.{Meanings}
use Rattle.name_states.specs.declared.holder.Holder.{Holder}
use Rattle.name_states.specs.declared.holder.Holder.TheVariants.{Caller, Task, Body}
use Rattle.name_states.specs.States.{IdRecord, id_at, no_names, live_ids, live_bodies}
use Rattle.name_states.specs.Steps.{IsOutside}
use Rattle.name_states.proofs.Basics.{none_not_some, some_value}
use Rattle.name_states.proofs.Sound.{nothing-left}
use Rattle.task_states.specs.States.{task_at}
use Rattle.task_states.proofs.Maps.{same_maps}
use Rattle.name_machine.specs.Control.{Control, is_uncollected}
use Rattle.name_machine.specs.Standing.{task_shown, graph_shown, held_shown, is_output, holding_shown, ask_shown, machine_of, IsOrderly, HasNothing, HoldsNothing}
use Rattle.name_machine.specs.Laws.{EmptyBothWays}
use Rattle.name_machine.proofs.Values.{any_to}
use Rattle.name_machine.proofs.Orderly.{holder_is_there}
use Rattle.name_machine.proofs.Works.{chosen_from, chosen_to}

module _ {X : Type 0} where
  -- a map of no length holds nothing, and the other way round
  pub none_in : (m : map.FinMap nat_cmp X) → map.len m ≡ 0 → (k : ℕ) (x : X) → map.get m k ≡ Some x → ⊥
  none_in m is k x at = none_not_some (ap (λ n. map.get n k) (map.empty_of_len m is) ∙ map.get-empty nat_cmp k) at

  pub no_len : (m : map.FinMap nat_cmp X) → ((k : ℕ) (x : X) → map.get m k ≡ Some x → ⊥) → map.len m ≡ 0
  no_len m none =
      ap map.len (same_maps m map.empty (λ k. nothing (map.get m k) (λ x at. none k x at) ∙ sym (map.get-empty nat_cmp k))) ∙ map.len-empty nat_cmp X
    where
      nothing : (o : Option X) → ((x : X) → o ≡ Some x → ⊥) → o ≡ None
      nothing None never = refl
      nothing (Some x) never = absurd (never x refl)

module _ {C K : Type 0} (lib : Meanings C K) (arity : C → ℕ) (control : Control C (Unit {0}) K) (orderly : IsOrderly arity control) where
  pub to_nothing : HasNothing control → HoldsNothing (machine_of lib control)
  to_nothing has = (
    no_len (machine_of lib control).holdings (λ k h is. let found = chosen_from (held_shown control.asks control.names) control.names.ids k h is in none_in control.names.ids has.0 k found.0 found.1),
    no_len (machine_of lib control).asks (λ k a is.
        let found = chosen_from (λ task ask. Some (ask_shown lib control.drawn control.names (graph_shown control.names control.graph) ask)) control.asks k a is in none_in control.asks has.2 k found.0 found.1),
    no_len (machine_of lib control).graph.tasks (λ k t is.
        let found = chosen_from (λ number task. Some (task_shown control.names task)) control.graph.tasks k t is in none_in control.graph.tasks has.3 k found.0 found.1),
    has.4,
  )

  no_asks : HoldsNothing (machine_of lib control) → map.len control.asks ≡ 0
  no_asks has =
      no_len control.asks (λ k a is.
      let shown = ask_shown lib control.drawn control.names (graph_shown control.names control.graph) a in
      none_in (machine_of lib control).asks has.1 k shown (chosen_to (λ task ask. Some (ask_shown lib control.drawn control.names (graph_shown control.names control.graph) ask)) control.asks k a shown is refl))

  no_tasks_left : HoldsNothing (machine_of lib control) → map.len control.graph.tasks ≡ 0
  no_tasks_left has =
      no_len control.graph.tasks (λ k t is.
      none_in (machine_of lib control).graph.tasks has.2 k (task_shown control.names t) (chosen_to (λ number task. Some (task_shown control.names task)) control.graph.tasks k t (task_shown control.names t) is refl))

  none_outside : HoldsNothing (machine_of lib control) → (number : ℕ) (entry : IdRecord) → id_at control.names number ≡ Some entry → (holder : Holder) → entry.holder ≡ holder → IsOutside holder → ⊥
  none_outside has number entry is (Caller caller) held outside =
      let fresh : list_any (is_uncollected caller number) (map.values control.asks) ≡ false =
      false_if (list_any (is_uncollected caller number) (map.values control.asks)) (λ any. let one = any_to (is_uncollected caller number) control.asks any in none_in control.asks (no_asks has) one.0 one.1 one.2) in
      let shown = (λ i. cond (is_output control.asks number (held i)) None (holding_shown control.names entry (held i)))
      ∙ ap (λ b. cond b None (holding_shown control.names entry (Caller caller))) fresh in
      none_in (machine_of lib control).holdings has.0 number _ (chosen_to (held_shown control.asks control.names) control.names.ids number entry _ is shown)
    where
      false_if : (b : Bool) → (b ≡ true → ⊥) → b ≡ false
      false_if true never = absurd (never refl)
      false_if false never = refl
  none_outside has number entry is (Task task) held outside =
      let there = some_value (task_at control.graph task) (holder_is_there arity control orderly number task entry is held) in
      none_in control.graph.tasks (no_tasks_left has) task there.0 there.1
  none_outside has number entry is (Body body) held outside = outside

  pub from_nothing : HoldsNothing (machine_of lib control) → HasNothing control
  from_nothing has =
      let names_are : control.names ≡ no_names = nothing-left arity control.names orderly.sound orderly.reached (λ number entry is outside. none_outside has number entry is entry.holder refl outside) in
      (ap live_ids names_are ∙ map.len-empty nat_cmp IdRecord, ap live_bodies names_are ∙ map.len-empty nat_cmp _, no_asks has, no_tasks_left has, has.3)

pub empty_both_ways : {C K : Type 0} (lib : Meanings C K) (arity : C → ℕ) → EmptyBothWays lib arity
empty_both_ways lib arity control orderly = (to_nothing lib arity control orderly, from_nothing lib arity control orderly)
