-- What a control state in order tells.
use Rattle.std.proofs.Common.{◌≡◌, ℕ, ◌≤◌, inl, inr, slice_get, Option, None, Some, is_some, IsSome, true, sym, ap, subst, ◌∙◌}
use Rattle.std.specs.Option.{option_map}
use Rattle.std.specs.FinMap as map
use Rattle.cht_ids.specs.declared.refs.Id.{Id}
use Rattle.cht_ids.specs.declared.refs.Ref.{Ref}
use Rattle.cht_ids.specs.declared.refs.Ref.TheVariants.{Null, Id as Held}
use Rattle.name_states.specs.declared.holder.Holder.{Holder}
use Rattle.name_states.specs.declared.holder.Holder.TheVariants.{Caller, Task}
use Rattle.name_states.specs.States.{NameState, IdRecord, id_at, record_of, IsLiveRef}
use Rattle.name_states.proofs.Basics.{none_not_some, none_or_some, some_value, same_some}
use Rattle.name_states.proofs.Within.{naming-number, number-naming}
use Rattle.task_states.specs.States.{Input, Known, Unfinished, task_at}
use Rattle.name_machine.specs.States.{Ask}
use Rattle.name_machine.specs.Control.{Control}
use Rattle.name_machine.specs.Standing.{HasNoOutput, IsRefOf, IsOrderly}
use Rattle.name_machine.proofs.Ends.{inputs_at}
use Rattle.name_machine.proofs.Tasks.{mapped_from}

module _ {C : Type 0} (names : NameState C) where
  -- what holds an identifier is in its entry
  pub held_entry : (holder : Holder) (id : Id) → IsRefOf names holder (Held id)
      → (entry : IdRecord) × (id_at names id.number ≡ Some entry) × (entry.owner ≡ id.owner) × (entry.holder ≡ holder)
  held_entry holder id is =
      let found = mapped_from (λ (e : IdRecord). e.holder) (record_of names id) holder is in
      let at = naming-number names id found.0 found.1 in
      (found.0, at.0, at.1, sym found.2)

  pub entry_held : (holder : Holder) (id : Id) (entry : IdRecord) → id_at names id.number ≡ Some entry → entry.owner ≡ id.owner → entry.holder ≡ holder
      → IsRefOf names holder (Held id)
  entry_held holder id entry at owner held = ap (option_map (λ (e : IdRecord). e.holder)) (number-naming names id entry at owner) ∙ ap Some held

  -- a reference with a holder is live
  pub ref_is_live : (holder : Holder) (r : Ref) → IsRefOf names holder r → IsLiveRef names r
  ref_is_live holder Null is = tt
  ref_is_live holder (Held id) is = ap is_some (mapped_from (λ (e : IdRecord). e.holder) (record_of names id) holder is).1

-- other names in which a reference with a holder has its entry still
pub ref_kept : {C : Type 0} (names after : NameState C) (holder : Holder) (r : Ref)
    → ((id : Id) (entry : IdRecord) → r ≡ Held id → id_at names id.number ≡ Some entry → entry.holder ≡ holder → id_at after id.number ≡ Some entry)
    → IsRefOf names holder r → IsRefOf after holder r
ref_kept names after holder Null stays is = tt
ref_kept names after holder (Held id) stays is =
    let e = held_entry names holder id is in
    entry_held after holder id e.0 (stays id e.0 (λ i. Held id) e.1 e.3) e.2 e.3

module _ {C K : Type 0} (arity : C → ℕ) (control : Control C (Unit {0}) K) (orderly : IsOrderly arity control) where
  -- a known input is held by its task
  pub input_held : (task place : ℕ) (t : Unfinished Ref K) (r : Ref) → task_at control.graph task ≡ Some t → slice_get t.inputs place ≡ Some (Known r)
      → IsRefOf control.names (Task task) r
  input_held task place t r is at = orderly.held.inputs task place r (inputs_at control.graph task place t is ∙ at)

  -- a known input is live
  pub input_is_live : (task place : ℕ) (t : Unfinished Ref K) (r : Ref) → task_at control.graph task ≡ Some t → slice_get t.inputs place ≡ Some (Known r)
      → IsLiveRef control.names r
  input_is_live task place t r is at = ref_is_live control.names (Task task) r (input_held task place t r is at)

  -- an output that was delivered is live
  pub output_is_live : (task : ℕ) (ask : Ask (Unit {0}) Ref) (r : Ref) → map.get control.asks task ≡ Some ask → ask.delivered ≡ Some r → IsLiveRef control.names r
  output_is_live task ask r is done = ref_is_live control.names (Caller ask.caller) r (orderly.held.outputs task ask r is done).0

  -- a task that holds an identifier is unfinished
  pub holder_is_there : (number task : ℕ) (entry : IdRecord) → id_at control.names number ≡ Some entry → entry.holder ≡ Task task → IsSome (task_at control.graph task)
  holder_is_there number task entry is held =
      let at = orderly.held.nothing_else number task entry is held in
      elim (none_or_some (task_at control.graph task)) [
        | inl none ↦ absurd (none_not_some (ap (λ (o : Option (Unfinished Ref K)). elim o as (λ x. Option (Input Ref)) [ None ↦ None | Some t ↦ slice_get t.inputs at.0 ]) none) at.1)
        | inr some ↦ ap is_some some.1
      ]

  -- the number of an output was drawn
  pub output_is_drawn : (task : ℕ) (ask : Ask (Unit {0}) Ref) → map.get control.asks task ≡ Some ask → ask.number ≤ control.drawn
  output_is_drawn task ask is = orderly.aside.drawn task ask is

  -- what has the number of an output is held by the caller that asked
  pub output_holder : (task number : ℕ) (ask : Ask (Unit {0}) Ref) (entry : IdRecord) → map.get control.asks task ≡ Some ask → ask.number ≡ number → is_some ask.delivered ≡ true
      → id_at control.names number ≡ Some entry → entry.holder ≡ Caller ask.caller
  output_holder task number ask entry is same done at =
      let r = some_value ask.delivered done in
      by r.0 r.1
    where
      by : (r : Ref) → ask.delivered ≡ Some r → entry.holder ≡ Caller ask.caller
      by Null delivered =
          absurd (none_not_some (orderly.aside.outputs task ask is (subst HasNoOutput (sym delivered) tt)) (ap (id_at control.names) same ∙ at))
      by (Held id) delivered =
          let was = orderly.held.outputs task ask (Held id) is delivered in
          let e = held_entry control.names (Caller ask.caller) id was.0 in
          let one : e.0 ≡ entry = same_some e.0 entry (sym e.1 ∙ ap (id_at control.names) (was.1 ∙ same) ∙ at) in
          ap (λ (x : IdRecord). x.holder) (sym one) ∙ e.3
