-- What may be live after a call: what was, and the new identifier. And who holds a child.
use Rattle.std.proofs.Common.{◌≡◌, ℕ, ◌+◌, inl, inr, List, Option, Some, None, is_some, refl, sym, ap, subst, ◌∙◌}
use Rattle.std.specs.Prelude.{slice_get}
use Rattle.std.specs.Option.{option_map}
use Rattle.cht_ids.specs.declared.refs.Id.{Id}
use Rattle.cht_ids.specs.declared.refs.Ref.{Ref}
use Rattle.cht_ids.specs.declared.refs.Ref.TheVariants.{Null, Id as Held}
use Rattle.name_states.specs.declared.holder.Holder.{Holder}
use Rattle.name_states.specs.declared.holder.Holder.TheVariants.{Body}
use Rattle.name_states.specs.States.{NameState, IdRecord, BodyRecord, id_at, record_of, body_record_of, holder_of, IsLive, IsLiveRef, AreLive}
use Rattle.name_states.specs.Steps.{registered, copied, IsOutside}
use Rattle.name_states.specs.Rules.{IsSound, AreWithin}
use Rattle.chunk_refs.specs.Others.{IsOnlyNew, IsHeldByBodyOf}
use Rattle.name_states.proofs.Basics.{same_some, none_not_some}
use Rattle.name_states.proofs.Copies.{copied-from}
use Rattle.name_states.proofs.Sound.{naming-from}
use Rattle.name_states.proofs.Within.{live-number, naming-number, number-naming}
use Rattle.chunk_refs.proofs.Calls.{behind-body}

-- what a value was made from
behind-map : {X Y : Type 0} (f : X → Y) (found : Option X) (y : Y) → option_map f found ≡ Some y → (x : X) × (found ≡ Some x) × (f x ≡ y)
behind-map f None y is = absurd (none_not_some refl is)
behind-map f (Some x) y is = (x, refl, same_some (f x) y is)

module _ {C : Type 0} where
  held-was : (names : NameState C) (id : Id) (entry : IdRecord) (holder : Holder) → id_at names id.number ≡ Some entry → entry.owner ≡ id.owner → entry.holder ≡ holder → holder_of names id ≡ Some holder
  held-was names id entry holder is owner held =
      ap (option_map (λ (e : IdRecord). e.holder)) (number-naming names id entry is owner) ∙ ap Some held

  -- after a registration
  pub register-only-new : (names : NameState C) (drawn : ℕ) (holder : Holder) (worker : ℕ) (content : C) (refs : List Ref) → AreWithin names drawn → AreLive names refs
      → IsOnlyNew names (registered names drawn holder worker content refs) (record { owner = worker; number = drawn + 2 })
  register-only-new names drawn holder worker content refs within live id held is outside =
      let after = registered names drawn holder worker content refs in
      let found = behind-map (λ (e : IdRecord). e.holder) (record_of after id) held is in
      let known = naming-number after id found.0 found.1 in
      elim (naming-from names drawn holder worker content refs within live id.number found.0 known.0) [
        | inl was ↦ inr (held-was names id found.0 held was known.1 found.2)
        | inr new ↦ elim new [
          | inl first ↦
              let owner : id.owner ≡ worker = sym known.1 ∙ ap (λ (e : IdRecord). e.owner) first.1 in
              inl (λ i. record { owner = owner i; number = first.0 i })
          | inr copy ↦ absurd (subst IsOutside (sym found.2 ∙ ap (λ (e : IdRecord). e.holder) copy.4) outside)
        ]
      ]

  -- after a copy
  pub copy-only-new : (names : NameState C) (id : Id) (number : ℕ) (holder : Holder) → IsLive names id
      → IsOnlyNew names (copied names id.number number holder) (record { owner = id.owner; number = number })
  copy-only-new names from number holder live id held is outside =
      let after = copied names from.number number holder in
      let found = behind-map (λ (e : IdRecord). e.holder) (record_of after id) held is in
      let known = naming-number after id found.0 found.1 in
      let source = live-number names from live in
      elim (copied-from names number holder (id_at names from.number) id.number found.0 known.0) [
        | inl was ↦ inr (held-was names id found.0 held was known.1 found.2)
        | inr new ↦
            let same : new.0 ≡ source.0 = same_some new.0 source.0 (sym new.1 ∙ source.1) in
            let owner : id.owner ≡ from.owner = sym known.1 ∙ ap (λ (e : IdRecord). e.owner) new.2 ∙ ap (λ (e : IdRecord). e.owner) same ∙ source.2 in
            inl (λ i. record { owner = owner i; number = new.3 i })
      ]

  -- a child of a body is live, and the body holds it
  pub child-held : (arity : C → ℕ) (names : NameState C) (id : Id) (body : BodyRecord C) (j : ℕ) (r : Ref) → IsSound arity names → body_record_of names id ≡ Some body → slice_get body.children j ≡ Some r
      → IsLiveRef names r × IsHeldByBodyOf names id r
  child-held arity names id body j Null sound is at = (tt, tt)
  child-held arity names id body j (Held child) sound is at =
      let entry = behind-body names (record_of names id) body is in
      let by = sound.children entry.0.body body j child entry.1 at in
      let named = number-naming names child by.0 by.1 by.2 in (
        ap is_some named,
        ap (option_map (λ (e : IdRecord). e.holder)) named
            ∙ ap Some by.3
            ∙ sym (ap (λ found. option_map Body (option_map (λ (e : IdRecord). e.body) found)) entry.2),
      )
