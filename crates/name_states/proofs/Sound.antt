-- The rules hold after each call.
use Rattle.std.proofs.Common.{◌≡◌, ℕ, zero, suc, ◌+◌, ◌⊎◌, inl, inr, List, [], ◌∷◌, length, Option, Some, None, is_some, refl, sym, ap, subst, ◌∙◌, arith}
use Rattle.std.specs.Prelude.{slice_get}
use Rattle.std.specs.Ordering.{nat_cmp}
use Rattle.std.specs.Cmp.{nat_cmp_total}
use Rattle.std.specs.FinMap as map
use Rattle.cht_ids.specs.declared.refs.Id.{Id}
use Rattle.cht_ids.specs.declared.refs.Ref.{Ref}
use Rattle.cht_ids.specs.declared.refs.Ref.TheVariants.{Null, Id as Held}
use Rattle.name_states.specs.declared.holder.Holder.{Holder}
use Rattle.name_states.specs.declared.holder.Holder.TheVariants.{Body}
use Rattle.name_states.specs.States.{NameState, IdRecord, BodyRecord, id_at, body_at, AreLive, no_names}
use Rattle.name_states.specs.Steps.{with_id, with_copy, copied, registered, numbered, present, without_id, IsOutside}
use Rattle.name_states.specs.Reached.{IsReached, Outside, Inside}
use Rattle.name_states.specs.Rules.{IsSound, AreWithin, AreReached, LeadsToBody}
use Rattle.name_states.proofs.Basics.{same_some, none_not_some, same_options, inserted_from, inserted_here, inserted_other, removed_from, removed_other}
use Rattle.name_states.proofs.Copies.{AreCopies, IsCopyAmong, linked-keeps, linked-copies, linked-from, linked-within, bodies-linked, length-numbered}
use Rattle.name_states.proofs.Within.{with_both, within-both, kept-both, AreMore, naming-kept}

not-outside : (holder : Holder) (body : ℕ) → IsOutside holder → holder ≡ Body body → ⊥
not-outside holder body outside held = subst IsOutside held outside

same_id : (one other : Id) → ◌≡◌ {A = Option Ref} (Some (Held one)) (Some (Held other)) → one ≡ other
same_id one other same = let heads : Held one ≡ Held other = same_some (Held one) (Held other) same in cc

same_body : (a b : ℕ) → Body a ≡ Body b → a ≡ b
same_body a b same = cc

module _ {C : Type 0} where
  -- a copy under its place among the children
  copy-at : (before after : NameState C) (holder : Holder) (refs own : List Ref) → AreCopies before after holder refs own → (j : ℕ) (id : Id) → slice_get own j ≡ Some (Held id)
      → (naming : IdRecord) × (from : ℕ) × (id_at before from ≡ Some naming) × (naming.owner ≡ id.owner) × (id_at after id.number ≡ Some (record naming { holder = holder }))
  copy-at before after holder [] [] copies j id at = absurd (none_not_some refl at)
  copy-at before after holder [] (r ∷ own) copies j id at = absurd copies
  copy-at before after holder (Null ∷ refs) [] copies j id at = absurd copies
  copy-at before after holder (Null ∷ refs) (Null ∷ own) copies zero id at = absurd (let clash : Some Null ≡ Some (Held id) = at in cc)
  copy-at before after holder (Null ∷ refs) (Null ∷ own) copies (suc j) id at = copy-at before after holder refs own copies j id at
  copy-at before after holder (Null ∷ refs) (Held other ∷ own) copies j id at = absurd copies
  copy-at before after holder (Held child ∷ refs) [] copies j id at = absurd copies
  copy-at before after holder (Held child ∷ refs) (Null ∷ own) copies j id at = absurd copies
  copy-at before after holder (Held child ∷ refs) (Held other ∷ own) copies zero id at =
      let c = copies.0 in
      let same : other ≡ id = same_id other id at in
      (c.0, child.number, c.1, c.2 ∙ sym c.3 ∙ ap (λ (i : Id). i.owner) same, ap (λ (i : Id). id_at after i.number) (sym same) ∙ c.4)
  copy-at before after holder (Held child ∷ refs) (Held other ∷ own) copies (suc j) id at = copy-at before after holder refs own copies.1 j id at

  -- a naming leads to a body that is kept
  leads-kept : (names more : NameState C) (naming other : IdRecord) → ((number : ℕ) (body : BodyRecord C) → body_at names number ≡ Some body → body_at more number ≡ Some body)
      → LeadsToBody names naming → other.body ≡ naming.body → other.owner ≡ naming.owner → LeadsToBody more other
  leads-kept names more naming other kept leads same_body same_owner =
      (leads.0, ap (body_at more) same_body ∙ kept naming.body leads.0 leads.1, leads.2 ∙ sym same_owner)

  -- the names with the new body and its first identifier, before its children
  abbrev with_first : NameState C → ℕ → Holder → ℕ → C → List Ref → NameState C
  with_first names drawn holder worker content refs = with_both names (drawn + 1) (drawn + 2) holder worker content (numbered (drawn + 2) refs)

  first-within : (names : NameState C) (drawn : ℕ) (holder : Holder) (worker : ℕ) (content : C) (refs : List Ref) → AreWithin names drawn → AreWithin (with_first names drawn holder worker content refs) (drawn + 2)
  first-within names drawn holder worker content refs within = within-both names drawn (drawn + 1) (drawn + 2) holder worker content (numbered (drawn + 2) refs) within refl refl

  first-kept : (names : NameState C) (drawn : ℕ) (holder : Holder) (worker : ℕ) (content : C) (refs : List Ref) → AreWithin names drawn
      → (q : ℕ) (naming : IdRecord) → id_at names q ≡ Some naming → id_at (with_first names drawn holder worker content refs) q ≡ Some naming
  first-kept names drawn holder worker content refs within = kept-both names drawn (drawn + 1) (drawn + 2) holder worker content (numbered (drawn + 2) refs) within refl

  -- what the names have after a registration, number by number
  later-kept : (names : NameState C) (drawn : ℕ) (holder : Holder) (worker : ℕ) (content : C) (refs : List Ref) → AreWithin names drawn
      → (q : ℕ) (naming : IdRecord) → id_at (with_first names drawn holder worker content refs) q ≡ Some naming → id_at (registered names drawn holder worker content refs) q ≡ Some naming
  later-kept names drawn holder worker content refs within =
      linked-keeps (with_first names drawn holder worker content refs) (drawn + 2) (Body (drawn + 1)) refs (first-within names drawn holder worker content refs within)

  body_at-registered : (names : NameState C) (drawn : ℕ) (holder : Holder) (worker : ℕ) (content : C) (refs : List Ref) (number : ℕ)
      → body_at (registered names drawn holder worker content refs) number ≡ map.get (map.insert names.bodies (drawn + 1) (record { owner = worker; content = content; children = numbered (drawn + 2) refs })) number
  body_at-registered names drawn holder worker content refs number =
      ap (λ b. map.get b number) (bodies-linked (with_first names drawn holder worker content refs) (drawn + 2) (Body (drawn + 1)) refs)

  pub new-body : (names : NameState C) (drawn : ℕ) (holder : Holder) (worker : ℕ) (content : C) (refs : List Ref)
      → body_at (registered names drawn holder worker content refs) (drawn + 1) ≡ Some (record { owner = worker; content = content; children = numbered (drawn + 2) refs })
  new-body names drawn holder worker content refs =
      body_at-registered names drawn holder worker content refs (drawn + 1) ∙ inserted_here names.bodies (drawn + 1) (drawn + 1) _ _ refl refl

  pub new-naming : (names : NameState C) (drawn : ℕ) (holder : Holder) (worker : ℕ) (content : C) (refs : List Ref) → AreWithin names drawn
      → id_at (registered names drawn holder worker content refs) (drawn + 2) ≡ Some (record { owner = worker; body = drawn + 1; holder = holder })
  new-naming names drawn holder worker content refs within =
      later-kept names drawn holder worker content refs within (drawn + 2) _ (inserted_here names.ids (drawn + 2) (drawn + 2) (record { owner = worker; body = drawn + 1; holder = holder }) _ refl refl)

  pub new-copies : (names : NameState C) (drawn : ℕ) (holder : Holder) (worker : ℕ) (content : C) (refs : List Ref) → AreWithin names drawn → AreLive names refs
      → AreCopies names (registered names drawn holder worker content refs) (Body (drawn + 1)) refs (numbered (drawn + 2) refs)
  new-copies names drawn holder worker content refs within live =
      linked-copies names (with_first names drawn holder worker content refs) (drawn + 2) (Body (drawn + 1)) refs (first-within names drawn holder worker content refs within) (first-kept names drawn holder worker content refs within) live

  pub registered-within : (names : NameState C) (drawn : ℕ) (holder : Holder) (worker : ℕ) (content : C) (refs : List Ref) → AreWithin names drawn → AreWithin (registered names drawn holder worker content refs) (drawn + 2 + present refs)
  registered-within names drawn holder worker content refs within =
      linked-within (with_first names drawn holder worker content refs) (drawn + 2) (Body (drawn + 1)) refs (first-within names drawn holder worker content refs within)

  -- all that there was is there still
  pub more-registered : (names : NameState C) (drawn : ℕ) (holder : Holder) (worker : ℕ) (content : C) (refs : List Ref) → AreWithin names drawn → AreMore names (registered names drawn holder worker content refs)
  more-registered names drawn holder worker content refs within = record {
    ids = λ q naming is. later-kept names drawn holder worker content refs within q naming (first-kept names drawn holder worker content refs within q naming is);
    bodies = λ number body is.
        body_at-registered names drawn holder worker content refs number
        ∙ inserted_other names.bodies (drawn + 1) number _ (λ same. absurd (omega (arith, same, within.bodies number (ap is_some is))))
        ∙ is;
  }

  -- where an identifier comes from
  pub naming-from : (names : NameState C) (drawn : ℕ) (holder : Holder) (worker : ℕ) (content : C) (refs : List Ref) → AreWithin names drawn → AreLive names refs
      → (q : ℕ) (naming : IdRecord) → id_at (registered names drawn holder worker content refs) q ≡ Some naming
      → (id_at names q ≡ Some naming) ⊎ (((q ≡ drawn + 2) × (naming ≡ record { owner = worker; body = drawn + 1; holder = holder })) ⊎ IsCopyAmong names (Body (drawn + 1)) (numbered (drawn + 2) refs) q naming)
  naming-from names drawn holder worker content refs within live q naming is =
      elim (linked-from names (with_first names drawn holder worker content refs) (drawn + 2) (Body (drawn + 1)) refs (first-within names drawn holder worker content refs within) (first-kept names drawn holder worker content refs within) live q naming is) [
        | inl was ↦ elim (inserted_from names.ids (drawn + 2) q (record { owner = worker; body = drawn + 1; holder = holder }) naming was) [
          | inl h ↦ inr (inl (h.0, h.1))
          | inr h ↦ inl h.1
        ]
        | inr copy ↦ inr (inr copy)
      ]

  -- where a body comes from
  body-from : (names : NameState C) (drawn : ℕ) (holder : Holder) (worker : ℕ) (content : C) (refs : List Ref)
      → (number : ℕ) (body : BodyRecord C) → body_at (registered names drawn holder worker content refs) number ≡ Some body
      → ((number ≡ drawn + 1) × (body ≡ record { owner = worker; content = content; children = numbered (drawn + 2) refs })) ⊎ (body_at names number ≡ Some body)
  body-from names drawn holder worker content refs number body is =
      elim (inserted_from names.bodies (drawn + 1) number _ body (sym (body_at-registered names drawn holder worker content refs number) ∙ is)) [
        | inl h ↦ inl h
        | inr h ↦ inr h.1
      ]

  pub sound-registered : (arity : C → ℕ) (names : NameState C) (drawn : ℕ) (holder : Holder) (worker : ℕ) (content : C) (refs : List Ref) → IsSound arity names → AreWithin names drawn → IsOutside holder → AreLive names refs
      → length refs ≡ arity content → IsSound arity (registered names drawn holder worker content refs)
  sound-registered arity names drawn holder worker content refs sound within outside live all =
      let after = registered names drawn holder worker content refs in
      let more = more-registered names drawn holder worker content refs within in
      let copies = new-copies names drawn holder worker content refs within live in
      record {
        named = λ q naming is. elim (naming-from names drawn holder worker content refs within live q naming is) [
          | inl was ↦ leads-kept names after naming naming more.bodies (sound.named q naming was) refl refl
          | inr new ↦ elim new [
            | inl first ↦ (_, ap (λ (n : IdRecord). body_at after n.body) first.1 ∙ new-body names drawn holder worker content refs, sym (ap (λ (n : IdRecord). n.owner) first.1))
            | inr copy ↦ leads-kept names after copy.0 naming more.bodies (sound.named copy.1 copy.0 copy.3) (ap (λ (n : IdRecord). n.body) copy.4) (ap (λ (n : IdRecord). n.owner) copy.4)
          ]
        ];
        children = λ number body j id there at. elim (body-from names drawn holder worker content refs number body there) [
          | inl new ↦
              let c = copy-at names after (Body (drawn + 1)) refs (numbered (drawn + 2) refs) copies j id (ap (λ (b : BodyRecord C). slice_get b.children j) (sym new.1) ∙ at) in
              let low = within.bodies c.0.body (ap is_some (sound.named c.1 c.0 c.2).1) in
              (record c.0 { holder = Body (drawn + 1) }, c.4, c.3, ap Body (sym new.0), omega (arith, low, new.0))
          | inr was ↦
              let by = sound.children number body j id was at in
              (by.0, more.ids id.number by.0 by.1, by.2, by.3, by.4)
        ];
        held = λ q naming h is held. elim (naming-from names drawn holder worker content refs within live q naming is) [
          | inl was ↦
              let child = sound.held q naming h was held in
              (child.0, child.1, more.bodies h child.0 child.2, child.3)
          | inr new ↦ elim new [
            | inl first ↦ absurd (not-outside holder h outside (sym (ap (λ (n : IdRecord). n.holder) first.1) ∙ held))
            | inr copy ↦
                let same : h ≡ drawn + 1 = same_body h (drawn + 1) (sym held ∙ ap (λ (n : IdRecord). n.holder) copy.4) in (
                  _,
                  copy.2,
                  ap (body_at after) same ∙ new-body names drawn holder worker content refs,
                  copy.5 ∙ ap (λ o. Some (Held (record { owner = o; number = q }))) (sym (ap (λ (n : IdRecord). n.owner) copy.4)),
                )
          ]
        ];
        all_children = λ number body there. elim (body-from names drawn holder worker content refs number body there) [
          | inl new ↦ ap (λ (b : BodyRecord C). length b.children) new.1 ∙ length-numbered (drawn + 2) refs ∙ all ∙ sym (ap (λ (b : BodyRecord C). arity b.content) new.1)
          | inr was ↦ sound.all_children number body was
        ];
      }

  -- one more identifier, held by a caller or a task, of a body that another names
  sound-named : (arity : C → ℕ) (names : NameState C) (from number : ℕ) (holder : Holder) (source : IdRecord) → IsSound arity names → IsOutside holder → id_at names from ≡ Some source → id_at names number ≡ None
      → IsSound arity (with_id names number (record source { holder = holder }))
  sound-named arity names from number holder source sound outside is free =
      let kept = naming-kept names number (record source { holder = holder }) in
      record {
        named = λ q naming q_is. elim (inserted_from names.ids number q (record source { holder = holder }) naming q_is) [
          | inl h ↦ leads-kept names names source naming (λ n b there. there) (sound.named from source is) (ap (λ (n : IdRecord). n.body) h.1) (ap (λ (n : IdRecord). n.owner) h.1)
          | inr h ↦ sound.named q naming h.1
        ];
        children = λ n body j id there at. let by = sound.children n body j id there at in (by.0, kept id.number by.0 free by.1, by.2, by.3, by.4);
        held = λ q naming h q_is held. elim (inserted_from names.ids number q (record source { holder = holder }) naming q_is) [
          | inl new ↦ absurd (not-outside holder h outside (sym (ap (λ (n : IdRecord). n.holder) new.1) ∙ held))
          | inr was ↦ sound.held q naming h was.1 held
        ];
        all_children = sound.all_children;
      }

  pub sound-copied : (arity : C → ℕ) (names : NameState C) (from number : ℕ) (holder : Holder) (source : IdRecord) → IsSound arity names → IsOutside holder → id_at names from ≡ Some source → id_at names number ≡ None
      → IsSound arity (copied names from number holder)
  sound-copied arity names from number holder source sound outside is free =
      subst (λ found. IsSound arity (with_copy names number holder found)) (sym is) (sound-named arity names from number holder source sound outside is free)

  -- one identifier less, that a caller or a task held
  pub sound-without : (arity : C → ℕ) (names : NameState C) (number : ℕ) (gone : IdRecord) → IsSound arity names → id_at names number ≡ Some gone → IsOutside gone.holder → IsSound arity (without_id names number)
  sound-without arity names number gone sound is outside = record {
    named = λ q naming q_is. sound.named q naming (removed_from names.ids number q naming q_is).1;
    children = λ n body j id there at.
        let by = sound.children n body j id there at in
        (by.0, removed_other names.ids number id.number (λ same. not-outside gone.holder n outside (ap (λ (x : IdRecord). x.holder) (same_some gone by.0 (sym is ∙ ap (id_at names) (sym same) ∙ by.1)) ∙ by.3)) ∙ by.1, by.2, by.3, by.4);
    held = λ q naming h q_is held. sound.held q naming h (removed_from names.ids number q naming q_is).1 held;
    all_children = sound.all_children;
  }

  -- nothing is reached where callers and tasks hold nothing
  unreached : (names : NameState C) (body : ℕ) → ((number : ℕ) (naming : IdRecord) → id_at names number ≡ Some naming → IsOutside naming.holder → ⊥) → IsReached names body → ⊥
  unreached names body none (Outside number naming is outside) = none number naming is outside
  unreached names body none (Inside number naming holder is held reached) = unreached names holder none reached

  -- where callers and tasks hold nothing, there is nothing
  pub nothing-left : (arity : C → ℕ) (names : NameState C) → IsSound arity names → AreReached names
      → ((number : ℕ) (naming : IdRecord) → id_at names number ≡ Some naming → IsOutside naming.holder → ⊥) → names ≡ no_names
  nothing-left arity names sound reached none =
      let no_body : (number : ℕ) (body : BodyRecord C) → body_at names number ≡ Some body → ⊥ = λ number body is. unreached names number none (reached number (ap is_some is)) in
      let bodies : names.bodies ≡ map.empty = map.same_map nat_cmp_total map.nat_cmp-IsAntisymmetric names.bodies map.empty (λ q.
      same_options (map.get names.bodies q) (map.get map.empty q) (λ body is. absurd (no_body q body is)) (λ body is. absurd (none_not_some (map.get-empty nat_cmp q) is))) in
      let ids : names.ids ≡ map.empty = map.same_map nat_cmp_total map.nat_cmp-IsAntisymmetric names.ids map.empty (λ q.
      same_options (map.get names.ids q) (map.get map.empty q) (λ naming is. absurd (let leads = sound.named q naming is in no_body naming.body leads.0 leads.1)) (λ naming is. absurd (none_not_some (map.get-empty nat_cmp q) is))) in
      λ i. record { ids = ids i; bodies = bodies i }

  -- no names keep all rules
  pub sound-none : (arity : C → ℕ) → IsSound arity no_names
  sound-none arity = record {
    named = λ q naming is. absurd (none_not_some (map.get-empty nat_cmp q) is);
    children = λ n body j id there. absurd (none_not_some (map.get-empty nat_cmp n) there);
    held = λ q naming h is. absurd (none_not_some (map.get-empty nat_cmp q) is);
    all_children = λ n body there. absurd (none_not_some (map.get-empty nat_cmp n) there);
  }
