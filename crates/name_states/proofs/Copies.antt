-- The identifiers that a new body holds: copies of what its children name, under numbers of their own.
use Rattle.std.proofs.Common.{◌≡◌, ℕ, suc, ◌+◌, ◌⊎◌, inl, inr, List, [], ◌∷◌, length, Option, Some, None, refl, sym, ap, ◌∙◌, arith}
use Rattle.std.specs.Prelude.{slice_get}
use Rattle.cht_ids.specs.declared.refs.Ref.{Ref}
use Rattle.cht_ids.specs.declared.refs.Ref.TheVariants.{Null, Id as Held}
use Rattle.name_states.specs.declared.holder.Holder.{Holder}
use Rattle.name_states.specs.States.{NameState, IdRecord, id_at, AreLive}
use Rattle.name_states.specs.Steps.{with_copy, copied, linked_ref, linked, drawn_by, present, numbered}
use Rattle.name_states.specs.Rules.{AreWithin}
use Rattle.name_states.proofs.Basics.{same_some, inserted_from, inserted_here}
use Rattle.name_states.proofs.Within.{within-linked_ref, linked_ref-keeps, live-number, within-more}

module _ {C : Type 0} where
  -- what copies name: the same as the children, held by the new body
  abbrev pub AreCopies : NameState C → NameState C → Holder → List Ref → List Ref → Type 0
  AreCopies before after holder [] [] = Unit {0}
  AreCopies before after holder (Null ∷ refs) (Null ∷ own) = AreCopies before after holder refs own
  AreCopies before after holder (Held child ∷ refs) (Held id ∷ own) =
      ((naming : IdRecord) × (id_at before child.number ≡ Some naming) × (naming.owner ≡ child.owner) × (id.owner ≡ child.owner)
      × (id_at after id.number ≡ Some (record naming { holder = holder }))) × AreCopies before after holder refs own
  AreCopies before after holder _ _ = ⊥

  -- linking more keeps what there was
  pub linked-keeps : (names : NameState C) (drawn : ℕ) (holder : Holder) (refs : List Ref) → AreWithin names drawn
      → (q : ℕ) (naming : IdRecord) → id_at names q ≡ Some naming → id_at (linked names drawn holder refs) q ≡ Some naming
  linked-keeps names drawn holder [] within q naming is = is
  linked-keeps names drawn holder (r ∷ refs) within q naming is =
      linked-keeps (linked_ref names drawn holder r) (drawn + drawn_by r) holder refs (within-linked_ref names drawn holder r within) q naming (linked_ref-keeps names drawn holder r within q naming is)

  pub linked-within : (names : NameState C) (drawn : ℕ) (holder : Holder) (refs : List Ref) → AreWithin names drawn → AreWithin (linked names drawn holder refs) (drawn + present refs)
  linked-within names drawn holder [] within = within-more names drawn (drawn + 0) within (omega arith)
  linked-within names drawn holder (r ∷ refs) within =
      within-more (linked names drawn holder (r ∷ refs)) (drawn + drawn_by r + present refs) (drawn + (drawn_by r + present refs))
      (linked-within (linked_ref names drawn holder r) (drawn + drawn_by r) holder refs (within-linked_ref names drawn holder r within)) (omega arith)

  pub bodies-with_copy : (names : NameState C) (number : ℕ) (holder : Holder) (found : Option IdRecord) → (with_copy names number holder found).bodies ≡ names.bodies
  bodies-with_copy names number holder None = refl
  bodies-with_copy names number holder (Some naming) = refl

  pub bodies-linked : (names : NameState C) (drawn : ℕ) (holder : Holder) (refs : List Ref) → (linked names drawn holder refs).bodies ≡ names.bodies
  bodies-linked names drawn holder [] = refl
  bodies-linked names drawn holder (Null ∷ refs) = bodies-linked names (drawn + 0) holder refs
  bodies-linked names drawn holder (Held id ∷ refs) =
      bodies-linked (copied names id.number (drawn + 1) holder) (drawn + 1) holder refs ∙ bodies-with_copy names (drawn + 1) holder (id_at names id.number)

  -- a copy is there under its number
  pub copied-here : (names : NameState C) (from number : ℕ) (holder : Holder) (naming : IdRecord) → id_at names from ≡ Some naming → id_at (copied names from number holder) number ≡ Some (record naming { holder = holder })
  copied-here names from number holder naming is =
      ap (λ found. id_at (with_copy names number holder found) number) is ∙ inserted_here names.ids number number (record naming { holder = holder }) (record naming { holder = holder }) refl refl

  pub linked-copies : (base names : NameState C) (drawn : ℕ) (holder : Holder) (refs : List Ref) → AreWithin names drawn
      → ((q : ℕ) (naming : IdRecord) → id_at base q ≡ Some naming → id_at names q ≡ Some naming)
      → AreLive base refs
      → AreCopies base (linked names drawn holder refs) holder refs (numbered drawn refs)
  linked-copies base names drawn holder [] within kept live = tt
  linked-copies base names drawn holder (Null ∷ refs) within kept live =
      linked-copies base names (drawn + 0) holder refs (within-more names drawn (drawn + 0) within (omega arith)) kept live.1
  linked-copies base names drawn holder (Held id ∷ refs) within kept live =
      let from = live-number base id live.0 in
      let next = copied names id.number (drawn + 1) holder in
      let next_within = within-linked_ref names drawn holder (Held id) within in (
        (
          from.0,
          from.1,
          from.2,
          refl,
          linked-keeps next (drawn + 1) holder refs next_within (drawn + 1) (record from.0 { holder = holder }) (copied-here names id.number (drawn + 1) holder from.0 (kept id.number from.0 from.1)),
        ),
        linked-copies base next (drawn + 1) holder refs next_within (λ q naming is. linked_ref-keeps names drawn holder (Held id) within q naming (kept q naming is)) live.1,
      )

  -- where an identifier comes from: it was there, or it is a copy of one that was there
  abbrev pub IsCopyAmong : NameState C → Holder → List Ref → ℕ → IdRecord → Type 0
  IsCopyAmong before holder own number naming =
      (source : IdRecord) × (from : ℕ) × (j : ℕ) × (id_at before from ≡ Some source) × (naming ≡ record source { holder = holder })
      × (slice_get own j ≡ Some (Held (record { owner = source.owner; number = number })))

  pub copied-from : (names : NameState C) (number : ℕ) (holder : Holder) (found : Option IdRecord) (q : ℕ) (naming : IdRecord) → id_at (with_copy names number holder found) q ≡ Some naming
      → (id_at names q ≡ Some naming) ⊎ ((source : IdRecord) × (found ≡ Some source) × (naming ≡ record source { holder = holder }) × (q ≡ number))
  copied-from names number holder None q naming is = inl is
  copied-from names number holder (Some source) q naming is =
      elim (inserted_from names.ids number q (record source { holder = holder }) naming is) [
        | inl h ↦ inr (source, refl, h.1, h.0)
        | inr h ↦ inl h.1
      ]

  pub linked-from : (base names : NameState C) (drawn : ℕ) (holder : Holder) (refs : List Ref) → AreWithin names drawn
      → ((q : ℕ) (naming : IdRecord) → id_at base q ≡ Some naming → id_at names q ≡ Some naming)
      → AreLive base refs
      → (q : ℕ) (naming : IdRecord) → id_at (linked names drawn holder refs) q ≡ Some naming
      → (id_at names q ≡ Some naming) ⊎ IsCopyAmong base holder (numbered drawn refs) q naming
  linked-from base names drawn holder [] within kept live q naming is = inl is
  linked-from base names drawn holder (Null ∷ refs) within kept live q naming is =
      elim (linked-from base names (drawn + 0) holder refs (within-more names drawn (drawn + 0) within (omega arith)) kept live.1 q naming is) [
        | inl h ↦ inl h
        | inr h ↦ inr (h.0, h.1, suc h.2, h.3, h.4, h.5)
      ]
  linked-from base names drawn holder (Held id ∷ refs) within kept live q naming is =
      let from = live-number base id live.0 in
      let next_within = within-linked_ref names drawn holder (Held id) within in
      elim (linked-from base (copied names id.number (drawn + 1) holder) (drawn + 1) holder refs next_within (λ p other other_is. linked_ref-keeps names drawn holder (Held id) within p other (kept p other other_is)) live.1 q naming is) [
        | inl h ↦ elim (copied-from names (drawn + 1) holder (id_at names id.number) q naming h) [
          | inl was ↦ inl was
          | inr new ↦
              let same : new.0 ≡ from.0 = same_some new.0 from.0 (sym new.1 ∙ kept id.number from.0 from.1) in
              inr (
                from.0,
                id.number,
                0,
                from.1,
                new.2 ∙ ap (λ (n : IdRecord). record n { holder = holder }) same,
                ap (λ o. Some (Held (record { owner = o; number = drawn + 1 }))) (sym from.2) ∙ ap (λ n. Some (Held (record { owner = from.0.owner; number = n }))) (sym new.3),
              )
        ]
        | inr h ↦ inr (h.0, h.1, suc h.2, h.3, h.4, h.5)
      ]

pub length-numbered : (drawn : ℕ) (refs : List Ref) → length (numbered drawn refs) ≡ length refs
length-numbered drawn [] = refl
length-numbered drawn (r ∷ refs) = ap suc (length-numbered (drawn + drawn_by r) refs)
