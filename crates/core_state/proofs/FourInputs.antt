-- At most four inputs, one after the other.
use Rattle.std.proofs.Common.{◌≡◌, ℕ, zero, suc, ◌+◌, ◌≤◌, List, [], ◌∷◌, map as each, take, length, None, Some, refl, sym, ap, subst, ◌∙◌, arith}
use Rattle.std.specs.Prelude.{slice_get}
use Rattle.cht_ids.specs.declared.refs.Ref.{Ref}
use Rattle.cht_ids.specs.declared.refs.Ref.TheVariants.{Null}
use Rattle.name_states.specs.declared.holder.Holder.{Holder}
use Rattle.name_states.specs.States.{NameState, IsLiveRef, AreLive}
use Rattle.name_states.specs.Steps.{drawn_by, present, numbered, numbered_ref, linked, linked_ref}
use Rattle.name_states.specs.Rules.{AreWithin}
use Rattle.name_states.proofs.Within.{live-kept, linked_ref-keeps}
use Rattle.name_machine.specs.Control.{ref_at}
use Rattle.task_states.specs.declared.states.Slot.TheVariants.{Known}
use Rattle.task_states.specs.States.{Known as KnownInput}
use Rattle.task_graph.specs.Contents.{inputs_given}

-- the reference at a place
pub ref_none : (refs : List Ref) (i : ℕ) → slice_get refs i ≡ None → Null ≡ ref_at refs i
ref_none [] i is = refl
ref_none (r ∷ refs) zero is = absurd (let clash : Some r ≡ None = is in cc)
ref_none (r ∷ refs) (suc i) is = ref_none refs i is

pub ref_some : (refs : List Ref) (i : ℕ) (r : Ref) → slice_get refs i ≡ Some r → r ≡ ref_at refs i
ref_some [] i r is = absurd (let clash : None ≡ Some r = is in cc)
ref_some (x ∷ refs) zero r is = let same : Some x ≡ Some r = is in cc
ref_some (x ∷ refs) (suc i) r is = ref_some refs i r is

module _ {C : Type 0} where
  -- each of live references is live
  pub live_at : (names : NameState C) (refs : List Ref) (i : ℕ) → AreLive names refs → IsLiveRef names (ref_at refs i)
  live_at names [] i live = tt
  live_at names (r ∷ refs) zero live = live.0
  live_at names (r ∷ refs) (suc i) live = live_at names refs i live.1

  -- and stays so where another one is copied
  pub live_next : (names names2 : NameState C) (drawn : ℕ) (holder : Holder) (r s : Ref) → AreWithin names drawn → names2 ≡ linked_ref names drawn holder r
      → IsLiveRef names s → IsLiveRef names2 s
  live_next names names2 drawn holder r s within is live =
      subst (λ n. IsLiveRef n s) (sym is) (live-kept names (linked_ref names drawn holder r) s (linked_ref-keeps names drawn holder r within) live)

abbrev four : List Ref → List Ref
four refs = ref_at refs 0 ∷ ref_at refs 1 ∷ ref_at refs 2 ∷ ref_at refs 3 ∷ []

linked_four : {C : Type 0} (names : NameState C) (drawn : ℕ) (holder : Holder) (refs : List Ref) → length refs ≤ 4 → linked names drawn holder (four refs) ≡ linked names drawn holder refs
linked_four names drawn holder [] few = refl
linked_four names drawn holder (a ∷ []) few = refl
linked_four names drawn holder (a ∷ b ∷ []) few = refl
linked_four names drawn holder (a ∷ b ∷ c ∷ []) few = refl
linked_four names drawn holder (a ∷ b ∷ c ∷ d ∷ []) few = refl
linked_four names drawn holder (a ∷ b ∷ c ∷ d ∷ e ∷ refs) few = absurd (omega arith)

present_four : (refs : List Ref) → length refs ≤ 4 → drawn_by (ref_at refs 0) + drawn_by (ref_at refs 1) + drawn_by (ref_at refs 2) + drawn_by (ref_at refs 3) ≡ present refs
present_four [] few = refl
present_four (a ∷ []) few = omega arith
present_four (a ∷ b ∷ []) few = omega arith
present_four (a ∷ b ∷ c ∷ []) few = omega arith
present_four (a ∷ b ∷ c ∷ d ∷ []) few = omega arith
present_four (a ∷ b ∷ c ∷ d ∷ e ∷ refs) few = absurd (omega arith)

slots_four : (drawn : ℕ) (refs : List Ref) → length refs ≤ 4
    → inputs_given (take (length refs) (Known (numbered_ref drawn (ref_at refs 0)) ∷ Known (numbered_ref (drawn + drawn_by (ref_at refs 0)) (ref_at refs 1))
    ∷ Known (numbered_ref (drawn + drawn_by (ref_at refs 0) + drawn_by (ref_at refs 1)) (ref_at refs 2))
    ∷ Known (numbered_ref (drawn + drawn_by (ref_at refs 0) + drawn_by (ref_at refs 1) + drawn_by (ref_at refs 2)) (ref_at refs 3)) ∷ []))
    ≡ each KnownInput (numbered drawn refs)
slots_four drawn [] few = refl
slots_four drawn (a ∷ []) few = refl
slots_four drawn (a ∷ b ∷ []) few = refl
slots_four drawn (a ∷ b ∷ c ∷ []) few = refl
slots_four drawn (a ∷ b ∷ c ∷ d ∷ []) few = refl
slots_four drawn (a ∷ b ∷ c ∷ d ∷ e ∷ refs) few = absurd (omega arith)

module _ (refs : List Ref) (few : length refs ≤ 4) (d0 d1 d2 d3 d4 : ℕ) (e1 : d1 ≡ d0 + drawn_by (ref_at refs 0)) (e2 : d2 ≡ d1 + drawn_by (ref_at refs 1))
    (e3 : d3 ≡ d2 + drawn_by (ref_at refs 2)) (e4 : d4 ≡ d3 + drawn_by (ref_at refs 3)) where
  second : d2 ≡ d0 + drawn_by (ref_at refs 0) + drawn_by (ref_at refs 1)
  second = e2 ∙ ap (λ d. d + drawn_by (ref_at refs 1)) e1

  third : d3 ≡ d0 + drawn_by (ref_at refs 0) + drawn_by (ref_at refs 1) + drawn_by (ref_at refs 2)
  third = e3 ∙ ap (λ d. d + drawn_by (ref_at refs 2)) second

  pub all_drawn : d4 ≡ d0 + present refs
  all_drawn = let all = present_four refs few in let at = third in omega arith

  pub all_linked : {C : Type 0} (holder : Holder) (n0 n1 n2 n3 n4 : NameState C) → n1 ≡ linked_ref n0 d0 holder (ref_at refs 0) → n2 ≡ linked_ref n1 d1 holder (ref_at refs 1)
      → n3 ≡ linked_ref n2 d2 holder (ref_at refs 2) → n4 ≡ linked_ref n3 d3 holder (ref_at refs 3) → n4 ≡ linked n0 d0 holder refs
  all_linked {C} holder n0 n1 n2 n3 n4 f1 f2 f3 f4 =
      let m2 : NameState C = linked_ref (linked_ref n0 d0 holder (ref_at refs 0)) (d0 + drawn_by (ref_at refs 0)) holder (ref_at refs 1) in
      let g2 : n2 ≡ m2 = f2 ∙ ap (λ n. linked_ref n d1 holder (ref_at refs 1)) f1 ∙ ap (λ d. linked_ref (linked_ref n0 d0 holder (ref_at refs 0)) d holder (ref_at refs 1)) e1 in
      let m3 : NameState C = linked_ref m2 (d0 + drawn_by (ref_at refs 0) + drawn_by (ref_at refs 1)) holder (ref_at refs 2) in
      let g3 : n3 ≡ m3 = f3 ∙ ap (λ n. linked_ref n d2 holder (ref_at refs 2)) g2 ∙ ap (λ d. linked_ref m2 d holder (ref_at refs 2)) second in
      f4 ∙ ap (λ n. linked_ref n d3 holder (ref_at refs 3)) g3 ∙ ap (λ d. linked_ref m3 d holder (ref_at refs 3)) third ∙ linked_four n0 d0 holder refs few

  pub all_slots : (s0 s1 s2 s3 : Ref) → s0 ≡ numbered_ref d0 (ref_at refs 0) → s1 ≡ numbered_ref d1 (ref_at refs 1) → s2 ≡ numbered_ref d2 (ref_at refs 2) → s3 ≡ numbered_ref d3 (ref_at refs 3)
      → inputs_given (take (length refs) (Known s0 ∷ Known s1 ∷ Known s2 ∷ Known s3 ∷ [])) ≡ each KnownInput (numbered d0 refs)
  all_slots s0 s1 s2 s3 f0 f1 f2 f3 =
      let t1 = f1 ∙ ap (λ d. numbered_ref d (ref_at refs 1)) e1 in
      let t2 = f2 ∙ ap (λ d. numbered_ref d (ref_at refs 2)) second in
      let t3 = f3 ∙ ap (λ d. numbered_ref d (ref_at refs 3)) third in
      ap (λ s. inputs_given (take (length refs) (Known s ∷ Known s1 ∷ Known s2 ∷ Known s3 ∷ []))) f0
      ∙ ap (λ s. inputs_given (take (length refs) (Known (numbered_ref d0 (ref_at refs 0)) ∷ Known s ∷ Known s2 ∷ Known s3 ∷ []))) t1
      ∙ ap (λ s. inputs_given (take (length refs) (Known (numbered_ref d0 (ref_at refs 0)) ∷ Known (numbered_ref (d0 + drawn_by (ref_at refs 0)) (ref_at refs 1)) ∷ Known s ∷ Known s3 ∷ []))) t2
      ∙ ap (λ s. inputs_given (take (length refs) (Known (numbered_ref d0 (ref_at refs 0)) ∷ Known (numbered_ref (d0 + drawn_by (ref_at refs 0)) (ref_at refs 1))
      ∷ Known (numbered_ref (d0 + drawn_by (ref_at refs 0) + drawn_by (ref_at refs 1)) (ref_at refs 2)) ∷ Known s ∷ []))) t3
      ∙ slots_four d0 refs few
