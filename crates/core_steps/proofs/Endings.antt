-- Identifiers that go one after the other, and what a task holds in a list of references.
use Rattle.std.proofs.Common.{◌≡◌, ℕ, zero, suc, ◌+◌, ◌<◌, inl, inr, true, false, List, [], ◌∷◌, ◌++◌, length, drop, get_or, slice_get, cond, None, Some, is_some, refl, sym, ap, subst, ◌∙◌, arith}
use Rattle.std.specs.Option.{option_map}
use Rattle.std.proofs.lemmas.List.{at_drop_more}
use Rattle.cht_ids.specs.declared.refs.Id.{Id}
use Rattle.cht_ids.specs.declared.refs.Ref.{Ref}
use Rattle.cht_ids.specs.declared.refs.Ref.TheVariants.{Null, Id as Held}
use Rattle.name_states.specs.declared.holder.Holder.{Holder}
use Rattle.name_states.specs.declared.holder.Holder.TheVariants.{Caller as ByCaller, Task as ByTask, Body as ByBody}
use Rattle.name_states.specs.States.{NameState, IdRecord, id_at, record_of, holder_of}
use Rattle.name_states.specs.Steps.{IsOutside, without_id}
use Rattle.name_states.specs.Reached.{is_reached, is_kept, swept}
use Rattle.name_states.specs.Rules.{IsSound, AreReached}
use Rattle.name_states.proofs.Basics.{none_not_some, same_some, removed_other, test_same, same_from_test}
use Rattle.name_states.proofs.Within.{naming-number, number-naming}
use Rattle.name_states.proofs.Reaching.{outside-passes}
use Rattle.name_states.proofs.Sound.{sound-without}
use Rattle.name_states.proofs.Swept.{naming_at-swept}
use Rattle.name_states.proofs.SweptOnce.{sound-swept}
use Rattle.name_machine.specs.Control.{is_task, is_held_by, without_ids}
use Rattle.name_machine.proofs.FinishNames.{IsIn}
use Rattle.name_machine.proofs.FinishNamesOrder.{deleted_all, deleted_are}
use Rattle.name_machine.proofs.FinishStages.{numbers_of}
use Rattle.core_steps.specs.Ending.{deleted_ref, deleted_refs, AreDeletable, HoldsExactly}

pub next_ref : (refs : List Ref) (i : ℕ) (r : Ref) → i < length refs → r ≡ get_or refs i r → drop i refs ≡ r ∷ drop (i + 1) refs
next_ref refs i r within is = at_drop_more (λ xs. xs) refs i r within ∙ ap (λ x. x ∷ drop (i + 1) refs) (sym is)

-- ---- By places and by numbers

number_there : (refs : List Ref) (place : ℕ) (id : Id) → slice_get refs place ≡ Some (Held id) → IsIn id.number (numbers_of refs)
number_there [] place id is = absurd (none_not_some refl is)
number_there (r ∷ refs) zero id is = first r (same_some r (Held id) is)
  where
    first : (x : Ref) → x ≡ Held id → IsIn id.number (numbers_of (x ∷ refs))
    first Null same = absurd (let clash : Null ≡ Held id = same in cc)
    first (Held other) same = let heads : Held other ≡ Held id = same in let ids : other ≡ id = cc in inl (ap (λ (i : Id). i.number) (sym ids))
number_there (Null ∷ refs) (suc place) id is = number_there refs place id is
number_there (Held other ∷ refs) (suc place) id is = inr (number_there refs place id is)

pub number_from : (q : ℕ) (refs : List Ref) → IsIn q (numbers_of refs) → (place : ℕ) × (id : Id) × (slice_get refs place ≡ Some (Held id)) × (id.number ≡ q)
number_from q [] among = absurd among
number_from q (Null ∷ refs) among = let rest = number_from q refs among in (suc rest.0, rest.1, rest.2, rest.3)
number_from q (Held id ∷ refs) (inl here) = (0, id, refl, sym here)
number_from q (Held id ∷ refs) (inr among) = let rest = number_from q refs among in (suc rest.0, rest.1, rest.2, rest.3)

-- who holds an identifier
pub held_at : {C : Type 0} (names : NameState C) (id : Id) (holder : Holder) (found : _) → record_of names id ≡ found → holder_of names id ≡ Some holder
    → (entry : IdRecord) × (record_of names id ≡ Some entry) × (entry.holder ≡ holder)
held_at names id holder None is held = absurd (none_not_some (ap (option_map (λ (e : IdRecord). e.holder)) is) held)
held_at names id holder (Some entry) is held =
    (entry, is, same_some entry.holder holder (sym (ap (option_map (λ (e : IdRecord). e.holder)) is) ∙ held))

held_by_task : (gone : ℕ) (holder : Holder) → is_task gone holder ≡ true → holder ≡ ByTask gone
held_by_task gone (ByCaller caller) is = absurd (let clash : false ≡ true = is in cc)
held_by_task gone (ByTask task) is = ap ByTask (same_from_test task gone is)
held_by_task gone (ByBody body) is = absurd (let clash : false ≡ true = is in cc)

held_is : (task : ℕ) (holder : Holder) → holder ≡ ByTask task → is_task task holder ≡ true
held_is task holder is = ap (is_task task) is ∙ test_same task

outside_is : (task : ℕ) (holder : Holder) → holder ≡ ByTask task → IsOutside holder
outside_is task holder is = subst IsOutside (sym is) tt

module _ {C : Type 0} where
  -- one list after another
  pub deleted_more : (names : NameState C) (refs more : List Ref) → deleted_refs names (refs ++ more) ≡ deleted_refs (deleted_refs names refs) more
  deleted_more names [] more = refl
  deleted_more names (r ∷ refs) more = deleted_more (deleted_ref names r) refs more

  pub deletable_first : (names : NameState C) (refs more : List Ref) → AreDeletable names (refs ++ more) → AreDeletable names refs
  deletable_first names [] more able = tt
  deletable_first names (r ∷ refs) more able = (able.0, deletable_first (deleted_ref names r) refs more able.1)

  pub deletable_second : (names : NameState C) (refs more : List Ref) → AreDeletable names (refs ++ more) → AreDeletable (deleted_refs names refs) more
  deletable_second names [] more able = able
  deletable_second names (r ∷ refs) more able = deletable_second (deleted_ref names r) refs more able.1

  by_numbers : (names : NameState C) (refs : List Ref) → deleted_refs names refs ≡ deleted_all names (numbers_of refs)
  by_numbers names [] = refl
  by_numbers names (Null ∷ refs) = by_numbers names refs
  by_numbers names (Held id ∷ refs) = by_numbers (swept (without_id names id.number)) refs

  -- what a task holds stays while another identifier goes
  other_stays : (names : NameState C) (task number : ℕ) (id : Id) → holder_of names id ≡ Some (ByTask task) → (id.number ≡ number → ⊥)
      → holder_of (swept (without_id names number)) id ≡ Some (ByTask task)
  other_stays names task number id held apart =
      let one = held_at names id (ByTask task) (record_of names id) refl held in
      let known = naming-number names id one.0 one.1 in
      let there : id_at (without_id names number) id.number ≡ Some one.0 = removed_other names.ids number id.number apart ∙ known.0 in
      let stays : id_at (swept (without_id names number)) id.number ≡ Some one.0 =
      naming_at-swept (without_id names number) id.number
      ∙ ap (λ b. cond b (id_at (without_id names number) id.number) None) (ap (is_kept (without_id names number)) there ∙ outside-passes (is_reached (without_id names number)) one.0.holder (outside_is task one.0.holder one.2))
      ∙ there in
      ap (option_map (λ (e : IdRecord). e.holder)) (number-naming (swept (without_id names number)) id one.0 stays known.1) ∙ ap Some one.2

  ended_sound : (arity : C → ℕ) (names : NameState C) (task : ℕ) (id : Id) → IsSound arity names → holder_of names id ≡ Some (ByTask task)
      → IsSound arity (swept (without_id names id.number))
  ended_sound arity names task id sound held =
      let one = held_at names id (ByTask task) (record_of names id) refl held in
      let known = naming-number names id one.0 one.1 in
      sound-swept arity (without_id names id.number) (sound-without arity names id.number one.0 sound known.0 (outside_is task one.0.holder one.2))

  -- what a task holds, each identifier once, may be deleted one after the other
  pub deletable : (arity : C → ℕ) (names : NameState C) (task : ℕ) (refs : List Ref) → IsSound arity names
      → ((place : ℕ) (id : Id) → slice_get refs place ≡ Some (Held id) → holder_of names id ≡ Some (ByTask task))
      → ((place other : ℕ) (one two : Id) → slice_get refs place ≡ Some (Held one) → slice_get refs other ≡ Some (Held two) → one.number ≡ two.number → place ≡ other)
      → AreDeletable names refs
  deletable arity names task [] sound held once = tt
  deletable arity names task (Null ∷ refs) sound held once =
      (tt, deletable arity names task refs sound (λ p id at. held (suc p) id at) (λ p q one two at there same. let e = once (suc p) (suc q) one two at there same in omega arith))
  deletable arity names task (Held id ∷ refs) sound held once =
      let mine = held 0 id refl in
      let one = held_at names id (ByTask task) (record_of names id) refl mine in (
        (ap is_some one.1, λ holder is. subst IsOutside (same_some (ByTask task) holder (sym mine ∙ is)) tt),
        deletable arity (swept (without_id names id.number)) task refs (ended_sound arity names task id sound mine)
            (λ p other at. other_stays names task id.number other (held (suc p) other at) (λ same. let e = once (suc p) 0 other id at refl same in omega arith))
            (λ p q one two at there same. let e = once (suc p) (suc q) one two at there same in omega arith),
      )

  module _ (arity : C → ℕ) (names : NameState C) (task : ℕ) (refs : List Ref) (sound : IsSound arity names) (exact : HoldsExactly names task refs) where
    pub all_deletable : AreDeletable names refs
    all_deletable = deletable arity names task refs sound exact.held exact.once

    -- deletes of all that a task holds leave what is swept without them
    pub ended_is : AreReached names → deleted_refs names refs ≡ swept (without_ids names (is_held_by task))
    ended_is reached =
        by_numbers names refs
        ∙ deleted_are arity names (is_held_by task) (numbers_of refs) sound reached
        (λ q entry is among.
        let at = number_from q refs among in
        let held = held_at names at.1 (ByTask task) (record_of names at.1) refl (exact.held at.0 at.1 at.2) in
        let known = naming-number names at.1 held.0 held.1 in
        let same : held.0 ≡ entry = same_some held.0 entry (sym known.0 ∙ ap (id_at names) at.3 ∙ is) in
        held_is task entry.holder (ap (λ (e : IdRecord). e.holder) (sym same) ∙ held.2))
        (λ q entry is goes.
        let at = exact.all q entry is (held_by_task task entry.holder goes) in
        number_there refs at.0 (record { owner = entry.owner; number = q }) at.1)
