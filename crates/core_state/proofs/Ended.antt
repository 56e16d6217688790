-- Names without the identifiers that a test names: where what is not reached goes in between, and where one test follows another.
use Rattle.std.proofs.Common.{◌≡◌, ℕ, Bool, true, false, ◌||◌, Option, None, Some, is_some, refl, sym, ap, subst, ◌∙◌}
use Rattle.std.specs.Option.{option_map}
use Rattle.cht_ids.specs.declared.refs.Id.{Id}
use Rattle.cht_ids.specs.declared.refs.Ref.{Ref}
use Rattle.cht_ids.specs.declared.refs.Ref.TheVariants.{Null, Id as Held}
use Rattle.name_states.specs.declared.holder.Holder.{Holder}
use Rattle.name_states.specs.declared.holder.Holder.TheVariants.{Caller, Task, Body}
use Rattle.name_states.specs.States.{NameState, IdRecord, id_at, body_at, record_of, holder_of}
use Rattle.name_states.specs.Steps.{IsOutside, without_id}
use Rattle.name_states.specs.Reached.{IsReached, Outside, Inside, IsHeldUp, swept}
use Rattle.name_states.specs.Rules.{IsSound, AreReached}
use Rattle.name_states.proofs.Basics.{none_not_some, some_value, same_some, same_options, same_from_test, test_same, test_apart, removed_from, removed_other}
use Rattle.name_states.proofs.Within.{naming-number, number-naming}
use Rattle.name_states.proofs.Reaching.{LeadsDown, reached-from, reached-more, up-more, up_from_outside}
use Rattle.name_states.proofs.Swept.{id-left, id-kept, body-left, body-kept}
use Rattle.name_states.proofs.SweptOnce.{same_state, nothing_goes}
use Rattle.name_machine.specs.Control.{without_ids}
use Rattle.name_machine.specs.Standing.{IsRefOf}
use Rattle.name_machine.proofs.Fewer.{left_at, stays_at}
use Rattle.name_machine.proofs.Grow.{false_or}
use Rattle.core_state.specs.Ended.{is_number_of}

module _ {C : Type 0} where
  -- ---- One sweep at the end is enough

  down_without : (names : NameState C) (goes : ℕ → Option IdRecord → Bool) → LeadsDown names → LeadsDown (without_ids names goes)
  down_without names goes down = record {
    there = λ q entry is. down.there q entry (left_at names goes q entry is).0;
    below = λ q entry holder is held. down.below q entry holder (left_at names goes q entry is).0 held;
  }

  down_swept : (names : NameState C) → LeadsDown names → LeadsDown (swept names)
  down_swept names down = record {
    there = λ q entry is.
        let was = id-left names q entry is in
        let body = some_value (body_at names entry.body) (down.there q entry was.0) in
        ap is_some (body-kept names down entry.body body.0 body.1 (reached-from names q entry was.0 was.1));
    below = λ q entry holder is held. down.below q entry holder (id-left names q entry is).0 held;
  }

  module _ (names : NameState C) (goes : ℕ → Option IdRecord → Bool) (down : LeadsDown names) where
    was_there : (q : ℕ) (entry : IdRecord) → id_at (without_ids names goes) q ≡ Some entry → id_at names q ≡ Some entry
    was_there q entry is = (left_at names goes q entry is).0

    stays : (q : ℕ) (entry : IdRecord) → id_at (without_ids names goes) q ≡ Some entry → IsHeldUp (without_ids names goes) entry.holder
        → id_at (without_ids (swept names) goes) q ≡ Some entry
    stays q entry is up =
        let was = left_at names goes q entry is in
        stays_at (swept names) goes q entry (id-kept names down q entry was.0 (up-more (without_ids names goes) names entry.holder was_there up)) was.1

    fewer : (q : ℕ) (entry : IdRecord) → id_at (without_ids (swept names) goes) q ≡ Some entry → id_at (without_ids names goes) q ≡ Some entry
    fewer q entry is =
        let was = left_at (swept names) goes q entry is in
        stays_at names goes q entry (id-left names q entry was.0).0 was.1

    reached_still : (body : ℕ) → IsReached (without_ids names goes) body → IsReached (without_ids (swept names) goes) body
    reached_still body (Outside q entry is outside) =
        Outside q entry (stays q entry is (up_from_outside (without_ids names goes) entry.holder outside)) outside
    reached_still body (Inside q entry holder is held reached) =
        Inside q entry holder (stays q entry is (subst (IsHeldUp (without_ids names goes)) (sym held) reached)) held (reached_still holder reached)

    up_still : (holder : Holder) → IsHeldUp (without_ids names goes) holder → IsHeldUp (without_ids (swept names) goes) holder
    up_still (Caller caller) up = tt
    up_still (Task task) up = tt
    up_still (Body body) up = reached_still body up

    swept_at_the_end : swept (without_ids (swept names) goes) ≡ swept (without_ids names goes)
    swept_at_the_end =
        let early = without_ids (swept names) goes in
        let late = without_ids names goes in
        let down_late = down_without names goes down in
        let down_early = down_without (swept names) goes (down_swept names down) in
        same_state (swept early) (swept late)
        (λ q. same_options (id_at (swept early) q) (id_at (swept late) q)
        (λ entry is.
        let was = id-left early q entry is in
        id-kept late down_late q entry (fewer q entry was.0) (up-more early late entry.holder fewer was.1))
        (λ entry is.
        let was = id-left late q entry is in
        id-kept early down_early q entry (stays q entry was.0 was.1) (up_still entry.holder was.1)))
        (λ q. same_options _ _
        (λ body is.
        let was = body-left early q body is in
        body-kept late down_late q body (body-left names q body was.0).0 (reached-more early late q fewer was.1))
        (λ body is.
        let was = body-left late q body is in
        body-kept early down_early q body (body-kept names down q body was.0 (reached-more late names q was_there was.1)) (reached_still q was.1)))

  -- ---- One test after another

  -- names without what two tests name are those without what either names
  pub both_go : (names : NameState C) (first second all : ℕ → Option IdRecord → Bool) → LeadsDown names
      → ((q : ℕ) (entry : IdRecord) → id_at names q ≡ Some entry → all q (Some entry) ≡ (first q (Some entry) || second q (Some entry)))
      → swept (without_ids (swept (without_ids names first)) second) ≡ swept (without_ids names all)
  both_go names first second all down either =
      swept_at_the_end (without_ids names first) second (down_without names first down)
      ∙ ap swept (same_state (without_ids (without_ids names first) second) (without_ids names all)
      (λ q. same_options _ _
      (λ entry is.
      let second_left = left_at (without_ids names first) second q entry is in
      let first_left = left_at names first q entry second_left.0 in
      stays_at names all q entry first_left.0 (either q entry first_left.0 ∙ neither (first q (Some entry)) (second q (Some entry)) first_left.1 second_left.1))
      (λ entry is.
      let was = left_at names all q entry is in
      let parts = none_of (first q (Some entry)) (second q (Some entry)) (sym (either q entry was.0) ∙ was.1) in
      stays_at (without_ids names first) second q entry (stays_at names first q entry was.0 parts.0) parts.1))
      (λ q. refl))
    where
      neither : (a b : Bool) → a ≡ false → b ≡ false → (a || b) ≡ false
      neither a b p q = ap (λ x. x || b) p ∙ q

      none_of : (a b : Bool) → (a || b) ≡ false → (a ≡ false) × (b ≡ false)
      none_of true b is = absurd (let clash : true ≡ false = is in cc)
      none_of false b is = (refl, is)

  -- what goes before is named by a test that follows
  pub named_after : (names : NameState C) (first all : ℕ → Option IdRecord → Bool) → LeadsDown names
      → ((q : ℕ) (entry : IdRecord) → id_at names q ≡ Some entry → first q (Some entry) ≡ true → all q (Some entry) ≡ true)
      → swept (without_ids (swept (without_ids names first)) all) ≡ swept (without_ids names all)
  named_after names first all down within =
      both_go names first all all down (λ q entry is. sym (taken_in (first q (Some entry)) (all q (Some entry)) (within q entry is)))
    where
      taken_in : (a b : Bool) → (a ≡ true → b ≡ true) → (a || b) ≡ b
      taken_in true b to = sym (to refl)
      taken_in false b to = refl

  -- a test that names nothing leaves all
  pub none_go : (arity : C → ℕ) (names : NameState C) (goes : ℕ → Option IdRecord → Bool) → IsSound arity names → AreReached names
      → ((q : ℕ) (entry : IdRecord) → id_at names q ≡ Some entry → goes q (Some entry) ≡ false) → swept (without_ids names goes) ≡ names
  none_go arity names goes sound reached none =
      ap swept (same_state (without_ids names goes) names
      (λ q. same_options _ _ (λ entry is. (left_at names goes q entry is).0) (λ entry is. stays_at names goes q entry is (none q entry is)))
      (λ q. refl))
      ∙ nothing_goes arity names sound reached

  -- ---- What is left, number by number

  module _ (names : NameState C) (goes : ℕ → Option IdRecord → Bool) where
    pub was_at : (q : ℕ) (entry : IdRecord) → id_at (swept (without_ids names goes)) q ≡ Some entry → (id_at names q ≡ Some entry) × (goes q (Some entry) ≡ false)
    was_at q entry is = left_at names goes q entry (id-left (without_ids names goes) q entry is).0

    pub still_none : (q : ℕ) → id_at names q ≡ None → id_at (swept (without_ids names goes)) q ≡ None
    still_none q none =
        elim (id_at (swept (without_ids names goes)) q) as (λ o. id_at (swept (without_ids names goes)) q ≡ o → o ≡ None) [
          | None ↦ λ is. refl
          | Some entry ↦ λ is. absurd (none_not_some none (was_at q entry is).0)
        ] refl

    pub still_at : LeadsDown names → (q : ℕ) (entry : IdRecord) → id_at names q ≡ Some entry → IsOutside entry.holder → goes q (Some entry) ≡ false
        → id_at (swept (without_ids names goes)) q ≡ Some entry
    still_at down q entry is outside fixed =
        id-kept (without_ids names goes) (down_without names goes down) q entry (stays_at names goes q entry is fixed) (up_from_outside (without_ids names goes) entry.holder outside)

  -- ---- References

  -- who holds what a reference names
  pub held_at : (names : NameState C) (id : Id) (holder : Holder) → holder_of names id ≡ Some holder
      → (entry : IdRecord) × (id_at names id.number ≡ Some entry) × (entry.owner ≡ id.owner) × (entry.holder ≡ holder)
  held_at names id holder is =
      elim (record_of names id) as (λ o. record_of names id ≡ o → option_map (λ (e : IdRecord). e.holder) o ≡ Some holder
      → (entry : IdRecord) × (id_at names id.number ≡ Some entry) × (entry.owner ≡ id.owner) × (entry.holder ≡ holder)) [
        | None ↦ λ at held. absurd (none_not_some refl held)
        | Some entry ↦ λ at held. let found = naming-number names id entry at in (entry, found.0, found.1, same_some entry.holder holder held)
      ] refl is

  -- who holds an identifier that is there
  pub holder_at : (names : NameState C) (id : Id) (holder : Holder) (entry : IdRecord) → id_at names id.number ≡ Some entry → entry.owner ≡ id.owner → entry.holder ≡ holder
      → holder_of names id ≡ Some holder
  holder_at names id holder entry is owner held = ap (option_map (λ (e : IdRecord). e.holder)) (number-naming names id entry is owner) ∙ ap Some held

  -- a reference is still of its holder, where its identifier does not go
  pub still_ref : (names : NameState C) (goes : ℕ → Option IdRecord → Bool) (holder : Holder) (r : Ref) → LeadsDown names → IsOutside holder → IsRefOf names holder r
      → ((id : Id) (entry : IdRecord) → r ≡ Held id → id_at names id.number ≡ Some entry → entry.holder ≡ holder → goes id.number (Some entry) ≡ false)
      → IsRefOf (swept (without_ids names goes)) holder r
  still_ref names goes holder Null down outside is fixed = tt
  still_ref names goes holder (Held id) down outside is fixed =
      let found = held_at names id holder is in
      holder_at (swept (without_ids names goes)) id holder found.0
      (still_at names goes down id.number found.0 found.1 (subst IsOutside (sym found.3) outside) (fixed id found.0 refl found.1 found.3)) found.2 found.3

  -- one identifier goes
  pub one_goes : (names : NameState C) (id : Id) → swept (without_id names id.number) ≡ swept (without_ids names (is_number_of (Held id)))
  one_goes names id =
      ap swept (same_state (without_id names id.number) (without_ids names (is_number_of (Held id)))
      (λ q. same_options _ _
      (λ entry is.
      let was = removed_from names.ids id.number q entry is in
      stays_at names (is_number_of (Held id)) q entry was.1 (test_apart q id.number was.0))
      (λ entry is.
      let was = left_at names (is_number_of (Held id)) q entry is in
      removed_other names.ids id.number q (λ same. let clash : true ≡ false = sym (ap (λ n. is_number_of (Held id) n (Some entry)) same ∙ test_same id.number) ∙ was.1 in cc) ∙ was.0))
      (λ q. refl))

  -- null names nothing
  pub null_goes : (arity : C → ℕ) (names : NameState C) → IsSound arity names → AreReached names → names ≡ swept (without_ids names (is_number_of Null))
  null_goes arity names sound reached = sym (none_go arity names (is_number_of Null) sound reached (λ q entry is. refl))

-- which number is that of a reference
pub number_is : (r : Ref) (q : ℕ) (entry : Option IdRecord) → is_number_of r q entry ≡ true → (id : Id) × (r ≡ Held id) × (q ≡ id.number)
number_is Null q entry is = absurd (let clash : false ≡ true = is in cc)
number_is (Held id) q entry is = (id, refl, same_from_test q id.number is)

pub is_its_number : (r : Ref) (id : Id) (entry : Option IdRecord) → r ≡ Held id → is_number_of r id.number entry ≡ true
is_its_number r id entry is = ap (λ (x : Ref). is_number_of x id.number entry) is ∙ test_same id.number

-- it is that of no other
pub not_its_number : (r : Ref) (q : ℕ) (entry : Option IdRecord) → ((id : Id) → r ≡ Held id → q ≡ id.number → ⊥) → is_number_of r q entry ≡ false
not_its_number r q entry other = false_or (is_number_of r q entry) (λ is. let found = number_is r q entry is in other found.0 found.1 found.2)
