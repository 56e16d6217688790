-- The order of copies and of deletes is of no account: copies of one reference for the same numbers, and deletes with sweeps in between.
use Rattle.std.proofs.Common.{◌≡◌, ℕ, inl, inr, Bool, true, false, List, [], ◌∷◌, Option, None, Some, refl, sym, ap, ◌∙◌}
use Rattle.std.specs.FinMap as map
use Rattle.cht_ids.specs.declared.refs.Id.{Id}
use Rattle.cht_ids.specs.declared.refs.Ref.{Ref}
use Rattle.cht_ids.specs.declared.refs.Ref.TheVariants.{Null, Id as Held}
use Rattle.name_states.specs.declared.holder.Holder.{Holder}
use Rattle.name_states.specs.States.{NameState, IdRecord, id_at, record_of, IsLiveRef}
use Rattle.name_states.specs.Steps.{without_id}
use Rattle.name_states.specs.Reached.{swept}
use Rattle.name_states.specs.Rules.{IsSound, AreReached}
use Rattle.name_states.proofs.Basics.{none_not_some, some_value, same_options, removed_other, removed_from}
use Rattle.name_states.proofs.Within.{naming-number}
use Rattle.name_states.proofs.Reaching.{LeadsDown, sound-down}
use Rattle.name_states.proofs.SweptOnce.{same_state, once-down, nothing_goes}
use Rattle.name_machine.specs.Control.{copies_of, without_ids}
use Rattle.name_machine.proofs.Fewer.{left_at, stays_at}
use Rattle.name_machine.proofs.Grow.{false_or}
use Rattle.name_machine.proofs.FinishNames.{IsIn, copies_from, copies_here, copies_other, null_copies, copies_bodies}

module _ {C : Type 0} where
  -- ---- Copies

  -- numbers that are free, no one with two holders
  pub record AreFree (state : NameState C) (list : List (ℕ × Holder)) : Type 0 where
    pub free : (n : ℕ) (h : Holder) → IsIn {X = ℕ × Holder} (n, h) list → id_at state n ≡ None
    pub one : (n : ℕ) (h k : Holder) → IsIn {X = ℕ × Holder} (n, h) list → IsIn {X = ℕ × Holder} (n, k) list → h ≡ k

  module _ (state : NameState C) (id : Id) (source : IdRecord) (at : id_at state id.number ≡ Some source) where
    apart : (list : List (ℕ × Holder)) → AreFree state list → (n : ℕ) (h : Holder) → IsIn {X = ℕ × Holder} (n, h) list → n ≡ id.number → ⊥
    apart list free n h among same = none_not_some (free.free n h among) (ap (id_at state) same ∙ at)

    one_way : (list other : List (ℕ × Holder)) → AreFree state list → AreFree state other → ((n : ℕ) (h : Holder) → IsIn {X = ℕ × Holder} (n, h) list → IsIn {X = ℕ × Holder} (n, h) other)
        → (q : ℕ) (entry : IdRecord) → id_at (copies_of state (Held id) list) q ≡ Some entry → id_at (copies_of state (Held id) other) q ≡ Some entry
    one_way list other free free_too all q entry is =
        elim (copies_from id source state list q entry at (apart list free) is) [
          | inl was ↦ copies_other id source state other q at (apart other free_too) (λ h among. none_not_some (free_too.free q h among) was) ∙ was
          | inr new ↦
              let among = all q new.0 new.1 in
              copies_here id source state other q new.0 at (apart other free_too) (λ h rest. free_too.one q h new.0 rest among) among ∙ ap Some (sym new.2)
        ]

  -- copies for the same numbers and holders, in any order, are the same names
  pub copies_in_any_order : (state : NameState C) (r : Ref) (list other : List (ℕ × Holder)) → IsLiveRef state r → AreFree state list → AreFree state other
      → ((n : ℕ) (h : Holder) → IsIn {X = ℕ × Holder} (n, h) list → IsIn {X = ℕ × Holder} (n, h) other) → ((n : ℕ) (h : Holder) → IsIn {X = ℕ × Holder} (n, h) other → IsIn {X = ℕ × Holder} (n, h) list)
      → copies_of state r list ≡ copies_of state r other
  copies_in_any_order state Null list other live free free_too to back = null_copies state list ∙ sym (null_copies state other)
  copies_in_any_order state (Held id) list other live free free_too to back =
      let found = some_value (record_of state id) live in
      let at = (naming-number state id found.0 found.1).0 in
      same_state (copies_of state (Held id) list) (copies_of state (Held id) other)
      (λ q. same_options _ _ (one_way state id found.0 at list other free free_too to q) (one_way state id found.0 at other list free_too free back q))
      (λ q. ap (λ bodies. map.get bodies q) (copies_bodies state (Held id) list ∙ sym (copies_bodies state (Held id) other)))

  -- ---- Deletes

  -- identifiers go one after the other
  abbrev pub without_all : NameState C → List ℕ → NameState C
  without_all state [] = state
  without_all state (number ∷ more) = without_all (without_id state number) more

  -- the same, and what is not reached goes each time
  abbrev pub deleted_all : NameState C → List ℕ → NameState C
  deleted_all state [] = state
  deleted_all state (number ∷ more) = deleted_all (swept (without_id state number)) more

  down_without : (state : NameState C) (number : ℕ) → LeadsDown state → LeadsDown (without_id state number)
  down_without state number down = record {
    there = λ q entry is. down.there q entry (removed_from state.ids number q entry is).1;
    below = λ q entry holder is held. down.below q entry holder (removed_from state.ids number q entry is).1 held;
  }

  -- one sweep at the end is enough
  pub deleted_once : (state : NameState C) (list : List ℕ) → LeadsDown state → deleted_all (swept state) list ≡ swept (without_all state list)
  deleted_once state [] down = refl
  deleted_once state (number ∷ more) down =
      ap (λ names. deleted_all names more) (once-down state number down) ∙ deleted_once (without_id state number) more (down_without state number down)

  all_gone : (state : NameState C) (list : List ℕ) (q : ℕ) (entry : IdRecord) → id_at (without_all state list) q ≡ Some entry → (id_at state q ≡ Some entry) × (IsIn q list → ⊥)
  all_gone state [] q entry is = (is, λ among. among)
  all_gone state (number ∷ more) q entry is =
      let rest = all_gone (without_id state number) more q entry is in
      let was = removed_from state.ids number q entry rest.0 in
      (was.1, among_neither q number more was.0 rest.1)
    where
      among_neither : (x y : ℕ) (ys : List ℕ) → (x ≡ y → ⊥) → (IsIn x ys → ⊥) → IsIn x (y ∷ ys) → ⊥
      among_neither x y ys other none (inl here) = other here
      among_neither x y ys other none (inr rest) = none rest

  all_others : (state : NameState C) (list : List ℕ) (q : ℕ) (entry : IdRecord) → id_at state q ≡ Some entry → (IsIn q list → ⊥) → id_at (without_all state list) q ≡ Some entry
  all_others state [] q entry is none = is
  all_others state (number ∷ more) q entry is none =
      all_others (without_id state number) more q entry (removed_other state.ids number q (λ same. none (inl same)) ∙ is) (λ among. none (inr among))

  all_bodies : (state : NameState C) (list : List ℕ) → (without_all state list).bodies ≡ state.bodies
  all_bodies state [] = refl
  all_bodies state (number ∷ more) = all_bodies (without_id state number) more

  -- deletes of all that a test names, with a sweep after each, leave what is swept without them
  pub deleted_are : (arity : C → ℕ) (state : NameState C) (goes : ℕ → Option IdRecord → Bool) (list : List ℕ) → IsSound arity state → AreReached state
      → ((q : ℕ) (entry : IdRecord) → id_at state q ≡ Some entry → IsIn q list → goes q (Some entry) ≡ true)
      → ((q : ℕ) (entry : IdRecord) → id_at state q ≡ Some entry → goes q (Some entry) ≡ true → IsIn q list)
      → deleted_all state list ≡ swept (without_ids state goes)
  deleted_are arity state goes list sound reached go listed =
      ap (λ names. deleted_all names list) (sym (nothing_goes arity state sound reached))
      ∙ deleted_once state list (sound-down arity state sound)
      ∙ ap swept
      (same_state (without_all state list) (without_ids state goes)
      (λ q. same_options _ _
      (λ entry is.
      let was = all_gone state list q entry is in
      stays_at state goes q entry was.0 (false_or (goes q (Some entry)) (λ some. was.1 (listed q entry was.0 some))))
      (λ entry is.
      let was = left_at state goes q entry is in
      all_others state list q entry was.0 (λ among. let clash : true ≡ false = sym (go q entry was.0 among) ∙ was.1 in cc)))
      (λ q. ap (λ bodies. map.get bodies q) (all_bodies state list)))
