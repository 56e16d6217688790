-- Numbers of names stay below what was drawn, and what is live stays live.
use Rattle.std.proofs.Common.{◌≡◌, ℕ, ◌+◌, ◌<◌, ◌≤◌, true, false, cond, inl, inr, List, [], ◌∷◌, Option, Some, None, is_some, IsSome, nat_eq, refl, sym, ap, subst, ◌∙◌, arith}
use Rattle.std.specs.Ordering.{nat_cmp}
use Rattle.std.specs.FinMap as map
use Rattle.cht_ids.specs.declared.refs.Id.{Id}
use Rattle.cht_ids.specs.declared.refs.Ref.{Ref}
use Rattle.cht_ids.specs.declared.refs.Ref.TheVariants.{Null, Id as Held}
use Rattle.name_states.specs.declared.holder.Holder.{Holder}
use Rattle.name_states.specs.States.{NameState, IdRecord, BodyRecord, id_at, body_at, record_of, owned_by, IsLive, IsLiveRef, AreLive}
use Rattle.name_states.specs.Steps.{with_id, with_body, with_copy, copied, linked_ref, drawn_by}
use Rattle.name_states.specs.Rules.{AreWithin}
use Rattle.name_states.proofs.Basics.{none_not_some, some_value, same_some, same_from_test, test_same, inserted_from, inserted_other}

none_past : {X : Type 0} (found : Option X) (number bound : ℕ) → (IsSome found → number ≤ bound) → bound < number → found ≡ None
none_past None number bound low past = refl
none_past (Some x) number bound low past = absurd (omega (arith, low refl, past))

inserted-within : {X : Type 0} (m : map.FinMap nat_cmp X) (key : ℕ) (value : X) (bound : ℕ) → ((q : ℕ) → IsSome (map.get m q) → q ≤ bound) → key ≤ bound
    → (q : ℕ) → IsSome (map.get (map.insert m key value) q) → q ≤ bound
inserted-within m key value bound within low q some =
    let found = some_value (map.get (map.insert m key value) q) some in
    elim (inserted_from m key q value found.0 found.1) [
      | inl h ↦ omega (arith, h.0, low)
      | inr h ↦ within q (ap is_some h.1)
    ]

live-owned : (owner : ℕ) (found other : Option IdRecord) → ((naming : IdRecord) → found ≡ Some naming → other ≡ Some naming) → IsSome (owned_by owner found) → owned_by owner other ≡ owned_by owner found
live-owned owner None other same some = absurd (none_not_some refl (some_value (owned_by owner None) some).1)
live-owned owner (Some naming) other same some = ap (owned_by owner) (same naming refl)

behind_owner : (owner : ℕ) (found : Option IdRecord) → IsSome (owned_by owner found) → (naming : IdRecord) × (found ≡ Some naming) × (naming.owner ≡ owner)
behind_owner owner None some = absurd (cc)
behind_owner owner (Some naming) some =
    elim (nat_eq naming.owner owner) as (λ t. nat_eq naming.owner owner ≡ t → IsSome (cond t (Some naming) None) → (n : IdRecord) × (◌≡◌ {A = Option IdRecord} (Some naming) (Some n)) × (n.owner ≡ owner)) [
      | true ↦ λ same present. (naming, refl, same_from_test naming.owner owner same)
      | false ↦ λ apart present. absurd (none_not_some refl (some_value {X = IdRecord} None present).1)
    ] refl some

-- a naming of an owner
pub owned-same : (owner : ℕ) (naming : IdRecord) → naming.owner ≡ owner → owned_by owner (Some naming) ≡ Some naming
owned-same owner naming same = ap (λ b. cond b (Some naming) None) (ap (λ o. nat_eq o owner) same ∙ test_same owner)

module _ {C : Type 0} where
  -- a number that was not drawn yet names nothing
  pub unnamed-next : (names : NameState C) (bound number : ℕ) → AreWithin names bound → bound < number → id_at names number ≡ None
  unnamed-next names bound number within past = none_past (id_at names number) number bound (within.ids number) past

  pub bodiless-next : (names : NameState C) (bound number : ℕ) → AreWithin names bound → bound < number → body_at names number ≡ None
  bodiless-next names bound number within past = none_past (body_at names number) number bound (within.bodies number) past

  pub within-more : (names : NameState C) (bound more : ℕ) → AreWithin names bound → bound ≤ more → AreWithin names more
  within-more names bound more within low = record { ids = λ q some. omega (arith, within.ids q some, low); bodies = λ q some. omega (arith, within.bodies q some, low) }

  pub within-id : (names : NameState C) (number : ℕ) (naming : IdRecord) (bound : ℕ) → AreWithin names bound → number ≤ bound → AreWithin (with_id names number naming) bound
  within-id names number naming bound within low = record { ids = inserted-within names.ids number naming bound within.ids low; bodies = within.bodies }

  pub within-body : (names : NameState C) (number : ℕ) (body : BodyRecord C) (bound : ℕ) → AreWithin names bound → number ≤ bound → AreWithin (with_body names number body) bound
  within-body names number body bound within low = record { ids = within.ids; bodies = inserted-within names.bodies number body bound within.bodies low }

  within-naming : (names : NameState C) (number : ℕ) (holder : Holder) (found : Option IdRecord) (bound : ℕ) → AreWithin names bound → number ≤ bound → AreWithin (with_copy names number holder found) bound
  within-naming names number holder None bound within low = within
  within-naming names number holder (Some naming) bound within low = within-id names number (record naming { holder = holder }) bound within low

  pub within-copied : (names : NameState C) (from number : ℕ) (holder : Holder) (bound : ℕ) → AreWithin names bound → number ≤ bound → AreWithin (copied names from number holder) bound
  within-copied names from number holder bound within low = within-naming names number holder (id_at names from) bound within low

  pub within-linked_ref : (names : NameState C) (drawn : ℕ) (holder : Holder) (child : Ref) → AreWithin names drawn → AreWithin (linked_ref names drawn holder child) (drawn + drawn_by child)
  within-linked_ref names drawn holder Null within = within-more names drawn (drawn + 0) within (omega arith)
  within-linked_ref names drawn holder (Held id) within = within-copied names id.number (drawn + 1) holder (drawn + 1) (within-more names drawn (drawn + 1) within (omega arith)) (omega arith)

  -- what a free number gets leaves the others as they were
  pub naming-kept : (names : NameState C) (number : ℕ) (naming : IdRecord) (q : ℕ) (other : IdRecord) → id_at names number ≡ None → id_at names q ≡ Some other → id_at (with_id names number naming) q ≡ Some other
  naming-kept names number naming q other free is = inserted_other names.ids number q naming (λ same. none_not_some (ap (id_at names) same ∙ free) is) ∙ is

  -- an identifier that is live names what it named, where each number that named something names it still
  pub naming_of-kept : (names more : NameState C) (id : Id) → ((q : ℕ) (naming : IdRecord) → id_at names q ≡ Some naming → id_at more q ≡ Some naming) → IsLive names id → record_of more id ≡ record_of names id
  naming_of-kept names more id kept live = live-owned id.owner (id_at names id.number) (id_at more id.number) (kept id.number) live

  pub live-kept : (names more : NameState C) (r : Ref) → ((q : ℕ) (naming : IdRecord) → id_at names q ≡ Some naming → id_at more q ≡ Some naming) → IsLiveRef names r → IsLiveRef more r
  live-kept names more Null kept live = tt
  live-kept names more (Held id) kept live = ap is_some (naming_of-kept names more id kept live) ∙ live

  pub all-live-kept : (names more : NameState C) (refs : List Ref) → ((q : ℕ) (naming : IdRecord) → id_at names q ≡ Some naming → id_at more q ≡ Some naming) → AreLive names refs → AreLive more refs
  all-live-kept names more [] kept live = tt
  all-live-kept names more (r ∷ refs) kept live = (live-kept names more r kept live.0, all-live-kept names more refs kept live.1)

  kept-naming : (names : NameState C) (number : ℕ) (holder : Holder) (found : Option IdRecord) → id_at names number ≡ None
      → (q : ℕ) (naming : IdRecord) → id_at names q ≡ Some naming → id_at (with_copy names number holder found) q ≡ Some naming
  kept-naming names number holder None free q naming is = is
  kept-naming names number holder (Some from) free q naming is = naming-kept names number (record from { holder = holder }) q naming free is

  pub copied-keeps : (names : NameState C) (from number : ℕ) (holder : Holder) → id_at names number ≡ None
      → (q : ℕ) (naming : IdRecord) → id_at names q ≡ Some naming → id_at (copied names from number holder) q ≡ Some naming
  copied-keeps names from number holder free q naming is = kept-naming names number holder (id_at names from) free q naming is

  pub linked_ref-keeps : (names : NameState C) (drawn : ℕ) (holder : Holder) (child : Ref) → AreWithin names drawn
      → (q : ℕ) (naming : IdRecord) → id_at names q ≡ Some naming → id_at (linked_ref names drawn holder child) q ≡ Some naming
  linked_ref-keeps names drawn holder Null within q naming is = is
  linked_ref-keeps names drawn holder (Held id) within q naming is = copied-keeps names id.number (drawn + 1) holder (unnamed-next names drawn (drawn + 1) within (omega arith)) q naming is

  -- a live identifier has a naming under its number
  pub live-number : (names : NameState C) (id : Id) → IsLive names id → (naming : IdRecord) × (id_at names id.number ≡ Some naming) × (naming.owner ≡ id.owner)
  live-number names id live = behind_owner id.owner (id_at names id.number) live

  -- all that some names have, others have too
  pub record AreMore (names more : NameState C) : Type 0 where
    pub ids : (number : ℕ) (naming : IdRecord) → id_at names number ≡ Some naming → id_at more number ≡ Some naming
    pub bodies : (number : ℕ) (body : BodyRecord C) → body_at names number ≡ Some body → body_at more number ≡ Some body

  -- a body with its first identifier
  abbrev pub with_both : NameState C → ℕ → ℕ → Holder → ℕ → C → List Ref → NameState C
  with_both names number name holder worker content refs =
      with_id (with_body names number (record { owner = worker; content = content; children = refs })) name (record { owner = worker; body = number; holder = holder })

  pub within-both : (names : NameState C) (drawn number name : ℕ) (holder : Holder) (worker : ℕ) (content : C) (refs : List Ref) → AreWithin names drawn → number ≡ drawn + 1 → name ≡ drawn + 2
      → AreWithin (with_both names number name holder worker content refs) name
  within-both names drawn number name holder worker content refs within n m =
      within-id _ name _ name (within-body names number _ name (within-more names drawn name within (omega arith)) (omega arith)) (omega arith)

  pub kept-both : (names : NameState C) (drawn number name : ℕ) (holder : Holder) (worker : ℕ) (content : C) (refs : List Ref) → AreWithin names drawn → name ≡ drawn + 2
      → (q : ℕ) (naming : IdRecord) → id_at names q ≡ Some naming → id_at (with_both names number name holder worker content refs) q ≡ Some naming
  kept-both names drawn number name holder worker content refs within m q naming is =
      naming-kept names name (record { owner = worker; body = number; holder = holder }) q naming (unnamed-next names drawn name within (omega arith)) is

-- what an identifier names is what its number names, with its owner
pub naming-number : {C : Type 0} (names : NameState C) (id : Id) (naming : IdRecord) → record_of names id ≡ Some naming → (id_at names id.number ≡ Some naming) × (naming.owner ≡ id.owner)
naming-number names id naming is =
    let live = live-number names id (ap is_some is) in
    let same : live.0 ≡ naming = same_some live.0 naming (sym (ap (owned_by id.owner) live.1 ∙ owned-same id.owner live.0 live.2) ∙ is) in
    (live.1 ∙ ap Some same, ap (λ (n : IdRecord). n.owner) (sym same) ∙ live.2)

pub number-naming : {C : Type 0} (names : NameState C) (id : Id) (naming : IdRecord) → id_at names id.number ≡ Some naming → naming.owner ≡ id.owner → record_of names id ≡ Some naming
number-naming names id naming is owner = ap (owned_by id.owner) is ∙ owned-same id.owner naming owner

-- after a copy with the next number
pub copy-within : {C : Type 0} (names after : NameState C) (drawn from : ℕ) (holder : Holder) → AreWithin names drawn → after ≡ copied names from (drawn + 1) holder → AreWithin after (drawn + 1)
copy-within names after drawn from holder within is =
    subst (λ n. AreWithin n (drawn + 1)) (sym is) (within-copied names from (drawn + 1) holder (drawn + 1) (within-more names drawn (drawn + 1) within (omega arith)) (omega arith))

pub copy-live : {C : Type 0} (names after : NameState C) (drawn from : ℕ) (holder : Holder) → AreWithin names drawn → after ≡ copied names from (drawn + 1) holder
    → (r : Ref) → IsLiveRef names r → IsLiveRef after r
copy-live names after drawn from holder within is r live =
    subst (λ n. IsLiveRef n r) (sym is) (live-kept names (copied names from (drawn + 1) holder) r (copied-keeps names from (drawn + 1) holder (unnamed-next names drawn (drawn + 1) within (omega arith))) live)

-- a child draws at most one number
pub drawn_few : (r : Ref) → drawn_by r ≤ 1
drawn_few Null = omega arith
drawn_few (Held id) = omega arith
