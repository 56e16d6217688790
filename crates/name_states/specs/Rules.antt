-- What holds of the names after each call.
use Rattle.std.specs.Prelude.{◌≡◌, ℕ, ◌≤◌, ◌<◌, length, slice_get, Some, IsSome}
use Rattle.cht_ids.specs.declared.refs.Id.{Id}
use Rattle.cht_ids.specs.declared.refs.Ref.TheVariants.{Id as Held}
use Rattle.name_states.specs.declared.holder.Holder.TheVariants.{Body}
use Rattle.name_states.specs.States.{NameState, IdRecord, BodyRecord, id_at, body_at}
use Rattle.name_states.specs.Reached.{IsReached}

module _ {C : Type 0} where
  -- the record of an identifier leads to a body, of the owner that it says
  abbrev pub LeadsToBody : NameState C → IdRecord → Type 0
  LeadsToBody names entry = (body : BodyRecord C) × (body_at names entry.body ≡ Some body) × (body.owner ≡ entry.owner)

  -- an identifier is live, is held by the body with a number, and names a body with a lower number
  abbrev pub IsHeldBy : NameState C → ℕ → Id → Type 0
  IsHeldBy names holder id =
      (entry : IdRecord) × (id_at names id.number ≡ Some entry) × (entry.owner ≡ id.owner) × (entry.holder ≡ Body holder) × (entry.body < holder)

  -- an identifier is a child of the body with a number
  abbrev pub IsChildOf : NameState C → ℕ → Id → Type 0
  IsChildOf names holder id =
      (body : BodyRecord C) × (j : ℕ) × (body_at names holder ≡ Some body) × (slice_get body.children j ≡ Some (Held id))

  -- Each identifier names a body of its owner. The identifiers that bodies hold are exactly their children that are not
  -- null, each held by its own body, and each names a body with a lower number. Each body has as many children as its
  -- content wants.
  pub record IsSound (arity : C → ℕ) (names : NameState C) : Type 0 where
    pub named : (number : ℕ) (entry : IdRecord) → id_at names number ≡ Some entry → LeadsToBody names entry
    pub children : (number : ℕ) (body : BodyRecord C) (j : ℕ) (id : Id) → body_at names number ≡ Some body → slice_get body.children j ≡ Some (Held id) → IsHeldBy names number id
    pub held : (number : ℕ) (entry : IdRecord) (holder : ℕ) → id_at names number ≡ Some entry → entry.holder ≡ Body holder
        → IsChildOf names holder (record { owner = entry.owner; number = number })
    pub all_children : (number : ℕ) (body : BodyRecord C) → body_at names number ≡ Some body → length body.children ≡ arity body.content

  -- each body is reached
  abbrev pub AreReached : NameState C → Type 0
  AreReached names = (number : ℕ) → IsSome (body_at names number) → IsReached names number

  -- no live identifier and no body has a number above this one
  pub record AreWithin (names : NameState C) (bound : ℕ) : Type 0 where
    pub ids : (number : ℕ) → IsSome (id_at names number) → number ≤ bound
    pub bodies : (number : ℕ) → IsSome (body_at names number) → number ≤ bound
