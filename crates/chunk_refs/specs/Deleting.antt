-- One step of a deletion, and how far the deletion has come.
use Rattle.std.specs.Prelude.{◌≡◌, ℕ, Bool, ◌+◌, ◌-◌, ◌⊎◌, nat_eq, if◌then◌else◌, List, [], ◌∷◌, Option, Some}
use Rattle.cht_ids.specs.declared.refs.Ref.{Ref}
use Rattle.cht_ids.specs.declared.refs.Ref.TheVariants.{Null, Id as Held}
use Rattle.chunk_store.specs.Contents.{Contents as Stored}
use Rattle.chunk_refs.specs.declared.parts.StoredId.{StoredId}
use Rattle.chunk_refs.specs.declared.parts.Spot.{Spot}
use Rattle.chunk_refs.specs.declared.parts.Chunk.{Chunk}
use Rattle.name_states.specs.States.{NameState, IdRecord, BodyRecord, id_at, body_at}
use Rattle.name_states.specs.Steps.{without_id, without_body}
use Rattle.name_states.specs.Reached.{IsReached, IsHeldUp}
use Rattle.name_states.specs.Rules.{IsSound}
use Rattle.chunk_refs.specs.Inside.{ArePlaced}

module _ {C : Type 0} where
  -- a body with one identifier more
  abbrev pub one_more : Chunk C → Chunk C
  one_more chunk = record chunk { names = chunk.names + 1; next = chunk.next }

  -- whether a body loses its last identifier with the next one
  abbrev pub is_last : Chunk C → Bool
  is_last chunk = nat_eq (chunk.names - 1) 0

  -- a body with one identifier less; where none is left it leads on to the first of the chain
  abbrev pub one_less : Chunk C → Option Spot → Chunk C
  one_less chunk first = record chunk { names = chunk.names - 1; next = if is_last chunk then first else chunk.next }

  -- the last identifier of the body in a place ended, and the body comes in front of the chain
  pub record IsLast (before after : List (Stored (Chunk C))) (name : StoredId) (chunk : Chunk C) (first later : Option Spot) : Type 0 where
    pub one : chunk.names ≡ 1
    pub placed : ArePlaced before after name.owner name.key (Some (record chunk { names = 0; next = first }))
    pub front : later ≡ Some (record { owner = name.owner; key = name.key })

  -- the body in a place counts one identifier less, and has others
  pub record IsOneLess (before after : List (Stored (Chunk C))) (name : StoredId) (chunk : Chunk C) (first later : Option Spot) : Type 0 where
    pub left : ℕ
    pub less : left + 1 ≡ chunk.names
    pub some_left : left ≡ 0 → ⊥
    pub placed : ArePlaced before after name.owner name.key (Some (record chunk { names = left; next = chunk.next }))
    pub front : later ≡ first

  -- the one or the other
  abbrev pub IsReleased : List (Stored (Chunk C)) → List (Stored (Chunk C)) → StoredId → Chunk C → Option Spot → Option Spot → Type 0
  IsReleased before after name chunk first later = IsLast before after name chunk first later ⊎ IsOneLess before after name chunk first later

  -- all but the identifiers among these references
  abbrev pub without_refs : NameState C → List Ref → NameState C
  without_refs names [] = names
  without_refs names (Null ∷ refs) = without_refs names refs
  without_refs names (Held id ∷ refs) = without_refs (without_id names id.number) refs

  -- one body that no identifier names went, with the identifiers of its children
  abbrev pub IsTaken : NameState C → NameState C → Type 0
  IsTaken before after =
      (number : ℕ) × (body : BodyRecord C) × (body_at before number ≡ Some body)
      × ((id : ℕ) (entry : IdRecord) → id_at before id ≡ Some entry → entry.body ≡ number → ⊥)
      × (after ≡ without_refs (without_body before number) body.children)

  -- A deletion so far: nothing is new, and what was reached when it began is as it was.
  pub record IsPartial (arity : C → ℕ) (before now : NameState C) : Type 0 where
    pub sound : IsSound arity now
    pub ids : (number : ℕ) (entry : IdRecord) → id_at now number ≡ Some entry → id_at before number ≡ Some entry
    pub bodies : (number : ℕ) (body : BodyRecord C) → body_at now number ≡ Some body → body_at before number ≡ Some body
    pub ids_stay : (number : ℕ) (entry : IdRecord) → id_at before number ≡ Some entry → IsHeldUp before entry.holder → id_at now number ≡ Some entry
    pub bodies_stay : (number : ℕ) (body : BodyRecord C) → body_at before number ≡ Some body → IsReached before number → body_at now number ≡ Some body
