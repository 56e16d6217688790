-- The state of names: which identifiers are live, what each names and who holds it, and the bodies. What a body keeps of
-- its content is a parameter: the content itself, or no more than the number of its children.
use Rattle.std.specs.Prelude.{ℕ, ◌==◌, if◌then◌else◌, List, [], ◌∷◌, Option, None, Some, IsSome}
use Rattle.std.specs.Option.{option_map}
use Rattle.std.specs.Ordering.{nat_cmp}
use Rattle.std.specs.FinMap as map
use Rattle.cht_ids.specs.declared.refs.Id.{Id}
use Rattle.cht_ids.specs.declared.refs.Ref.{Ref}
use Rattle.cht_ids.specs.declared.refs.Ref.TheVariants.{Null, Id as Held}
use Rattle.name_states.specs.declared.holder.Holder.{Holder}

-- what a live identifier names: its body by number, with the body's owner, and who holds the identifier
pub record IdRecord : Type 0 where
  pub owner : ℕ
  pub body : ℕ
  pub holder : Holder

-- a registered body: the worker that owns it, what is kept of its content, and a reference for each of its children
pub record BodyRecord (C : Type 0) : Type 0 where
  pub owner : ℕ
  pub content : C
  pub children : List Ref

-- The live identifiers by number, and the bodies by number. C is what bodies keep of their contents.
pub record NameState (C : Type 0) : Type 0 where
  pub ids : map.FinMap nat_cmp IdRecord
  pub bodies : map.FinMap nat_cmp (BodyRecord C)

-- what a number names where the owner is this one
abbrev pub owned_by : ℕ → Option IdRecord → Option IdRecord
owned_by owner None = None
owned_by owner (Some entry) = if entry.owner == owner then Some entry else None

module _ {C : Type 0} where
  -- no identifiers and no bodies
  abbrev pub no_names : NameState C
  no_names = record { ids = map.empty; bodies = map.empty }

  -- what the number of a live identifier names
  abbrev pub id_at : NameState C → ℕ → Option IdRecord
  id_at names number = map.get names.ids number

  -- the body with a number
  abbrev pub body_at : NameState C → ℕ → Option (BodyRecord C)
  body_at names number = map.get names.bodies number

  -- what an identifier names; nothing where it is not live
  abbrev pub record_of : NameState C → Id → Option IdRecord
  record_of names id = owned_by id.owner (id_at names id.number)

  -- an identifier that is live
  abbrev pub IsLive : NameState C → Id → Type 0
  IsLive names id = IsSome (record_of names id)

  -- null, or a live identifier
  abbrev pub IsLiveRef : NameState C → Ref → Type 0
  IsLiveRef names Null = Unit {0}
  IsLiveRef names (Held id) = IsLive names id

  -- references each of which is so
  abbrev pub AreLive : NameState C → List Ref → Type 0
  AreLive names [] = Unit {0}
  AreLive names (r ∷ refs) = IsLiveRef names r × AreLive names refs

  -- who holds an identifier; nobody where it is not live
  abbrev pub holder_of : NameState C → Id → Option Holder
  holder_of names id = option_map (λ entry. entry.holder) (record_of names id)

  -- the number of the body that an identifier names
  abbrev pub body_of : NameState C → Id → Option ℕ
  body_of names id = option_map (λ entry. entry.body) (record_of names id)

  -- the body that the record of an identifier leads to
  abbrev pub body_named : NameState C → Option IdRecord → Option (BodyRecord C)
  body_named names None = None
  body_named names (Some entry) = body_at names entry.body

  -- the body that an identifier names
  abbrev pub body_record_of : NameState C → Id → Option (BodyRecord C)
  body_record_of names id = body_named names (record_of names id)

  -- the content of the body that an identifier names
  abbrev pub content_of : NameState C → Id → Option C
  content_of names id = option_map (λ body. body.content) (body_record_of names id)

  -- the children of a body, if there is one
  abbrev pub children_in : Option (BodyRecord C) → List Ref
  children_in None = []
  children_in (Some body) = body.children

  -- the children of the body that an identifier names
  abbrev pub children_of : NameState C → Id → List Ref
  children_of names id = children_in (body_record_of names id)

  -- how many identifiers are live
  abbrev pub live_ids : NameState C → ℕ
  live_ids names = map.len names.ids

  -- how many bodies there are
  abbrev pub live_bodies : NameState C → ℕ
  live_bodies names = map.len names.bodies
