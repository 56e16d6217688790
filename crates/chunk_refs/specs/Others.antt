-- What a call leaves of the names that it does not speak of, and who holds the children of a body.
use Rattle.std.specs.Prelude.{◌≡◌, ◌≢◌, ◌⊎◌, Some}
use Rattle.std.specs.Option.{option_map}
use Rattle.cht_ids.specs.declared.refs.Id.{Id}
use Rattle.cht_ids.specs.declared.refs.Ref.{Ref}
use Rattle.cht_ids.specs.declared.refs.Ref.TheVariants.{Null, Id as Held}
use Rattle.name_states.specs.declared.holder.Holder.{Holder}
use Rattle.name_states.specs.declared.holder.Holder.TheVariants.{Body}
use Rattle.name_states.specs.States.{NameState, IdRecord, record_of, IsLive, holder_of, body_of, content_of, children_of}
use Rattle.name_states.specs.Steps.{IsOutside}
use Rattle.name_states.specs.Trees.{tree_of}

module _ {C : Type 0} where
  -- An identifier has the holder that it had, names the body that it named, with the same content and children, and leads
  -- to the tree that it led to.
  pub record IsAsBefore (before after : NameState C) (id : Id) : Type 0 where
    pub holder : holder_of after id ≡ holder_of before id
    pub body : body_of after id ≡ body_of before id
    pub content : content_of after id ≡ content_of before id
    pub children : children_of after id ≡ children_of before id
    pub tree : tree_of after (Held id) ≡ tree_of before (Held id)

  -- every identifier that was live is as it was
  abbrev pub AreAllAsBefore : NameState C → NameState C → Type 0
  AreAllAsBefore before after = (id : Id) → IsLive before id → IsAsBefore before after id

  -- every identifier that is live still is as it was
  abbrev pub AreRestAsBefore : NameState C → NameState C → Type 0
  AreRestAsBefore before after = (id : Id) → IsLive after id → IsAsBefore before after id

  -- each identifier that a caller or a task holds afterwards was held so before, or is this one
  abbrev pub IsOnlyNew : NameState C → NameState C → Id → Type 0
  IsOnlyNew before after new =
      (id : Id) (holder : Holder) → holder_of after id ≡ Some holder → IsOutside holder → (id ≡ new) ⊎ (holder_of before id ≡ Some holder)

  -- every other identifier that a caller or a task held is live still
  abbrev pub AreOthersLive : NameState C → NameState C → Id → Type 0
  AreOthersLive before after gone =
      (id : Id) (entry : IdRecord) → record_of before id ≡ Some entry → IsOutside entry.holder → id.number ≢ gone.number → record_of after id ≡ Some entry

  -- a reference is null, or is held by the body that an identifier names
  abbrev pub IsHeldByBodyOf : NameState C → Id → Ref → Type 0
  IsHeldByBodyOf names id Null = Unit {0}
  IsHeldByBodyOf names id (Held child) = holder_of names child ≡ option_map Body (body_of names id)
