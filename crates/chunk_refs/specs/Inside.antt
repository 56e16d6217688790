-- How the fields behind `Refs` stand for names. No contract that a caller sees speaks of these.
use Rattle.std.specs.Prelude.{◌≡◌, ℕ, suc, ◌==◌, ◌+◌, if◌then◌else◌, true, false, List, [], ◌∷◌, ◌++◌, take, drop, map as each, slice_get, nat_eq, count_by, Option, None, Some}
use Rattle.std.specs.List.{list_any, IsDistinct}
use Rattle.std.specs.Map.{lookup, keys_of, values_of}
use Rattle.std.specs.HashMap.{spare}
use Rattle.std.specs.Ordering.{nat_cmp}
use Rattle.std.specs.FinMap as map
use Rattle.cht_ids.specs.declared.refs.Ref.{Ref}
use Rattle.cht_ids.specs.declared.refs.Ref.TheVariants.{Null}
use Rattle.chunk_store.specs.Contents.{Contents as Stored, value_at}
use Rattle.chunk_refs.specs.declared.parts.StoredId.{StoredId}
use Rattle.chunk_refs.specs.declared.parts.Spot.{Spot}
use Rattle.chunk_refs.specs.declared.children.Children.{Children}
use Rattle.chunk_refs.specs.declared.parts.Chunk.{Chunk}
use Rattle.chunk_refs.specs.declared.parts.Parts.{Parts}
use Rattle.name_states.specs.States.{IdRecord, BodyRecord, NameState}
use Rattle.chunk_refs.specs.Room.{Room}

-- what a stored name names
abbrev pub shown_id : StoredId → IdRecord
shown_id name = record { owner = name.owner; body = name.body; holder = name.holder }

-- the live identifiers of a hash map's entries
unfoldable pub ids_of : List (ℕ × StoredId) → map.FinMap nat_cmp IdRecord
ids_of es = map.from_entries (each (λ e. (e.0, shown_id e.1)) es)

-- all four references of the children, null ones after the last child
abbrev pub all_four : Children → List Ref
all_four children = children.first ∷ children.second ∷ children.third ∷ children.fourth ∷ []

-- the children in order
abbrev pub refs_of : Children → List Ref
refs_of children = take children.count (all_four children)

-- references that are null
abbrev pub AreNull : List Ref → Type 0
AreNull [] = Unit {0}
AreNull (r ∷ refs) = (r ≡ Null) × AreNull refs

-- how many identifiers name a body
abbrev pub names_of_body : ℕ → List (ℕ × StoredId) → ℕ
names_of_body body es = count_by (λ name. name.body == body) (values_of es)

-- one identifier more
pub record IsPut (before after : List (ℕ × StoredId)) (number : ℕ) (name : StoredId) : Type 0 where
  pub lookups : (q : ℕ) → lookup (nat_eq q) after ≡ if nat_eq number q then Some name else lookup (nat_eq q) before
  pub counts : (body : ℕ) → names_of_body body after ≡ names_of_body body before + (if name.body == body then 1 else 0)
  pub unique : IsDistinct nat_eq (keys_of after)

module _ {C : Type 0} where
  -- a body in the store of an owner, as contracts see it
  abbrev pub shown_chunk : ℕ → Chunk C → BodyRecord C
  shown_chunk owner chunk = record { owner = owner; content = chunk.body; children = refs_of chunk.children }

  -- what a store holds under a key, if there is such a store
  abbrev pub chunk_in : Option (Stored (Chunk C)) → ℕ → Option (Chunk C)
  chunk_in None key = None
  chunk_in (Some stored) key = value_at stored key

  -- what the store of an owner holds under a key
  abbrev pub chunk_at : List (Stored (Chunk C)) → ℕ → ℕ → Option (Chunk C)
  chunk_at stores owner key = chunk_in (slice_get stores owner) key

  -- a body by its number, in front of others
  abbrev pub onto : ℕ → Option (Chunk C) → List (ℕ × BodyRecord C) → List (ℕ × BodyRecord C)
  onto owner None bodies = bodies
  onto owner (Some chunk) bodies = (chunk.number, shown_chunk owner chunk) ∷ bodies

  -- the bodies that a store holds under these keys
  abbrev pub under_keys : ℕ → Stored (Chunk C) → List ℕ → List (ℕ × BodyRecord C)
  under_keys owner stored [] = []
  under_keys owner stored (key ∷ keys) = onto owner (value_at stored key) (under_keys owner stored keys)

  -- the bodies of all stores, whose owners count from a number
  abbrev pub in_stores : ℕ → List (Stored (Chunk C)) → List (ℕ × BodyRecord C)
  in_stores owner [] = []
  in_stores owner (stored ∷ stores) = under_keys owner stored (map.keys stored.held) ++ in_stores (suc owner) stores

  -- the bodies of all stores by number
  unfoldable pub bodies_of : List (Stored (Chunk C)) → map.FinMap nat_cmp (BodyRecord C)
  bodies_of stores = map.from_entries (in_stores 0 stores)

  -- the names that the fields stand for
  abbrev pub names_of : Parts C → NameState C
  names_of parts = record { ids = ids_of parts.ids.entries; bodies = bodies_of parts.stores.items }

  -- the room that they leave
  abbrev pub room_of : Parts C → Room
  room_of parts = record { bodies = each (λ stored. stored.spare) parts.stores.items; ids = spare parts.ids }

  -- the body with a number stands in the store of its owner under a key
  abbrev pub HasChunk : List (Stored (Chunk C)) → ℕ → ℕ → ℕ → Type 0
  HasChunk stores owner key number = (chunk : Chunk C) × (chunk_at stores owner key ≡ Some chunk) × (chunk.number ≡ number)

  -- no number stands in two places
  pub record AreApart (stores : List (Stored (Chunk C))) : Type 0 where
    pub same_place : (owner key other_owner other_key : ℕ) (chunk other : Chunk C)
        → chunk_at stores owner key ≡ Some chunk → chunk_at stores other_owner other_key ≡ Some other
        → chunk.number ≡ other.number → (owner ≡ other_owner) × (key ≡ other_key)

  -- the stores with something else at one place
  pub record ArePlaced (before after : List (Stored (Chunk C))) (owner key : ℕ) (value : Option (Chunk C)) : Type 0 where
    pub here : chunk_at after owner key ≡ value
    pub others : (other_owner other_key : ℕ) → (other_owner ≡ owner → other_key ≡ key → ⊥)
        → chunk_at after other_owner other_key ≡ chunk_at before other_owner other_key

  -- the links lead from the first body over these bodies, all different and none of which has an identifier
  abbrev pub IsChain : List (Stored (Chunk C)) → Option Spot → List ℕ → Type 0
  IsChain stores first [] = first ≡ None
  IsChain stores first (number ∷ numbers) =
      (spot : Spot) × (chunk : Chunk C) × (first ≡ Some spot) × (chunk_at stores spot.owner spot.key ≡ Some chunk)
      × (chunk.number ≡ number) × (chunk.names ≡ 0) × (list_any (λ other. other == number) numbers ≡ false) × IsChain stores chunk.next numbers

  -- The fields hang together: each identifier names a body in a store, each body has as many identifiers as it counts, and
  -- a body without an identifier stands on the chain.
  pub record IsLinked (parts : Parts C) (first : Option Spot) (chain : List ℕ) : Type 0 where
    pub unique : IsDistinct nat_eq (keys_of parts.ids.entries)
    pub named : (number : ℕ) (name : StoredId) → lookup (nat_eq number) parts.ids.entries ≡ Some name → HasChunk parts.stores.items name.owner name.key name.body
    pub apart : AreApart parts.stores.items
    pub counted : (owner key : ℕ) (chunk : Chunk C) → chunk_at parts.stores.items owner key ≡ Some chunk → chunk.names ≡ names_of_body chunk.number parts.ids.entries
    pub padded : (owner key : ℕ) (chunk : Chunk C) → chunk_at parts.stores.items owner key ≡ Some chunk → AreNull (drop chunk.children.count (all_four chunk.children))
    pub chained : IsChain parts.stores.items first chain
    pub dead : (owner key : ℕ) (chunk : Chunk C) → chunk_at parts.stores.items owner key ≡ Some chunk → chunk.names ≡ 0 → list_any (λ other. other == chunk.number) chain ≡ true
    pub bodies : parts.bodies ≡ map.len (bodies_of parts.stores.items)

  -- so with some chain from the first body on
  abbrev pub HasChain : Parts C → Option Spot → Type 0
  HasChain parts first = (chain : List ℕ) × IsLinked parts first chain
