-- A name is put, and with it an identifier or a body comes in.
use Rattle.std.proofs.Common.{◌≡◌, ℕ, ◌+◌, ◌<◌, ◌≤◌, List, [], drop, length, Option, Some, None, is_some, IsSome, Bor, nat_eq, refl, sym, ap, subst, ◌∙◌, arith}
use Rattle.std.specs.Option.{option_map, option_copied}
use Rattle.std.specs.List.{IsDistinct}
use Rattle.std.specs.Map.{lookup, keys_of, values_of}
use Rattle.std.specs.HashMap.{HashMap, PutsEntry, Updates}
use Rattle.std.specs.FinMap as map
use Rattle.std.proofs.lemmas.Map.Entries.{length-values_of}
use Rattle.cht_ids.specs.declared.refs.Id.{Id}
use Rattle.chunk_store.specs.Contents.{Contents as Stored}
use Rattle.name_states.specs.declared.holder.Holder.{Holder}
use Rattle.chunk_refs.specs.declared.parts.StoredId.{StoredId}
use Rattle.chunk_refs.specs.declared.parts.Chunk.{Chunk}
use Rattle.chunk_refs.specs.declared.parts.Parts.{Parts}
use Rattle.name_states.specs.States.{IdRecord, id_at, body_at, record_of, owned_by, IsLive}
use Rattle.name_states.specs.Steps.{with_id, with_body, with_copy, copied}
use Rattle.chunk_refs.specs.Inside.{names_of, ids_of, bodies_of, names_of_body, shown_id, shown_chunk, chunk_at, ArePlaced, HasChain, IsPut, AreNull, all_four}
use Rattle.name_states.proofs.Basics.{same_some, none_not_some, some_value}
use Rattle.chunk_refs.proofs.Bodies.{shown-bodies_of}
use Rattle.chunk_refs.proofs.Counts.{names-put, names-le-length, no_more_keys}
use Rattle.chunk_refs.proofs.Ids.{get-ids_of}
use Rattle.chunk_refs.proofs.Ending.{no-chain, positive, not_on_none}
use Rattle.name_states.proofs.Within.{live-number, owned-same}
use Rattle.chunk_refs.proofs.Linked.{put, put-names, added, added-names}

none_behind : {A B : Type 0} (f : A → B) (found : Option A) → option_map f found ≡ None → found ≡ None
none_behind f None is = refl
none_behind f (Some x) is = absurd (none_not_some is refl)

-- a number that names nothing has no entry
pub free-lookup : (es : List (ℕ × StoredId)) (number : ℕ) → map.get (ids_of es) number ≡ None → lookup (nat_eq number) es ≡ None
free-lookup es number is = none_behind shown_id (lookup (nat_eq number) es) (sym (get-ids_of es number) ∙ is)

live_behind : {A B : Type 0} (f : A → B) (found : Option A) → IsSome (option_map f found) → IsSome found
live_behind f None is = absurd (cc)
live_behind f (Some x) is = refl

-- a number that names something has one
pub live-lookup : (es : List (ℕ × StoredId)) (number : ℕ) → IsSome (map.get (ids_of es) number) → IsSome (lookup (nat_eq number) es)
live-lookup es number is = live_behind shown_id (lookup (nat_eq number) es) (ap is_some (sym (get-ids_of es number)) ∙ is)

-- the value behind a reference that was found
pub copied-some : {X : Type 0} (found : Option (Bor X)) (r : Bor X) (value : Option X) → found ≡ Some r → option_copied found ≡ value → value ≡ Some r.now
copied-some found r value is same = sym same ∙ ap option_copied is

pub some-copied : {X : Type 0} (found : Option (Bor X)) (value : Option X) → option_copied found ≡ value → IsSome value → IsSome found
some-copied {X} None value is some = absurd (none_not_some {X = X} (sym is) (some_value value some).1)
some-copied (Some r) value is some = refl

-- what an insert at a free number does
pub is_put : {S : Type 0} (m n : HashMap ℕ StoredId S) (number : ℕ) (name : StoredId) (old : Option StoredId) → map.get (ids_of m.entries) number ≡ None → old ≡ lookup (nat_eq number) m.entries
    → Updates nat_eq m n number (Some name) → PutsEntry nat_eq m n number name old → IsDistinct nat_eq (keys_of n.entries) → IsPut m.entries n.entries number name
is_put m n number name old free was updates puts unique =
    let none = free-lookup m.entries number free in
    record {
      lookups = updates.0;
      counts = λ body. names-put m n number name body none (subst (PutsEntry nat_eq m n number name) (was ∙ none) puts);
      unique = unique;
    }

module _ {C : Type 0} where
  -- an identifier of a body that another names
  pub name-added : (before after : Parts C) (middle : List (Stored (Chunk C))) (entries : List (ℕ × StoredId)) (from number : ℕ) (source : StoredId) (holder : Holder) (chunk : Chunk C) → HasChain before None
      → lookup (nat_eq from) before.ids.entries ≡ Some source
      → chunk_at before.stores.items source.owner source.key ≡ Some chunk
      → ArePlaced before.stores.items middle source.owner source.key (Some (record chunk { names = chunk.names + 1 }))
      → after.stores.items ≡ middle
      → entries ≡ before.ids.entries
      → IsPut entries after.ids.entries number (record source { holder = holder })
      → after.bodies ≡ before.bodies
      → (names_of after ≡ copied (names_of before) from number holder) × HasChain after None
  name-added before after middle entries from number source holder chunk has is at placed same same_ids from_put bodies =
      let put_is = subst (λ es. IsPut es after.ids.entries number (record source { holder = holder })) same_ids from_put in
      let linked = no-chain before has in
      let there = subst (λ stores. ArePlaced before.stores.items stores source.owner source.key (Some (record chunk { names = chunk.names + 1 }))) (sym same) placed in
      let names : id_at (names_of before) from ≡ Some (shown_id source) = get-ids_of before.ids.entries from ∙ ap (option_map shown_id) is in (
        added-names before after source chunk number (record source { holder = holder }) linked at there put_is
            ∙ ap (with_copy (names_of before) number holder) (sym names),
        ([], added before after from source chunk number (record source { holder = holder }) linked is at there refl refl refl put_is bodies),
      )

  -- a body has no more identifiers than there are
  pub few-names : (parts : Parts C) (owner key : ℕ) (chunk : Chunk C) → HasChain parts None → chunk_at parts.stores.items owner key ≡ Some chunk → chunk.names ≤ length parts.ids.entries
  few-names parts owner key chunk has at = omega (arith, has.1.counted owner key chunk at, names-le-length parts.ids.entries chunk.number)

  -- where the body of a name stands
  pub named-there : (parts : Parts C) (number : ℕ) (name : StoredId) → HasChain parts None → lookup (nat_eq number) parts.ids.entries ≡ Some name
      → (chunk : Chunk C) × (chunk_at parts.stores.items name.owner name.key ≡ Some chunk)
  named-there parts number name has is = let there = has.1.named number name is in (there.0, there.1)

  -- there are no more bodies than identifiers
  pub few-bodies : (parts : Parts C) → HasChain parts None → parts.bodies ≤ length parts.ids.entries
  few-bodies parts has =
      let linked = no-chain parts has in
      let shown = shown-bodies_of parts.stores.items linked.apart in
      let few = no_more_keys (values_of parts.ids.entries) (bodies_of parts.stores.items) (λ number body is.
      let f = shown.from number body is in
      subst (λ n. 0 < names_of_body n parts.ids.entries) f.4
      (subst (λ n. 0 < n) (linked.counted f.0 f.1 f.2 f.3) (positive f.2.names (λ none. not_on_none (linked.dead f.0 f.1 f.2 f.3 none))))) in
      omega (arith, few, linked.bodies, length-values_of parts.ids.entries)

  -- a body with its first identifier
  pub body-put : (before after : Parts C) (middle : List (Stored (Chunk C))) (entries : List (ℕ × StoredId)) (owner key number : ℕ) (holder : Holder) (chunk : Chunk C) → HasChain before None
      → chunk_at before.stores.items owner key ≡ None
      → ArePlaced before.stores.items middle owner key (Some chunk)
      → after.stores.items ≡ middle
      → chunk.names ≡ 1 → AreNull (drop chunk.children.count (all_four chunk.children))
      → body_at (names_of before) chunk.number ≡ None
      → entries ≡ before.ids.entries
      → IsPut entries after.ids.entries number (record { owner = owner; key = key; body = chunk.number; holder = holder })
      → after.bodies ≡ before.bodies + 1
      → (names_of after ≡ with_id (with_body (names_of before) chunk.number (shown_chunk owner chunk)) number (record { owner = owner; body = chunk.number; holder = holder }))
      × HasChain after None
  body-put before after middle entries owner key number holder chunk has free placed same one padded new same_ids from_put more =
      let put_is = subst (λ es. IsPut es after.ids.entries number (record { owner = owner; key = key; body = chunk.number; holder = holder })) same_ids from_put in
      let linked = no-chain before has in
      let there = subst (λ stores. ArePlaced before.stores.items stores owner key (Some chunk)) (sym same) placed in
      let name : StoredId = record { owner = owner; key = key; body = chunk.number; holder = holder } in (
        put-names before after chunk number name linked free there new put_is,
        ([], put before after chunk number name linked free there one refl padded new put_is more),
      )

  -- a live identifier has a stored name
  pub live-stored : (parts : Parts C) (id : Id) → IsLive (names_of parts) id → IsSome (lookup (nat_eq id.number) parts.ids.entries)
  live-stored parts id live = live-lookup parts.ids.entries id.number (ap is_some (live-number (names_of parts) id live).1)

  -- and names what that says
  pub stored-name : (parts : Parts C) (id : Id) (name : StoredId) → IsLive (names_of parts) id → lookup (nat_eq id.number) parts.ids.entries ≡ Some name → record_of (names_of parts) id ≡ Some (shown_id name)
  stored-name parts id name live is =
      let names : id_at (names_of parts) id.number ≡ Some (shown_id name) = get-ids_of parts.ids.entries id.number ∙ ap (option_map shown_id) is in
      let known = live-number (names_of parts) id live in
      let same : known.0 ≡ shown_id name = same_some known.0 (shown_id name) (sym known.1 ∙ names) in
      ap (owned_by id.owner) names ∙ owned-same id.owner (shown_id name) (ap (λ (n : IdRecord). n.owner) (sym same) ∙ known.2)
