-- Room is made, and the first names are none.
use Rattle.std.proofs.Common.{◌≡◌, ℕ, zero, suc, inl, inr, List, [], ◌∷◌, ◌++◌, slice_set, Some, None, nat_eq, refl, sym, ap, subst, ◌∙◌}
use Rattle.std.specs.Prelude.{slice_get, map as each}
use Rattle.std.specs.Option.{option_map}
use Rattle.std.specs.List.{IsDistinct}
use Rattle.std.specs.Map.{lookup, keys_of}
use Rattle.std.specs.HashMap.{IsReordered}
use Rattle.std.specs.Ordering.{nat_cmp}
use Rattle.std.specs.Cmp.{nat_cmp_total}
use Rattle.std.specs.FinMap as map
use Rattle.chunk_store.specs.Contents.{Contents as Stored}
use Rattle.chunk_refs.specs.declared.parts.StoredId.{StoredId}
use Rattle.chunk_refs.specs.declared.parts.Chunk.{Chunk}
use Rattle.chunk_refs.specs.declared.parts.Parts.{Parts}
use Rattle.name_states.specs.States.{no_names}
use Rattle.chunk_refs.specs.Room.{spare_at}
use Rattle.chunk_refs.specs.Inside.{names_of, ids_of, bodies_of, names_of_body, shown_id, chunk_at, chunk_in, AreApart, HasChain}
use Rattle.name_states.proofs.Basics.{none_not_some, same_or_not}
use Rattle.chunk_refs.proofs.Bodies.{same_bodies, shown-bodies_of}
use Rattle.chunk_refs.proofs.Counts.{names-reordered}
use Rattle.chunk_refs.proofs.Ending.{linked-same, names-same}
use Rattle.chunk_refs.proofs.Ids.{get-ids_of}
use Rattle.chunk_refs.proofs.Stores.{get-set_here, get-set_other, spare_at-spares, spare_in}

no-ids : (es : List (ℕ × StoredId)) → es ≡ [] → ids_of es ≡ map.empty
no-ids es is = map.same_map nat_cmp_total map.nat_cmp-IsAntisymmetric (ids_of es) map.empty (λ q.
    get-ids_of es q ∙ ap (λ xs. option_map shown_id (lookup (nat_eq q) xs)) is ∙ sym (map.get-empty nat_cmp q))

module _ {C : Type 0} where
  -- the identifiers in another order
  pub reordered : (before after : Parts C) → HasChain before None → IsReordered nat_eq before.ids after.ids → IsDistinct nat_eq (keys_of after.ids.entries)
      → after.stores.items ≡ before.stores.items → after.bodies ≡ before.bodies → (names_of after ≡ names_of before) × HasChain after None
  reordered before after has ids unique stores bodies =
      let places : (owner key : ℕ) → chunk_at after.stores.items owner key ≡ chunk_at before.stores.items owner key = λ o k. ap (λ s. chunk_at s o k) stores in (
        names-same before after None has.0 has.1 ids.2 places,
        (has.0, linked-same before after None has.0 has.1 ids.2 (λ body. names-reordered before.ids.entries after.ids.entries body ids.0) unique places bodies),
      )

  -- a store that holds the same
  place-same : (stores : List (Stored (Chunk C))) (worker : ℕ) (old new : Stored (Chunk C)) → slice_get stores worker ≡ Some old → new.held ≡ old.held
      → (owner key : ℕ) → chunk_at (slice_set stores worker new) owner key ≡ chunk_at stores owner key
  place-same stores worker old new is held owner key = elim (same_or_not owner worker) [
    | inl same ↦
        ap (λ o. chunk_at (slice_set stores worker new) o key) same
        ∙ ap (λ s. chunk_in s key) (get-set_here stores worker new old is)
        ∙ ap (λ h. map.get h key) held
        ∙ ap (λ s. chunk_in s key) (sym is)
        ∙ ap (λ o. chunk_at stores o key) (sym same)
    | inr other ↦ ap (λ s. chunk_in s key) (get-set_other stores worker owner new other)
  ]

  pub restored : (before after : Parts C) (worker : ℕ) (old new : Stored (Chunk C)) → HasChain before None → slice_get before.stores.items worker ≡ Some old → new.held ≡ old.held
      → after.ids.entries ≡ before.ids.entries → after.stores.items ≡ slice_set before.stores.items worker new → after.bodies ≡ before.bodies
      → (names_of after ≡ names_of before) × HasChain after None
  restored before after worker old new has is held ids stores bodies =
      let places : (owner key : ℕ) → chunk_at after.stores.items owner key ≡ chunk_at before.stores.items owner key =
      λ o k. ap (λ s. chunk_at s o k) stores ∙ place-same before.stores.items worker old new is held o k in
      let lookups : (q : ℕ) → lookup (nat_eq q) after.ids.entries ≡ lookup (nat_eq q) before.ids.entries = λ q. ap (lookup (nat_eq q)) ids in (
        names-same before after None has.0 has.1 lookups places,
        (has.0, linked-same before after None has.0 has.1 lookups (λ body. ap (names_of_body body) ids) (subst (λ es. IsDistinct nat_eq (keys_of es)) (sym ids) has.1.unique) places bodies),
      )

  pub spare-here : (stores : List (Stored (Chunk C))) (worker : ℕ) (old new : Stored (Chunk C)) → slice_get stores worker ≡ Some old
      → spare_at (each (λ stored. stored.spare) (slice_set stores worker new)) worker ≡ new.spare
  spare-here stores worker old new is = spare_at-spares (slice_set stores worker new) worker ∙ ap spare_in (get-set_here stores worker new old is)

  pub spare-was : (stores : List (Stored (Chunk C))) (worker : ℕ) (old : Stored (Chunk C)) → slice_get stores worker ≡ Some old → spare_at (each (λ stored. stored.spare) stores) worker ≡ old.spare
  spare-was stores worker old is = spare_at-spares stores worker ∙ ap spare_in is

  -- one more store that holds nothing
  pub empty-push : (stores : List (Stored (Chunk C))) (stored : Stored (Chunk C)) → ((owner key : ℕ) → chunk_at stores owner key ≡ None) → stored.held ≡ map.empty
      → (owner key : ℕ) → chunk_at (stores ++ stored ∷ []) owner key ≡ None
  empty-push [] stored none held zero key = ap (λ h. map.get h key) held ∙ map.get-empty nat_cmp key
  empty-push [] stored none held (suc owner) key = refl
  empty-push (first ∷ stores) stored none held zero key = none zero key
  empty-push (first ∷ stores) stored none held (suc owner) key = empty-push stores stored (λ o k. none (suc o) k) held owner key

  nothing-apart : (stores : List (Stored (Chunk C))) → ((owner key : ℕ) → chunk_at stores owner key ≡ None) → AreApart stores
  nothing-apart stores none = record { same_place = λ o k p q c d c_is d_is same. absurd (none_not_some (none o k) c_is) }

  no-bodies : (stores : List (Stored (Chunk C))) → ((owner key : ℕ) → chunk_at stores owner key ≡ None) → bodies_of stores ≡ map.empty
  no-bodies stores none =
      same_bodies stores (bodies_of stores) map.empty (shown-bodies_of stores (nothing-apart stores none)) (record {
        there = λ o k c is. absurd (none_not_some (none o k) is);
        from = λ number body is. absurd (none_not_some (map.get-empty nat_cmp number) is);
      })

  -- fields that hold nothing stand for no names
  pub first-names : (parts : Parts C) → parts.ids.entries ≡ [] → ((owner key : ℕ) → chunk_at parts.stores.items owner key ≡ None) → names_of parts ≡ no_names
  first-names parts ids none =
      let i = no-ids parts.ids.entries ids in
      let b = no-bodies parts.stores.items none in
      λ x. record { ids = i x; bodies = b x }

  pub first-chain : (parts : Parts C) → parts.ids.entries ≡ [] → ((owner key : ℕ) → chunk_at parts.stores.items owner key ≡ None) → parts.bodies ≡ 0 → IsDistinct nat_eq (keys_of parts.ids.entries) → HasChain parts None
  first-chain parts ids none bodies unique = (
    [],
    record {
      unique = unique;
      named = λ q name is. absurd (none_not_some (ap (lookup (nat_eq q)) ids) is);
      apart = nothing-apart parts.stores.items none;
      counted = λ o k c is. absurd (none_not_some (none o k) is);
      padded = λ o k c is. absurd (none_not_some (none o k) is);
      chained = refl;
      dead = λ o k c is. absurd (none_not_some (none o k) is);
      bodies = bodies ∙ sym (ap (λ b. map.len b) (no-bodies parts.stores.items none) ∙ map.len-empty nat_cmp _);
    },
  )
