-- An identifier ends, and the first body of the chain is taken out.
use Rattle.std.proofs.Common.{◌≡◌, ℕ, zero, suc, ◌-◌, ◌<◌, ◌≤◌, true, false, cond, inl, inr, List, [], ◌∷◌, drop, take, Option, Some, None, IsSome, nat_eq, refl, sym, ap, subst, ◌∙◌, arith}
use Rattle.std.specs.Option.{option_map}
use Rattle.std.specs.List.{IsDistinct}
use Rattle.std.specs.Map.{lookup, keys_of}
use Rattle.std.specs.Ordering.{nat_cmp}
use Rattle.std.specs.FinMap as map
use Rattle.cht_ids.specs.declared.refs.Ref.{Ref}
use Rattle.cht_ids.specs.declared.refs.Ref.TheVariants.{Null, Id as Held}
use Rattle.chunk_store.specs.Contents.{Contents as Stored}
use Rattle.chunk_refs.specs.declared.parts.StoredId.{StoredId}
use Rattle.chunk_refs.specs.declared.parts.Spot.{Spot}
use Rattle.chunk_refs.specs.declared.parts.Chunk.{Chunk}
use Rattle.chunk_refs.specs.declared.parts.Parts.{Parts}
use Rattle.name_states.specs.States.{NameState, IdRecord, BodyRecord, id_at, body_at}
use Rattle.name_states.specs.Steps.{without_id, without_body}
use Rattle.chunk_refs.specs.Inside.{names_of, bodies_of, names_of_body, shown_id, shown_chunk, chunk_at, ArePlaced, IsLinked, HasChain, AreNull, all_four}
use Rattle.chunk_refs.specs.Deleting.{one_less, is_last, IsReleased, IsTaken, without_refs}
use Rattle.name_states.proofs.Basics.{same_some, none_not_some, some_value, same_from_test}
use Rattle.chunk_refs.proofs.Bodies.{shown-bodies_of}
use Rattle.chunk_refs.proofs.Chains.{chain-kept}
use Rattle.chunk_refs.proofs.Counts.{named-counts, counted-name}
use Rattle.chunk_refs.proofs.Ids.{get-ids_of, name_behind, ids_of-remove, ids_of-same}
use Rattle.chunk_refs.proofs.Linked.{IdsTaken, ended-last, ended-more, ended-names, unnamed, taken-names}
use Rattle.chunk_refs.proofs.Places.{apart-same, bodies-same}

at_least_one : (n : ℕ) → (n ≡ 0 → ⊥) → 1 ≤ n
at_least_one zero h = absurd (h refl)
at_least_one (suc n) h = omega arith

pub positive : (n : ℕ) → (n ≡ 0 → ⊥) → 0 < n
positive zero h = absurd (h refl)
positive (suc n) h = omega arith

pub not_on_none : false ≡ true → ⊥
not_on_none clash = cc

module _ {C : Type 0} (before after : List (Stored (Chunk C))) (name : StoredId) (chunk : Chunk C) (first : Option Spot) (some : 0 < chunk.names)
    (placed : ArePlaced before after name.owner name.key (Some (one_less chunk first))) where
  -- a body that loses its last identifier is the first of the chain
  pub released_last : true ≡ is_last chunk → IsReleased before after name chunk first (Some (record { owner = name.owner; key = name.key }))
  released_last last =
      let none : chunk.names - 1 ≡ 0 = same_from_test (chunk.names - 1) 0 (sym last) in
      inl (record {
        one = omega (arith, none, some);
        placed = subst (λ c. ArePlaced before after name.owner name.key (Some c)) (λ i. record chunk { names = none i; next = cond (sym last i) first chunk.next }) placed;
        front = refl;
      })

  -- one that has others leaves the chain as it was
  pub released_less : false ≡ is_last chunk → IsReleased before after name chunk first first
  released_less less =
      inr (record {
        left = chunk.names - 1;
        less = omega (arith, some);
        some_left = λ none. let clash : false ≡ true = less ∙ ap (λ n. nat_eq n 0) none in cc;
        placed = subst (λ c. ArePlaced before after name.owner name.key (Some c)) (λ i. record chunk { names = chunk.names - 1; next = cond (sym less i) first chunk.next }) placed;
        front = refl;
      })

module _ {C : Type 0} where
  -- the same identifiers and bodies, in another order and with other room
  pub linked-same : (before after : Parts C) (first : Option Spot) (chain : List ℕ) → IsLinked before first chain
      → ((q : ℕ) → lookup (nat_eq q) after.ids.entries ≡ lookup (nat_eq q) before.ids.entries)
      → ((body : ℕ) → names_of_body body after.ids.entries ≡ names_of_body body before.ids.entries)
      → IsDistinct nat_eq (keys_of after.ids.entries)
      → ((owner key : ℕ) → chunk_at after.stores.items owner key ≡ chunk_at before.stores.items owner key)
      → after.bodies ≡ before.bodies
      → IsLinked after first chain
  linked-same before after first chain linked lookups counts unique places bodies = record {
    unique = unique;
    named = λ q name is. let has = linked.named q name (sym (lookups q) ∙ is) in (has.0, places name.owner name.key ∙ has.1, has.2);
    apart = apart-same before.stores.items after.stores.items linked.apart places;
    counted = λ o k c is. linked.counted o k c (sym (places o k) ∙ is) ∙ sym (counts c.number);
    padded = λ o k c is. linked.padded o k c (sym (places o k) ∙ is);
    chained = chain-kept before.stores.items after.stores.items chain first (λ o k c is none on. places o k ∙ is) linked.chained;
    dead = λ o k c is none. linked.dead o k c (sym (places o k) ∙ is) none;
    bodies = bodies ∙ linked.bodies ∙ ap (λ b. map.len b) (sym (bodies-same before.stores.items after.stores.items linked.apart places));
  }

  pub linked-entries : (before after : Parts C) (first : Option Spot) (chain : List ℕ) → IsLinked before first chain
      → after.ids.entries ≡ before.ids.entries → after.stores.items ≡ before.stores.items → after.bodies ≡ before.bodies
      → IsLinked after first chain
  linked-entries before after first chain linked entries stores bodies =
      linked-same before after first chain linked
      (λ q. ap (lookup (nat_eq q)) entries) (λ body. ap (names_of_body body) entries) (subst (λ es. IsDistinct nat_eq (keys_of es)) (sym entries) linked.unique)
      (λ o k. ap (λ s. chunk_at s o k) stores) bodies

  pub names-same : (before after : Parts C) (first : Option Spot) (chain : List ℕ) → IsLinked before first chain
      → ((q : ℕ) → lookup (nat_eq q) after.ids.entries ≡ lookup (nat_eq q) before.ids.entries)
      → ((owner key : ℕ) → chunk_at after.stores.items owner key ≡ chunk_at before.stores.items owner key)
      → names_of after ≡ names_of before
  names-same before after first chain linked lookups places =
      let ids = ids_of-same before.ids.entries after.ids.entries lookups in
      let bodies = bodies-same before.stores.items after.stores.items linked.apart places in
      λ i. record { ids = ids i; bodies = bodies i }

  -- a number that named nothing
  pub absent-names : (before after : Parts C) (number : ℕ)
      → ((q : ℕ) → lookup (nat_eq q) after.ids.entries ≡ cond (nat_eq number q) None (lookup (nat_eq q) before.ids.entries))
      → after.stores.items ≡ before.stores.items
      → names_of after ≡ without_id (names_of before) number
  absent-names before after number lookups stores =
      let ids = ids_of-remove before.ids.entries after.ids.entries number lookups in
      λ i. record { ids = ids i; bodies = bodies_of (stores i) }

  -- the body that an identifier names counts it
  pub counts-name : (before : Parts C) (first : Option Spot) (number : ℕ) (name : StoredId) → HasChain before first → Some name ≡ lookup (nat_eq number) before.ids.entries
      → (chunk : Chunk C) → chunk_at before.stores.items name.owner name.key ≡ Some chunk → 0 < chunk.names
  counts-name before first number name has is chunk at =
      let linked = has.1 in
      let there = linked.named number name (sym is) in
      let number_is : chunk.number ≡ name.body = ap (λ (c : Chunk C). c.number) (same_some chunk there.0 (sym at ∙ there.1)) ∙ there.2 in
      omega (arith, linked.counted name.owner name.key chunk at, ap (λ n. names_of_body n before.ids.entries) number_is, named-counts before.ids.entries number name (sym is))

  released-names : (before after : Parts C) (first later : Option Spot) (chain : List ℕ) (number : ℕ) (name : StoredId) (chunk : Chunk C) → IsLinked before first chain
      → chunk_at before.stores.items name.owner name.key ≡ Some chunk
      → IdsTaken before.ids.entries after.ids.entries number
      → IsReleased before.stores.items after.stores.items name chunk first later
      → names_of after ≡ without_id (names_of before) number
  released-names before after first later chain number name chunk linked at ids (inl last) =
      ended-names before after first chain number name chunk (record chunk { names = 0; next = first }) linked at refl refl refl ids last.placed
  released-names before after first later chain number name chunk linked at ids (inr less) =
      ended-names before after first chain number name chunk (record chunk { names = less.left; next = chunk.next }) linked at refl refl refl ids less.placed

  released-chain : (before after : Parts C) (first later : Option Spot) (chain : List ℕ) (number : ℕ) (name : StoredId) (chunk : Chunk C) → IsLinked before first chain
      → lookup (nat_eq number) before.ids.entries ≡ Some name
      → chunk_at before.stores.items name.owner name.key ≡ Some chunk
      → IdsTaken before.ids.entries after.ids.entries number
      → after.bodies ≡ before.bodies
      → IsReleased before.stores.items after.stores.items name chunk first later
      → HasChain after later
  released-chain before after first later chain number name chunk linked is at ids bodies (inl last) =
      (chunk.number ∷ chain, subst (λ f. IsLinked after f (chunk.number ∷ chain)) (sym last.front) (ended-last before after first chain number name chunk linked is at last.one ids last.placed bodies))
  released-chain before after first later chain number name chunk linked is at ids bodies (inr less) =
      (chain, subst (λ f. IsLinked after f chain) (sym less.front) (ended-more before after first chain number name chunk less.left linked is at less.less less.some_left ids less.placed bodies))

  -- an identifier that was live ends
  pub id-ended : (before after : Parts C) (first later : Option Spot) (number : ℕ) (name : StoredId) (entries : List (ℕ × StoredId)) → HasChain before first
      → Some name ≡ lookup (nat_eq number) before.ids.entries
      → IdsTaken before.ids.entries entries number
      → after.ids.entries ≡ entries
      → after.bodies ≡ before.bodies
      → ((chunk : Chunk C) → chunk_at before.stores.items name.owner name.key ≡ Some chunk → IsReleased before.stores.items after.stores.items name chunk first later)
      → (names_of after ≡ without_id (names_of before) number) × HasChain after later
  id-ended before after first later number name entries has is ids same bodies released =
      let there = has.1.named number name (sym is) in
      let taken = subst (λ es. IdsTaken before.ids.entries es number) (sym same) ids in (
        released-names before after first later has.0 number name there.0 has.1 there.1 taken (released there.0 there.1),
        released-chain before after first later has.0 number name there.0 has.1 (sym is) there.1 taken bodies (released there.0 there.1),
      )

  -- the first body of a chain, where it stands
  pub first-there : (parts : Parts C) (spot : Spot) → HasChain parts (Some spot) → (chunk : Chunk C) × (chunk_at parts.stores.items spot.owner spot.key ≡ Some chunk) × (chunk.names ≡ 0)
  first-there parts spot has =
      elim has.0 as (λ chain. IsLinked parts (Some spot) chain → (chunk : Chunk C) × (chunk_at parts.stores.items spot.owner spot.key ≡ Some chunk) × (chunk.names ≡ 0)) [
        | [] ↦ λ linked. absurd (none_not_some linked.chained refl)
        | number ∷ rest ↦ λ linked.
            let is = linked.chained in
            (is.1, ap (λ (p : Spot). chunk_at parts.stores.items p.owner p.key) (same_some spot is.0 is.2) ∙ is.3, is.5)
      ] has.1

  no_len : (m : map.FinMap nat_cmp (BodyRecord C)) (key : ℕ) (body : BodyRecord C) → map.get m key ≡ Some body → map.len m ≡ 0 → ⊥
  no_len m key body is none = none_not_some (ap (λ n. map.get n key) (map.empty_of_len m none) ∙ map.get-empty nat_cmp key) is

  -- where a body stands, there is at least one
  pub some-bodies : (parts : Parts C) (first : Option Spot) (chain : List ℕ) (owner key : ℕ) (chunk : Chunk C) → IsLinked parts first chain → chunk_at parts.stores.items owner key ≡ Some chunk → 1 ≤ parts.bodies
  some-bodies parts first chain owner key chunk linked at =
      at_least_one parts.bodies (λ none.
      no_len (bodies_of parts.stores.items) chunk.number (shown_chunk owner chunk) ((shown-bodies_of parts.stores.items linked.apart).there owner key chunk at) (sym linked.bodies ∙ none))

  all_null : (names : NameState C) (refs : List Ref) → AreNull refs → without_refs names refs ≡ names
  all_null names [] null = refl
  all_null names (Null ∷ refs) null = all_null names refs null.1
  all_null names (Held id ∷ refs) null = absurd (let clash : Held id ≡ Null = null.0 in cc)

  -- the null references past the last child have no identifiers
  without-padding : (names : NameState C) (count : ℕ) (refs : List Ref) → AreNull (drop count refs) → without_refs names refs ≡ without_refs names (take count refs)
  without-padding names zero refs null = all_null names refs null
  without-padding names (suc count) [] null = refl
  without-padding names (suc count) (Null ∷ refs) null = without-padding names count refs null
  without-padding names (suc count) (Held id ∷ refs) null = without-padding (without_id names id.number) count refs null

  -- one step of a deletion
  pub step-taken : (before middle after : Parts C) (spot : Spot) (chunk : Chunk C) → HasChain before (Some spot)
      → chunk_at before.stores.items spot.owner spot.key ≡ Some chunk
      → ArePlaced before.stores.items middle.stores.items spot.owner spot.key None → middle.ids.entries ≡ before.ids.entries
      → names_of after ≡ without_refs (names_of middle) (all_four chunk.children)
      → IsTaken (names_of before) (names_of after)
  step-taken before middle after spot chunk has at placed ids ended =
      let linked = has.1 in
      let first = first-there before spot has in
      let none : chunk.names ≡ 0 = ap (λ (c : Chunk C). c.names) (same_some chunk first.0 (sym at ∙ first.1)) ∙ first.2 in (
        chunk.number,
        shown_chunk spot.owner chunk,
        (shown-bodies_of before.stores.items linked.apart).there spot.owner spot.key chunk at,
        (λ id naming is same.
            let name = name_behind before.ids.entries id naming is in
            unnamed before (Some spot) has.0 spot.owner spot.key chunk linked at none id name.0 name.1 (ap (λ (n : IdRecord). n.body) name.2 ∙ same)),
        ended
            ∙ ap (λ names. without_refs names (all_four chunk.children)) (taken-names before middle (Some spot) has.0 spot chunk linked at placed ids)
            ∙ without-padding (without_body (names_of before) chunk.number) chunk.children.count (all_four chunk.children) (linked.padded spot.owner spot.key chunk at),
      )

  -- where the chain is empty, each body has an identifier
  all-named : (parts : Parts C) → IsLinked parts None [] → (number : ℕ) → IsSome (body_at (names_of parts) number)
      → (id : ℕ) × (naming : IdRecord) × (id_at (names_of parts) id ≡ Some naming) × (naming.body ≡ number)
  all-named parts linked number some =
      let body = some_value (body_at (names_of parts) number) some in
      let found = (shown-bodies_of parts.stores.items linked.apart).from number body.0 body.1 in
      let counted = linked.counted found.0 found.1 found.2 found.3 in
      let name = counted-name parts.ids.entries found.2.number linked.unique
      (subst (λ n. 0 < n) counted (positive found.2.names (λ none. not_on_none (linked.dead found.0 found.1 found.2 found.3 none)))) in
      (name.0, shown_id name.1, get-ids_of parts.ids.entries name.0 ∙ ap (option_map shown_id) name.2, name.3 ∙ found.4)

  -- a chain with no first body is empty
  pub no-chain : (parts : Parts C) → HasChain parts None → IsLinked parts None []
  no-chain parts has =
      elim has.0 as (λ chain. IsLinked parts None chain → IsLinked parts None []) [
        | [] ↦ λ linked. linked
        | number ∷ rest ↦ λ linked. absurd (let clash : None ≡ Some linked.chained.0 = linked.chained.2 in cc)
      ] has.1

  pub all-named-once : (parts : Parts C) → HasChain parts None → (number : ℕ) → IsSome (body_at (names_of parts) number)
      → (id : ℕ) × (naming : IdRecord) × (id_at (names_of parts) id ≡ Some naming) × (naming.body ≡ number)
  all-named-once parts has = all-named parts (no-chain parts has)
