-- Each step keeps the fields linked.
use Rattle.std.proofs.Common.{◌≡◌, ℕ, zero, suc, ◌+◌, ◌-◌, ◌<◌, ◌==◌, Bool, true, false, cond, ◌||◌, ◌⊎◌, inl, inr, List, [], ◌∷◌, drop, Option, Some, None, is_some, nat_eq, refl, sym, ap, subst, ◌∙◌, arith}
use Rattle.std.specs.List.{list_any, IsDistinct}
use Rattle.std.specs.List.Sorted.{IsPermutation}
use Rattle.std.specs.Map.{lookup, keys_of, remove_entry}
use Rattle.std.specs.Cmp.{nat_cmp_total}
use Rattle.std.specs.FinMap as map
use Rattle.chunk_refs.specs.declared.parts.StoredId.{StoredId}
use Rattle.chunk_refs.specs.declared.parts.Spot.{Spot}
use Rattle.chunk_refs.specs.declared.parts.Chunk.{Chunk}
use Rattle.chunk_refs.specs.declared.children.Children.{Children}
use Rattle.chunk_refs.specs.declared.parts.Parts.{Parts}
use Rattle.name_states.specs.States.{NameState}
use Rattle.name_states.specs.Steps.{without_id, without_body, with_id, with_body}
use Rattle.chunk_refs.specs.Inside.{names_of, ids_of, bodies_of, names_of_body, shown_chunk, chunk_at, HasChunk, ArePlaced, IsChain, IsLinked, HasChain, IsPut, AreNull, all_four, refs_of, shown_id}
use Rattle.name_states.proofs.Basics.{same_some, none_not_some, test_same, same_from_test, test_apart}
use Rattle.chunk_refs.proofs.Bodies.{shown-bodies_of}
use Rattle.chunk_refs.proofs.Counts.{counts_for, names-taken, named-counts, counted-name}
use Rattle.chunk_refs.proofs.Chains.{chain-kept, chain-dead}
use Rattle.chunk_refs.proofs.Ids.{ids_of-insert, ids_of-remove}
use Rattle.chunk_refs.proofs.Places.{at_place, apart-rewritten, bodies-rewritten, has-rewritten, apart-inserted, bodies-inserted, apart-removed, bodies-removed, no_number, same_there}

-- one identifier less
pub record IdsTaken (before after : List (ℕ × StoredId)) (number : ℕ) : Type 0 where
  pub lookups : (q : ℕ) → lookup (nat_eq q) after ≡ cond (nat_eq number q) None (lookup (nat_eq q) before)
  pub taken : IsPermutation (remove_entry (nat_eq number) before) after
  pub unique : IsDistinct nat_eq (keys_of after)

-- what is looked up after a put is what was put, or was looked up before
put-lookup : (before after : List (ℕ × StoredId)) (number q : ℕ) (put name : StoredId) → IsPut before after number put → lookup (nat_eq q) after ≡ Some name
    → ((number ≡ q) × (put ≡ name)) ⊎ (lookup (nat_eq q) before ≡ Some name)
put-lookup before after number q put name ids is =
    elim (nat_eq number q) as (λ t. nat_eq number q ≡ t → ((number ≡ q) × (put ≡ name)) ⊎ (lookup (nat_eq q) before ≡ Some name)) [
      | true ↦ λ same. inl (same_from_test number q same, same_some put name (sym (ids.lookups q ∙ ap (λ b. cond b (Some put) (lookup (nat_eq q) before)) same) ∙ is))
      | false ↦ λ apart. inr (sym (ids.lookups q ∙ ap (λ b. cond b (Some put) (lookup (nat_eq q) before)) apart) ∙ is)
    ] refl

-- what is looked up after it was looked up before
taken-lookup : (before after : List (ℕ × StoredId)) (number q : ℕ) (name : StoredId) → IdsTaken before after number → lookup (nat_eq q) after ≡ Some name → lookup (nat_eq q) before ≡ Some name
taken-lookup before after number q name ids is =
    elim (nat_eq number q) as (λ t. nat_eq number q ≡ t → lookup (nat_eq q) before ≡ Some name) [
      | true ↦ λ same. absurd (none_not_some (ids.lookups q ∙ ap (λ b. cond b None (lookup (nat_eq q) before)) same) is)
      | false ↦ λ apart. sym (ids.lookups q ∙ ap (λ b. cond b None (lookup (nat_eq q) before)) apart) ∙ is
    ] refl

one_not_none : ◌≡◌ {A = ℕ} 1 0 → ⊥
one_not_none e = absurd (omega (arith, e))

suc_not_none : (n : ℕ) → (n + 1 ≡ 0) → ⊥
suc_not_none n e = absurd (omega (arith, e))

not_true : (b : Bool) → (b ≡ true → ⊥) → b ≡ false
not_true true h = absurd (h refl)
not_true false h = refl

later_on : (a b : Bool) → b ≡ true → (a || b) ≡ true
later_on true b is = refl
later_on false b is = is

first_on : (number : ℕ) (chain : List ℕ) → list_any (λ other. other == number) (number ∷ chain) ≡ true
first_on number chain = ap (λ b. b || list_any (λ other. other == number) chain) (test_same number)

zero_or_not : (n : ℕ) → (0 < n → ⊥) → n ≡ 0
zero_or_not zero h = refl
zero_or_not (suc n) h = absurd (h (omega arith))

on_rest : (number other : ℕ) (rest : List ℕ) → (number ≡ other → ⊥) → list_any (λ n. n == other) (number ∷ rest) ≡ true → list_any (λ n. n == other) rest ≡ true
on_rest number other rest apart on = ap (λ b. b || list_any (λ n. n == other) rest) (sym (test_apart number other apart)) ∙ on

module _ {C : Type 0} where
  -- the body that an identifier names, where it stands
  pub named-chunk : (parts : Parts C) (first : Option Spot) (chain : List ℕ) (number : ℕ) (name : StoredId) (chunk : Chunk C) → IsLinked parts first chain
      → lookup (nat_eq number) parts.ids.entries ≡ Some name → chunk_at parts.stores.items name.owner name.key ≡ Some chunk → chunk.number ≡ name.body
  named-chunk parts first chain number name chunk linked is at =
      let has = linked.named number name is in
      ap (λ (c : Chunk C). c.number) (same_some chunk has.0 (sym at ∙ has.1)) ∙ has.2

  same_shown : (owner : ℕ) (new chunk : Chunk C) → new.children ≡ chunk.children → new.body ≡ chunk.body → shown_chunk owner new ≡ shown_chunk owner chunk
  same_shown owner new chunk children body = λ i. record { owner = owner; content = body i; children = refs_of (children i) }

  -- names are their identifiers and their bodies
  same_names : (a b : NameState C) → a.ids ≡ b.ids → a.bodies ≡ b.bodies → a ≡ b
  same_names a b ids bodies = λ i. record { ids = ids i; bodies = bodies i }

  -- an identifier ends: its body counts one less, and comes to the front of the chain where it was the last
  ended : (before after : Parts C) (first later : Option Spot) (chain longer : List ℕ) (number : ℕ) (name : StoredId) (chunk new : Chunk C) → IsLinked before first chain
      → lookup (nat_eq number) before.ids.entries ≡ Some name → chunk_at before.stores.items name.owner name.key ≡ Some chunk
      → new.number ≡ chunk.number → new.children ≡ chunk.children → new.body ≡ chunk.body → new.names + 1 ≡ chunk.names
      → IdsTaken before.ids.entries after.ids.entries number
      → ArePlaced before.stores.items after.stores.items name.owner name.key (Some new)
      → after.bodies ≡ before.bodies
      → IsChain after.stores.items later longer
      → (new.names ≡ 0 → list_any (λ other. other == new.number) longer ≡ true)
      → ((n : ℕ) → list_any (λ other. other == n) chain ≡ true → list_any (λ other. other == n) longer ≡ true)
      → IsLinked after later longer
  ended before after first later chain longer number name chunk new linked is at same_number same_children same_body less ids placed bodies chained dead more =
      let number_is : chunk.number ≡ name.body = named-chunk before first chain number name chunk linked is at in
      record {
        unique = ids.unique;
        named = λ q other other_is. has-rewritten placed chunk at same_number other.owner other.key other.body (linked.named q other (taken-lookup before.ids.entries after.ids.entries number q other ids other_is));
        apart = apart-rewritten before.stores.items after.stores.items name.owner name.key chunk new linked.apart at placed same_number;
        counted = λ o k c c_is.
            elim (at_place placed o k c c_is) [
              | inl h ↦
                  let as_new : c ≡ new = sym (same_some new c h.2) in
                  let one : counts_for new.number name ≡ 1 = ap (λ b. cond b 1 0) (ap (λ n. nat_eq name.body n) (same_number ∙ number_is) ∙ test_same name.body) in
                  let was : chunk.names ≡ names_of_body new.number before.ids.entries = linked.counted name.owner name.key chunk at ∙ ap (λ n. names_of_body n before.ids.entries) (sym same_number) in
                  let now : new.names ≡ names_of_body new.number after.ids.entries = omega (arith, less, one, was, names-taken before.ids.entries after.ids.entries number name new.number is ids.taken) in
                  subst (λ (d : Chunk C). d.names ≡ names_of_body d.number after.ids.entries) (sym as_new) now
              | inr h ↦
                  let other : name.body ≡ c.number → ⊥ = λ same. (let place = linked.apart.same_place o k name.owner name.key c chunk h.1 at (sym same ∙ sym number_is) in h.0 place.0 place.1) in
                  let none : counts_for c.number name ≡ 0 = ap (λ b. cond b 1 0) (test_apart name.body c.number other) in
                  omega (arith, none, linked.counted o k c h.1, names-taken before.ids.entries after.ids.entries number name c.number is ids.taken)
            ];
        padded = λ o k c c_is.
            elim (at_place placed o k c c_is) [
              | inl h ↦
                  let as_new : c ≡ new = sym (same_some new c h.2) in
                  subst (λ (children : Children). AreNull (drop children.count (all_four children))) (sym (ap (λ (d : Chunk C). d.children) as_new ∙ same_children)) (linked.padded name.owner name.key chunk at)
              | inr h ↦ linked.padded o k c h.1
            ];
        chained = chained;
        dead = λ o k c c_is none.
            elim (at_place placed o k c c_is) [
              | inl h ↦
                  let as_new : c ≡ new = sym (same_some new c h.2) in
                  ap (λ (d : Chunk C). list_any (λ other. other == d.number) longer) as_new ∙ dead (ap (λ (d : Chunk C). d.names) (sym as_new) ∙ none)
              | inr h ↦ more c.number (linked.dead o k c h.1 none)
            ];
        bodies = bodies ∙ linked.bodies ∙ ap (λ b. map.len b) (sym (bodies-rewritten before.stores.items after.stores.items name.owner name.key chunk new linked.apart at placed same_number (same_shown name.owner new chunk same_children same_body)));
      }

  -- the last identifier of a body ends
  pub ended-last : (before after : Parts C) (first : Option Spot) (chain : List ℕ) (number : ℕ) (name : StoredId) (chunk : Chunk C) → IsLinked before first chain
      → lookup (nat_eq number) before.ids.entries ≡ Some name → chunk_at before.stores.items name.owner name.key ≡ Some chunk → chunk.names ≡ 1
      → IdsTaken before.ids.entries after.ids.entries number
      → ArePlaced before.stores.items after.stores.items name.owner name.key (Some (record chunk { names = 0; next = first }))
      → after.bodies ≡ before.bodies
      → IsLinked after (Some (record { owner = name.owner; key = name.key })) (chunk.number ∷ chain)
  ended-last before after first chain number name chunk linked is at one ids placed bodies =
      let new : Chunk C = record chunk { names = 0; next = first } in
      let number_is : chunk.number ≡ name.body = named-chunk before first chain number name chunk linked is at in
      let off_chain : (o k : ℕ) (c : Chunk C) → chunk_at before.stores.items o k ≡ Some c → c.names ≡ 0 → chunk_at after.stores.items o k ≡ Some c =
      λ o k c c_is none. placed.others o k (λ p q. one_not_none (sym one ∙ ap (λ (d : Chunk C). d.names) (same_some chunk c (sym at ∙ ap (λ w. chunk_at before.stores.items w name.key) (sym p) ∙ ap (chunk_at before.stores.items o) (sym q) ∙ c_is)) ∙ none)) ∙ c_is in
      let fresh : list_any (λ other. other == chunk.number) chain ≡ false =
      not_true (list_any (λ other. other == chunk.number) chain) (λ on.
      let d = chain-dead before.stores.items chain first chunk.number linked.chained on in
      let place = linked.apart.same_place d.0 d.1 name.owner name.key d.2 chunk d.3 at d.4 in
      one_not_none (sym one ∙ ap (λ (e : Chunk C). e.names) (same_some chunk d.2 (sym at ∙ ap (λ w. chunk_at before.stores.items w name.key) (sym place.0) ∙ ap (chunk_at before.stores.items d.0) (sym place.1) ∙ d.3)) ∙ d.5)) in
      ended before after first (Some (record { owner = name.owner; key = name.key })) chain (chunk.number ∷ chain) number name chunk new linked is at refl refl refl (sym one) ids placed bodies (
        record { owner = name.owner; key = name.key },
        new,
        refl,
        placed.here,
        refl,
        refl,
        fresh,
        chain-kept before.stores.items after.stores.items chain first (λ o k c c_is none on. off_chain o k c c_is none) linked.chained,
      )
      (λ none. first_on chunk.number chain)
      (λ n on. later_on (chunk.number == n) (list_any (λ other. other == n) chain) on)

  -- an identifier ends, and its body has another
  pub ended-more : (before after : Parts C) (first : Option Spot) (chain : List ℕ) (number : ℕ) (name : StoredId) (chunk : Chunk C) (left : ℕ) → IsLinked before first chain
      → lookup (nat_eq number) before.ids.entries ≡ Some name → chunk_at before.stores.items name.owner name.key ≡ Some chunk → left + 1 ≡ chunk.names → (left ≡ 0 → ⊥)
      → IdsTaken before.ids.entries after.ids.entries number
      → ArePlaced before.stores.items after.stores.items name.owner name.key (Some (record chunk { names = left; next = chunk.next }))
      → after.bodies ≡ before.bodies
      → IsLinked after first chain
  ended-more before after first chain number name chunk left linked is at less more ids placed bodies =
      let new : Chunk C = record chunk { names = left; next = chunk.next } in
      let off_chain : (o k : ℕ) (c : Chunk C) → chunk_at before.stores.items o k ≡ Some c → c.names ≡ 0 → chunk_at after.stores.items o k ≡ Some c =
      λ o k c c_is none. placed.others o k (λ p q. suc_not_none left (less ∙ ap (λ (d : Chunk C). d.names) (same_some chunk c (sym at ∙ ap (λ w. chunk_at before.stores.items w name.key) (sym p) ∙ ap (chunk_at before.stores.items o) (sym q) ∙ c_is)) ∙ none)) ∙ c_is in
      ended before after first first chain chain number name chunk new linked is at refl refl refl less ids placed bodies
      (chain-kept before.stores.items after.stores.items chain first (λ o k c c_is none on. off_chain o k c c_is none) linked.chained)
      (λ none. absurd (more none))
      (λ n on. on)

  -- what the end of an identifier makes of the names
  pub ended-names : (before after : Parts C) (first : Option Spot) (chain : List ℕ) (number : ℕ) (name : StoredId) (chunk new : Chunk C) → IsLinked before first chain
      → chunk_at before.stores.items name.owner name.key ≡ Some chunk
      → new.number ≡ chunk.number → new.children ≡ chunk.children → new.body ≡ chunk.body
      → IdsTaken before.ids.entries after.ids.entries number
      → ArePlaced before.stores.items after.stores.items name.owner name.key (Some new)
      → names_of after ≡ without_id (names_of before) number
  ended-names before after first chain number name chunk new linked at same_number same_children same_body ids placed =
      same_names (names_of after) (without_id (names_of before) number) (ids_of-remove before.ids.entries after.ids.entries number ids.lookups)
      (bodies-rewritten before.stores.items after.stores.items name.owner name.key chunk new linked.apart at placed same_number (same_shown name.owner new chunk same_children same_body))

  -- a body that no identifier names is not named
  pub unnamed : (parts : Parts C) (first : Option Spot) (chain : List ℕ) (owner key : ℕ) (chunk : Chunk C) → IsLinked parts first chain → chunk_at parts.stores.items owner key ≡ Some chunk → chunk.names ≡ 0
      → (number : ℕ) (name : StoredId) → lookup (nat_eq number) parts.ids.entries ≡ Some name → (name.body ≡ chunk.number → ⊥)
  unnamed parts first chain owner key chunk linked at none number name is same =
      let some_names : 0 < names_of_body chunk.number parts.ids.entries = subst (λ n. 0 < names_of_body n parts.ids.entries) same (named-counts parts.ids.entries number name is) in
      absurd (omega (arith, some_names, none, linked.counted owner key chunk at))

  -- the first body on the chain is taken out
  taken-first : (before after : Parts C) (spot : Spot) (number : ℕ) (rest : List ℕ) (chunk : Chunk C) → IsLinked before (Some spot) (number ∷ rest)
      → chunk_at before.stores.items spot.owner spot.key ≡ Some chunk
      → ArePlaced before.stores.items after.stores.items spot.owner spot.key None → after.ids.entries ≡ before.ids.entries → after.bodies + 1 ≡ before.bodies
      → IsLinked after chunk.next rest
  taken-first before after spot number rest chunk linked at placed ids less =
      let is = linked.chained in
      let same_spot : is.0 ≡ spot = same_some is.0 spot (sym is.2) in
      let as_first : is.1 ≡ chunk = same_some is.1 chunk (sym is.3 ∙ ap (λ (p : Spot). chunk_at before.stores.items p.owner p.key) same_spot ∙ at) in
      let none : chunk.names ≡ 0 = ap (λ (c : Chunk C). c.names) (sym as_first) ∙ is.5 in
      let number_is : chunk.number ≡ number = ap (λ (c : Chunk C). c.number) (sym as_first) ∙ is.4 in
      let still : (q : ℕ) (name : StoredId) → lookup (nat_eq q) after.ids.entries ≡ Some name → HasChunk after.stores.items name.owner name.key name.body =
      λ q name q_is.
      let q_was : lookup (nat_eq q) before.ids.entries ≡ Some name = ap (lookup (nat_eq q)) (sym ids) ∙ q_is in
      let has = linked.named q name q_was in (
        has.0,
        placed.others name.owner name.key (λ o k.
            unnamed before (Some spot) (number ∷ rest) spot.owner spot.key chunk linked at none q name q_was
            (sym has.2 ∙ ap (λ (c : Chunk C). c.number) (same_there before.stores.items spot.owner spot.key name.owner name.key chunk has.0 o k at has.1))) ∙ has.1,
        has.2,
      ) in
      record {
        unique = subst (λ es. IsDistinct nat_eq (keys_of es)) (sym ids) linked.unique;
        named = still;
        apart = apart-removed before.stores.items after.stores.items spot.owner spot.key linked.apart placed;
        counted = λ o k c c_is. elim (at_place placed o k c c_is) [
          | inl h ↦ absurd (none_not_some refl h.2)
          | inr h ↦ linked.counted o k c h.1 ∙ ap (names_of_body c.number) (sym ids)
        ];
        padded = λ o k c c_is. elim (at_place placed o k c c_is) [
          | inl h ↦ absurd (none_not_some refl h.2)
          | inr h ↦ linked.padded o k c h.1
        ];
        chained = chain-kept before.stores.items after.stores.items rest chunk.next (λ o k c c_is c_none on.
            placed.others o k (λ p q.
            let as_chunk : c ≡ chunk = same_there before.stores.items spot.owner spot.key o k chunk c p q at c_is in
            let clash : true ≡ false = sym on ∙ ap (λ (d : Chunk C). list_any (λ other. other == d.number) rest) as_chunk ∙ ap (λ n. list_any (λ other. other == n) rest) number_is ∙ is.6 in
            absurd (cc)) ∙ c_is)
            (subst (λ (c : Chunk C). IsChain before.stores.items c.next rest) as_first is.7);
        dead = λ o k c c_is c_none. elim (at_place placed o k c c_is) [
          | inl h ↦ absurd (none_not_some refl h.2)
          | inr h ↦ on_rest number c.number rest (λ same. let place = linked.apart.same_place o k spot.owner spot.key c chunk h.1 at (sym same ∙ sym number_is) in h.0 place.0 place.1) (linked.dead o k c h.1 c_none)
        ];
        bodies =
            let b = bodies_of before.stores.items in
            let there = (shown-bodies_of before.stores.items linked.apart).there spot.owner spot.key chunk at in
            let gone : map.len (map.remove b chunk.number) ≡ map.len b - 1 = map.len-remove nat_cmp_total b chunk.number ∙ ap (λ o. cond (is_some o) (map.len b - 1) (map.len b)) there in
            let same : map.len (bodies_of after.stores.items) ≡ map.len (map.remove b chunk.number) = ap (λ m. map.len m) (bodies-removed before.stores.items after.stores.items spot.owner spot.key chunk linked.apart at placed) in
            omega (arith, less, gone, same, linked.bodies);
      }

  pub taken-out : (before after : Parts C) (spot : Spot) (chunk : Chunk C) → HasChain before (Some spot)
      → chunk_at before.stores.items spot.owner spot.key ≡ Some chunk
      → ArePlaced before.stores.items after.stores.items spot.owner spot.key None → after.ids.entries ≡ before.ids.entries → after.bodies + 1 ≡ before.bodies
      → HasChain after chunk.next
  taken-out before after spot chunk has at placed ids less =
      elim has.0 as (λ chain. IsLinked before (Some spot) chain → HasChain after chunk.next) [
        | [] ↦ λ linked. absurd (none_not_some linked.chained refl)
        | number ∷ rest ↦ λ linked. (rest, taken-first before after spot number rest chunk linked at placed ids less)
      ] has.1

  pub taken-names : (before after : Parts C) (first : Option Spot) (chain : List ℕ) (spot : Spot) (chunk : Chunk C) → IsLinked before first chain
      → chunk_at before.stores.items spot.owner spot.key ≡ Some chunk
      → ArePlaced before.stores.items after.stores.items spot.owner spot.key None → after.ids.entries ≡ before.ids.entries
      → names_of after ≡ without_body (names_of before) chunk.number
  taken-names before after first chain spot chunk linked at placed ids =
      same_names (names_of after) (without_body (names_of before) chunk.number) (ap ids_of ids) (bodies-removed before.stores.items after.stores.items spot.owner spot.key chunk linked.apart at placed)

  -- a new body with its first identifier
  pub put : (before after : Parts C) (chunk : Chunk C) (number : ℕ) (name : StoredId) → IsLinked before None []
      → chunk_at before.stores.items name.owner name.key ≡ None
      → ArePlaced before.stores.items after.stores.items name.owner name.key (Some chunk)
      → chunk.names ≡ 1 → name.body ≡ chunk.number → AreNull (drop chunk.children.count (all_four chunk.children))
      → map.get (bodies_of before.stores.items) chunk.number ≡ None
      → IsPut before.ids.entries after.ids.entries number name
      → after.bodies ≡ before.bodies + 1
      → IsLinked after None []
  put before after chunk number name linked free placed one body_is padded new ids more =
      let unnamed_yet : names_of_body chunk.number before.ids.entries ≡ 0 =
      zero_or_not (names_of_body chunk.number before.ids.entries) (λ some.
      let found = counted-name before.ids.entries chunk.number linked.unique some in
      let has = linked.named found.0 found.1 found.2 in
      no_number before.stores.items chunk.number linked.apart new found.1.owner found.1.key has.0 has.1 (has.2 ∙ found.3)) in
      record {
        unique = ids.unique;
        named = λ q other q_is. elim (put-lookup before.ids.entries after.ids.entries number q name other ids q_is) [
          | inl h ↦ (chunk, ap (λ (n : StoredId). chunk_at after.stores.items n.owner n.key) (sym h.1) ∙ placed.here, sym body_is ∙ ap (λ (n : StoredId). n.body) h.1)
          | inr h ↦
              let has = linked.named q other h in
              (has.0, placed.others other.owner other.key (λ p q. none_not_some (ap (λ w. chunk_at before.stores.items w other.key) p ∙ ap (chunk_at before.stores.items name.owner) q ∙ free) has.1) ∙ has.1, has.2)
        ];
        apart = apart-inserted before.stores.items after.stores.items name.owner name.key chunk linked.apart placed new;
        counted = λ o k c c_is. elim (at_place placed o k c c_is) [
          | inl h ↦
              let counts : counts_for chunk.number name ≡ 1 = ap (λ b. cond b 1 0) (ap (λ n. nat_eq n chunk.number) body_is ∙ test_same chunk.number) in
              let now : chunk.names ≡ names_of_body chunk.number after.ids.entries = omega (arith, one, counts, unnamed_yet, ids.counts chunk.number) in
              subst (λ (d : Chunk C). d.names ≡ names_of_body d.number after.ids.entries) (same_some chunk c h.2) now
          | inr h ↦
              let counts : counts_for c.number name ≡ 0 = ap (λ b. cond b 1 0) (test_apart name.body c.number (λ same. no_number before.stores.items chunk.number linked.apart new o k c h.1 (sym same ∙ body_is))) in
              omega (arith, counts, ids.counts c.number, linked.counted o k c h.1)
        ];
        padded = λ o k c c_is. elim (at_place placed o k c c_is) [
          | inl h ↦ subst (λ (d : Chunk C). AreNull (drop d.children.count (all_four d.children))) (same_some chunk c h.2) padded
          | inr h ↦ linked.padded o k c h.1
        ];
        chained = refl;
        dead = λ o k c c_is none. elim (at_place placed o k c c_is) [
          | inl h ↦ absurd (one_not_none (sym one ∙ ap (λ (d : Chunk C). d.names) (same_some chunk c h.2) ∙ none))
          | inr h ↦ linked.dead o k c h.1 none
        ];
        bodies =
            let b = bodies_of before.stores.items in
            let grown : map.len (map.insert b chunk.number (shown_chunk name.owner chunk)) ≡ map.len b + 1 = map.len-insert nat_cmp_total b chunk.number (shown_chunk name.owner chunk) ∙ ap (λ o. cond (is_some o) (map.len b) (map.len b + 1)) new in
            let same : map.len (bodies_of after.stores.items) ≡ map.len (map.insert b chunk.number (shown_chunk name.owner chunk)) = ap (λ m. map.len m) (bodies-inserted before.stores.items after.stores.items name.owner name.key chunk linked.apart free placed new) in
            omega (arith, more, grown, same, linked.bodies);
      }

  pub put-names : (before after : Parts C) (chunk : Chunk C) (number : ℕ) (name : StoredId) → IsLinked before None []
      → chunk_at before.stores.items name.owner name.key ≡ None
      → ArePlaced before.stores.items after.stores.items name.owner name.key (Some chunk)
      → map.get (bodies_of before.stores.items) chunk.number ≡ None
      → IsPut before.ids.entries after.ids.entries number name
      → names_of after ≡ with_id (with_body (names_of before) chunk.number (shown_chunk name.owner chunk)) number (shown_id name)
  put-names before after chunk number name linked free placed new ids =
      same_names (names_of after) (with_id (with_body (names_of before) chunk.number (shown_chunk name.owner chunk)) number (shown_id name))
      (ids_of-insert before.ids.entries after.ids.entries number name ids.lookups)
      (bodies-inserted before.stores.items after.stores.items name.owner name.key chunk linked.apart free placed new)

  -- one more identifier of a body that another identifier names
  pub added : (before after : Parts C) (source : ℕ) (from : StoredId) (chunk : Chunk C) (number : ℕ) (name : StoredId) → IsLinked before None []
      → lookup (nat_eq source) before.ids.entries ≡ Some from
      → chunk_at before.stores.items from.owner from.key ≡ Some chunk
      → ArePlaced before.stores.items after.stores.items from.owner from.key (Some (record chunk { names = chunk.names + 1 }))
      → name.owner ≡ from.owner → name.key ≡ from.key → name.body ≡ from.body
      → IsPut before.ids.entries after.ids.entries number name
      → after.bodies ≡ before.bodies
      → IsLinked after None []
  added before after source from chunk number name linked is at placed same_owner same_key same_body ids bodies =
      let new : Chunk C = record chunk { names = chunk.names + 1 } in
      let number_is : chunk.number ≡ from.body = named-chunk before None [] source from chunk linked is at in
      record {
        unique = ids.unique;
        named = λ q other q_is. elim (put-lookup before.ids.entries after.ids.entries number q name other ids q_is) [
          | inl h ↦ (
            new,
            ap (λ (n : StoredId). chunk_at after.stores.items n.owner n.key) (sym h.1) ∙ ap (λ w. chunk_at after.stores.items w name.key) same_owner ∙ ap (chunk_at after.stores.items from.owner) same_key ∙ placed.here,
            number_is ∙ sym same_body ∙ ap (λ (n : StoredId). n.body) h.1,
          )
          | inr h ↦ has-rewritten placed chunk at refl other.owner other.key other.body (linked.named q other h)
        ];
        apart = apart-rewritten before.stores.items after.stores.items from.owner from.key chunk new linked.apart at placed refl;
        counted = λ o k c c_is. elim (at_place placed o k c c_is) [
          | inl h ↦
              let counts : counts_for chunk.number name ≡ 1 = ap (λ b. cond b 1 0) (ap (λ n. nat_eq n chunk.number) (same_body ∙ sym number_is) ∙ test_same chunk.number) in
              let now : chunk.names + 1 ≡ names_of_body chunk.number after.ids.entries = omega (arith, counts, linked.counted from.owner from.key chunk at, ids.counts chunk.number) in
              subst (λ (d : Chunk C). d.names ≡ names_of_body d.number after.ids.entries) (same_some new c h.2) now
          | inr h ↦
              let counts : counts_for c.number name ≡ 0 = ap (λ b. cond b 1 0) (test_apart name.body c.number (λ same. let place = linked.apart.same_place o k from.owner from.key c chunk h.1 at (sym same ∙ same_body ∙ sym number_is) in h.0 place.0 place.1)) in
              omega (arith, counts, ids.counts c.number, linked.counted o k c h.1)
        ];
        padded = λ o k c c_is. elim (at_place placed o k c c_is) [
          | inl h ↦ subst (λ (d : Chunk C). AreNull (drop d.children.count (all_four d.children))) (same_some new c h.2) (linked.padded from.owner from.key chunk at)
          | inr h ↦ linked.padded o k c h.1
        ];
        chained = refl;
        dead = λ o k c c_is none. elim (at_place placed o k c c_is) [
          | inl h ↦ absurd (suc_not_none chunk.names (ap (λ (d : Chunk C). d.names) (same_some new c h.2) ∙ none))
          | inr h ↦ linked.dead o k c h.1 none
        ];
        bodies = bodies ∙ linked.bodies ∙ ap (λ b. map.len b) (sym (bodies-rewritten before.stores.items after.stores.items from.owner from.key chunk new linked.apart at placed refl refl));
      }

  pub added-names : (before after : Parts C) (from : StoredId) (chunk : Chunk C) (number : ℕ) (name : StoredId) → IsLinked before None []
      → chunk_at before.stores.items from.owner from.key ≡ Some chunk
      → ArePlaced before.stores.items after.stores.items from.owner from.key (Some (record chunk { names = chunk.names + 1 }))
      → IsPut before.ids.entries after.ids.entries number name
      → names_of after ≡ with_id (names_of before) number (shown_id name)
  added-names before after from chunk number name linked at placed ids =
      same_names (names_of after) (with_id (names_of before) number (shown_id name))
      (ids_of-insert before.ids.entries after.ids.entries number name ids.lookups)
      (bodies-rewritten before.stores.items after.stores.items from.owner from.key chunk (record chunk { names = chunk.names + 1 }) linked.apart at placed refl refl)
