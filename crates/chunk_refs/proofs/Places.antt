-- A change of the stores at one place: what it does to the bodies by number.
use Rattle.std.proofs.Common.{◌≡◌, ℕ, ◌⊎◌, inl, inr, List, Option, Some, None, refl, sym, ap, ◌∙◌}
use Rattle.std.specs.Cmp.{nat_cmp_total}
use Rattle.std.specs.FinMap as map
use Rattle.chunk_store.specs.Contents.{Contents as Stored}
use Rattle.chunk_refs.specs.declared.parts.Chunk.{Chunk}
use Rattle.chunk_refs.specs.Inside.{bodies_of, shown_chunk, chunk_at, AreApart, ArePlaced, HasChunk}
use Rattle.name_states.proofs.Basics.{same_some, same_place_or_not, none_not_some, inserted_here, inserted_other, inserted_from, removed_other, removed_from}
use Rattle.chunk_refs.proofs.Bodies.{shown-bodies_of, same_bodies}

module _ {C : Type 0} where
  -- what the stores have at a place after a change, at the place itself and at others
  pub at_place : {before after : List (Stored (Chunk C))} {owner key : ℕ} {value : Option (Chunk C)} → ArePlaced before after owner key value
      → (other_owner other_key : ℕ) (chunk : Chunk C) → chunk_at after other_owner other_key ≡ Some chunk
      → ((other_owner ≡ owner) × (other_key ≡ key) × (value ≡ Some chunk)) ⊎ ((other_owner ≡ owner → other_key ≡ key → ⊥) × (chunk_at before other_owner other_key ≡ Some chunk))
  at_place {before} {after} {owner} {key} {value} placed other_owner other_key chunk is =
      elim (same_place_or_not owner key other_owner other_key) [
        | inl same ↦ inl (same.0, same.1, sym placed.here ∙ ap (λ o. chunk_at after o key) (sym same.0) ∙ ap (chunk_at after other_owner) (sym same.1) ∙ is)
        | inr apart ↦ inr (apart, sym (placed.others other_owner other_key apart) ∙ is)
      ]

  -- the same body at the same place
  pub same_there : (stores : List (Stored (Chunk C))) (owner key other_owner other_key : ℕ) (chunk other : Chunk C) → other_owner ≡ owner → other_key ≡ key
      → chunk_at stores owner key ≡ Some chunk → chunk_at stores other_owner other_key ≡ Some other → other ≡ chunk
  same_there stores owner key other_owner other_key chunk other p q is is_other =
      same_some other chunk (sym is_other ∙ ap (λ o. chunk_at stores o other_key) p ∙ ap (chunk_at stores owner) q ∙ is)

  -- a body with another number stands where it stood
  pub still_at : {before after : List (Stored (Chunk C))} {owner key : ℕ} {value : Option (Chunk C)} → ArePlaced before after owner key value
      → (chunk : Chunk C) → chunk_at before owner key ≡ Some chunk
      → (other_owner other_key : ℕ) (other : Chunk C) → chunk_at before other_owner other_key ≡ Some other → (other.number ≡ chunk.number → ⊥)
      → chunk_at after other_owner other_key ≡ Some other
  still_at {before} {after} {owner} {key} placed chunk is other_owner other_key other is_other differ =
      placed.others other_owner other_key (λ p q.
      differ (ap (λ (c : Chunk C). c.number) (same_there before owner key other_owner other_key chunk other p q is is_other)))
      ∙ is_other

  -- a body that has the number of the one at its place keeps that number there
  pub has-rewritten : {before after : List (Stored (Chunk C))} {owner key : ℕ} {new : Chunk C} → ArePlaced before after owner key (Some new)
      → (chunk : Chunk C) → chunk_at before owner key ≡ Some chunk → new.number ≡ chunk.number
      → (other_owner other_key number : ℕ) → HasChunk before other_owner other_key number → HasChunk after other_owner other_key number
  has-rewritten {before} {after} {owner} {key} {new} placed chunk is same other_owner other_key number has =
      elim (same_place_or_not owner key other_owner other_key) [
        | inl at ↦ (
          new,
          ap (λ o. chunk_at after o other_key) at.0 ∙ ap (chunk_at after owner) at.1 ∙ placed.here,
          same ∙ ap (λ (c : Chunk C). c.number) (sym (same_there before owner key other_owner other_key chunk has.0 at.0 at.1 is has.1)) ∙ has.2,
        )
        | inr at ↦ (has.0, placed.others other_owner other_key at ∙ has.1, has.2)
      ]

  -- where each number stood at its place before, none stands twice
  pub apart-from : (before after : List (Stored (Chunk C))) → AreApart before
      → ((owner key : ℕ) (chunk : Chunk C) → chunk_at after owner key ≡ Some chunk → (old : Chunk C) × (chunk_at before owner key ≡ Some old) × (old.number ≡ chunk.number))
      → AreApart after
  apart-from before after apart was = record {
    same_place = λ o k p q c d c_is d_is numbers.
        let one = was o k c c_is in
        let two = was p q d d_is in
        apart.same_place o k p q one.0 two.0 one.1 two.1 (one.2 ∙ numbers ∙ sym two.2);
  }

  -- another body with the same number and the same outside in place of one
  pub apart-rewritten : (before after : List (Stored (Chunk C))) (owner key : ℕ) (chunk new : Chunk C) → AreApart before → chunk_at before owner key ≡ Some chunk → ArePlaced before after owner key (Some new)
      → new.number ≡ chunk.number → AreApart after
  apart-rewritten before after owner key chunk new apart is placed same =
      apart-from before after apart (λ o k c c_is. elim (at_place placed o k c c_is) [
        | inl h ↦ (chunk, ap (λ w. chunk_at before w k) h.0 ∙ ap (chunk_at before owner) h.1 ∙ is, sym same ∙ ap (λ (d : Chunk C). d.number) (same_some new c h.2))
        | inr h ↦ (c, h.1, refl)
      ])

  pub bodies-rewritten : (before after : List (Stored (Chunk C))) (owner key : ℕ) (chunk new : Chunk C) → AreApart before → chunk_at before owner key ≡ Some chunk → ArePlaced before after owner key (Some new)
      → new.number ≡ chunk.number → shown_chunk owner new ≡ shown_chunk owner chunk → bodies_of after ≡ bodies_of before
  bodies-rewritten before after owner key chunk new apart is placed same shown =
      let s = shown-bodies_of before apart in
      same_bodies after (bodies_of after) (bodies_of before) (shown-bodies_of after (apart-rewritten before after owner key chunk new apart is placed same)) (record {
        there = λ o k c c_is. elim (at_place placed o k c c_is) [
          | inl h ↦
              let as_new : c ≡ new = sym (same_some new c h.2) in
              ap (λ (d : Chunk C). map.get (bodies_of before) d.number) as_new ∙ ap (map.get (bodies_of before)) same ∙ s.there owner key chunk is
              ∙ ap Some (sym shown ∙ ap (λ w. shown_chunk w new) (sym h.0) ∙ ap (shown_chunk o) (sym as_new))
          | inr h ↦ s.there o k c h.1
        ];
        from = λ number body found.
            let f = s.from number body found in
            elim (same_place_or_not owner key f.0 f.1) [
              | inl at ↦
                  let as_chunk : f.2 ≡ chunk = same_there before owner key f.0 f.1 chunk f.2 at.0 at.1 is f.3 in
                  (owner, key, new, placed.here, same ∙ ap (λ (d : Chunk C). d.number) (sym as_chunk) ∙ f.4, shown ∙ ap (λ w. shown_chunk w chunk) (sym at.0) ∙ ap (shown_chunk f.0) (sym as_chunk) ∙ f.5)
              | inr at ↦ (f.0, f.1, f.2, placed.others f.0 f.1 at ∙ f.3, f.4, f.5)
            ];
      })

  -- a body whose number is new stands at no place
  pub no_number : (stores : List (Stored (Chunk C))) (number : ℕ) → AreApart stores → map.get (bodies_of stores) number ≡ None
      → (owner key : ℕ) (chunk : Chunk C) → chunk_at stores owner key ≡ Some chunk → (chunk.number ≡ number → ⊥)
  no_number stores number apart new owner key chunk is same =
      none_not_some (ap (map.get (bodies_of stores)) same ∙ new) ((shown-bodies_of stores apart).there owner key chunk is)

  -- a new body
  pub apart-inserted : (before after : List (Stored (Chunk C))) (owner key : ℕ) (chunk : Chunk C) → AreApart before → ArePlaced before after owner key (Some chunk)
      → map.get (bodies_of before) chunk.number ≡ None → AreApart after
  apart-inserted before after owner key chunk apart placed new =
      let fresh = no_number before chunk.number apart new in
      record {
        same_place = λ o k p q c d c_is d_is numbers.
            elim (at_place placed o k c c_is) [
              | inl h ↦ elim (at_place placed p q d d_is) [
                | inl g ↦ (h.0 ∙ sym g.0, h.1 ∙ sym g.1)
                | inr g ↦ absurd (fresh p q d g.1 (sym numbers ∙ ap (λ (e : Chunk C). e.number) (sym (same_some chunk c h.2))))
              ]
              | inr h ↦ elim (at_place placed p q d d_is) [
                | inl g ↦ absurd (fresh o k c h.1 (numbers ∙ ap (λ (e : Chunk C). e.number) (sym (same_some chunk d g.2))))
                | inr g ↦ apart.same_place o k p q c d h.1 g.1 numbers
              ]
            ];
      }

  pub bodies-inserted : (before after : List (Stored (Chunk C))) (owner key : ℕ) (chunk : Chunk C) → AreApart before → chunk_at before owner key ≡ None → ArePlaced before after owner key (Some chunk)
      → map.get (bodies_of before) chunk.number ≡ None → bodies_of after ≡ map.insert (bodies_of before) chunk.number (shown_chunk owner chunk)
  bodies-inserted before after owner key chunk apart free placed new =
      let s = shown-bodies_of before apart in
      let value = map.get-insert nat_cmp_total (bodies_of before) chunk.number (shown_chunk owner chunk) in
      same_bodies after (bodies_of after) (map.insert (bodies_of before) chunk.number (shown_chunk owner chunk)) (shown-bodies_of after (apart-inserted before after owner key chunk apart placed new)) (record {
        there = λ o k c c_is. elim (at_place placed o k c c_is) [
          | inl h ↦
              let as_chunk : c ≡ chunk = sym (same_some chunk c h.2) in
              inserted_here (bodies_of before) chunk.number c.number (shown_chunk owner chunk) (shown_chunk o c) (ap (λ (e : Chunk C). e.number) as_chunk) (ap (λ w. shown_chunk w c) h.0 ∙ ap (shown_chunk owner) as_chunk)
          | inr h ↦ inserted_other (bodies_of before) chunk.number c.number (shown_chunk owner chunk) (no_number before chunk.number apart new o k c h.1) ∙ s.there o k c h.1
        ];
        from = λ number body found.
            elim (inserted_from (bodies_of before) chunk.number number (shown_chunk owner chunk) body found) [
              | inl h ↦ (owner, key, chunk, placed.here, sym h.0, sym h.1)
              | inr h ↦
                  let f = s.from number body h.1 in
                  (f.0, f.1, f.2, placed.others f.0 f.1 (λ p q. none_not_some (ap (λ o. chunk_at before o f.1) p ∙ ap (chunk_at before owner) q ∙ free) f.3) ∙ f.3, f.4, f.5)
            ];
      })

  -- a body that goes
  pub apart-removed : (before after : List (Stored (Chunk C))) (owner key : ℕ) → AreApart before → ArePlaced before after owner key None → AreApart after
  apart-removed before after owner key apart placed =
      apart-from before after apart (λ o k c c_is. elim (at_place placed o k c c_is) [
        | inl h ↦ absurd (none_not_some refl h.2)
        | inr h ↦ (c, h.1, refl)
      ])

  pub bodies-removed : (before after : List (Stored (Chunk C))) (owner key : ℕ) (chunk : Chunk C) → AreApart before → chunk_at before owner key ≡ Some chunk → ArePlaced before after owner key None
      → bodies_of after ≡ map.remove (bodies_of before) chunk.number
  bodies-removed before after owner key chunk apart is placed =
      let s = shown-bodies_of before apart in
      same_bodies after (bodies_of after) (map.remove (bodies_of before) chunk.number) (shown-bodies_of after (apart-removed before after owner key apart placed)) (record {
        there = λ o k c c_is. elim (at_place placed o k c c_is) [
          | inl h ↦ absurd (none_not_some refl h.2)
          | inr h ↦
              removed_other (bodies_of before) chunk.number c.number (λ same. let at = apart.same_place o k owner key c chunk h.1 is same in h.0 at.0 at.1)
              ∙ s.there o k c h.1
        ];
        from = λ number body found.
            let h = removed_from (bodies_of before) chunk.number number body found in
            let f = s.from number body h.1 in
            (f.0, f.1, f.2, still_at placed chunk is f.0 f.1 f.2 f.3 (λ same. h.0 (sym f.4 ∙ same)), f.4, f.5);
      })

  -- the same bodies at the same places
  pub apart-same : (before after : List (Stored (Chunk C))) → AreApart before → ((owner key : ℕ) → chunk_at after owner key ≡ chunk_at before owner key) → AreApart after
  apart-same before after apart same = record {
    same_place = λ o k p q c d c_is d_is numbers. apart.same_place o k p q c d (sym (same o k) ∙ c_is) (sym (same p q) ∙ d_is) numbers;
  }

  pub bodies-same : (before after : List (Stored (Chunk C))) → AreApart before → ((owner key : ℕ) → chunk_at after owner key ≡ chunk_at before owner key) → bodies_of after ≡ bodies_of before
  bodies-same before after apart same =
      let s = shown-bodies_of before apart in
      same_bodies after (bodies_of after) (bodies_of before) (shown-bodies_of after (apart-same before after apart same)) (record {
        there = λ o k c is. s.there o k c (sym (same o k) ∙ is);
        from = λ number body is. let f = s.from number body is in (f.0, f.1, f.2, same f.0 f.1 ∙ f.3, f.4, f.5);
      })
