-- One store of many is changed: what stands where, and how much room is left.
use Rattle.std.proofs.Common.{◌≡◌, ℕ, zero, suc, ◌+◌, ◌≤◌, inl, inr, List, [], ◌∷◌, length, slice_set, get_or, Option, Some, None, IsSome, refl, sym, ap, ◌∙◌, arith}
use Rattle.std.specs.Prelude.{slice_get, map as each}
use Rattle.std.proofs.lemmas.List.{length-set}
use Rattle.std.proofs.lemmas.Option.{get_or_from_slice_get}
use Rattle.chunk_store.specs.Contents.{Contents as Stored, value_at, with_value}
use Rattle.chunk_refs.specs.declared.parts.Chunk.{Chunk}
use Rattle.chunk_refs.specs.Room.{spare_at, IsAtLeast, IsLeft}
use Rattle.chunk_refs.specs.Inside.{chunk_at, chunk_in, ArePlaced}
use Rattle.name_states.proofs.Basics.{same_or_not, same_some, some_value, inserted_here, inserted_other}

pub get-set_here : {X : Type 0} (xs : List X) (i : ℕ) (y x : X) → slice_get xs i ≡ Some x → slice_get (slice_set xs i y) i ≡ Some y
get-set_here [] i y x is = absurd (cc)
get-set_here (z ∷ zs) zero y x is = refl
get-set_here (z ∷ zs) (suc i) y x is = get-set_here zs i y x is

pub get-set_other : {X : Type 0} (xs : List X) (i j : ℕ) (y : X) → (j ≡ i → ⊥) → slice_get (slice_set xs i y) j ≡ slice_get xs j
get-set_other [] i j y apart = refl
get-set_other (z ∷ zs) zero zero y apart = absurd (apart refl)
get-set_other (z ∷ zs) zero (suc j) y apart = refl
get-set_other (z ∷ zs) (suc i) zero y apart = refl
get-set_other (z ∷ zs) (suc i) (suc j) y apart = get-set_other zs i j y (λ same. apart (ap suc same))

module _ {C : Type 0} where
  -- the room of a store, if there is one
  abbrev pub spare_in : Option (Stored (Chunk C)) → ℕ
  spare_in None = 0
  spare_in (Some stored) = stored.spare

  pub spare_at-spares : (stores : List (Stored (Chunk C))) (worker : ℕ) → spare_at (each (λ stored. stored.spare) stores) worker ≡ spare_in (slice_get stores worker)
  spare_at-spares [] worker = refl
  spare_at-spares (stored ∷ stores) zero = refl
  spare_at-spares (stored ∷ stores) (suc worker) = spare_at-spares stores worker

  pub length-spares : (stores : List (Stored (Chunk C))) → length (each (λ stored. stored.spare) stores) ≡ length stores
  length-spares [] = refl
  length-spares (stored ∷ stores) = ap suc (length-spares stores)

  -- a place with a body is in one of the stores
  within : (found : Option (Stored (Chunk C))) (key : ℕ) → IsSome (chunk_in found key) → IsSome found
  within None key some = absurd (cc)
  within (Some stored) key some = refl

  pub store_of : (stores : List (Stored (Chunk C))) (owner key : ℕ) (old : Stored (Chunk C)) → IsSome (chunk_at stores owner key) → old ≡ get_or stores owner old → slice_get stores owner ≡ Some old
  store_of stores owner key old some is =
      let found = some_value (slice_get stores owner) (within (slice_get stores owner) key some) in
      found.1 ∙ ap Some (sym (get_or_from_slice_get stores owner found.0 old found.1) ∙ sym is)

  -- another store in place of one, that differs at one key
  pub placed-set : (stores : List (Stored (Chunk C))) (owner key : ℕ) (old new : Stored (Chunk C)) (value : Option (Chunk C)) → slice_get stores owner ≡ Some old
      → value_at new key ≡ value → ((other : ℕ) → (other ≡ key → ⊥) → value_at new other ≡ value_at old other)
      → ArePlaced stores (slice_set stores owner new) owner key value
  placed-set stores owner key old new value is here others = record {
    here = ap (λ o. chunk_in o key) (get-set_here stores owner new old is) ∙ here;
    others = λ o k apart. elim (same_or_not o owner) [
      | inl same ↦
          ap (λ w. chunk_at (slice_set stores owner new) w k) same
          ∙ ap (λ v. chunk_in v k) (get-set_here stores owner new old is)
          ∙ others k (apart same)
          ∙ ap (λ v. chunk_in v k) (sym is)
          ∙ ap (λ w. chunk_at stores w k) (sym same)
      | inr other ↦ ap (λ v. chunk_in v k) (get-set_other stores owner o new other)
    ];
  }

  -- a value written over another
  pub placed-write : (stores : List (Stored (Chunk C))) (owner key : ℕ) (old new : Stored (Chunk C)) (chunk value : Chunk C) → slice_get stores owner ≡ Some old
      → chunk_at stores owner key ≡ Some chunk → (value_at old key ≡ Some chunk → new ≡ with_value old key value)
      → ArePlaced stores (slice_set stores owner new) owner key (Some value)
  placed-write stores owner key old new chunk value is at written =
      let same : new ≡ with_value old key value = written (ap (λ o. chunk_in o key) (sym is) ∙ at) in
      placed-set stores owner key old new (Some value) is
      (ap (λ s. value_at s key) same ∙ inserted_here old.held key key value value refl refl)
      (λ other apart. ap (λ s. value_at s other) same ∙ inserted_other old.held key other value apart)

  -- a store with the same room
  pub spares-set : (stores : List (Stored (Chunk C))) (owner : ℕ) (old new : Stored (Chunk C)) → slice_get stores owner ≡ Some old → new.spare ≡ old.spare
      → each (λ stored. stored.spare) (slice_set stores owner new) ≡ each (λ stored. stored.spare) stores
  spares-set [] owner old new is same = refl
  spares-set (stored ∷ stores) zero old new is same = ap (λ n. n ∷ each (λ s. s.spare) stores) (same ∙ ap (λ (s : Stored (Chunk C)). s.spare) (sym (same_some stored old is)))
  spares-set (stored ∷ stores) (suc owner) old new is same = ap (λ rest. stored.spare ∷ rest) (spares-set stores owner old new is same)

  -- a value written over another leaves the room as it was
  pub spares-write : (stores : List (Stored (Chunk C))) (owner key : ℕ) (old new : Stored (Chunk C)) (changed : Chunk C → Chunk C) → slice_get stores owner ≡ Some old
      → IsSome (chunk_at stores owner key) → ((chunk : Chunk C) → value_at old key ≡ Some chunk → new ≡ with_value old key (changed chunk))
      → each (λ stored. stored.spare) (slice_set stores owner new) ≡ each (λ stored. stored.spare) stores
  spares-write stores owner key old new changed is some written =
      let found = some_value (chunk_at stores owner key) some in
      spares-set stores owner old new is (ap (λ (s : Stored (Chunk C)). s.spare) (written found.0 (ap (λ o. chunk_in o key) (sym is) ∙ found.1)))

  -- what is left of a worker's room, but for a few
  spare_or_more : (stores : List (Stored (Chunk C))) (owner worker : ℕ) (old new : Stored (Chunk C)) (few : ℕ) → slice_get stores owner ≡ Some old → old.spare ≤ new.spare + few
      → spare_at (each (λ stored. stored.spare) stores) worker ≤ spare_at (each (λ stored. stored.spare) (slice_set stores owner new)) worker + few
  spare_or_more stores owner worker old new few is more = elim (same_or_not worker owner) [
    | inl same ↦
        omega (
          arith,
          more,
          spare_at-spares stores worker,
          spare_at-spares (slice_set stores owner new) worker,
          ap (λ w. spare_in (slice_get stores w)) same,
          ap spare_in is,
          ap (λ w. spare_in (slice_get (slice_set stores owner new) w)) same,
          ap spare_in (get-set_here stores owner new old is),
        )
    | inr apart ↦ omega (arith, spare_at-spares stores worker, spare_at-spares (slice_set stores owner new) worker, ap spare_in (get-set_other stores owner worker new apart))
  ]

  -- a store with more room
  pub at_least-set : (stores : List (Stored (Chunk C))) (owner : ℕ) (old new : Stored (Chunk C)) (ids : ℕ) → slice_get stores owner ≡ Some old → old.spare ≤ new.spare
      → IsAtLeast (record { bodies = each (λ stored. stored.spare) stores; ids = ids }) (record { bodies = each (λ stored. stored.spare) (slice_set stores owner new); ids = ids })
  at_least-set stores owner old new ids is more = record {
    workers = length-spares (slice_set stores owner new) ∙ length-set stores owner new ∙ sym (length-spares stores);
    bodies = λ w. omega (arith, spare_or_more stores owner w old new 0 is (omega arith));
    ids = omega arith;
  }

  -- a store with room for one body less
  pub left-set : (stores : List (Stored (Chunk C))) (owner : ℕ) (old new : Stored (Chunk C)) (ids : ℕ) → slice_get stores owner ≡ Some old → new.spare + 1 ≡ old.spare
      → IsLeft (record { bodies = each (λ stored. stored.spare) stores; ids = ids }) (record { bodies = each (λ stored. stored.spare) (slice_set stores owner new); ids = ids }) owner 0
  left-set stores owner old new ids is less = record {
    workers = length-spares (slice_set stores owner new) ∙ length-set stores owner new ∙ sym (length-spares stores);
    own = spare_or_more stores owner owner old new 1 is (omega arith);
    others = λ w apart. omega (arith, spare_at-spares stores w, spare_at-spares (slice_set stores owner new) w, ap spare_in (get-set_other stores owner w new apart));
    ids = omega arith;
  }
