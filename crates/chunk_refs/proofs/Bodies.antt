-- The bodies of all stores by number: each body in a store is there under its number, and nothing else.
use Rattle.std.proofs.Common.{◌≡◌, ℕ, zero, suc, ◌+◌, true, cond, ◌⊎◌, inl, inr, List, [], ◌∷◌, ◌++◌, Option, Some, None, is_some, nat_eq, refl, sym, ap, subst, ◌∙◌, arith, add-zero, zero-add}
use Rattle.std.specs.List.{list_any}
use Rattle.std.specs.Ordering.{nat_cmp, eq_by_cmp}
use Rattle.std.specs.Cmp.{nat_cmp_total, unsigned_tied}
use Rattle.std.specs.FinMap as map
use Rattle.std.proofs.lemmas.Bool.Decides.{nat_tests}
use Rattle.chunk_store.specs.Contents.{Contents as Stored, value_at}
use Rattle.chunk_refs.specs.declared.parts.Chunk.{Chunk}
use Rattle.name_states.specs.States.{BodyRecord}
use Rattle.name_states.proofs.Basics.{cond_some, cond_is_some, cond_still_some, one_of, same_options, some_value, same_some, same_from_test}
use Rattle.chunk_refs.specs.Inside.{bodies_of, in_stores, under_keys, onto, shown_chunk, chunk_at, AreApart}

module _ {X : Type 0} where
  find-cons : (q k : ℕ) (v : X) (rest : List (ℕ × X)) → map.find nat_cmp q ((k, v) ∷ rest) ≡ cond (nat_eq q k) (Some v) (map.find nat_cmp q rest)
  find-cons q k v rest = ap (λ b. cond b (Some v) (map.find nat_cmp q rest)) (unsigned_tied q k)

  -- what is found in two lists in a row
  find-two : (q : ℕ) (xs ys : List (ℕ × X)) (v : X) → map.find nat_cmp q (xs ++ ys) ≡ Some v → (map.find nat_cmp q xs ≡ Some v) ⊎ (map.find nat_cmp q ys ≡ Some v)
  find-two q [] ys v found = inr found
  find-two q (x ∷ xs) ys v found =
      elim (cond_some (nat_eq q x.0) (Some x.1) (map.find nat_cmp q (xs ++ ys)) v (sym (find-cons q x.0 x.1 (xs ++ ys)) ∙ found)) [
        | inl here ↦ inl (find-cons q x.0 x.1 xs ∙ ap (λ b. cond b (Some x.1) (map.find nat_cmp q xs)) here.0 ∙ here.1)
        | inr later ↦ elim (find-two q xs ys v later.1) [
          | inl left ↦ inl (find-cons q x.0 x.1 xs ∙ ap (λ b. cond b (Some x.1) (map.find nat_cmp q xs)) later.0 ∙ left)
          | inr right ↦ inr right
        ]
      ]

  find-left : (q : ℕ) (xs ys : List (ℕ × X)) → is_some (map.find nat_cmp q xs) ≡ true → is_some (map.find nat_cmp q (xs ++ ys)) ≡ true
  find-left q [] ys found = absurd (cc)
  find-left q (x ∷ xs) ys found = cond_still_some (eq_by_cmp nat_cmp q x.0) x.1 (map.find nat_cmp q xs) (map.find nat_cmp q (xs ++ ys)) (find-left q xs ys) found

  find-right : (q : ℕ) (xs ys : List (ℕ × X)) → is_some (map.find nat_cmp q ys) ≡ true → is_some (map.find nat_cmp q (xs ++ ys)) ≡ true
  find-right q [] ys found = found
  find-right q (x ∷ xs) ys found = cond_is_some (eq_by_cmp nat_cmp q x.0) x.1 (map.find nat_cmp q (xs ++ ys)) (find-right q xs ys found)

module _ {C : Type 0} where
  -- a body in the stores with this number, which is seen so
  abbrev pub IsFound : List (Stored (Chunk C)) → ℕ → BodyRecord C → Type 0
  IsFound stores number body =
      (owner : ℕ) × (key : ℕ) × (chunk : Chunk C) × (chunk_at stores owner key ≡ Some chunk) × (chunk.number ≡ number) × (shown_chunk owner chunk ≡ body)

  -- the same where owners count from a number
  abbrev IsFoundFrom : List (Stored (Chunk C)) → ℕ → ℕ → BodyRecord C → Type 0
  IsFoundFrom stores first number body =
      (owner : ℕ) × (key : ℕ) × (chunk : Chunk C) × (chunk_at stores owner key ≡ Some chunk) × (chunk.number ≡ number) × (shown_chunk (first + owner) chunk ≡ body)

  -- the bodies by number are exactly those in the stores
  pub record AreShown (stores : List (Stored (Chunk C))) (bodies : map.FinMap nat_cmp (BodyRecord C)) : Type 0 where
    pub there : (owner key : ℕ) (chunk : Chunk C) → chunk_at stores owner key ≡ Some chunk → map.get bodies chunk.number ≡ Some (shown_chunk owner chunk)
    pub from : (number : ℕ) (body : BodyRecord C) → map.get bodies number ≡ Some body → IsFound stores number body

  -- under keys of one store
  abbrev IsFoundUnder : ℕ → Stored (Chunk C) → ℕ → BodyRecord C → Type 0
  IsFoundUnder owner stored number body =
      (key : ℕ) × (chunk : Chunk C) × (value_at stored key ≡ Some chunk) × (chunk.number ≡ number) × (shown_chunk owner chunk ≡ body)

  find-onto : (owner key : ℕ) (stored : Stored (Chunk C)) (value : Option (Chunk C)) (rest : List (ℕ × BodyRecord C)) (number : ℕ) (body : BodyRecord C)
      → value_at stored key ≡ value
      → (map.find nat_cmp number rest ≡ Some body → IsFoundUnder owner stored number body)
      → map.find nat_cmp number (onto owner value rest) ≡ Some body → IsFoundUnder owner stored number body
  find-onto owner key stored None rest number body is later found = later found
  find-onto owner key stored (Some chunk) rest number body is later found =
      elim (cond_some (nat_eq number chunk.number) (Some (shown_chunk owner chunk)) (map.find nat_cmp number rest) body (sym (find-cons number chunk.number (shown_chunk owner chunk) rest) ∙ found)) [
        | inl here ↦ (key, chunk, is, sym (same_from_test number chunk.number here.0), same_some (shown_chunk owner chunk) body here.1)
        | inr rest_has ↦ later rest_has.1
      ]

  find-under_keys : (owner : ℕ) (stored : Stored (Chunk C)) (keys : List ℕ) (number : ℕ) (body : BodyRecord C)
      → map.find nat_cmp number (under_keys owner stored keys) ≡ Some body → IsFoundUnder owner stored number body
  find-under_keys owner stored [] number body found = absurd (cc)
  find-under_keys owner stored (key ∷ keys) number body found =
      find-onto owner key stored (value_at stored key) (under_keys owner stored keys) number body refl (find-under_keys owner stored keys number body) found

  find-in_stores : (first : ℕ) (stores : List (Stored (Chunk C))) (number : ℕ) (body : BodyRecord C)
      → map.find nat_cmp number (in_stores first stores) ≡ Some body → IsFoundFrom stores first number body
  find-in_stores first [] number body found = absurd (cc)
  find-in_stores first (stored ∷ stores) number body found =
      elim (find-two number (under_keys first stored (map.keys stored.held)) (in_stores (suc first) stores) body found) [
        | inl here ↦
            let f = find-under_keys first stored (map.keys stored.held) number body here in
            (0, f.0, f.1, f.2, f.3, subst (λ owner. shown_chunk owner f.1 ≡ body) (sym (add-zero first)) f.4)
        | inr later ↦
            let f = find-in_stores (suc first) stores number body later in
            let moved : suc first + f.0 ≡ first + suc f.0 = omega arith in
            (suc f.0, f.1, f.2, f.3, f.4, subst (λ owner. shown_chunk owner f.2 ≡ body) moved f.5)
      ]

  -- the other way round: a body in a store is found, or another with its number
  onto-finds : (owner : ℕ) (value : Option (Chunk C)) (rest : List (ℕ × BodyRecord C)) (number : ℕ)
      → is_some (map.find nat_cmp number rest) ≡ true → is_some (map.find nat_cmp number (onto owner value rest)) ≡ true
  onto-finds owner None rest number found = found
  onto-finds owner (Some chunk) rest number found = cond_is_some (eq_by_cmp nat_cmp number chunk.number) (shown_chunk owner chunk) (map.find nat_cmp number rest) found

  onto-first : (owner : ℕ) (value : Option (Chunk C)) (chunk : Chunk C) (rest : List (ℕ × BodyRecord C)) → value ≡ Some chunk → is_some (map.find nat_cmp chunk.number (onto owner value rest)) ≡ true
  onto-first owner value chunk rest is =
      let itself : nat_eq chunk.number chunk.number ≡ true = grind (arith, nat_tests) in
      ap (λ o. is_some (map.find nat_cmp chunk.number (onto owner o rest))) is
      ∙ ap is_some (find-cons chunk.number chunk.number (shown_chunk owner chunk) rest)
      ∙ ap (λ b. is_some (cond b (Some (shown_chunk owner chunk)) (map.find nat_cmp chunk.number rest))) itself

  under_keys-finds : (owner : ℕ) (stored : Stored (Chunk C)) (keys : List ℕ) (key : ℕ) (chunk : Chunk C)
      → value_at stored key ≡ Some chunk → list_any (eq_by_cmp nat_cmp key) keys ≡ true
      → is_some (map.find nat_cmp chunk.number (under_keys owner stored keys)) ≡ true
  under_keys-finds owner stored [] key chunk is among = absurd (cc)
  under_keys-finds owner stored (other ∷ keys) key chunk is among =
      elim (one_of (eq_by_cmp nat_cmp key other) (list_any (eq_by_cmp nat_cmp key) keys) among) [
        | inl here ↦
            let same = same_from_test key other (sym (unsigned_tied key other) ∙ here) in
            onto-first owner (value_at stored other) chunk (under_keys owner stored keys) (ap (value_at stored) (sym same) ∙ is)
        | inr later ↦ onto-finds owner (value_at stored other) (under_keys owner stored keys) chunk.number (under_keys-finds owner stored keys key chunk is later)
      ]

  in_stores-finds : (first : ℕ) (stores : List (Stored (Chunk C))) (owner key : ℕ) (chunk : Chunk C)
      → chunk_at stores owner key ≡ Some chunk → is_some (map.find nat_cmp chunk.number (in_stores first stores)) ≡ true
  in_stores-finds first [] owner key chunk is = absurd (cc)
  in_stores-finds first (stored ∷ stores) zero key chunk is =
      find-left chunk.number (under_keys first stored (map.keys stored.held)) (in_stores (suc first) stores)
      (under_keys-finds first stored (map.keys stored.held) key chunk is (sym (map.contains_key-keys stored.held key) ∙ ap is_some is))
  in_stores-finds first (stored ∷ stores) (suc owner) key chunk is =
      find-right chunk.number (under_keys first stored (map.keys stored.held)) (in_stores (suc first) stores) (in_stores-finds (suc first) stores owner key chunk is)

  from_zero : (stores : List (Stored (Chunk C))) (number : ℕ) (body : BodyRecord C) → IsFoundFrom stores 0 number body → IsFound stores number body
  from_zero stores number body f = (f.0, f.1, f.2, f.3, f.4, ap (λ o. shown_chunk o f.2) (sym (zero-add f.0)) ∙ f.5)

  -- the bodies of stores where no number stands twice
  pub shown-bodies_of : (stores : List (Stored (Chunk C))) → AreApart stores → AreShown stores (bodies_of stores)
  unfolding bodies_of
  shown-bodies_of stores apart =
      let bodies : map.FinMap nat_cmp (BodyRecord C) = map.from_entries (in_stores 0 stores) in
      let comes : (number : ℕ) (body : BodyRecord C) → map.get bodies number ≡ Some body → IsFound stores number body =
      λ number body is. from_zero stores number body (find-in_stores 0 stores number body (sym (map.get-from_entries nat_cmp_total (in_stores 0 stores) number) ∙ is)) in
      record {
        there = λ owner key chunk is.
            let found = some_value (map.get bodies chunk.number) (ap is_some (map.get-from_entries nat_cmp_total (in_stores 0 stores) chunk.number) ∙ in_stores-finds 0 stores owner key chunk is) in
            let f = comes chunk.number found.0 found.1 in
            let same = apart.same_place owner key f.0 f.1 chunk f.2 is f.3 (sym f.4) in
            let same_chunk : chunk ≡ f.2 = same_some chunk f.2 (sym is ∙ ap (λ o. chunk_at stores o key) same.0 ∙ ap (chunk_at stores f.0) same.1 ∙ f.3) in
            found.1 ∙ ap Some (sym f.5 ∙ ap (λ o. shown_chunk o f.2) (sym same.0) ∙ ap (shown_chunk owner) (sym same_chunk));
        from = comes;
      }

  carried : {stores : List (Stored (Chunk C))} (one other : map.FinMap nat_cmp (BodyRecord C)) → AreShown stores one → AreShown stores other
      → (number : ℕ) (body : BodyRecord C) → map.get one number ≡ Some body → map.get other number ≡ Some body
  carried one other a b number body is =
      let f = a.from number body is in
      ap (map.get other) (sym f.4) ∙ b.there f.0 f.1 f.2 f.3 ∙ ap Some f.5

  -- the stores determine the bodies
  pub same_bodies : (stores : List (Stored (Chunk C))) (one other : map.FinMap nat_cmp (BodyRecord C)) → AreShown stores one → AreShown stores other → one ≡ other
  same_bodies stores one other a b =
      map.same_map nat_cmp_total map.nat_cmp-IsAntisymmetric one other (λ number.
      same_options (map.get one number) (map.get other number) (carried one other a b number) (carried other one b a number))
