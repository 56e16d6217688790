-- The pair of a body in a list of pairs.
use Rattle.std.proofs.Common.{◌≡◌, ℕ, zero, suc, ◌-◌, ◌≤◌, ◌⊎◌, inl, inr, true, false, nat_eq, List, [], ◌∷◌, length, take, Option, None, Some, refl, ap, sym, arith}
use Rattle.std.proofs.lemmas.Bool.{eqb-true, cases_Bool}
use Rattle.std.proofs.lemmas.List.{take_all}
use Rattle.std.specs.Option.{option_map_or}
use Rattle.std.specs.Map.{lookup, lookup_entry, remove_entry}
use Rattle.chunk_cache.specs.Held.{content_of, in_front}

module _ {C : Type 0} where
  -- no pair has the body
  pub record IsMissing (body : ℕ) (pairs : List (ℕ × C)) : Type 0 where
    pub entry : lookup_entry (nat_eq body) pairs ≡ None
    pub content : lookup (nat_eq body) pairs ≡ None
    pub rest : remove_entry (nat_eq body) pairs ≡ pairs

  -- a pair has the body, and this content
  pub record IsPresent (body : ℕ) (pairs : List (ℕ × C)) (x : C) : Type 0 where
    pub entry : lookup_entry (nat_eq body) pairs ≡ Some (body, x)
    pub content : lookup (nat_eq body) pairs ≡ Some x
    pub rest : suc (length (remove_entry (nat_eq body) pairs)) ≡ length pairs

  abbrev pub IsKnown : ℕ → List (ℕ × C) → Type 0
  IsKnown body pairs = IsMissing body pairs ⊎ ((x : C) × IsPresent body pairs x)

  known_here : (body : ℕ) (pair : ℕ × C) (pairs : List (ℕ × C)) → nat_eq body pair.0 ≡ true → IsKnown body (pair ∷ pairs)
  known_here body pair pairs e =
      let same : body ≡ pair.0 = eqb-true body pair.0 e in
      let make : ℕ → Option (ℕ × C) = λ k. Some (k, pair.1) in
      inr (pair.1, record { entry = rw e (ap make (sym same)); content = rw e refl; rest = rw e refl })

  known_later : (body : ℕ) (pair : ℕ × C) (pairs : List (ℕ × C)) → nat_eq body pair.0 ≡ false → IsKnown body pairs → IsKnown body (pair ∷ pairs)
  known_later body pair pairs e (inl m) =
      let cons : List (ℕ × C) → List (ℕ × C) = λ rest. pair ∷ rest in
      inl (record { entry = rw e m.entry; content = rw e m.content; rest = rw e (ap cons m.rest) })
  known_later body pair pairs e (inr p) =
      inr (p.0, record { entry = rw e p.1.entry; content = rw e p.1.content; rest = rw e (ap suc p.1.rest) })

  pub known : (body : ℕ) (pairs : List (ℕ × C)) → IsKnown body pairs
  known body [] = inl (record { entry = refl; content = refl; rest = refl })
  known body (pair ∷ pairs) = elim (cases_Bool (nat_eq body pair.0)) as (λ _. IsKnown body (pair ∷ pairs)) [
    | inl e ↦ known_here body pair pairs e
    | inr e ↦ known_later body pair pairs e (known body pairs)
  ]

  -- a pair that is taken out
  pub without_shorter : (body : ℕ) (pairs : List (ℕ × C)) → length (remove_entry (nat_eq body) pairs) ≤ length pairs
  without_shorter body pairs = elim (known body pairs) as (λ _. length (remove_entry (nat_eq body) pairs) ≤ length pairs) [
    | inl m ↦ rw m.rest (omega arith)
    | inr p ↦ omega (arith, p.1.rest)
  ]

  -- a pair that is brought to the front
  pub front_is : (body : ℕ) (pairs : List (ℕ × C)) → option_map_or (λ (e : ℕ × C). e ∷ remove_entry (nat_eq body) pairs) (lookup_entry (nat_eq body) pairs) pairs ≡ in_front body (content_of body pairs) pairs
  front_is body pairs = elim (known body pairs) as (λ _. option_map_or (λ (e : ℕ × C). e ∷ remove_entry (nat_eq body) pairs) (lookup_entry (nat_eq body) pairs) pairs ≡ in_front body (content_of body pairs) pairs) [
    | inl m ↦ rw (m.entry, m.content) refl
    | inr p ↦ rw (p.1.entry, p.1.content) refl
  ]

  pub front_length : (body : ℕ) (pairs : List (ℕ × C)) → length (in_front body (content_of body pairs) pairs) ≡ length pairs
  front_length body pairs = elim (known body pairs) as (λ _. length (in_front body (content_of body pairs) pairs) ≡ length pairs) [
    | inl m ↦ rw m.content refl
    | inr p ↦ rw p.1.content p.1.rest
  ]

  put_new : (body : ℕ) (x : C) (pairs : List (ℕ × C)) (n : ℕ) → (body, x) ∷ take (suc n - 1) pairs ≡ (body, x) ∷ take n pairs
  put_new body x pairs n =
      let e : suc n - 1 ≡ n = omega arith in
      rw e refl

  put_old : (body : ℕ) (x : C) (rest : List (ℕ × C)) (n : ℕ) → length rest ≤ n → (body, x) ∷ rest ≡ (body, x) ∷ take n rest
  put_old body x rest n h = rw (take_all n rest h) refl

  -- a pair that is put
  pub put_is : (body : ℕ) (x : C) (pairs : List (ℕ × C)) (capacity : ℕ) → 1 ≤ capacity → length pairs ≤ capacity
      → option_map_or (λ (e : ℕ × C). (e.0, x) ∷ remove_entry (nat_eq body) pairs) (lookup_entry (nat_eq body) pairs) ((body, x) ∷ take (capacity - 1) pairs)
      ≡ take capacity ((body, x) ∷ remove_entry (nat_eq body) pairs)
  put_is body x pairs (suc n) low high = elim (known body pairs) as (λ _. option_map_or (λ (e : ℕ × C). (e.0, x) ∷ remove_entry (nat_eq body) pairs) (lookup_entry (nat_eq body) pairs) ((body, x) ∷ take (suc n - 1) pairs)
      ≡ take (suc n) ((body, x) ∷ remove_entry (nat_eq body) pairs)) [
        | inl m ↦ rw (m.entry, m.rest) (put_new body x pairs n)
        | inr p ↦ rw p.1.entry (put_old body x (remove_entry (nat_eq body) pairs) n (omega (arith, p.1.rest)))
      ]
  put_is body x pairs zero low high = absurd (omega arith)
