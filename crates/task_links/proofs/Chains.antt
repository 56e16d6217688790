-- Rows in groups, by rising keys: what leads on from a bound once a row is put in or taken out.
use Rattle.std.proofs.Common.{◌≡◌, ℕ, ◌<◌, Option, Some, None, sym, ap, subst, ◌∙◌, ◌⊎◌, inl, inr, arith}
use Rattle.std.specs.Option.{unwrap_or}
use Rattle.task_states.proofs.Maps.{same_or_not as cases_eq}
use Rattle.task_states.proofs.Options.{not_none}
use Rattle.task_links.specs.Weave.{Above, Leads}

pub above_more : (bound : Option ℕ) (n k : ℕ) → Above bound n → n < k → Above bound k
above_more None n k above more = tt
above_more (Some b) n k above more = omega arith

abbrev pub row_with : ℕ → ℕ → Option (ℕ × ℕ)
row_with g k = Some (g, k)

pub same_key : {g k h m : ℕ} → row_with g k ≡ row_with h m → (g ≡ h) × (k ≡ m)
same_key is = (ap (λ (o : Option (ℕ × ℕ)). (unwrap_or o (0, 0)).0) is, ap (λ (o : Option (ℕ × ℕ)). (unwrap_or o (0, 0)).1) is)

-- a row more
module _ {I : Type 0} (dec : (i j : I) → (i ≡ j) ⊎ (i ≡ j → ⊥)) (row new : I → Option (ℕ × ℕ)) (x : I) (g n : ℕ) (fresh : row x ≡ None) (here : new x ≡ Some (g, n)) (rest : (i : I) → (i ≡ x → ⊥) → new i ≡ row i) where
  pub stays : (i : I) (p : ℕ × ℕ) → row i ≡ Some p → new i ≡ Some p
  stays i p is = rest i (λ same. not_none (row i) p (ap row same ∙ fresh) is) ∙ is

  pub was : (i : I) (h k : ℕ) → new i ≡ Some (h, k) → ((i ≡ x) × (h ≡ g) × (k ≡ n)) ⊎ (row i ≡ Some (h, k))
  was i h k is =
      elim (dec i x) [
        | inl same ↦ let both = same_key (sym is ∙ ap new same ∙ here) in inl (same, both.0, both.1)
        | inr apart ↦ inr (sym (rest i apart) ∙ is)
      ]

  -- what led on from the bound below leads on from the new row
  pub leads_from_new : (bound : Option ℕ) (o : Option I) → Leads row g bound o → Above bound n → ((i : I) (m : ℕ) → row i ≡ Some (g, m) → Above bound m → n < m) → Leads new g (Some n) o
  leads_from_new bound None leads above gap = λ i k is more.
      elim (was i g k is) [
        | inl same ↦ absurd (let at = same.2 in omega arith)
        | inr old ↦ leads i k old (above_more bound n k above more)
      ]
  leads_from_new bound (Some p) leads above gap = (
    leads.0,
    stays p (g, leads.0) leads.1,
    gap p leads.0 leads.1 leads.2,
    λ i m is more. elim (was i g m is) [
      | inl same ↦ absurd (let at = same.2 in omega arith)
      | inr old ↦ leads.3 i m old (above_more bound n m above more)
    ],
  )

  -- the new row leads on from the bound below it
  pub leads_to_new : (bound : Option ℕ) → Above bound n → ((i : I) (m : ℕ) → row i ≡ Some (g, m) → Above bound m → n < m) → Leads new g bound (Some x)
  leads_to_new bound above gap = (
    n,
    here,
    above,
    λ i m is more. elim (was i g m is) [
      | inl same ↦ let at = same.2 in omega arith
      | inr old ↦ let later = gap i m old more in omega arith
    ],
  )

  -- what leads on from elsewhere stays, where another row of the group stands between
  pub leads_still : (h : ℕ) (bound : Option ℕ) (o : Option I) → Leads row h bound o → (h ≡ g → Above bound n → (i : I) × (k : ℕ) × (row i ≡ Some (h, k)) × Above bound k × (k < n)) → Leads new h bound o
  leads_still h bound None leads between = λ i k is more.
      elim (was i h k is) [
        | inl same ↦ let found = between same.1 (subst (Above bound) same.2 more) in leads found.0 found.1 found.2 found.3
        | inr old ↦ leads i k old more
      ]
  leads_still h bound (Some p) leads between = (
    leads.0,
    stays p (h, leads.0) leads.1,
    leads.2,
    λ i m is more. elim (was i h m is) [
      | inl same ↦
          let found = between same.1 (subst (Above bound) same.2 more) in
          let least = leads.3 found.0 found.1 found.2 found.3 in
          let later = found.4 in
          let at = same.2 in
          omega arith
      | inr old ↦ leads.3 i m old more
    ],
  )

-- a row less
module _ {I : Type 0} (dec : (i j : I) → (i ≡ j) ⊎ (i ≡ j → ⊥)) (row new : I → Option (ℕ × ℕ)) (x : I) (g n : ℕ) (here : row x ≡ Some (g, n)) (gone : new x ≡ None) (rest : (i : I) → (i ≡ x → ⊥) → new i ≡ row i) where
  pub left : (i : I) (p : ℕ × ℕ) → new i ≡ Some p → (i ≡ x → ⊥) × (row i ≡ Some p)
  left i p is =
      elim (dec i x) [
        | inl same ↦ absurd (not_none (new i) p (ap new same ∙ gone) is)
        | inr apart ↦ (apart, sym (rest i apart) ∙ is)
      ]

  -- what led on from the row leads on from the bound below it
  pub leads_over : (bound : Option ℕ) (o : Option I) → ((i : I) → row i ≡ Some (g, n) → i ≡ x) → Leads row g bound (Some x) → Leads row g (Some n) o → Leads new g bound o
  leads_over bound None one to from = λ i k is more.
      let was = left i (g, k) is in
      let at = (same_key (sym to.1 ∙ here)).1 in
      let least = to.3 i k was.1 more in
      elim (cases_eq k n) [
        | inl same ↦ was.0 (one i (was.1 ∙ ap (λ m. row_with g m) same))
        | inr apart ↦ from i k was.1 (omega arith)
      ]
  leads_over bound (Some p) one to from =
      let at = (same_key (sym to.1 ∙ here)).1 in
      let above : Above bound n = subst (Above bound) at to.2 in
      let key = from.0 in
      let later : n < key = from.2 in (
        key,
        rest p (λ same. let clash = (same_key (sym from.1 ∙ ap row same ∙ here)).1 in omega arith) ∙ from.1,
        above_more bound n key above later,
        λ i m is more.
            let was = left i (g, m) is in
            let least = to.3 i m was.1 more in
            elim (cases_eq m n) [
              | inl same ↦ absurd (was.0 (one i (was.1 ∙ ap (λ k. row_with g k) same)))
              | inr apart ↦ from.3 i m was.1 (omega arith)
            ],
      )

  -- what leads on to another row stays
  pub leads_past : (h : ℕ) (bound : Option ℕ) (o : Option I) → (o ≡ Some x → ⊥) → Leads row h bound o → Leads new h bound o
  leads_past h bound None other leads = λ i k is more. leads i k (left i (h, k) is).1 more
  leads_past h bound (Some p) other leads = (
    leads.0,
    rest p (λ same. other (ap Some same)) ∙ leads.1,
    leads.2,
    λ i m is more. leads.3 i m (left i (h, m) is).1 more,
  )
