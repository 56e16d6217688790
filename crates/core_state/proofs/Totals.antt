-- Sums over the values of a map, over lists and over the numbers below another.
use Rattle.std.proofs.Common.{◌≡◌, ℕ, zero, suc, ◌+◌, ◌-◌, ◌<◌, ◌≤◌, cond, nat_cmp, List, [], ◌∷◌, map as each, length, inl, inr, None, Some, is_some, refl, sym, ap, ◌∙◌, arith}
use Rattle.std.specs.List.{sum}
use Rattle.std.specs.Ordering.{is_eq}
use Rattle.std.specs.Cmp.{nat_cmp_total, unsigned_tied}
use Rattle.std.specs.FinMap as map
use Rattle.std.specs.FinMap.{find}
use Rattle.std.specs.FinMap.Entries.{put, by_order}
use Rattle.std.specs.declared.cmp.Ordering.TheVariants.{Less, Equal, Greater}
use Rattle.std.proofs.lemmas.List.Sums.{sum_by-cons}
use Rattle.name_states.proofs.Basics.{none_not_some, same_or_not, test_same, inserted_here, inserted_other, removed_here, removed_other, removed_from, none_or_some}
use Rattle.task_states.proofs.Maps.{same_maps}
use Rattle.core_state.specs.Needed.{total_by, total_below}

pub sum_first : (x : ℕ) (xs : List ℕ) → sum (x ∷ xs) ≡ x + sum xs
sum_first x xs = sum_by-cons (λ n. n) x xs

module _ {X : Type 0} (f : X → ℕ) where
  sum_put : (k : ℕ) (v : X) (es : List (ℕ × X)) → find nat_cmp k es ≡ None → sum (each (λ e. f e.1) (put nat_cmp k v es)) ≡ f v + sum (each (λ e. f e.1) es)
  sum_put k v [] none = sum_first (f v) []
  sum_put k v (e ∷ es) none =
      elim (nat_cmp k e.0) as (λ o. nat_cmp k e.0 ≡ o → cond (is_eq o) (Some e.1) (find nat_cmp k es) ≡ None
      → sum (each (λ x. f x.1) (by_order o ((k, v) ∷ e ∷ es) ((e.0, v) ∷ es) (e ∷ put nat_cmp k v es))) ≡ f v + sum (each (λ x. f x.1) (e ∷ es))) [
        | Less ↦ λ is found. sum_first (f v) (each (λ x. f x.1) (e ∷ es))
        | Equal ↦ λ is found. absurd (none_not_some {o = Some e.1} found refl)
        | Greater ↦ λ is found.
            let rest = sum_put k v es found in
            let first = sum_first (f e.1) (each (λ x. f x.1) (put nat_cmp k v es)) in
            let old = sum_first (f e.1) (each (λ x. f x.1) es) in
            omega arith
      ] refl none

  -- one more value
  pub total_inserted : (m : map.FinMap nat_cmp X) (k : ℕ) (v : X) → map.get m k ≡ None → total_by f (map.insert m k v) ≡ f v + total_by f m
  total_inserted m k v none =
      ap (λ es. sum (each (λ e. f e.1) es)) (map.entries-insert nat_cmp_total m k v) ∙ sum_put k v (map.entries m) (sym (map.get-entries m k) ∙ none)

  -- one value less
  pub total_removed : (m : map.FinMap nat_cmp X) (k : ℕ) (v : X) → map.get m k ≡ Some v → total_by f m ≡ f v + total_by f (map.remove m k)
  total_removed m k v is =
      ap (total_by f) (same_maps m (map.insert (map.remove m k) k v) (λ q. elim (same_or_not q k) [
        | inl same ↦ ap (map.get m) same ∙ is ∙ sym (inserted_here (map.remove m k) k q v v same refl)
        | inr apart ↦ sym (inserted_other (map.remove m k) k q v apart ∙ removed_other m k q apart)
      ])) ∙ total_inserted (map.remove m k) k v (removed_here m k k refl)

  reinserted : (m : map.FinMap nat_cmp X) (k : ℕ) (v : X) → map.insert m k v ≡ map.insert (map.remove m k) k v
  reinserted m k v = same_maps _ _ (λ q. elim (same_or_not q k) [
    | inl same ↦ inserted_here m k q v v same refl ∙ sym (inserted_here (map.remove m k) k q v v same refl)
    | inr apart ↦ inserted_other m k q v apart ∙ sym (inserted_other (map.remove m k) k q v apart ∙ removed_other m k q apart)
  ])

  -- another value under the same key
  pub total_replaced : (m : map.FinMap nat_cmp X) (k : ℕ) (old v : X) → map.get m k ≡ Some old → total_by f (map.insert m k v) + f old ≡ f v + total_by f m
  total_replaced m k old v is =
      let put : total_by f (map.insert m k v) ≡ f v + total_by f (map.remove m k) = ap (total_by f) (reinserted m k v) ∙ total_inserted (map.remove m k) k v (removed_here m k k refl) in
      let was = total_removed m k old is in
      omega arith

  -- whatever stood under the key before
  pub total_at_most : (m : map.FinMap nat_cmp X) (k : ℕ) (v : X) → total_by f (map.insert m k v) ≤ f v + total_by f m
  total_at_most m k v =
      elim (none_or_some (map.get m k)) [
        | inl none ↦ let e = total_inserted m k v none in omega arith
        | inr found ↦ let e = total_replaced m k found.0 v found.1 in omega arith
      ]

  no_values : (es : List (ℕ × X)) → length es ≡ 0 → sum (each (λ e. f e.1) es) ≡ 0
  no_values [] is = refl
  no_values (e ∷ es) is = absurd (omega arith)

  -- no values
  pub total_empty : total_by f map.empty ≡ 0
  total_empty = no_values (map.entries map.empty) (sym (map.len-entries map.empty) ∙ map.len-empty nat_cmp X)

  total_none : (m : map.FinMap nat_cmp X) → map.len m ≡ 0 → total_by f m ≡ 0
  total_none m is = no_values (map.entries m) (sym (map.len-entries m) ∙ is)

  one_of_them : (m : map.FinMap nat_cmp X) (n : ℕ) (es : List (ℕ × X)) → map.entries m ≡ es → length es ≡ suc n → (k : ℕ) × (v : X) × (map.get m k ≡ Some v)
  one_of_them m n [] is long = absurd (omega arith)
  one_of_them m n (e ∷ es) is long =
      (e.0, e.1, map.get-entries m e.0 ∙ ap (find nat_cmp e.0) is ∙ ap (λ b. cond b (Some e.1) (find nat_cmp e.0 es)) (unsigned_tied e.0 e.0 ∙ test_same e.0))

  fewer : (m : map.FinMap nat_cmp X) (k : ℕ) (v : X) (n : ℕ) → map.get m k ≡ Some v → map.len m ≡ suc n → map.len (map.remove m k) ≡ n
  fewer m k v n is long =
      let one = map.len-remove nat_cmp_total m k in
      let less : map.len (map.remove m k) ≡ map.len m - 1 = one ∙ ap (λ o. cond (is_some o) (map.len m - 1) (map.len m)) is in
      omega arith

  less_within : (fuel : ℕ) (n m : map.FinMap nat_cmp X) → map.len n ≡ fuel → ((q : ℕ) (v : X) → map.get n q ≡ Some v → map.get m q ≡ Some v) → total_by f n ≤ total_by f m
  less_within zero n m long within = let none = total_none n long in omega arith
  less_within (suc fuel) n m long within =
      let one = one_of_them n fuel (map.entries n) refl (sym (map.len-entries n) ∙ long) in
      let mine = total_removed n one.0 one.1 one.2 in
      let whole = total_removed m one.0 one.1 (within one.0 one.1 one.2) in
      let rest = less_within fuel (map.remove n one.0) (map.remove m one.0) (fewer n one.0 one.1 fuel one.2 long) (λ q v is.
      let found = removed_from n one.0 q v is in
      removed_other m one.0 q found.0 ∙ within q v found.1) in
      omega arith

  -- a part of a map
  pub total_less : (n m : map.FinMap nat_cmp X) → ((q : ℕ) (v : X) → map.get n q ≡ Some v → map.get m q ≡ Some v) → total_by f n ≤ total_by f m
  total_less n m within = less_within (map.len n) n m refl within

  -- a part of a map without one of its values
  pub total_less_one : (n m : map.FinMap nat_cmp X) (k : ℕ) (one : X) → map.get m k ≡ Some one → map.get n k ≡ None
      → ((q : ℕ) (v : X) → map.get n q ≡ Some v → map.get m q ≡ Some v) → total_by f n + f one ≤ total_by f m
  total_less_one n m k one is gone within =
      let whole = total_removed m k one is in
      let rest = total_less n (map.remove m k) (λ q v found. elim (same_or_not q k) [
        | inl same ↦ absurd (none_not_some (ap (map.get n) same ∙ gone) found)
        | inr apart ↦ removed_other m k q apart ∙ within q v found
      ]) in
      omega arith

-- ---- Over the numbers below another

-- equal everywhere below
pub below_same : (n : ℕ) (f g : ℕ → ℕ) → ((q : ℕ) → q < n → f q ≡ g q) → total_below n f ≡ total_below n g
below_same zero f g same = refl
below_same (suc n) f g same =
    let here = same n (omega arith) in
    let rest = below_same n f g (λ q within. same q (omega arith)) in
    omega arith

-- equal but at one number
pub below_but_one : (n : ℕ) (f g : ℕ → ℕ) (k : ℕ) → k < n → ((q : ℕ) → (q ≡ k → ⊥) → f q ≡ g q) → total_below n f + g k ≡ total_below n g + f k
below_but_one zero f g k within same = absurd (omega arith)
below_but_one (suc n) f g k within same =
    elim (same_or_not n k) [
      | inl here ↦
          let last : f n + g k ≡ f k + g n = ap (λ q. f n + g q) (sym here) ∙ ap (λ q. f q + g n) here in
          let rest = below_same n f g (λ q less. same q (λ clash. omega arith)) in
          omega arith
      | inr apart ↦
          let last = same n apart in
          let rest = below_but_one n f g k (omega arith) same in
          omega arith
    ]

-- at most as much everywhere below
pub below_at_most : (n : ℕ) (f g : ℕ → ℕ) → ((q : ℕ) → f q ≤ g q) → total_below n f ≤ total_below n g
below_at_most zero f g less = omega arith
below_at_most (suc n) f g less =
    let here = less n in
    let rest = below_at_most n f g less in
    omega arith

-- nothing everywhere below
pub below_nothing : (n : ℕ) (f : ℕ → ℕ) → ((q : ℕ) → f q ≡ 0) → total_below n f ≡ 0
below_nothing zero f none = refl
below_nothing (suc n) f none = let here = none n in let rest = below_nothing n f none in omega arith
