-- The total of a map of numbers.
use Rattle.std.proofs.Common.{◌≡◌, ℕ, ◌+◌, cond, nat_cmp, List, [], ◌∷◌, map as each, length, inl, inr, None, Some, refl, sym, ap, ◌∙◌, arith}
use Rattle.std.specs.List.{sum}
use Rattle.std.specs.Ordering.{is_eq}
use Rattle.std.specs.Cmp.{nat_cmp_total}
use Rattle.std.specs.FinMap as map
use Rattle.std.specs.FinMap.{find}
use Rattle.std.specs.FinMap.Entries.{put, by_order}
use Rattle.std.specs.declared.cmp.Ordering.TheVariants.{Less, Equal, Greater}
use Rattle.std.proofs.lemmas.List.Sums.{sum_by-cons}
use Rattle.name_states.proofs.Basics.{none_not_some, same_or_not, inserted_here, inserted_other, removed_here, removed_other}
use Rattle.task_states.proofs.Maps.{same_maps}

-- the sum of the values
abbrev pub total : map.FinMap nat_cmp ℕ → ℕ
total m = sum (map.values m)

sum_first : (x : ℕ) (xs : List ℕ) → sum (x ∷ xs) ≡ x + sum xs
sum_first x xs = sum_by-cons (λ n. n) x xs

sum_put : (k v : ℕ) (es : List (ℕ × ℕ)) → find nat_cmp k es ≡ None → sum (each (λ e. e.1) (put nat_cmp k v es)) ≡ v + sum (each (λ e. e.1) es)
sum_put k v [] none = sum_first v []
sum_put k v (e ∷ es) none =
    elim (nat_cmp k e.0) as (λ o. nat_cmp k e.0 ≡ o → cond (is_eq o) (Some e.1) (find nat_cmp k es) ≡ None
    → sum (each (λ x. x.1) (by_order o ((k, v) ∷ e ∷ es) ((e.0, v) ∷ es) (e ∷ put nat_cmp k v es))) ≡ v + sum (each (λ x. x.1) (e ∷ es))) [
      | Less ↦ λ is found. sum_first v (each (λ x. x.1) (e ∷ es))
      | Equal ↦ λ is found. absurd (none_not_some {o = Some e.1} found refl)
      | Greater ↦ λ is found.
          let rest = sum_put k v es found in
          let first = sum_first e.1 (each (λ x. x.1) (put nat_cmp k v es)) in
          let old = sum_first e.1 (each (λ x. x.1) es) in
          omega arith
    ] refl none

-- one more value
pub total_inserted : (m : map.FinMap nat_cmp ℕ) (k v : ℕ) → map.get m k ≡ None → total (map.insert m k v) ≡ v + total m
total_inserted m k v none =
    ap (λ es. sum (each (λ e. e.1) es)) (map.entries-insert nat_cmp_total m k v) ∙ sum_put k v (map.entries m) (sym (map.get-entries m k) ∙ none)

-- one value less
pub total_removed : (m : map.FinMap nat_cmp ℕ) (k v : ℕ) → map.get m k ≡ Some v → total m ≡ v + total (map.remove m k)
total_removed m k v is =
    ap total (same_maps m (map.insert (map.remove m k) k v) (λ q. elim (same_or_not q k) [
      | inl same ↦ ap (map.get m) same ∙ is ∙ sym (inserted_here (map.remove m k) k q v v same refl)
      | inr apart ↦ sym (inserted_other (map.remove m k) k q v apart ∙ removed_other m k q apart)
    ])) ∙ total_inserted (map.remove m k) k v (removed_here m k k refl)

-- no values
short_sum : (es : List (ℕ × ℕ)) → length es ≡ 0 → sum (each (λ e. e.1) es) ≡ 0
short_sum [] is = refl
short_sum (e ∷ es) is = absurd (omega arith)

pub total_none : (m : map.FinMap nat_cmp ℕ) → ((q : ℕ) → map.get m q ≡ None) → total m ≡ 0
total_none m none =
    ap total (same_maps m map.empty (λ q. none q ∙ sym (map.get-empty nat_cmp q)))
    ∙ short_sum (map.entries map.empty) (sym (map.len-entries map.empty) ∙ map.len-empty nat_cmp ℕ)
