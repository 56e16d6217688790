-- How many values of a map pass a test, once one value changed.
use Rattle.std.proofs.Common.{◌≡◌, ℕ, ◌+◌, ◌-◌, ◌≤◌, Bool, true, false, cond, Option, Some, None, is_some, nat_eq, refl, sym, ap, ◌∙◌, inl, inr, arith}
use Rattle.std.specs.Option.{option_and_then}
use Rattle.std.specs.Ordering.{nat_cmp}
use Rattle.std.specs.Cmp.{nat_cmp_total}
use Rattle.std.specs.FinMap as map
use Rattle.task_states.specs.Maps.{kept}
use Rattle.task_states.proofs.Maps.{same_or_not, test_same, test_apart, get-kept, same_maps, get_removed, len-kept}

module _ {X : Type 0} where
  some_len : (a : map.FinMap nat_cmp X) (k : ℕ) (x : X) → map.get a k ≡ Some x → map.len a ≡ 0 → ⊥
  some_len a k x is none =
      let clash : None ≡ Some x = sym (map.get-empty nat_cmp k) ∙ ap (λ m. map.get m k) (sym (map.empty_of_len a none)) ∙ is in cc

  len_with : (a : map.FinMap nat_cmp X) (k : ℕ) → map.len a ≡ map.len (map.remove a k) + cond (is_some (map.get a k)) 1 0
  len_with a k =
      elim (map.get a k) as (λ o. map.get a k ≡ o → map.len a ≡ map.len (map.remove a k) + cond (is_some o) 1 0) [
        | None ↦ λ is. let e = map.len-remove nat_cmp_total a k ∙ ap (λ o. cond (is_some o) (map.len a - 1) (map.len a)) is in omega arith
        | Some x ↦ λ is.
            let e = map.len-remove nat_cmp_total a k ∙ ap (λ o. cond (is_some o) (map.len a - 1) (map.len a)) is in
            let some : map.len a ≡ 0 → ⊥ = some_len a k x is in
            omega arith
      ] refl

  -- 1 where there is a value that passes, else 0
  abbrev pub passes : (X → Bool) → Option X → ℕ
  passes test None = 0
  passes test (Some x) = cond (test x) 1 0

  pass_kept : (test : X → Bool) (o : Option X) → cond (is_some (option_and_then (λ value. cond (test value) (Some value) None) o)) 1 0 ≡ passes test o
  pass_kept test None = refl
  pass_kept test (Some x) = elim (test x) as (λ b. ◌≡◌ {A = ℕ} (cond (is_some (cond b (Some x) None)) 1 0) (cond b 1 0)) [ true ↦ refl | false ↦ refl ]

  same_rest : (test : X → Bool) (m n : map.FinMap nat_cmp X) (k : ℕ) → ((q : ℕ) → (q ≡ k → ⊥) → map.get n q ≡ map.get m q) → map.remove (kept test n) k ≡ map.remove (kept test m) k
  same_rest test m n k rest =
      same_maps (map.remove (kept test n) k) (map.remove (kept test m) k) (λ q.
      get_removed (kept test n) k q
      ∙ elim (same_or_not q k) [
        | inl same ↦ let t : nat_eq q k ≡ true = ap (λ r. nat_eq r k) same ∙ test_same k in ap (λ b. cond b None (map.get (kept test n) q)) t ∙ sym (ap (λ b. cond b None (map.get (kept test m) q)) t)
        | inr apart ↦ ap (cond (nat_eq q k) None) (get-kept test n q ∙ ap (option_and_then (λ value. cond (test value) (Some value) None)) (rest q apart) ∙ sym (get-kept test m q))
      ]
      ∙ sym (get_removed (kept test m) k q))

  -- how many pass, before and after
  pub count_changed : (test : X → Bool) (m n : map.FinMap nat_cmp X) (k : ℕ) → ((q : ℕ) → (q ≡ k → ⊥) → map.get n q ≡ map.get m q)
      → map.len (kept test n) + passes test (map.get m k) ≡ map.len (kept test m) + passes test (map.get n k)
  count_changed test m n k rest =
      let a = len_with (kept test m) k ∙ ap (λ o. map.len (map.remove (kept test m) k) + cond (is_some o) 1 0) (get-kept test m k) ∙ ap (λ b. map.len (map.remove (kept test m) k) + b) (pass_kept test (map.get m k)) in
      let b = len_with (kept test n) k ∙ ap (λ o. map.len (map.remove (kept test n) k) + cond (is_some o) 1 0) (get-kept test n k) ∙ ap (λ b. map.len (map.remove (kept test n) k) + b) (pass_kept test (map.get n k)) in
      let c = ap map.len (same_rest test m n k rest) in
      omega arith

abbrev one_if : Bool → ℕ
one_if b = cond b 1 0

-- one that does not pass leaves fewer than all
pub count_less : {X : Type 0} (test : X → Bool) (m : map.FinMap nat_cmp X) (k : ℕ) (x : X) → map.get m k ≡ Some x → test x ≡ false → map.len (kept test m) + 1 ≤ map.len m
count_less test m k x is fails =
    let gone = λ (q : ℕ) (apart : q ≡ k → ⊥). get_removed m k q ∙ ap (λ b. cond b None (map.get m q)) (test_apart q k apart) in
    let none : map.get (map.remove m k) k ≡ None = get_removed m k k ∙ ap (λ b. cond b None (map.get m k)) (test_same k) in
    let counts = count_changed test m (map.remove m k) k gone in
    let one : passes test (map.get m k) ≡ 0 = ap (passes test) is ∙ ap (λ b. one_if b) fails in
    let two : passes test (map.get (map.remove m k) k) ≡ 0 = ap (passes test) none in
    let most = len-kept test (map.remove m k) in
    let all = len_with m k ∙ ap (λ o. map.len (map.remove m k) + cond (is_some o) 1 0) is in
    omega arith
