-- What is left where a caller gives up, of tasks and asks of any kind; and outputs that were not collected.
use Rattle.std.proofs.Common.{◌≡◌, ℕ, true, false, not, ◌&&◌, nat_eq, nat_cmp, Some, is_some, sym, ap, ◌∙◌}
use Rattle.std.specs.FinMap as map
use Rattle.cht_ids.specs.declared.refs.Ref.{Ref}
use Rattle.task_types.proofs.FormedTest.{both_left}
use Rattle.name_states.proofs.Basics.{test_same, test_apart, same_from_test}
use Rattle.task_states.specs.Maps.{kept}
use Rattle.task_states.specs.States.{Unfinished, Graph, task_at}
use Rattle.task_states.specs.Steps.{abandoned}
use Rattle.task_states.proofs.Maps.{get-kept}
use Rattle.name_machine.specs.States.{Ask, is_of}
use Rattle.name_machine.specs.Control.{is_uncollected}
use Rattle.name_machine.proofs.Tasks.{passed_from, passed_to}
use Rattle.name_machine.proofs.Grow.{both_true}

is_other : (n c : ℕ) → (n ≡ c → ⊥) → not (nat_eq n c) ≡ true
is_other n c apart = ap not (test_apart n c apart)

other_is : (n c : ℕ) → not (nat_eq n c) ≡ true → n ≡ c → ⊥
other_is n c is same = let clash : false ≡ true = sym (ap not (ap (λ m. nat_eq m c) same ∙ test_same c)) ∙ is in cc

module _ {X K : Type 0} (graph : Graph X K) (caller : ℕ) where
  pub task_was : (q : ℕ) (t : Unfinished X K) → task_at (abandoned graph caller) q ≡ Some t → (task_at graph q ≡ Some t) × (t.caller ≡ caller → ⊥)
  task_was q t is =
      let passed = passed_from (λ (u : Unfinished X K). not (nat_eq u.caller caller)) (task_at graph q) t (sym (get-kept (λ (u : Unfinished X K). not (nat_eq u.caller caller)) graph.tasks q) ∙ is) in
      (passed.0, other_is t.caller caller passed.1)

  pub task_stays : (q : ℕ) (t : Unfinished X K) → task_at graph q ≡ Some t → (t.caller ≡ caller → ⊥) → task_at (abandoned graph caller) q ≡ Some t
  task_stays q t is apart =
      get-kept (λ (u : Unfinished X K). not (nat_eq u.caller caller)) graph.tasks q
      ∙ passed_to (λ (u : Unfinished X K). not (nat_eq u.caller caller)) (task_at graph q) t is (is_other t.caller caller apart)

module _ {G X : Type 0} (asks : map.FinMap nat_cmp (Ask G X)) (caller : ℕ) where
  abbrev pub left : map.FinMap nat_cmp (Ask G X)
  left = kept (λ ask. not (is_of caller ask)) asks

  pub ask_was : (k : ℕ) (a : Ask G X) → map.get left k ≡ Some a → (map.get asks k ≡ Some a) × (a.caller ≡ caller → ⊥)
  ask_was k a is =
      let passed = passed_from (λ (b : Ask G X). not (is_of caller b)) (map.get asks k) a (sym (get-kept (λ (b : Ask G X). not (is_of caller b)) asks k) ∙ is) in
      (passed.0, other_is a.caller caller passed.1)

  pub ask_stays : (k : ℕ) (a : Ask G X) → map.get asks k ≡ Some a → (a.caller ≡ caller → ⊥) → map.get left k ≡ Some a
  ask_stays k a is apart =
      get-kept (λ (b : Ask G X). not (is_of caller b)) asks k
      ∙ passed_to (λ (b : Ask G X). not (is_of caller b)) (map.get asks k) a is (is_other a.caller caller apart)

module _ {G : Type 0} where
  -- an output that was not collected, by its caller and its number
  pub uncollected_is : (caller n : ℕ) (a : Ask G Ref) → a.caller ≡ caller → a.number ≡ n → is_some a.delivered ≡ true → is_uncollected caller n a ≡ true
  uncollected_is caller n a own number done =
      both_true (is_of caller a && nat_eq a.number n) (is_some a.delivered)
      (both_true (is_of caller a) (nat_eq a.number n) (ap (λ c. nat_eq c caller) own ∙ test_same caller) (ap (λ m. nat_eq m n) number ∙ test_same n)) done

  pub uncollected_caller : (caller n : ℕ) (a : Ask G Ref) → is_uncollected caller n a ≡ true → a.caller ≡ caller
  uncollected_caller caller n a is =
      same_from_test a.caller caller (both_left (is_of caller a) (nat_eq a.number n) (both_left (is_of caller a && nat_eq a.number n) (is_some a.delivered) is))
