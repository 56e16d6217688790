-- Who awaits a task: the inputs and the caller among the list of all that awaits it.
use Rattle.std.proofs.Common.{◌≡◌, ℕ, zero, suc, inl, inr, Bool, true, false, cond, nat_eq, nat_cmp, T, List, [], ◌∷◌, slice_get, Option, None, Some, refl, sym, ap, subst, ◌∙◌}
use Rattle.std.specs.List.{flat_map}
use Rattle.std.specs.FinMap as map
use Rattle.std.specs.FinMap.{find, is_sorted}
use Rattle.cht_ids.specs.declared.refs.Ref.{Ref}
use Rattle.name_states.specs.declared.holder.Holder.{Holder}
use Rattle.name_states.specs.declared.holder.Holder.TheVariants.{Caller as ByCaller, Task as ByTask}
use Rattle.name_states.proofs.Basics.{none_not_some, same_some, same_or_not, same_from_test, test_same, test_apart}
use Rattle.task_states.specs.States.{Input, Known, Awaits, Unfinished, Graph, task_at, input_at}
use Rattle.name_machine.specs.Control.{number_awaiting, number_asked, numbers_awaiting, asked_numbers, awaiting}
use Rattle.name_machine.proofs.Ordered.{input_from}
use Rattle.name_machine.proofs.Values.{find_first, below_missed, left_holds, right_holds}
use Rattle.name_machine.proofs.Ends.{inputs_at}
use Rattle.name_machine.proofs.FinishNames.{IsIn, in_left, in_right, in_either}

module _ {X : Type 0} where
  in_at : (x : X) (xs : List X) → IsIn x xs → (i : ℕ) × (slice_get xs i ≡ Some x)
  in_at x [] is = absurd is
  in_at x (y ∷ xs) (inl here) = (0, ap Some (sym here))
  in_at x (y ∷ xs) (inr there) = let rest = in_at x xs there in (suc rest.0, rest.1)

  at_in : (x : X) (xs : List X) (i : ℕ) → slice_get xs i ≡ Some x → IsIn x xs
  at_in x [] i is = absurd (none_not_some refl is)
  at_in x (y ∷ xs) zero is = inl (sym (same_some y x is))
  at_in x (y ∷ xs) (suc i) is = inr (at_in x xs i is)

  find_in : (k : ℕ) (x : X) (es : List (ℕ × X)) → find nat_cmp k es ≡ Some x → IsIn (k, x) es
  find_in k x [] is = absurd (none_not_some refl is)
  find_in k x (e ∷ es) is =
      elim (same_or_not k e.0) [
        | inl same ↦
            let value : e.1 ≡ x = same_some e.1 x (sym (find_first k e.0 e.1 es ∙ ap (λ b. cond b (Some e.1) (find nat_cmp k es)) (ap (λ n. nat_eq n e.0) same ∙ test_same e.0)) ∙ is) in
            inl (λ i. (same i, sym value i))
        | inr apart ↦ inr (find_in k x es (sym (find_first k e.0 e.1 es ∙ ap (λ b. cond b (Some e.1) (find nat_cmp k es)) (test_apart k e.0 apart)) ∙ is))
      ]

  in_find : (e : ℕ × X) (es : List (ℕ × X)) → T (is_sorted nat_cmp es) → IsIn e es → find nat_cmp e.0 es ≡ Some e.1
  in_find e [] sorted is = absurd is
  in_find e (first ∷ es) sorted (inl here) =
      find_first e.0 first.0 first.1 es
      ∙ ap (λ b. cond b (Some first.1) (find nat_cmp e.0 es)) (ap (λ (p : ℕ × X). nat_eq p.0 first.0) here ∙ test_same first.0)
      ∙ ap (λ (p : ℕ × X). Some p.1) (sym here)
  in_find e (first ∷ es) sorted (inr there) =
      let rest = in_find e es (right_holds _ _ sorted) there in
      elim (same_or_not e.0 first.0) [
        | inl same ↦ absurd (none_not_some (ap (λ k. find nat_cmp k es) same ∙ below_missed first.0 es (left_holds _ _ sorted)) rest)
        | inr apart ↦ find_first e.0 first.0 first.1 es ∙ ap (λ b. cond b (Some first.1) (find nat_cmp e.0 es)) (test_apart e.0 first.0 apart) ∙ rest
      ]

  -- an entry of a map
  entry_in : (m : map.FinMap nat_cmp X) (k : ℕ) (x : X) → map.get m k ≡ Some x → IsIn (k, x) (map.entries m)
  entry_in m k x is = find_in k x (map.entries m) (sym (map.get-entries m k) ∙ is)

  in_entry : (m : map.FinMap nat_cmp X) (e : ℕ × X) → IsIn e (map.entries m) → map.get m e.0 ≡ Some e.1
  in_entry m e is = map.get-entries m e.0 ∙ in_find e (map.entries m) (map.entries_sorted m) is

module _ {X Y : Type 0} (f : X → List Y) where
  flat_to : (y : Y) (xs : List X) → IsIn y (flat_map f xs) → (x : X) × IsIn x xs × IsIn y (f x)
  flat_to y [] is = absurd is
  flat_to y (x ∷ xs) is = elim (in_either y (f x) (flat_map f xs) is) [
    | inl here ↦ (x, inl refl, here)
    | inr there ↦ (let rest = flat_to y xs there in (rest.0, inr rest.1, rest.2))
  ]

  flat_from : (y : Y) (x : X) (xs : List X) → IsIn x xs → IsIn y (f x) → IsIn y (flat_map f xs)
  flat_from y x [] among is = absurd among
  flat_from y x (first ∷ xs) (inl here) is = in_left y (f first) (flat_map f xs) (go here is)
    where
      go : x ≡ first → IsIn y (f x) → IsIn y (f first)
      go same among = subst (λ z. IsIn y (f z)) same among
  flat_from y x (first ∷ xs) (inr there) is = in_right y (f first) (flat_map f xs) (flat_from y x xs there is)

one_in : {X : Type 0} (x y : X) → IsIn x (y ∷ []) → x ≡ y
one_in x y (inl here) = here
one_in x y (inr there) = absurd there

first_is : (n m : ℕ) (h k : Holder) → ◌≡◌ {A = ℕ × Holder} (n, h) (m, k) → n ≡ m
first_is n m h k same = ap (λ (p : ℕ × Holder). p.0) same

second_is : (n m : ℕ) (h k : Holder) → ◌≡◌ {A = ℕ × Holder} (n, h) (m, k) → h ≡ k
second_is n m h k same = ap (λ (p : ℕ × Holder). p.1) same

-- an input that awaits a task gives its number and its task
number_to : (task of n : ℕ) (h : Holder) (input : Input Ref) → IsIn {X = ℕ × Holder} (n, h) (number_awaiting task of input) → (input ≡ Awaits task n) × (h ≡ ByTask of)
number_to task of n h (Known r) is = absurd is
number_to task of n h (Awaits a m) is = go (nat_eq a task) refl is
  where
    go : (b : Bool) → nat_eq a task ≡ b → IsIn {X = ℕ × Holder} (n, h) (cond b ((m, ByTask of) ∷ []) []) → ◌≡◌ {A = Input Ref} (Awaits a m) (Awaits task n) × (h ≡ ByTask of)
    go true same among =
        let pair = one_in (n, h) (m, ByTask of) among in
        let task_is = same_from_test a task same in
        let number_is = sym (first_is n m h (ByTask of) pair) in
        (λ i. Awaits (task_is i) (number_is i), second_is n m h (ByTask of) pair)
    go false same among = absurd among

number_from : (task of n : ℕ) → IsIn {X = ℕ × Holder} (n, ByTask of) (number_awaiting task of (Awaits task n))
number_from task of n = subst (λ b. IsIn {X = ℕ × Holder} (n, ByTask of) (cond b ((n, ByTask of) ∷ []) [])) (sym (test_same task)) (inl refl)

module _ {K : Type 0} (graph : Graph Ref K) (task : ℕ) where
  -- an input of a task awaits this one under a number, or this one was asked for under it
  pub data IsAwaiter (n : ℕ) (h : Holder) : Type 0 where
    ByInput : (of place : ℕ) → input_at graph of place ≡ Some (Awaits task n) → h ≡ ByTask of → IsAwaiter n h
    ByAsk : (t : Unfinished Ref K) → task_at graph task ≡ Some t → t.asked ≡ Some n → h ≡ ByCaller t.caller → IsAwaiter n h

  asked_to : (n : ℕ) (h : Holder) (o : Option (Unfinished Ref K)) → task_at graph task ≡ o → IsIn (n, h) (asked_numbers o) → IsAwaiter n h
  asked_to n h None at is = absurd is
  asked_to n h (Some t) at is = go t.asked refl is
    where
      go : (o : Option ℕ) → t.asked ≡ o → IsIn (n, h) (number_asked t.caller o) → IsAwaiter n h
      go None asked among = absurd among
      go (Some m) asked among =
          let pair = one_in (n, h) (m, ByCaller t.caller) among in
          ByAsk t at (asked ∙ ap Some (sym (first_is n m h (ByCaller t.caller) pair))) (second_is n m h (ByCaller t.caller) pair)

  pub awaiter_of : (n : ℕ) (h : Holder) → IsIn (n, h) (awaiting graph task) → IsAwaiter n h
  awaiter_of n h is = elim (in_either (n, h) (flat_map (numbers_awaiting task) (map.entries graph.tasks)) (asked_numbers (task_at graph task)) is) [
    | inl by_input ↦
        let entry = flat_to (numbers_awaiting task) (n, h) (map.entries graph.tasks) by_input in
        let input = flat_to (number_awaiting task entry.0.0) (n, h) entry.0.1.inputs entry.2 in
        let its = number_to task entry.0.0 n h input.0 input.2 in
        let at = in_at input.0 entry.0.1.inputs input.1 in
        let there = in_entry graph.tasks entry.0 entry.1 in
        ByInput entry.0.0 at.0 (inputs_at graph entry.0.0 at.0 entry.0.1 there ∙ at.1 ∙ ap Some its.0) its.1
    | inr by_ask ↦ asked_to n h (task_at graph task) refl by_ask
  ]

  pub awaiter_in : (n : ℕ) (h : Holder) → IsAwaiter n h → IsIn (n, h) (awaiting graph task)
  awaiter_in n h (ByInput of place at held) =
      let t = input_from graph of place (Awaits task n) at in
      subst (λ k. IsIn (n, k) (awaiting graph task)) (sym held)
      (in_left (n, ByTask of) (flat_map (numbers_awaiting task) (map.entries graph.tasks)) (asked_numbers (task_at graph task))
      (flat_from (numbers_awaiting task) (n, ByTask of) (of, t.0) (map.entries graph.tasks) (entry_in graph.tasks of t.0 t.1)
      (flat_from (number_awaiting task of) (n, ByTask of) (Awaits task n) t.0.inputs (at_in (Awaits task n) t.0.inputs place t.2) (number_from task of n))))
  awaiter_in n h (ByAsk t at asked held) =
      subst (λ k. IsIn (n, k) (awaiting graph task)) (sym held)
      (in_right (n, ByCaller t.caller) (flat_map (numbers_awaiting task) (map.entries graph.tasks)) (asked_numbers (task_at graph task))
      (subst (λ o. IsIn (n, ByCaller t.caller) (asked_numbers o)) (sym at) (subst (λ o. IsIn (n, ByCaller t.caller) (number_asked t.caller o)) (sym asked) (inl refl))))
