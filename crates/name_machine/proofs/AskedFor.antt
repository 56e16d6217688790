-- The task that is asked for under a number, and goals where a task is added.
use Rattle.std.proofs.Common.{◌≡◌, ℕ, zero, suc, ◌<◌, inl, inr, true, false, cond, nat_eq, nat_cmp, T, List, [], ◌∷◌, map as each, slice_get, Option, None, Some, refl, sym, ap, ◌∙◌, arith}
use Rattle.std.specs.FinMap as map
use Rattle.std.specs.FinMap.{find, is_sorted}
use Rattle.task_types.specs.Tree.{Tree}
use Rattle.task_types.specs.Meanings.{Meanings}
use Rattle.task_states.specs.States.{Awaits, Unfinished, Graph, task_at}
use Rattle.name_states.proofs.Basics.{none_not_some, same_some, same_or_not, same_from_test, test_same, test_apart}
use Rattle.name_machine.specs.Goals.{read_input, goal_from, goal_within}
use Rattle.name_machine.specs.Facts.{AwaitsOwn}
use Rattle.name_machine.specs.Standing.{is_asked_under, asked_among}
use Rattle.name_machine.proofs.Values.{find_first, below_missed, left_holds, right_holds}
use Rattle.name_machine.proofs.Ends.{inputs_at}
use Rattle.name_machine.proofs.Invariant.{same_readings}

asks_it : (number : ℕ) (o : Option ℕ) → is_asked_under number o ≡ true → o ≡ Some number
asks_it number None is = absurd (let clash : false ≡ true = is in cc)
asks_it number (Some other) is = ap Some (same_from_test other number is)

module _ {X K : Type 0} where
  -- where one of some is asked for under a number, that or another such is found
  found_asked : (number : ℕ) (es : List (ℕ × Unfinished X K)) → T (is_sorted nat_cmp es) → (q : ℕ) (t : Unfinished X K) → find nat_cmp q es ≡ Some t → t.asked ≡ Some number
      → (u : Unfinished X K) × (find nat_cmp (asked_among number es) es ≡ Some u) × (u.asked ≡ Some number)
  found_asked number [] sorted q t is asked = absurd (none_not_some refl is)
  found_asked number (e ∷ es) sorted q t is asked =
      elim (is_asked_under number e.1.asked) as (λ b. is_asked_under number e.1.asked ≡ b
      → (u : Unfinished X K) × (find nat_cmp (cond b e.0 (asked_among number es)) (e ∷ es) ≡ Some u) × (u.asked ≡ Some number)) [
        | true ↦ λ here. (e.1, find_first e.0 e.0 e.1 es ∙ ap (λ b. cond b (Some e.1) (find nat_cmp e.0 es)) (test_same e.0), asks_it number e.1.asked here)
        | false ↦ λ here. elim (same_or_not q e.0) [
          | inl same ↦
              absurd (let one : e.1 ≡ t = same_some e.1 t (sym (find_first q e.0 e.1 es ∙ ap (λ b. cond b (Some e.1) (find nat_cmp q es)) (ap (λ k. nat_eq k e.0) same ∙ test_same e.0)) ∙ is) in
              let clash : false ≡ true = sym here ∙ ap (is_asked_under number) (ap (λ v. v.asked) one ∙ asked) ∙ test_same number in
              cc)
          | inr apart ↦
              let more = found_asked number es (right_holds _ _ sorted) q t (sym (find_first q e.0 e.1 es ∙ ap (λ b. cond b (Some e.1) (find nat_cmp q es)) (test_apart q e.0 apart)) ∙ is) asked in
              elim (same_or_not (asked_among number es) e.0) [
                | inl same ↦ absurd (none_not_some (ap (λ k. find nat_cmp k es) same ∙ below_missed e.0 es (left_holds _ _ sorted)) more.1)
                | inr other ↦
                    (more.0, find_first (asked_among number es) e.0 e.1 es ∙ ap (λ b. cond b (Some e.1) (find nat_cmp (asked_among number es) es)) (test_apart (asked_among number es) e.0 other) ∙ more.1, more.2)
              ]
        ]
      ] refl

  -- where only one task is asked for under a number, it is found
  pub asked_is : (number : ℕ) (graph : Graph X K) (q : ℕ) (t : Unfinished X K) → task_at graph q ≡ Some t → t.asked ≡ Some number
      → ((r : ℕ) (u : Unfinished X K) → task_at graph r ≡ Some u → u.asked ≡ Some number → r ≡ q) → asked_among number (map.entries graph.tasks) ≡ q
  asked_is number graph q t is asked one =
      let found = found_asked number (map.entries graph.tasks) (map.entries_sorted graph.tasks) q t (sym (map.get-entries graph.tasks q) ∙ is) asked in
      one (asked_among number (map.entries graph.tasks)) found.0 (map.get-entries graph.tasks (asked_among number (map.entries graph.tasks)) ∙ found.1) found.2

module _ {C K : Type 0} (lib : Meanings C K) where
  some_goal : (f g : ℕ → Tree C) (o p : Option (Unfinished (Tree C) K)) (t : Unfinished (Tree C) K) → o ≡ Some t → p ≡ Some t
      → ((n a m : ℕ) → slice_get t.inputs n ≡ Some (Awaits a m) → f a ≡ g a) → goal_from lib f o ≡ goal_from lib g p
  some_goal f g o p t is at same =
      ap (goal_from lib f) is ∙ ap (lib.goal t.kind) (same_readings f g t.inputs same) ∙ sym (ap (goal_from lib g) at)

  -- goals of tasks that stay are the same, where what they await stays
  pub added_same : (depth : ℕ) (graph after : Graph (Tree C) K) → AwaitsOwn graph → ((q : ℕ) (t : Unfinished (Tree C) K) → task_at graph q ≡ Some t → task_at after q ≡ Some t)
      → (q : ℕ) (t : Unfinished (Tree C) K) → task_at graph q ≡ Some t → goal_within lib depth after q ≡ goal_within lib depth graph q
  added_same zero graph after own stays q t is = refl
  added_same (suc depth) graph after own stays q t is =
      some_goal (goal_within lib depth after) (goal_within lib depth graph) (task_at after q) (task_at graph q) t (stays q t is) is
      (λ n a m at.
      let other = own q a t is (n, m, inputs_at graph q n t is ∙ at) in
      added_same depth graph after own stays a other.0 other.1)

  -- the goal of a task whose inputs are all known
  pub known_goal : (depth : ℕ) (graph : Graph (Tree C) K) (q : ℕ) (t : Unfinished (Tree C) K) (trees : List (Tree C)) → 0 < depth → task_at graph q ≡ Some t
      → ((goals : ℕ → Tree C) → each (read_input goals) t.inputs ≡ trees) → goal_within lib depth graph q ≡ lib.goal t.kind trees
  known_goal zero graph q t trees h is reads = absurd (omega arith)
  known_goal (suc depth) graph q t trees h is reads = ap (goal_from lib (goal_within lib depth graph)) is ∙ ap (lib.goal t.kind) (reads (goal_within lib depth graph))
