-- The asks once a task is finished.
use Rattle.std.proofs.Common.{◌≡◌, ℕ, Bool, true, false, cond, nat_eq, nat_cmp, Option, None, Some, refl, sym, ap, ◌∙◌}
use Rattle.std.specs.Option.{option_map}
use Rattle.std.specs.FinMap as map
use Rattle.task_types.specs.Tree.{Tree}
use Rattle.task_states.specs.Maps.{each_changed}
use Rattle.task_states.proofs.Maps.{get-each_changed}
use Rattle.name_states.proofs.Basics.{test_same, test_apart}
use Rattle.name_machine.specs.States.{Ask}
use Rattle.name_machine.specs.Steps.{answered}
use Rattle.name_machine.proofs.Tasks.{mapped_from}
use Rattle.name_machine.proofs.Stands.{Stand, ByValue, ByTask}

module _ {C : Type 0} where
  -- one ask afterwards
  abbrev pub answer : Stand (Tree C) → Option ℕ → Ask (Tree C) (Tree C) → Ask (Tree C) (Tree C)
  answer (ByValue x) asked a = answered asked x a
  answer (ByTask to) asked a = a

  -- all asks afterwards
  abbrev pub asks_then : Stand (Tree C) → Option ℕ → map.FinMap nat_cmp (Ask (Tree C) (Tree C)) → map.FinMap nat_cmp (Ask (Tree C) (Tree C))
  asks_then (ByValue x) asked asks = each_changed (answered asked x) asks
  asks_then (ByTask to) asked asks = asks

  pub asks_from : (stand : Stand (Tree C)) (asked : Option ℕ) (asks : map.FinMap nat_cmp (Ask (Tree C) (Tree C))) (k : ℕ) (a : Ask (Tree C) (Tree C))
      → map.get (asks_then stand asked asks) k ≡ Some a → (b : Ask (Tree C) (Tree C)) × (map.get asks k ≡ Some b) × (a ≡ answer stand asked b)
  asks_from (ByValue x) asked asks k a is = mapped_from (answered asked x) (map.get asks k) a (sym (get-each_changed (answered asked x) asks k) ∙ is)
  asks_from (ByTask to) asked asks k a is = (a, is, refl)

  pub asks_to : (stand : Stand (Tree C)) (asked : Option ℕ) (asks : map.FinMap nat_cmp (Ask (Tree C) (Tree C))) (k : ℕ) (a : Ask (Tree C) (Tree C))
      → map.get asks k ≡ Some a → map.get (asks_then stand asked asks) k ≡ Some (answer stand asked a)
  asks_to (ByValue x) asked asks k a is = get-each_changed (answered asked x) asks k ∙ ap (option_map (answered asked x)) is
  asks_to (ByTask to) asked asks k a is = is

  abbrev deliver_if : Bool → Tree C → Ask (Tree C) (Tree C) → Ask (Tree C) (Tree C)
  deliver_if b x a = cond b (record a { delivered = Some x }) a

  if_caller : (b : Bool) (x : Tree C) (a : Ask (Tree C) (Tree C)) → (deliver_if b x a).caller ≡ a.caller
  if_caller true x a = refl
  if_caller false x a = refl

  if_number : (b : Bool) (x : Tree C) (a : Ask (Tree C) (Tree C)) → (deliver_if b x a).number ≡ a.number
  if_number true x a = refl
  if_number false x a = refl

  if_goal : (b : Bool) (x : Tree C) (a : Ask (Tree C) (Tree C)) → (deliver_if b x a).goal ≡ a.goal
  if_goal true x a = refl
  if_goal false x a = refl

  -- an answer changes neither the caller nor the number nor the goal
  pub answer_caller : (stand : Stand (Tree C)) (asked : Option ℕ) (a : Ask (Tree C) (Tree C)) → (answer stand asked a).caller ≡ a.caller
  answer_caller (ByValue x) None a = refl
  answer_caller (ByValue x) (Some n) a = if_caller (nat_eq a.number n) x a
  answer_caller (ByTask to) asked a = refl

  pub answer_number : (stand : Stand (Tree C)) (asked : Option ℕ) (a : Ask (Tree C) (Tree C)) → (answer stand asked a).number ≡ a.number
  answer_number (ByValue x) None a = refl
  answer_number (ByValue x) (Some n) a = if_number (nat_eq a.number n) x a
  answer_number (ByTask to) asked a = refl

  pub answer_goal : (stand : Stand (Tree C)) (asked : Option ℕ) (a : Ask (Tree C) (Tree C)) → (answer stand asked a).goal ≡ a.goal
  answer_goal (ByValue x) None a = refl
  answer_goal (ByValue x) (Some n) a = if_goal (nat_eq a.number n) x a
  answer_goal (ByTask to) asked a = refl

  -- an ask of another output stays
  pub answer_other : (stand : Stand (Tree C)) (asked : Option ℕ) (a : Ask (Tree C) (Tree C)) → (asked ≡ Some a.number → ⊥) → answer stand asked a ≡ a
  answer_other (ByValue x) None a apart = refl
  answer_other (ByValue x) (Some n) a apart = ap (λ b. deliver_if b x a) (test_apart a.number n (λ same. apart (ap Some (sym same))))
  answer_other (ByTask to) asked a apart = refl

  -- the ask of the finished task's output gets the value
  pub answer_here : (x : Tree C) (asked : Option ℕ) (a : Ask (Tree C) (Tree C)) → asked ≡ Some a.number → (answer (ByValue x) asked a).delivered ≡ Some x
  answer_here x asked a is = ap (λ o. (answered o x a).delivered) is ∙ ap (λ b. (deliver_if b x a).delivered) (test_same a.number)
