-- How the output of a finished task is handed on.
use Rattle.std.proofs.Common.{◌≡◌, ◌↔◌, ℕ, ◌⊎◌, inl, inr, List, get_or, Option, None, Some, refl, sym, ap, ◌∙◌, nat_cmp, nat_eq}
use Rattle.std.specs.List.{Contains}
use Rattle.std.specs.FinMap as map
use Rattle.cht_ids.specs.declared.refs.Ref.{Ref}
use Rattle.task_types.specs.declared.outcome.Place.{Place}
use Rattle.task_types.specs.declared.outcome.Place.TheVariants.{Null, Input, Child, Chunk, Task}
use Rattle.name_states.proofs.Basics.{none_not_some, same_some, same_or_not, test_same, test_apart}
use Rattle.task_states.specs.Maps.{each_changed}
use Rattle.task_states.specs.States.{Graph, status}
use Rattle.task_states.specs.Steps.{forwarded}
use Rattle.name_machine.specs.States.{Ask}
use Rattle.name_machine.specs.NewTasks.{number_at}
use Rattle.name_machine.specs.Control.{answered_with}
use Rattle.core_steps.specs.Delivered.{IsNowReady}
use Rattle.core_steps.proofs.Handed.{forwarded_ready}
use Rattle.core_steps.proofs.Holding.{number_is}
use Rattle.core_steps.proofs.Resolved.{unanswered}
use Rattle.core_state.specs.Effect.{task_named, CanForward}

pub named_is : (numbers : List ℕ) (place : Place) (i : ℕ) → place ≡ Task i → Some (get_or numbers i 0) ≡ task_named numbers place
named_is numbers place i is = ap Some (number_is numbers i) ∙ ap (task_named numbers) (sym is)

-- where nothing was asked no ask changes
pub none_answered : (asks : map.FinMap nat_cmp (Ask (Unit {0}) Ref)) (r : Ref) (asked told : Option ℕ) → told ≡ asked → told ≡ None → asks ≡ each_changed (answered_with asked r) asks
none_answered asks r asked told is none = sym (unanswered asks r) ∙ ap (λ o. each_changed (answered_with o r) asks) (sym none ∙ is)

-- nothing becomes Ready where a task is handed on to another one
pub none_ready : {K : Type 0} (before after : Graph Ref K) (task to : ℕ) → after ≡ forwarded before task to → (to ≡ task → ⊥) → (ready : List ℕ)
    → (q : ℕ) → Contains ready q ↔ (Contains ready q ⊎ IsNowReady before after q)
none_ready {K} before after task to is apart ready q = ((λ among. inl among), back)
  where
    back : Contains ready q ⊎ IsNowReady before after q → Contains ready q
    back (inl among) = among
    back (inr now) = absurd (now.not_before (forwarded_ready before task to apart q (sym (ap (λ (g : Graph Ref K). status g q) is) ∙ now.ready)))

-- a new task that a task is handed on to is another one
pub named_apart : {K : Type 0} (graph : Graph Ref K) (task : ℕ) (numbers : List ℕ) (place : Place) (to : ℕ) → ((i : ℕ) → place ≡ Task i → CanForward graph task numbers i)
    → task_named numbers place ≡ Some to → to ≡ task → ⊥
named_apart graph task numbers Null to can is same = none_not_some refl is
named_apart graph task numbers (Input i) to can is same = none_not_some refl is
named_apart graph task numbers (Child i j) to can is same = none_not_some refl is
named_apart graph task numbers (Chunk i) to can is same = none_not_some refl is
named_apart graph task numbers (Task i) to can is same = (can i refl).apart (sym (same_some (number_at numbers i) to is ∙ same))

-- equality of numbers, tested from either side
pub test_flips : (a b : ℕ) → nat_eq a b ≡ nat_eq b a
test_flips a b = elim (same_or_not a b) [
  | inl same ↦ ap (λ k. nat_eq k b) same ∙ test_same b ∙ sym (ap (nat_eq b) same ∙ test_same b)
  | inr apart ↦ test_apart a b apart ∙ sym (test_apart b a (λ same. apart (sym same)))
]
