-- Numbers of awaiters stay below the last number that was drawn.
use Rattle.std.proofs.Common.{◌≡◌, ℕ, zero, suc, ◌≤◌, List, [], ◌∷◌, Option, Some, None, refl, sym, ap, subst, ◌∙◌, inl, inr, arith}
use Rattle.std.specs.Prelude.{slice_get}
use Rattle.std.specs.FinMap as map
use Rattle.std.specs.Ordering.{nat_cmp}
use Rattle.cht_ids.specs.declared.refs.Ref.{Ref}
use Rattle.task_states.specs.declared.states.Awaiter.{Awaiter}
use Rattle.task_states.specs.declared.states.Awaiter.TheVariants.{Input as AtInput, Asked}
use Rattle.task_states.specs.declared.states.TaskStatus.TheVariants.{Waiting, Running}
use Rattle.task_states.specs.States.{Input, Known, Awaits, Unfinished, Graph, no_tasks, task_at, asked_of, status, AwaitsNothing}
use Rattle.task_states.specs.Steps.{added}
use Rattle.task_states.specs.Awaiters.{number_of, IsAwaiter, IsNotAwaited}
use Rattle.task_states.proofs.Options.{not_none, none_or_some}
use Rattle.task_states.proofs.Deliveries.{task_behind}
use Rattle.task_states.proofs.Awaited.{awaits_added, awaits_nothing}
use Rattle.task_graph.specs.Contents.{IsAskedOnce}
use Rattle.call_tests.specs.Below.{AreBelow}

-- no awaiting input has a greater number
abbrev pub AreSmall : List (Input Ref) → ℕ → Type 0
AreSmall inputs n = (place of number : ℕ) → slice_get inputs place ≡ Some (Awaits of number) → number ≤ n

pub small_none : (n : ℕ) → AreSmall [] n
small_none n place of number is = absurd (not_none None (Awaits of number) refl is)

pub small_known : (n : ℕ) (r : Ref) (inputs : List (Input Ref)) → AreSmall inputs n → AreSmall (Known r ∷ inputs) n
small_known n r inputs small zero of number is = absurd (let clash : ◌≡◌ {A = Option (Input Ref)} (Some (Known r)) (Some (Awaits of number)) = is in cc)
small_known n r inputs small (suc place) of number is = small place of number is

pub small_awaits : (n t m : ℕ) (inputs : List (Input Ref)) → m ≤ n → AreSmall inputs n → AreSmall (Awaits t m ∷ inputs) n
small_awaits n t m inputs low small zero of number is = let same : m ≡ number = cc in omega arith
small_awaits n t m inputs low small (suc place) of number is = small place of number is

number_same : (a b : Awaiter) → a ≡ b → number_of a ≡ number_of b
number_same a b is = ap number_of is

module _ {K : Type 0} where
  pub below_more : (graph : Graph Ref K) (m n : ℕ) → m ≤ n → AreBelow graph m → AreBelow graph n
  below_more graph m n more below task a awaits = let low = below task a awaits in omega arith

  pub below_none : (graph : Graph Ref K) (n : ℕ) → graph ≡ no_tasks → AreBelow graph n
  below_none graph n none task (AtInput q p number) awaits =
      let u = task_behind graph q p (Awaits task number) awaits in
      absurd (not_none (task_at graph q) u.0 (ap (λ (g : Graph Ref K). task_at g q) none ∙ map.get-empty nat_cmp q) u.1)
  below_none graph n none task (Asked c number) asked =
      absurd (not_none (task_at graph task) asked.unfinished (ap (λ (g : Graph Ref K). task_at g task) none ∙ map.get-empty nat_cmp task) asked.there)

  pub below_added : (old mid new : Graph Ref K) (drawn n task caller : ℕ) (kind : K) (inputs : List (Input Ref)) → AreBelow old drawn → mid ≡ old → new ≡ added mid task caller kind inputs
      → drawn ≤ n → AreSmall inputs n → AreBelow new n
  below_added old mid new drawn n task caller kind inputs below same is more small of a awaits =
      elim (awaits_added mid task caller kind inputs of a (subst (λ g. IsAwaiter g of a) is awaits)) [
        | inl came ↦ let low = small came.0 of came.1 came.2 in let number = number_same a (AtInput task came.0 came.1) came.3 in omega arith
        | inr before ↦ let low = below of a (subst (λ g. IsAwaiter g of a) same before) in omega arith
      ]

  pub running_awaits_nothing : (graph : Graph Ref K) (t : ℕ) → status graph t ≡ Running → AwaitsNothing graph t
  running_awaits_nothing graph t is = awaits_nothing graph t (λ waits. absurd (let clash : Running ≡ Waiting = sym is ∙ waits in cc))

  -- what nobody awaits is not asked for
  pub asked_once : (graph : Graph Ref K) (t other : ℕ) → IsNotAwaited graph other → IsAskedOnce graph t other
  asked_once graph t other none asked that is is_that =
      elim (none_or_some (task_at graph other)) [
        | inl gone ↦ not_none (asked_of graph other) that (ap (λ (o : Option (Unfinished Ref K)). elim o as (λ _. Option ℕ) [ None ↦ None | Some task ↦ task.asked ]) gone) is_that
        | inr u ↦
            none (Asked u.0.caller that)
            (record { unfinished = u.0; there = u.1; caller_is = refl; number_is = sym (ap (λ (o : Option (Unfinished Ref K)). elim o as (λ _. Option ℕ) [ None ↦ None | Some task ↦ task.asked ]) u.1) ∙ is_that })
      ]
