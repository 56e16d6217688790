-- Laws on maps and on deliveries, as statements. The functions of `laws` carry each as their contract.
use Rattle.std.specs.Prelude.{◌≡◌, ◌↔◌, ℕ, List, [], ◌∷◌, slice_get, ◌⊎◌, Option, Some, IsPermutation}
use Rattle.std.specs.List.{Contains}
use Rattle.std.specs.Option.{option_and_then}
use Rattle.std.specs.Ordering.{nat_cmp}
use Rattle.std.specs.FinMap as map
use Rattle.task_states.specs.declared.states.Awaiter.{Awaiter}
use Rattle.task_states.specs.declared.states.Awaiter.TheVariants.{Input as AtInput}
use Rattle.task_states.specs.declared.states.TaskStatus.TheVariants.{Waiting}
use Rattle.task_states.specs.Maps.{chosen}
use Rattle.task_states.specs.States.{Input, Awaits, Graph, status, AwaitsNothing}
use Rattle.task_states.specs.Steps.{added, with_asked, started, given_back, delivered, all_delivered, removed}
use Rattle.task_states.specs.Awaiters.{number_of, IsAwaiter, IsNotAwaited}
use Rattle.task_states.specs.Listing.{awaiters}

-- what a choice makes of a map holds under each key what the choice makes of the value there
abbrev pub ChoosesKeyByKey : Type 0
ChoosesKeyByKey = (choice : ℕ → ℕ → Option ℕ) (values : map.FinMap nat_cmp ℕ) (key : ℕ) → map.get (chosen choice values) key ≡ option_and_then (choice key) (map.get values key)

module _ (X K : Type 0) where
  -- delivering to one awaiter, and then to all that are left, is delivering to all
  abbrev pub DeliversOneByOne : Type 0
  DeliversOneByOne =
      (graph : Graph X K) (task : ℕ) (awaiter : Awaiter) (value : ℕ → X)
      → IsAwaiter graph task awaiter
      → all_delivered (delivered graph task awaiter (value (number_of awaiter))) task value ≡ all_delivered graph task value

  -- where nobody awaits a task, delivering to all changes nothing
  abbrev pub DeliversToNone : Type 0
  DeliversToNone = (graph : Graph X K) (task : ℕ) (value : ℕ → X) → IsNotAwaited graph task → all_delivered graph task value ≡ graph

  -- after a delivery the same awaiters await each task, but for the one that was delivered to
  abbrev pub DeliversToOne : Type 0
  DeliversToOne =
      (graph : Graph X K) (task : ℕ) (awaiter : Awaiter) (value : X)
      → IsAwaiter graph task awaiter
      → (of : ℕ) (other : Awaiter)
      → IsAwaiter (delivered graph task awaiter value) of other ↔ (IsAwaiter graph of other × (of ≡ task → other ≡ awaiter → ⊥))

  -- the list of the awaiters of a task has them all, and no others
  abbrev pub ListsAwaiters : Type 0
  ListsAwaiters = (graph : Graph X K) (task : ℕ) (awaiter : Awaiter) → Contains (awaiters graph task) awaiter ↔ IsAwaiter graph task awaiter

  -- a delivery takes its awaiter out of the list, once
  abbrev pub TakesOneOut : Type 0
  TakesOneOut =
      (graph : Graph X K) (task : ℕ) (awaiter : Awaiter) (value : X)
      → IsAwaiter graph task awaiter
      → IsPermutation (awaiters graph task) (awaiter ∷ awaiters (delivered graph task awaiter value) task)

  -- where nobody awaits a task the list is empty
  abbrev pub ListsNone : Type 0
  ListsNone = (graph : Graph X K) (task : ℕ) → IsNotAwaited graph task → awaiters graph task ≡ []

  -- one more task brings its awaiting inputs, and no other awaiter
  abbrev pub AddingBrings : Type 0
  AddingBrings =
      (graph : Graph X K) (task caller : ℕ) (kind : K) (inputs : List (Input X)) (of : ℕ) (awaiter : Awaiter)
      → IsAwaiter (added graph task caller kind inputs) of awaiter
      → ((place : ℕ) × (number : ℕ) × (slice_get inputs place ≡ Some (Awaits of number)) × (awaiter ≡ AtInput task place number)) ⊎ IsAwaiter graph of awaiter

  -- asking brings one awaiter, under the number of the asked output
  abbrev pub AskingBrings : Type 0
  AskingBrings =
      (graph : Graph X K) (task number of : ℕ) (awaiter : Awaiter)
      → IsAwaiter (with_asked graph task number) of awaiter
      → ((of ≡ task) × (number_of awaiter ≡ number)) ⊎ IsAwaiter graph of awaiter

  -- a task that is started, given back or removed brings none
  abbrev pub StartingBringsNone : Type 0
  StartingBringsNone = (graph : Graph X K) (task worker of : ℕ) (awaiter : Awaiter) → IsAwaiter (started graph task worker) of awaiter → IsAwaiter graph of awaiter

  abbrev pub GivingBackBringsNone : Type 0
  GivingBackBringsNone = (graph : Graph X K) (task of : ℕ) (awaiter : Awaiter) → IsAwaiter (given_back graph task) of awaiter → IsAwaiter graph of awaiter

  abbrev pub RemovingBringsNone : Type 0
  RemovingBringsNone = (graph : Graph X K) (task of : ℕ) (awaiter : Awaiter) → IsAwaiter (removed graph task) of awaiter → IsAwaiter graph of awaiter

  -- a task that is not Waiting awaits nothing
  abbrev pub OthersAwaitNothing : Type 0
  OthersAwaitNothing = (graph : Graph X K) (task : ℕ) → (status graph task ≡ Waiting → ⊥) → AwaitsNothing graph task
