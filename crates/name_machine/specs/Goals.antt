-- The goals of unfinished tasks, where awaited inputs are read as the goals of their tasks, and what holds in every state.
use Rattle.std.specs.Prelude.{◌≡◌, ◌⊎◌, ℕ, zero, suc, List, map as each, Option, None, Some}
use Rattle.std.specs.FinMap as map
use Rattle.task_types.specs.Tree.{Tree, Nothing}
use Rattle.task_types.specs.Meanings.{Meanings}
use Rattle.task_states.specs.States.{Input, Known, Awaits, Unfinished, Graph, task_at}
use Rattle.name_machine.specs.States.{Machine, Ask}

module _ {C : Type 0} where
  -- what an input reads as, where the tasks have these goals
  abbrev pub read_input : (ℕ → Tree C) → Input (Tree C) → Tree C
  read_input goals (Known tree) = tree
  read_input goals (Awaits task number) = goals task

module _ {C K : Type 0} (lib : Meanings C K) where
  -- the goal of a task, where the tasks that it awaits have these goals; nothing where there is no such task
  abbrev pub goal_from : (ℕ → Tree C) → Option (Unfinished (Tree C) K) → Tree C
  goal_from goals None = Nothing
  goal_from goals (Some task) = lib.goal task.kind (each (read_input goals) task.inputs)

  -- The goal of a task as far as a depth. Awaiting leads in no circle, and over fewer tasks than numbers were drawn.
  abbrev pub goal_within : ℕ → Graph (Tree C) K → ℕ → Tree C
  goal_within zero graph task = Nothing
  goal_within (suc depth) graph task = goal_from (goal_within depth graph) (task_at graph task)

  -- the goal of an unfinished task
  abbrev pub goal_of : Machine C K → ℕ → Tree C
  goal_of machine task = goal_within machine.drawn machine.graph task

  -- what the inputs of an unfinished task read as
  abbrev pub readings : Machine C K → Unfinished (Tree C) K → List (Tree C)
  readings machine task = each (read_input (goal_of machine)) task.inputs

  -- the work of an unfinished task
  abbrev pub work_of : Machine C K → Unfinished (Tree C) K → ℕ
  work_of machine task = lib.work task.kind (readings machine task)

  -- the goal of each unfinished task is defined
  abbrev pub AreDefined : Machine C K → Type 0
  AreDefined machine =
      (number : ℕ) (task : Unfinished (Tree C) K) → task_at machine.graph number ≡ Some task
      → lib.defined task.kind (readings machine task)

  -- an ask was delivered its goal, or its caller awaits a task with that goal
  abbrev pub IsServed : Machine C K → Ask (Tree C) (Tree C) → Type 0
  IsServed machine ask =
      (ask.delivered ≡ Some ask.goal)
      ⊎ ((ask.delivered ≡ None) × (number : ℕ) × (task : Unfinished (Tree C) K) × (task_at machine.graph number ≡ Some task)
      × (task.asked ≡ Some ask.number) × (task.caller ≡ ask.caller) × (goal_of machine number ≡ ask.goal))

  -- each ask is served
  abbrev pub AreServed : Machine C K → Type 0
  AreServed machine =
      (number : ℕ) (ask : Ask (Tree C) (Tree C)) → map.get machine.asks number ≡ Some ask → IsServed machine ask
