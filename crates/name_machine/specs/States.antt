-- The machine of names: what a core stands for, without stores, bodies, counts or workers' memory. Callers hold identifiers,
-- each of which names a tree; they ask for tasks; workers run tasks and finish them.
use Rattle.std.specs.Prelude.{◌≡◌, ℕ, Bool, ◌&&◌, ◌==◌, if◌then◌else◌, List, [], ◌∷◌, Option, None, Some, IsSome}
use Rattle.std.specs.Ordering.{nat_cmp}
use Rattle.std.specs.List.{list_any}
use Rattle.std.specs.FinMap as map
use Rattle.cht_ids.specs.declared.refs.Id.{Id}
use Rattle.cht_ids.specs.declared.refs.Ref.{Ref}
use Rattle.cht_ids.specs.declared.refs.Ref.TheVariants.{Null, Id as Held}
use Rattle.task_types.specs.Tree.{Tree, Nothing}
use Rattle.task_states.specs.States.{Graph, Unfinished, no_tasks, task_at}

-- an identifier that a caller holds: the caller, the worker that owns the body, and the tree that it names
pub record Holding (C : Type 0) : Type 0 where
  pub caller : ℕ
  pub owner : ℕ
  pub tree : Tree C

-- A task that a caller asked and whose output it has not collected: the number of the output, the goal, and the output,
-- once it was delivered. Until then the caller awaits the task, or the one that took its place.
pub record Ask (G X : Type 0) : Type 0 where
  pub caller : ℕ
  pub number : ℕ
  pub goal : G
  pub delivered : Option X

-- How many numbers were drawn; the identifiers that callers hold, by number; the asks, by the number of the task that was
-- asked; and the unfinished tasks, with the callers that are stopped. A known input of a task is the tree of the input.
pub record Machine (C K : Type 0) : Type 0 where
  pub drawn : ℕ
  pub holdings : map.FinMap nat_cmp (Holding C)
  pub asks : map.FinMap nat_cmp (Ask (Tree C) (Tree C))
  pub graph : Graph (Tree C) K

module _ {G X : Type 0} where
  -- whether an ask is of a caller
  abbrev pub is_of : ℕ → Ask G X → Bool
  is_of caller ask = ask.caller == caller

  -- whether a caller has an ask
  abbrev pub has_ask : map.FinMap nat_cmp (Ask G X) → ℕ → Bool
  has_ask asks caller = list_any (is_of caller) (map.values asks)

module _ {C : Type 0} where
  -- a holding, where it is of this caller and this owner
  abbrev pub mine : ℕ → ℕ → Option (Holding C) → Option (Holding C)
  mine caller owner None = None
  mine caller owner (Some holding) = if (holding.caller == caller) && (holding.owner == owner) then Some holding else None

  -- the tree of a holding
  abbrev pub tree_of_holding : Option (Holding C) → Tree C
  tree_of_holding None = Nothing
  tree_of_holding (Some holding) = holding.tree

module _ {C K : Type 0} where
  -- the opening state: nothing was drawn, held, asked or begun
  abbrev pub opening : Machine C K
  opening = record { drawn = 0; holdings = map.empty; asks = map.empty; graph = no_tasks }

  -- what an identifier is to a caller: its holding, and nothing where the caller does not hold it
  abbrev pub held_by : Machine C K → ℕ → Id → Option (Holding C)
  held_by machine caller id = mine caller id.owner (map.get machine.holdings id.number)

  -- a caller holds an identifier
  abbrev pub Holds : Machine C K → ℕ → Id → Type 0
  Holds machine caller id = IsSome (held_by machine caller id)

  -- a reference is null, or the caller holds it
  abbrev pub MayMention : Machine C K → ℕ → Ref → Type 0
  MayMention machine caller Null = Unit {0}
  MayMention machine caller (Held id) = Holds machine caller id

  -- references each of which is so
  abbrev pub MayMentionAll : Machine C K → ℕ → List Ref → Type 0
  MayMentionAll machine caller [] = Unit {0}
  MayMentionAll machine caller (r ∷ refs) = MayMention machine caller r × MayMentionAll machine caller refs

  -- the tree that a reference names
  abbrev pub tree_named : Machine C K → Ref → Tree C
  tree_named machine Null = Nothing
  tree_named machine (Held id) = tree_of_holding (map.get machine.holdings id.number)

  -- a worker runs a task
  abbrev pub Runs : Machine C K → ℕ → ℕ → Type 0
  Runs machine worker task =
      (unfinished : Unfinished (Tree C) K) × (task_at machine.graph task ≡ Some unfinished) × (unfinished.runner ≡ Some worker)

  -- a worker runs nothing
  abbrev pub IsIdle : Machine C K → ℕ → Type 0
  IsIdle machine worker = (task : ℕ) → Runs machine worker task → ⊥
