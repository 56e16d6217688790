-- The state of the machine that a control state with contents stands for.
use Rattle.std.specs.Prelude.{◌≡◌, ℕ, ◌==◌, ◌≤◌, Bool, false, if◌then◌else◌, List, [], ◌∷◌, map as each, Option, None, Some}
use Rattle.std.specs.Option.{option_map}
use Rattle.std.specs.List.{list_any}
use Rattle.std.specs.Ordering.{nat_cmp}
use Rattle.std.specs.FinMap as map
use Rattle.cht_ids.specs.declared.refs.Id.{Id}
use Rattle.cht_ids.specs.declared.refs.Ref.{Ref}
use Rattle.cht_ids.specs.declared.refs.Ref.TheVariants.{Null, Id as Held}
use Rattle.task_types.specs.Tree.{Tree}
use Rattle.task_types.specs.Meanings.{Meanings}
use Rattle.name_states.specs.declared.holder.Holder.{Holder}
use Rattle.name_states.specs.declared.holder.Holder.TheVariants.{Caller, Task, Body}
use Rattle.name_states.specs.States.{NameState, IdRecord, id_at, holder_of, live_ids, live_bodies}
use Rattle.name_states.specs.Rules.{IsSound, AreReached, AreWithin}
use Rattle.name_states.specs.Trees.{body_tree, tree_of}
use Rattle.task_states.specs.Maps.{chosen}
use Rattle.task_states.specs.States.{Input, Known, Awaits, Unfinished, Graph, input_at, is_stopped}
use Rattle.name_machine.specs.States.{Machine, Holding, Ask}
use Rattle.name_machine.specs.Goals.{goal_within}
use Rattle.name_machine.specs.Control.{Control, is_uncollected}

-- ---- Tasks with trees in place of references

module _ {C : Type 0} where
  -- an input, read as the tree that its reference leads to
  abbrev pub input_shown : NameState C → Input Ref → Input (Tree C)
  input_shown names (Known r) = Known (tree_of names r)
  input_shown names (Awaits task number) = Awaits task number

module _ {C K : Type 0} where
  -- a task with the trees of its inputs
  abbrev pub task_shown : NameState C → Unfinished Ref K → Unfinished (Tree C) K
  task_shown names task =
      record {
        caller = task.caller;
        kind = task.kind;
        inputs = each (input_shown names) task.inputs;
        runner = task.runner;
        asked = task.asked;
      }

  -- all unfinished tasks with the trees of their inputs, and the callers that are stopped
  abbrev pub graph_shown : NameState C → Graph Ref K → Graph (Tree C) K
  graph_shown names graph =
      record { tasks = chosen (λ number task. Some (task_shown names task)) graph.tasks; stopped = graph.stopped }

-- ---- What callers hold

-- whether an identifier is an output that its caller has not collected
abbrev pub is_output : {G : Type 0} → map.FinMap nat_cmp (Ask G Ref) → ℕ → Holder → Bool
is_output asks number (Caller caller) = list_any (is_uncollected caller number) (map.values asks)
is_output asks number (Task task) = false
is_output asks number (Body body) = false

module _ {C : Type 0} where
  -- an identifier that a caller holds, with its tree; nothing where a task or a body holds it
  abbrev pub holding_shown : NameState C → IdRecord → Holder → Option (Holding C)
  holding_shown names entry (Caller caller) =
      Some (record { caller = caller; owner = entry.owner; tree = body_tree names entry.body })
  holding_shown names entry (Task task) = None
  holding_shown names entry (Body body) = None

  -- what stands under a number in the maps of callers: nothing for an output that was not collected
  abbrev pub held_shown : {G : Type 0} → map.FinMap nat_cmp (Ask G Ref) → NameState C → ℕ → IdRecord → Option (Holding C)
  held_shown asks names number entry =
      if is_output asks number entry.holder then None else holding_shown names entry entry.holder

-- ---- Asks with their goals

-- whether a task is asked for under a number
abbrev pub is_asked_under : ℕ → Option ℕ → Bool
is_asked_under number None = false
is_asked_under number (Some other) = other == number

module _ {X K : Type 0} where
  -- the task among these that is asked for under a number
  abbrev pub asked_among : ℕ → List (ℕ × Unfinished X K) → ℕ
  asked_among number [] = 0
  asked_among number (entry ∷ entries) = if is_asked_under number entry.1.asked then entry.0 else asked_among number entries

module _ {C K : Type 0} (lib : Meanings C K) where
  -- The goal of an ask: the tree that was delivered, and else the goal of the task that its caller awaits. That goal is read off the
  -- tasks, over as many steps as numbers were drawn.
  abbrev pub goal_shown : ℕ → NameState C → Graph (Tree C) K → ℕ → Option Ref → Tree C
  goal_shown drawn names graph number None = goal_within lib drawn graph (asked_among number (map.entries graph.tasks))
  goal_shown drawn names graph number (Some r) = tree_of names r

  -- an ask with its goal, and its output once it was delivered
  abbrev pub ask_shown : ℕ → NameState C → Graph (Tree C) K → Ask (Unit {0}) Ref → Ask (Tree C) (Tree C)
  ask_shown drawn names graph ask =
      record {
        caller = ask.caller;
        number = ask.number;
        goal = goal_shown drawn names graph ask.number ask.delivered;
        delivered = option_map (tree_of names) ask.delivered;
      }

  -- The state of the machine: what callers hold are their identifiers with the trees that these lead to, outputs that were not
  -- collected left out; tasks have the trees of their inputs; and the goals of asks are read off the tasks, or off the outputs.
  abbrev pub machine_of : Control C (Unit {0}) K → Machine C K
  machine_of control =
      let graph : Graph (Tree C) K = graph_shown control.names control.graph in
      record {
        drawn = control.drawn;
        holdings = chosen (held_shown control.asks control.names) control.names.ids;
        asks = chosen (λ task ask. Some (ask_shown control.drawn control.names graph ask)) control.asks;
        graph = graph;
      }

-- ---- What holds of a control state with contents after each event

-- a reference is null, or has this number
abbrev pub HasNumber : ℕ → Ref → Type 0
HasNumber number Null = Unit {0}
HasNumber number (Held id) = id.number ≡ number

-- nothing was delivered, or null was
abbrev pub HasNoOutput : Option Ref → Type 0
HasNoOutput None = Unit {0}
HasNoOutput (Some Null) = Unit {0}
HasNoOutput (Some (Held id)) = ⊥

-- a reference is null, or a live identifier with this holder
abbrev pub IsRefOf : {C : Type 0} → NameState C → Holder → Ref → Type 0
IsRefOf names holder Null = Unit {0}
IsRefOf names holder (Held id) = holder_of names id ≡ Some holder

module _ {K : Type 0} where
  -- an identifier is a known input of a task, at some place
  abbrev pub IsInputOf : Graph Ref K → ℕ → Id → Type 0
  IsInputOf graph task id = (place : ℕ) × (input_at graph task place ≡ Some (Known (Held id)))

  -- an input of some task awaits under a number
  abbrev pub AwaitsUnder : Graph Ref K → ℕ → Type 0
  AwaitsUnder graph number = (task place awaited : ℕ) × (input_at graph task place ≡ Some (Awaits awaited number))

module _ {C K : Type 0} where
  -- Who holds what: a known input is null or an identifier that its task holds, no two places of a task have one number, and a task
  -- holds nothing but its inputs; an output that was delivered is null or an identifier that its caller holds, with the number that
  -- was drawn for it.
  pub record AreHeldRightly (control : Control C (Unit {0}) K) : Type 0 where
    pub inputs : (task place : ℕ) (r : Ref) → input_at control.graph task place ≡ Some (Known r) → IsRefOf control.names (Task task) r
    pub apart : (task place other : ℕ) (one two : Id) → input_at control.graph task place ≡ Some (Known (Held one))
        → input_at control.graph task other ≡ Some (Known (Held two)) → one.number ≡ two.number → place ≡ other
    pub nothing_else : (number task : ℕ) (entry : IdRecord) → id_at control.names number ≡ Some entry → entry.holder ≡ Task task
        → IsInputOf control.graph task (record { owner = entry.owner; number = number })
    pub outputs : (task : ℕ) (ask : Ask (Unit {0}) Ref) (r : Ref) → map.get control.asks task ≡ Some ask → ask.delivered ≡ Some r
        → IsRefOf control.names (Caller ask.caller) r × HasNumber ask.number r

  -- Numbers that were drawn for copies: a copy that is still to be made, and an output that is null, have no live identifier under
  -- their number; no number is above what was drawn; and each stands at one place, under one awaiting input or in one ask.
  pub record AreSetAside (control : Control C (Unit {0}) K) : Type 0 where
    pub inputs : (number : ℕ) → AwaitsUnder control.graph number → (number ≤ control.drawn) × (id_at control.names number ≡ None)
    pub outputs : (task : ℕ) (ask : Ask (Unit {0}) Ref) → map.get control.asks task ≡ Some ask → HasNoOutput ask.delivered → id_at control.names ask.number ≡ None
    pub drawn : (task : ℕ) (ask : Ask (Unit {0}) Ref) → map.get control.asks task ≡ Some ask → ask.number ≤ control.drawn
    pub one_place : (task place awaited other place_of_other awaited_by_other number : ℕ) → input_at control.graph task place ≡ Some (Awaits awaited number)
        → input_at control.graph other place_of_other ≡ Some (Awaits awaited_by_other number) → (task ≡ other) × (place ≡ place_of_other)
    pub unasked : (key : ℕ) (ask : Ask (Unit {0}) Ref) → map.get control.asks key ≡ Some ask → AwaitsUnder control.graph ask.number → ⊥

  -- The rules of names hold, every body is reached, and no number is greater than what was drawn; who holds what is right, and so are
  -- the numbers that are still to be used.
  pub record IsOrderly (arity : C → ℕ) (control : Control C (Unit {0}) K) : Type 0 where
    pub sound : IsSound arity control.names
    pub reached : AreReached control.names
    pub within : AreWithin control.names control.drawn
    pub held : AreHeldRightly control
    pub aside : AreSetAside control

-- nothing is live, registered, asked or unfinished, and nobody is stopped
abbrev pub HasNothing : {C K : Type 0} → Control C (Unit {0}) K → Type 0
HasNothing control =
    (live_ids control.names ≡ 0) × (live_bodies control.names ≡ 0) × (map.len control.asks ≡ 0) × (map.len control.graph.tasks ≡ 0)
    × ((caller : ℕ) → is_stopped control.graph caller ≡ false)

-- nothing is held, asked or unfinished, and nobody is stopped
abbrev pub HoldsNothing : {C K : Type 0} → Machine C K → Type 0
HoldsNothing machine =
    (map.len machine.holdings ≡ 0) × (map.len machine.asks ≡ 0) × (map.len machine.graph.tasks ≡ 0)
    × ((caller : ℕ) → is_stopped machine.graph caller ≡ false)
