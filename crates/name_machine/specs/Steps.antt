-- What each step of the machine makes of its state. The owner of a new identifier is left open.
use Rattle.std.specs.Prelude.{ℕ, ◌+◌, ◌==◌, not, if◌then◌else◌, List, [], map as each, Option, None, Some}
use Rattle.std.specs.FinMap as map
use Rattle.cht_ids.specs.declared.refs.Ref.{Ref}
use Rattle.task_types.specs.declared.outcome.Place.{Place}
use Rattle.task_types.specs.declared.outcome.Place.TheVariants.{Null, Input as AtInput, Child, Chunk, Task}
use Rattle.task_types.specs.declared.outcome.NewChunk.{NewChunk}
use Rattle.task_types.specs.declared.outcome.Outcome.{Outcome}
use Rattle.task_types.specs.Tree.{Tree, Nothing, Root, rooted}
use Rattle.task_types.specs.Meanings.{Meanings}
use Rattle.task_types.specs.Reading.{reading, new_trees}
use Rattle.name_states.specs.Steps.{present}
use Rattle.task_states.specs.Maps.{each_changed, kept}
use Rattle.task_states.specs.States.{Input, Known, Awaits, Unfinished, asked_of}
use Rattle.task_states.specs.Steps.{added, with_asked, started, given_back, all_delivered, forwarded, removed, with_stopped, abandoned}
use Rattle.name_machine.specs.States.{Machine, Ask, tree_named, is_of}
use Rattle.name_machine.specs.NewTasks.{drawn_by_chunks, drawn_by_tasks, task_numbers, number_at, with_tasks}

module _ {C K : Type 0} where
  -- one more identifier of a caller
  abbrev pub holding_more : Machine C K → ℕ → ℕ → ℕ → Tree C → Machine C K
  holding_more machine number caller owner tree =
      record machine { holdings = map.insert machine.holdings number (record { caller = caller; owner = owner; tree = tree }) }

  -- A caller registers a content over what these references name. Drawn are the body's number, the identifier's, and one for each
  -- child that is not null.
  abbrev pub registered : Machine C K → ℕ → ℕ → C → List Ref → Machine C K
  registered machine caller owner content children =
      record (holding_more machine (machine.drawn + 2) caller owner (rooted content (each (tree_named machine) children))) {
        drawn = machine.drawn + 2 + present children;
      }

  -- a caller gets one more identifier of a tree; drawn is its number
  abbrev pub copied : Machine C K → ℕ → ℕ → Tree C → Machine C K
  copied machine caller owner tree =
      record (holding_more machine (machine.drawn + 1) caller owner tree) { drawn = machine.drawn + 1 }

  -- an identifier goes
  abbrev pub deleted : Machine C K → ℕ → Machine C K
  deleted machine number = record machine { holdings = map.remove machine.holdings number }

  -- A caller asks a task on what these references name. Drawn are the task's number, one for each input that is not null, and
  -- the output's number.
  abbrev pub asked : Meanings C K → Machine C K → ℕ → K → List Ref → Machine C K
  asked lib machine caller kind inputs =
      record {
        drawn = machine.drawn + 2 + present inputs;
        holdings = machine.holdings;
        asks = map.insert machine.asks (machine.drawn + 1) (record {
          caller = caller;
          number = machine.drawn + 2 + present inputs;
          goal = lib.goal kind (each (tree_named machine) inputs);
          delivered = None;
        });
        graph = with_asked (added machine.graph (machine.drawn + 1) caller kind (each Known (each (tree_named machine) inputs))) (machine.drawn + 1) (machine.drawn + 2 + present inputs);
      }

  -- a caller that has no ask of a task any more gets the output, if it is not null
  abbrev pub handed : Machine C K → ℕ → ℕ → ℕ → Tree C → Machine C K
  handed machine number caller owner Nothing = machine
  handed machine number caller owner (Root content a b c d) = holding_more machine number caller owner (Root content a b c d)

  -- a caller collects the output of a task that it asked
  abbrev pub collected : Machine C K → ℕ → ℕ → Ask (Tree C) (Tree C) → Tree C → Machine C K
  collected machine task owner ask output =
      handed (record machine { asks = map.remove machine.asks task }) ask.number ask.caller owner output

  -- a caller is stopped
  abbrev pub stopped : Machine C K → ℕ → Machine C K
  stopped machine caller = record machine { graph = with_stopped machine.graph caller }

  -- all tasks and asks of a caller go, and it is not stopped
  abbrev pub gave_up : Machine C K → ℕ → Machine C K
  gave_up machine caller =
      record machine { asks = kept (λ ask. not (is_of caller ask)) machine.asks; graph = abandoned machine.graph caller }

  -- a worker begins to run a task
  abbrev pub begun : Machine C K → ℕ → ℕ → Machine C K
  begun machine task worker = record machine { graph = started machine.graph task worker }

  -- a task that was run is as if it had not begun
  abbrev pub put_back : Machine C K → ℕ → Machine C K
  put_back machine task = record machine { graph = given_back machine.graph task }

-- ---- The end of an execution

module _ {C : Type 0} where
  -- the tree of an input that is known
  abbrev pub tree_known : Input (Tree C) → Tree C
  tree_known (Known tree) = tree
  tree_known (Awaits task number) = Nothing

  -- an ask whose output has this number gets it
  abbrev pub answered : Option ℕ → Tree C → Ask (Tree C) (Tree C) → Ask (Tree C) (Tree C)
  answered None output ask = ask
  answered (Some number) output ask = if ask.number == number then record ask { delivered = Some output } else ask

module _ {C K : Type 0} where
  -- the trees of the inputs of a task, all of which are known
  abbrev pub input_trees : Unfinished (Tree C) K → List (Tree C)
  input_trees task = each tree_known task.inputs

  -- all that awaits a task gets a tree
  abbrev pub settled_with : Machine C K → ℕ → Tree C → Machine C K
  settled_with machine task output =
      record machine {
        asks = each_changed (answered (asked_of machine.graph task) output) machine.asks;
        graph = all_delivered machine.graph task (λ number. output);
      }

  -- all that awaits a task awaits another in its place, or gets the tree that a place names
  abbrev pub resolved : Machine C K → ℕ → List ℕ → (Place → Tree C) → Place → Machine C K
  resolved machine task numbers read Null = settled_with machine task Nothing
  resolved machine task numbers read (AtInput i) = settled_with machine task (read (AtInput i))
  resolved machine task numbers read (Child i j) = settled_with machine task (read (Child i j))
  resolved machine task numbers read (Chunk i) = settled_with machine task (read (Chunk i))
  resolved machine task numbers read (Task i) = record machine { graph = forwarded machine.graph task (number_at numbers i) }

  -- Drawn are the numbers of new chunks and of new tasks, in this order, and the new tasks are there.
  abbrev pub with_new : Machine C K → ℕ → (Place → Tree C) → Outcome C K → Machine C K
  with_new machine caller read outcome =
      let drawn : ℕ = machine.drawn + drawn_by_chunks (each (λ (chunk : NewChunk C). chunk.children) outcome.chunks) in
      record machine {
        drawn = drawn + drawn_by_tasks outcome.tasks;
        graph = with_tasks (λ place number. read place) (task_numbers drawn outcome.tasks) caller drawn outcome.tasks machine.graph;
      }

  -- The outcome of a task takes effect: its new tasks are there, what awaited it is settled or handed on, and it goes.
  abbrev pub finished : Machine C K → ℕ → Unfinished (Tree C) K → Outcome C K → Machine C K
  finished machine task unfinished outcome =
      let trees : List (Tree C) = input_trees unfinished in
      let read : Place → Tree C = reading trees (new_trees trees outcome) [] in
      let drawn : ℕ = machine.drawn + drawn_by_chunks (each (λ (chunk : NewChunk C). chunk.children) outcome.chunks) in
      let ended : Machine C K = resolved (with_new machine unfinished.caller read outcome) task (task_numbers drawn outcome.tasks) read outcome.result in
      record ended { graph = removed ended.graph task }
