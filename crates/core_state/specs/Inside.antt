-- What the fields of a core's control state stand for, and what holds of them.
use Rattle.std.specs.Prelude.{◌≡◌, ℕ, ◌*◌, ◌≤◌, ◌<◌, List, length, slice_get, Option, Some}
use Rattle.std.specs.FinMap as map
use Rattle.cht_ids.specs.declared.refs.Ref.{Ref}
use Rattle.chunk_refs.specs.Room.{Contents as Names, workers_of}
use Rattle.task_states.specs.States.{Unfinished, Graph, task_at}
use Rattle.cht_history.specs.History.{History}
use Rattle.name_machine.specs.States.{Ask}
use Rattle.core_state.specs.AskTable.{AskTable}
use Rattle.core_state.specs.Contents.{Contents}
use Rattle.core_state.specs.Needed.{needed}

-- the table of what workers run says what the tasks say
pub record AreRun {K : Type 0} (graph : Graph Ref K) (running : List (Option ℕ)) : Type 0 where
  pub runner : (task worker : ℕ) (unfinished : Unfinished Ref K) → task_at graph task ≡ Some unfinished → unfinished.runner ≡ Some worker
      → slice_get running worker ≡ Some (Some task)
  pub task : (worker task : ℕ) → slice_get running worker ≡ Some (Some task)
      → (unfinished : Unfinished Ref K) × (task_at graph task ≡ Some unfinished) × (unfinished.runner ≡ Some worker)

module _ {C K : Type 0} where
  -- what the fields stand for
  abbrev pub contents_of : ℕ → Names C → AskTable → Graph Ref K → History K → ℕ → List (Option ℕ) → Contents C K
  contents_of drawn names table graph history callers running =
      record {
        control = record { drawn = drawn; names = names.names; asks = table.asks; graph = graph };
        events = history.events;
        callers = callers;
        workers = length running;
      }

  -- The fields hang together: there are few callers and workers, and as many stores as workers; tasks and asks are those of callers;
  -- the table of workers is right; an event drew no more than 128 numbers; and there is room for the events that take no memory.
  pub record IsKept (drawn : ℕ) (names : Names C) (table : AskTable) (graph : Graph Ref K) (history : History K) (callers : ℕ)
      (running : List (Option ℕ)) (owed : ℕ) : Type 0 where
    pub few_callers : callers ≤ 64
    pub few_workers : length running ≤ 64
    pub some_worker : 0 < length running
    pub stores : workers_of names ≡ length running
    pub lists : length table.rooms ≡ callers
    pub tasks : (task : ℕ) (unfinished : Unfinished Ref K) → task_at graph task ≡ Some unfinished → unfinished.caller < callers
    pub asks : (task : ℕ) (ask : Ask (Unit {0}) Ref) → map.get table.asks task ≡ Some ask → ask.caller < callers
    pub run : AreRun graph running
    pub few : drawn ≤ 128 * length history.events
    pub room : owed ≤ history.spare
    pub enough : needed names.names table.asks graph callers running ≤ owed
