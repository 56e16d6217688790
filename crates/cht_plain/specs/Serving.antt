-- What is left after an ask was waited for.
use Rattle.std.specs.Prelude.{◌≡◌, ℕ, ◌+◌, List, [], ◌∷◌, ◌++◌, Result, Ok, Err}
use Rattle.std.specs.FinMap as map
use Rattle.cht_ids.specs.declared.memory.Memory.{Memory}
use Rattle.cht_ids.specs.declared.refs.Ref.{Ref}
use Rattle.task_types.specs.Tree.{Tree}
use Rattle.task_types.specs.Meanings.{Meanings}
use Rattle.cht_history.specs.declared.event.Event.TheVariants.{Ask, Collect, Abandon}
use Rattle.cht_engine.specs.Seen.{Seen, with_event}
use Rattle.cht_engine.specs.Calls.{trees_named, IsOutput, with_output}

module _ {C K : Type 0} where
  -- the caller asked one task, whose goal this is, and awaits nothing else
  abbrev pub AwaitsOne : Seen C K → ℕ → Tree C → Type 0
  AwaitsOne seen task goal = seen.asks ≡ map.insert map.empty task goal

  -- after the output came: it is the goal, and the caller awaits nothing
  abbrev pub collected : Seen C K → ℕ → Tree C → Ref → Seen C K
  collected before task goal r =
      with_event (record (with_output before r goal) { asks = map.empty }) (Collect before.caller task r)

  -- after it was given up: the caller awaits nothing, and has what it had
  pub record IsLeft (before after : Seen C K) : Type 0 where
    pub caller : after.caller ≡ before.caller
    pub names : after.names ≡ before.names
    pub asks : after.asks ≡ map.empty
    pub events : after.events ≡ before.events ++ Abandon before.caller ∷ []

  -- an ask of a task with this goal was waited for
  abbrev pub IsServed : Seen C K → Seen C K → ℕ → Result Ref Memory → Type 0
  IsServed before after task (Ok r) = (goal : Tree C) → AwaitsOne before task goal → IsOutput before goal r × (after ≡ collected before task goal r)
  IsServed before after task (Err memory) = IsLeft before after

  -- after an ask: the work is on the account, and the caller awaits the goal
  abbrev pub waiting_for : Meanings C K → Seen C K → K → List Ref → ℕ → Seen C K
  waiting_for lib before kind inputs task =
      with_event (record before {
        asks = map.insert map.empty task (lib.goal kind (trees_named before inputs));
        account = before.account + lib.work kind (trees_named before inputs);
      }) (Ask before.caller task kind inputs)
