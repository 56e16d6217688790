-- When each answer comes, and what it leaves.
use Rattle.std.specs.Prelude.{◌≡◌, ℕ, ◌≤◌, true, false, None, Some}
use Rattle.std.specs.FinMap as map
use Rattle.task_types.specs.Tree.{Tree}
use Rattle.task_types.specs.Meanings.{Meanings}
use Rattle.task_states.specs.States.{caller_of, is_stopped, running}
use Rattle.task_states.specs.Awaiters.{IsLeastOf, IsRunnable, IsWanted}
use Rattle.cht_history.specs.declared.event.Event.TheVariants.{Collect as CollectEvent, Abandon as AbandonEvent, Stop as StopEvent}
use Rattle.name_machine.specs.States.{Machine, Ask, has_ask}
use Rattle.core_state.specs.Contents.{Contents}
use Rattle.cht_core.specs.declared.answers.Abandoned.{Abandoned}
use Rattle.cht_core.specs.declared.answers.Abandoned.TheVariants as abandoned
use Rattle.cht_core.specs.declared.answers.Collected.{Collected}
use Rattle.cht_core.specs.declared.answers.Collected.TheVariants as collected
use Rattle.cht_core.specs.declared.answers.Idle.{Idle}
use Rattle.cht_core.specs.declared.answers.Idle.TheVariants as idle
use Rattle.cht_core.specs.Events.{state, Happens}

module _ {C K : Type 0} where
  -- What there is to do in a state: nothing where no unfinished task has a caller that is not stopped; else the least of their tasks that
  -- is ready; and else there is nothing to do yet.
  abbrev pub IsToDo : Machine C K → Idle → Type 0
  IsToDo machine idle.End = (task : ℕ) → IsWanted machine.graph task → ⊥
  IsToDo machine (idle.Run least) = IsLeastOf (IsRunnable machine.graph) (Some least)
  IsToDo machine idle.Later = ((task : ℕ) × IsWanted machine.graph task) × IsLeastOf (IsRunnable machine.graph) None

  -- a caller asked a task, and has neither collected its output nor given up since
  pub record HasAsked (machine : Machine C K) (caller task : ℕ) : Type 0 where
    pub ask : Ask (Tree C) (Tree C)
    pub there : map.get machine.asks task ≡ Some ask
    pub own : ask.caller ≡ caller

  -- the output of a task that was asked is not there yet
  abbrev pub IsNotDelivered : Machine C K → ℕ → Type 0
  IsNotDelivered machine task = (ask : Ask (Tree C) (Tree C)) → map.get machine.asks task ≡ Some ask → ask.delivered ≡ None

  -- a caller has no unfinished task and no ask, and is not stopped
  pub record HasNothingOpen (machine : Machine C K) (caller : ℕ) : Type 0 where
    pub no_tasks : (task : ℕ) → caller_of machine.graph task ≡ Some caller → ⊥
    pub no_asks : has_ask machine.asks caller ≡ false
    pub goes_on : is_stopped machine.graph caller ≡ false

module _ {C K : Type 0} (lib : Meanings C K) (arity : C → ℕ) (before after : Contents C K) where
  -- A collect: what is got is an event; there is nothing yet exactly where the output is not there and the caller is not stopped; and a
  -- caller that is stopped gets nothing. Nothing changes in these two cases.
  abbrev pub IsCollected : ℕ → ℕ → Collected → Type 0
  IsCollected caller task (collected.Got r) = Happens lib arity before after (CollectEvent caller task r)
  IsCollected caller task collected.NotYet =
      IsNotDelivered (state lib before) task × (is_stopped (state lib before).graph caller ≡ false) × (after ≡ before)
  IsCollected caller task collected.Stopped = (is_stopped (state lib before).graph caller ≡ true) × (after ≡ before)

  -- a stop: an event where the caller has an ask and is not stopped; else nothing changes
  pub record IsStopped (caller : ℕ) : Type 0 where
    pub stops : has_ask (state lib before).asks caller ≡ true → is_stopped (state lib before).graph caller ≡ false → Happens lib arity before after (StopEvent caller)
    pub nothing_asked : has_ask (state lib before).asks caller ≡ false → after ≡ before
    pub stopped_already : is_stopped (state lib before).graph caller ≡ true → after ≡ before

  -- An abandon of a caller none of whose tasks is Running: an event where the caller has an ask, else nothing changes. Afterwards nothing of
  -- the caller is open.
  pub record IsGone (caller : ℕ) : Type 0 where
    pub none_run : running (state lib before).graph caller ≡ 0
    pub gives_up : has_ask (state lib before).asks caller ≡ true → Happens lib arity before after (AbandonEvent caller)
    pub nothing_asked : has_ask (state lib before).asks caller ≡ false → after ≡ before
    pub nothing_open : HasNothingOpen (state lib after) caller

  -- An abandon: where some of the caller's tasks are Running it is told how many, and nothing changes.
  abbrev pub IsAbandoned : ℕ → Abandoned → Type 0
  IsAbandoned caller abandoned.Gone = IsGone caller
  IsAbandoned caller (abandoned.StillRunning tasks) = (tasks ≡ running (state lib before).graph caller) × (1 ≤ tasks) × (after ≡ before)
