-- A core with one caller and one worker, and what its caller sees.
use Rattle.std.specs.Prelude.{◌≡◌, ℕ, false, count_by, Some}
use Rattle.std.specs.FinMap as map
use Rattle.task_types.specs.Tree.{Tree}
use Rattle.task_types.specs.Meanings.{Meanings}
use Rattle.task_types.specs.Shown.{Shows}
use Rattle.task_states.specs.States.{Unfinished, task_at, is_stopped}
use Rattle.name_machine.specs.States.{IsIdle, Runs}
use Rattle.name_machine.specs.Steps.{input_trees}
use Rattle.name_machine.specs.Parts.{names_of, asks_of, caller_part, finishes_of, work_left}
use Rattle.core_state.specs.Contents.{Contents}
use Rattle.cht_core.specs.Events.{state}
use Rattle.cht_core.specs.declared.answers.Execution.{Execution}
use Rattle.cht_engine.specs.Seen.{Seen, seen_by}
use Rattle.cht_engine.specs.Closing.{is_finish}

module _ {C K : Type 0} (lib : Meanings C K) where
  -- what the one caller sees, whose number is 0
  abbrev pub seen_of : Contents C K → Seen C K
  seen_of core = seen_by 0 (caller_part lib (state lib core) core.events 0)

  -- what is left to do for the caller
  abbrev pub left : Contents C K → ℕ
  left core = work_left lib (state lib core) 0

  -- a caller holds nothing and has asked nothing
  abbrev pub IsAbsent : Contents C K → ℕ → Type 0
  IsAbsent core caller = (names_of (state lib core).holdings caller ≡ map.empty) × (asks_of (state lib core).asks caller ≡ map.empty)

  -- A core has one caller and one worker: nobody else holds or asks, and so all tasks that were finished were the caller's.
  pub record IsAlone (core : Contents C K) : Type 0 where
    pub callers : core.callers ≡ 1
    pub workers : core.workers ≡ 1
    pub others : (caller : ℕ) → (caller ≡ 0 → ⊥) → IsAbsent core caller
    pub counted : count_by is_finish core.events ≡ finishes_of 0 core.events

  -- between two calls the caller awaits nothing
  pub record IsAtRest (core : Contents C K) : Type 0 where
    pub alone : IsAlone core
    pub asks : (seen_of core).asks ≡ map.empty

  -- within an ask, while nobody runs a task: the caller was not stopped
  pub record IsWaiting (core : Contents C K) : Type 0 where
    pub alone : IsAlone core
    pub going : is_stopped (state lib core).graph 0 ≡ false
    pub idle : (worker : ℕ) → IsIdle (state lib core) worker

  -- Within an ask, while the worker runs a task, and nobody runs another: what the worker got shows the trees of the task's inputs, on which
  -- its goal is defined.
  pub record IsBusy (core : Contents C K) (task : ℕ) (kind : K) (unfinished : Unfinished (Tree C) K) : Type 0 where
    pub alone : IsAlone core
    pub going : is_stopped (state lib core).graph 0 ≡ false
    pub there : task_at (state lib core).graph task ≡ Some unfinished
    pub runs : unfinished.runner ≡ Some 0
    pub kind_is : kind ≡ unfinished.kind
    pub defined : lib.defined unfinished.kind (input_trees unfinished)
    pub only : (worker other : ℕ) → Runs (state lib core) worker other → other ≡ task

module _ {L C K : Type 0} (lib : Meanings C K) where
  -- the worker runs what it began
  pub record Executes (core : Contents C K) (started : Execution L C K) : Type 0 where
    pub unfinished : Unfinished (Tree C) K
    pub busy : IsBusy lib core started.task started.kind unfinished
    pub shown : Shows started.inputs (input_trees unfinished)
