-- What a call of a core that is an event makes of it: one step of the machine of names, one more event in its journal, and no change of what
-- is not the actor's own.
use Rattle.std.specs.Prelude.{◌≡◌, ℕ, true, false, List, [], ◌∷◌, ◌++◌, map as each}
use Rattle.task_types.specs.Meanings.{Meanings}
use Rattle.task_types.specs.Deciding.{same_kind}
use Rattle.cht_history.specs.declared.event.Event.{Event}
use Rattle.name_machine.specs.States.{Machine}
use Rattle.name_machine.specs.Machine.{IsStep}
use Rattle.name_machine.specs.Facts.{HoldsTogether}
use Rattle.name_machine.specs.Forgetting.{forgotten}
use Rattle.name_machine.specs.Laws.{IsAsWanted, ComesOf, account_then}
use Rattle.name_machine.specs.Parts.{is_callers_own, is_workers_own, account_of, caller_part, worker_part}
use Rattle.name_machine.specs.Replay.{Plans, arities, is_allowed}
use Rattle.name_machine.specs.Standing.{machine_of}
use Rattle.core_state.specs.Contents.{Contents, after_event}

-- what a replay knows of a library: its plans, and that kinds are told apart by their names and heights
abbrev pub plans_of : {C K : Type 0} → Meanings C K → (K → List ℕ) → (K → ℕ) → Plans K
plans_of lib name height = record { plan = lib.plan; same = same_kind name height }

module _ {C K : Type 0} where
  -- the state of the machine of names that a core stands for
  abbrev pub state : Meanings C K → Contents C K → Machine C K
  state lib core = machine_of lib core.control

-- What holds of a core after each call: what it keeps is in order, with each body reached; its events are a legal run that leads to
-- its state, and a replay of them leads to what it keeps, without contents; and so the facts of every state that is reached hold.
pub record Stands {C K : Type 0} (lib : Meanings C K) (arity : C → ℕ) (plans : Plans K) (core : Contents C K) : Type 0 where
  pub comes : ComesOf lib arity plans core.events core.control
  pub facts : HoldsTogether lib (state lib core)

-- An event of a core: a step of the machine between the states that are stood for, written at the end of the journal. The part of each
-- caller and each worker whose own the event is not stays as it was, and the account of each caller changes as the event says.
pub record Happens {C K : Type 0} (lib : Meanings C K) (arity : C → ℕ) (before after : Contents C K) (event : Event K) : Type 0 where
  pub step : IsStep lib arity (state lib before) event (state lib after)
  pub written : after.events ≡ before.events ++ event ∷ []
  pub callers : after.callers ≡ before.callers
  pub workers : after.workers ≡ before.workers
  pub other_callers : (caller : ℕ) → is_callers_own caller event ≡ false
      → caller_part lib (state lib after) after.events caller ≡ caller_part lib (state lib before) before.events caller
  pub other_workers : (worker : ℕ) → is_workers_own worker event ≡ false
      → worker_part (state lib after) after.events worker ≡ worker_part (state lib before) before.events worker
  pub account : (caller : ℕ)
      → account_of lib (state lib after) after.events caller ≡ account_then lib (state lib before) caller event (account_of lib (state lib before) before.events caller)

-- What a call does: the event happens to the control state and is written, where it is allowed and as the machine wants it.
pub record IsDone {C K : Type 0} (lib : Meanings C K) (arity : C → ℕ) (plans : Plans K) (before after : Contents C K) (contents : List C) (event : Event K) : Type 0 where
  pub after_is : after ≡ after_event before contents event
  pub allowed : is_allowed plans (forgotten arity before.control) event ≡ true
  pub wanted : IsAsWanted lib arity (state lib before) contents event
  pub many : each arity contents ≡ arities event
