-- What is read of tasks.
use Rattle.std.specs.Prelude.{◌≡◌, ℕ, ◌<◌, ◌≤◌, ◌+◌, ◌-◌, Bool, false, not, ◌&&◌, List, slice_get, Option, None, Some, IsSome}
use Rattle.std.specs.Option.{is_some}
use Rattle.cht_ids.specs.declared.refs.Ref.{Ref}
use Rattle.task_states.specs.States.{Graph, caller_of}
use Rattle.task_states.specs.declared.states.Awaiter.{Awaiter}
use Rattle.task_states.specs.declared.states.Awaiter.TheVariants.{Input as AtInput, Asked}
use Rattle.task_links.specs.declared.callers.Caller.{Caller}
use Rattle.task_links.specs.declared.entries.Spot.{Spot}

-- a task of a caller, below which all have numbers that are not above another, or none where all have
abbrev pub IsCeiling : {K : Type 0} → Graph Ref K → ℕ → ℕ → Option ℕ → Type 0
IsCeiling graph caller after None = (task : ℕ) → caller_of graph task ≡ Some caller → task ≤ after
IsCeiling graph caller after (Some at) = (caller_of graph at ≡ Some caller) × ((task : ℕ) → caller_of graph task ≡ Some caller → task < at → task ≤ after)

-- whether a caller has a task and is not stopped
abbrev pub is_wanted : Caller → Bool
is_wanted row = not row.stopped && is_some row.first

-- a caller that is not stopped has a task
abbrev pub HasWanted : List Caller → Type 0
HasWanted rows = (i : ℕ) × (row : Caller) × (slice_get rows i ≡ Some row) × (row.stopped ≡ false) × IsSome row.first

-- how far a task is from the last one
abbrev pub rest_to : ℕ → Option ℕ → ℕ
rest_to last None = 0
rest_to last (Some task) = last + 1 - task

-- the input that an awaiter is, if it is one
abbrev pub spot_of : Awaiter → Option Spot
spot_of (AtInput task place number) = Some (record { task = task; place = place })
spot_of (Asked caller number) = None
