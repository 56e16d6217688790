-- What is kept for each caller.
use Rattle.std.specs.Prelude.{ℕ, Bool, cond, nat_eq, slice_get, Option}
use Rattle.std.specs.Option.{option_map}
use Rattle.task_links.specs.declared.callers.Caller.{Caller}
use Rattle.task_links.specs.declared.callers.Callers.{Callers}
use Rattle.task_links.specs.Order.{Bounds}

-- what is kept for a caller
abbrev pub caller_at : Callers → ℕ → Option Caller
caller_at callers caller = slice_get callers.rows caller

-- the first and the last task of a caller
abbrev pub bounds_of : Caller → Bounds
bounds_of row = record { first = row.first; last = row.last }

-- the first and the last task of each caller
abbrev pub bounds_at : (ℕ → Option Caller) → ℕ → Option Bounds
bounds_at callers caller = option_map bounds_of (callers caller)

-- how many tasks of a caller are Running, and whether it is stopped
pub record Load : Type 0 where
  pub running : ℕ
  pub stopped : Bool

-- the load of a caller
abbrev pub load_of : Caller → Load
load_of row = record { running = row.running; stopped = row.stopped }

-- the load of each caller
abbrev pub load_at : (ℕ → Option Caller) → ℕ → Option Load
load_at callers caller = option_map load_of (callers caller)

-- a row with another number of Running tasks, where it is that of a caller
abbrev pub with_running_at : ℕ → ℕ → ℕ → Caller → Caller
with_running_at at caller running row = record row { running = cond (nat_eq at caller) running row.running }
