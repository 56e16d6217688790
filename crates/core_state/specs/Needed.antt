-- For how many events that take no memory room in the journal is needed.
use Rattle.std.specs.Prelude.{ℕ, zero, suc, ◌+◌, Bool, if◌then◌else◌, List, map as each, count_by, Option, None, Some}
use Rattle.std.specs.Option.{is_some}
use Rattle.std.specs.List.{sum}
use Rattle.std.specs.Ordering.{nat_cmp}
use Rattle.std.specs.FinMap as map
use Rattle.cht_ids.specs.declared.refs.Ref.{Ref}
use Rattle.cht_ids.specs.declared.refs.Ref.TheVariants.{Null, Id as Held}
use Rattle.name_states.specs.declared.holder.Holder.{Holder}
use Rattle.name_states.specs.declared.holder.Holder.TheVariants.{Caller, Task, Body}
use Rattle.name_states.specs.States.{NameState, IdRecord}
use Rattle.task_states.specs.States.{Graph, is_stopped}
use Rattle.name_machine.specs.States.{Ask, has_ask}

-- a caller may delete each identifier that it holds
abbrev pub due_for_holder : Holder → ℕ
due_for_holder (Caller caller) = 1
due_for_holder (Task task) = 0
due_for_holder (Body body) = 0

abbrev pub due_for_id : IdRecord → ℕ
due_for_id entry = due_for_holder entry.holder

-- an ask may be collected, and what was delivered be deleted then; a reference that was delivered is counted where it is held
abbrev pub due_for_output : Option Ref → ℕ
due_for_output None = 2
due_for_output (Some Null) = 1
due_for_output (Some (Held id)) = 1

abbrev pub due_for_ask : Ask (Unit {0}) Ref → ℕ
due_for_ask ask = due_for_output ask.delivered

-- a caller with an ask may be stopped, and may abandon
abbrev pub due_for_caller : map.FinMap nat_cmp (Ask (Unit {0}) Ref) → (ℕ → Bool) → ℕ → ℕ
due_for_caller asks stopped caller = if has_ask asks caller then (if stopped caller then 1 else 2) else 0

-- the sum over the values of a map
abbrev pub total_by : {X : Type 0} → (X → ℕ) → map.FinMap nat_cmp X → ℕ
total_by f values = sum (each (λ e. f e.1) (map.entries values))

-- the sum of what a function gives for the numbers below another
abbrev pub total_below : ℕ → (ℕ → ℕ) → ℕ
total_below zero f = 0
total_below (suc n) f = f n + total_below n f

-- All of these together, where the workers run these tasks: each execution may end.
abbrev pub needed : {C K : Type 0} → NameState C → map.FinMap nat_cmp (Ask (Unit {0}) Ref) → Graph Ref K → ℕ → List (Option ℕ) → ℕ
needed names asks graph callers running =
    total_by due_for_id names.ids + total_by due_for_ask asks + total_below callers (due_for_caller asks (is_stopped graph)) + count_by is_some running
