-- The asks as they are kept: by the number of the task, by the number of the output, and in a set for each caller.
use Rattle.std.specs.Prelude.{◌≡◌, ℕ, min, List, map as each, nat_eq, Option, Some, true}
use Rattle.std.specs.List.{IsDistinct}
use Rattle.std.specs.Map.{lookup, keys_of}
use Rattle.std.specs.HashMap.{spare}
use Rattle.std.specs.Ordering.{nat_cmp}
use Rattle.std.specs.FinMap as map
use Rattle.cht_ids.specs.declared.refs.Ref.{Ref}
use Rattle.name_machine.specs.States.{Ask}
use Rattle.core_state.specs.AskTable.{AskTable}
use Rattle.core_state.specs.Lists.{is_listed, items_of, rooms_of}
use Rattle.core_state.specs.declared.asked.Kept.{Kept}
use Rattle.core_state.specs.declared.asked.Asks.TheInside.{Inside}

-- an ask as contracts see it
abbrev pub shown_ask : Kept → Ask (Unit {0}) Ref
shown_ask kept = record { caller = kept.caller; number = kept.number; goal = tt; delivered = kept.delivered }

-- the asks of a hash map's entries
unfoldable pub asks_of : List (ℕ × Kept) → map.FinMap nat_cmp (Ask (Unit {0}) Ref)
asks_of es = map.from_entries (each (λ e. (e.0, shown_ask e.1)) es)

-- the ask of a task, as it is kept
abbrev pub kept_at : List (ℕ × Kept) → ℕ → Option Kept
kept_at es task = lookup (nat_eq task) es

-- what the fields stand for
abbrev pub table_of : Inside → AskTable
table_of asks = record {
  asks = asks_of asks.by_task.entries;
  spare = min (spare asks.by_task) (spare asks.by_output);
  rooms = rooms_of asks.of_callers.items;
}

-- the tasks that each caller asked, in lists
abbrev pub lists_of : Inside → List (List ℕ)
lists_of asks = items_of asks.of_callers.items

-- The number of each output leads to the task that was asked, and a caller's list has exactly the tasks that it asked.
pub record AreListed (es : List (ℕ × Kept)) (outputs : List (ℕ × ℕ)) (lists : List (List ℕ)) : Type 0 where
  pub output : (task : ℕ) (kept : Kept) → kept_at es task ≡ Some kept → lookup (nat_eq kept.number) outputs ≡ Some task
  pub asked : (number task : ℕ) → lookup (nat_eq number) outputs ≡ Some task → (kept : Kept) × (kept_at es task ≡ Some kept) × (kept.number ≡ number)
  pub listed : (task : ℕ) (kept : Kept) → kept_at es task ≡ Some kept → is_listed lists kept.caller task ≡ true
  pub own : (caller task : ℕ) → is_listed lists caller task ≡ true → (kept : Kept) × (kept_at es task ≡ Some kept) × (kept.caller ≡ caller)

-- so the fields hang together
pub record IsTable (asks : Inside) : Type 0 where
  pub unique : IsDistinct nat_eq (keys_of asks.by_task.entries)
  pub listed_rightly : AreListed asks.by_task.entries asks.by_output.entries (lists_of asks)
