-- So far as many sets, none of which has a task.
use Rattle.std.proofs.Common.{◌≡◌, ℕ, length, false}
use Rattle.core_state.specs.Lists.{is_listed, items_of}
use Rattle.core_state.proofs.rows.empty_rows.Given as goal

abbrev pub invariant-loop-caller : goal.invariant-loop-caller
invariant-loop-caller l = record { callers : length l.rows.items ≡ l._caller; empty : (caller task : ℕ) → is_listed (items_of l.rows.items) caller task ≡ false }
