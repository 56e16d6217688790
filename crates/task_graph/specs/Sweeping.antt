-- The tasks of a caller go, one after another.
use Rattle.std.specs.Prelude.{◌≡◌, ℕ, ◌<◌, ◌⊎◌, Option, None, Some}
use Rattle.task_links.specs.declared.entries.Entry.{Entry}
use Rattle.task_graph.specs.declared.parts.Parts.{Parts}
use Rattle.task_links.specs.Inside.{entries_at}

-- below a task, or any where none is given
abbrev pub IsBefore : Option ℕ → ℕ → Type 0
IsBefore None number = Unit {0}
IsBefore (Some task) number = number < task

-- the tasks of a caller before the next one are gone, and all others are as before
pub record IsSwept {K : Type 0} (old now : Parts K) (caller : ℕ) (next : Option ℕ) : Type 0 where
  pub some : (q : ℕ) (entry : Entry K) → entries_at old.entries q ≡ Some entry
      → ((entry.caller ≡ caller) × IsBefore next q × (entries_at now.entries q ≡ None)) ⊎ ((entry.caller ≡ caller → IsBefore next q → ⊥) × (entries_at now.entries q ≡ Some entry))
  pub none : (q : ℕ) → entries_at old.entries q ≡ None → entries_at now.entries q ≡ None
  pub next_is : (task : ℕ) → next ≡ Some task → (entry : Entry K) × (entries_at old.entries task ≡ Some entry) × (entry.caller ≡ caller)
