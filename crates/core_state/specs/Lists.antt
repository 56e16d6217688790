-- The tasks that each caller asked, in sets, and the room in each.
use Rattle.std.specs.Prelude.{◌≡◌, ℕ, nat_eq, Bool, false, List, [], ◌∷◌, map as each, slice_get, Option, None, Some}
use Rattle.std.specs.List.{list_any}
use Rattle.std.specs.HashSet.{HashSet, spare}

module _ {S : Type 0} where
  -- the tasks of each set
  abbrev pub items_of : List (HashSet ℕ S) → List (List ℕ)
  items_of rows = each (λ row. row.keys) rows

  -- for how many more tasks each set has room
  abbrev pub rooms_of : List (HashSet ℕ S) → List ℕ
  rooms_of rows = each (λ row. spare row) rows

-- whether a task is among those of a caller
abbrev pub is_listed : List (List ℕ) → ℕ → ℕ → Bool
is_listed lists caller task = elim (slice_get lists caller) [ None ↦ false | Some tasks ↦ list_any (nat_eq task) tasks ]

-- nothing stands at each place
abbrev pub AreIdle : List (Option ℕ) → Type 0
AreIdle [] = Unit {0}
AreIdle (x ∷ xs) = (x ≡ None) × AreIdle xs
