-- Finite maps with each value changed or left out.
use Rattle.std.specs.Prelude.{ℕ, Bool, cond, List, [], ◌∷◌, Option, None, Some}
use Rattle.std.specs.Ordering.{nat_cmp}
use Rattle.std.specs.FinMap as map

-- a value under a key, if there is one, in front of others
abbrev pub onto : {Y : Type 0} → ℕ → Option Y → List (ℕ × Y) → List (ℕ × Y)
onto key None entries = entries
onto key (Some value) entries = (key, value) ∷ entries

module _ {X Y : Type 0} where
  -- what a choice makes of each entry
  abbrev pub chosen_of : (ℕ → X → Option Y) → List (ℕ × X) → List (ℕ × Y)
  chosen_of choice [] = []
  chosen_of choice (entry ∷ entries) = onto entry.0 (choice entry.0 entry.1) (chosen_of choice entries)

  -- the map with what a choice makes of each value under its key, without those of which it makes nothing
  unfoldable pub chosen : (ℕ → X → Option Y) → map.FinMap nat_cmp X → map.FinMap nat_cmp Y
  chosen choice values = map.from_entries (chosen_of choice (map.entries values))

module _ {X : Type 0} where
  -- the map with each value changed
  abbrev pub each_changed : (X → X) → map.FinMap nat_cmp X → map.FinMap nat_cmp X
  each_changed change values = chosen (λ key value. Some (change value)) values

  -- the values that pass a test
  abbrev pub kept : (X → Bool) → map.FinMap nat_cmp X → map.FinMap nat_cmp X
  kept test values = chosen (λ key value. cond (test value) (Some value) None) values

  -- a value put under a key, if there is one
  abbrev pub put_at : map.FinMap nat_cmp X → ℕ → Option X → map.FinMap nat_cmp X
  put_at values key None = values
  put_at values key (Some value) = map.insert values key value
