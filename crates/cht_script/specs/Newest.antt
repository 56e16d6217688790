-- The newest of things that came one after another, each at the end of a list.
use Rattle.std.specs.Prelude.{ℕ, suc, Bool, if◌then◌else◌, List, [], ◌∷◌, Option, None, Some, option_map}
use Rattle.mm_text.specs.Faults.{or_else}

-- the last thing that fits
abbrev pub newest : {A : Type 0} → (A → Bool) → List A → Option A
newest fits [] = None
newest fits (x ∷ xs) = or_else (newest fits xs) (if fits x then Some x else None)

-- its number, counted from 0
abbrev pub newest_number : {A : Type 0} → (A → Bool) → List A → Option ℕ
newest_number fits [] = None
newest_number fits (x ∷ xs) = or_else (option_map suc (newest_number fits xs)) (if fits x then Some 0 else None)
