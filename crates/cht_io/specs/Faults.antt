-- Counts of faults: numbers of 64 bits that never fall.
use Rattle.std.specs.Prelude.{ℕ, ◌+◌, ◌-◌, ◌^◌, ◌≤◌, min}

-- the count after one more fault: it rises, and stands still at its last value
abbrev pub risen : ℕ → ℕ
risen count = min (count + 1) (2 ^ 64 - 1)

-- the count rose in a call, or stands at its last value after it
abbrev pub Rose : ℕ → ℕ → Type 0
Rose before now = risen before ≤ now
