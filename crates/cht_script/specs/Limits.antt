-- The limits of the numbers of a grid line.
use Rattle.std.specs.Prelude.{ℕ, ◌≤◌}

-- 1 to 4096 rows and columns at most, and leaf blocks of side 1 to 64
abbrev pub AreLimits : ℕ × ℕ → Type 0
AreLimits limits = (1 ≤ limits.0) × (limits.0 ≤ 4096) × (1 ≤ limits.1) × (limits.1 ≤ 64)
