-- Readers and writers of std behind a count of their errors.
use Rattle.std.specs.Prelude.{ℕ}

-- a device of std, and how often it failed
pub record Counted (D : Type 0) : Type 0 where
  pub device : D
  pub faults : ℕ
