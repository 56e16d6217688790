-- A count of faults over several calls.
use Rattle.std.proofs.Common.{ℕ, ◌≤◌, arith}
use Rattle.cht_io.specs.Faults.{Rose}

-- it rose, and did not fall after that
pub Rose_later : (a b c : ℕ) → Rose a b → b ≤ c → Rose a c
Rose_later a b c rose later = omega arith

-- it did not fall before it rose
pub Rose_earlier : (a b c : ℕ) → a ≤ b → Rose b c → Rose a c
Rose_earlier a b c earlier rose = omega arith
