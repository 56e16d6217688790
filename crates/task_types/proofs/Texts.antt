-- The texts of kinds.
use Rattle.std.proofs.Common.{ℕ, ◌<◌, ◌^◌, ◌≤◌, length, arith}
use Rattle.std.specs.Fmt.{decimal}
use Rattle.std.proofs.lemmas.Fmt.{length-decimal-le}
use Rattle.std.proofs.lemmas.Slice.{take-put_mid}

-- a number of 32 bits has at most ten digits
pub ten_digits : (n : ℕ) → n < 2 ^ 32 → length (decimal n) ≤ 10
ten_digits n h = length-decimal-le 10 n (omega arith) (omega arith) (omega arith)

pub ruleset texts = (ten_digits, take-put_mid)
