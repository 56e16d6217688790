-- How long the text of a number of 64 bits is.
use Rattle.std.proofs.Common.{ℕ, ◌^◌, ◌<◌, ◌≤◌, length, arith, pos}
use Rattle.std.proofs.lemmas.Fmt.{length-decimal-le}
use Rattle.cht_ids.specs.Numeral.{number_text}

pub line_short : (n : ℕ) → n < 2 ^ 64 → length (number_text (pos n)) ≤ 20
line_short n lt = length-decimal-le 20 n (omega arith) (omega arith) lt

pub code_short : (n : ℕ) → n < 2 ^ 32 → length (number_text (pos n)) ≤ 10
code_short n lt = length-decimal-le 10 n (omega arith) (omega arith) (omega arith)
