-- What makes a matrix of one other or of two: the statements that do it, and when it is refused.
use Rattle.std.specs.Prelude.{ℕ, ◌+◌, ◌*◌, Bool, true, false, nat_le}
use Rattle.cht_script.specs.declared.script.Verb.{Verb}
use Rattle.cht_script.specs.declared.script.Verb.TheVariants as verb
use Rattle.cht_script.specs.Meaning.{limit}
use Rattle.cht_session.specs.declared.operation.Operation.{Operation}
use Rattle.cht_session.specs.declared.operation.Operation.TheVariants.{Add, Mul, TMul, MulT, Square, Full}

-- the verb that asks for it
abbrev pub verb_of : Operation → Verb
verb_of Add = verb.Add
verb_of Mul = verb.Mul
verb_of TMul = verb.TMul
verb_of MulT = verb.MulT
verb_of Square = verb.Square
verb_of Full = verb.Full

-- whether it takes one matrix alone
abbrev pub is_single : Operation → Bool
is_single Add = false
is_single Mul = false
is_single TMul = false
is_single MulT = false
is_single Square = true
is_single Full = true

-- Whether the peaks p and q of two matrices bound the result: those of a sum together; those of a product times the number of terms,
-- which is that of the first one's columns, or of its rows where it is transposed; that of the one matrix twice times its number of
-- rows for a square. What a matrix has in the general form is bounded.
abbrev pub fits_by : Operation → ℕ → ℕ → ℕ → ℕ → Bool
fits_by Add rows columns p q = nat_le (p + q) limit
fits_by Mul rows columns p q = nat_le (columns * p * q) limit
fits_by TMul rows columns p q = nat_le (rows * p * q) limit
fits_by MulT rows columns p q = nat_le (columns * p * q) limit
fits_by Square rows columns p q = nat_le (rows * p * p) limit
fits_by Full rows columns p q = true
