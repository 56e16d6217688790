-- What reading a source to its end answers.
use Rattle.std.specs.Prelude.{◌≡◌, ℕ, ◌+◌, Bool, true, false, List, [], take, drop, length, Option, Some, Result, Ok, Err}
use Rattle.std.specs.Global.{Vec}
use Rattle.cht_run.specs.declared.reading.ReadStop.{ReadStop}
use Rattle.cht_run.specs.declared.reading.ReadStop.TheVariants.{Failed, Memory}
use Rattle.cht_script.specs.Verdict.{most_bytes}
use Rattle.cht_run.specs.Answers.{WasRead, ReadUpTo}

-- the text is the input, or as much of it as is one byte too many; or the reading stopped before
abbrev pub Stopped : List ℕ → Result (Vec ℕ) ReadStop → Option (List ℕ) → Type 0
Stopped input (Ok text) left = (text.items ≡ take (most_bytes + 1) input) × WasRead input left
Stopped input (Err Failed) left = ReadUpTo most_bytes input left
Stopped input (Err Memory) left = ReadUpTo (most_bytes + 1) input left

-- in the middle of it: the text so far is the front of the input, and the rest of the input is left
pub record IsReading (input text : List ℕ) (left : Option (List ℕ)) : Type 0 where
  pub front : text ≡ take (length text) input
  pub rest : left ≡ Some (drop (length text) input)

-- One turn: more of the input was read, or its end was reached, or the reading stopped.
abbrev pub Turns : List ℕ → Result Bool ReadStop → List ℕ → List ℕ → Option (List ℕ) → Type 0
Turns input (Ok true) before after left = IsReading input after left
Turns input (Ok false) before after left = IsReading input after left × (left ≡ Some []) × (after ≡ before)
Turns input (Err Failed) before after left = ReadUpTo most_bytes input left
Turns input (Err Memory) before after left = ReadUpTo (most_bytes + 1) input left

-- All turns: the text is the input, or one byte more than a script may have, or the reading stopped.
abbrev pub Ends : List ℕ → Result (Unit {0}) ReadStop → List ℕ → Option (List ℕ) → Type 0
Ends input (Ok done) text left = (text ≡ take (most_bytes + 1) input) × WasRead input left
Ends input (Err Failed) text left = ReadUpTo most_bytes input left
Ends input (Err Memory) text left = ReadUpTo (most_bytes + 1) input left
