-- What a text means that is run.
use Rattle.std.specs.Prelude.{ℕ, List, Option, option_map}
use Rattle.cht_script.specs.declared.script.Fault.{Fault}
use Rattle.cht_script.specs.Meaning.{told_of}

-- what a text writes, up to its first refusal
abbrev pub meaning : List ℕ → List ℕ
meaning text = (told_of text).text

-- a refusal for too great a result, at a line
abbrev pub too_great : ℕ → Fault
too_great n = record { line = n; code = 19 }

-- the first refusal of a text, if it has one
abbrev pub refusal : List ℕ → Option Fault
refusal text = option_map too_great (told_of text).refused
