-- What each answer of a run says of a source that told its bytes, and of what the sink took.
use Rattle.std.specs.Prelude.{◌≡◌, ◌≢◌, ◌⊎◌, ℕ, ◌+◌, ◌≤◌, Bool, false, List, [], ◌∷◌, drop, codes, Option, None, Some}
use Rattle.std.specs.Str.{bytes_eq}
use Rattle.cht_io.specs.Bytes.{Adds, AddsFront}
use Rattle.cht_run.specs.declared.status.Status.{Status}
use Rattle.cht_run.specs.declared.status.Status.TheVariants.{Done, Usage, Refused, ReadFault, WriteFault, Memory}
use Rattle.cht_script.specs.declared.script.Fault.{Fault}
use Rattle.cht_script.specs.Verdict.{most_bytes, verdict}
use Rattle.cht_run.specs.Verdict.{meaning, refusal}

-- whether the words are the one command that there is
abbrev pub are_plain : List (List ℕ) → Bool
are_plain (word ∷ []) = bytes_eq word (codes "plain")
are_plain words = false

-- the whole input was read, or as far as one byte past the most that a script may have
abbrev pub WasRead : List ℕ → Option (List ℕ) → Type 0
WasRead input left = left ≡ Some (drop (most_bytes + 1) input)

-- at most that many bytes were read
abbrev pub ReadUpTo : ℕ → List ℕ → Option (List ℕ) → Type 0
ReadUpTo most input left = (n : ℕ) × (n ≤ most) × (left ≡ Some (drop n input))

-- the input was read to its end and has no fault, and what was written is so
abbrev pub IsRun : List ℕ → Option (List ℕ) → Type 0 → Type 0
IsRun input left written = (left ≡ Some []) × (verdict input ≡ None) × written

-- a front of what the input means was written, where it was read to its end and has no fault
abbrev pub WritesFront : List ℕ → Option (List ℕ) → Option (List ℕ) → Option (List ℕ) → Type 0
WritesFront input left before after = IsRun input left (AddsFront before (meaning input) after)

-- the input has a fault, and nothing was written; or it was refused at its run, and what the statements before mean was written
abbrev pub IsRefused : Fault → List ℕ → Option (List ℕ) → Option (List ℕ) → Option (List ℕ) → Type 0
IsRefused fault input left before after =
    (WasRead input left × (verdict input ≡ Some fault) × (after ≡ before))
    ⊎ ((refusal input ≡ Some fault) × IsRun input left (Adds before (meaning input) after))

-- What a status says: of an input, what was left of it, and what the sink had taken before and after.
abbrev pub Answers : Status → List ℕ → Option (List ℕ) → Option (List ℕ) → Option (List ℕ) → Type 0
-- all was read, no statement is refused, and exactly what the input means was written
Answers Done input left before after = (refusal input ≡ None) × IsRun input left (Adds before (meaning input) after)
-- nothing was read or written
Answers Usage input left before after = (left ≡ Some input) × (after ≡ before)
Answers (Refused fault) input left before after = IsRefused fault input left before after
-- nothing was written
Answers ReadFault input left before after = ReadUpTo most_bytes input left × (after ≡ before)
Answers WriteFault input left before after = WritesFront input left before after
Answers Memory input left before after =
    (ReadUpTo (most_bytes + 1) input left × (after ≡ before)) ⊎ WritesFront input left before after

-- the answers after which nothing was run and nothing written, whatever the devices tell: with code 19 statements before may have been
abbrev pub IsSilent : Status → Type 0
IsSilent Usage = Unit {0}
IsSilent (Refused fault) = fault.code ≢ 19
IsSilent ReadFault = Unit {0}
IsSilent status = ⊥

-- the answer where one of these two faults comes, the first before the second, and else none
abbrev pub status_by : Option Fault → Option Fault → Status
status_by (Some fault) later = Refused fault
status_by None (Some fault) = Refused fault
status_by None None = Done

-- the answer for an input where neither memory nor a device fails
abbrev pub status_for : List ℕ → Status
status_for input = status_by (verdict input) (refusal input)
