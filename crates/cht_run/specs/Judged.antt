-- What each answer says of a text that was read, and of what was written.
use Rattle.std.specs.Prelude.{◌≡◌, ◌⊎◌, ℕ, List, Option, None, Some}
use Rattle.cht_io.specs.Bytes.{Adds, AddsFront}
use Rattle.cht_run.specs.declared.status.Status.{Status}
use Rattle.cht_run.specs.declared.status.Status.TheVariants.{Done, Usage, Refused, ReadFault, WriteFault, Memory}
use Rattle.cht_script.specs.Verdict.{verdict}
use Rattle.cht_run.specs.Verdict.{meaning, refusal}

-- a front of what the text means was written, and it has no fault
abbrev pub WritesFrontOf : List ℕ → Option (List ℕ) → Option (List ℕ) → Type 0
WritesFrontOf text before after = (verdict text ≡ None) × AddsFront before (meaning text) after

-- what a status says of a text, and of what the sink had taken before and after
abbrev pub Judges : Status → List ℕ → Option (List ℕ) → Option (List ℕ) → Type 0
Judges Done text before after = (verdict text ≡ None) × (refusal text ≡ None) × Adds before (meaning text) after
Judges (Refused fault) text before after =
    ((verdict text ≡ Some fault) × (after ≡ before))
    ⊎ ((verdict text ≡ None) × (refusal text ≡ Some fault) × Adds before (meaning text) after)
Judges WriteFault text before after = WritesFrontOf text before after
Judges Memory text before after = (after ≡ before) ⊎ WritesFrontOf text before after
Judges Usage text before after = ⊥
Judges ReadFault text before after = ⊥
