-- The line about a run that ends otherwise than done.
use Rattle.std.specs.Prelude.{◌⊎◌, ℕ, ◌==◌, if◌then◌else◌, List, [], ◌∷◌, ◌++◌, codes, Option, pos}
use Rattle.cht_ids.specs.Numeral.{number_text}
use Rattle.cht_io.specs.Bytes.{Adds, AddsFront}
use Rattle.cht_io.specs.Faults.{Rose}
use Rattle.cht_script.specs.declared.script.Fault.{Fault}
use Rattle.cht_run.specs.declared.status.Status.{Status}
use Rattle.cht_run.specs.declared.status.Status.TheVariants.{Done, Usage, Refused, ReadFault, WriteFault, Memory}

-- the name of a fault's code
abbrev pub fault_name : ℕ → List ℕ
fault_name code =
    if code == 1 then codes "TooLong"
    else if code == 2 then codes "NotText"
    else if code == 3 then codes "Grid"
    else if code == 4 then codes "Statement"
    else if code == 5 then codes "Number"
    else if code == 6 then codes "Name"
    else if code == 7 then codes "Banner"
    else if code == 8 then codes "Sizes"
    else if code == 9 then codes "Entry"
    else if code == 10 then codes "Range"
    else if code == 11 then codes "Repeated"
    else if code == 12 then codes "Upper"
    else if code == 13 then codes "CutShort"
    else if code == 14 then codes "Unknown"
    else if code == 15 then codes "Deleted"
    else if code == 16 then codes "Taken"
    else if code == 17 then codes "Shape"
    else if code == 18 then codes "Form"
    else codes "Magnitude"

-- where a fault is, and which
abbrev pub place_note : Fault → List ℕ
place_note fault = codes "cht: line " ++ number_text (pos fault.line) ++ codes ": fault " ++ number_text (pos fault.code)

-- the line of a status, ended by a line feed (10); none where the run is done
abbrev pub note_of : Status → List ℕ
note_of Done = []
note_of Usage = codes "usage: cht plain" ++ 10 ∷ []
note_of (Refused fault) = place_note fault ++ codes " " ++ fault_name fault.code ++ 10 ∷ []
note_of ReadFault = codes "cht: read fault" ++ 10 ∷ []
note_of WriteFault = codes "cht: write fault" ++ 10 ∷ []
note_of Memory = codes "cht: out of memory" ++ 10 ∷ []

-- the notes took the line of the status, or a front of it where their count of faults rose
abbrev pub Notes : Status → Option (List ℕ) → Option (List ℕ) → ℕ → ℕ → Type 0
Notes status before after faults faults_after =
    Adds before (note_of status) after ⊎ (AddsFront before (note_of status) after × Rose faults faults_after)
