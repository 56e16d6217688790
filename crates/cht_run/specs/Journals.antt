-- What the journal of a run holds.
use Rattle.std.specs.Prelude.{◌≡◌, ℕ, List, [], filter, count_by, None, Ok}
use Rattle.cht_history.specs.declared.event.Event.{Event}
use Rattle.name_machine.specs.Parts.{is_callers_own}
use Rattle.name_machine.specs.Replay.{Plans}
use Rattle.cht_core.specs.Events.{plans_of}
use Rattle.cht_engine.specs.Closing.{is_finish}
use Rattle.quad_matrix.specs.declared.kind.MatKind.{MatKind}
use Rattle.quad_matrix.specs.Names.{what_name}
use Rattle.quad_matrix.specs.Matrices.{matrices}
use Rattle.cht_script.specs.Items.{Heading, heading_of}
use Rattle.cht_script.specs.Meaning.{Deed, deeds_of}
use Rattle.cht_script.specs.Verdict.{verdict}
use Rattle.cht_script.specs.Reading.{IsLeastHeight}
use Rattle.cht_session.specs.Program.{IsProgram, done_of}
use Rattle.cht_session.specs.Works.{works_by}
use Rattle.cht_run.specs.declared.status.Status.{Status}
use Rattle.cht_run.specs.declared.status.Status.TheVariants.{Done, Usage, Refused, ReadFault, WriteFault, Memory}

-- what a replay knows of the tasks on matrices: their plans, and that kinds are told apart by their names and heights
abbrev pub matrix_plans : Plans MatKind
matrix_plans = plans_of matrices (λ kind. what_name kind.what) (λ kind. kind.height)

-- The events are those of these statements of a text, on trees whose leaves have the side that the text names, and with the fewest levels
-- above them with which they reach its grid. Those of the caller, whose number is 0, are the program of the statements, with the deletes of
-- the names that are left at its end; and as many tasks were finished as the work of the statements says.
pub record IsJournalOf (text : List ℕ) (deeds : List Deed) (events : List (Event MatKind)) : Type 0 where
  pub heading : Heading
  pub found : heading_of text ≡ Ok heading
  pub height : ℕ
  pub levels : IsLeastHeight heading.grid heading.leaf height
  pub program : IsProgram 0 height [] deeds (filter (is_callers_own 0) events)
  pub finished : count_by is_finish events ≡ works_by heading.leaf height [] deeds

-- What a status says of a text, and of the events of its run.
abbrev pub Journals : Status → List ℕ → List (Event MatKind) → Type 0
-- all statements were done
Journals Done text events = IsJournalOf text (deeds_of text) events
-- where the text has no fault before its run, the statements before the one that is refused were done
Journals (Refused fault) text events = verdict text ≡ None → IsJournalOf text (done_of [] (deeds_of text)) events
-- nothing is said but that the events can be replayed, to the empty state
Journals WriteFault text events = Unit {0}
Journals Memory text events = Unit {0}
-- nothing was run
Journals Usage text events = events ≡ []
Journals ReadFault text events = events ≡ []
