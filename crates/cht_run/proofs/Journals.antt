-- What the journal of a run holds, from the parts of the run.
use Rattle.std.proofs.Common.{◌≡◌, ℕ, ◌+◌, ◌^◌, Bool, true, false, List, [], ◌∷◌, take, Option, None, Some, refl, sym, ap, subst, ◌∙◌, zero-add}
use Rattle.std.specs.Prelude.{if◌then◌else◌, map, filter}
use Rattle.std.specs.Ordering.{nat_cmp}
use Rattle.std.specs.FinMap as maps
use Rattle.std.specs.FinSet as numbers
use Rattle.name_machine.specs.Control.{no_control}
use Rattle.name_machine.specs.Parts.{is_callers_own}
use Rattle.cht_history.specs.declared.event.Event.{Event}
use Rattle.cht_engine.specs.Seen.{Seen, unseen}
use Rattle.cht_engine.specs.Closing.{EndsEmpty, AreClosed}
use Rattle.quad_matrix.specs.declared.chunk.MatChunk.{MatChunk}
use Rattle.quad_matrix.specs.declared.kind.MatKind.{MatKind}
use Rattle.cht_script.specs.declared.checked.Checked.{Checked}
use Rattle.cht_script.specs.Meaning.{Known, Deed, is_refused, known_by, text_by, line_of, Told, after_text, told_by, deeds_of}
use Rattle.cht_script.specs.Reading.{IsLeastHeight}
use Rattle.cht_script.specs.Checking.{IsChecked, deed_in}
use Rattle.cht_session.specs.declared.ended.Ended.{Ended}
use Rattle.cht_session.specs.declared.ended.Ended.TheVariants as ended
use Rattle.cht_session.specs.Program.{IsProgram, done_of}
use Rattle.cht_session.specs.Works.{works_by}
use Rattle.cht_session.specs.Running.{Ran, IsRun, HasRun}
use Rattle.cht_run.specs.declared.status.Status.{Status}
use Rattle.cht_run.specs.declared.status.Status.TheVariants.{Done, Usage, Refused, ReadFault, WriteFault, Memory}
use Rattle.cht_run.specs.Answers.{WasRead}
use Rattle.cht_run.specs.Judged.{Judges}
use Rattle.cht_run.specs.Number.{status_of}
use Rattle.cht_run.specs.Journals.{matrix_plans, IsJournalOf, Journals}
use Rattle.cht_run.proofs.Statuses.{is_good, good_text}

-- ---- No events

-- a journal without events leads to the empty state
pub none_ends_empty : (events : List (Event MatKind)) → events ≡ [] → EndsEmpty matrix_plans events
none_ends_empty events none =
    subst (λ (es : List (Event MatKind)). EndsEmpty matrix_plans es) (sym none)
    (no_control, refl, (maps.len-empty nat_cmp _, maps.len-empty nat_cmp _, maps.len-empty nat_cmp _, maps.len-empty nat_cmp _, λ caller. numbers.contains-empty nat_cmp caller))

-- ---- A run

-- where nothing is refused, all statements are done
pub all_done : (known : List Known) (deeds : List Deed) → (told_by known deeds).refused ≡ None → done_of known deeds ≡ deeds
all_done known [] none = refl
all_done known (deed ∷ deeds) none =
    elim (is_refused known deed) as (λ (b : Bool).
    (if b then (let told : Told = record { text = []; refused = Some (line_of deed) } in told) else after_text (text_by known deed) (told_by (known_by known deed) deeds)).refused ≡ None
    → (if b then [] else deed ∷ done_of (known_by known deed) deeds) ≡ deed ∷ deeds) [
      | true ↦ λ e. absurd cc
      | false ↦ λ e. ap (λ ds. deed ∷ ds) (all_done (known_by known deed) deeds e)
    ] none

-- the journal of a run, for the statements that were done
run_journal : (text : List ℕ) (checked : Checked) (deeds : List Deed) (seen : Seen MatChunk MatKind) (events : List (Event MatKind))
    → IsChecked text checked → done_of [] (map deed_in checked.steps) ≡ deeds
    → IsRun checked.leaf checked.height (map deed_in checked.steps) (unseen 0) seen → seen.caller ≡ 0 → AreClosed matrix_plans seen events
    → IsJournalOf text deeds events
run_journal text checked deeds seen events is done run caller closed =
    let own : filter (is_callers_own 0) events ≡ run.events =
    ap (λ c. filter (is_callers_own c) events) (sym caller) ∙ closed.own ∙ run.told in
    record {
      heading = is.heading;
      found = is.found;
      height = checked.height;
      levels = subst (λ (grid : ℕ). IsLeastHeight grid is.heading.leaf checked.height) is.grid (subst (λ (leaf : ℕ). IsLeastHeight checked.grid leaf checked.height) is.leaf is.levels);
      program =
          subst (λ (es : List (Event MatKind)). IsProgram 0 checked.height [] deeds es) (sym own)
          (subst (λ (ds : List Deed). IsProgram 0 checked.height [] ds run.events) done run.program);
      finished =
          closed.finished ∙ run.account
          ∙ zero-add (works_by checked.leaf checked.height [] (done_of [] (map deed_in checked.steps)))
          ∙ ap (λ ds. works_by checked.leaf checked.height [] ds) done
          ∙ ap (λ leaf. works_by leaf checked.height [] deeds) is.leaf;
    }

pub run_journaled : (end : Ended) (text : List ℕ) (checked : Checked) (before after : Option (List ℕ)) (seen : Seen MatChunk MatKind) (events : List (Event MatKind))
    → IsChecked text checked → Ran end (told_by [] (map deed_in checked.steps)) before after
    → HasRun end checked.leaf checked.height (map deed_in checked.steps) (unseen 0) seen → seen.caller ≡ 0 → AreClosed matrix_plans seen events
    → Journals (status_of end) text events
run_journaled ended.Done text checked before after seen events is ran run caller closed =
    run_journal text checked (deeds_of text) seen events is (all_done [] (map deed_in checked.steps) ran.0 ∙ is.deeds) run caller closed
run_journaled (ended.Refused fault) text checked before after seen events is ran run caller closed = λ good.
    run_journal text checked (done_of [] (deeds_of text)) seen events is (ap (done_of []) is.deeds) run caller closed
run_journaled ended.WriteFault text checked before after seen events is ran run caller closed = tt
run_journaled ended.Memory text checked before after seen events is ran run caller closed = tt

-- ---- The text that was read, and the whole input

-- what the journal says of the text that was read, it says of the input
pub journaled_input : (status : Status) (input text : List ℕ) (left before after : Option (List ℕ)) (events : List (Event MatKind))
    → (text ≡ take (2 ^ 26 + 1) input) × WasRead input left → Judges status text before after → Journals status text events
    → Journals status input events
journaled_input Done input text left before after events read judged h =
    let g = is_good input text left read.0 read.1 judged.0 in
    subst (λ (t : List ℕ). IsJournalOf t (deeds_of t) events) g.same h
journaled_input Usage input text left before after events read judged h = h
journaled_input (Refused fault) input text left before after events read judged h = λ good.
    let kept = good_text input text read.0 good in
    subst (λ (t : List ℕ). IsJournalOf t (done_of [] (deeds_of t)) events) kept.1 (h kept.0)
journaled_input ReadFault input text left before after events read judged h = h
journaled_input WriteFault input text left before after events read judged h = tt
journaled_input Memory input text left before after events read judged h = tt
