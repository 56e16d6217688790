-- A script that was parsed, judged.
use Rattle.std.proofs.Common.{◌≡◌, ℕ, List, [], length, map, None, Some, sym, ap, ◌∙◌, subst, arith}
use Rattle.std.specs.Prelude.{Ok, Err}
use Rattle.mm_text.specs.Faults.{or_else}
use Rattle.cht_script.specs.declared.checked.Checked.{Checked}
use Rattle.cht_script.specs.declared.checked.ScriptRefused.{ScriptRefused}
use Rattle.cht_script.specs.declared.checked.ScriptRefused.TheVariants as refusals
use Rattle.cht_script.specs.declared.checked.Shapes.{Shapes}
use Rattle.cht_script.specs.declared.script.Fault.{Fault}
use Rattle.cht_script.specs.declared.script.Script.{Script}
use Rattle.cht_script.specs.declared.script.Statement.{Statement}
use Rattle.cht_script.specs.Verdict.{verdict}
use Rattle.cht_script.specs.Reading.{IsLeastHeight}
use Rattle.cht_script.specs.Parsing.{IsParsed, IsParsedOfSome, grid_read, leaf_read}
use Rattle.cht_script.specs.Checking.{names_fault, fault_of, deed_in, IsChecked, IsJudged, IsFaultOf}
use Rattle.cht_script.specs.Judging.{HaveTheirNames, AreShapedAs, with_begun, JudgesAll, steps_of}
use Rattle.cht_script.proofs.Split.{parsed_fault, whole_text, parsed_stop}
use Rattle.cht_script.proofs.Judged.{steps_deeds, steps_few, steps_known, their_names}

pub parsed_names : (script : Script) (said : List Statement) → IsParsedOfSome script → said ≡ script.statements → HaveTheirNames said
parsed_names script said (text, parsed) same = rw same (their_names script.grid script.statements parsed.formed)

-- the fault of the names is that of the script
refused_script : (script : Script) (said : List Statement) (refused : ScriptRefused) → said ≡ script.statements → JudgesAll said script.begun (Err refused) → IsFaultOf script (Err refused)
refused_script script said (refusals.Fault fault) same h =
    ap (λ o. or_else o script.stop) (ap (λ said. names_fault [] [] (with_begun said script.begun)) (sym same) ∙ h)
refused_script script said refusals.Memory same h = tt

-- and so of the text
refused_text : (script : Script) (refused : ScriptRefused) → IsFaultOf script (Err refused) → (text : List ℕ) → IsParsed text script → IsJudged text (Err refused)
refused_text script (refusals.Fault fault) h text parsed = sym (parsed_fault text script parsed) ∙ h
refused_text script refusals.Memory h text parsed = tt

pub names_refused : (script : Script) (said : List Statement) (refused : ScriptRefused) → said ≡ script.statements → JudgesAll said script.begun (Err refused)
    → (text : List ℕ) → IsParsed text script → IsJudged text (Err refused)
names_refused script said refused same h = refused_text script refused (refused_script script said refused same h)

-- what is known where the names have no fault
names_clean : (script : Script) (said : List Statement) (shapes : List Shapes) → said ≡ script.statements → JudgesAll said script.begun (Ok shapes) → fault_of script ≡ script.stop
names_clean script said shapes same h = ap (λ o. or_else o script.stop) (ap (λ said. names_fault [] [] (with_begun said script.begun)) (sym same) ∙ h.0)

pub stop_refused : (script : Script) (said : List Statement) (shapes : List Shapes) (fault : Fault) → said ≡ script.statements → JudgesAll said script.begun (Ok shapes) → script.stop ≡ Some fault
    → (text : List ℕ) → IsParsed text script → verdict text ≡ Some fault
stop_refused script said shapes fault same h stop text parsed = sym (parsed_fault text script parsed) ∙ (names_clean script said shapes same h ∙ stop)

pub all_checked : (script : Script) (said : List Statement) (shapes kept : List Shapes) (checked : Checked) → said ≡ script.statements → JudgesAll said script.begun (Ok shapes) → script.stop ≡ None
    → kept ≡ shapes → checked.grid ≡ script.grid → checked.leaf ≡ script.leaf → IsLeastHeight script.grid script.leaf checked.height → checked.steps ≡ steps_of script.statements kept
    → (text : List ℕ) → IsParsed text script → IsChecked text checked
all_checked script said shapes kept checked same h stop is grid leaf levels steps text parsed =
    let clean : fault_of script ≡ None = names_clean script said shapes same h ∙ stop in
    let whole = whole_text text (parsed_stop text script parsed clean) in
    let shaped : AreShapedAs [] [] script.statements shapes = subst (λ said. AreShapedAs [] [] said shapes) same h.1 in
    let joined : checked.steps ≡ steps_of script.statements shapes = steps ∙ ap (steps_of script.statements) is in
    record {
      clean = sym (parsed_fault text script parsed) ∙ clean;
      heading = whole.heading;
      found = whole.found;
      grid = grid ∙ (parsed.grid ∙ ap grid_read whole.front);
      leaf = leaf ∙ (parsed.leaf ∙ ap leaf_read whole.front);
      within = rw (grid, leaf) parsed.within;
      levels = rw (grid, leaf) levels;
      deeds = ap (map deed_in) joined ∙ (steps_deeds [] [] script.statements shapes shaped ∙ (parsed.deeds ∙ whole.deeds));
      steps = rw (grid, joined) (steps_known script.grid [] [] script.statements shapes parsed.formed shaped);
      few = omega (arith, ap length joined, steps_few script.statements shapes, parsed.few);
    }
