-- From statement to statement, up to the first whose names break a rule.
use Rattle.std.proofs.Common.{◌≡◌, ℕ, ◌≤◌, List, [], ◌∷◌, ◌++◌, length, map, Option, None, Some, refl, sym, ap, ◌∙◌, append_assoc, subst, arith}
use Rattle.std.specs.Prelude.{Result, Ok, Err, OnOk, option_map, is_some, Bool, false, true}
use Rattle.std.proofs.lemmas.List.{append-nil}
use Rattle.cht_ids.specs.declared.memory.Memory.{Memory}
use Rattle.mm_text.specs.Faults.{or_else, first_code}
use Rattle.cht_script.specs.declared.checked.ScriptRefused.TheVariants as refusals
use Rattle.cht_script.specs.declared.checked.ScriptRefused.{ScriptRefused}
use Rattle.cht_script.specs.declared.checked.Shapes.{Shapes}
use Rattle.cht_script.specs.declared.checked.Step.{Step}
use Rattle.cht_script.specs.declared.names.Kept.{Kept}
use Rattle.cht_script.specs.declared.names.KnownNames.{KnownNames}
use Rattle.cht_script.specs.declared.script.Begun.{Begun}
use Rattle.cht_script.specs.declared.script.Statement.{Statement}
use Rattle.cht_script.specs.declared.script.Statement.TheVariants as statements
use Rattle.cht_script.specs.Items.{fault_at}
use Rattle.cht_script.specs.Verdict.{NamedShape, is_known, name_rules}
use Rattle.cht_script.specs.Meaning.{Deed, line_of}
use Rattle.cht_script.specs.Reading.{name_bytes, deed_of, IsFormed, AreFormed}
use Rattle.cht_script.specs.Parsing.{begun_told}
use Rattle.cht_script.specs.Checking.{said_by, known_behind, deleted_behind, name_fault, names_fault, deeds_begun, AreSteps, deed_in}
use Rattle.cht_script.specs.Judging.{look, Keeps, Goes, HasItsNames, HaveTheirNames, AreShapedAs, AreJudgedTo, with_begun, JudgesAll, step_of, steps_of}
use Rattle.cht_script.proofs.Known.{none_kept_yet}
use Rattle.cht_script.proofs.NameRules.{said_sound, found_any}

-- what holds after an Ok, where it follows from what does
pub on_ok : {A B : Type 0} (r : Result (Unit {0}) Memory) → OnOk r A → (A → B) → OnOk r B
on_ok (Ok x) h next = next h
on_ok (Err memory) h next = tt

-- ---- One more statement

pub judged_start : (all : List Statement) (names : KnownNames) → ((name : List ℕ) → look name names ≡ None) → HaveTheirNames all → AreJudgedTo all [] names all
judged_start all names none counted = record {
  known = [];
  deleted = [];
  keeps = none_kept_yet names none;
  shaped = λ more h. h;
  same = λ last. refl;
  counted = counted;
}

clean_fault : (known : List NamedShape) (deleted : List (List ℕ)) (deed : Deed) → first_code (name_rules known deleted (said_by deed)) ≡ None → name_fault known deleted deed ≡ None
clean_fault known deleted deed h = ap (option_map (fault_at (line_of deed))) h

pub judged_next : (all left : List Statement) (one : Statement) (shapes : List Shapes) (new_shapes : Shapes) (old new : KnownNames) (judged : AreJudgedTo all shapes old (one ∷ left))
    → Goes judged.known judged.deleted (deed_of one) new (Ok new_shapes) → AreJudgedTo all (shapes ++ new_shapes ∷ []) new left
judged_next all left one shapes new_shapes old new judged goes = record {
  known = known_behind judged.known (deed_of one);
  deleted = deleted_behind judged.deleted (deed_of one);
  keeps = goes.1;
  shaped = λ more h. rw (append_assoc shapes (new_shapes ∷ []) more) (judged.shaped (new_shapes ∷ more) (goes.0, h));
  same = λ last.
      judged.same last
      ∙ ap (λ o. or_else o (names_fault (known_behind judged.known (deed_of one)) (deleted_behind judged.deleted (deed_of one)) (map deed_of left ++ last)))
      (clean_fault judged.known judged.deleted (deed_of one) goes.0.clean);
  counted = judged.counted.1;
}

-- ---- Where judging stops

refused_case : (all left : List Statement) (one : Statement) (shapes : List Shapes) (old new : KnownNames) (begun : Option Begun) (refused : ScriptRefused) (judged : AreJudgedTo all shapes old (one ∷ left))
    → Goes judged.known judged.deleted (deed_of one) new (Err refused) → JudgesAll all begun (Err refused)
refused_case all left one shapes old new begun (refusals.Fault fault) judged goes =
    judged.same (deeds_begun (option_map begun_told begun))
    ∙ ap (λ o. or_else o (names_fault (known_behind judged.known (deed_of one)) (deleted_behind judged.deleted (deed_of one)) (map deed_of left ++ deeds_begun (option_map begun_told begun)))) goes
refused_case all left one shapes old new begun refusals.Memory judged goes = tt

pub judged_refused : (all left : List Statement) (one : Statement) (shapes : List Shapes) (old new : KnownNames) (begun : Option Begun) (refused : ScriptRefused) (judged : AreJudgedTo all shapes old (one ∷ left))
    → Goes judged.known judged.deleted (deed_of one) new (Err refused) → JudgesAll all begun (Err refused)
judged_refused all left one shapes old new begun refused judged goes = refused_case all left one shapes old new begun refused judged goes

-- ---- The end

end_fault : (all : List Statement) (shapes : List Shapes) (names : KnownNames) (begun : Option Begun) (judged : AreJudgedTo all shapes names [])
    → names_fault [] [] (with_begun all begun) ≡ names_fault judged.known judged.deleted (deeds_begun (option_map begun_told begun))
end_fault all shapes names begun judged = judged.same (deeds_begun (option_map begun_told begun))

end_shaped : (all : List Statement) (shapes : List Shapes) (names : KnownNames) → AreJudgedTo all shapes names [] → AreShapedAs [] [] all shapes
end_shaped all shapes names judged = subst (AreShapedAs [] [] all) (append-nil shapes) (judged.shaped [] tt)

pub begun_taken : (all : List Statement) (shapes : List Shapes) (names : KnownNames) (begun : Begun) (judged : AreJudgedTo all shapes names []) → is_known judged.known (name_bytes begun.to) ≡ true
    → JudgesAll all (Some begun) (Err (refusals.Fault (record { line = begun.line; code = 16 })))
begun_taken all shapes names begun judged there = end_fault all shapes names (Some begun) judged ∙ rw there refl

pub begun_free : (all : List Statement) (shapes : List Shapes) (names : KnownNames) (begun : Begun) (judged : AreJudgedTo all shapes names []) → is_known judged.known (name_bytes begun.to) ≡ false
    → JudgesAll all (Some begun) (Ok shapes)
begun_free all shapes names begun judged fresh = (end_fault all shapes names (Some begun) judged ∙ rw fresh refl, end_shaped all shapes names judged)

pub none_begun : (all : List Statement) (shapes : List Shapes) (names : KnownNames) (judged : AreJudgedTo all shapes names []) → JudgesAll all None (Ok shapes)
none_begun all shapes names judged = (end_fault all shapes names None judged, end_shaped all shapes names judged)

-- all statements were judged where none is left
pub all_judged : (all : List Statement) (shapes : List Shapes) (names : KnownNames) (left : List Statement) → AreJudgedTo all shapes names left → length left ≡ 0 → AreJudgedTo all shapes names []
all_judged all shapes names [] judged none = judged
all_judged all shapes names (one ∷ left) judged none = absurd (omega arith)

-- what is said of the line `market NAME` behind them, by whether the name is kept
pub record IsBegunJudged (all : List Statement) (shapes : List Shapes) (begun : Begun) (taken : Bool) : Type 0 where
  pub refused : taken ≡ true → JudgesAll all (Some begun) (Err (refusals.Fault (record { line = begun.line; code = 16 })))
  pub free : taken ≡ false → JudgesAll all (Some begun) (Ok shapes)

pub begun_judged : (all : List Statement) (shapes : List Shapes) (names : KnownNames) (left : List Statement) (begun : Begun) (o : Option Kept) (taken : Bool) (word : List ℕ)
    → AreJudgedTo all shapes names left → length left ≡ 0 → taken ≡ is_some o → o ≡ look word names → word ≡ name_bytes begun.to → IsBegunJudged all shapes begun taken
begun_judged all shapes names left begun o taken word judged none some is same =
    let end = all_judged all shapes names left judged none in
    let any = found_any end.known end.deleted names o taken word (name_bytes begun.to) end.keeps some is same in
    record {
      refused = λ there. begun_taken all shapes names begun end (sym any ∙ there);
      free = λ fresh. begun_free all shapes names begun end (sym any ∙ fresh);
    }

-- one more statement of those that are left
pub judged_more : (all left behind : List Statement) (one : Statement) (shapes more : List Shapes) (new_shapes : Shapes) (old new : KnownNames) (judged : AreJudgedTo all shapes old left)
    → left ≡ one ∷ behind → ((known : List NamedShape) (deleted : List (List ℕ)) → Keeps known deleted old → Goes known deleted (deed_of one) new (Ok new_shapes))
    → more ≡ shapes ++ new_shapes ∷ [] → AreJudgedTo all more new behind
judged_more all left behind one shapes more new_shapes old new judged cut goes is =
    let here = subst (AreJudgedTo all shapes old) cut judged in
    rw is (judged_next all behind one shapes new_shapes old new here (goes here.known here.deleted here.keeps))

pub judged_stopped : (all left behind : List Statement) (one : Statement) (shapes : List Shapes) (old new : KnownNames) (begun : Option Begun) (refused : ScriptRefused) → AreJudgedTo all shapes old left
    → left ≡ one ∷ behind → ((known : List NamedShape) (deleted : List (List ℕ)) → Keeps known deleted old → Goes known deleted (deed_of one) new (Err refused))
    → JudgesAll all begun (Err refused)
judged_stopped all left behind one shapes old new begun refused judged cut goes =
    let here = subst (AreJudgedTo all shapes old) cut judged in
    judged_refused all behind one shapes old new begun refused here (goes here.known here.deleted here.keeps)

-- ---- Statements with their shapes

pub steps_deeds : (known : List NamedShape) (deleted : List (List ℕ)) (said : List Statement) (shapes : List Shapes) → AreShapedAs known deleted said shapes
    → map deed_in (steps_of said shapes) ≡ map deed_of said
steps_deeds known deleted [] [] h = refl
steps_deeds known deleted [] (shapes ∷ more) h = absurd h
steps_deeds known deleted (one ∷ others) [] h = absurd h
steps_deeds known deleted (one ∷ others) (shapes ∷ more) h =
    ap (λ xs. deed_of one ∷ xs) (steps_deeds (known_behind known (deed_of one)) (deleted_behind deleted (deed_of one)) others more h.1)

pub steps_few : (said : List Statement) (shapes : List Shapes) → length (steps_of said shapes) ≤ length said
steps_few said [] = omega arith
steps_few [] (shapes ∷ more) = omega arith
steps_few (one ∷ others) (shapes ∷ more) = omega (arith, steps_few others more)

pub steps_known : (grid : ℕ) (known : List NamedShape) (deleted : List (List ℕ)) (said : List Statement) (shapes : List Shapes) → AreFormed grid said → AreShapedAs known deleted said shapes
    → AreSteps grid known deleted (steps_of said shapes)
steps_known grid known deleted [] [] formed h = tt
steps_known grid known deleted [] (shapes ∷ more) formed h = absurd h
steps_known grid known deleted (one ∷ others) [] formed h = absurd h
steps_known grid known deleted (one ∷ others) (shapes ∷ more) formed h = (
  record {
    formed = formed.0;
    sound = said_sound known deleted (said_by (deed_of one)) h.0.clean;
    shapes = h.0.listed_as;
    repeated = h.0.repeated;
  },
  steps_known grid (known_behind known (deed_of one)) (deleted_behind deleted (deed_of one)) others more formed.1 h.1,
)

-- ---- Statements as they were parsed

own_names : (grid : ℕ) (one : Statement) → IsFormed grid one → HasItsNames one
own_names grid (statements.Market line to market) h = tt
own_names grid (statements.Act line verb names) h = h.0

pub their_names : (grid : ℕ) (said : List Statement) → AreFormed grid said → HaveTheirNames said
their_names grid [] h = tt
their_names grid (one ∷ others) h = (own_names grid one h.0, their_names grid others h.1)

-- ---- Putting them together

pub joined_next : (all : List Statement) (shapes : List Shapes) (steps : List Step) (one : Statement) (others : List Statement) (new_shapes : Shapes) (more : List Shapes)
    → steps_of all shapes ≡ steps ++ steps_of (one ∷ others) (new_shapes ∷ more) → steps_of all shapes ≡ (steps ++ step_of one new_shapes ∷ []) ++ steps_of others more
joined_next all shapes steps one others new_shapes more h = h ∙ sym (append_assoc steps (step_of one new_shapes ∷ []) (steps_of others more))

pub joined_end : (all : List Statement) (shapes : List Shapes) (steps : List Step) (left : List Statement) (more : List Shapes) → steps_of all shapes ≡ steps ++ steps_of left more
    → steps_of left more ≡ [] → steps_of all shapes ≡ steps
joined_end all shapes steps left more h end = h ∙ (ap (λ xs. steps ++ xs) end ∙ append-nil steps)
