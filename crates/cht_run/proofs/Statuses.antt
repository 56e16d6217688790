-- What the answers of the run's parts say of its input.
use Rattle.std.proofs.Common.{◌≡◌, ℕ, ◌+◌, ◌^◌, ◌≤◌, ◌<◌, Bool, cond, List, [], length, take, drop, Option, None, Some, refl, sym, ap, subst, ◌∙◌, inl, inr, arith}
use Rattle.std.specs.Prelude.{◌⊎◌, option_map, map, Err}
use Rattle.std.proofs.lemmas.Bool.{cases_lt, lt-leb}
use Rattle.std.proofs.lemmas.List.{take_all, length-take, length-drop, nil_from_length}
use Rattle.cht_io.specs.Bytes.{Adds, AddsFront}
use Rattle.cht_script.specs.declared.checked.Checked.{Checked}
use Rattle.cht_script.specs.declared.script.Fault.{Fault}
use Rattle.cht_script.specs.Items.{fault_at, heading_of}
use Rattle.cht_script.specs.Verdict.{most_bytes, fault_with, verdict}
use Rattle.cht_script.specs.Meaning.{told_by, told_of}
use Rattle.cht_script.specs.Reading.{IsLeastHeight}
use Rattle.cht_script.specs.Checking.{IsChecked, deed_in}
use Rattle.cht_session.specs.declared.ended.Ended.{Ended}
use Rattle.cht_session.specs.declared.ended.Ended.TheVariants as ended
use Rattle.cht_session.specs.Running.{Ran}
use Rattle.cht_run.specs.declared.reading.ReadStop.{ReadStop}
use Rattle.cht_run.specs.declared.reading.ReadStop.TheVariants as stops
use Rattle.cht_run.specs.declared.status.Status.{Status}
use Rattle.cht_run.specs.declared.status.Status.TheVariants.{Done, Usage, Refused, ReadFault, WriteFault, Memory}
use Rattle.cht_run.specs.Verdict.{meaning, refusal, too_great}
use Rattle.cht_run.specs.Answers.{Answers, WasRead, ReadUpTo, IsSilent, status_by, status_for}
use Rattle.cht_run.specs.Judged.{Judges}
use Rattle.cht_run.specs.Number.{status_of}
use Rattle.cht_run.specs.Reading.{Stopped}

-- ---- The text that was read, and the whole input

-- a text that is too long
long_verdict : (text : List ℕ) → 2 ^ 26 < length text → verdict text ≡ Some (record { line = 0; code = 1 })
long_verdict text long =
    ap (λ (b : Bool). cond b (fault_with (heading_of text)) (Some (fault_at 0 1))) (lt-leb (length text) (2 ^ 26) long)

short_input : (input : List ℕ) → length input ≤ 2 ^ 26 → take (2 ^ 26 + 1) input ≡ input
short_input input short = take_all (2 ^ 26 + 1) input (omega arith)

pub verdict_read : (input : List ℕ) → verdict (take (2 ^ 26 + 1) input) ≡ verdict input
verdict_read input =
    elim (cases_lt (2 ^ 26) (length input)) [
      | inr short ↦ ap verdict (short_input input short)
      | inl long ↦ long_verdict (take (2 ^ 26 + 1) input) (omega (arith, length-take (2 ^ 26 + 1) input)) ∙ sym (long_verdict input long)
    ]

-- an input without a fault is not too long
good_is_short : (input : List ℕ) → verdict input ≡ None → length input ≤ 2 ^ 26
good_is_short input good =
    elim (cases_lt (2 ^ 26) (length input)) [
      | inr short ↦ short
      | inl long ↦ absurd (let bad = sym good ∙ long_verdict input long in cc)
    ]

nothing_left : (input : List ℕ) → length input ≤ 2 ^ 26 → drop (2 ^ 26 + 1) input ≡ []
nothing_left input short = nil_from_length (drop (2 ^ 26 + 1) input) (omega (arith, length-drop (2 ^ 26 + 1) input))

-- what is known of an input whose text has no fault
pub record IsGood (input text : List ℕ) (left : Option (List ℕ)) : Type 0 where
  pub good : verdict input ≡ None
  pub all : left ≡ Some []
  pub same : text ≡ input

pub is_good : (input text : List ℕ) (left : Option (List ℕ)) → text ≡ take (2 ^ 26 + 1) input → WasRead input left → verdict text ≡ None → IsGood input text left
is_good input text left e read good =
    let g : verdict input ≡ None = sym (verdict_read input) ∙ ap verdict (sym e) ∙ good in
    let short = good_is_short input g in
    record { good = g; all = read ∙ ap (λ (l : List ℕ). Some l) (nothing_left input short); same = e ∙ short_input input short }

-- the text of an input without a fault has none, and is the input
pub good_text : (input text : List ℕ) → text ≡ take (2 ^ 26 + 1) input → verdict input ≡ None → (verdict text ≡ None) × (text ≡ input)
good_text input text e good =
    (ap verdict e ∙ verdict_read input ∙ good, e ∙ short_input input (good_is_short input good))

-- what a judgment of the text that was read says of the input
pub judged_input : (status : Status) (input text : List ℕ) (left before after : Option (List ℕ)) → (text ≡ take (2 ^ 26 + 1) input) × WasRead input left
    → Judges status text before after → Answers status input left before after
judged_input Done input text left before after read h =
    let g = is_good input text left read.0 read.1 h.0 in (
      subst (λ (t : List ℕ). refusal t ≡ None) g.same h.1,
      (g.all, g.good, subst (λ (t : List ℕ). Adds before (meaning t) after) g.same h.2),
    )
judged_input Usage input text left before after read h = absurd h
judged_input (Refused fault) input text left before after read h =
    elim h [
      | inl fixed ↦ inl (read.1, sym (verdict_read input) ∙ ap verdict (sym read.0) ∙ fixed.0, fixed.1)
      | inr at_run ↦
          let g = is_good input text left read.0 read.1 at_run.0 in
          inr (
            subst (λ (t : List ℕ). refusal t ≡ Some fault) g.same at_run.1,
            (g.all, g.good, subst (λ (t : List ℕ). Adds before (meaning t) after) g.same at_run.2),
          )
    ]
judged_input ReadFault input text left before after read h = absurd h
judged_input WriteFault input text left before after read h =
    let g = is_good input text left read.0 read.1 h.0 in
    (g.all, g.good, subst (λ (t : List ℕ). AddsFront before (meaning t) after) g.same h.1)
judged_input Memory input text left before after read h =
    elim h [
      | inl same ↦ inl ((2 ^ 26 + 1, omega arith, read.1), same)
      | inr front ↦
          let g = is_good input text left read.0 read.1 front.0 in
          inr (g.all, g.good, subst (λ (t : List ℕ). AddsFront before (meaning t) after) g.same front.1)
    ]

pub read_failed : (input : List ℕ) (left : Option (List ℕ)) (stop : ReadStop) → stop ≡ stops.Failed → Stopped input (Err stop) left → ReadUpTo most_bytes input left
read_failed input left stops.Failed is h = h
read_failed input left stops.Memory is h = absurd cc

pub read_memory : (input : List ℕ) (left : Option (List ℕ)) (stop : ReadStop) → stop ≡ stops.Memory → Stopped input (Err stop) left → ReadUpTo (most_bytes + 1) input left
read_memory input left stops.Failed is h = absurd cc
read_memory input left stops.Memory is h = h

-- ---- The run of a script

-- leaves reach the grid with at most 16 levels above them
pub few_levels : (grid b h : ℕ) → 1 ≤ b → grid ≤ 4096 → IsLeastHeight grid b h → h ≤ 16
few_levels grid b h some few levels =
    elim (cases_lt 16 h) [
      | inl high ↦ absurd (let under = levels.least 16 high in omega (arith, under))
      | inr low ↦ low
    ]

too_great_is : (fault : Fault) → fault.code ≡ 19 → too_great fault.line ≡ fault
too_great_is fault e = rw (← e) refl

judged_told : (end : Ended) (text : List ℕ) (before after : Option (List ℕ)) → verdict text ≡ None
    → Ran end (told_of text) before after → Judges (status_of end) text before after
judged_told ended.Done text before after good ran = (good, ap (option_map too_great) ran.0, ran.1)
judged_told (ended.Refused fault) text before after good ran =
    inr (good, ap (option_map too_great) ran.1 ∙ ap (λ f. Some f) (too_great_is fault ran.0), ran.2)
judged_told ended.WriteFault text before after good ran = (good, ran)
judged_told ended.Memory text before after good ran = inr (good, ran)

pub judged_run : (end : Ended) (text : List ℕ) (checked : Checked) (before after : Option (List ℕ)) → IsChecked text checked
    → Ran end (told_by [] (map deed_in checked.steps)) before after → Judges (status_of end) text before after
judged_run end text checked before after is ran =
    judged_told end text before after is.clean
    (subst (λ deeds. Ran end (told_by [] deeds) before after) is.deeds ran)

-- a fault
pub judged_fault : (text : List ℕ) (fault : Fault) (before : Option (List ℕ)) → verdict text ≡ Some fault → Judges (Refused fault) text before before
judged_fault text fault before is = inl (is, refl)

-- ---- Where no device failed

pub complete_answer : (status : Status) (input : List ℕ) (left before after : Option (List ℕ)) {P Q : Type 0} → (status ≡ Usage → ⊥) → Answers status input left before after
    → (status ≡ ReadFault → P) → (status ≡ WriteFault → Q) → (P → ⊥) → (Q → ⊥) → (status ≡ status_for input) ⊎ (status ≡ Memory)
complete_answer Done input left before after usage h p q never_p never_q =
    inl (sym (ap (λ v. status_by v (refusal input)) h.1.1 ∙ ap (status_by None) h.0))
complete_answer Usage input left before after usage h p q never_p never_q = absurd (usage refl)
complete_answer (Refused fault) input left before after usage h p q never_p never_q =
    inl
    (sym (elim h [
      | inl fixed ↦ ap (λ v. status_by v (refusal input)) fixed.1
      | inr at_run ↦ ap (λ v. status_by v (refusal input)) at_run.1.1 ∙ ap (status_by None) at_run.0
    ]))
complete_answer ReadFault input left before after usage h p q never_p never_q = absurd (never_p (p refl))
complete_answer WriteFault input left before after usage h p q never_p never_q = absurd (never_q (q refl))
complete_answer Memory input left before after usage h p q never_p never_q = inr refl

abbrev code_in : Option Fault → ℕ
code_in None = 19
code_in (Some fault) = fault.code

refused_code_of : (refused : Option ℕ) (fault : Fault) → option_map too_great refused ≡ Some fault → fault.code ≡ 19
refused_code_of None fault e = absurd cc
refused_code_of (Some n) fault e = sym (ap code_in e)

-- a judgment with nothing but a fault of the whole text, or code 19, leaves no text behind
pub judged_silent : (status : Status) (text : List ℕ) (before after : Option (List ℕ)) → Judges status text before after → IsSilent status
    → after ≡ before
judged_silent Done text before after h silent = absurd silent
judged_silent Usage text before after h silent = absurd h
judged_silent (Refused fault) text before after h silent =
    elim h [
      | inl fixed ↦ fixed.1
      | inr at_run ↦ absurd (silent (refused_code_of (told_of text).refused fault at_run.1))
    ]
judged_silent ReadFault text before after h silent = absurd h
judged_silent WriteFault text before after h silent = absurd silent
judged_silent Memory text before after h silent = absurd silent
