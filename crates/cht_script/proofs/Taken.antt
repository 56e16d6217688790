-- What a line adds to a reader, and where a reader stops.
use Rattle.std.proofs.Common.{◌≡◌, ℕ, suc, Bool, true, false, not, cond, eqb, List, [], ◌∷◌, ◌++◌, length, Option, None, Some, refl, sym, ap, ◌∙◌, inl, inr, arith}
use Rattle.std.specs.Prelude.{codes, option_map, option_and_then}
use Rattle.std.specs.List.{list_all}
use Rattle.std.specs.Str.{bytes_eq}
use Rattle.std.proofs.lemmas.Bool.{cases_Bool, cond-true, cond-false, eqb-true}
use Rattle.mm_text.specs.Lines.{lines_of, words_of, is_text}
use Rattle.mm_text.specs.Faults.{first_code}
use Rattle.cht_script.specs.declared.reader.Reader.{Reader}
use Rattle.cht_script.specs.declared.reader.Stop.{Stop}
use Rattle.cht_script.specs.declared.script.Names.{Names}
use Rattle.cht_script.specs.declared.script.Statement.TheVariants as statements
use Rattle.cht_script.specs.declared.script.Verb.{Verb}
use Rattle.cht_script.specs.Words.{is_name}
use Rattle.cht_script.specs.Statements.{Market, Act, said_in, act_with, names_after, verb_named}
use Rattle.cht_script.specs.Items.{Line, fault_at, name_listed, item_of, items_in, lines_taken}
use Rattle.cht_script.specs.Meaning.{Acts, deeds_in, deeds_said}
use Rattle.cht_script.specs.Parsing.{line_rules, line_fault, begun_in}
use Rattle.cht_script.specs.Steps.{AreNamesOf, code_for}
use Rattle.cht_script.specs.Progress.{IsTaken, IsStopped}

-- ---- How many names a statement has

with_names : (names others : List (List ℕ)) (v verb : Verb) → act_with others v ≡ Some (Act verb names) → length names ≡ names_after verb
with_names names others v verb h =
    elim (cases_Bool (eqb (length others) (names_after v))) [
      | inl really ↦
          let e : Some (Act v others) ≡ Some (Act verb names) = sym (cond-true _ _ _ really) ∙ h in
          let same_verb : v ≡ verb = cc in
          let same_names : others ≡ names = cc in
          ap length (sym same_names) ∙ (eqb-true (length others) (names_after v) really ∙ ap names_after same_verb)
      | inr never ↦ absurd (let e : None ≡ Some (Act verb names) = sym (cond-false _ _ _ never) ∙ h in cc)
    ]

named_names : (names others : List (List ℕ)) (verb : Verb) (o : Option Verb) → option_and_then (act_with others) o ≡ Some (Act verb names) → length names ≡ names_after verb
named_names names others verb None h = absurd (let e : None ≡ Some (Act verb names) = h in cc)
named_names names others verb (Some v) h = with_names names others v verb h

market_only : (names others : List (List ℕ)) (verb : Verb) → cond (eqb (length others) 1) (Some (Market others)) None ≡ Some (Act verb names) → ⊥
market_only names others verb h =
    elim (cases_Bool (eqb (length others) 1)) [
      | inl really ↦ let e : Some (Market others) ≡ Some (Act verb names) = sym (cond-true _ _ _ really) ∙ h in cc
      | inr never ↦ let e : None ≡ Some (Act verb names) = sym (cond-false _ _ _ never) ∙ h in cc
    ]

pub names_said : (words : List (List ℕ)) (verb : Verb) (names : List (List ℕ)) → said_in words ≡ Some (Act verb names) → length names ≡ names_after verb
names_said [] verb names h = absurd (let e : None ≡ Some (Act verb names) = h in cc)
names_said (first ∷ others) verb names h =
    elim (cases_Bool (bytes_eq first (codes "market"))) [
      | inl really ↦ absurd (market_only names others verb (sym (cond-true _ _ _ really) ∙ h))
      | inr never ↦ named_names names others verb (verb_named first) (sym (cond-false _ _ _ never) ∙ h)
    ]

-- ---- A line that begins no block

line_item : (grid n : ℕ) (line : List ℕ) (lines : List (List ℕ)) → name_listed (said_in (words_of line)) ≡ None → item_of grid n line lines ≡ Line n line
line_item grid n line lines none = rw none refl

broken : (t : Bool) (code : ℕ) → first_code ((2, not t) ∷ (code, true) ∷ []) ≡ Some (cond t code 2)
broken true code = refl
broken false code = refl

-- a reader stops at a line that breaks a rule
line_stops : (line : List ℕ) (old : Reader) (code : ℕ) (stop : Stop) → name_listed (said_in (words_of line)) ≡ None
    → first_code ((2, not (is_text line)) ∷ line_rules (said_in (words_of line))) ≡ Some code
    → stop ≡ record { begun = None; fault = record { line = old.lines; code = code } } → IsStopped line old old stop
line_stops line old code stop none fault is =
    let item = line_item old.grid old.lines line (lines_of old.rest.now) none in
    rw is
    (record {
      here = record {
        fault = ap line_fault item ∙ ap (option_map (fault_at old.lines)) fault;
        begun = ap begun_in item;
      };
      statements = refl;
      grid = refl;
    })

-- a line that says nothing
pub nothing_stops : (line : List ℕ) (old : Reader) (stop : Stop) → said_in (words_of line) ≡ None
    → stop ≡ record { begun = None; fault = record { line = old.lines; code = code_for line 4 } } → IsStopped line old old stop
nothing_stops line old stop said is =
    line_stops line old (code_for line 4) stop (ap name_listed said)
    (ap (λ said. first_code ((2, not (is_text line)) ∷ line_rules said)) said ∙ broken (is_text line) 4) is

-- a line with a word that is no name
pub market_stops : (line word : List ℕ) (old : Reader) (stop : Stop) → said_in (words_of line) ≡ Some (Market (word ∷ [])) → is_name word ≡ false
    → stop ≡ record { begun = None; fault = record { line = old.lines; code = code_for line 6 } } → IsStopped line old old stop
market_stops line word old stop said other is =
    line_stops line old (code_for line 6) stop (ap name_listed said ∙ rw other refl)
    (ap (λ said. first_code ((2, not (is_text line)) ∷ line_rules said)) said ∙ rw other (broken (is_text line) 6)) is

pub names_stop : (line : List ℕ) (old : Reader) (verb : Verb) (names : List (List ℕ)) (stop : Stop) → said_in (words_of line) ≡ Some (Act verb names) → list_all is_name names ≡ false
    → stop ≡ record { begun = None; fault = record { line = old.lines; code = code_for line 6 } } → IsStopped line old old stop
names_stop line old verb names stop said other is =
    line_stops line old (code_for line 6) stop (ap name_listed said)
    (ap (λ said. first_code ((2, not (is_text line)) ∷ line_rules said)) said ∙ rw other (broken (is_text line) 6)) is

-- a line with other bytes than text
pub bytes_stop : (line : List ℕ) (old : Reader) (verb : Verb) (names : List (List ℕ)) (stop : Stop) → said_in (words_of line) ≡ Some (Act verb names) → is_text line ≡ false
    → stop ≡ record { begun = None; fault = record { line = old.lines; code = code_for line 2 } } → IsStopped line old old stop
bytes_stop line old verb names stop said other is =
    line_stops line old (code_for line 2) stop (ap name_listed said) (rw other refl) is

-- ---- A statement with a verb

pub act_taken : (line : List ℕ) (old new : Reader) (verb : Verb) (words : List (List ℕ)) (names : Names) → said_in (words_of line) ≡ Some (Act verb words)
    → is_text line ≡ true → AreNamesOf words names
    → new ≡ record old { statements = old.statements ++ statements.Act old.lines verb names ∷ [] } → IsTaken line old new
act_taken line old new verb words names said text named is =
    let item = line_item old.grid old.lines line (lines_of old.rest.now) (ap name_listed said) in
    rw is
    (record {
      clean = ap line_fault item
          ∙ (ap (λ said. option_map (fault_at old.lines) (first_code ((2, not (is_text line)) ∷ line_rules said))) said ∙ rw (text, named.spelled) refl);
      behind = ap (λ x. items_in old.grid (suc old.lines) (lines_taken (length (lines_of old.rest.now)) x) (lines_of old.rest.now)) item;
      statement = statements.Act old.lines verb names;
      deed = ap deeds_in item ∙ (ap (deeds_said old.lines) said ∙ ap (λ names. Acts old.lines verb names ∷ []) (sym named.bytes));
      formed = (named.count ∙ names_said (words_of line) verb words said, named.repeated);
      statements = refl;
      grid = refl;
      room = omega arith;
      later = omega arith;
      shorter = omega arith;
    })
