-- The verdict of a text, from the rules on lines and the rules on names apart.
use Rattle.std.proofs.Common.{◌≡◌, ℕ, ◌+◌, Bool, true, false, not, cond, List, [], ◌∷◌, ◌++◌, length, Option, None, Some, refl, sym, ap, ap₂, ◌∙◌, inl, inr, arith}
use Rattle.std.specs.Prelude.{◌==◌, is_none, codes, option_map, option_and_then, nat_le, Result, Ok, Err}
use Rattle.std.specs.List.{flat_map, list_all}
use Rattle.std.specs.Str.{bytes_eq}
use Rattle.std.proofs.lemmas.Bool.{cases_Bool, cond-true, cond-false, eqb-true}
use Rattle.std.proofs.lemmas.List.{append-nil}
use Rattle.std.proofs.lemmas.Grind.{flat_map-append}
use Rattle.dense_def.specs.Matrix.{zeros}
use Rattle.dense_def.proofs.Entries.{height-made}
use Rattle.mm_text.specs.declared.market.Form.TheVariants.{General}
use Rattle.mm_text.specs.Lines.{words_of, is_text}
use Rattle.mm_text.specs.Faults.{first_code, or_else, first_fault}
use Rattle.mm_text.specs.Block as listing
use Rattle.cht_script.specs.declared.script.Fault.{Fault}
use Rattle.cht_script.specs.declared.script.Script.{Script}
use Rattle.cht_script.specs.declared.script.Verb.{Verb}
use Rattle.cht_script.specs.Statements.{Said, Market, Act, said_in, names_said, names_after, act_with, verb_named}
use Rattle.cht_script.specs.Words.{is_name}
use Rattle.cht_script.specs.Items.{fault_at, fault_behind, Heading, heading_of, Item, Line, Block, items_behind}
use Rattle.cht_script.specs.Verdict.{NamedShape, bound_by, bound_by_line, bound_said, known_after, deleted_by, deleted_by_line, deleted_said, deleted_after, shape_of_block, name_rules_behind, rules_if_said, item_fault, fault_with, most_bytes, verdict}
use Rattle.cht_script.specs.Meaning.{Deed, Lists, Acts, deeds_said, deeds_in, deeds_of}
use Rattle.cht_script.specs.Parsing.{line_rules, line_fault, items_read, item_stopped, begun_in, front_of, stop_with, begun_with, deeds_with, IsParsed}
use Rattle.cht_script.specs.Checking.{said_by, shape_listed, bound_by_deed, known_behind, deleted_behind, name_fault, names_fault, deeds_begun, deeds_judged, fault_of}

-- ---- Behind one more item

known-append : (known : List NamedShape) (xs : List Item) (x : Item) → known_after known (xs ++ x ∷ []) ≡ known_after known xs ++ bound_by (known_after known xs) x
known-append known [] x = refl
known-append known (y ∷ xs) x = known-append (known ++ bound_by known y) xs x

deleted-append : (xs : List Item) (x : Item) → deleted_after (xs ++ x ∷ []) ≡ deleted_after xs ++ deleted_by x
deleted-append xs x = flat_map-append deleted_by xs (x ∷ []) ∙ ap (λ more. deleted_after xs ++ more) (append-nil (deleted_by x))

-- ---- What an item without a fault by the rules on lines says of names

-- the one statement of an item, and what it does to the names that were bound and deleted before it
record IsSaid (before : List Item) (item : Item) : Type 0 where
  deed : Deed
  deeds : deeds_in item ≡ deed ∷ []
  fault : item_fault before item ≡ name_fault (known_after [] before) (deleted_after before) deed
  known : bound_by (known_after [] before) item ≡ bound_by_deed (known_after [] before) deed
  deleted : deleted_by item ≡ deleted_said (said_by deed)

some_none : (fault : Fault) → Some fault ≡ None → ⊥
some_none fault e = cc

never_clean : (n : ℕ) (t : Bool) → option_map (fault_at n) (first_code ((2, not t) ∷ (4, true) ∷ [])) ≡ None → ⊥
never_clean n true h = some_none (fault_at n 4) h
never_clean n false h = some_none (fault_at n 2) h

two_clean : (n : ℕ) (t w : Bool) → option_map (fault_at n) (first_code ((2, not t) ∷ (6, not w) ∷ [])) ≡ None → (t ≡ true) × (w ≡ true)
two_clean n false w h = absurd (some_none (fault_at n 2) h)
two_clean n true false h = absurd (some_none (fault_at n 6) h)
two_clean n true true h = (refl, refl)

-- what the rules on a line are, where it says this
rules_said : (n : ℕ) (line : List ℕ) (said : Said) → said_in (words_of line) ≡ Some said
    → line_fault (Line n line) ≡ option_map (fault_at n) (first_code ((2, not (is_text line)) ∷ (6, not (list_all is_name (names_said said))) ∷ []))
rules_said n line said is = ap (λ said. option_map (fault_at n) (first_code ((2, not (is_text line)) ∷ line_rules said))) is

-- its fault is then one of names
fault_said : (before : List Item) (n : ℕ) (line : List ℕ) (said : Said) → said_in (words_of line) ≡ Some said → line_fault (Line n line) ≡ None
    → item_fault before (Line n line) ≡ option_map (fault_at n) (first_code (name_rules_behind before said))
fault_said before n line said is clean =
    let both = two_clean n (is_text line) (list_all is_name (names_said said)) (sym (rules_said n line said is) ∙ clean) in
    rw (is, both.0, both.1) refl

act_said : (before : List Item) (n : ℕ) (line : List ℕ) (verb : Verb) (names : List (List ℕ)) → said_in (words_of line) ≡ Some (Act verb names) → line_fault (Line n line) ≡ None
    → IsSaid before (Line n line)
act_said before n line verb names is clean = record {
  deed = Acts n verb names;
  deeds = ap (deeds_said n) is;
  fault = fault_said before n line (Act verb names) is clean;
  known = ap (bound_by_line (known_after [] before)) is;
  deleted = ap deleted_by_line is;
}

-- one name follows `market`
one_case : (names others : List (List ℕ)) → cond (length others == 1) (Some (Market others)) None ≡ Some (Market names) → length names ≡ 1
one_case names others h =
    elim (cases_Bool (length others == 1)) [
      | inl really ↦
          let e : Some (Market others) ≡ Some (Market names) = sym (cond-true _ _ _ really) ∙ h in
          let same : others ≡ names = cc in
          ap length (sym same) ∙ eqb-true (length others) 1 really
      | inr never ↦ absurd (let e : None ≡ Some (Market names) = sym (cond-false _ _ _ never) ∙ h in cc)
    ]

no_act : (names others : List (List ℕ)) (v : Verb) → act_with others v ≡ Some (Market names) → ⊥
no_act names others v h =
    elim (cases_Bool (length others == names_after v)) [
      | inl really ↦ let e : Some (Act v others) ≡ Some (Market names) = sym (cond-true _ _ _ really) ∙ h in cc
      | inr never ↦ let e : None ≡ Some (Market names) = sym (cond-false _ _ _ never) ∙ h in cc
    ]

no_verb : (names others : List (List ℕ)) (o : Option Verb) → option_and_then (act_with others) o ≡ Some (Market names) → ⊥
no_verb names others None h = let e : None ≡ Some (Market names) = h in cc
no_verb names others (Some v) h = no_act names others v h

market_one : (words names : List (List ℕ)) → said_in words ≡ Some (Market names) → length names ≡ 1
market_one [] names h = absurd (let e : None ≡ Some (Market names) = h in cc)
market_one (first ∷ others) names h =
    elim (cases_Bool (bytes_eq first (codes "market"))) [
      | inl really ↦ one_case names others (sym (cond-true _ _ _ really) ∙ h)
      | inr never ↦ absurd (no_verb names others (verb_named first) (sym (cond-false _ _ _ never) ∙ h))
    ]

market_said : (before : List Item) (n : ℕ) (line : List ℕ) (names : List (List ℕ)) → length names ≡ 1 → said_in (words_of line) ≡ Some (Market names) → line_fault (Line n line) ≡ None
    → IsSaid before (Line n line)
market_said before n line [] one is clean = absurd (omega arith)
market_said before n line (name ∷ []) one is clean = record {
  deed = Lists n name General (zeros 0 0);
  deeds = ap (deeds_said n) is;
  fault = fault_said before n line (Market (name ∷ [])) is clean;
  known = ap (bound_by_line (known_after [] before)) is;
  deleted = ap deleted_by_line is;
}
market_said before n line (name ∷ other ∷ names) one is clean = absurd (omega arith)

line_said : (before : List Item) (n : ℕ) (line : List ℕ) (said : Option Said) → said_in (words_of line) ≡ said → line_fault (Line n line) ≡ None → IsSaid before (Line n line)
line_said before n line None is clean =
    absurd (never_clean n (is_text line) (sym (ap (λ said. option_map (fault_at n) (first_code ((2, not (is_text line)) ∷ line_rules said))) is) ∙ clean))
line_said before n line (Some (Market names)) is clean = market_said before n line names (market_one (words_of line) names is) is clean
line_said before n line (Some (Act verb names)) is clean = act_said before n line verb names is clean

or_else-none : {F : Type 0} (o : Option F) → or_else o None ≡ o
or_else-none None = refl
or_else-none (Some x) = refl

block_shape : (n : ℕ) (name : List ℕ) (block : listing.Block) → shape_of_block block ≡ shape_listed (Lists n name block.form (listing.matrix_of block))
block_shape n name block =
    ap (λ rows. record { rows = rows; columns = block.sizes.columns; form = block.form })
    (sym (height-made block.sizes.rows block.sizes.columns (λ i j. listing.number_listed block.form block.entries (i + 1) (j + 1))))

item_said : (before : List Item) (item : Item) → line_fault item ≡ None → IsSaid before item
item_said before (Line n line) clean = line_said before n line (said_in (words_of line)) refl clean
item_said before (Block n name (Ok block)) clean = record {
  deed = Lists n name block.form (listing.matrix_of block);
  deeds = refl;
  fault = or_else-none (option_map (fault_at n) (first_code (name_rules_behind before (Market (name ∷ [])))));
  known = ap (λ shape. bound_said shape (known_after [] before) (Market (name ∷ []))) (block_shape n name block);
  deleted = refl;
}
item_said before (Block n name (Err fault)) clean = absurd (some_none (fault_behind n fault) clean)

-- ---- An item with a fault by the rules on lines

first_lines : (n : ℕ) (t w : Bool) (rules : List (ℕ × Bool)) (fault : Fault) → option_map (fault_at n) (first_code ((2, not t) ∷ (6, not w) ∷ [])) ≡ Some fault
    → option_map (fault_at n) (first_code ((2, not t) ∷ (6, not w) ∷ rules)) ≡ Some fault
first_lines n false w rules fault h = h
first_lines n true false rules fault h = h
first_lines n true true rules fault h = absurd (some_none fault (sym h))

line_broken : (before : List Item) (n : ℕ) (line : List ℕ) (said : Option Said) (fault : Fault) → said_in (words_of line) ≡ said → line_fault (Line n line) ≡ Some fault
    → item_fault before (Line n line) ≡ Some fault
line_broken before n line None fault is h =
    ap (λ said. option_map (fault_at n) (first_code ((2, not (is_text line)) ∷ rules_if_said before said))) is
    ∙ (sym (ap (λ said. option_map (fault_at n) (first_code ((2, not (is_text line)) ∷ line_rules said))) is) ∙ h)
line_broken before n line (Some said) fault is h =
    ap (λ said. option_map (fault_at n) (first_code ((2, not (is_text line)) ∷ rules_if_said before said))) is
    ∙ first_lines n (is_text line) (list_all is_name (names_said said)) (name_rules_behind before said) fault (sym (rules_said n line said is) ∙ h)

block_case : (o rest : Option Fault) (fault : Fault) → or_else (or_else o (Some fault)) rest ≡ or_else (or_else o None) (Some fault)
block_case None rest fault = refl
block_case (Some other) rest fault = refl

-- ---- All items

or_else-assoc : {F : Type 0} (a b c : Option F) → or_else a (or_else b c) ≡ or_else (or_else a b) c
or_else-assoc None b c = refl
or_else-assoc (Some x) b c = refl

-- the faults of items by both kinds of rules, from those by each alone
abbrev SplitOf : List Item → List Item → Option Fault
SplitOf before items =
    or_else
    (names_fault (known_after [] before) (deleted_after before) (flat_map deeds_in (items_read items) ++ deeds_begun (option_and_then begun_in (item_stopped items))))
    (option_and_then line_fault (item_stopped items))

clean_step : (before : List Item) (item : Item) (items : List Item) → IsSaid before item → line_fault item ≡ None
    → first_fault item_fault (before ++ item ∷ []) items ≡ SplitOf (before ++ item ∷ []) items
    → or_else (item_fault before item) (first_fault item_fault (before ++ item ∷ []) items) ≡ SplitOf before (item ∷ items)
clean_step before item items said clean behind =
    let more = flat_map deeds_in (items_read items) ++ deeds_begun (option_and_then begun_in (item_stopped items)) in
    let stop = option_and_then line_fault (item_stopped items) in
    let known : known_after [] (before ++ item ∷ []) ≡ known_behind (known_after [] before) said.deed =
    known-append [] before item ∙ ap (λ xs. known_after [] before ++ xs) said.known in
    let deleted : deleted_after (before ++ item ∷ []) ≡ deleted_behind (deleted_after before) said.deed =
    deleted-append before item ∙ ap (λ xs. deleted_after before ++ xs) said.deleted in
    ap₂ or_else said.fault (behind ∙ ap (λ o. or_else o stop) (ap₂ (λ k d. names_fault k d more) known deleted))
    ∙ (or_else-assoc (name_fault (known_after [] before) (deleted_after before) said.deed)
    (names_fault (known_behind (known_after [] before) said.deed) (deleted_behind (deleted_after before) said.deed) more) stop
    ∙ rw (clean, said.deeds) refl)

broken_step : (before : List Item) (item : Item) (items : List Item) (fault : Fault) (rest : Option Fault) → line_fault item ≡ Some fault
    → or_else (item_fault before item) rest ≡ SplitOf before (item ∷ items)
broken_step before (Line n line) items fault rest broken =
    ap (λ o. or_else o rest) (line_broken before n line (said_in (words_of line)) fault refl broken) ∙ sym (rw broken broken)
broken_step before (Block n name (Ok block)) items fault rest broken = absurd (some_none fault (sym broken))
broken_step before (Block n name (Err other)) items fault rest broken =
    block_case (option_map (fault_at n) (first_code (name_rules_behind before (Market (name ∷ []))))) rest (fault_behind n other)

item_step : (before : List Item) (item : Item) (items : List Item) (o : Option Fault) → line_fault item ≡ o
    → first_fault item_fault (before ++ item ∷ []) items ≡ SplitOf (before ++ item ∷ []) items
    → or_else (item_fault before item) (first_fault item_fault (before ++ item ∷ []) items) ≡ SplitOf before (item ∷ items)
item_step before item items None is behind = clean_step before item items (item_said before item is) is behind
item_step before item items (Some fault) is behind = broken_step before item items fault (first_fault item_fault (before ++ item ∷ []) items) is

-- The fault of items is that of their names, up to the first that breaks a rule on lines, and else that of this one.
pub items_split : (before items : List Item) → first_fault item_fault before items ≡ SplitOf before items
items_split before [] = refl
items_split before (item ∷ items) = item_step before item items (line_fault item) refl (items_split (before ++ item ∷ []) items)

-- ---- The text

front_split : (front : Result Heading Fault) → or_else (names_fault [] [] (deeds_with front ++ deeds_begun (begun_with front))) (stop_with front) ≡ fault_with front
front_split (Err fault) = refl
front_split (Ok heading) = sym (items_split [] (items_behind (Ok heading)))

verdict_front : (text : List ℕ) → fault_with (front_of text) ≡ verdict text
verdict_front text =
    elim (cases_Bool (nat_le (length text) most_bytes)) [
      | inl short ↦ ap fault_with (cond-true _ _ _ short) ∙ sym (cond-true _ _ _ short)
      | inr long ↦ ap fault_with (cond-false _ _ _ long) ∙ sym (cond-false _ _ _ long)
    ]

-- the fault of what was read is the verdict of the text
pub parsed_fault : (text : List ℕ) (script : Script) → IsParsed text script → fault_of script ≡ verdict text
parsed_fault text script parsed =
    ap₂ or_else (ap₂ (λ deeds begun. names_fault [] [] (deeds ++ deeds_begun begun)) parsed.deeds parsed.begun) parsed.stop
    ∙ (front_split (front_of text) ∙ verdict_front text)

-- ---- A text without a fault

none_both : {F : Type 0} (a b : Option F) → or_else a b ≡ None → (a ≡ None) × (b ≡ None)
none_both None b h = (refl, h)
none_both (Some x) b h = absurd (let e : Some x ≡ None = h in cc)

unstopped_case : (item : Item) (items : List Item) (o : Option Fault) → line_fault item ≡ o → (option_and_then line_fault (item_stopped items) ≡ None → items_read items ≡ items)
    → option_and_then line_fault (item_stopped (item ∷ items)) ≡ None → items_read (item ∷ items) ≡ item ∷ items
unstopped_case item items None is behind h = rw is (ap (λ xs. item ∷ xs) (behind (rw is at h)))
unstopped_case item items (Some fault) is behind h =
    absurd (some_none fault (sym is ∙ (ap (λ b. option_and_then line_fault (cond (is_none b) (item_stopped items) (Some item))) (sym is) ∙ h)))

unstopped : (items : List Item) → option_and_then line_fault (item_stopped items) ≡ None → items_read items ≡ items
unstopped [] h = refl
unstopped (item ∷ items) h = unstopped_case item items (line_fault item) refl (λ e. unstopped items e) h

-- all of a text was read
pub record IsReadWhole (text : List ℕ) : Type 0 where
  pub heading : Heading
  pub found : heading_of text ≡ Ok heading
  pub front : front_of text ≡ Ok heading
  pub deeds : deeds_with (front_of text) ≡ deeds_of text

whole_front : (text : List ℕ) (front : Result Heading Fault) → heading_of text ≡ front → front_of text ≡ front → stop_with front ≡ None → IsReadWhole text
whole_front text (Err fault) found same h = absurd (some_none fault h)
whole_front text (Ok heading) found same h = record {
  heading = heading;
  found = found;
  front = same;
  deeds = ap deeds_with same ∙ (ap (flat_map deeds_in) (unstopped (items_behind (Ok heading)) h) ∙ ap (λ front. flat_map deeds_in (items_behind front)) (sym found));
}

pub whole_text : (text : List ℕ) → stop_with (front_of text) ≡ None → IsReadWhole text
whole_text text h =
    elim (cases_Bool (nat_le (length text) most_bytes)) [
      | inl short ↦
          let same : front_of text ≡ heading_of text = cond-true _ _ _ short in
          whole_front text (heading_of text) refl same (ap stop_with (sym same) ∙ h)
      | inr long ↦
          let same : front_of text ≡ Err (fault_at 0 1) = cond-false _ _ _ long in
          absurd (some_none (fault_at 0 1) (ap stop_with (sym same) ∙ h))
    ]

pub parsed_stop : (text : List ℕ) (script : Script) → IsParsed text script → fault_of script ≡ None → stop_with (front_of text) ≡ None
parsed_stop text script parsed clean =
    sym parsed.stop ∙ (none_both (names_fault [] [] (deeds_judged script)) script.stop clean).1
