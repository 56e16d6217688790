-- Which rule an entry line breaks, on its own and after others.
use Rattle.std.proofs.Common.{◌≡◌, ℕ, inl, inr, Bool, true, false, cond, not, eqb, List, [], ◌∷◌, ◌++◌, length, Option, None, Some, Ok, Err, ℤ, refl, sym, ap, ◌∙◌}
use Rattle.std.specs.Prelude.{option_map, ◌||◌, ◌==◌}
use Rattle.std.specs.List.{list_any, AllByRecursion}
use Rattle.std.proofs.lemmas.Bool.{cases_Bool, cond-true, cond-false, and_parts, or_from, eqb-true, eq-eqb, true≢false, not-false, not_from_true, not_from_false, false_from_ne_true}
use Rattle.std.proofs.lemmas.List.Folds.{list_any-append}
use Rattle.mm_text.specs.declared.market.Entry.{Entry}
use Rattle.mm_text.specs.declared.market.Form.{Form}
use Rattle.mm_text.specs.declared.market.Form.TheVariants.{General, Symmetric}
use Rattle.mm_text.specs.declared.market.MarketFault.{MarketFault}
use Rattle.mm_text.specs.declared.places.Listed.{Listed}
use Rattle.mm_text.specs.Lines.{words_of, is_text}
use Rattle.mm_text.specs.Faults.{first_code}
use Rattle.mm_text.specs.Block.{Sizes, are_numerals, three_of, entry_from, entry_of, names, is_inside, says, names_place, is_repeated, is_above, entry_code, fault_at, at_line}
use Rattle.mm_text.specs.Places.{repeats}
use Rattle.mm_text.specs.Steps.{code_without_numbers, entry_inside, own_code, told_as, told}
use Rattle.mm_text.proofs.LineRules.{three_text, three_numerals, three_long, numbers_there}

-- ---- Lists of rules

-- the rules that a line breaks on its own, and those after other lines
abbrev Own : Bool → Bool → Bool → Bool → Bool → Option ℕ
Own a b c d u = first_code ((2, a) ∷ (5, b) ∷ (9, c) ∷ (10, d) ∷ (12, u) ∷ [])

abbrev After : Bool → Bool → Bool → Bool → Bool → Bool → Option ℕ
After a b c d r u = first_code ((2, a) ∷ (5, b) ∷ (9, c) ∷ (10, d) ∷ (11, r) ∷ (12, u) ∷ [])

after_none : (a b c d r u : Bool) → Own a b c d u ≡ None → After a b c d r u ≡ cond r (Some 11) None
after_none true b c d r u h = absurd cc
after_none false true c d r u h = absurd cc
after_none false false true d r u h = absurd cc
after_none false false false true r u h = absurd cc
after_none false false false false r true h = absurd cc
after_none false false false false true false h = refl
after_none false false false false false false h = refl

after_some : (a b c d r u : Bool) (k : ℕ) → (u ≡ true → r ≡ false) → Own a b c d u ≡ Some k → After a b c d r u ≡ Some k
after_some true b c d r u k apart h = h
after_some false true c d r u k apart h = h
after_some false false true d r u k apart h = h
after_some false false false true r u k apart h = h
after_some false false false false true true k apart h = absurd (true≢false (apart refl))
after_some false false false false false true k apart h = h
after_some false false false false r false k apart h = absurd cc

own_parts : (a b c d u : Bool) → Own a b c d u ≡ None → (b ≡ false) × (c ≡ false) × (d ≡ false) × (u ≡ false)
own_parts true b c d u h = absurd cc
own_parts false true c d u h = absurd cc
own_parts false false true d u h = absurd cc
own_parts false false false true u h = absurd cc
own_parts false false false false true h = absurd cc
own_parts false false false false false h = (refl, refl, refl, refl)

own_words : (a b c d u : Bool) → (a ≡ false → b ≡ false → c ≡ true) → Own a b c d u ≡ Some (cond a 2 (cond b 5 9))
own_words true b c d u h = refl
own_words false true c d u h = refl
own_words false false true d u h = refl
own_words false false false d u h = absurd (true≢false (sym (h refl refl)))

own_good : (a b c d u : Bool) → a ≡ false → b ≡ false → c ≡ false → Own a b c d u ≡ cond d (Some 10) (cond u (Some 12) None)
own_good a b c true u p q r = rw (p, q, r) refl
own_good a b c false true p q r = rw (p, q, r) refl
own_good a b c false false p q r = rw (p, q, r) refl

-- ---- A line on its own

abbrev NotText : List ℕ → Bool
NotText line = not (is_text line)

abbrev NotNumerals : List ℕ → Bool
NotNumerals line = not (are_numerals (words_of line))

abbrev NotThree : List ℕ → Bool
NotThree line = not (length (words_of line) == 3)

-- a line that is not three numbers
pub told-words : (form : Form) (sizes : Sizes) (n : ℕ) (line : List ℕ) → three_of line ≡ None → told form sizes (n, line) ≡ Err (fault_at n (code_without_numbers 9 line))
told-words form sizes n line none =
    let words : NotText line ≡ false → NotNumerals line ≡ false → NotThree line ≡ true = λ text numerals.
    not_from_false _ (false_from_ne_true _ (λ three.
    let (m, there) = numbers_there line (not-false _ numerals) (eqb-true _ _ three) in
    let e : None ≡ Some m = sym none ∙ there in absurd cc)) in
    ap (λ o. told_as n o (entry_of line))
    (own_words (NotText line) (NotNumerals line) (NotThree line) (says (λ m. not (is_inside sizes m)) (three_of line)) (says (is_above form) (entry_of line)) words)

-- a line of three numbers
own-numbers : (form : Form) (sizes : Sizes) (line : List ℕ) (m : ℤ × ℤ × ℤ) → three_of line ≡ Some m
    → own_code form sizes line ≡ cond (not (is_inside sizes m)) (Some 10) (cond (is_above form (entry_from m)) (Some 12) None)
own-numbers form sizes line m three =
    own_good (NotText line) (NotNumerals line) (NotThree line) (says (λ k. not (is_inside sizes k)) (three_of line)) (says (is_above form) (entry_of line))
    (not_from_true _ (three_text line m three)) (not_from_true _ (three_numerals line m three)) (not_from_true _ (eq-eqb _ _ (three_long line m three)))
    ∙ ap (λ o. cond (says (λ k. not (is_inside sizes k)) o) (Some 10) (cond (says (is_above form) (option_map entry_from o)) (Some 12) None)) three

told-three : (form : Form) (sizes : Sizes) (n : ℕ) (line : List ℕ) (m : ℤ × ℤ × ℤ) (o : Option ℕ) → three_of line ≡ Some m → own_code form sizes line ≡ o
    → told form sizes (n, line) ≡ told_as n o (Some (entry_from m))
told-three form sizes n line m o three own = ap (λ k. told_as n k (entry_of line)) own ∙ ap (λ k. told_as n o (option_map entry_from k)) three

pub told-range : (form : Form) (sizes : Sizes) (n : ℕ) (line : List ℕ) (m : ℤ × ℤ × ℤ) → three_of line ≡ Some m → is_inside sizes m ≡ false
    → told form sizes (n, line) ≡ Err (fault_at n 10)
told-range form sizes n line m three inside =
    told-three form sizes n line m (Some 10) three
    (own-numbers form sizes line m three ∙ cond-true (not (is_inside sizes m)) (Some 10) (cond (is_above form (entry_from m)) (Some 12) None) (not_from_false _ inside))

own-inside : (form : Form) (sizes : Sizes) (line : List ℕ) (m : ℤ × ℤ × ℤ) → three_of line ≡ Some m → is_inside sizes m ≡ true
    → own_code form sizes line ≡ cond (is_above form (entry_from m)) (Some 12) None
own-inside form sizes line m three inside =
    own-numbers form sizes line m three ∙ cond-false (not (is_inside sizes m)) (Some 10) (cond (is_above form (entry_from m)) (Some 12) None) (not_from_true _ inside)

pub told-above : (form : Form) (sizes : Sizes) (n : ℕ) (line : List ℕ) (m : ℤ × ℤ × ℤ) → three_of line ≡ Some m → is_inside sizes m ≡ true → is_above form (entry_from m) ≡ true
    → told form sizes (n, line) ≡ Err (fault_at n 12)
told-above form sizes n line m three inside above =
    told-three form sizes n line m (Some 12) three (own-inside form sizes line m three inside ∙ cond-true _ (Some 12) None above)

pub told-entry : (form : Form) (sizes : Sizes) (n : ℕ) (line : List ℕ) (m : ℤ × ℤ × ℤ) → three_of line ≡ Some m → is_inside sizes m ≡ true → is_above form (entry_from m) ≡ false
    → told form sizes (n, line) ≡ Ok (record { entry = entry_from m; line = n })
told-entry form sizes n line m three inside above =
    told-three form sizes n line m None three (own-inside form sizes line m three inside ∙ cond-false _ (Some 12) None above)

-- ---- A line after others

-- whether one of these lines is an entry for the place of an entry
abbrev pub IsNamedIn : List (ℕ × List ℕ) → Entry → Bool
IsNamedIn before e = list_any (λ (earlier : ℕ × List ℕ). names_place e earlier.1) before

-- these entries are those of the lines before, and none of them stands above the diagonal
pub record Stands (form : Form) (before : List (ℕ × List ℕ)) (prior : List Listed) : Type 0 where
  pub named : (one : Listed) → IsNamedIn before one.entry ≡ list_any (repeats one) prior
  pub low : AllByRecursion (λ (one : Listed). is_above form one.entry ≡ false) prior

pub stands-none : (form : Form) → Stands form [] []
stands-none form = record { named = λ one. refl; low = tt }

named_above : (form : Form) (e f : Entry) → names e.row e.column f ≡ true → is_above form f ≡ is_above form e
named_above General e f h = refl
named_above Symmetric e f h = let p = and_parts (eqb f.row e.row) (eqb f.column e.column) h in rw (eqb-true _ _ p.0, eqb-true _ _ p.1) refl

none_above : (form : Form) (e : Listed) (prior : List Listed) → AllByRecursion (λ (one : Listed). is_above form one.entry ≡ false) prior → is_above form e.entry ≡ true → list_any (repeats e) prior ≡ false
none_above form e [] low above = refl
none_above form e (one ∷ ones) low above =
    or_from _ _ (false_from_ne_true _ (λ same. true≢false (sym above ∙ sym (named_above form e.entry one.entry same) ∙ low.0))) (none_above form e ones low.1 above)

-- an entry line whose entry stands above the diagonal repeats no place of lines that break no rule
above_apart : (form : Form) (before : List (ℕ × List ℕ)) (prior : List Listed) (o : Option Entry) → Stands form before prior → says (is_above form) o ≡ true
    → says (λ e. IsNamedIn before e) o ≡ false
above_apart form before prior None s h = refl
above_apart form before prior (Some e) s h =
    let one : Listed = record { entry = e; line = 0 } in s.named one ∙ none_above form one prior s.low h

-- what a line that breaks no rule on its own says
pub record IsToldEntry (form : Form) (sizes : Sizes) (line : ℕ × List ℕ) (one : Listed) : Type 0 where
  pub own : own_code form sizes line.1 ≡ None
  pub entry : entry_of line.1 ≡ Some one.entry
  pub number : one.line ≡ line.0

told_as-Ok : (n : ℕ) (o : Option ℕ) (e : Option Entry) (one : Listed) → told_as n o e ≡ Ok one → (o ≡ None) × (e ≡ Some one.entry) × (one.line ≡ n)
told_as-Ok n (Some code) e one h = absurd cc
told_as-Ok n None None one h = absurd cc
told_as-Ok n None (Some e) one h =
    let same : record { entry = e; line = n } ≡ one = cc in
    (refl, ap (λ (x : Listed). Some x.entry) same, sym (ap (λ (x : Listed). x.line) same))

pub told-Ok : (form : Form) (sizes : Sizes) (line : ℕ × List ℕ) (one : Listed) → told form sizes line ≡ Ok one → IsToldEntry form sizes line one
told-Ok form sizes line one h =
    let p = told_as-Ok line.0 (own_code form sizes line.1) (entry_of line.1) one h in record { own = p.0; entry = p.1; number = p.2 }

-- it breaks a rule exactly where its place was named before
pub code-entry : (form : Form) (sizes : Sizes) (before : List (ℕ × List ℕ)) (prior : List Listed) (line : ℕ × List ℕ) (one : Listed) → Stands form before prior → told form sizes line ≡ Ok one
    → entry_code form sizes before line.1 ≡ cond (list_any (repeats one) prior) (Some 11) None
code-entry form sizes before prior line one s h =
    let t = told-Ok form sizes line one h in
    after_none (NotText line.1) (NotNumerals line.1) (NotThree line.1) (says (λ k. not (is_inside sizes k)) (three_of line.1)) (is_repeated before line.1) (says (is_above form) (entry_of line.1)) t.own
    ∙ ap (λ r. cond r (Some 11) None) (ap (says (λ e. IsNamedIn before e)) t.entry ∙ s.named one)

low-more : (form : Form) (prior : List Listed) (one : Listed) → AllByRecursion (λ (x : Listed). is_above form x.entry ≡ false) prior → is_above form one.entry ≡ false
    → AllByRecursion (λ (x : Listed). is_above form x.entry ≡ false) (prior ++ one ∷ [])
low-more form [] one h low = (low, tt)
low-more form (x ∷ xs) one h low = (h.0, low-more form xs one h.1 low)

-- the lines before, with one more
pub stands-more : (form : Form) (sizes : Sizes) (before : List (ℕ × List ℕ)) (prior : List Listed) (line : ℕ × List ℕ) (one : Listed) → Stands form before prior → told form sizes line ≡ Ok one
    → Stands form (before ++ line ∷ []) (prior ++ one ∷ [])
stands-more form sizes before prior line one s h =
    let t = told-Ok form sizes line one h in
    let parts = own_parts (NotText line.1) (NotNumerals line.1) (NotThree line.1) (says (λ k. not (is_inside sizes k)) (three_of line.1)) (says (is_above form) (entry_of line.1)) t.own in
    let low : is_above form one.entry ≡ false = sym (ap (says (is_above form)) t.entry) ∙ parts.3 in
    record {
      named = λ x.
          list_any-append _ before (line ∷ []) ∙ sym (list_any-append (repeats x) prior (one ∷ []) ∙ ap (λ b. b || (repeats x one || false)) (sym (s.named x))
          ∙ ap (λ b. IsNamedIn before x.entry || (b || false)) (sym (ap (says (names x.entry.row x.entry.column)) t.entry)));
      low = low-more form prior one s.low low;
    }

-- a line that breaks a rule on its own
told_as-Err : (n : ℕ) (o : Option ℕ) (e : Option Entry) (fault : MarketFault) → (o ≡ None → e ≡ None → ⊥) → told_as n o e ≡ Err fault → (k : ℕ) × (o ≡ Some k) × (fault ≡ fault_at n k)
told_as-Err n (Some code) e fault some h = (code, refl, cc)
told_as-Err n None None fault some h = absurd (some refl refl)
told_as-Err n None (Some e) fault some h = absurd cc

entry_there : (form : Form) (sizes : Sizes) (line : List ℕ) → own_code form sizes line ≡ None → entry_of line ≡ None → ⊥
entry_there form sizes line own none =
    let parts = own_parts (NotText line) (NotNumerals line) (NotThree line) (says (λ k. not (is_inside sizes k)) (three_of line)) (says (is_above form) (entry_of line)) own in
    let (m, there) = numbers_there line (not-false _ parts.0) (eqb-true _ _ (not-false _ parts.1)) in
    let e : None ≡ Some (entry_from m) = sym none ∙ ap (option_map entry_from) there in cc

pub code-fault : (form : Form) (sizes : Sizes) (before : List (ℕ × List ℕ)) (prior : List Listed) (line : ℕ × List ℕ) (fault : MarketFault) → Stands form before prior → told form sizes line ≡ Err fault
    → at_line line.0 (entry_code form sizes before line.1) ≡ Some fault
code-fault form sizes before prior line fault s h =
    let (k, own, is) = told_as-Err line.0 (own_code form sizes line.1) (entry_of line.1) fault (entry_there form sizes line.1) h in
    ap (at_line line.0)
    (after_some (NotText line.1) (NotNumerals line.1) (NotThree line.1) (says (λ k. not (is_inside sizes k)) (three_of line.1)) (is_repeated before line.1) (says (is_above form) (entry_of line.1)) k
    (above_apart form before prior (entry_of line.1) s) own)
    ∙ ap Some (sym is)

-- ---- What stands behind an entry

-- an entry lies within the matrix, and not above the diagonal of a symmetric one
pub told-inside : (form : Form) (sizes : Sizes) (line : ℕ × List ℕ) (one : Listed) → told form sizes line ≡ Ok one
    → (m : ℤ × ℤ × ℤ) × (one.entry ≡ entry_from m) × (is_inside sizes m ≡ true) × (is_above form one.entry ≡ false)
told-inside form sizes line one h =
    let t = told-Ok form sizes line one h in
    let parts = own_parts (NotText line.1) (NotNumerals line.1) (NotThree line.1) (says (λ k. not (is_inside sizes k)) (three_of line.1)) (says (is_above form) (entry_of line.1)) t.own in
    let (m, there) = numbers_there line.1 (not-false _ parts.0) (eqb-true _ _ (not-false _ parts.1)) in
    let e : Some (entry_from m) ≡ Some one.entry = sym (ap (option_map entry_from) there) ∙ t.entry in
    (m, cc, not-false _ (sym (ap (says (λ k. not (is_inside sizes k))) there) ∙ parts.2), sym (ap (says (is_above form)) t.entry) ∙ parts.3)

-- ---- What the reader asks

inside_none : (sizes : Sizes) (m : ℤ × ℤ × ℤ) → None ≡ entry_inside sizes m → is_inside sizes m ≡ false
inside_none sizes m h = false_from_ne_true _ (λ inside. let e : None ≡ Some (entry_from m) = h ∙ cond-true _ (Some (entry_from m)) None inside in cc)

inside_some : (sizes : Sizes) (m : ℤ × ℤ × ℤ) (e : Entry) → Some e ≡ entry_inside sizes m → (is_inside sizes m ≡ true) × (e ≡ entry_from m)
inside_some sizes m e h =
    elim (cases_Bool (is_inside sizes m)) [
      | inl here ↦ (here, let q : Some e ≡ Some (entry_from m) = h ∙ cond-true _ (Some (entry_from m)) None here in cc)
      | inr beyond ↦ absurd (let q : Some e ≡ None = h ∙ cond-false _ (Some (entry_from m)) None beyond in cc)
    ]

pub beyond_told : (form : Form) (sizes : Sizes) (n : ℕ) (line : List ℕ) (m : ℤ × ℤ × ℤ) → Some m ≡ three_of line → None ≡ entry_inside sizes m
    → Err (fault_at n 10) ≡ told form sizes (n, line)
beyond_told form sizes n line m three none = sym (told-range form sizes n line m (sym three) (inside_none sizes m none))

pub above_told : (form : Form) (sizes : Sizes) (n : ℕ) (line : List ℕ) (m : ℤ × ℤ × ℤ) (e : Entry) → Some m ≡ three_of line → Some e ≡ entry_inside sizes m → is_above form e ≡ true
    → Err (fault_at n 12) ≡ told form sizes (n, line)
above_told form sizes n line m e three some above =
    let p = inside_some sizes m e some in sym (told-above form sizes n line m (sym three) p.0 (sym (ap (is_above form) p.1) ∙ above))

pub entry_told : (form : Form) (sizes : Sizes) (n : ℕ) (line : List ℕ) (m : ℤ × ℤ × ℤ) (e : Entry) → Some m ≡ three_of line → Some e ≡ entry_inside sizes m → is_above form e ≡ false
    → Ok (record { entry = e; line = n }) ≡ told form sizes (n, line)
entry_told form sizes n line m e three some above =
    let p = inside_some sizes m e some in
    ap (λ (x : Entry). Ok (record { entry = x; line = n })) p.1 ∙ sym (told-entry form sizes n line m (sym three) p.0 (sym (ap (is_above form) p.1) ∙ above))

pub words_told : (form : Form) (sizes : Sizes) (n code : ℕ) (line : List ℕ) → None ≡ three_of line → code ≡ code_without_numbers 9 line → Err (fault_at n code) ≡ told form sizes (n, line)
words_told form sizes n code line none is = ap (λ k. Err (fault_at n k)) is ∙ sym (told-words form sizes n line (sym none))

pub told_number : (form : Form) (sizes : Sizes) (n : ℕ) (line : List ℕ) (one : Listed) → Ok one ≡ told form sizes (n, line) → one.line ≡ n
told_number form sizes n line one h = (told-Ok form sizes (n, line) one (sym h)).number
