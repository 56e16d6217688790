-- The rules on names of a statement, by what is kept of its inputs.
use Rattle.std.proofs.Common.{◌≡◌, ℕ, ◌≤◌, Bool, true, false, not, List, [], ◌∷◌, take, Option, None, Some, refl, sym, ap, ap₂, ◌∙◌, inl, inr, arith}
use Rattle.std.specs.Prelude.{◌&&◌, ◌||◌, is_none, is_some, Ok, Err}
use Rattle.std.specs.List.{list_all, list_any}
use Rattle.std.proofs.lemmas.Bool.{cases_Bool, true≢false}
use Rattle.mm_text.specs.Faults.{first_code}
use Rattle.cht_script.specs.declared.checked.Shape.{Shape}
use Rattle.cht_script.specs.declared.checked.Shapes.{Shapes}
use Rattle.cht_script.specs.declared.names.Kept.{Kept}
use Rattle.cht_script.specs.declared.names.KnownNames.{KnownNames}
use Rattle.cht_script.specs.declared.script.Names.{Names}
use Rattle.cht_script.specs.declared.script.Verb.{Verb}
use Rattle.cht_script.specs.declared.script.Verb.TheVariants.{Copy, Add, Mul, TMul, MulT, Square, Full, Trace, Count, Print, Delete}
use Rattle.cht_script.specs.Statements.{Said, Market, Act, input_names, names_after, binds, general, shapes_fit, forms_fit, shape_bound}
use Rattle.cht_script.specs.Verdict.{NamedShape, is_known, shape_in, name_rules}
use Rattle.cht_script.specs.Reading.{name_bytes, names_of}
use Rattle.cht_script.specs.Checking.{IsSound}
use Rattle.cht_script.specs.Judging.{look, kept_of, Keeps, shape_kept, input_rules, JudgesInputs, IsShapedAs, JudgesSaid}
use Rattle.cht_script.proofs.Known.{or_none, none_kept, kept_shape, kept_deleted, AreBound}

-- ---- A statement without a fault

some_code : (code : ℕ) → Some code ≡ None → ⊥
some_code code e = cc

-- no rule of five is broken
five_clean : (p q r s f : Bool) → first_code ((14, p) ∷ (15, q) ∷ (16, r) ∷ (17, not s) ∷ (18, not f) ∷ []) ≡ None
    → (p ≡ false) × ((q ≡ false) × ((r ≡ false) × ((s ≡ true) × (f ≡ true))))
five_clean true q r s f h = absurd (some_code 14 h)
five_clean false true r s f h = absurd (some_code 15 h)
five_clean false false true s f h = absurd (some_code 16 h)
five_clean false false false false f h = absurd (some_code 17 h)
five_clean false false false true false h = absurd (some_code 18 h)
five_clean false false false true true h = (refl, (refl, (refl, (refl, refl))))

one_clean : (b : Bool) → first_code ((16, b) ∷ []) ≡ None → b ≡ false
one_clean true h = absurd (some_code 16 h)
one_clean false h = refl

none_unknown : (test : List ℕ → Bool) (names : List (List ℕ)) → list_any (λ name. not (test name)) names ≡ false → list_all test names ≡ true
none_unknown test [] h = refl
none_unknown test (name ∷ names) h =
    elim (cases_Bool (test name)) [
      | inl really ↦ rw really (none_unknown test names (rw really at h))
      | inr never ↦ absurd (true≢false (rw never at h))
    ]

both_true : (a b : Bool) → a ≡ true → b ≡ true → (a && b) ≡ true
both_true a b p q = rw (p, q) refl

-- what a statement says that breaks no rule on names
pub said_sound : (known : List NamedShape) (deleted : List (List ℕ)) (said : Said) → first_code (name_rules known deleted said) ≡ None → IsSound known deleted said
said_sound known deleted (Market names) h = record { bound = refl; left = refl; fresh = one_clean (list_any (is_known known) names) h; fit = refl }
said_sound known deleted (Act verb names) h =
    let c = five_clean _ _ _ _ _ h in
    record {
      bound = none_unknown (is_known known) (input_names (Act verb names)) c.0;
      left = c.1.0;
      fresh = c.1.1.0;
      fit = both_true _ _ c.1.1.1.0 c.1.1.1.1;
    }

-- ---- Verbs with one input

-- the second shape is not looked at where there is one input
shapes_once : (verb : Verb) (x y z : Shape) → names_after verb ≤ 2 → shapes_fit verb x y ≡ shapes_fit verb x z
shapes_once Copy x y z few = refl
shapes_once Add x y z few = absurd (omega arith)
shapes_once Mul x y z few = absurd (omega arith)
shapes_once TMul x y z few = absurd (omega arith)
shapes_once MulT x y z few = absurd (omega arith)
shapes_once Square x y z few = refl
shapes_once Full x y z few = refl
shapes_once Trace x y z few = refl
shapes_once Count x y z few = refl
shapes_once Print x y z few = refl
shapes_once Delete x y z few = refl

forms_once : (verb : Verb) (x y z : Shape) → names_after verb ≤ 2 → forms_fit verb x y ≡ forms_fit verb x z
forms_once Copy x y z few = refl
forms_once Add x y z few = absurd (omega arith)
forms_once Mul x y z few = absurd (omega arith)
forms_once TMul x y z few = absurd (omega arith)
forms_once MulT x y z few = absurd (omega arith)
forms_once Square x y z few = refl
forms_once Full x y z few = refl
forms_once Trace x y z few = refl
forms_once Count x y z few = refl
forms_once Print x y z few = refl
forms_once Delete x y z few = refl

bound_once : (verb : Verb) (x y z : Shape) → names_after verb ≤ 2 → shape_bound verb x y ≡ shape_bound verb x z
bound_once Copy x y z few = refl
bound_once Add x y z few = absurd (omega arith)
bound_once Mul x y z few = absurd (omega arith)
bound_once TMul x y z few = absurd (omega arith)
bound_once MulT x y z few = absurd (omega arith)
bound_once Square x y z few = refl
bound_once Full x y z few = refl
bound_once Trace x y z few = refl
bound_once Count x y z few = refl
bound_once Print x y z few = refl
bound_once Delete x y z few = refl

-- a verb that binds a name has two or three, and another has one
pub two_names : (verb : Verb) → binds verb ≡ true → (names_after verb ≡ 3 → ⊥) → names_after verb ≡ 2
two_names Copy h other = refl
two_names Add h other = absurd (other refl)
two_names Mul h other = absurd (other refl)
two_names TMul h other = absurd (other refl)
two_names MulT h other = absurd (other refl)
two_names Square h other = refl
two_names Full h other = refl
two_names Trace h other = absurd (true≢false (sym h))
two_names Count h other = absurd (true≢false (sym h))
two_names Print h other = absurd (true≢false (sym h))
two_names Delete h other = absurd (true≢false (sym h))

pub one_name : (verb : Verb) → binds verb ≡ false → names_after verb ≡ 1
one_name Copy h = absurd (true≢false h)
one_name Add h = absurd (true≢false h)
one_name Mul h = absurd (true≢false h)
one_name TMul h = absurd (true≢false h)
one_name MulT h = absurd (true≢false h)
one_name Square h = absurd (true≢false h)
one_name Full h = absurd (true≢false h)
one_name Trace h = refl
one_name Count h = refl
one_name Print h = refl
one_name Delete h = refl

-- ---- The rules, by what is kept

abbrev five_rules : Bool → Bool → Bool → Bool → Bool → List (ℕ × Bool)
five_rules p q r s f = (14, p) ∷ (15, q) ∷ (16, r) ∷ (17, s) ∷ (18, f) ∷ []

-- five rules are the same if each is
same_rules : (p q r s f p' q' r' s' f' : Bool) → p ≡ p' → q ≡ q' → r ≡ r' → s ≡ s' → f ≡ f' → five_rules p q r s f ≡ five_rules p' q' r' s' f'
same_rules p q r s f p' q' r' s' f' a b c d e = λ i. five_rules (a i) (b i) (c i) (d i) (e i)

or_same : (b : Bool) → (b || false) ≡ (b || b)
or_same true = refl
or_same false = refl

or_both : (a b c d : Bool) → a ≡ c → b ≡ d → (a || (b || false)) ≡ (c || d)
or_both a b c d p q = ap₂ (λ x y. x || y) p (or_none b ∙ q)

or_one : (a b : Bool) → a ≡ b → (a || false) ≡ (b || b)
or_one a b p = or_same a ∙ ap (λ x. x || x) p

abbrev kept : List NamedShape → List (List ℕ) → List ℕ → Option Kept
kept known deleted name = kept_of known deleted name

three_rules : (known : List NamedShape) (deleted : List (List ℕ)) (verb : Verb) (c a b : List ℕ) → AreBound known deleted → binds verb ≡ true
    → name_rules known deleted (Act verb (c ∷ a ∷ b ∷ [])) ≡ input_rules verb (kept known deleted a) (kept known deleted b) (is_known known c)
three_rules known deleted verb c a b bound new =
    rw new
    (same_rules _ _ _ _ _ _ _ _ _ _
    (or_both _ _ _ _ (sym (none_kept known deleted a)) (sym (none_kept known deleted b)))
    (or_both _ _ _ _ (sym (kept_deleted known deleted a bound)) (sym (kept_deleted known deleted b bound)))
    (or_none (is_known known c))
    (ap not (ap₂ (shapes_fit verb) (sym (kept_shape known deleted a)) (sym (kept_shape known deleted b))))
    (ap not (ap₂ (forms_fit verb) (sym (kept_shape known deleted a)) (sym (kept_shape known deleted b)))))

two_rules : (known : List NamedShape) (deleted : List (List ℕ)) (verb : Verb) (c a : List ℕ) → AreBound known deleted → binds verb ≡ true → names_after verb ≤ 2
    → name_rules known deleted (Act verb (c ∷ a ∷ [])) ≡ input_rules verb (kept known deleted a) (kept known deleted a) (is_known known c)
two_rules known deleted verb c a bound new few =
    rw new
    (same_rules _ _ _ _ _ _ _ _ _ _
    (or_one _ _ (sym (none_kept known deleted a)))
    (or_one _ _ (sym (kept_deleted known deleted a bound)))
    (or_none (is_known known c))
    (ap not (ap (λ x. shapes_fit verb x (general 0 0)) (sym (kept_shape known deleted a)) ∙ shapes_once verb (shape_kept (kept known deleted a)) _ _ few))
    (ap not (ap (λ x. forms_fit verb x (general 0 0)) (sym (kept_shape known deleted a)) ∙ forms_once verb (shape_kept (kept known deleted a)) _ _ few)))

one_rules : (known : List NamedShape) (deleted : List (List ℕ)) (verb : Verb) (a : List ℕ) → AreBound known deleted → binds verb ≡ false → names_after verb ≤ 2
    → name_rules known deleted (Act verb (a ∷ [])) ≡ input_rules verb (kept known deleted a) (kept known deleted a) false
one_rules known deleted verb a bound old few =
    rw old
    (same_rules _ _ _ _ _ _ _ _ _ _
    (or_one _ _ (sym (none_kept known deleted a)))
    (or_one _ _ (sym (kept_deleted known deleted a bound)))
    refl
    (ap not (ap (λ x. shapes_fit verb x (general 0 0)) (sym (kept_shape known deleted a)) ∙ shapes_once verb (shape_kept (kept known deleted a)) _ _ few))
    (ap not (ap (λ x. forms_fit verb x (general 0 0)) (sym (kept_shape known deleted a)) ∙ forms_once verb (shape_kept (kept known deleted a)) _ _ few)))

-- ---- Names as a statement has them

three_named : (names : Names) → names.count ≡ 3 → names_of names ≡ name_bytes names.first ∷ name_bytes names.second ∷ name_bytes names.third ∷ []
three_named names count = ap (λ n. take n (name_bytes names.first ∷ name_bytes names.second ∷ name_bytes names.third ∷ [])) count

two_named : (names : Names) → names.count ≡ 2 → names_of names ≡ name_bytes names.first ∷ name_bytes names.second ∷ []
two_named names count = ap (λ n. take n (name_bytes names.first ∷ name_bytes names.second ∷ name_bytes names.third ∷ [])) count

one_named : (names : Names) → names.count ≡ 1 → names_of names ≡ name_bytes names.first ∷ []
one_named names count = ap (λ n. take n (name_bytes names.first ∷ name_bytes names.second ∷ name_bytes names.third ∷ [])) count

taken_case : (o : Option Kept) → is_some o ≡ not (is_none o)
taken_case None = refl
taken_case (Some kept) = refl

not_not : (b : Bool) → not (not b) ≡ b
not_not true = refl
not_not false = refl

-- whether a name was bound, by what is kept of it
taken_known : (known : List NamedShape) (deleted : List (List ℕ)) (name : List ℕ) → is_some (kept_of known deleted name) ≡ is_known known name
taken_known known deleted name = taken_case (kept_of known deleted name) ∙ (ap not (none_kept known deleted name) ∙ not_not (is_known known name))

-- ---- What a statement is judged to be

-- the same rules give the same answer
judged_err : (known : List NamedShape) (deleted : List (List ℕ)) (verb : Verb) (names : List (List ℕ)) (rules : List (ℕ × Bool)) (code : ℕ) → name_rules known deleted (Act verb names) ≡ rules
    → first_code rules ≡ Some code → JudgesSaid known deleted (general 0 0) (Act verb names) (Err code)
judged_err known deleted verb names rules code same h = ap first_code same ∙ h

three_shaped : (known : List NamedShape) (deleted : List (List ℕ)) (verb : Verb) (c a b : List ℕ) (shapes : Shapes) → binds verb ≡ true
    → first_code (name_rules known deleted (Act verb (c ∷ a ∷ b ∷ []))) ≡ None
    → shapes ≡ record { count = 3; first = shape_bound verb (shape_in known a) (shape_in known b); second = shape_in known a; third = shape_in known b }
    → IsShapedAs known deleted (general 0 0) (Act verb (c ∷ a ∷ b ∷ [])) shapes
three_shaped known deleted verb c a b shapes new clean is =
    rw is
    (record {
      clean = clean;
      listed_as = rw new refl;
      repeated = record { second = λ low. absurd (omega arith); third = λ low. absurd (omega arith) };
      binds = rw new refl;
    })

two_shaped : (known : List NamedShape) (deleted : List (List ℕ)) (verb : Verb) (c a : List ℕ) (shapes : Shapes) → binds verb ≡ true
    → first_code (name_rules known deleted (Act verb (c ∷ a ∷ []))) ≡ None
    → shapes ≡ record { count = 2; first = shape_bound verb (shape_in known a) (general 0 0); second = shape_in known a; third = shape_bound verb (shape_in known a) (general 0 0) }
    → IsShapedAs known deleted (general 0 0) (Act verb (c ∷ a ∷ [])) shapes
two_shaped known deleted verb c a shapes new clean is =
    rw is
    (record {
      clean = clean;
      listed_as = rw new refl;
      repeated = record { second = λ low. absurd (omega arith); third = λ low. refl };
      binds = rw new refl;
    })

one_shaped : (known : List NamedShape) (deleted : List (List ℕ)) (verb : Verb) (a : List ℕ) (shapes : Shapes) → binds verb ≡ false
    → first_code (name_rules known deleted (Act verb (a ∷ []))) ≡ None
    → shapes ≡ record { count = 1; first = shape_in known a; second = shape_in known a; third = shape_in known a }
    → IsShapedAs known deleted (general 0 0) (Act verb (a ∷ [])) shapes
one_shaped known deleted verb a shapes old clean is =
    rw is
    (record {
      clean = clean;
      listed_as = rw old refl;
      repeated = record { second = λ low. refl; third = λ low. refl };
      binds = rw old refl;
    })

-- what was found of a name
pub found : (known : List NamedShape) (deleted : List (List ℕ)) (names : KnownNames) (o : Option Kept) (word name : List ℕ) → Keeps known deleted names
    → o ≡ look word names → word ≡ name → o ≡ kept_of known deleted name
found known deleted names o word name keeps is same = is ∙ (keeps.kept word ∙ ap (kept_of known deleted) same)

pub found_any : (known : List NamedShape) (deleted : List (List ℕ)) (names : KnownNames) (o : Option Kept) (taken : Bool) (word name : List ℕ) → Keeps known deleted names
    → taken ≡ is_some o → o ≡ look word names → word ≡ name → taken ≡ is_known known name
found_any known deleted names o taken word name keeps some is same =
    some ∙ (ap is_some (found known deleted names o word name keeps is same) ∙ taken_known known deleted name)

-- what three names are judged to be, from what is kept of the inputs
pub three_refused : (known : List NamedShape) (deleted : List (List ℕ)) (verb : Verb) (names : Names) (a b : Option Kept) (taken : Bool) (code : ℕ) → AreBound known deleted
    → binds verb ≡ true → names.count ≡ 3 → a ≡ kept_of known deleted (name_bytes names.second) → b ≡ kept_of known deleted (name_bytes names.third)
    → taken ≡ is_known known (name_bytes names.first) → JudgesInputs verb a b taken (Err code) → JudgesSaid known deleted (general 0 0) (Act verb (names_of names)) (Err code)
three_refused known deleted verb names a b taken code bound new count first second is h =
    rw (three_named names count)
    (judged_err known deleted verb (name_bytes names.first ∷ name_bytes names.second ∷ name_bytes names.third ∷ []) _ code
    (three_rules known deleted verb (name_bytes names.first) (name_bytes names.second) (name_bytes names.third) bound new) (rw (first, second, is) at h))

pub three_judged : (known : List NamedShape) (deleted : List (List ℕ)) (verb : Verb) (names : Names) (a b : Option Kept) (taken : Bool) (x y new : Shape) → AreBound known deleted
    → binds verb ≡ true → names.count ≡ 3 → a ≡ kept_of known deleted (name_bytes names.second) → b ≡ kept_of known deleted (name_bytes names.third)
    → taken ≡ is_known known (name_bytes names.first) → JudgesInputs verb a b taken (Ok (x, y)) → new ≡ shape_bound verb x y
    → IsShapedAs known deleted (general 0 0) (Act verb (names_of names)) (record { count = 3; first = new; second = x; third = y })
three_judged known deleted verb names a b taken x y new bound binds_name count first second is h shape =
    let c = name_bytes names.first in
    let p = name_bytes names.second in
    let q = name_bytes names.third in
    let clean = rw (first, second, is) at h.0 in
    let left : x ≡ shape_in known p = h.1 ∙ (ap shape_kept first ∙ kept_shape known deleted p) in
    let right : y ≡ shape_in known q = h.2 ∙ (ap shape_kept second ∙ kept_shape known deleted q) in
    rw (three_named names count)
    (three_shaped known deleted verb c p q _ binds_name (ap first_code (three_rules known deleted verb c p q bound binds_name) ∙ clean)
    (λ i. record { count = 3; first = (shape ∙ ap₂ (shape_bound verb) left right) i; second = left i; third = right i }))

-- and two
pub two_refused : (known : List NamedShape) (deleted : List (List ℕ)) (verb : Verb) (names : Names) (a : Option Kept) (taken : Bool) (code : ℕ) → AreBound known deleted
    → binds verb ≡ true → names_after verb ≡ 2 → names.count ≡ 2 → a ≡ kept_of known deleted (name_bytes names.second)
    → taken ≡ is_known known (name_bytes names.first) → JudgesInputs verb a a taken (Err code) → JudgesSaid known deleted (general 0 0) (Act verb (names_of names)) (Err code)
two_refused known deleted verb names a taken code bound new two count first is h =
    rw (two_named names count)
    (judged_err known deleted verb (name_bytes names.first ∷ name_bytes names.second ∷ []) _ code
    (two_rules known deleted verb (name_bytes names.first) (name_bytes names.second) bound new (omega (arith, two))) (rw (first, is) at h))

pub two_judged : (known : List NamedShape) (deleted : List (List ℕ)) (verb : Verb) (names : Names) (a : Option Kept) (taken : Bool) (x y new : Shape) → AreBound known deleted
    → binds verb ≡ true → names_after verb ≡ 2 → names.count ≡ 2 → a ≡ kept_of known deleted (name_bytes names.second)
    → taken ≡ is_known known (name_bytes names.first) → JudgesInputs verb a a taken (Ok (x, y)) → new ≡ shape_bound verb x y
    → IsShapedAs known deleted (general 0 0) (Act verb (names_of names)) (record { count = 2; first = new; second = x; third = new })
two_judged known deleted verb names a taken x y new bound binds_name two count first is h shape =
    let c = name_bytes names.first in
    let p = name_bytes names.second in
    let clean = rw (first, is) at h.0 in
    let left : x ≡ shape_in known p = h.1 ∙ (ap shape_kept first ∙ kept_shape known deleted p) in
    let gives : new ≡ shape_bound verb (shape_in known p) (general 0 0) =
    shape ∙ (bound_once verb x y (general 0 0) (omega (arith, two)) ∙ ap (λ s. shape_bound verb s (general 0 0)) left) in
    rw (two_named names count)
    (two_shaped known deleted verb c p _ binds_name (ap first_code (two_rules known deleted verb c p bound binds_name (omega (arith, two))) ∙ clean)
    (λ i. record { count = 2; first = gives i; second = left i; third = gives i }))

-- and one
pub one_refused : (known : List NamedShape) (deleted : List (List ℕ)) (verb : Verb) (names : Names) (a : Option Kept) (code : ℕ) → AreBound known deleted
    → binds verb ≡ false → names.count ≡ names_after verb → a ≡ kept_of known deleted (name_bytes names.first)
    → JudgesInputs verb a a false (Err code) → JudgesSaid known deleted (general 0 0) (Act verb (names_of names)) (Err code)
one_refused known deleted verb names a code bound old count first h =
    let one = one_name verb old in
    rw (one_named names (count ∙ one))
    (judged_err known deleted verb (name_bytes names.first ∷ []) _ code
    (one_rules known deleted verb (name_bytes names.first) bound old (omega (arith, one))) (rw first at h))

pub one_judged : (known : List NamedShape) (deleted : List (List ℕ)) (verb : Verb) (names : Names) (a : Option Kept) (x y : Shape) → AreBound known deleted
    → binds verb ≡ false → names.count ≡ names_after verb → a ≡ kept_of known deleted (name_bytes names.first)
    → JudgesInputs verb a a false (Ok (x, y))
    → IsShapedAs known deleted (general 0 0) (Act verb (names_of names)) (record { count = 1; first = x; second = x; third = x })
one_judged known deleted verb names a x y bound old count first h =
    let one = one_name verb old in
    let p = name_bytes names.first in
    let clean = rw first at h.0 in
    let left : x ≡ shape_in known p = h.1 ∙ (ap shape_kept first ∙ kept_shape known deleted p) in
    rw (one_named names (count ∙ one))
    (one_shaped known deleted verb p _ old (ap first_code (one_rules known deleted verb p bound old (omega (arith, one))) ∙ clean)
    (λ i. record { count = 1; first = left i; second = left i; third = left i }))
