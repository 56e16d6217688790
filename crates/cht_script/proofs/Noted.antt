-- What a statement does to the names that are kept, and what is known of it.
use Rattle.std.proofs.Common.{◌≡◌, ℕ, zero, suc, ◌+◌, ◌≤◌, Bool, true, false, cond, List, [], ◌∷◌, ◌++◌, map, take, Some, refl, sym, ap, ◌∙◌, subst, arith}
use Rattle.std.specs.List.{list_all, list_any}
use Rattle.std.specs.Str.{bytes_eq}
use Rattle.std.proofs.lemmas.Bool.{true≢false, and_parts}
use Rattle.std.proofs.lemmas.List.{append-nil}
use Rattle.dense_def.proofs.Entries.{height-made}
use Rattle.mm_text.specs.declared.market.Market.{Market}
use Rattle.mm_text.specs.Block.{number_listed}
use Rattle.mm_text.specs.Faults.{first_code}
use Rattle.cht_script.specs.declared.checked.Shape.{Shape}
use Rattle.cht_script.specs.declared.checked.Shapes.{Shapes}
use Rattle.cht_script.specs.declared.names.KnownNames.{KnownNames}
use Rattle.cht_script.specs.declared.script.Name.{Name}
use Rattle.cht_script.specs.declared.script.Names.{Names}
use Rattle.cht_script.specs.declared.script.Statement.TheVariants as statements
use Rattle.cht_script.specs.declared.script.Verb.{Verb}
use Rattle.cht_script.specs.declared.script.Verb.TheVariants.{Copy, Add, Mul, TMul, MulT, Square, Full, Trace, Count, Print, Delete}
use Rattle.cht_script.specs.Statements.{Market as Said, Act, new_names, input_names, names_after, binds}
use Rattle.cht_script.specs.Verdict.{NamedShape, with_shape, is_known, shape_in, bound_said, deleted_by_verb, name_rules}
use Rattle.cht_script.specs.Reading.{name_bytes, names_of, deed_of, shape_of_market}
use Rattle.cht_script.specs.Checking.{shape_listed, known_behind, deleted_behind, shapes_said}
use Rattle.cht_script.specs.Judging.{look, Keeps, IsShapedAs, deletes}
use Rattle.cht_script.proofs.Known.{or_none, keeps_bound, keeps_deleted}
use Rattle.cht_script.proofs.NameRules.{said_sound, one_name}

-- ---- Names

first_of : {A : Type 0} (n : ℕ) (x : A) (xs : List A) → 1 ≤ n → take 1 (take n (x ∷ xs)) ≡ x ∷ []
first_of zero x xs le = absurd (omega arith)
first_of (suc n) x xs le = refl

some_names : (verb : Verb) → 1 ≤ names_after verb
some_names Copy = omega arith
some_names Add = omega arith
some_names Mul = omega arith
some_names TMul = omega arith
some_names MulT = omega arith
some_names Square = omega arith
some_names Full = omega arith
some_names Trace = omega arith
some_names Count = omega arith
some_names Print = omega arith
some_names Delete = omega arith

new_name : (verb : Verb) (names : Names) → binds verb ≡ true → names.count ≡ names_after verb → new_names (Act verb (names_of names)) ≡ name_bytes names.first ∷ []
new_name verb names new count =
    rw new (first_of names.count (name_bytes names.first) (name_bytes names.second ∷ name_bytes names.third ∷ []) (omega (arith, count, some_names verb)))

old_name : (verb : Verb) (names : Names) → binds verb ≡ false → names.count ≡ names_after verb → names_of names ≡ name_bytes names.first ∷ []
old_name verb names old count =
    ap (λ n. take n (name_bytes names.first ∷ name_bytes names.second ∷ name_bytes names.third ∷ [])) (count ∙ one_name verb old)

-- what a verb deletes
deleted_if : (verb : Verb) (names : List (List ℕ)) → deleted_by_verb verb names ≡ cond (deletes verb) names []
deleted_if Copy names = refl
deleted_if Add names = refl
deleted_if Mul names = refl
deleted_if TMul names = refl
deleted_if MulT names = refl
deleted_if Square names = refl
deleted_if Full names = refl
deleted_if Trace names = refl
deleted_if Count names = refl
deleted_if Print names = refl
deleted_if Delete names = refl

-- a verb that binds a name deletes none
binds_only : (verb : Verb) → binds verb ≡ true → deletes verb ≡ false
binds_only Copy h = refl
binds_only Add h = refl
binds_only Mul h = refl
binds_only TMul h = refl
binds_only MulT h = refl
binds_only Square h = refl
binds_only Full h = refl
binds_only Trace h = refl
binds_only Count h = refl
binds_only Print h = refl
binds_only Delete h = absurd (true≢false (sym h))

none_bound : (known : List NamedShape) (shape : Shape) (verb : Verb) (names : List (List ℕ)) → binds verb ≡ false → bound_said shape known (Act verb names) ≡ []
none_bound known shape verb names old = rw old refl

-- ---- Keeping what a statement does

abbrev pub KeptSo : KnownNames → KnownNames → List ℕ → Shape → Bool → Type 0
KeptSo old new name shape gone =
    (other : List ℕ) → look other new ≡ cond (bytes_eq name other) (Some (record { shape = shape; is_deleted = gone })) (look other old)

-- the same for a name with these bytes
pub kept_named : (old new : KnownNames) (word name : List ℕ) (shape : Shape) (gone : Bool) → word ≡ name → KeptSo old new word shape gone → KeptSo old new name shape gone
kept_named old new word name shape gone same kept = subst (λ name. KeptSo old new name shape gone) same kept

pub market_noted : (known : List NamedShape) (deleted : List (List ℕ)) (old new : KnownNames) (line : ℕ) (to : Name) (market : Market) (shapes : Shapes)
    → KeptSo old new (name_bytes to) shapes.first false → Keeps known deleted old
    → IsShapedAs known deleted (shape_listed (deed_of (statements.Market line to market))) (Said (name_bytes to ∷ [])) shapes
    → Keeps (known_behind known (deed_of (statements.Market line to market))) (deleted_behind deleted (deed_of (statements.Market line to market))) new
market_noted known deleted old new line to market shapes kept keeps shaped =
    let fresh : is_known known (name_bytes to) ≡ false =
    sym (or_none (is_known known (name_bytes to))) ∙ (said_sound known deleted (Said (name_bytes to ∷ [])) shaped.clean).fresh in
    subst (λ gone. Keeps (known_behind known (deed_of (statements.Market line to market))) gone new) (sym (append-nil deleted))
    (subst (λ more. Keeps (known ++ more) deleted new) (sym shaped.binds)
    (keeps_bound known deleted old new (name_bytes to) shapes.first keeps fresh kept))

pub new_noted : (known : List NamedShape) (deleted : List (List ℕ)) (old new : KnownNames) (line : ℕ) (verb : Verb) (names : Names) (shape : Shape) (shapes : Shapes)
    → KeptSo old new (name_bytes names.first) shapes.first false → Keeps known deleted old → binds verb ≡ true → names.count ≡ names_after verb
    → IsShapedAs known deleted shape (Act verb (names_of names)) shapes
    → Keeps (known ++ bound_said shape known (Act verb (names_of names))) (deleted ++ deleted_by_verb verb (names_of names)) new
new_noted known deleted old new line verb names shape shapes kept keeps binds_name count shaped =
    let c = name_bytes names.first in
    let named = new_name verb names binds_name count in
    let fresh : is_known known c ≡ false =
    sym (or_none (is_known known c)) ∙ (ap (list_any (is_known known)) (sym named) ∙ (said_sound known deleted (Act verb (names_of names)) shaped.clean).fresh) in
    let gone : deleted_by_verb verb (names_of names) ≡ [] =
    deleted_if verb (names_of names) ∙ ap (λ b. cond b (names_of names) []) (binds_only verb binds_name) in
    subst (λ gone. Keeps (known ++ bound_said shape known (Act verb (names_of names))) gone new) (sym (ap (λ more. deleted ++ more) gone ∙ append-nil deleted))
    (subst (λ more. Keeps (known ++ more) deleted new) (sym (shaped.binds ∙ ap (map (with_shape shapes.first)) named))
    (keeps_bound known deleted old new c shapes.first keeps fresh kept))

same_first : (n : ℕ) (x y : Shape) (xs : List Shape) → take n (x ∷ xs) ≡ y ∷ [] → x ≡ y
same_first zero x y xs h = absurd (let e : [] ≡ y ∷ [] = h in cc)
same_first (suc n) x y xs h = let e : x ∷ take n xs ≡ y ∷ [] = h in cc

pub delete_noted : (known : List NamedShape) (deleted : List (List ℕ)) (old new : KnownNames) (line : ℕ) (verb : Verb) (names : Names) (shape : Shape) (shapes : Shapes)
    → KeptSo old new (name_bytes names.first) shapes.first true → Keeps known deleted old → binds verb ≡ false → deletes verb ≡ true → names.count ≡ names_after verb
    → IsShapedAs known deleted shape (Act verb (names_of names)) shapes
    → Keeps (known ++ bound_said shape known (Act verb (names_of names))) (deleted ++ deleted_by_verb verb (names_of names)) new
delete_noted known deleted old new line verb names shape shapes kept keeps old_verb goes count shaped =
    let a = name_bytes names.first in
    let named = old_name verb names old_verb count in
    let inputs : input_names (Act verb (names_of names)) ≡ a ∷ [] = rw old_verb named in
    let there : is_known known a ≡ true =
    (and_parts (is_known known a) true (ap (list_all (is_known known)) (sym inputs) ∙ (said_sound known deleted (Act verb (names_of names)) shaped.clean).bound)).0 in
    let listed : shapes_said shape known (Act verb (names_of names)) ≡ shape_in known a ∷ [] = rw (old_verb, named) refl in
    let first : shapes.first ≡ shape_in known a = same_first shapes.count shapes.first (shape_in known a) (shapes.second ∷ shapes.third ∷ []) (shaped.listed_as ∙ listed) in
    let gone : deleted_by_verb verb (names_of names) ≡ a ∷ [] = deleted_if verb (names_of names) ∙ (ap (λ b. cond b (names_of names) []) goes ∙ named) in
    subst (λ gone. Keeps (known ++ bound_said shape known (Act verb (names_of names))) (deleted ++ gone) new) (sym gone)
    (subst (λ more. Keeps more (deleted ++ a ∷ []) new) (sym (ap (λ more. known ++ more) (none_bound known shape verb (names_of names) old_verb) ∙ append-nil known))
    (keeps_deleted known deleted old new a shapes.first keeps there first kept))

pub nothing_noted : (known : List NamedShape) (deleted : List (List ℕ)) (names : KnownNames) (verb : Verb) (called : List (List ℕ)) (shape : Shape) → Keeps known deleted names
    → binds verb ≡ false → deletes verb ≡ false
    → Keeps (known ++ bound_said shape known (Act verb called)) (deleted ++ deleted_by_verb verb called) names
nothing_noted known deleted names verb called shape keeps old stays =
    subst (λ gone. Keeps (known ++ bound_said shape known (Act verb called)) gone names)
    (sym (ap (λ more. deleted ++ more) (deleted_if verb called ∙ ap (λ b. cond b called []) stays) ∙ append-nil deleted))
    (subst (λ more. Keeps more deleted names) (sym (ap (λ more. known ++ more) (none_bound known shape verb called old) ∙ append-nil known)) keeps)

-- ---- A line `market NAME`

-- the shape of a matrix that is listed
pub market_shape : (line : ℕ) (to : Name) (market : Market) → shape_listed (deed_of (statements.Market line to market)) ≡ shape_of_market market
market_shape line to market =
    ap (λ rows. record { rows = rows; columns = market.columns; form = market.form })
    (height-made market.rows market.columns (λ i j. number_listed market.form market.entries (i + 1) (j + 1)))

pub market_taken : (known : List NamedShape) (deleted : List (List ℕ)) (name : List ℕ) → is_known known name ≡ true → first_code (name_rules known deleted (Said (name ∷ []))) ≡ Some 16
market_taken known deleted name there = rw there refl

pub market_shaped : (known : List NamedShape) (deleted : List (List ℕ)) (line : ℕ) (to : Name) (market : Market) (shape : Shape) → is_known known (name_bytes to) ≡ false
    → shape ≡ shape_of_market market
    → IsShapedAs known deleted (shape_listed (deed_of (statements.Market line to market))) (Said (name_bytes to ∷ []))
    (record { count = 1; first = shape; second = shape; third = shape })
market_shaped known deleted line to market shape fresh is =
    let listed : shape_listed (deed_of (statements.Market line to market)) ≡ shape = market_shape line to market ∙ sym is in
    record {
      clean = rw fresh refl;
      listed_as = ap (λ shape. shape ∷ []) (sym listed);
      repeated = record { second = λ low. refl; third = λ low. refl };
      binds = ap (λ shape. with_shape shape (name_bytes to) ∷ []) listed;
    }
