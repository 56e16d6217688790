-- Entries in the order of their places: what rises, and what stands apart.
use Rattle.std.proofs.Common.{◌≡◌, ℕ, ◌^◌, ◌<◌, ◌≤◌, Bool, true, false, ltb, eqb, List, [], ◌∷◌, IsPermutation, refl, arith}
use Rattle.std.specs.List.{list_any, AllByRecursion, IsDistinct}
use Rattle.std.proofs.lemmas.Bool.{ltb-true, eqb-true, eq-eqb, and_parts, and_from, not-true, not_from_false, or_parts, or_from, false_from_ne_true}
use Rattle.std.proofs.lemmas.Bool.Decides.{nat_tests, same_from_decides}
use Rattle.std.proofs.lemmas.List.Sorted.{IsPermutation-sym}
use Rattle.std.proofs.lemmas.Map.Keys.{IsDistinct-IsPermutation}
use Rattle.mm_text.specs.declared.market.Entry.{Entry}
use Rattle.mm_text.specs.Block.{names}
use Rattle.mm_text.specs.Places.{have_no_repeats, place_of, rise}

-- ---- Names and places

-- entries of one place have one place number, and back
pub same_place : (e f : Entry) → names e.row e.column f ≡ true → place_of f ≡ place_of e
same_place e f h =
    let p = and_parts (eqb f.row e.row) (eqb f.column e.column) h in
    omega (arith, eqb-true f.row e.row p.0, eqb-true f.column e.column p.1)

pub other_place : (e f : Entry) → e.column < 2 ^ 32 → f.column < 2 ^ 32 → place_of f ≡ place_of e → names e.row e.column f ≡ true
other_place e f low_e low_f same =
    and_from _ _ (eq-eqb f.row e.row (omega arith)) (eq-eqb f.column e.column (omega arith))

-- ---- Entries that do not fall

-- the places do not fall, and none lies before k
abbrev Climb : ℕ → List Entry → Type 0
Climb k [] = Unit {0}
Climb k (e ∷ es) = (k ≤ place_of e) × Climb (place_of e) es

-- no entry names the place of one before it
not_named : (e : Entry) (k : ℕ) (es : List Entry) → place_of e < k → Climb k es → list_any (names e.row e.column) es ≡ false
not_named e k [] lt h = refl
not_named e k (f ∷ es) lt h =
    or_from _ _ (false_from_ne_true _ (λ same. let p = same_place e f same in omega arith)) (not_named e (place_of f) es (omega arith) h.1)

-- ---- Permutations

-- whether two entries name one place
abbrev pub Alike : Entry → Entry → Bool
Alike e f = names e.row e.column f

eqb_flips : (a b : ℕ) → eqb a b ≡ eqb b a
eqb_flips a b = grind (arith, nat_tests)

pub Alike_flips : (e f : Entry) → Alike e f ≡ Alike f e
Alike_flips e f = rw (eqb_flips f.row e.row, eqb_flips f.column e.column) refl

none_alike : (e : Entry) (es : List Entry) → list_any (Alike e) es ≡ false → AllByRecursion (λ f. Alike e f ≡ false) es
none_alike e [] h = tt
none_alike e (f ∷ es) h = let p = or_parts _ _ h in (p.0, none_alike e es p.1)

alike_none : (e : Entry) (es : List Entry) → AllByRecursion (λ f. Alike e f ≡ false) es → list_any (Alike e) es ≡ false
alike_none e [] h = refl
alike_none e (f ∷ es) h = or_from _ _ h.0 (alike_none e es h.1)

distinct_from_none : (es : List Entry) → have_no_repeats es ≡ true → IsDistinct Alike es
unfolding IsDistinct
distinct_from_none [] h = tt
distinct_from_none (e ∷ es) h =
    let p = and_parts _ _ h in (none_alike e es (not-true _ p.0), distinct_from_none es p.1)

none_from_distinct : (es : List Entry) → IsDistinct Alike es → have_no_repeats es ≡ true
unfolding IsDistinct
none_from_distinct [] h = refl
none_from_distinct (e ∷ es) h = and_from _ _ (not_from_false _ (alike_none e es h.0)) (none_from_distinct es h.1)

kept_apart : (es fs : List Entry) → IsPermutation es fs → have_no_repeats es ≡ true → have_no_repeats fs ≡ true
kept_apart es fs p h = none_from_distinct fs (IsDistinct-IsPermutation Alike Alike_flips es fs p (distinct_from_none es h))

-- entries in another order have repeats exactly where they had
pub apart-IsPermutation : (es fs : List Entry) → IsPermutation es fs → have_no_repeats fs ≡ have_no_repeats es
apart-IsPermutation es fs p =
    same_from_decides {P = have_no_repeats es ≡ true} (have_no_repeats fs) (have_no_repeats es) (kept_apart fs es (IsPermutation-sym es fs p), kept_apart es fs p) (λ h. h, λ h. h)

-- ---- Entries that rise

climb-rise : (e : Entry) (es : List Entry) (k : ℕ) → k ≤ place_of e → rise (e ∷ es) ≡ true → Climb k (e ∷ es)
climb-rise e [] k le h = (le, tt)
climb-rise e (f ∷ es) k le h =
    let p = and_parts (ltb (place_of e) (place_of f)) (rise (f ∷ es)) h in
    let lt = ltb-true (place_of e) (place_of f) p.0 in
    (le, climb-rise f es (place_of e) (omega arith) p.1)

-- no two of them name one place
pub apart_rise : (es : List Entry) → rise es ≡ true → have_no_repeats es ≡ true
apart_rise [] h = refl
apart_rise (e ∷ []) h = refl
apart_rise (e ∷ f ∷ es) h =
    let p = and_parts (ltb (place_of e) (place_of f)) (rise (f ∷ es)) h in
    and_from _ _ (not_from_false _ (not_named e (place_of f) (f ∷ es) (ltb-true (place_of e) (place_of f) p.0) (climb-rise f es (place_of f) (omega arith) p.1))) (apart_rise (f ∷ es) p.1)
