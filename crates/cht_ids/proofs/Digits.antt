-- What digits stand for, front by front.
use Rattle.std.proofs.Common.{◌≡◌, ℕ, ◌+◌, ◌-◌, ◌*◌, ◌^◌, ◌<◌, ◌≤◌, true, false, List, [], ◌∷◌, ◌++◌, length, take, drop, get_or, Some, None, refl, sym, ap, ◌∙◌, subst, inl, inr, arith, length-append}
use Rattle.std.proofs.Math.Nat.{one-le-pow, pow-le-pow_right, mul-le-mul_left, pow-suc}
use Rattle.std.specs.List.{list_all}
use Rattle.std.proofs.lemmas.Nat.{pow-add, same_from_place}
use Rattle.std.proofs.lemmas.List.{take_more, take-append-drop}
use Rattle.std.proofs.lemmas.List.Recursion.{and_fails_at}
use Rattle.std.proofs.lemmas.Bool.{cases_Bool, cases_order}
use Rattle.std.proofs.lemmas.Bool.Decides.{nat_tests}
use Rattle.cht_ids.specs.Numeral.{is_digit, digits_value, unsigned_below, plain_below}

-- digits after digits
pub digits_value-append : (xs ys : List ℕ) → digits_value (xs ++ ys) ≡ digits_value xs * 10 ^ length ys + digits_value ys
digits_value-append [] ys = omega arith
digits_value-append (x ∷ xs) ys =
    let p = pow-add 10 (length xs) (length ys) in
    grind (arith, digits_value-append xs ys, length-append xs ys, p)

-- one digit more
pub digits_value-more : (ds : List ℕ) (i : ℕ) → i < length ds → digits_value (take (i + 1) ds) ≡ digits_value (take i ds) * 10 + (get_or ds i 0 - 48)
digits_value-more ds i lt =
    ap digits_value (take_more ds i 0 lt) ∙ (digits_value-append (take i ds) (get_or ds i 0 ∷ []) ∙ omega arith)

-- a front is at most the whole
pub digits_value-front : (ds : List ℕ) (i : ℕ) → digits_value (take i ds) ≤ digits_value ds
digits_value-front ds i =
    let whole = sym (ap digits_value (take-append-drop i ds)) ∙ digits_value-append (take i ds) (drop i ds) in
    let power = one-le-pow (length (drop i ds)) 10 (omega arith) in
    omega (arith, whole, mul-le-mul_left (digits_value (take i ds)) power)

-- the first of digits, and the others
pub all_digits-parts : (d : ℕ) (ds : List ℕ) → list_all is_digit (d ∷ ds) ≡ true → (48 ≤ d) × (d ≤ 57) × (list_all is_digit ds ≡ true)
all_digits-parts d ds all = (grind (arith, nat_tests), grind (arith, nat_tests), grind (arith, nat_tests))

-- digits are less than the power of ten for as many places
pub digits_value-low : (ds : List ℕ) → list_all is_digit ds ≡ true → digits_value ds < 10 ^ length ds
digits_value-low [] all = omega arith
digits_value-low (d ∷ ds) all =
    let parts = all_digits-parts d ds all in
    let low = digits_value-low ds parts.2 in
    let nine : d - 48 ≤ 9 = omega arith in
    omega (arith, low, mul-le-mul_left (10 ^ length ds) nine, pow-suc 10 (length ds))

-- and where they do not begin with a zero, at least the power for one place less
pub digits_value-high : (d : ℕ) (ds : List ℕ) → 48 < d → 10 ^ length ds ≤ digits_value (d ∷ ds)
digits_value-high d ds plain =
    let one : 1 ≤ d - 48 = omega arith in
    omega (arith, mul-le-mul_left (10 ^ length ds) one)

-- as many digits of one value are the same digits
pub digits_value-same : (xs ys : List ℕ) → list_all is_digit xs ≡ true → list_all is_digit ys ≡ true → length xs ≡ length ys → digits_value xs ≡ digits_value ys → xs ≡ ys
digits_value-same [] [] p q len e = refl
digits_value-same [] (y ∷ ys) p q len e = absurd (omega arith)
digits_value-same (x ∷ xs) [] p q len e = absurd (omega arith)
digits_value-same (x ∷ xs) (y ∷ ys) p q len e =
    let as_long : length xs ≡ length ys = omega arith in
    let xp = all_digits-parts x xs p in
    let yp = all_digits-parts y ys q in
    let y_low = digits_value-low ys yp.2 in
    let P : ℕ → Type 0 = λ n. digits_value ys < 10 ^ n in
    let Q : ℕ → Type 0 = λ n. (x - 48) * 10 ^ length xs + digits_value xs ≡ (y - 48) * 10 ^ n + digits_value ys in
    let parts = same_from_place (x - 48) (digits_value xs) (y - 48) (digits_value ys) (10 ^ length xs) (digits_value-low xs xp.2) (subst P (sym as_long) y_low) (subst Q (sym as_long) e) in
    let first : x ≡ y = omega arith in
    let others = digits_value-same xs ys xp.2 yp.2 as_long parts.1 in
    cc

-- a byte that is no digit
pub unsigned_below-no_digit : (bound : ℕ) (ds : List ℕ) (i : ℕ) → i < length ds → is_digit (get_or ds i 0) ≡ false → unsigned_below bound ds ≡ None
unsigned_below-no_digit bound ds i lt bad =
    let none = and_fails_at (list_all is_digit) is_digit refl (λ _ _. refl) ds i 0 lt bad in
    grind (arith, nat_tests)

-- a front that is too large already
pub unsigned_below-past : (bound : ℕ) (ds : List ℕ) (i : ℕ) → i < length ds → bound ≤ digits_value (take i ds) * 10 + (get_or ds i 0 - 48) → unsigned_below bound ds ≡ None
unsigned_below-past bound ds i lt past =
    let more = digits_value-more ds i lt in
    let front = digits_value-front ds (i + 1) in
    grind (arith, nat_tests)

-- digits below the bound
pub unsigned_below-all : (bound : ℕ) (ds : List ℕ) → 0 < length ds → list_all is_digit ds ≡ true → digits_value ds < bound → unsigned_below bound ds ≡ Some (digits_value ds)
unsigned_below-all bound ds some all low = grind (arith, nat_tests)

-- short digits lie below both bounds
pub unsigned_below-short : (ds : List ℕ) → length ds < 20 → unsigned_below (10 * 2 ^ 60) ds ≡ unsigned_below (2 ^ 128) ds
unsigned_below-short ds few = elim (cases_Bool (list_all is_digit ds)) [ inl all ↦ low all | inr none ↦ grind (arith, nat_tests) ]
  where
    low : list_all is_digit ds ≡ true → unsigned_below (10 * 2 ^ 60) ds ≡ unsigned_below (2 ^ 128) ds
    low all =
        let small = digits_value-low ds all in
        let power = pow-le-pow_right {n = 10} (omega arith) {i = length ds} {j = 19} (omega arith) in
        let below : digits_value ds < 10 * 2 ^ 60 = omega arith in
        grind (arith, nat_tests)

-- where no zero stands before other digits, digits are plain
pub plain_below-plain : (bound : ℕ) (ds : List ℕ) → (get_or ds 0 0 ≡ 48 → length ds ≤ 1) → unsigned_below bound ds ≡ plain_below bound ds
plain_below-plain bound [] h = refl
plain_below-plain bound (d ∷ ds) h = elim (cases_order d 48) [
  | inl zero_byte ↦ (let alone : length ds ≡ 0 = omega (arith, h) in grind (arith, nat_tests))
  | inr other ↦ elim other [ inl low ↦ grind (arith, nat_tests) | inr high ↦ grind (arith, nat_tests) ]
]
