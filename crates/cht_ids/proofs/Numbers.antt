-- The text of a number, as `number_of` and `is_canonical` see it.
use Rattle.std.proofs.Common.{◌≡◌, ℕ, ◌^◌, ◌<◌, true, List, [], ◌∷◌, length, get_or, Some, arith, ℤ, pos, negsuc, suc, ◌-◌, ◌⊎◌, inl, inr, subst, sym, ap, ◌∙◌, ◌≢◌}
use Rattle.std.specs.Int.RustNames.{unsigned_abs, FitsSigned}
use mir.Syntax.{w128}
use Rattle.std.specs.Fmt.{decimal}
use Rattle.std.proofs.lemmas.Bool.{cases_eq}
use Rattle.std.proofs.lemmas.Bool.Decides.{nat_tests}
use Rattle.std.proofs.Math.Nat.{one-le-pow}
use Rattle.cht_ids.specs.Numeral.{digits_value, are_digits, starts_plainly, number_of, number_text, is_canonical}
use Rattle.cht_ids.proofs.Digits.{digits_value-high}
use Rattle.cht_ids.proofs.Spells.{Spells, Spells-decimal, Spells-plain, Spells-same}

-- digits that spell a number, as a word
spelled_plain : (n : ℕ) (ds : List ℕ) → Spells n ds → number_of ds ≡ Some (pos n)
spelled_plain n [] s = absurd (omega (arith, s.some))
spelled_plain n (d ∷ ds) s = grind (arith, nat_tests, s.digits, s.value)

spelled_minus : (n : ℕ) (ds : List ℕ) → Spells (suc n) ds → number_of (45 ∷ ds) ≡ Some (negsuc n)
spelled_minus n ds s = grind (arith, nat_tests, s.digits, s.value, s.some)

canonical_plain : (n : ℕ) (ds : List ℕ) → Spells n ds → is_canonical ds ≡ true
canonical_plain n [] s = absurd (omega (arith, s.some))
canonical_plain n (d ∷ ds) s = grind (arith, nat_tests, s.digits, s.plain, s.zero)

canonical_minus : (n : ℕ) (ds : List ℕ) → Spells (suc n) ds → is_canonical (45 ∷ ds) ≡ true
canonical_minus n ds s = grind (arith, nat_tests, s.digits, s.some, s.plain)

-- a signed number of 128 bits has an absolute value of 128 bits
pub unsigned_abs-lt : (z : ℤ) → FitsSigned w128 z → unsigned_abs z < 2 ^ 128
unsigned_abs-lt (pos n) fits = let low = fits.sfits in omega arith
unsigned_abs-lt (negsuc n) fits = let low = fits.sfits in omega arith

-- each number of 128 bits is spelled by its text
pub spelled : (z : ℤ) → unsigned_abs z < 2 ^ 128 → number_of (number_text z) ≡ Some z
spelled (pos n) low = spelled_plain n (decimal n) (Spells-decimal n (omega arith))
spelled (negsuc n) low = spelled_minus n (decimal (suc n)) (Spells-decimal (suc n) (omega arith))

-- and that text has no needless sign or zero
pub canonical : (z : ℤ) → unsigned_abs z < 2 ^ 128 → is_canonical (number_text z) ≡ true
canonical (pos n) low = canonical_plain n (decimal n) (Spells-decimal n (omega arith))
canonical (negsuc n) low = canonical_minus n (decimal (suc n)) (Spells-decimal (suc n) (omega arith))

-- digits that begin with no zero, and their number, which is above zero
leading : (ds : List ℕ) → are_digits ds ≡ true → 48 < get_or ds 0 0 → (n : ℕ) × Spells (suc n) ds
leading [] p h = absurd (omega arith)
leading (d ∷ ds) p h =
    let large = digits_value-high d ds h in
    let power = one-le-pow (length ds) 10 (omega arith) in
    let value : digits_value (d ∷ ds) ≡ suc (digits_value (d ∷ ds) - 1) = omega (arith, large, power) in
    let plain : starts_plainly (d ∷ ds) ≡ true = grind (arith, nat_tests) in
    let P : ℕ → Type 0 = λ n. Spells n (d ∷ ds) in
    (digits_value (d ∷ ds) - 1, subst P value (Spells-plain (d ∷ ds) p plain))

-- a canonical text of a number from 0 on, and of one below it
abbrev IsPlain : List ℕ → Type 0
IsPlain text = (n : ℕ) × Spells n text × (number_of text ≡ Some (pos n))

abbrev IsMinus : List ℕ → Type 0
IsMinus text = (n : ℕ) × (ds : List ℕ) × (text ≡ 45 ∷ ds) × Spells (suc n) ds × (number_of text ≡ Some (negsuc n))

minus_of : (first : ℕ) (rest : List ℕ) → first ≡ 45 → (n : ℕ) × Spells (suc n) rest → IsMinus (first ∷ rest)
minus_of first rest minus s =
    (s.0, rest, ap (λ x. x ∷ rest) minus, s.1, ap (λ x. number_of (x ∷ rest)) minus ∙ spelled_minus s.0 rest s.1)

plain_of : (text : List ℕ) → are_digits text ≡ true → starts_plainly text ≡ true → IsPlain text
plain_of text digits plain =
    let s = Spells-plain text digits plain in
    (digits_value text, s, spelled_plain _ text s)

shape : (text : List ℕ) → is_canonical text ≡ true → IsPlain text ⊎ IsMinus text
shape [] p = absurd cc
shape (first ∷ rest) p = elim (cases_eq first 45) [ inl minus ↦ inr (from_minus minus) | inr none ↦ inl (from_plain none) ]
  where
    from_minus : first ≡ 45 → IsMinus (first ∷ rest)
    from_minus minus =
        let digits : are_digits rest ≡ true = grind (arith, nat_tests) in
        let high : 48 < get_or rest 0 0 = grind (arith, nat_tests) in
        minus_of first rest minus (leading rest digits high)

    from_plain : first ≢ 45 → IsPlain (first ∷ rest)
    from_plain none = plain_of (first ∷ rest) (grind (arith, nat_tests)) (grind (arith, nat_tests))

-- a number has one canonical text
pub one_text : (a b : List ℕ) → is_canonical a ≡ true → is_canonical b ≡ true → number_of a ≡ number_of b → a ≡ b
one_text a b p q e = go (shape a p) (shape b q)
  where
    go : IsPlain a ⊎ IsMinus a → IsPlain b ⊎ IsMinus b → a ≡ b
    go (inl x) (inl y) =
        let one : x.0 ≡ y.0 = cc (x.2, y.2) in
        let P : ℕ → Type 0 = λ n. Spells n b in
        Spells-same x.0 a b x.1 (subst P (sym one) y.1)
    go (inl x) (inr y) = absurd (cc (x.2, y.4))
    go (inr x) (inl y) = absurd (cc (x.4, y.2))
    go (inr x) (inr y) =
        let one : x.0 ≡ y.0 = cc (x.4, y.4) in
        let P : ℕ → Type 0 = λ n. Spells (suc n) y.1 in
        x.2 ∙ (ap (λ ds. 45 ∷ ds) (Spells-same (suc x.0) x.1 y.1 x.3 (subst P (sym one) y.3)) ∙ sym y.2)
