-- Plain digits of a number: `decimal` writes them, and there are no others.
use Rattle.std.proofs.Common.{◌≡◌, ℕ, ◌+◌, ◌/◌, ◌%◌, ◌^◌, ◌<◌, ◌≤◌, true, List, [], ◌∷◌, ◌++◌, length, get_or, refl, sym, ◌∙◌, zero, suc, inl, inr, arith, length-append}
use Rattle.std.specs.List.{list_all}
use Rattle.std.specs.Fmt.{decimal}
use Rattle.std.proofs.Math.Nat.{pow-le-pow_right, one-le-pow}
use Rattle.std.proofs.lemmas.Fmt.{decimal_by_steps_wide}
use Rattle.std.proofs.lemmas.List.{get_or_append_left}
use Rattle.std.proofs.lemmas.List.Folds.{list_all-append}
use Rattle.std.proofs.lemmas.Bool.{cases_lt}
use Rattle.std.proofs.lemmas.Bool.Decides.{nat_tests}
use Rattle.cht_ids.specs.Numeral.{is_digit, digits_value, are_digits, starts_plainly}
use Rattle.cht_ids.proofs.Digits.{digits_value-append, digits_value-low, digits_value-high, digits_value-same}

-- digits that spell n with no zero before them
pub record Spells (n : ℕ) (ds : List ℕ) : Type 0 where
  pub some : 0 < length ds
  pub digits : list_all is_digit ds ≡ true
  pub value : digits_value ds ≡ n
  pub plain : 0 < n → 48 < get_or ds 0 0
  pub zero : n ≡ 0 → length ds ≡ 1

Spells-one : (n : ℕ) → n < 10 → Spells n ((48 + n) ∷ [])
Spells-one n low = record {
  some = omega arith;
  digits = grind (arith, nat_tests);
  value = omega arith;
  plain = λ h. omega arith;
  zero = λ h. refl;
}

Spells-more : (n : ℕ) (ds : List ℕ) → 10 ≤ n → Spells (n / 10) ds → Spells n (ds ++ ((48 + n % 10) ∷ []))
Spells-more n ds high s = record {
  some = omega (arith, length-append ds ((48 + n % 10) ∷ []));
  digits = grind (arith, nat_tests, list_all-append is_digit ds ((48 + n % 10) ∷ []), s.digits);
  value = omega (arith, digits_value-append ds ((48 + n % 10) ∷ []), s.value);
  plain = λ h. rw (get_or_append_left ds ((48 + n % 10) ∷ []) 0 0 s.some) (s.plain (omega arith));
  zero = λ h. omega arith;
}

pub Spells-decimal : (n : ℕ) → n < 10 ^ 64 → Spells n (decimal n)
Spells-decimal = decimal_by_steps_wide Spells Spells-one Spells-more

-- a text that starts plainly spells its value
pub Spells-plain : (ds : List ℕ) → are_digits ds ≡ true → starts_plainly ds ≡ true → Spells (digits_value ds) ds
Spells-plain [] p q = absurd cc
Spells-plain (d ∷ []) p q = record {
  some = omega arith;
  digits = grind (arith, nat_tests);
  value = refl;
  plain = λ h. omega arith;
  zero = λ h. refl;
}
Spells-plain (d ∷ e ∷ es) p q =
    let high : 48 < d = grind (arith, nat_tests) in
    let large = digits_value-high d (e ∷ es) high in
    let power = one-le-pow (length (e ∷ es)) 10 (omega arith) in
    record {
      some = omega arith;
      digits = grind (arith, nat_tests);
      value = refl;
      plain = λ h. high;
      zero = λ h. absurd (omega (arith, large, power));
    }

-- a power of ten below another has the lower exponent
pow_order : (i j : ℕ) → 10 ^ i < 10 ^ j → i < j
pow_order i j lt =
    elim (cases_lt i j) [ inl h ↦ h | inr h ↦ absurd (omega (arith, pow-le-pow_right {n = 10} (omega arith) {i = j} {j = i} h)) ]

-- how long the digits of a number above zero are
Spells-high : (n : ℕ) (ds : List ℕ) → Spells n ds → 0 < n → (k : ℕ) × (length ds ≡ k + 1) × (10 ^ k ≤ n)
Spells-high n [] s above = absurd (omega (arith, s.some))
Spells-high n (d ∷ ds) s above = (length ds, omega arith, omega (arith, s.value, digits_value-high d ds (s.plain above)))

Spells-as_long : (n : ℕ) (xs ys : List ℕ) → Spells n xs → Spells n ys → length xs ≤ length ys
Spells-as_long zero xs ys s t = omega (arith, s.zero refl, t.some)
Spells-as_long (suc n) xs ys s t =
    let high = Spells-high (suc n) xs s (omega arith) in
    let low = digits_value-low ys t.digits in
    let less = pow_order high.0 (length ys) (omega (arith, high.2, low, t.value)) in
    omega (arith, high.1, less)

-- a number has one plain text
pub Spells-same : (n : ℕ) (xs ys : List ℕ) → Spells n xs → Spells n ys → xs ≡ ys
Spells-same n xs ys s t = digits_value-same xs ys s.digits t.digits (omega (arith, Spells-as_long n xs ys s t, Spells-as_long n ys xs t s)) (s.value ∙ sym t.value)
