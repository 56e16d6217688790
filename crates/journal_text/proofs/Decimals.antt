-- Words that are the decimal texts of numbers.
use Rattle.std.specs.Prelude.{IfSome}
use Rattle.std.proofs.Common.{◌≡◌, ℕ, ◌^◌, ◌<◌, true, List, [], ◌∷◌, Option, None, Some, sym, subst, arith, pos}
use Rattle.std.specs.Fmt.{decimal}
use Rattle.std.proofs.lemmas.Bool.Decides.{nat_tests}
use Rattle.cht_ids.specs.Numeral.{digits_value, are_digits, starts_plainly, plain_below, number_text}
use Rattle.cht_ids.proofs.Spells.{Spells, Spells-decimal, Spells-same, Spells-plain}

-- plain digits of a number that is low enough
plain_spells : (bound n : ℕ) (word : List ℕ) → plain_below bound word ≡ Some n → Spells n word × (n < bound)
plain_spells bound n word e =
    let plain : starts_plainly word ≡ true = grind (arith, nat_tests) in
    let digits : are_digits word ≡ true = grind (arith, nat_tests) in
    let value : digits_value word ≡ n = grind (arith, nat_tests) in
    let low : digits_value word < bound = grind (arith, nat_tests) in
    let P : ℕ → Type 0 = λ m. Spells m word in
    (subst P value (Spells-plain word digits plain), omega arith)

spells_plain : (bound n : ℕ) (word : List ℕ) → n < bound → Spells n word → plain_below bound word ≡ Some n
spells_plain bound n [] low s = absurd (omega (arith, s.some))
spells_plain bound n (digit ∷ digits) low s = grind (arith, nat_tests, s.digits, s.value, s.plain, s.zero)

-- the text of a number that is low enough, and no other word
pub plain_text : (o : Option ℕ) (word : List ℕ) → o ≡ plain_below (2 ^ 128) word → IfSome o (λ n. number_text (pos n) ≡ word)
plain_text None word e = tt
plain_text (Some n) word e =
    let s = plain_spells (2 ^ 128) n word (sym e) in
    Spells-same n (decimal n) word (Spells-decimal n (omega (arith, s.1))) s.0

pub text_plain : (n : ℕ) (word : List ℕ) → n < 2 ^ 128 → number_text (pos n) ≡ word → plain_below (2 ^ 128) word ≡ Some n
text_plain n word low e =
    let P : List ℕ → Type 0 = λ text. plain_below (2 ^ 128) text ≡ Some n in
    subst P e (spells_plain (2 ^ 128) n (decimal n) low (Spells-decimal n (omega arith)))
