-- Lines of numerals are text.
use Rattle.std.proofs.Common.{◌≡◌, ◌⊎◌, ℕ, inl, inr, true, false, cond, eqb, List, [], ◌∷◌, length, Option, None, Some, is_none, ℤ, refl, sym, ap, ◌∙◌, arith}
use Rattle.std.specs.List.{list_all}
use Rattle.std.proofs.lemmas.Bool.{cases_Bool, cond-true, cond-false, and_parts, and_from, or_parts, eqb-true, true≢false, not-true}
use Rattle.std.proofs.lemmas.Bool.Decides.{nat_tests}
use Rattle.cht_ids.specs.Lines.{onto_first}
use Rattle.cht_ids.specs.Numeral.{is_digit, are_digits, unsigned_of, positive, negative, within_64, number_64}
use Rattle.mm_text.specs.Lines.{is_blank, begins_word, words_of, is_text_byte, is_text}
use Rattle.mm_text.specs.Block.{are_numerals, numbers_of, three_of}

-- ---- Numerals

digit_text : (byte : ℕ) → is_digit byte ≡ true → is_text_byte byte ≡ true
digit_text byte h = grind (arith, nat_tests)

digits_text : (digits : List ℕ) → list_all is_digit digits ≡ true → is_text digits ≡ true
digits_text [] h = refl
digits_text (digit ∷ digits) h = let p = and_parts _ _ h in and_from _ _ (digit_text digit p.0) (digits_text digits p.1)

-- where a sign and digits give a number, the digits are digits
signed_digits : (sign : Option ℕ → Option ℤ) (digits : List ℕ) (z : ℤ) → sign None ≡ None → within_64 (sign (unsigned_of digits)) ≡ Some z → is_text digits ≡ true
signed_digits sign digits z none h =
    elim (cases_Bool (are_digits digits)) [
      | inl good ↦ digits_text digits (and_parts _ _ good).1
      | inr bad ↦
          let e : within_64 (sign (unsigned_of digits)) ≡ None = ap (λ o. within_64 (sign o)) (cond-false _ _ _ bad) ∙ ap within_64 none in
          absurd cc
    ]

sign_text : (first sign : ℕ) (rest : List ℕ) → is_text_byte sign ≡ true → eqb first sign ≡ true → is_text rest ≡ true → is_text (first ∷ rest) ≡ true
sign_text first sign rest h same text = and_from _ _ (rw (eqb-true first sign same) h) text

numeral_text : (word : List ℕ) (z : ℤ) → number_64 word ≡ Some z → is_text word ≡ true
numeral_text [] z h = refl
numeral_text (first ∷ rest) z h =
    let plain = positive (unsigned_of (first ∷ rest)) in
    let below = negative (unsigned_of rest) in
    let above = positive (unsigned_of rest) in
    elim (cases_Bool (eqb first 43)) [
      | inl plus ↦ sign_text first 43 rest refl plus (signed_digits positive rest z refl (ap within_64 (sym (cond-true (eqb first 43) above (cond (eqb first 45) below plain) plus)) ∙ h))
      | inr other ↦
          let k = ap within_64 (sym (cond-false (eqb first 43) above (cond (eqb first 45) below plain) other)) ∙ h in
          elim (cases_Bool (eqb first 45)) [
            | inl minus ↦ sign_text first 45 rest refl minus (signed_digits negative rest z refl (ap within_64 (sym (cond-true (eqb first 45) below plain minus)) ∙ k))
            | inr neither ↦ signed_digits positive (first ∷ rest) z refl (ap within_64 (sym (cond-false (eqb first 45) below plain neither)) ∙ k)
          ]
    ]

-- ---- Words

blank_text : (byte : ℕ) → is_blank byte ≡ true → is_text_byte byte ≡ true
blank_text byte h = grind (arith, nat_tests)

begins_words : (line : List ℕ) → begins_word line ≡ true → (word : List ℕ) × (words : List (List ℕ)) × (words_of line ≡ word ∷ words)
begins_words [] h = absurd (true≢false (sym h))
begins_words (byte ∷ []) h = (byte ∷ [], [], rw (not-true _ h) refl)
begins_words (byte ∷ next ∷ rest) h =
    elim (cases_Bool (begins_word (next ∷ rest))) [
      | inl more ↦ let (word, words, is) = begins_words (next ∷ rest) more in (
        byte ∷ word,
        words,
        cond-false (is_blank byte) _ _ (not-true _ h) ∙ cond-true (begins_word (next ∷ rest)) _ _ more ∙ ap (onto_first byte) is,
      )
      | inr end ↦ (byte ∷ [], words_of (next ∷ rest), cond-false (is_blank byte) _ _ (not-true _ h) ∙ cond-false (begins_word (next ∷ rest)) _ _ end)
    ]

words_text : (line : List ℕ) → list_all is_text (words_of line) ≡ true → is_text line ≡ true
words_text [] h = refl
words_text (byte ∷ rest) h =
    elim (cases_Bool (is_blank byte)) [
      | inl blank ↦ and_from _ _ (blank_text byte blank) (words_text rest (ap (list_all is_text) (sym (cond-true (is_blank byte) _ _ blank)) ∙ h))
      | inr part ↦
          let k = ap (list_all is_text) (sym (cond-false (is_blank byte) (words_of rest) (cond (begins_word rest) (onto_first byte (words_of rest)) ((byte ∷ []) ∷ words_of rest)) part)) ∙ h in
          elim (cases_Bool (begins_word rest)) [
            | inl more ↦
                let (word, words, is) = begins_words rest more in
                let l : list_all is_text ((byte ∷ word) ∷ words) ≡ true =
                ap (list_all is_text) (sym (cond-true (begins_word rest) (onto_first byte (words_of rest)) ((byte ∷ []) ∷ words_of rest) more ∙ ap (onto_first byte) is)) ∙ k in
                let p = and_parts _ _ l in
                let q = and_parts _ _ p.0 in
                and_from _ _ q.0 (words_text rest (rw is (and_from _ _ q.1 p.1)))
            | inr end ↦
                let l : list_all is_text ((byte ∷ []) ∷ words_of rest) ≡ true =
                ap (list_all is_text) (sym (cond-false (begins_word rest) (onto_first byte (words_of rest)) ((byte ∷ []) ∷ words_of rest) end)) ∙ k in
                let p = and_parts _ _ l in
                let q = and_parts _ _ p.0 in
                and_from _ _ q.0 (words_text rest p.1)
          ]
    ]

-- ---- Three numbers

numeral : (word : List ℕ) (z : ℤ) → number_64 word ≡ Some z → is_none (number_64 word) ≡ false
numeral word z h = rw h refl

-- three words that give numbers
record AreThree (words : List (List ℕ)) : Type 0 where
  texts : list_all is_text words ≡ true
  numerals : are_numerals words ≡ true
  three : length words ≡ 3

given : (o : Option ℤ) → ((z : ℤ) × (o ≡ Some z)) ⊎ (o ≡ None)
given None = inr refl
given (Some z) = inl (z, refl)

three_words : (words : List (List ℕ)) (n : ℤ × ℤ × ℤ) → numbers_of words ≡ Some n → AreThree words
three_words [] n h = absurd cc
three_words (a ∷ []) n h = absurd cc
three_words (a ∷ b ∷ []) n h = absurd cc
three_words (a ∷ b ∷ c ∷ d ∷ rest) n h = absurd cc
three_words (a ∷ b ∷ c ∷ []) n h =
    elim (given (number_64 a)) [
      | inr none ↦ let e : numbers_of (a ∷ b ∷ c ∷ []) ≡ None = rw none refl in absurd cc
      | inl x ↦ elim (given (number_64 b)) [
        | inr none ↦ let e : numbers_of (a ∷ b ∷ c ∷ []) ≡ None = rw (x.1, none) refl in absurd cc
        | inl y ↦ elim (given (number_64 c)) [
          | inr none ↦ let e : numbers_of (a ∷ b ∷ c ∷ []) ≡ None = rw (x.1, y.1, none) refl in absurd cc
          | inl z ↦ record {
            texts = rw (numeral_text a x.0 x.1, numeral_text b y.0 y.1, numeral_text c z.0 z.1) refl;
            numerals = rw (x.1, y.1, z.1) refl;
            three = refl;
          }
        ]
      ]
    ]

-- a line of three numbers is text, and has three words, which are numerals
pub three_text : (line : List ℕ) (n : ℤ × ℤ × ℤ) → three_of line ≡ Some n → is_text line ≡ true
three_text line n h = words_text line (three_words (words_of line) n h).texts

pub three_numerals : (line : List ℕ) (n : ℤ × ℤ × ℤ) → three_of line ≡ Some n → are_numerals (words_of line) ≡ true
three_numerals line n h = (three_words (words_of line) n h).numerals

pub three_long : (line : List ℕ) (n : ℤ × ℤ × ℤ) → three_of line ≡ Some n → length (words_of line) ≡ 3
three_long line n h = (three_words (words_of line) n h).three

-- three numerals are three numbers
some_numeral : (o : Option ℤ) → is_none o ≡ false → (z : ℤ) × (o ≡ Some z)
some_numeral None h = absurd (true≢false h)
some_numeral (Some z) h = (z, refl)

numbers_some : (a b c : List ℕ) (x y z : ℤ) → number_64 a ≡ Some x → number_64 b ≡ Some y → number_64 c ≡ Some z → numbers_of (a ∷ b ∷ c ∷ []) ≡ Some (x, y, z)
numbers_some a b c x y z p q r = rw (p, q, r) refl

three_from : (words : List (List ℕ)) → are_numerals words ≡ true → length words ≡ 3 → (n : ℤ × ℤ × ℤ) × (numbers_of words ≡ Some n)
three_from [] h l = absurd (omega arith)
three_from (a ∷ []) h l = absurd (omega arith)
three_from (a ∷ b ∷ []) h l = absurd (omega arith)
three_from (a ∷ b ∷ c ∷ d ∷ rest) h l = absurd (omega arith)
three_from (a ∷ b ∷ c ∷ []) h l =
    let p = or_parts _ _ (not-true _ h) in
    let q = or_parts _ _ p.1 in
    let r = or_parts _ _ q.1 in
    let x = some_numeral (number_64 a) p.0 in
    let y = some_numeral (number_64 b) q.0 in
    let z = some_numeral (number_64 c) r.0 in
    ((x.0, y.0, z.0), numbers_some a b c x.0 y.0 z.0 x.1 y.1 z.1)

pub numbers_there : (line : List ℕ) → are_numerals (words_of line) ≡ true → length (words_of line) ≡ 3 → (n : ℤ × ℤ × ℤ) × (three_of line ≡ Some n)
numbers_there line h l = three_from (words_of line) h l
