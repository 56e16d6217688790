-- What holds of the texts of numbers and references, beside what the functions promise.
use Rattle.std.specs.Prelude.{◌≡◌, ℕ, ◌^◌, ◌<◌, ℤ, true, List, Some}
use Rattle.std.specs.Int.RustNames.{unsigned_abs}
use Rattle.cht_ids.specs.Numeral.{number_of, number_text, is_canonical}
use Rattle.cht_ids.specs.declared.refs.Ref.{Ref}
use Rattle.cht_ids.specs.Refs.{IsRef, ref_text}

-- the text of each number of 128 bits spells it, without needless signs and zeros
abbrev pub TextsSpellNumbers : Type 0
TextsSpellNumbers =
    (z : ℤ) → unsigned_abs z < 2 ^ 128 → (number_of (number_text z) ≡ Some z) × (is_canonical (number_text z) ≡ true)

-- no two texts without needless signs and zeros spell the same number
abbrev pub NumbersHaveOneText : Type 0
NumbersHaveOneText =
    (a b : List ℕ) → is_canonical a ≡ true → is_canonical b ≡ true → number_of a ≡ number_of b → a ≡ b

-- no two references have the same text
abbrev pub TextsHaveOneRef : Type 0
TextsHaveOneRef = (r s : Ref) → IsRef r → IsRef s → ref_text r ≡ ref_text s → r ≡ s
