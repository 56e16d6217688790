-- Decimal numerals: what digits stand for, and the one text of each number.
use Rattle.std.specs.Prelude.{ℕ, ◌+◌, ◌-◌, ◌*◌, ◌^◌, ℤ, pos, negsuc, neg_ℤ, Bool, ◌&&◌, ◌||◌, ◌==◌, false, slice_index, nat_lt, nat_le, if◌then◌else◌, List, [], ◌∷◌, length, Option, None, Some}
use Rattle.std.specs.List.{list_all}
use Rattle.std.specs.Fmt.{signed_decimal}

-- a decimal digit, `0` to `9` in ASCII
abbrev pub is_digit : ℕ → Bool
is_digit byte = nat_le 48 byte && nat_le byte 57

-- the number that digits stand for: each digit, times ten for each digit that follows it
abbrev pub digits_value : List ℕ → ℕ
digits_value [] = 0
digits_value (digit ∷ digits) = (digit - 48) * 10 ^ length digits + digits_value digits

-- one digit or more, and nothing else
abbrev pub are_digits : List ℕ → Bool
are_digits digits = nat_lt 0 (length digits) && list_all is_digit digits

-- the number of digits without a sign, or nothing where they are no digits
abbrev pub unsigned_of : List ℕ → Option ℕ
unsigned_of digits = if are_digits digits then Some (digits_value digits) else None

-- the number of digits without a sign where it lies below a bound, or nothing
abbrev pub unsigned_below : ℕ → List ℕ → Option ℕ
unsigned_below bound digits =
    if are_digits digits && nat_lt (digits_value digits) bound then Some (digits_value digits) else None

-- the number as it is
abbrev pub positive : Option ℕ → Option ℤ
positive None = None
positive (Some n) = Some (pos n)

-- the number with its sign turned
abbrev pub negative : Option ℕ → Option ℤ
negative None = None
negative (Some n) = Some (neg_ℤ (pos n))

-- the number that a word spells: an optional `+` (43) or `-` (45), then one digit or more
abbrev pub number_of : List ℕ → Option ℤ
number_of [] = None
number_of (first ∷ rest) =
    if first == 43 then positive (unsigned_of rest) else if first == 45 then negative (unsigned_of rest) else positive (unsigned_of (first ∷ rest))

-- whether a number lies in the signed range of 64 bits
abbrev pub fits_64 : ℤ → Bool
fits_64 (pos n) = nat_lt n (2 ^ 63)
fits_64 (negsuc n) = nat_lt n (2 ^ 63)

-- the number where it lies in that range
abbrev pub within_64 : Option ℤ → Option ℤ
within_64 None = None
within_64 (Some z) = if fits_64 z then Some z else None

-- the number of 64 bits that a word spells, or nothing where it is no numeral or leaves the range
abbrev pub number_64 : List ℕ → Option ℤ
number_64 word = within_64 (number_of word)

-- the text of a number: its digits without leading zeros, after a `-` for a negative one
abbrev pub number_text : ℤ → List ℕ
number_text z = signed_decimal z

-- digits that do not begin with a zero (48), or the one digit `0`
abbrev pub starts_plainly : List ℕ → Bool
starts_plainly [] = false
starts_plainly (first ∷ rest) = nat_lt 48 first || (length rest == 0)

-- the number of plain digits where it lies below a bound, or nothing
abbrev pub plain_below : ℕ → List ℕ → Option ℕ
plain_below bound digits = if starts_plainly digits then unsigned_below bound digits else None

-- a text that number_text may write: plain digits, or `-` (45) and plain digits that are not `0`
abbrev pub is_canonical : List ℕ → Bool
is_canonical [] = false
is_canonical (first ∷ rest) =
    if first == 45 then are_digits rest && nat_lt 48 (slice_index rest 0) else are_digits (first ∷ rest) && starts_plainly (first ∷ rest)
