-- The words of a script: names, numbers, and the lines that are skipped.
use Rattle.std.specs.Prelude.{ℕ, Bool, true, false, ◌&&◌, ◌||◌, ◌==◌, nat_le, if◌then◌else◌, List, [], ◌∷◌, length, codes, Option, None, Some, option_map, option_and_then}
use Rattle.std.specs.List.{list_all}
use Rattle.std.specs.Str.{bytes_eq}
use Rattle.cht_ids.specs.Numeral.{is_digit, number_64}
use Rattle.mm_text.specs.Lines.{words_of}
use Rattle.mm_text.specs.Block.{lies_within, natural}

-- ---- Names

-- an ASCII letter
abbrev pub is_letter : ℕ → Bool
is_letter byte = (nat_le 65 byte && nat_le byte 90) || (nat_le 97 byte && nat_le byte 122)

-- a letter, a digit or `_` (95)
abbrev pub is_name_byte : ℕ → Bool
is_name_byte byte = is_letter byte || is_digit byte || byte == 95

-- a letter, then letters, digits and `_`, 1 to 32 bytes in all
abbrev pub is_name : List ℕ → Bool
is_name [] = false
is_name (first ∷ rest) = is_letter first && list_all is_name_byte rest && nat_le (length (first ∷ rest)) 32

-- ---- The grid line

-- a number from 1 to the largest
abbrev pub number_to : ℕ → List ℕ → Option ℕ
number_to largest word =
    option_and_then (λ z. if lies_within 1 largest z then Some (natural z) else None) (number_64 word)

-- the words `grid N leaf B`: the largest number of rows and columns, 1 to 4096, and the side of a leaf block, 1 to 64
abbrev pub grid_of : List (List ℕ) → Option (ℕ × ℕ)
grid_of (a ∷ grid ∷ b ∷ leaf ∷ []) =
    if bytes_eq a (codes "grid") && bytes_eq b (codes "leaf")
    then option_and_then (λ n. option_map (λ m. (n, m)) (number_to 64 leaf)) (number_to 4096 grid)
    else None
grid_of words = None

-- ---- Lines that are skipped

-- whether a word begins with this byte
abbrev pub begins_with : ℕ → List ℕ → Bool
begins_with mark [] = false
begins_with mark (byte ∷ rest) = byte == mark

-- no words, or those of a comment, whose first word begins with `#` (35)
abbrev pub say_nothing : List (List ℕ) → Bool
say_nothing [] = true
say_nothing (word ∷ words) = begins_with 35 word

-- a line without words, or a comment
abbrev pub is_skipped : List ℕ → Bool
is_skipped line = say_nothing (words_of line)
