-- Texts as lines, and lines as words.
use Rattle.std.specs.Prelude.{ℕ, Bool, false, ◌&&◌, ◌||◌, ◌==◌, not, nat_le, if◌then◌else◌, List, [], ◌∷◌, map}
use Rattle.std.specs.List.{list_all}
use Rattle.cht_ids.specs.Lines.{onto_first}

-- a byte in front of the first line, and as a line of its own where there is none
abbrev pub onto_line : ℕ → List (List ℕ) → List (List ℕ)
onto_line byte [] = (byte ∷ []) ∷ []
onto_line byte (line ∷ lines) = (byte ∷ line) ∷ lines

-- The lines of a text, without their line feeds (10). A last piece that no line feed ends is a line where it is not
-- empty.
abbrev pub cut_lines : List ℕ → List (List ℕ)
cut_lines [] = []
cut_lines (byte ∷ rest) = if byte == 10 then [] ∷ cut_lines rest else onto_line byte (cut_lines rest)

-- a line without the one carriage return (13) at its end, if there is one
abbrev pub without_return : List ℕ → List ℕ
without_return [] = []
without_return (byte ∷ []) = if byte == 13 then [] else byte ∷ []
without_return (byte ∷ next ∷ rest) = byte ∷ without_return (next ∷ rest)

-- the lines of a text, whether line feeds end them or carriage returns and line feeds
abbrev pub lines_of : List ℕ → List (List ℕ)
lines_of text = map without_return (cut_lines text)

-- a space (32) or a tab (9)
abbrev pub is_blank : ℕ → Bool
is_blank byte = byte == 32 || byte == 9

-- whether a line begins with a word
abbrev pub begins_word : List ℕ → Bool
begins_word [] = false
begins_word (byte ∷ rest) = not (is_blank byte)

-- the words of a line: its longest pieces without a blank
abbrev pub words_of : List ℕ → List (List ℕ)
words_of [] = []
words_of (byte ∷ rest) =
    if is_blank byte then words_of rest
    else if begins_word rest then onto_first byte (words_of rest) else (byte ∷ []) ∷ words_of rest

-- a tab, or a printed character of ASCII or a space
abbrev pub is_text_byte : ℕ → Bool
is_text_byte byte = byte == 9 || (nat_le 32 byte && nat_le byte 126)

-- whether a line has no other bytes
abbrev pub is_text : List ℕ → Bool
is_text line = list_all is_text_byte line
