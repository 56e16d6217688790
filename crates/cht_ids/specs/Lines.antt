-- Texts as lines, and lines as words with single spaces between them.
use Rattle.std.specs.Prelude.{ℕ, ◌==◌, if◌then◌else◌, List, [], ◌∷◌, ◌++◌}

-- a byte in front of the first piece
abbrev pub onto_first : ℕ → List (List ℕ) → List (List ℕ)
onto_first byte [] = []
onto_first byte (piece ∷ pieces) = (byte ∷ piece) ∷ pieces

-- The lines of a text that a line feed (10) ends, without it. What stands after the last line feed is no line.
abbrev pub ended_lines : List ℕ → List (List ℕ)
ended_lines [] = []
ended_lines (byte ∷ rest) = if byte == 10 then [] ∷ ended_lines rest else onto_first byte (ended_lines rest)

-- the text of lines, each ended by a line feed
abbrev pub joined_lines : List (List ℕ) → List ℕ
joined_lines [] = []
joined_lines (line ∷ lines) = line ++ 10 ∷ joined_lines lines

-- the pieces of a line between its spaces (32), perhaps empty ones: one more than it has spaces
abbrev pub pieces_of : List ℕ → List (List ℕ)
pieces_of [] = [] ∷ []
pieces_of (byte ∷ rest) = if byte == 32 then [] ∷ pieces_of rest else onto_first byte (pieces_of rest)
