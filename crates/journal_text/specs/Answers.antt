-- What a reader of a journal's text answers, and which line it names where there is no journal.
use Rattle.std.specs.Prelude.{◌≡◌, ◌⊎◌, ℕ, ◌+◌, max, Bool, true, ◌==◌, if◌then◌else◌, List, [], ◌∷◌, ◌++◌, length, map, Result, Ok, Err}
use Rattle.cht_ids.specs.Lines.{ended_lines, pieces_of}
use Rattle.cht_history.specs.declared.event.Event.{Event}
use Rattle.cht_history.specs.declared.journal.Journal.{Journal}
use Rattle.journal_text.specs.declared.refused.JournalRefused.{JournalRefused}
use Rattle.journal_text.specs.declared.refused.JournalRefused.TheVariants.{NotJournal, Memory}
use Rattle.journal_text.specs.Text.{journal_lines, journal_text}
use Rattle.journal_text.specs.Bounds.{IsLow, AreWithin}
use Rattle.journal_text.specs.Told.{told}

-- the lines of a text that a line feed ends, each as its pieces between spaces
abbrev pub word_lines : List ℕ → List (List (List ℕ))
word_lines text = map pieces_of (ended_lines text)

-- whether nothing stands behind the last line feed (10) of a text
abbrev pub is_ended : List ℕ → Bool
is_ended [] = true
is_ended (byte ∷ []) = byte == 10
is_ended (byte ∷ next ∷ rest) = is_ended (next ∷ rest)

-- the number of the last line, counted from 1: what stands behind the last line feed is a line too, and an empty text has one
abbrev pub last_line : List ℕ → ℕ
last_line text = max 1 (length (ended_lines text) + (if is_ended text then 0 else 1))

module _ {K : Type 0} (name_of : K → List ℕ) (height_of : K → ℕ) where
  -- some lines stand at the front of some journal's text
  pub record CanBegin (front : List (List (List ℕ))) : Type 0 where
    pub events : List (Event K)
    pub within : AreWithin height_of events
    pub behind : List (List (List ℕ))
    pub lines : front ++ behind ≡ journal_lines name_of height_of events

  -- a line is the first one that no journal's text has after the lines before it
  pub record IsFirstWrong (lines : List (List (List ℕ))) (line : ℕ) : Type 0 where
    pub front : List (List (List ℕ))
    pub wrong : List (List ℕ)
    pub behind : List (List (List ℕ))
    pub split : lines ≡ front ++ wrong ∷ behind
    pub place : line ≡ length front + 1
    pub before : CanBegin front
    pub none : CanBegin (front ++ wrong ∷ []) → ⊥

  -- the line that is named where a text is no journal's: the first wrong one, or the last one where each line could stand there
  abbrev pub IsNamed : List ℕ → ℕ → Type 0
  IsNamed text line = IsFirstWrong (word_lines text) line ⊎ (CanBegin (word_lines text) × (line ≡ last_line text))

  -- Each answer. A journal is within the bounds and has the text, and so is any other with this text, but for what stands in places past
  -- their number. Where there is none, no journal within the bounds has the text; and if there are kinds within the bounds, so that lines of
  -- tasks can follow where they are announced, the line is the one that is named.
  abbrev pub IsAnswer : List ℕ → Result (Journal K) JournalRefused → Type 0
  IsAnswer text (Ok journal) =
      AreWithin height_of journal.events × (journal_text name_of height_of journal.events ≡ text)
      × ((events : List (Event K)) → AreWithin height_of events → journal_text name_of height_of events ≡ text → journal.events ≡ map told events)
  IsAnswer text (Err (NotJournal line)) =
      ((events : List (Event K)) → AreWithin height_of events → journal_text name_of height_of events ≡ text → ⊥)
      × ((kind : K) → IsLow height_of kind → IsNamed text line)
  IsAnswer text (Err Memory) = Unit {0}
