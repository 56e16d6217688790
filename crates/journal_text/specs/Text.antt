-- The text of a journal: lines of words.
use Rattle.std.specs.Prelude.{ℕ, pos, List, [], ◌∷◌, ◌++◌, length, map, codes}
use Rattle.std.specs.List.{flat_map}
use Rattle.cht_ids.specs.Numeral.{number_text}
use Rattle.cht_ids.specs.Refs.{id_text, ref_text}
use Rattle.task_types.specs.declared.outcome.Place.{Place}
use Rattle.task_types.specs.declared.outcome.Place.TheVariants.{Null, Input, Child, Chunk, Task}
use Rattle.task_types.specs.declared.outcome.Places.{Places}
use Rattle.task_types.specs.declared.outcome.NewTask.{NewTask}
use Rattle.task_types.specs.Places.{places_of}
use Rattle.cht_history.specs.declared.event.Event.{Event}
use Rattle.cht_history.specs.declared.event.Event.TheVariants.{Register, Copy, Delete, Ask, Collect, Abandon, Stop, Start, GiveBack, Finish}

-- ---- Lines

-- a word behind others: a space (32) and the word
abbrev pub spaced : List ℕ → List ℕ
spaced word = 32 ∷ word

-- the line of some words: one space between two of them
abbrev pub line_of : List (List ℕ) → List ℕ
line_of [] = []
line_of (word ∷ words) = word ++ flat_map spaced words

-- the line with the line feed (10) that ends it
abbrev pub ended_line : List (List ℕ) → List ℕ
ended_line words = line_of words ++ 10 ∷ []

-- ---- Words

-- a number in decimal
abbrev pub number : ℕ → List ℕ
number n = number_text (pos n)

-- a place: `-`, `i` and an input's number, `c`, an input's number, a point (46) and a child's, `k` and a chunk's number, or `t` and a task's
abbrev pub place_text : Place → List ℕ
place_text Null = codes "-"
place_text (Input i) = 105 ∷ number i
place_text (Child i j) = 99 ∷ number i ++ 46 ∷ number j
place_text (Chunk i) = 107 ∷ number i
place_text (Task i) = 116 ∷ number i

-- the line of a new chunk: its child places
abbrev pub chunk_words : Places → List (List ℕ)
chunk_words places = codes "chunk" ∷ map place_text (places_of places)

-- the first line of a text
abbrev pub first_words : List (List ℕ)
first_words = codes "cht" ∷ codes "journal" ∷ codes "1" ∷ []

-- the last line of a text: how many events there are
abbrev pub last_words : ℕ → List (List ℕ)
last_words count = codes "end" ∷ number count ∷ []

-- ---- Events, over kinds with these names and heights

module _ {K : Type 0} (name_of : K → List ℕ) (height_of : K → ℕ) where
  -- the line of a new task: name, height, and its input places
  abbrev pub task_words : NewTask K → List (List ℕ)
  task_words task = codes "task" ∷ name_of task.kind ∷ number (height_of task.kind) ∷ map place_text (places_of task.inputs)

  -- the first line of an event: what happened, who did it, and with what
  abbrev pub event_words : Event K → List (List ℕ)
  event_words (Register caller id children) = codes "register" ∷ number caller ∷ id_text id ∷ map ref_text children
  event_words (Copy caller from to) = codes "copy" ∷ number caller ∷ id_text from ∷ id_text to ∷ []
  event_words (Delete caller id) = codes "delete" ∷ number caller ∷ id_text id ∷ []
  event_words (Ask caller task kind inputs) =
      codes "ask" ∷ number caller ∷ number task ∷ name_of kind ∷ number (height_of kind) ∷ map ref_text inputs
  event_words (Collect caller task got) = codes "collect" ∷ number caller ∷ number task ∷ ref_text got ∷ []
  event_words (Abandon caller) = codes "abandon" ∷ number caller ∷ []
  event_words (Stop caller) = codes "stop" ∷ number caller ∷ []
  event_words (Start worker task) = codes "start" ∷ number worker ∷ number task ∷ []
  event_words (GiveBack worker task) = codes "give_back" ∷ number worker ∷ number task ∷ []
  event_words (Finish worker task chunks tasks result) =
      codes "finish" ∷ number worker ∷ number task ∷ number (length chunks) ∷ number (length tasks) ∷ place_text result ∷ []

  -- the lines behind it: of a finish, the new chunks and then the new tasks
  abbrev pub further_lines : Event K → List (List (List ℕ))
  further_lines (Register caller id children) = []
  further_lines (Copy caller from to) = []
  further_lines (Delete caller id) = []
  further_lines (Ask caller task kind inputs) = []
  further_lines (Collect caller task got) = []
  further_lines (Abandon caller) = []
  further_lines (Stop caller) = []
  further_lines (Start worker task) = []
  further_lines (GiveBack worker task) = []
  further_lines (Finish worker task chunks tasks result) = map chunk_words chunks ++ map task_words tasks

  -- all lines of an event
  abbrev pub event_lines : Event K → List (List (List ℕ))
  event_lines event = event_words event ∷ further_lines event

  -- the lines of a journal, each as its words
  abbrev pub journal_lines : List (Event K) → List (List (List ℕ))
  journal_lines events = first_words ∷ flat_map event_lines events ++ last_words (length events) ∷ []

  -- the text of a journal
  abbrev pub journal_text : List (Event K) → List ℕ
  journal_text events = flat_map ended_line (journal_lines events)
