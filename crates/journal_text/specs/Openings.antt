-- An event's text in two parts: what fits the buffer at once, and what stands behind it.
use Rattle.std.specs.Prelude.{ℕ, List, [], ◌∷◌, ◌++◌, codes}
use Rattle.std.specs.List.{flat_map}
use Rattle.cht_ids.specs.Refs.{id_text, ref_text}
use Rattle.cht_ids.specs.declared.refs.Ref.{Ref}
use Rattle.task_types.specs.declared.outcome.Places.{Places}
use Rattle.task_types.specs.declared.outcome.NewTask.{NewTask}
use Rattle.cht_history.specs.declared.event.Event.{Event}
use Rattle.cht_history.specs.declared.event.Event.TheVariants.{Register, Copy, Delete, Ask, Collect, Abandon, Stop, Start, GiveBack, Finish}
use Rattle.journal_text.specs.Text.{spaced, number, ended_line, chunk_words, task_words, event_words, event_lines}

-- a space and a reference
abbrev pub ref_part : Ref → List ℕ
ref_part r = spaced (ref_text r)

-- the line of a new chunk
abbrev pub chunk_line : Places → List ℕ
chunk_line places = ended_line (chunk_words places)

module _ {K : Type 0} (name_of : K → List ℕ) (height_of : K → ℕ) where
  -- the line of a new task
  abbrev pub task_line : NewTask K → List ℕ
  task_line task = ended_line (task_words name_of height_of task)

  -- the words of an event's first line that are no list
  abbrev pub opening_words : Event K → List (List ℕ)
  opening_words (Register caller id children) = codes "register" ∷ number caller ∷ id_text id ∷ []
  opening_words (Copy caller from to) = event_words name_of height_of (Copy caller from to)
  opening_words (Delete caller id) = event_words name_of height_of (Delete caller id)
  opening_words (Ask caller task kind inputs) = codes "ask" ∷ number caller ∷ number task ∷ name_of kind ∷ number (height_of kind) ∷ []
  opening_words (Collect caller task got) = event_words name_of height_of (Collect caller task got)
  opening_words (Abandon caller) = event_words name_of height_of (Abandon caller)
  opening_words (Stop caller) = event_words name_of height_of (Stop caller)
  opening_words (Start worker task) = event_words name_of height_of (Start worker task)
  opening_words (GiveBack worker task) = event_words name_of height_of (GiveBack worker task)
  opening_words (Finish worker task chunks tasks result) = event_words name_of height_of (Finish worker task chunks tasks result)

  -- what stands behind them
  abbrev pub closing : Event K → List ℕ
  closing (Register caller id children) = flat_map ref_part children ++ 10 ∷ []
  closing (Copy caller from to) = 10 ∷ []
  closing (Delete caller id) = 10 ∷ []
  closing (Ask caller task kind inputs) = flat_map ref_part inputs ++ 10 ∷ []
  closing (Collect caller task got) = 10 ∷ []
  closing (Abandon caller) = 10 ∷ []
  closing (Stop caller) = 10 ∷ []
  closing (Start worker task) = 10 ∷ []
  closing (GiveBack worker task) = 10 ∷ []
  closing (Finish worker task chunks tasks result) = 10 ∷ [] ++ flat_map chunk_line chunks ++ flat_map task_line tasks

  -- the text of an event
  abbrev pub event_text : Event K → List ℕ
  event_text event = flat_map ended_line (event_lines name_of height_of event)
