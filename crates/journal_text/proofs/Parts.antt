-- The text of a journal, part by part.
use Rattle.std.proofs.Common.{◌≡◌, ℕ, List, [], ◌∷◌, ◌++◌, length, refl, sym, ap, ◌∙◌}
use Rattle.std.specs.Prelude.{map, codes}
use Rattle.std.specs.List.{flat_map}
use Rattle.std.proofs.lemmas.List.{append_assoc, append-nil}
use Rattle.std.proofs.lemmas.List.Concat.{flat_map-append}
use Rattle.std.proofs.lemmas.List.Folds.{flat_map-map}
use Rattle.cht_ids.specs.Refs.{id_text, ref_text}
use Rattle.cht_ids.specs.declared.refs.Ref.{Ref}
use Rattle.cht_history.specs.declared.event.Event.{Event}
use Rattle.cht_history.specs.declared.event.Event.TheVariants.{Register, Copy, Delete, Ask, Collect, Abandon, Stop, Start, GiveBack, Finish}
use Rattle.journal_text.specs.Text.{spaced, number, line_of, ended_line, chunk_words, task_words, event_lines, first_words, last_words, journal_text}
use Rattle.journal_text.specs.Openings.{ref_part, chunk_line, task_line, opening_words, closing, event_text}

-- a line of words, and then of references
refs_behind : (word : List ℕ) (words : List (List ℕ)) (refs : List Ref)
    → line_of (word ∷ words) ++ (flat_map ref_part refs ++ 10 ∷ []) ≡ ended_line ((word ∷ words) ++ map ref_text refs) ++ []
refs_behind word words refs =
    sym (append-nil (ended_line ((word ∷ words) ++ map ref_text refs))
    ∙ ap (λ all. (word ++ all) ++ 10 ∷ []) (flat_map-append spaced words (map ref_text refs) ∙ ap (λ some. flat_map spaced words ++ some) (flat_map-map spaced ref_text refs))
    ∙ ap (λ all. all ++ 10 ∷ []) (sym (append_assoc word (flat_map spaced words) (flat_map ref_part refs)))
    ∙ append_assoc (word ++ flat_map spaced words) (flat_map ref_part refs) (10 ∷ []))

module _ {K : Type 0} (name_of : K → List ℕ) (height_of : K → ℕ) where
  -- an event in its two parts
  pub two_parts : (event : Event K) → line_of (opening_words name_of height_of event) ++ closing name_of height_of event ≡ event_text name_of height_of event
  two_parts (Register caller id children) = refs_behind (codes "register") (number caller ∷ id_text id ∷ []) children
  two_parts (Copy caller from to) = sym (append-nil _)
  two_parts (Delete caller id) = sym (append-nil _)
  two_parts (Ask caller task kind inputs) = refs_behind (codes "ask") (number caller ∷ number task ∷ name_of kind ∷ number (height_of kind) ∷ []) inputs
  two_parts (Collect caller task got) = sym (append-nil _)
  two_parts (Abandon caller) = sym (append-nil _)
  two_parts (Stop caller) = sym (append-nil _)
  two_parts (Start worker task) = sym (append-nil _)
  two_parts (GiveBack worker task) = sym (append-nil _)
  two_parts (Finish worker task chunks tasks result) =
      let first = line_of (opening_words name_of height_of (Finish worker task chunks tasks result)) in
      sym (ap (λ all. (first ++ 10 ∷ []) ++ all)
      (flat_map-append ended_line (map chunk_words chunks) (map (task_words name_of height_of) tasks)
      ∙ ap (λ xs. xs ++ flat_map ended_line (map (task_words name_of height_of) tasks)) (flat_map-map ended_line chunk_words chunks)
      ∙ ap (λ xs. flat_map chunk_line chunks ++ xs) (flat_map-map ended_line (task_words name_of height_of) tasks))
      ∙ append_assoc first (10 ∷ []) (flat_map chunk_line chunks ++ flat_map (task_line name_of height_of) tasks)
      ∙ ap (λ xs. first ++ xs) (sym (append_assoc (10 ∷ []) (flat_map chunk_line chunks) (flat_map (task_line name_of height_of) tasks))))

  -- the lines of some events
  lines_text : (events : List (Event K)) → flat_map ended_line (flat_map (event_lines name_of height_of) events) ≡ flat_map (event_text name_of height_of) events
  lines_text [] = refl
  lines_text (event ∷ events) =
      flat_map-append ended_line (event_lines name_of height_of event) (flat_map (event_lines name_of height_of) events)
      ∙ ap (λ rest. event_text name_of height_of event ++ rest) (lines_text events)

  -- a text: the first line, the events, and the last line
  pub three_parts : (events : List (Event K))
      → journal_text name_of height_of events ≡ (ended_line first_words ++ flat_map (event_text name_of height_of) events) ++ ended_line (last_words (length events))
  three_parts events =
      ap (λ rest. ended_line first_words ++ rest)
      (flat_map-append ended_line (flat_map (event_lines name_of height_of) events) (last_words (length events) ∷ [])
      ∙ ap (λ xs. xs ++ flat_map ended_line (last_words (length events) ∷ [])) (lines_text events)
      ∙ ap (λ xs. flat_map (event_text name_of height_of) events ++ xs) (append-nil (ended_line (last_words (length events)))))
      ∙ sym (append_assoc (ended_line first_words) (flat_map (event_text name_of height_of) events) (ended_line (last_words (length events))))
