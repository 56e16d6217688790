-- Lines as their words, and texts as their lines.
use Rattle.std.proofs.Common.{◌≡◌, ℕ, ◌<◌, ◌≤◌, ◌^◌, Bool, true, false, cond, List, [], ◌∷◌, ◌++◌, length, refl, sym, ap, ◌∙◌, arith, length-append}
use Rattle.std.specs.Prelude.{map, ◌==◌, nat_lt}
use Rattle.std.specs.List.{flat_map, list_all, AllByRecursion}
use Rattle.std.proofs.lemmas.List.{append_assoc, append-nil}
use Rattle.std.proofs.lemmas.Bool.{cond_both}
use Rattle.std.proofs.lemmas.Bool.Decides.{nat_tests}
use Rattle.cht_ids.specs.Lines.{ended_lines, pieces_of, onto_first}
use Rattle.cht_history.specs.declared.event.Event.{Event}
use Rattle.std.specs.Fmt.{decimal}
use Rattle.std.proofs.lemmas.List.Folds.{list_all-append}
use Rattle.cht_ids.specs.Numeral.{is_digit}
use Rattle.cht_ids.specs.Refs.{id_text, ref_text}
use Rattle.cht_ids.specs.declared.refs.Id.{Id}
use Rattle.cht_ids.specs.declared.refs.Ref.{Ref}
use Rattle.cht_ids.specs.declared.refs.Ref.TheVariants.{Null as NullRef, Id as Held}
use Rattle.cht_ids.proofs.Spells.{Spells-decimal}
use Rattle.cht_history.specs.declared.event.Event.TheVariants.{Register, Copy, Delete, Ask, Collect, Abandon, Stop, Start, GiveBack, Finish}
use Rattle.task_types.specs.Names.{is_name_byte, IsName as IsKindName}
use Rattle.task_types.specs.Places.{places_of}
use Rattle.task_types.specs.declared.outcome.Place.{Place}
use Rattle.task_types.specs.declared.outcome.Place.TheVariants.{Null, Input, Child, Chunk, Task}
use Rattle.task_types.specs.declared.outcome.Places.{Places}
use Rattle.task_types.specs.declared.outcome.NewTask.{NewTask}
use Rattle.journal_text.specs.Text.{spaced, line_of, ended_line, number, place_text, chunk_words, task_words, first_words, last_words, event_lines, journal_lines, journal_text}
use Rattle.journal_text.specs.Bounds.{IsName, IsMention, IsPlace, ArePlaces, IsTask, IsWithin, AreWithin}
use Rattle.journal_text.specs.Openings.{event_text}
use Rattle.journal_text.proofs.Parts.{three_parts}
use Rattle.journal_text.specs.Answers.{word_lines, is_ended}
use Rattle.journal_text.proofs.Listing.{pieces_some}

-- ---- A line is that of its pieces

space_front : (byte : ℕ) (rest word : List ℕ) (others : List (List ℕ)) → pieces_of rest ≡ word ∷ others → line_of (pieces_of rest) ≡ rest → byte ≡ 32 → line_of ([] ∷ pieces_of rest) ≡ byte ∷ rest
space_front byte rest word others some again e =
    ap (λ pieces. flat_map spaced pieces) some ∙ ap (λ xs. 32 ∷ xs) (sym (ap line_of some) ∙ again) ∙ ap (λ b. b ∷ rest) (sym e)

byte_front : (byte : ℕ) (rest word : List ℕ) (others : List (List ℕ)) → pieces_of rest ≡ word ∷ others → line_of (pieces_of rest) ≡ rest → line_of (onto_first byte (pieces_of rest)) ≡ byte ∷ rest
byte_front byte rest word others some again =
    ap (λ pieces. line_of (onto_first byte pieces)) some ∙ ap (λ xs. byte ∷ xs) (sym (ap line_of some) ∙ again)

is_space : (byte : ℕ) → (byte == 32) ≡ true → byte ≡ 32
is_space byte e = grind (arith, nat_tests)

pub line_again : (line : List ℕ) → line_of (pieces_of line) ≡ line
line_again [] = refl
line_again (byte ∷ rest) =
    let some = pieces_some rest in
    cond_both (byte == 32) ([] ∷ pieces_of rest) (onto_first byte (pieces_of rest)) (λ pieces. line_of pieces ≡ byte ∷ rest)
    (λ e. space_front byte rest some.0 some.1 some.2 (line_again rest) (is_space byte e))
    (λ e. byte_front byte rest some.0 some.1 some.2 (line_again rest))

-- ---- The end of a text

length_map : {X Y : Type 0} (f : X → Y) (xs : List X) → length (map f xs) ≡ length xs
length_map f [] = refl
length_map f (x ∷ xs) = omega (arith, length_map f xs)

pub length_word_lines : (text : List ℕ) → length (word_lines text) ≡ length (ended_lines text)
length_word_lines text = length_map pieces_of (ended_lines text)

ends_cons : (byte next : ℕ) (rest : List ℕ) → is_ended (byte ∷ next ∷ rest) ≡ is_ended (next ∷ rest)
ends_cons byte next rest = refl

pub ends_behind : (line rest : List ℕ) → is_ended (line ++ 10 ∷ rest) ≡ is_ended rest
ends_behind [] [] = refl
ends_behind [] (next ∷ rest) = refl
ends_behind (byte ∷ []) rest = ends_behind [] rest
ends_behind (byte ∷ next ∷ line) rest = ends_behind (next ∷ line) rest

onto_none : (byte : ℕ) (pieces : List (List ℕ)) → onto_first byte pieces ≡ [] → pieces ≡ []
onto_none byte [] e = refl
onto_none byte (piece ∷ pieces) e = absurd (cc e)

parts : (byte : ℕ) (text : List ℕ) (b : Bool) → (byte == 10) ≡ b → cond b ([] ∷ ended_lines text) (onto_first byte (ended_lines text)) ≡ [] → ((byte == 10) ≡ false) × (ended_lines text ≡ [])
parts byte text true at none = absurd (cc none)
parts byte text false at none = (at, onto_none byte (ended_lines text) none)

-- what stands behind the last line feed is not ended
pub unended : (byte : ℕ) (text : List ℕ) → ended_lines (byte ∷ text) ≡ [] → is_ended (byte ∷ text) ≡ false
unended byte [] e = (parts byte [] (byte == 10) refl e).0
unended byte (next ∷ rest) e = unended next rest (parts byte (next ∷ rest) (byte == 10) refl e).1

-- every kind has a name
abbrev pub Named : {K : Type 0} → (K → List ℕ) → Type 0
Named {K} name_of = (kind : K) → IsKindName (name_of kind)

-- a word: its bytes are above a space
abbrev IsWord : List ℕ → Type 0
IsWord word = list_all (λ byte. nat_lt 32 byte) word ≡ true

-- a line: its bytes are above a line feed
abbrev IsLine : List ℕ → Type 0
IsLine line = list_all (λ byte. nat_lt 31 byte) line ≡ true

pieces_word : (word rest : List ℕ) → IsWord word → pieces_of (word ++ 32 ∷ rest) ≡ word ∷ pieces_of rest
pieces_word [] rest is = refl
pieces_word (byte ∷ word) rest is =
    let other : (byte == 32) ≡ false = grind (arith, nat_tests) in
    let others : IsWord word = grind (arith, nat_tests) in
    rw (other, pieces_word word rest others) refl

pieces_last : (word : List ℕ) → IsWord word → pieces_of word ≡ word ∷ []
pieces_last [] is = refl
pieces_last (byte ∷ word) is =
    let other : (byte == 32) ≡ false = grind (arith, nat_tests) in
    let others : IsWord word = grind (arith, nat_tests) in
    rw (other, pieces_last word others) refl

pieces_all : (word : List ℕ) (words : List (List ℕ)) → IsWord word → AllByRecursion IsWord words → pieces_of (line_of (word ∷ words)) ≡ word ∷ words
pieces_all word [] is all = ap pieces_of (append-nil word) ∙ pieces_last word is
pieces_all word (next ∷ words) is all = pieces_word word (line_of (next ∷ words)) is ∙ ap (λ xs. word ∷ xs) (pieces_all next words all.0 all.1)

lines_line : (line rest : List ℕ) → IsLine line → ended_lines (line ++ 10 ∷ rest) ≡ line ∷ ended_lines rest
lines_line [] rest is = refl
lines_line (byte ∷ line) rest is =
    let other : (byte == 10) ≡ false = grind (arith, nat_tests) in
    let others : IsLine line = grind (arith, nat_tests) in
    rw (other, lines_line line rest others) refl

word_line : (word : List ℕ) → IsWord word → IsLine word
word_line [] is = refl
word_line (byte ∷ word) is =
    let others : IsLine word = word_line word (grind (arith, nat_tests)) in
    grind (arith, nat_tests)

line_join : (a b : List ℕ) → IsLine a → IsLine b → IsLine (a ++ b)
line_join a b is other = list_all-append (λ byte. nat_lt 31 byte) a b ∙ grind (arith, nat_tests)

spaced_line : (words : List (List ℕ)) → AllByRecursion IsWord words → IsLine (flat_map spaced words)
spaced_line [] all = refl
spaced_line (word ∷ words) all = line_join (spaced word) (flat_map spaced words) (word_line word all.0) (spaced_line words all.1)

-- words on a line that are read back
abbrev pub IsProper : List (List ℕ) → Type 0
IsProper words = (0 < length words) × AllByRecursion IsWord words

proper_line : (words : List (List ℕ)) → IsProper words → IsLine (line_of words)
proper_line [] is = absurd (omega (arith, is.0))
proper_line (word ∷ words) is = line_join word (flat_map spaced words) (word_line word is.1.0) (spaced_line words is.1.1)

proper_pieces : (words : List (List ℕ)) → IsProper words → pieces_of (line_of words) ≡ words
proper_pieces [] is = absurd (omega (arith, is.0))
proper_pieces (word ∷ words) is = pieces_all word words is.1.0 is.1.1

-- lines of such words are read back
pub rows_again : (rows : List (List (List ℕ))) → AllByRecursion IsProper rows → word_lines (flat_map ended_line rows) ≡ rows
rows_again [] all = refl
rows_again (words ∷ rows) all =
    ap word_lines (append_assoc (line_of words) (10 ∷ []) (flat_map ended_line rows))
    ∙ ap (map pieces_of) (lines_line (line_of words) (flat_map ended_line rows) (proper_line words all.0))
    ∙ ap (λ w. w ∷ word_lines (flat_map ended_line rows)) (proper_pieces words all.0)
    ∙ ap (λ ws. words ∷ ws) (rows_again rows all.1)

-- ---- The words of journals

digits_word : (digits : List ℕ) → list_all is_digit digits ≡ true → IsWord digits
digits_word [] all = refl
digits_word (d ∷ digits) all =
    let others : IsWord digits = digits_word digits (grind (arith, nat_tests)) in
    grind (arith, nat_tests)

name_word : (name : List ℕ) → list_all is_name_byte name ≡ true → IsWord name
name_word [] all = refl
name_word (byte ∷ name) all =
    let others : IsWord name = name_word name (grind (arith, nat_tests)) in
    grind (arith, nat_tests)

word_join : (a b : List ℕ) → IsWord a → IsWord b → IsWord (a ++ b)
word_join a b is other = list_all-append (λ byte. nat_lt 32 byte) a b ∙ grind (arith, nat_tests)

number_word : (n : ℕ) → n < 10 ^ 64 → IsWord (number n)
number_word n low = let spelled = Spells-decimal n low in digits_word (decimal n) spelled.digits

id_word : (id : Id) → IsName id → IsWord (id_text id)
id_word id is = word_join (number id.owner) (58 ∷ number id.number) (number_word id.owner (omega (arith, is.0))) (number_word id.number (omega (arith, is.1.1)))

ref_word : (r : Ref) → IsMention r → IsWord (ref_text r)
ref_word NullRef is = refl
ref_word (Held id) is = id_word id is

place_word : (place : Place) → IsPlace place → IsWord (place_text place)
place_word Null is = refl
place_word (Input i) is = number_word i (omega (arith, is))
place_word (Child i j) is = word_join (99 ∷ number i) (46 ∷ number j) (number_word i (omega (arith, is.0))) (number_word j (omega (arith, is.1)))
place_word (Chunk i) is = number_word i (omega (arith, is))
place_word (Task i) is = number_word i (omega (arith, is))

map_words : {X : Type 0} (f : X → List ℕ) (P : X → Type 0) (xs : List X) → ((x : X) → P x → IsWord (f x)) → AllByRecursion P xs → AllByRecursion IsWord (map f xs)
map_words f P [] word all = tt
map_words f P (x ∷ xs) word all = (word x all.0, map_words f P xs word all.1)

map_rows : {X : Type 0} (f : X → List (List ℕ)) (P : X → Type 0) (xs : List X) → ((x : X) → P x → IsProper (f x)) → AllByRecursion P xs → AllByRecursion IsProper (map f xs)
map_rows f P [] row all = tt
map_rows f P (x ∷ xs) row all = (row x all.0, map_rows f P xs row all.1)

rows_join : (a b : List (List (List ℕ))) → AllByRecursion IsProper a → AllByRecursion IsProper b → AllByRecursion IsProper (a ++ b)
rows_join [] b all other = other
rows_join (x ∷ a) b all other = (all.0, rows_join a b all.1 other)

chunk_proper : (places : Places) → ArePlaces places → IsProper (chunk_words places)
chunk_proper places are = (omega arith, (refl, map_words place_text IsPlace (places_of places) place_word are))

first_proper : IsProper first_words
first_proper = (omega arith, (refl, (refl, (refl, tt))))

module _ {K : Type 0} (name_of : K → List ℕ) (height_of : K → ℕ) where
  kind_word : Named name_of → (kind : K) → IsWord (name_of kind)
  kind_word named kind = name_word (name_of kind) (named kind).2

  task_proper : Named name_of → (task : NewTask K) → IsTask height_of task → IsProper (task_words name_of height_of task)
  task_proper named task is = (omega arith, (refl, (kind_word named task.kind, (number_word (height_of task.kind) (omega (arith, is.0)), map_words place_text IsPlace (places_of task.inputs) place_word is.1))))

  event_proper : Named name_of → (event : Event K) → IsWithin height_of event → AllByRecursion IsProper (event_lines name_of height_of event)
  event_proper named (Register caller id children) is = ((omega arith, (refl, (number_word caller (omega (arith, is.0)), (id_word id is.1, map_words ref_text IsMention children ref_word is.2.1)))), tt)
  event_proper named (Copy caller from to) is = ((omega arith, (refl, (number_word caller (omega (arith, is.0)), (id_word from is.1, (id_word to is.2, tt))))), tt)
  event_proper named (Delete caller id) is = ((omega arith, (refl, (number_word caller (omega (arith, is.0)), (id_word id is.1, tt)))), tt)
  event_proper named (Ask caller task kind inputs) is =
      ((omega arith, (refl, (number_word caller (omega (arith, is.0)), (number_word task (omega (arith, is.1.1)), (kind_word named kind, (number_word (height_of kind) (omega (arith, is.2)), map_words ref_text IsMention inputs ref_word is.3.1)))))), tt)
  event_proper named (Collect caller task got) is = ((omega arith, (refl, (number_word caller (omega (arith, is.0)), (number_word task (omega (arith, is.1.1)), (ref_word got is.2, tt))))), tt)
  event_proper named (Abandon caller) is = ((omega arith, (refl, (number_word caller (omega (arith, is)), tt))), tt)
  event_proper named (Stop caller) is = ((omega arith, (refl, (number_word caller (omega (arith, is)), tt))), tt)
  event_proper named (Start worker task) is = ((omega arith, (refl, (number_word worker (omega (arith, is.0)), (number_word task (omega (arith, is.1.1)), tt)))), tt)
  event_proper named (GiveBack worker task) is = ((omega arith, (refl, (number_word worker (omega (arith, is.0)), (number_word task (omega (arith, is.1.1)), tt)))), tt)
  event_proper named (Finish worker task chunks tasks result) is = (
    (omega arith, (refl, (number_word worker (omega (arith, is.0)), (number_word task (omega (arith, is.1.1)), (number_word (length chunks) (omega (arith, is.2)), (number_word (length tasks) (omega (arith, is.4)), (place_word result is.6, tt))))))),
    rows_join (map chunk_words chunks) (map (task_words name_of height_of) tasks) (map_rows chunk_words ArePlaces chunks chunk_proper is.3) (map_rows (task_words name_of height_of) (IsTask height_of) tasks (task_proper named) is.5),
  )

  events_proper : Named name_of → (events : List (Event K)) → AreWithin height_of events → AllByRecursion IsProper (flat_map (event_lines name_of height_of) events)
  events_proper named [] within = tt
  events_proper named (event ∷ events) within =
      rows_join (event_lines name_of height_of event) (flat_map (event_lines name_of height_of) events) (event_proper named event within.0) (events_proper named events within.1)

  -- a text has a byte for each line, and a line for each event
  rows_long : (rows : List (List (List ℕ))) → length rows ≤ length (flat_map ended_line rows)
  rows_long [] = omega arith
  rows_long (words ∷ rows) = omega (arith, rows_long rows, length-append (ended_line words) (flat_map ended_line rows), length-append (line_of words) (10 ∷ []))

  events_long : (events : List (Event K)) → length events ≤ length (flat_map (event_lines name_of height_of) events)
  events_long [] = omega arith
  events_long (event ∷ events) = omega (arith, events_long events, length-append (event_lines name_of height_of event) (flat_map (event_lines name_of height_of) events))

  -- the lines of a journal's text are those of the journal
  pub text_lines : Named name_of → (events : List (Event K)) → AreWithin height_of events → length (journal_text name_of height_of events) < 2 ^ 63
      → word_lines (journal_text name_of height_of events) ≡ journal_lines name_of height_of events
  text_lines named events within few =
      let rows = rows_long (journal_lines name_of height_of events) in
      let many = events_long events in
      let low : length events < 10 ^ 64 = omega (arith, few, rows, many, length-append (flat_map (event_lines name_of height_of) events) (last_words (length events) ∷ [])) in
      rows_again (journal_lines name_of height_of events) (
        first_proper,
        rows_join (flat_map (event_lines name_of height_of) events) (last_words (length events) ∷ []) (events_proper named events within)
            ((omega arith, (refl, (number_word (length events) low, tt))), tt),
      )

  -- and a journal's text is ended
  pub ends_journal : (events : List (Event K)) → is_ended (journal_text name_of height_of events) ≡ true
  ends_journal events =
      let last = line_of (last_words (length events)) in
      let front = ended_line first_words ++ flat_map (event_text name_of height_of) events in
      ap is_ended (three_parts name_of height_of events ∙ sym (append_assoc front last (10 ∷ []))) ∙ ends_behind (front ++ last) []
