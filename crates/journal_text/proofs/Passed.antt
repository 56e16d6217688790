-- How far a text was read, between two lines, and what is answered from there.
use Rattle.std.proofs.Common.{◌≡◌, inl, inr, ℕ, ◌+◌, ◌<◌, ◌≤◌, ◌^◌, Bool, true, false, cond, List, [], ◌∷◌, ◌++◌, length, Option, None, Ok, Err, refl, sym, ap, ◌∙◌, subst, arith, length-append}
use Rattle.std.specs.Prelude.{map, ◌==◌, codes}
use Rattle.std.specs.List.{flat_map}
use Rattle.std.specs.Str.{bytes_eq}
use Rattle.std.proofs.lemmas.Bool.{cond_both}
use Rattle.std.proofs.lemmas.Bool.Decides.{nat_tests}
use Rattle.std.proofs.lemmas.List.{append_assoc, append-nil, length-map}
use Rattle.std.proofs.lemmas.List.Concat.{flat_map-append}
use Rattle.cht_ids.specs.Lines.{ended_lines, pieces_of}
use Rattle.cht_history.specs.declared.event.Event.{Event}
use Rattle.journal_text.specs.declared.open.Open.{Open}
use Rattle.journal_text.specs.declared.refused.JournalRefused.TheVariants.{NotJournal}
use Rattle.journal_text.specs.Text.{line_of, ended_line, chunk_words, task_words, first_words, last_words, event_lines, journal_lines, journal_text}
use Rattle.journal_text.specs.Bounds.{AreWithin}
use Rattle.journal_text.specs.Answers.{word_lines, is_ended, last_line, CanBegin, IsNamed, IsAnswer}
use Rattle.journal_text.specs.Told.{told}
use Rattle.journal_text.specs.States.{lines_read, GoesOn, MayBeOpen}
use Rattle.journal_text.proofs.GoesOn.{from_events}
use Rattle.journal_text.proofs.LineTexts.{line_again, length_word_lines, ends_behind, unended, Named, text_lines, ends_journal}
use Rattle.journal_text.proofs.Completed.{can_begin}

no_lines : (text : List ℕ) → word_lines text ≡ [] → ended_lines text ≡ []
no_lines text e = go (ended_lines text) e
  where
    go : (lines : List (List ℕ)) → map pieces_of lines ≡ [] → lines ≡ []
    go [] e = refl
    go (line ∷ lines) e = absurd (cc e)

not_ended : (rest : List ℕ) → 0 < length rest → ended_lines rest ≡ [] → is_ended rest ≡ false
not_ended [] some none = absurd (omega arith)
not_ended (byte ∷ rest) some none = unended byte rest none

-- what the test for an empty list tells
zero_of : (n : ℕ) → true ≡ (n == 0) → n ≡ 0
zero_of n e = grind (arith, nat_tests, e)

nil_of : (xs : List ℕ) → true ≡ (length xs == 0) → xs ≡ []
nil_of [] e = refl
nil_of (x ∷ xs) e = absurd (omega (arith, zero_of (length (x ∷ xs)) e))

pub some_of : (xs : List ℕ) → false ≡ (length xs == 0) → 0 < length xs
some_of [] e = absurd cc
some_of (x ∷ xs) e = omega arith

-- the last line, where nothing stands behind it, and where something does
pub short_empty : (passed : ℕ) (left : List ℕ) → true ≡ (length left == 0) → passed ≡ passed + cond (is_ended left) 0 1
short_empty passed [] e = omega arith
short_empty passed (x ∷ left) e = absurd (omega (arith, zero_of (length (x ∷ left)) e))

pub short_more : (passed : ℕ) (left : List ℕ) → false ≡ (length left == 0) → ended_lines left ≡ [] → passed + 1 ≡ passed + cond (is_ended left) 0 1
short_more passed left some none = ap (λ b. passed + cond b 0 1) (sym (not_ended left (some_of left some) none))

last_behind : (bytes : List ℕ) (passed : ℕ) → is_ended bytes ≡ false → length (ended_lines bytes) ≡ passed + 1 → passed + 2 ≡ last_line bytes
last_behind bytes passed e f =
    let value = ap (λ b. length (ended_lines bytes) + cond b 0 1) e in
    omega (arith, value, f)

module _ {K : Type 0} (name_of : K → List ℕ) (height_of : K → ℕ) where
  -- the lines of a text up to a state
  abbrev pub front_of : List (Event K) → Option (Open K) → List (List (List ℕ))
  front_of events it = first_words ∷ lines_read name_of height_of events it

  pub record IsRead (bytes : List ℕ) (passed : ℕ) (left : List ℕ) (events : List (Event K)) (it : Option (Open K)) : Type 0 where
    pub lines : word_lines bytes ≡ front_of events it ++ word_lines left
    pub count : passed ≡ length (front_of events it)
    pub text : flat_map ended_line (front_of events it) ++ left ≡ bytes
    pub ends : is_ended bytes ≡ is_ended left
    pub room : passed + length left ≤ length bytes
    pub within : AreWithin height_of events
    pub is_open : MayBeOpen height_of it
    pub goes : (all : List (Event K)) → AreWithin height_of all → (rest : List (List (List ℕ))) → front_of events it ++ rest ≡ journal_lines name_of height_of all
        → GoesOn name_of height_of events it rest (map told all)

  -- the lines that go on from all events of a journal
  all_on : (all : List (Event K)) → AreWithin height_of all → (rest : List (List (List ℕ))) → first_words ∷ rest ≡ journal_lines name_of height_of all → GoesOn name_of height_of [] None rest (map told all)
  all_on all within rest e =
      let behind : rest ≡ flat_map (event_lines name_of height_of) all ++ last_words (length all) ∷ [] = cc in
      from_events name_of height_of [] rest (map told all) record {
        more = all;
        within = within;
        all_are = refl;
        lines_are = behind ∙ ap (λ n. flat_map (event_lines name_of height_of) all ++ last_words n ∷ []) (sym (length-map all told));
      }

  ends_first : (left : List ℕ) → is_ended (ended_line first_words ++ left) ≡ is_ended left
  ends_first [] = refl
  ends_first (byte ∷ rest) = refl

  pub read_start : (bytes left : List ℕ) → bytes ≡ ended_line first_words ++ left → IsRead bytes 1 left [] None
  read_start bytes left e =
      let P : List ℕ → Type 0 = λ text. IsRead text 1 left [] None in
      subst P (sym e) record {
        lines = refl;
        count = refl;
        text = refl;
        ends = ends_first left;
        room = omega (arith, length-append (ended_line first_words) left);
        within = tt;
        is_open = tt;
        goes = all_on;
      }

  -- one more line at the front
  one_more : (front : List (List (List ℕ))) (words : List (List ℕ)) (rest : List (List (List ℕ))) → front ++ words ∷ rest ≡ (front ++ words ∷ []) ++ rest
  one_more front words rest = sym (append_assoc front (words ∷ []) rest)

  line_text : (front : List (List (List ℕ))) (line rest left bytes : List ℕ) → left ≡ line ++ 10 ∷ rest → flat_map ended_line front ++ left ≡ bytes
      → flat_map ended_line (front ++ pieces_of line ∷ []) ++ rest ≡ bytes
  line_text front line rest left bytes e text =
      ap (λ xs. xs ++ rest) (flat_map-append ended_line front (pieces_of line ∷ []) ∙ ap (λ xs. flat_map ended_line front ++ xs) (append-nil (ended_line (pieces_of line)))
      ∙ ap (λ xs. flat_map ended_line front ++ (xs ++ 10 ∷ [])) (line_again line))
      ∙ append_assoc (flat_map ended_line front) (line ++ 10 ∷ []) rest
      ∙ ap (λ xs. flat_map ended_line front ++ xs) (append_assoc line (10 ∷ []) rest ∙ sym e)
      ∙ text

  cut_words : (left line rest : List ℕ) → ended_lines left ≡ line ∷ ended_lines rest → word_lines left ≡ pieces_of line ∷ word_lines rest
  cut_words left line rest e = ap (map pieces_of) e

  pub read_more : (bytes : List ℕ) (passed : ℕ) (left : List ℕ) (events : List (Event K)) (it : Option (Open K)) (line rest : List ℕ) (now : List (Event K)) (next : Option (Open K))
      → IsRead bytes passed left events it → ended_lines left ≡ line ∷ ended_lines rest → left ≡ line ++ 10 ∷ rest
      → lines_read name_of height_of now next ≡ lines_read name_of height_of events it ++ pieces_of line ∷ [] → AreWithin height_of now → MayBeOpen height_of next
      → ((rest : List (List (List ℕ))) (all : List (Event K)) → GoesOn name_of height_of events it (pieces_of line ∷ rest) all → GoesOn name_of height_of now next rest all)
      → IsRead bytes (passed + 1) rest now next
  read_more bytes passed left events it line rest now next one cut whole lines within is_open goes =
      let front : front_of now next ≡ front_of events it ++ pieces_of line ∷ [] = ap (λ xs. first_words ∷ xs) lines in
      record {
        lines = one.lines ∙ ap (λ xs. front_of events it ++ xs) (cut_words left line rest cut) ∙ one_more (front_of events it) (pieces_of line) (word_lines rest) ∙ ap (λ xs. xs ++ word_lines rest) (sym front);
        count = omega (arith, one.count, ap length front, length-append (front_of events it) (pieces_of line ∷ []));
        text = ap (λ xs. flat_map ended_line xs ++ rest) front ∙ line_text (front_of events it) line rest left bytes whole one.text;
        ends = one.ends ∙ ap is_ended whole ∙ ends_behind line rest;
        room = omega (arith, one.room, ap length whole, length-append line (10 ∷ rest));
        within = within;
        is_open = is_open;
        goes = λ all all_within behind e.
            goes behind (map told all) (one.goes all all_within (pieces_of line ∷ behind) (one_more (front_of events it) (pieces_of line) behind ∙ ap (λ xs. xs ++ behind) (sym front) ∙ e));
      }

  -- ---- Answers

  -- a journal with this text goes on from here
  text_on : (bytes : List ℕ) (passed : ℕ) (left : List ℕ) (events : List (Event K)) (it : Option (Open K)) → Named name_of → IsRead bytes passed left events it → length bytes < 2 ^ 63
      → (all : List (Event K)) → AreWithin height_of all → journal_text name_of height_of all ≡ bytes → GoesOn name_of height_of events it (word_lines left) (map told all)
  text_on bytes passed left events it named one few all within e =
      one.goes all within (word_lines left) (sym one.lines ∙ sym (ap word_lines e) ∙ text_lines name_of height_of named all within (omega (arith, ap length e)))

  pub answer_wrong : (bytes : List ℕ) (passed : ℕ) (left : List ℕ) (events : List (Event K)) (it : Option (Open K)) (line rest : List ℕ) → Named name_of → length bytes < 2 ^ 63
      → IsRead bytes passed left events it → ended_lines left ≡ line ∷ ended_lines rest
      → ((rest : List (List (List ℕ))) (all : List (Event K)) → GoesOn name_of height_of events it (pieces_of line ∷ rest) all → ⊥)
      → IsAnswer name_of height_of bytes (Err (NotJournal (passed + 1)))
  answer_wrong bytes passed left events it line rest named few one cut none = (
    λ all within e.
        none (word_lines rest) (map told all)
        (let P : List (List (List ℕ)) → Type 0 = λ lines. GoesOn name_of height_of events it lines (map told all) in
        subst P (cut_words left line rest cut) (text_on bytes passed left events it named one few all within e)),
    λ kind low. inl record {
      front = front_of events it;
      wrong = pieces_of line;
      behind = word_lines rest;
      split = one.lines ∙ ap (λ xs. front_of events it ++ xs) (cut_words left line rest cut);
      place = ap (λ n. n + 1) one.count;
      before = can_begin name_of height_of events it kind low one.within one.is_open;
      none = λ other. none other.behind (map told other.events)
          (one.goes other.events other.within (pieces_of line ∷ other.behind) (one_more (front_of events it) (pieces_of line) other.behind ∙ other.lines));
    },
  )

  no_end : (a b c : List (List (List ℕ))) (d : List (List ℕ)) → 0 ≡ length (a ++ (b ++ (c ++ d ∷ []))) → ⊥
  no_end a b c d e = omega (arith, length-append a (b ++ (c ++ d ∷ [])), length-append b (c ++ d ∷ []), length-append c (d ∷ []))

  nothing_on : (events : List (Event K)) (it : Option (Open K)) (all : List (Event K)) → GoesOn name_of height_of events it [] all → ⊥
  nothing_on events it all on =
      no_end (map chunk_words on.chunks) (map (task_words name_of height_of) on.tasks) (flat_map (event_lines name_of height_of) on.more) (last_words (length all)) (ap length on.lines_are)

  pub answer_short : (bytes : List ℕ) (passed : ℕ) (left : List ℕ) (events : List (Event K)) (it : Option (Open K)) (line : ℕ) → Named name_of → length bytes < 2 ^ 63
      → IsRead bytes passed left events it → ended_lines left ≡ [] → line ≡ passed + cond (is_ended left) 0 1
      → IsAnswer name_of height_of bytes (Err (NotJournal line))
  answer_short bytes passed left events it line named few one none last =
      let nothing : word_lines left ≡ [] = ap (map pieces_of) none in
      let whole : word_lines bytes ≡ front_of events it = one.lines ∙ ap (λ xs. front_of events it ++ xs) nothing ∙ append-nil (front_of events it) in (
        λ all within e.
            nothing_on events it (map told all)
            (let P : List (List (List ℕ)) → Type 0 = λ lines. GoesOn name_of height_of events it lines (map told all) in
            subst P nothing (text_on bytes passed left events it named one few all within e)),
        λ kind low. inr (
          (let P : List (List (List ℕ)) → Type 0 = λ lines. CanBegin name_of height_of lines in subst P (sym whole) (can_begin name_of height_of events it kind low one.within one.is_open)),
          last ∙ last_is bytes passed left one.ends (one.count ∙ sym (ap length whole) ∙ length_word_lines bytes) (omega (arith, one.count)),
        ),
      )
    where
      last_is : (bytes : List ℕ) (passed : ℕ) (left : List ℕ) → is_ended bytes ≡ is_ended left → passed ≡ length (ended_lines bytes) → 1 ≤ passed
          → passed + cond (is_ended left) 0 1 ≡ last_line bytes
      last_is bytes passed left e f some =
          let value = ap (λ b. length (ended_lines bytes) + cond b 0 1) e in
          omega (arith, value, f)

  -- the lines of a whole text
  whole_lines : (events : List (Event K)) (it : Option (Open K)) (line : List ℕ) → it ≡ None → pieces_of line ≡ last_words (length events)
      → front_of events it ++ pieces_of line ∷ [] ≡ journal_lines name_of height_of events
  whole_lines events it line none last =
      ap (λ o. front_of events o ++ pieces_of line ∷ []) none
      ∙ ap (λ xs. first_words ∷ (xs ++ pieces_of line ∷ [])) (append-nil (flat_map (event_lines name_of height_of) events))
      ∙ ap (λ w. first_words ∷ (flat_map (event_lines name_of height_of) events ++ w ∷ [])) last

  no_rest : (rest : List ℕ) {b : Bool} → b ≡ true → b ≡ is_ended rest → word_lines rest ≡ [] → 0 < length rest → ⊥
  no_rest [] e f none some = omega arith
  no_rest (byte ∷ rest) e f none some = let open_end = unended byte rest (no_lines (byte ∷ rest) none) in cc (e, f, open_end)

  -- which line is named where something follows a whole text
  named_behind : (bytes : List ℕ) (passed : ℕ) (rest : List ℕ) (front : List (List (List ℕ))) → word_lines bytes ≡ front ++ word_lines rest → is_ended bytes ≡ is_ended rest
      → length front ≡ passed + 1 → CanBegin name_of height_of front → 0 < length rest
      → ((wrong : List (List ℕ)) (behind : List (List (List ℕ))) → CanBegin name_of height_of (front ++ wrong ∷ []) → ⊥)
      → IsNamed name_of height_of bytes (passed + 2)
  named_behind bytes passed rest front lines ends size begins some none = go (word_lines rest) refl
    where
      go : (others : List (List (List ℕ))) → word_lines rest ≡ others → IsNamed name_of height_of bytes (passed + 2)
      go [] e =
          let whole : word_lines bytes ≡ front = lines ∙ ap (λ xs. front ++ xs) e ∙ append-nil front in
          inr (
            (let P : List (List (List ℕ)) → Type 0 = λ xs. CanBegin name_of height_of xs in subst P (sym whole) begins),
            last_behind bytes passed (ends ∙ not_ended rest some (no_lines rest e)) (sym (length_word_lines bytes) ∙ ap length whole ∙ size),
          )
      go (wrong ∷ behind) e = inl record {
        front = front;
        wrong = wrong;
        behind = behind;
        split = lines ∙ ap (λ xs. front ++ xs) e;
        place = omega (arith, size);
        before = begins;
        none = none wrong behind;
      }

  -- the last line was read, and nothing follows it
  pub answer_whole : (bytes : List ℕ) (passed : ℕ) (left : List ℕ) (events : List (Event K)) (it : Option (Open K)) (line : List ℕ) (spare : ℕ) → Named name_of → length bytes < 2 ^ 63
      → IsRead bytes passed left events it → ended_lines left ≡ line ∷ [] → left ≡ line ++ 10 ∷ [] → it ≡ None → pieces_of line ≡ last_words (length events)
      → ((rest : List (List (List ℕ))) (all : List (Event K)) → GoesOn name_of height_of events it (pieces_of line ∷ rest) all → (rest ≡ []) × (all ≡ events))
      → IsAnswer name_of height_of bytes (Ok record { events = events; spare = spare })
  answer_whole bytes passed left events it line spare named few one cut whole none last goes =
      let front : front_of events it ++ pieces_of line ∷ [] ≡ journal_lines name_of height_of events = whole_lines events it line none last in (
        one.within,
        sym (ap (flat_map ended_line) front) ∙ sym (append-nil (flat_map ended_line (front_of events it ++ pieces_of line ∷ []))) ∙ line_text (front_of events it) line [] left bytes whole one.text,
        λ all within e.
            let on = text_on bytes passed left events it named one few all within e in
            let P : List (List (List ℕ)) → Type 0 = λ lines. GoesOn name_of height_of events it lines (map told all) in
            sym (goes [] (map told all) (subst P (ap (map pieces_of) cut) on)).1,
      )

  -- or something follows it, and no journal's text has that
  pub answer_more : (bytes : List ℕ) (passed : ℕ) (left : List ℕ) (events : List (Event K)) (it : Option (Open K)) (line rest : List ℕ) → Named name_of → length bytes < 2 ^ 63
      → IsRead bytes passed left events it → ended_lines left ≡ line ∷ ended_lines rest → left ≡ line ++ 10 ∷ rest → it ≡ None → pieces_of line ≡ last_words (length events)
      → ((rest : List (List (List ℕ))) (all : List (Event K)) → GoesOn name_of height_of events it (pieces_of line ∷ rest) all → (rest ≡ []) × (all ≡ events))
      → 0 < length rest → IsAnswer name_of height_of bytes (Err (NotJournal (passed + 2)))
  answer_more bytes passed left events it line rest named few one cut whole none last goes some =
      let front : front_of events it ++ pieces_of line ∷ [] ≡ journal_lines name_of height_of events = whole_lines events it line none last in
      let lines : word_lines bytes ≡ (front_of events it ++ pieces_of line ∷ []) ++ word_lines rest =
      one.lines ∙ ap (λ xs. front_of events it ++ xs) (cut_words left line rest cut) ∙ one_more (front_of events it) (pieces_of line) (word_lines rest) in
      let ends : is_ended bytes ≡ is_ended rest = one.ends ∙ ap is_ended whole ∙ ends_behind line rest in
      let begins : CanBegin name_of height_of (front_of events it ++ pieces_of line ∷ []) = record { events = events; within = one.within; behind = []; lines = append-nil (front_of events it ++ pieces_of line ∷ []) ∙ front } in
      let size : length (front_of events it ++ pieces_of line ∷ []) ≡ passed + 1 = omega (arith, one.count, length-append (front_of events it) (pieces_of line ∷ [])) in (
        λ all within e.
            let on = text_on bytes passed left events it named one few all within e in
            let P : List (List (List ℕ)) → Type 0 = λ lines. GoesOn name_of height_of events it lines (map told all) in
            let told = goes (word_lines rest) (map told all) (subst P (cut_words left line rest cut) on) in
            no_rest rest (ends_journal name_of height_of all) (ap is_ended e ∙ ends) told.0 some,
        λ kind low. named_behind bytes passed rest (front_of events it ++ pieces_of line ∷ []) lines ends size begins some
            (λ wrong behind other.
            let e : front_of events it ++ pieces_of line ∷ (wrong ∷ other.behind) ≡ journal_lines name_of height_of other.events =
            one_more (front_of events it) (pieces_of line) (wrong ∷ other.behind) ∙ one_more (front_of events it ++ pieces_of line ∷ []) wrong other.behind ∙ other.lines in
            let on = one.goes other.events other.within (pieces_of line ∷ wrong ∷ other.behind) e in
            cc (goes (wrong ∷ other.behind) (map told other.events) on).0),
      )

  -- the same, as a test of emptiness tells it
  pub answer_last : (bytes : List ℕ) (passed : ℕ) (left : List ℕ) (events : List (Event K)) (it : Option (Open K)) (line rest : List ℕ) (now : List (Event K)) (spare : ℕ) → Named name_of
      → length bytes < 2 ^ 63 → IsRead bytes passed left events it → ended_lines left ≡ line ∷ ended_lines rest → left ≡ line ++ 10 ∷ rest
      → (it ≡ None) × (now ≡ events) × (pieces_of line ≡ last_words (length events))
      × ((rest : List (List (List ℕ))) (all : List (Event K)) → GoesOn name_of height_of events it (pieces_of line ∷ rest) all → (rest ≡ []) × (all ≡ events))
      → true ≡ (length rest == 0) → IsAnswer name_of height_of bytes (Ok record { events = now; spare = spare })
  answer_last bytes passed left events it line rest now spare named few one cut whole step empty =
      let none = nil_of rest empty in
      let P : List (Event K) → Type 0 = λ es. IsAnswer name_of height_of bytes (Ok record { events = es; spare = spare }) in
      subst P (sym step.1)
      (answer_whole bytes passed left events it line spare named few one (cut ∙ ap (λ r. line ∷ ended_lines r) none) (whole ∙ ap (λ r. line ++ 10 ∷ r) none) step.0 step.2 step.3)

  -- ---- The first line

  empty_begins : CanBegin name_of height_of []
  empty_begins = record { events = []; within = tt; behind = journal_lines name_of height_of []; lines = refl }

  pub answer_none : (bytes : List ℕ) → Named name_of → length bytes < 2 ^ 63 → ended_lines bytes ≡ [] → IsAnswer name_of height_of bytes (Err (NotJournal 1))
  answer_none bytes named few none = (
    λ all within e.
        let lines = sym (ap word_lines e) ∙ text_lines name_of height_of named all within (omega (arith, ap length e)) in
        absurd (cc (sym lines ∙ ap (map pieces_of) none)),
    λ kind low. inr (
      (let P : List (List (List ℕ)) → Type 0 = λ lines. CanBegin name_of height_of lines in subst P (sym (ap (map pieces_of) none)) empty_begins),
      one_line bytes none,
    ),
  )
    where
      one_line : (text : List ℕ) → ended_lines text ≡ [] → 1 ≡ last_line text
      one_line text none =
          let few : cond (is_ended text) 0 1 ≤ 1 = cond_both (is_ended text) 0 1 (λ n. n ≤ 1) (λ e. omega arith) (λ e. omega arith) in
          omega (arith, few, ap length none)

  pub answer_first : (bytes line behind : List ℕ) → Named name_of → length bytes < 2 ^ 63 → ended_lines bytes ≡ line ∷ ended_lines behind → bytes_eq line (codes "cht journal 1") ≡ false
      → IsAnswer name_of height_of bytes (Err (NotJournal 1))
  answer_first bytes line behind named few cut other = (
    λ all within e.
        let lines = text_lines name_of height_of named all within (omega (arith, ap length e)) in
        let first : pieces_of line ≡ first_words = cc (sym (ap (map pieces_of) cut) ∙ sym (ap word_lines e) ∙ lines) in
        not_first line other first,
    λ kind low. inl record {
      front = [];
      wrong = pieces_of line;
      behind = word_lines behind;
      split = ap (map pieces_of) cut;
      place = refl;
      before = empty_begins;
      none = λ begun. not_first line other (cc begun.lines);
    },
  )
    where
      not_first : (line : List ℕ) → bytes_eq line (codes "cht journal 1") ≡ false → pieces_of line ≡ first_words → ⊥
      not_first line other first =
          let same : line ≡ codes "cht journal 1" = sym (line_again line) ∙ ap line_of first in
          let P : List ℕ → Type 0 = λ text. bytes_eq text (codes "cht journal 1") ≡ false in
          cc (subst P same other)
