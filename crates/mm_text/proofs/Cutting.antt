-- Where a text is cut at its first line feed, and a line at its blanks.
use Rattle.std.proofs.Common.{◌≡◌, ◌≢◌, ℕ, zero, suc, ◌+◌, ◌-◌, ◌<◌, ◌≤◌, inl, inr, Bool, true, false, not, eqb, cond, List, [], ◌∷◌, length, get_or, take, drop, Option, None, Some, refl, sym, ap, ◌∙◌, unwrap_or, arith, add-one}
use Rattle.std.specs.List.{position, position_or_len}
use Rattle.std.proofs.lemmas.Bool.{cases_lt, lt-ltb, true≢false, not-true, not-false, eqb-true, cond-true, cond-false, not_from_false, not_from_true, both_ways}
use Rattle.std.proofs.lemmas.List.{length-drop, take_all, drop_all}
use Rattle.std.proofs.lemmas.List.Quantifiers.{position-Some}
use Rattle.std.proofs.lemmas.List.Sums.{fails_before_first}
use Rattle.cht_ids.specs.Lines.{onto_first}
use Rattle.mm_text.specs.Lines.{cut_lines, without_return, is_blank, begins_word, words_of}

not_true : (b : Bool) → (b ≡ true → ⊥) → b ≡ false
not_true true h = absurd (h refl)
not_true false h = refl

-- ---- Lines

-- the first n bytes are no line feeds
abbrev pub NoFeedIn : List ℕ → ℕ → Type 0
NoFeedIn text n = (k : ℕ) → k < n → eqb (get_or text k 0) 10 ≡ true → ⊥

NoFeedIn-head : (byte : ℕ) (text : List ℕ) (n : ℕ) → NoFeedIn (byte ∷ text) (suc n) → eqb byte 10 ≡ false
NoFeedIn-head byte text n h = not_true (eqb byte 10) (h 0 (omega arith))

NoFeedIn-tail : (byte : ℕ) (text : List ℕ) (n : ℕ) → NoFeedIn (byte ∷ text) (suc n) → NoFeedIn text n
NoFeedIn-tail byte text n h k lt = h (suc k) (omega arith)

lines_cut : (text : List ℕ) (n : ℕ) → n < length text → NoFeedIn text n → eqb (get_or text n 0) 10 ≡ true → cut_lines text ≡ take n text ∷ cut_lines (drop (suc n) text)
lines_cut [] n lt h at = absurd (omega arith)
lines_cut (byte ∷ text) zero lt h at = rw at refl
lines_cut (byte ∷ text) (suc n) lt h at = rw (NoFeedIn-head byte text n h, lines_cut text n (omega arith) (NoFeedIn-tail byte text n h) at) refl

lines_whole : (byte : ℕ) (text : List ℕ) → NoFeedIn (byte ∷ text) (length (byte ∷ text)) → cut_lines (byte ∷ text) ≡ (byte ∷ text) ∷ []
lines_whole byte [] h = rw (NoFeedIn-head byte [] 0 h) refl
lines_whole byte (next ∷ text) h =
    rw (NoFeedIn-head byte (next ∷ text) (length (next ∷ text)) h, lines_whole next text (NoFeedIn-tail byte (next ∷ text) (length (next ∷ text)) h)) refl

-- the rest of a text from a place, as a slice gives it
pub slice_rest : {A : Type 0} (text : List A) (n : ℕ) → take (length text - n) (drop n text) ≡ drop n text
slice_rest text n = take_all (length text - n) (drop n text) (omega (arith, length-drop n text))

-- the first line and those behind it, where a line feed is there and where there is none
pub first_line : (text : List ℕ) (n : ℕ) → n < length text → NoFeedIn text n → eqb (get_or text n 0) 10 ≡ true
    → cut_lines text ≡ take n text ∷ cut_lines (take (length text - (n + 1)) (drop (n + 1) text))
first_line text n lt h at = rw (slice_rest text (n + 1), add-one) (lines_cut text n lt h at)

pub only_line : (text : List ℕ) → eqb (length text) 0 ≡ false → NoFeedIn text (length text)
    → cut_lines text ≡ text ∷ cut_lines (take (length text - length text) (drop (length text) text))
only_line [] some h = absurd (true≢false some)
only_line (byte ∷ text) some h =
    let all = byte ∷ text in
    let none : take (length all - length all) (drop (length all) all) ≡ [] = slice_rest all (length all) ∙ drop_all (length all) all (omega arith) in
    rw none (lines_whole byte text h)

-- ---- A carriage return

dropped_at : (line : List ℕ) (n : ℕ) → length line ≡ suc n → get_or line n 0 ≡ 13 → take n line ≡ without_return line
dropped_at [] n len at = absurd (omega arith)
dropped_at (byte ∷ []) zero len at = rw at refl
dropped_at (byte ∷ []) (suc n) len at = absurd (omega arith)
dropped_at (byte ∷ next ∷ rest) zero len at = absurd (omega arith)
dropped_at (byte ∷ next ∷ rest) (suc n) len at = ap (λ xs. byte ∷ xs) (dropped_at (next ∷ rest) n (omega arith) at)

kept_at : (line : List ℕ) (n : ℕ) → length line ≡ suc n → get_or line n 0 ≢ 13 → line ≡ without_return line
kept_at [] n len at = absurd (omega arith)
kept_at (byte ∷ []) zero len at = rw (not_true (eqb byte 13) (λ e. at (eqb-true byte 13 e))) refl
kept_at (byte ∷ []) (suc n) len at = absurd (omega arith)
kept_at (byte ∷ next ∷ rest) zero len at = absurd (omega arith)
kept_at (byte ∷ next ∷ rest) (suc n) len at = ap (λ xs. byte ∷ xs) (kept_at (next ∷ rest) n (omega arith) at)

pub return_dropped : (line : List ℕ) → 1 ≤ length line → get_or line (length line - 1) 0 ≡ 13 → take (length line - 1) line ≡ without_return line
return_dropped line some at = dropped_at line (length line - 1) (omega arith) at

pub return_kept : (line : List ℕ) → 1 ≤ length line → get_or line (length line - 1) 0 ≢ 13 → line ≡ without_return line
return_kept line some at = kept_at line (length line - 1) (omega arith) at

-- ---- Words

-- blanks at the front
words_behind : (line : List ℕ) (n : ℕ) → n ≤ length line → ((k : ℕ) → k < n → not (is_blank (get_or line k 0)) ≡ false) → words_of (drop n line) ≡ words_of line
words_behind line zero le h = refl
words_behind [] (suc n) le h = absurd (omega arith)
words_behind (byte ∷ line) (suc n) le h =
    rw (not-false (is_blank byte) (h zero (omega arith))) (words_behind line n (omega arith) (λ k lt. h (suc k) (omega arith)))

begins_at : (line : List ℕ) (n : ℕ) → n < length line → not (is_blank (get_or line n 0)) ≡ true → begins_word (drop n line) ≡ true
begins_at [] n lt h = absurd (omega arith)
begins_at (byte ∷ line) zero lt h = h
begins_at (byte ∷ line) (suc n) lt h = begins_at line n (omega arith) h

-- where a test first holds of a byte, and where it never does
all_fail : (p : ℕ → Bool) (xs : List ℕ) → None ≡ position p xs → (k : ℕ) → k < length xs → p (get_or xs k 0) ≡ false
all_fail p xs none k lt =
    elim (cases_lt (position_or_len p xs) (length xs)) [
      | inl low ↦ let e : None ≡ Some (position_or_len p xs) = none ∙ cond-true _ _ _ (lt-ltb _ _ low) in absurd cc
      | inr high ↦ fails_before_first p xs k 0 (omega arith)
    ]

pub words_none : (line : List ℕ) → None ≡ position (λ byte. not (is_blank byte)) line → words_of line ≡ []
words_none line none =
    let all = all_fail (λ byte. not (is_blank byte)) line none in
    sym (words_behind line (length line) (omega arith) all) ∙ ap words_of (drop_all (length line) line (omega arith))

pub words_from : (line : List ℕ) (n : ℕ) → Some n ≡ position (λ byte. not (is_blank byte)) line
    → (words_of (take (length line - n) (drop n line)) ≡ words_of line) × (begins_word (take (length line - n) (drop n line)) ≡ true)
words_from line n at =
    let p = position-Some (λ byte. not (is_blank byte)) line n 0 (sym at) in
    rw (slice_rest line n) (words_behind line n (omega arith) p.2, begins_at line n p.0 p.1)

-- a word at the front
word_cut : (line : List ℕ) (n : ℕ) → n < length line → ((k : ℕ) → k ≤ n → is_blank (get_or line k 0) ≡ false) → begins_word (drop (suc n) line) ≡ false
    → words_of line ≡ take (suc n) line ∷ words_of (drop (suc n) line)
word_cut [] n lt h last = absurd (omega arith)
word_cut (byte ∷ line) zero lt h last = rw (h 0 (omega arith), last) refl
word_cut (byte ∷ []) (suc n) lt h last = absurd (omega arith)
word_cut (byte ∷ next ∷ line) (suc n) lt h last =
    let here = h 0 (omega arith) in
    let then : is_blank next ≡ false = h 1 (omega arith) in
    let rest : words_of (next ∷ line) ≡ take (suc n) (next ∷ line) ∷ words_of (drop (suc n) (next ∷ line)) =
    word_cut (next ∷ line) n (omega arith) (λ k le. h (suc k) (omega arith)) last in
    cond-false (is_blank byte) (words_of (next ∷ line)) (cond (not (is_blank next)) (onto_first byte (words_of (next ∷ line))) ((byte ∷ []) ∷ words_of (next ∷ line))) here
    ∙ cond-true (not (is_blank next)) (onto_first byte (words_of (next ∷ line))) ((byte ∷ []) ∷ words_of (next ∷ line)) (not_from_false _ then)
    ∙ ap (onto_first byte) rest

not_begins : (line : List ℕ) (n : ℕ) → (n < length line → is_blank (get_or line n 0) ≡ true) → begins_word (drop n line) ≡ false
not_begins [] zero h = refl
not_begins [] (suc n) h = refl
not_begins (byte ∷ line) zero h = not_from_true _ (h (omega arith))
not_begins (byte ∷ line) (suc n) h = not_begins line n (λ lt. h (omega arith))

some_begins : (line : List ℕ) → begins_word line ≡ true → (1 ≤ length line) × (is_blank (get_or line 0 0) ≡ false)
some_begins [] h = absurd (true≢false (sym h))
some_begins (byte ∷ line) h = (omega arith, not-true _ h)

word_cut_at : (line : List ℕ) (n : ℕ) → begins_word line ≡ true → n ≤ length line → ((k : ℕ) → k < n → is_blank (get_or line k 0) ≡ false)
    → (n < length line → is_blank (get_or line n 0) ≡ true) → words_of line ≡ take n line ∷ words_of (drop n line)
word_cut_at line zero begins le h last =
    let b = some_begins line begins in
    absurd (both_ways _ b.1 (last (omega (arith, b.0))))
word_cut_at line (suc n) begins le h last = word_cut line n (omega arith) (λ k lt. h k (omega arith)) (not_begins line (suc n) last)

-- the front of a line up to its first blank, or the whole line, is its first word
pub first_word : (line : List ℕ) (o : Option ℕ) → begins_word line ≡ true → o ≡ position is_blank line
    → words_of line ≡ take (unwrap_or o (length line)) line ∷ words_of (drop (unwrap_or o (length line)) line)
first_word line None begins at = word_cut_at line (length line) begins (omega arith) (all_fail is_blank line at) (λ lt. absurd (omega arith))
first_word line (Some n) begins at =
    let p = position-Some is_blank line n 0 (sym at) in
    word_cut_at line n begins (omega (arith, p.0)) p.2 (λ lt. p.1)
