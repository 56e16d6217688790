-- Where a text is cut at its first line feed, and a line at its first space.
use Rattle.std.proofs.Common.{◌≡◌, ℕ, zero, suc, ◌+◌, ◌-◌, ◌<◌, Bool, true, false, eqb, List, [], ◌∷◌, length, get_or, take, drop, refl, arith, add-one}
use Rattle.std.proofs.lemmas.List.{length-drop, take_all}
use Rattle.cht_ids.specs.Lines.{ended_lines, pieces_of}

not_true : (b : Bool) → (b ≡ true → ⊥) → b ≡ false
not_true true h = absurd (h refl)
not_true false h = refl

-- the first n bytes are not the mark
abbrev pub NoneIn : ℕ → List ℕ → ℕ → Type 0
NoneIn mark text n = (k : ℕ) → k < n → eqb (get_or text k 0) mark ≡ true → ⊥

NoneIn-head : (mark byte : ℕ) (text : List ℕ) (n : ℕ) → NoneIn mark (byte ∷ text) (suc n) → eqb byte mark ≡ false
NoneIn-head mark byte text n h = not_true (eqb byte mark) (h 0 (omega arith))

NoneIn-tail : (mark byte : ℕ) (text : List ℕ) (n : ℕ) → NoneIn mark (byte ∷ text) (suc n) → NoneIn mark text n
NoneIn-tail mark byte text n h k lt = h (suc k) (omega arith)

pub lines_none : (text : List ℕ) → NoneIn 10 text (length text) → ended_lines text ≡ []
lines_none [] h = refl
lines_none (byte ∷ text) h = rw (NoneIn-head 10 byte text (length text) h, lines_none text (NoneIn-tail 10 byte text (length text) h)) refl

lines_cut : (text : List ℕ) (n : ℕ) → n < length text → NoneIn 10 text n → eqb (get_or text n 0) 10 ≡ true → ended_lines text ≡ take n text ∷ ended_lines (drop (suc n) text)
lines_cut [] n lt h at = absurd (omega arith)
lines_cut (byte ∷ text) zero lt h at = rw at refl
lines_cut (byte ∷ text) (suc n) lt h at = rw (NoneIn-head 10 byte text n h, lines_cut text n (omega arith) (NoneIn-tail 10 byte text n h) at) refl

pub pieces_none : (text : List ℕ) → NoneIn 32 text (length text) → pieces_of text ≡ text ∷ []
pieces_none [] h = refl
pieces_none (byte ∷ text) h = rw (NoneIn-head 32 byte text (length text) h, pieces_none text (NoneIn-tail 32 byte text (length text) h)) refl

pieces_cut : (text : List ℕ) (n : ℕ) → n < length text → NoneIn 32 text n → eqb (get_or text n 0) 32 ≡ true → pieces_of text ≡ take n text ∷ pieces_of (drop (suc n) text)
pieces_cut [] n lt h at = absurd (omega arith)
pieces_cut (byte ∷ text) zero lt h at = rw at refl
pieces_cut (byte ∷ text) (suc n) lt h at = rw (NoneIn-head 32 byte text n h, pieces_cut text n (omega arith) (NoneIn-tail 32 byte text n h) at) refl

-- the rest of a text from a place, as a slice gives it
slice_rest : (text : List ℕ) (n : ℕ) → take (length text - (n + 1)) (drop (n + 1) text) ≡ drop (suc n) text
slice_rest text n = rw add-one (take_all (length text - suc n) (drop (suc n) text) (omega (arith, length-drop (suc n) text)))

-- the same cuts, with the rest as a slice gives it
pub lines_cut_slice : (text : List ℕ) (n : ℕ) → n < length text → NoneIn 10 text n → eqb (get_or text n 0) 10 ≡ true
    → ended_lines text ≡ take n text ∷ ended_lines (take (length text - (n + 1)) (drop (n + 1) text))
lines_cut_slice text n lt h at = rw slice_rest (lines_cut text n lt h at)

pub pieces_cut_slice : (text : List ℕ) (n : ℕ) → n < length text → NoneIn 32 text n → eqb (get_or text n 0) 32 ≡ true
    → pieces_of text ≡ take n text ∷ pieces_of (take (length text - (n + 1)) (drop (n + 1) text))
pieces_cut_slice text n lt h at = rw slice_rest (pieces_cut text n lt h at)
