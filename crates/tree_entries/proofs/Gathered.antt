-- Strips that get more pieces.
use Rattle.std.proofs.Common.{◌≡◌, ℕ, zero, suc, ◌<◌, ◌≤◌, true, false, cond, ◌==◌, List, [], ◌∷◌, ◌++◌, length, set, get_or, refl, sym, ap, ◌∙◌, arith, append_assoc, append-nil, inl, inr, ◌⊎◌, ⊎_elim, eq-eqb, ne_eqb}
use Rattle.std.specs.Prelude.{All}
use Rattle.std.proofs.lemmas.Bool.{cases_eq}
use Rattle.std.proofs.lemmas.List.{length-set, get_or-set_same, get_or-set_other}
use Rattle.std.proofs.lemmas.List.Elements.{All-head}
use Rattle.tree_entries.specs.declared.piece.Piece.{Piece}
use Rattle.tree_entries.specs.Strips.{strip_at, only_in, IsGathered, first_side, side_in, Fits}

-- ---- Strips

-- past the last strip there are no pieces
pub past_strips : (strips : List (List Piece)) (s : ℕ) → length strips ≤ s → strip_at strips s ≡ []
past_strips [] s le = refl
past_strips (x ∷ xs) zero le = absurd (omega arith)
past_strips (x ∷ xs) (suc s) le = past_strips xs s (omega arith)

-- one more strip without pieces
pub one_more_empty : (strips : List (List Piece)) (s : ℕ) → ((s : ℕ) → strip_at strips s ≡ []) → strip_at (strips ++ [] ∷ []) s ≡ []
one_more_empty [] zero none = refl
one_more_empty [] (suc s) none = refl
one_more_empty (x ∷ xs) zero none = none zero
one_more_empty (x ∷ xs) (suc s) none = one_more_empty xs s (λ i. none (suc i))

-- a strip that is there
pub strip_is : (strips : List (List Piece)) (s : ℕ) (strip : List Piece) → s < length strips → strip ≡ get_or strips s strip → strip ≡ strip_at strips s
strip_is strips s strip lt is = is ∙ any_default strips s strip lt
  where
    any_default : (strips : List (List Piece)) (s : ℕ) (strip : List Piece) → s < length strips → get_or strips s strip ≡ strip_at strips s
    any_default [] s strip lt = absurd (omega (arith, lt))
    any_default (x ∷ xs) zero strip lt = refl
    any_default (x ∷ xs) (suc s) strip lt = any_default xs s strip (omega (arith, lt))

-- ---- More pieces

-- nothing more
pub gathered_none : (strips : List (List Piece)) (more : ℕ → List Piece) → ((s : ℕ) → more s ≡ []) → IsGathered strips strips more
gathered_none strips more none = record {
  long = refl;
  each = λ s. sym (append-nil (strip_at strips s)) ∙ ap (λ xs. strip_at strips s ++ xs) (sym (none s));
}

-- one after the other
pub gathered_then : (first second third : List (List Piece)) (f g : ℕ → List Piece) → IsGathered first second f → IsGathered second third g
    → IsGathered first third (λ s. f s ++ g s)
gathered_then first second third f g one two = record {
  long = two.long ∙ one.long;
  each = λ s. two.each s ∙ ap (λ xs. xs ++ g s) (one.each s) ∙ append_assoc (strip_at first s) (f s) (g s);
}

-- the same pieces, given in another way
pub gathered_as : (before after : List (List Piece)) (f g : ℕ → List Piece) → ((s : ℕ) → f s ≡ g s) → IsGathered before after f → IsGathered before after g
gathered_as before after f g same is = record {
  long = is.long;
  each = λ s. is.each s ∙ ap (λ xs. strip_at before s ++ xs) (same s);
}

-- a piece is put at the end of its strip
pub gathered_put : (before : List (List Piece)) (n : ℕ) (piece : Piece) → n < length before
    → IsGathered before (set before n (strip_at before n ++ piece ∷ [])) (only_in n piece)
gathered_put before n piece lt = record {
  long = length-set before n (strip_at before n ++ piece ∷ []);
  each = λ s.
      ⊎_elim
      (λ (e : s ≡ n).
      let t : (s == n) ≡ true = eq-eqb s n e in
      ap (λ i. strip_at (set before n (strip_at before n ++ piece ∷ [])) i) e
      ∙ get_or-set_same before n (strip_at before n ++ piece ∷ []) [] lt
      ∙ ap (λ i. strip_at before i ++ piece ∷ []) (sym e)
      ∙ ap (λ b. strip_at before s ++ cond b (piece ∷ []) []) (sym t))
      (λ (other : s ≡ n → ⊥).
      let f : (s == n) ≡ false = ne_eqb s n other in
      get_or-set_other before n s (strip_at before n ++ piece ∷ []) [] other
      ∙ sym (append-nil (strip_at before s))
      ∙ ap (λ b. strip_at before s ++ cond b (piece ∷ []) []) (sym f))
      (cases_eq s n);
}

-- ---- The first side

-- no strip has a piece
abbrev pub AreBare : List (List Piece) → Type 0
AreBare strips = (s : ℕ) → strip_at strips s ≡ []

bare_next : (strips : List (List Piece)) → AreBare strips → AreBare ([] ∷ strips)
bare_next strips bare zero = refl
bare_next strips bare (suc s) = bare s

-- where all pieces have one side, the first one has it, or there is none
pub first_fits : (b : ℕ) (strips : List (List Piece)) → ((s : ℕ) → All (Fits b) (strip_at strips s)) → (first_side strips ≡ b) ⊎ AreBare strips
first_fits b [] fit = inr (λ s. refl)
first_fits b ([] ∷ strips) fit =
    ⊎_elim (λ (e : first_side strips ≡ b). inl e) (λ (bare : AreBare strips). inr (bare_next strips bare)) (first_fits b strips (λ s. fit (suc s)))
first_fits b ((piece ∷ pieces) ∷ strips) fit = inl (All-head (Fits b) piece pieces (fit zero)).side

-- without pieces there is no side
pub bare_side : (strips : List (List Piece)) → AreBare strips → first_side strips ≡ 0
bare_side [] bare = refl
bare_side ([] ∷ strips) bare = bare_side strips (λ s. bare (suc s))
bare_side ((piece ∷ pieces) ∷ strips) bare = absurd (let e = bare zero in cc)

-- the side of a list whose first strip has a piece
pub side_here : (left : List (List Piece)) (strip : List Piece) (behind : List (List Piece)) (piece : Piece) (others : List Piece)
    → left ≡ strip ∷ behind → strip ≡ piece ∷ others → first_side left ≡ side_in piece.content
side_here left strip behind piece others e f = ap first_side (e ∙ ap (λ l. l ∷ behind) f)

-- or none
pub side_behind : (left : List (List Piece)) (strip : List Piece) (behind : List (List Piece)) → left ≡ strip ∷ behind → strip ≡ [] → first_side left ≡ first_side behind
side_behind left strip behind e f = ap first_side (e ∙ ap (λ l. l ∷ behind) f)
