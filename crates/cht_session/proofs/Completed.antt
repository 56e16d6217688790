-- Matrices that are completed by zeros to squares.
use Rattle.std.proofs.Common.{◌≡◌, ℕ, ◌+◌, ◌-◌, ◌*◌, ◌^◌, ◌<◌, ◌≤◌, ℤ, pos, ◌+ℤ◌, refl, sym, ap, ap₂, ◌∙◌, subst, arith, inl, inr, le_antisymm}
use Rattle.std.proofs.lemmas.Bool.{cases_lt}
use Rattle.std.proofs.lemmas.Int.{ints}
use Rattle.dense_def.specs.Matrix.{Matrix, height, entry, IsMatrix, made, plus, trace_of, zeros, peak_of, sum_below, magnitudes_below, TraceFits, completed}
use Rattle.dense_def.proofs.Sums.{sum_below_ext, sum_below_split, sum_below_zero, magnitudes_below_ext, magnitudes_below_split, magnitudes_below_bound}
use Rattle.dense_def.proofs.Entries.{IsMatrix-made, made_ext, made_same, made_entry}
use Rattle.dense_def.proofs.Operations.{entry-plus, height-plus}
use Rattle.dense_def.proofs.Peaks.{entry_le_peak, peak_least, peak-zero}
use Rattle.dense_def.proofs.Completed.{entry_below, entry_right, height-completed, entry-completed}

-- ---- The completed matrix

-- a matrix read back from its completed one
pub read_back : (side rows columns : ℕ) (m : Matrix) → IsMatrix m → height m ≡ rows → m.columns ≡ columns → rows ≤ side → columns ≤ side
    → made rows columns (λ i j. entry (completed side m) i j) ≡ m
read_back side rows columns m whole tall wide r c =
    made_same rows columns (height m) m.columns (λ i j. entry (completed side m) i j) (λ i j. entry m i j) (sym tall) (sym wide)
    (λ i j p q. entry-completed side m i j (omega arith) (omega arith))
    ∙ sym (made_entry m whole)

-- ---- Peaks

peak_up : (side : ℕ) (m : Matrix) → IsMatrix m → peak_of (completed side m) ≤ peak_of m
peak_up side m whole =
    peak_least (completed side m) (peak_of m) (λ i j p q.
    let l : i < side = rw height-completed at p in
    rw (entry-completed side m i j l q)
    (elim (cases_lt i (height m)) [
      | inr below ↦ rw (entry_below m i j below) (omega arith)
      | inl lt ↦ elim (cases_lt j m.columns) [
        | inr right ↦ rw (entry_right m i j whole right) (omega arith)
        | inl less ↦ entry_le_peak m i j lt less
      ]
    ]))

peak_down : (side : ℕ) (m : Matrix) → height m ≤ side → m.columns ≤ side → peak_of m ≤ peak_of (completed side m)
peak_down side m r c =
    peak_least m (peak_of (completed side m)) (λ i j p q.
    rw (← entry-completed side m i j (omega arith) (omega arith))
    (entry_le_peak (completed side m) i j (rw height-completed (omega arith)) (omega arith)))

-- zeros change no peak
pub peak-completed : (side : ℕ) (m : Matrix) → IsMatrix m → height m ≤ side → m.columns ≤ side → peak_of (completed side m) ≡ peak_of m
peak-completed side m whole r c = le_antisymm (peak_up side m whole) (peak_down side m r c)

-- a matrix of zeros, completed
pub completed-flat : (side : ℕ) (m : Matrix) → IsMatrix m → peak_of m ≡ 0 → zeros side side ≡ completed side m
completed-flat side m whole flat =
    let none = (peak-zero m).1 flat in
    made_ext side side (λ _ _. pos 0) (λ i j. entry m i j) (λ i j p q.
    sym (elim (cases_lt i (height m)) [
      | inr below ↦ entry_below m i j below
      | inl lt ↦ elim (cases_lt j m.columns) [
        | inr right ↦ entry_right m i j whole right
        | inl less ↦ none i j lt less
      ]
    ]))

-- ---- Sums

entry_sum : (a b : Matrix) (i j : ℕ) → IsMatrix a → IsMatrix b → height a ≡ height b → a.columns ≡ b.columns
    → entry (plus a b) i j ≡ entry a i j +ℤ entry b i j
entry_sum a b i j wa wb tall wide =
    let zeros_add : pos 0 ≡ pos 0 +ℤ pos 0 = refl in
    elim (cases_lt i (height a)) [
      | inr below ↦
          entry_below (plus a b) i j (rw height-plus below) ∙ zeros_add
          ∙ sym (ap₂ (λ x y. x +ℤ y) (entry_below a i j below) (entry_below b i j (rw (← tall) below)))
      | inl lt ↦ elim (cases_lt j a.columns) [
        | inr right ↦
            entry_right (plus a b) i j (IsMatrix-made (height a) a.columns (λ i j. entry a i j +ℤ entry b i j)) right ∙ zeros_add
            ∙ sym (ap₂ (λ x y. x +ℤ y) (entry_right a i j wa right) (entry_right b i j wb (rw (← wide) right)))
        | inl less ↦ entry-plus a b i j lt less
      ]
    ]

-- the sum of completed matrices of one shape is the completed sum
pub plus-completed : (side : ℕ) (a b : Matrix) → IsMatrix a → IsMatrix b → height a ≡ height b → a.columns ≡ b.columns
    → plus (completed side a) (completed side b) ≡ completed side (plus a b)
plus-completed side a b wa wb tall wide =
    made_same (height (completed side a)) side side side (λ i j. entry (completed side a) i j +ℤ entry (completed side b) i j)
    (λ i j. entry (plus a b) i j) (height-completed side a) refl (λ i j p q.
    let l : i < side = rw height-completed at p in
    ap₂ (λ x y. x +ℤ y) (entry-completed side a i j l q) (entry-completed side b i j l q) ∙ sym (entry_sum a b i j wa wb tall wide))

-- ---- Traces

sum_from : (n k : ℕ) (f : ℕ → ℤ) → ((i : ℕ) → n ≤ i → f i ≡ pos 0) → sum_below (n + k) f ≡ sum_below n f
sum_from n k f none =
    sum_below_split n k f ∙ ap (λ x. sum_below n f +ℤ x) (sum_below_zero k (λ i. f (n + i)) (λ i p. none (n + i) (omega arith)))
    ∙ omega (arith, ints)

magnitudes_zero : (k : ℕ) (f : ℕ → ℤ) → ((i : ℕ) → i < k → f i ≡ pos 0) → magnitudes_below k f ≤ k * 0
magnitudes_zero k f none = magnitudes_below_bound k 0 f (λ i p. rw (none i p) (omega arith))

magnitudes_from : (n k : ℕ) (f : ℕ → ℤ) → ((i : ℕ) → n ≤ i → f i ≡ pos 0) → magnitudes_below (n + k) f ≡ magnitudes_below n f
magnitudes_from n k f none =
    omega (arith, magnitudes_below_split n k f, magnitudes_zero k (λ i. f (n + i)) (λ i p. none (n + i) (omega arith)))

trace_terms : (side : ℕ) (m : Matrix) (i : ℕ) → i < side → entry (completed side m) i i ≡ entry m i i
trace_terms side m i p = entry-completed side m i i p p

-- the trace of a completed matrix is that of the matrix
pub trace-completed : (side : ℕ) (m : Matrix) → height m ≤ side → trace_of (completed side m) ≡ trace_of m
trace-completed side m r =
    let more : height m + (side - height m) ≡ side = omega arith in
    let diagonal : ℕ → ℤ = λ i. entry m i i in
    ap (λ n. sum_below n (λ i. entry (completed side m) i i)) (height-completed side m)
    ∙ sum_below_ext side (λ i. entry (completed side m) i i) diagonal (trace_terms side m)
    ∙ ap (λ n. sum_below n diagonal) (sym more)
    ∙ sum_from (height m) (side - height m) diagonal (λ i le. entry_below m i i le)

-- and its terms fit where those of the matrix do
pub trace_fits-completed : (side : ℕ) (m : Matrix) → height m ≤ side → TraceFits m → TraceFits (completed side m)
trace_fits-completed side m r fits =
    let more : height m + (side - height m) ≡ side = omega arith in
    let diagonal : ℕ → ℤ = λ i. entry m i i in
    let same : magnitudes_below (height (completed side m)) (λ i. entry (completed side m) i i) ≡ magnitudes_below (height m) diagonal =
    ap (λ n. magnitudes_below n (λ i. entry (completed side m) i i)) (height-completed side m)
    ∙ magnitudes_below_ext side (λ i. entry (completed side m) i i) diagonal (trace_terms side m)
    ∙ ap (λ n. magnitudes_below n diagonal) (sym more)
    ∙ magnitudes_from (height m) (side - height m) diagonal (λ i le. entry_below m i i le) in
    subst (λ n. n ≤ 2 ^ 126) (sym same) fits
