-- The upper triangle of a square in a list, row after row: indices of its places, and the symmetric block that it gives.
use Rattle.std.proofs.Common.{◌≡◌, ℕ, zero, suc, ◌+◌, ◌-◌, ◌*◌, ◌<◌, ◌≤◌, ◌↔◌, min, max, List, length, get_or, ℤ, pos, unsigned_abs, refl, sym, ap, ap₂, ◌∙◌, subst, arith, ⊎_elim}
use Rattle.std.specs.Prelude.{All}
use Rattle.std.proofs.lemmas.Nat.{mul-le}
use Rattle.std.proofs.lemmas.Bool.{cases_lt}
use Rattle.std.proofs.lemmas.List.{get_or_default, get_or_read}
use Rattle.dense_def.specs.Matrix.{Matrix, height, entry, IsMatrix, IsSymmetric, sum_below, trace_of, peak_of, IsZero, TraceFits, TermsFit}
use Rattle.dense_def.proofs.Sums.{sum_below_ext, magnitudes_below_ext}
use Rattle.dense_def.proofs.Entries.{height-made, entry_made, IsMatrix-made, made_same}
use Rattle.dense_def.proofs.Peaks.{entry_le_peak, peak_least}
use Rattle.leaf_blocks.specs.Block.{number_at, EachPlace, IsSmall}
use Rattle.leaf_blocks.specs.Symmetric.{triangular, triangle_index, EachUpper, mirrored_place, mirrored, FillsTriangle, IsSymmetricBlock}

-- ---- Triangular numbers, and where rows begin

-- the next triangular number
pub triangular-more : (n : ℕ) → triangular (suc n) ≡ triangular n + suc n
triangular-more n = omega arith

-- twice a triangular number
pub triangular-twice : (n : ℕ) → 2 * triangular n ≡ n * n + n
triangular-twice zero = refl
triangular-twice (suc n) = omega (arith, triangular-more n, triangular-twice n)

-- no more places are left out than a full square has in the rows before
pub left_out : (side i : ℕ) → i ≤ side → triangular i ≤ i * side
left_out side zero h = omega arith
left_out side (suc i) h = omega (arith, triangular-twice (suc i), mul-le (suc i) (suc i) (suc i) side (omega arith) h)

-- a row begins where the one before it ends
pub next_start : (side i : ℕ) → i < side → triangle_index side (suc i) (suc i) ≡ triangle_index side i i + (side - i)
next_start side i h = omega (arith, triangular-more i, left_out side i (omega arith), left_out side (suc i) h)

-- a place of a row, from where the row begins
pub within_row : (side i q : ℕ) → i < side → triangle_index side i (i + q) ≡ triangle_index side i i + q
within_row side i q h = omega (arith, left_out side i (omega arith))

-- behind the last row the triangle ends
pub last_start : (side : ℕ) → triangle_index side side side ≡ triangular side
last_start side = omega (arith, triangular-twice side)

-- a row begins behind all of an earlier one
pub row_before : (side i j : ℕ) → i < j → j ≤ side → triangle_index side i i + (side - i) ≤ triangle_index side j j
row_before side i zero h k = absurd (omega arith)
row_before side i (suc j) h k =
    ⊎_elim (λ (l : i < j). omega (arith, row_before side i j l (omega arith), next_start side j k))
    (λ (l : j ≤ i). let same : i ≡ j = omega arith in rw same (omega (arith, next_start side j k)))
    (cases_lt i j)

-- each place on or above the diagonal has its index in the list
pub index_within : (side i j : ℕ) → i ≤ j → j < side → triangle_index side i j < triangular side
index_within side i j h k =
    let q : i + (j - i) ≡ j = omega arith in
    subst (λ j. triangle_index side i j < triangular side) q
    (omega (arith, within_row side i (j - i) (omega arith), row_before side i side (omega arith) (omega arith), last_start side))

-- what holds at each place on or above the diagonal holds at each index
by_rows : (P : ℕ → Type 0) (side n : ℕ) → n ≤ side → EachUpper side (λ i j. P (triangle_index side i j)) → (p : ℕ) → p < triangle_index side n n → P p
by_rows P side zero h each p k = absurd (omega arith)
by_rows P side (suc n) h each p k =
    let start = triangle_index side n n in
    ⊎_elim (λ (l : p < start). by_rows P side n (omega arith) each p l)
    (λ (l : start ≤ p).
    let next = next_start side n h in
    let same : triangle_index side n (n + (p - start)) ≡ p = omega (arith, within_row side n (p - start) h) in
    subst P same (each n (n + (p - start)) (omega arith) (omega (arith, next))))
    (cases_lt p start)

pub by_triangle : (P : ℕ → Type 0) (side : ℕ) → EachUpper side (λ i j. P (triangle_index side i j)) → (p : ℕ) → p < triangular side → P p
by_triangle P side each p h = by_rows P side side (omega arith) each p (omega (arith, last_start side))

-- what holds of the number at each place on or above the diagonal holds of all numbers
pub all_by_triangle : (P : ℤ → Type 0) (side : ℕ) (numbers : List ℤ) → length numbers ≡ triangular side → EachUpper side (λ i j. P (number_at numbers (triangle_index side i j))) → All P numbers
all_by_triangle P side numbers long each = λ p d h.
    subst P (get_or_default numbers p (pos 0) d h) (by_triangle (λ p. P (number_at numbers p)) side each p (rw (← long) h))

-- ---- The block of a triangle

-- what a list of the upper triangle says of the symmetric block that it gives
pub record Mirrors (numbers : List ℤ) (side : ℕ) (block : Matrix) : Type 0 where
  pub tall : height block ≡ side
  pub wide : block.columns ≡ side
  pub whole : IsMatrix block
  pub symmetric : IsSymmetric block
  pub place : EachPlace side (λ i j. entry block i j ≡ mirrored_place side numbers i j)
  pub upper : EachUpper side (λ i j. entry block i j ≡ number_at numbers (triangle_index side i j))

-- both orders of row and column are one place
mirrored_both : (side : ℕ) (numbers : List ℤ) (i j : ℕ) → mirrored_place side numbers i j ≡ mirrored_place side numbers j i
mirrored_both side numbers i j =
    let low : min i j ≡ min j i = omega arith in
    let high : max i j ≡ max j i = omega arith in
    ap₂ (λ p q. number_at numbers (triangle_index side p q)) low high

-- on or above the diagonal row and column stand in their order
mirrored_upper : (side : ℕ) (numbers : List ℤ) (i j : ℕ) → i ≤ j → mirrored_place side numbers i j ≡ number_at numbers (triangle_index side i j)
mirrored_upper side numbers i j h =
    let low : min i j ≡ i = omega arith in
    let high : max i j ≡ j = omega arith in
    ap₂ (λ p q. number_at numbers (triangle_index side p q)) low high

-- a list of the upper triangle is what it says of its block
pub mirrors : (numbers kept : List ℤ) (side : ℕ) (block : Matrix) → numbers ≡ kept → mirrored side kept ≡ block → Mirrors numbers side block
mirrors numbers kept side block same is =
    let tall = height-made side side (λ i j. mirrored_place side numbers i j) in
    let places : EachPlace side (λ i j. entry (mirrored side numbers) i j ≡ mirrored_place side numbers i j) = λ i j h k. entry_made side side (λ i j. mirrored_place side numbers i j) i j h k in
    subst (λ x. Mirrors numbers side x) (ap (mirrored side) same ∙ is)
    (record {
      tall = tall;
      wide = refl;
      whole = IsMatrix-made side side (λ i j. mirrored_place side numbers i j);
      symmetric = made_same _ _ _ _ (λ i j. entry (mirrored side numbers) j i) (λ i j. mirrored_place side numbers i j) refl tall
          (λ i j h k. places j i (rw tall at k) h ∙ mirrored_both side numbers j i);
      place = places;
      upper = λ i j h k. places i j (omega arith) k ∙ mirrored_upper side numbers i j h;
    })

module _ (a : Matrix) (n : ℕ) (xs : List ℤ) (s : Mirrors xs n a) where
  -- what holds of all numbers of the list holds at each place
  pub mirrored_all : (P : ℤ → Type 0) → length xs ≡ triangular n → All P xs → EachPlace n (λ i j. P (entry a i j))
  mirrored_all P long all i j h k =
      subst P (sym (s.place i j h k))
      (all (triangle_index n (min i j) (max i j)) (pos 0) (rw long (index_within n (min i j) (max i j) (omega arith) (omega arith))))

  -- and what holds at each place holds of all numbers
  pub all_mirrored : (P : ℤ → Type 0) → length xs ≡ triangular n → EachPlace n (λ i j. P (entry a i j)) → All P xs
  all_mirrored P long each =
      all_by_triangle P n xs long (λ i j h k. subst P (s.upper i j h k) (each i j (omega arith) k))

  -- the block that a full triangle gives
  pub symmetric_block : FillsTriangle n xs → IsSymmetricBlock n a
  symmetric_block fills = record {
    square = record { whole = s.whole; tall = s.tall; wide = s.wide; small = mirrored_all IsSmall fills.full fills.small };
    symmetric = s.symmetric;
  }

  -- the trace
  trace_terms : (i : ℕ) → i < n → entry a i i ≡ number_at xs (triangle_index n i i)
  trace_terms i h = s.upper i i (omega arith) h

  pub triangle_trace_fits : TraceFits a → TermsFit n (λ i. number_at xs (triangle_index n i i))
  triangle_trace_fits fits = rw (← (magnitudes_below_ext n _ _ trace_terms)) (rw s.tall at fits)

  pub triangle_trace_is : sum_below n (λ i. number_at xs (triangle_index n i i)) ≡ trace_of a
  triangle_trace_is = sym (sum_below_ext n _ _ trace_terms) ∙ ap (λ n. sum_below n (λ i. entry a i i)) (sym s.tall)

  -- the peak, and whether all is 0
  pub triangle_peak_is : length xs ≡ triangular n → (peak : ℕ) → All (λ z. unsigned_abs z ≤ peak) xs → ((bound : ℕ) → All (λ z. unsigned_abs z ≤ bound) xs → peak ≤ bound) → peak ≡ peak_of a
  triangle_peak_is long peak above least =
      let low : peak ≤ peak_of a = least (peak_of a) (all_mirrored (λ z. unsigned_abs z ≤ peak_of a) long
      (λ i j h k. entry_le_peak a i j (rw s.tall h) (rw s.wide k))) in
      let high : peak_of a ≤ peak = peak_least a peak (λ i j h k.
      mirrored_all (λ z. unsigned_abs z ≤ peak) long above i j (rw s.tall at h) (rw s.wide at k)) in
      omega arith

  pub triangle_zero_is : length xs ≡ triangular n → (All (λ z. z ≡ pos 0) xs) ↔ IsZero a
  triangle_zero_is long = (
    λ zeros i j h k. mirrored_all (λ z. z ≡ pos 0) long zeros i j (rw s.tall at h) (rw s.wide at k),
    λ zero. all_mirrored (λ z. z ≡ pos 0) long (λ i j h k. zero i j (rw s.tall h) (rw s.wide k)),
  )

  -- one place, as the code reads it
  module _ (fills : FillsTriangle n xs) (i j : ℕ) (row : i < height a) (column : j < height a) where
    pub mirrored_within : triangle_index n (min i j) (max i j) < length xs
    mirrored_within =
        let h : i < n = rw s.tall at row in
        let k : j < n = rw s.tall at column in
        rw fills.full (index_within n (min i j) (max i j) (omega arith) (omega arith))

    pub mirrored_read : (p : ℕ) (x : ℤ) → p ≡ triangle_index n (min i j) (max i j) → x ≡ get_or xs p x → x ≡ entry a i j
    mirrored_read p x is read =
        get_or_read xs p x (rw is mirrored_within) read (pos 0)
        ∙ ap (λ p. number_at xs p) is ∙ sym (s.place i j (rw s.tall at row) (rw s.tall at column))

    pub mirrored_small : IsSmall (entry a i j)
    mirrored_small = (symmetric_block fills).square.small i j (rw s.tall at row) (rw s.tall at column)
