-- Blocks and the lists of their numbers: each operation on blocks is its loop over the lists.
use Rattle.std.proofs.Common.{◌≡◌, ℕ, zero, suc, ◌+◌, ◌*◌, ◌/◌, ◌%◌, ◌^◌, ◌<◌, ◌≤◌, ◌↔◌, List, length, get_or, ℤ, pos, ◌+ℤ◌, ◌*ℤ◌, unsigned_abs, refl, sym, ap, ap₂, ◌∙◌, subst, arith}
use Rattle.std.specs.Prelude.{All}
use Rattle.std.proofs.lemmas.Nat.{mul-add-lt, div-add-mod', div_below, mod_below}
use Rattle.std.proofs.lemmas.List.{get_or_default, get_or_read}
use Rattle.dense_def.specs.Matrix.{Matrix, height, entry, tabulate, row_by_row, sum_below, plus, times, transposed, tmul_of, mult_of, trace_of, peak_of, IsZero, SumFits, ProductFits, TmulFits, TraceFits, TermsFit}
use Rattle.dense_def.proofs.Sums.{sum_below_ext, magnitudes_below_ext, magnitudes_bound, unsigned_abs-add}
use Rattle.dense_def.proofs.Entries.{length-tabulate, get_or-tabulate, made_same}
use Rattle.dense_def.proofs.RowByRow.{Stores, stores}
use Rattle.dense_def.proofs.Operations.{entry-plus, entry-times, entry-tmul_of, entry-mult_of, entry-transposed}
use Rattle.dense_def.proofs.Peaks.{entry_le_peak, peak_least}
use Rattle.leaf_blocks.specs.Block.{number_at, place, EachPlace, IsSmall, FillsSquare, IsBlock}

-- ---- Places of a square, and indices of its list

-- what holds at each place holds at each index
pub by_place : (P : ℕ → Type 0) (n : ℕ) → EachPlace n (λ i j. P (i * n + j)) → (p : ℕ) → p < n * n → P p
by_place P zero each p h = absurd (omega (arith, h))
by_place P (suc n) each p h =
    subst P (div-add-mod' p (suc n)) (each (p / suc n) (p % suc n) (div_below p (suc n) (suc n) (omega arith) h) (mod_below p (suc n) (omega arith)))

-- what holds of the number at each place holds of all numbers
pub all_by_place : (P : ℤ → Type 0) (n : ℕ) (numbers : List ℤ) → length numbers ≡ n * n → EachPlace n (λ i j. P (place n numbers i j)) → All P numbers
all_by_place P n numbers long each = λ p d h.
    subst P (get_or_default numbers p (pos 0) d h) (by_place (λ p. P (number_at numbers p)) n each p (rw (← long) h))

-- and what holds of all numbers holds at each place
pub place_of_all : (P : ℤ → Type 0) (n : ℕ) (numbers : List ℤ) → length numbers ≡ n * n → All P numbers → EachPlace n (λ i j. P (place n numbers i j))
place_of_all P n numbers long all i j h k = all (i * n + j) (pos 0) (omega (arith, long, mul-add-lt i n j n h k))

-- sums whose terms fit fill the square
pub sums_fill : (n : ℕ) (numbers : List ℤ) (terms : ℕ → ℕ → ℕ → ℤ) → length numbers ≡ n * n → EachPlace n (λ i j. place n numbers i j ≡ sum_below n (terms i j)) → EachPlace n (λ i j. TermsFit n (terms i j)) → FillsSquare n numbers
sums_fill n numbers terms long sums fits = record {
  full = long;
  small = all_by_place IsSmall n numbers long (λ i j h k.
      let fit = fits i j h k in
      rw (sums i j h k) (omega (arith, magnitudes_bound n (terms i j))));
}

-- ---- A block and the list of its numbers

-- the list may be one that is equal to the one that the leaf keeps
pub seen : (block : Matrix) (side : ℕ) (numbers kept : List ℤ) → numbers ≡ kept → row_by_row side side kept ≡ block → Stores numbers side side block
seen block side numbers kept same view = stores numbers side side block (ap (row_by_row side side) same ∙ view)

-- a list that fills the square stores a block
pub block_is : (block : Matrix) (side : ℕ) (numbers : List ℤ) → Stores numbers side side block → FillsSquare side numbers → IsBlock side block
block_is block side numbers s fills = record {
  whole = s.whole;
  tall = s.tall;
  wide = s.wide;
  small = λ i j h k. subst IsSmall (sym (s.place i j h k)) (place_of_all IsSmall side numbers fills.full fills.small i j h k);
}

-- a block that an operation made, of the side of its operand
pub result_block : (block : Matrix) (side : ℕ) (numbers made : List ℤ) → Stores numbers side side block → FillsSquare side made → IsBlock (height block) (row_by_row side side made)
result_block block side numbers made s fills = rw (s.tall) (block_is (row_by_row side side made) side made (stores made side side _ refl) fills)

-- one place, as the code reads it
module _ (a : Matrix) (n : ℕ) (xs : List ℤ) (s : Stores xs n n a) (fills : FillsSquare n xs) (i j : ℕ) (row : i < height a) (column : j < height a) where
  pub place_within : i * n + j < length xs
  place_within = rw fills.full (mul-add-lt i n j n (rw s.tall at row) (rw s.tall at column))

  pub place_read : (x : ℤ) → x ≡ get_or xs (i * n + j) x → x ≡ entry a i j
  place_read x read =
      get_or_read xs (i * n + j) x place_within read (pos 0) ∙ sym (s.place i j (rw s.tall at row) (rw s.tall at column))

  pub place_small : IsSmall (entry a i j)
  place_small = (block_is a n xs s fills).small i j (rw s.tall at row) (rw s.tall at column)

-- the trace, the peak, and whether all is 0
module _ (a : Matrix) (n : ℕ) (xs : List ℤ) (s : Stores xs n n a) where
  trace_terms : (i : ℕ) → i < n → entry a i i ≡ place n xs i i
  trace_terms i h = s.place i i h h

  pub trace_fits : TraceFits a → TermsFit n (λ i. place n xs i i)
  trace_fits fits = rw (← (magnitudes_below_ext n _ _ trace_terms)) (rw s.tall at fits)

  pub trace_is : sum_below n (λ i. place n xs i i) ≡ trace_of a
  trace_is = sym (sum_below_ext n _ _ trace_terms) ∙ ap (λ n. sum_below n (λ i. entry a i i)) (sym s.tall)

  pub peak_is : length xs ≡ n * n → (peak : ℕ) → All (λ z. unsigned_abs z ≤ peak) xs → ((bound : ℕ) → All (λ z. unsigned_abs z ≤ bound) xs → peak ≤ bound) → peak ≡ peak_of a
  peak_is long peak above least =
      let low : peak ≤ peak_of a = least (peak_of a) (all_by_place (λ z. unsigned_abs z ≤ peak_of a) n xs long
      (λ i j h k. rw (← (s.place i j h k)) (entry_le_peak a i j (rw s.tall h) (rw s.wide k)))) in
      let high : peak_of a ≤ peak = peak_least a peak (λ i j h k.
      let row : i < n = rw s.tall at h in
      let column : j < n = rw s.wide at k in
      rw (s.place i j row column) (place_of_all (λ z. unsigned_abs z ≤ peak) n xs long above i j row column)) in
      omega arith

  pub zero_is : length xs ≡ n * n → (All (λ z. z ≡ pos 0) xs) ↔ IsZero a
  zero_is long = (
    λ zeros i j h k.
        let row : i < n = rw s.tall at h in
        let column : j < n = rw s.wide at k in
        s.place i j row column ∙ place_of_all (λ z. z ≡ pos 0) n xs long zeros i j row column,
    λ zero. all_by_place (λ z. z ≡ pos 0) n xs long (λ i j h k. sym (s.place i j h k) ∙ zero i j (rw s.tall h) (rw s.wide k)),
  )

-- ---- Two blocks of one side and the lists of their numbers
module _ (a b : Matrix) (n m : ℕ) (xs ys : List ℤ) (first : Stores xs n n a) (other : Stores ys m m b) (sides : height a ≡ height b) where
  same_side : m ≡ n
  same_side = sym other.tall ∙ sym sides ∙ first.tall

  second : Stores ys n n b
  second = subst (λ w. Stores ys w w b) same_side other

  pub other_full : FillsSquare m ys → length ys ≡ n * n
  other_full fills = fills.full ∙ ap (λ n. n * n) same_side

  -- the sum
  pub plus_fits : SumFits a b → (p : ℕ) → p < n * n → unsigned_abs (number_at xs p) + unsigned_abs (number_at ys p) ≤ 2 ^ 126
  plus_fits fits = by_place (λ p. unsigned_abs (number_at xs p) + unsigned_abs (number_at ys p) ≤ 2 ^ 126) n (λ i j h k.
      rw (← (first.place i j h k), ← (second.place i j h k)) (fits i j (rw first.tall h) (rw first.wide k)))

  module _ (out : List ℤ) (long : length xs ≡ n * n) (sums : out ≡ tabulate (length xs) (λ p. number_at xs p +ℤ number_at ys p)) where
    plus_place : (i j : ℕ) → i < n → j < n → place n out i j ≡ place n xs i j +ℤ place n ys i j
    plus_place i j h k =
        ap (λ (l : List ℤ). place n l i j) sums
        ∙ get_or-tabulate (length xs) (i * n + j) (λ p. number_at xs p +ℤ number_at ys p) (pos 0) (omega (arith, long, mul-add-lt i n j n h k))

    pub plus_is : row_by_row n n out ≡ plus a b
    plus_is = made_same n n (height a) a.columns (place n out) (λ i j. entry a i j +ℤ entry b i j) (sym first.tall) (sym first.wide)
        (λ i j h k. plus_place i j h k ∙ ap₂ ◌+ℤ◌ (sym (first.place i j h k)) (sym (second.place i j h k)))

    pub plus_fills : SumFits a b → FillsSquare n out
    plus_fills fits =
        let long_out : length out ≡ n * n = ap length sums ∙ length-tabulate (length xs) (λ p. number_at xs p +ℤ number_at ys p) ∙ long in
        record {
          full = long_out;
          small = all_by_place IsSmall n out long_out (λ i j h k.
              let fit = plus_fits fits (i * n + j) (mul-add-lt i n j n h k) in
              rw (plus_place i j h k) (omega (arith, unsigned_abs-add (place n xs i j) (place n ys i j))));
        }

  -- the product
  times_terms : (i j : ℕ) → i < n → j < n → (k : ℕ) → k < n → entry a i k *ℤ entry b k j ≡ place n xs i k *ℤ place n ys k j
  times_terms i j h l k t = ap₂ ◌*ℤ◌ (first.place i k h t) (second.place k j t l)

  pub times_fits : ProductFits a b → EachPlace n (λ i j. TermsFit n (λ k. place n xs i k *ℤ place n ys k j))
  times_fits fits i j h l =
      rw (← (magnitudes_below_ext n _ _ (times_terms i j h l))) (rw first.wide at (fits i j (rw first.tall h) (rw second.wide l)))

  pub times_is : (out : List ℤ) → EachPlace n (λ i j. place n out i j ≡ sum_below n (λ k. place n xs i k *ℤ place n ys k j)) → row_by_row n n out ≡ times a b
  times_is out sums =
      made_same n n (height a) b.columns (place n out) (λ i j. sum_below a.columns (λ k. entry a i k *ℤ entry b k j)) (sym first.tall) (sym second.wide)
      (λ i j h l. sums i j h l ∙ sym (sum_below_ext n _ _ (times_terms i j h l)) ∙ ap (λ w. sum_below w (λ k. entry a i k *ℤ entry b k j)) (sym first.wide))

  -- the product of the transpose
  tmul_terms : (i j : ℕ) → i < n → j < n → (k : ℕ) → k < n → entry a k i *ℤ entry b k j ≡ place n xs k i *ℤ place n ys k j
  tmul_terms i j h l k t = ap₂ ◌*ℤ◌ (first.place k i t h) (second.place k j t l)

  pub tmul_fits : TmulFits a b → EachPlace n (λ i j. TermsFit n (λ k. place n xs k i *ℤ place n ys k j))
  tmul_fits fits i j h l =
      rw (← (magnitudes_below_ext n _ _ (tmul_terms i j h l))) (rw first.tall at (fits i j (rw first.wide h) (rw second.wide l)))

  pub tmul_is : (out : List ℤ) → EachPlace n (λ i j. place n out i j ≡ sum_below n (λ k. place n xs k i *ℤ place n ys k j)) → row_by_row n n out ≡ tmul_of a b
  tmul_is out sums =
      made_same n n a.columns b.columns (place n out) (λ i j. sum_below (height a) (λ k. entry a k i *ℤ entry b k j)) (sym first.wide) (sym second.wide)
      (λ i j h l. sums i j h l ∙ sym (sum_below_ext n _ _ (tmul_terms i j h l)) ∙ ap (λ w. sum_below w (λ k. entry a k i *ℤ entry b k j)) (sym first.tall))

-- the transpose
module _ (a : Matrix) (n : ℕ) (xs out : List ℤ) (s : Stores xs n n a) (turned : EachPlace n (λ i j. place n out i j ≡ place n xs j i)) where
  pub transposed_is : row_by_row n n out ≡ transposed a
  transposed_is =
      made_same n n a.columns (height a) (place n out) (λ i j. entry a j i) (sym s.wide) (sym s.tall) (λ i j h k. turned i j h k ∙ sym (s.place j i k h))

  pub transposed_fills : length out ≡ n * n → FillsSquare n xs → FillsSquare n out
  transposed_fills long fills = record {
    full = long;
    small = all_by_place IsSmall n out long (λ i j h k. rw (turned i j h k) (place_of_all IsSmall n xs fills.full fills.small j i k h));
  }

-- ---- The entries of a result, for square operands of one side
module _ (a b : Matrix) (square : a.columns ≡ height a) (square_b : b.columns ≡ height b) (sides : height a ≡ height b) where
  pub plus_entries : (c : Matrix) → c ≡ plus a b → EachPlace (height a) (λ i j. entry c i j ≡ entry a i j +ℤ entry b i j)
  plus_entries c is i j h k = ap (λ (m : Matrix). entry m i j) is ∙ entry-plus a b i j h (rw square k)

  pub times_entries : (c : Matrix) → c ≡ times a b → EachPlace (height a) (λ i j. entry c i j ≡ sum_below (height a) (λ k. entry a i k *ℤ entry b k j))
  times_entries c is i j h k =
      ap (λ (m : Matrix). entry m i j) is
      ∙ entry-times a b i j h (rw (square_b, ← sides) k)
      ∙ ap (λ n. sum_below n (λ k. entry a i k *ℤ entry b k j)) square

  pub tmul_entries : (c : Matrix) → c ≡ tmul_of a b → EachPlace (height a) (λ i j. entry c i j ≡ sum_below (height a) (λ k. entry a k i *ℤ entry b k j))
  tmul_entries c is i j h k =
      ap (λ (m : Matrix). entry m i j) is ∙ entry-tmul_of a b i j (rw square h) (rw (square_b, ← sides) k)

  pub mult_entries : (c : Matrix) → c ≡ mult_of a b → EachPlace (height a) (λ i j. entry c i j ≡ sum_below (height a) (λ k. entry a i k *ℤ entry b j k))
  mult_entries c is i j h k =
      ap (λ (m : Matrix). entry m i j) is
      ∙ entry-mult_of a b i j h (rw (← sides) k)
      ∙ ap (λ n. sum_below n (λ k. entry a i k *ℤ entry b j k)) square

pub transposed_entries : (a : Matrix) → a.columns ≡ height a → (c : Matrix) → c ≡ transposed a → EachPlace (height a) (λ i j. entry c i j ≡ entry a j i)
transposed_entries a square c is i j h k =
    ap (λ (m : Matrix). entry m i j) is ∙ entry-transposed a i j (rw square h) k
