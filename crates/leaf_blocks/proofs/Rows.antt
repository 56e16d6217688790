-- Lists of numbers that a loop writes place by place, or row by row, and the slices of a row.
use Rattle.std.proofs.Common.{◌≡◌, ℕ, ◌+◌, ◌-◌, ◌*◌, ◌<◌, ◌≤◌, List, ◌++◌, take, drop, length, set, ℤ, pos, ◌∙◌, ap, arith, below_more, length-take, length-drop, length-append, get_or-set_same, get_or-set_other}
use Rattle.std.proofs.lemmas.List.{length-take-le, get_or_append_left, get_or-append_right, get_or-take, get_or-drop}
use Rattle.std.proofs.lemmas.Nat.{mul-add-lt, mul-le}
use Rattle.dense_def.specs.Matrix.{tabulate}
use Rattle.dense_def.proofs.Entries.{length-tabulate, get_or-tabulate}
use Rattle.leaf_blocks.specs.Block.{number_at, place}

-- ---- One row, place by place

-- the places before `next` have the wanted numbers, and the others still have their former ones
pub record WrittenBelow (row : List ℤ) (next : ℕ) (wanted former : ℕ → ℤ) : Type 0 where
  pub done : (j : ℕ) → j < next → number_at row j ≡ wanted j
  pub left : (j : ℕ) → next ≤ j → number_at row j ≡ former j

-- the next place is written
pub WrittenBelow-more : (row : List ℤ) (j : ℕ) (y : ℤ) (wanted former : ℕ → ℤ) → WrittenBelow row j wanted former → j < length row → y ≡ wanted j → WrittenBelow (set row j y) (j + 1) wanted former
WrittenBelow-more row j y wanted former w h is = record {
  done = below_more _ _ (λ k l. get_or-set_other row j k y (pos 0) (omega arith) ∙ w.done k l) (get_or-set_same row j y (pos 0) h ∙ is);
  left = λ k l. get_or-set_other row j k y (pos 0) (omega arith) ∙ w.left k (omega arith);
}

-- ---- The slice of a row

-- a row lies within its rows
pub row_within : (i rows columns : ℕ) → i < rows → i * columns + columns ≤ rows * columns
row_within i rows columns h = omega (arith, mul-le (i + 1) columns rows columns (omega arith) (omega arith))

-- how many numbers the slice of a row has
pub length-row : (numbers : List ℤ) (from columns : ℕ) → from + columns ≤ length numbers → length (take (from + columns - from) (drop from numbers)) ≡ columns
length-row numbers from columns h = simp (length-take, length-drop) (omega arith)

-- and which number stands at j in it
pub number_at-row : (numbers : List ℤ) (i columns n j : ℕ) → n ≡ columns → j < columns → number_at (take n (drop (i * columns) numbers)) j ≡ place columns numbers i j
number_at-row numbers i columns n j long h =
    get_or-take n (drop (i * columns) numbers) j (pos 0) (omega arith) ∙ get_or-drop (i * columns) numbers j (pos 0)

-- ---- A slice that was written back: the numbers before it, in it and after it
module _ (numbers slice : List ℤ) (from n : ℕ) (long : length slice ≡ n) (within : from + n ≤ length numbers) where
  front : length (take from numbers) ≡ from
  front = length-take-le from numbers (omega arith)

  pub number_at-before : (p : ℕ) → p < from → number_at (take from numbers ++ (slice ++ drop n (drop from numbers))) p ≡ number_at numbers p
  number_at-before p h =
      get_or_append_left (take from numbers) (slice ++ drop n (drop from numbers)) (pos 0) p (omega (arith, front)) ∙ get_or-take from numbers p (pos 0) h

  pub number_at-within : (q : ℕ) → q < n → number_at (take from numbers ++ (slice ++ drop n (drop from numbers))) (from + q) ≡ number_at slice q
  number_at-within q h =
      let same : from + q - from ≡ q = omega arith in
      get_or-append_right (take from numbers) (slice ++ drop n (drop from numbers)) from (from + q) (pos 0) front (omega arith)
      ∙ ap (λ i. number_at (slice ++ drop n (drop from numbers)) i) same
      ∙ get_or_append_left slice (drop n (drop from numbers)) (pos 0) q (omega arith)

  pub number_at-after : (p : ℕ) → from + n ≤ p → number_at (take from numbers ++ (slice ++ drop n (drop from numbers))) p ≡ number_at numbers p
  number_at-after p h =
      let same : from + (n + (p - from - n)) ≡ p = omega arith in
      get_or-append_right (take from numbers) (slice ++ drop n (drop from numbers)) from p (pos 0) front (omega arith)
      ∙ get_or-append_right slice (drop n (drop from numbers)) n (p - from) (pos 0) long (omega arith)
      ∙ get_or-drop n (drop from numbers) (p - from - n) (pos 0)
      ∙ get_or-drop from numbers (n + (p - from - n)) (pos 0)
      ∙ ap (λ i. number_at numbers i) same

-- ---- Rows, one after another

-- the rows before `next` have the wanted numbers, and the others still have their former ones
pub record RowsWritten (numbers : List ℤ) (columns next : ℕ) (wanted former : ℕ → ℕ → ℤ) : Type 0 where
  pub done : (i j : ℕ) → i < next → j < columns → place columns numbers i j ≡ wanted i j
  pub left : (i j : ℕ) → next ≤ i → j < columns → place columns numbers i j ≡ former i j

-- the next row is written
pub RowsWritten-more : (numbers row : List ℤ) (columns i n : ℕ) (wanted former : ℕ → ℕ → ℤ) → RowsWritten numbers columns i wanted former → n ≡ columns → length row ≡ n → i * columns + n ≤ length numbers → ((j : ℕ) → j < columns → number_at row j ≡ wanted i j) → RowsWritten (take (i * columns) numbers ++ (row ++ drop n (drop (i * columns) numbers))) columns (i + 1) wanted former
RowsWritten-more numbers row columns i n wanted former w wide long within here =
    let now = take (i * columns) numbers ++ (row ++ drop n (drop (i * columns) numbers)) in
    record {
      done = λ r j h k. below_more (λ r. place columns now r j ≡ wanted r j) i
          (λ r l. number_at-before numbers row (i * columns) n long within (r * columns + j) (omega (arith, mul-add-lt r columns j i l k)) ∙ w.done r j l k)
          (number_at-within numbers row (i * columns) n long within j (omega arith) ∙ here j k) r h;
      left = λ r j h k.
          number_at-after numbers row (i * columns) n long within (r * columns + j) (omega (arith, mul-le (i + 1) columns r columns h (omega arith))) ∙ w.left r j (omega arith) k;
    }

-- the next row stays, where its numbers are wanted
pub RowsWritten-skip : (numbers : List ℤ) (columns i : ℕ) (wanted former : ℕ → ℕ → ℤ) → RowsWritten numbers columns i wanted former → ((j : ℕ) → j < columns → former i j ≡ wanted i j) → RowsWritten numbers columns (i + 1) wanted former
RowsWritten-skip numbers columns i wanted former w here = record {
  done = λ r j h k. below_more (λ r. place columns numbers r j ≡ wanted r j) i (λ r l. w.done r j l k) (w.left i j (omega arith) k ∙ here j k) r h;
  left = λ r j h k. w.left r j (omega arith) k;
}

-- a list has that many rows with the wanted numbers, and nothing else
pub record RowsBuilt (numbers : List ℤ) (columns count : ℕ) (wanted : ℕ → ℕ → ℤ) : Type 0 where
  pub long : length numbers ≡ count * columns
  pub done : (i j : ℕ) → i < count → j < columns → place columns numbers i j ≡ wanted i j

-- the next row is appended
pub RowsBuilt-more : (numbers : List ℤ) (columns count : ℕ) (wanted : ℕ → ℕ → ℤ) → RowsBuilt numbers columns count wanted → RowsBuilt (numbers ++ tabulate columns (λ j. wanted count j)) columns (count + 1) wanted
RowsBuilt-more numbers columns count wanted b =
    let row = tabulate columns (λ j. wanted count j) in
    let wide : length row ≡ columns = length-tabulate columns (λ j. wanted count j) in
    record {
      long = omega (arith, b.long, length-append numbers row);
      done = λ i j h k. below_more (λ i. place columns (numbers ++ row) i j ≡ wanted i j) count
          (λ i l. get_or_append_left numbers row (pos 0) (i * columns + j) (omega (arith, b.long, mul-add-lt i columns j count l k)) ∙ b.done i j l k)
          (let same : count * columns + j - count * columns ≡ j = omega arith in
          get_or-append_right numbers row (count * columns) (count * columns + j) (pos 0) b.long (omega arith)
          ∙ ap (λ q. number_at row q) same ∙ get_or-tabulate columns j (λ j. wanted count j) (pos 0) k)
          i h;
    }
