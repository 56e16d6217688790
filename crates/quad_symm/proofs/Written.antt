-- A triangle that a loop writes row by row.
use Rattle.std.proofs.Common.{◌≡◌, ℕ, ◌+◌, ◌-◌, ◌<◌, ◌≤◌, List, ◌++◌, take, drop, length, ℤ, sym, ap, ◌∙◌, subst, arith, below_more}
use Rattle.leaf_blocks.specs.Block.{number_at}
use Rattle.leaf_blocks.specs.Symmetric.{triangular, triangle_index}
use Rattle.leaf_blocks.proofs.Rows.{number_at-before, number_at-within, number_at-after}
use Rattle.leaf_blocks.proofs.Triangles.{within_row, row_before, last_start}

-- the rows before `next` have the wanted numbers, and the others still have their former ones
pub record UpperWritten (numbers : List ℤ) (side next : ℕ) (wanted former : ℕ → ℕ → ℤ) : Type 0 where
  pub done : (i j : ℕ) → i < next → i ≤ j → j < side → number_at numbers (triangle_index side i j) ≡ wanted i j
  pub left : (i j : ℕ) → next ≤ i → i ≤ j → j < side → number_at numbers (triangle_index side i j) ≡ former i j

-- a row lies within the triangle
pub upper_row_within : (side i : ℕ) → i < side → triangle_index side i i + (side - i) ≤ triangular side
upper_row_within side i h = omega (arith, row_before side i side h (omega arith), last_start side)

-- where a place stands in its row
in_row : (side i j : ℕ) → i ≤ j → j < side → triangle_index side i j ≡ triangle_index side i i + (j - i)
in_row side i j h k =
    let same : i + (j - i) ≡ j = omega arith in
    subst (λ q. triangle_index side i q ≡ triangle_index side i i + (j - i)) same (within_row side i (j - i) (omega arith))

-- the next row is written
pub UpperWritten-more : (numbers row : List ℤ) (side i from n : ℕ) (wanted former : ℕ → ℕ → ℤ) → UpperWritten numbers side i wanted former → i < side → from ≡ triangle_index side i i → n ≡ side - i → length numbers ≡ triangular side → length row ≡ n → ((q : ℕ) → q < n → number_at row q ≡ wanted i (i + q)) → UpperWritten (take from numbers ++ (row ++ drop n (drop from numbers))) side (i + 1) wanted former
UpperWritten-more numbers row side i from n wanted former w within start wide full long here =
    let now = take from numbers ++ (row ++ drop n (drop from numbers)) in
    let inside : from + n ≤ length numbers = omega (arith, start, wide, full, upper_row_within side i within) in
    record {
      done = λ r j h k l. below_more (λ r. r ≤ j → number_at now (triangle_index side r j) ≡ wanted r j) i
          (λ r m k. number_at-before numbers row from n long inside (triangle_index side r j) (omega (arith, start, in_row side r j k l, row_before side r i m (omega arith))) ∙ w.done r j m k l)
          (λ k.
          let same : i + (j - i) ≡ j = omega arith in
          ap (number_at now) (in_row side i j k l ∙ ap (λ p. p + (j - i)) (sym start))
          ∙ number_at-within numbers row from n long inside (j - i) (omega (arith, wide))
          ∙ here (j - i) (omega (arith, wide)) ∙ ap (wanted i) same)
          r h k;
      left = λ r j h k l.
          number_at-after numbers row from n long inside (triangle_index side r j) (omega (arith, start, wide, in_row side r j k l, row_before side i r (omega arith) (omega arith))) ∙ w.left r j (omega arith) k l;
    }
