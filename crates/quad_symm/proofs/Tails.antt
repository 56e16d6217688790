-- The tail of a row of a product: the terms that the loop adds, where it reads the tail of a row of the second factor as a slice.
use Rattle.std.proofs.Common.{◌≡◌, ℕ, ◌+◌, ◌*◌, ◌^◌, ◌<◌, ◌≤◌, List, take, drop, ℤ, pos, ◌+ℤ◌, ◌*ℤ◌, unsigned_abs, to_z, of_z, SFits, sym, ap, ap₂, ◌∙◌, subst, arith}
use Rattle.std.specs.Int.{w128}
use Rattle.std.proofs.lemmas.Int.{to_z-of_z}
use Rattle.std.proofs.lemmas.List.{get_or-take, get_or-drop}
use Rattle.std.proofs.lemmas.Nat.{mul-le}
use Rattle.dense_def.specs.Matrix.{sum_below, TermsFit}
use Rattle.dense_def.proofs.Totals.{total_more}
use Rattle.leaf_blocks.specs.Block.{number_at, place}
use Rattle.leaf_blocks.proofs.Terms.{next_term_fits}

-- the number at j in a slice
pub number_at-slice : (numbers : List ℤ) (from n j : ℕ) → j < n → number_at (take n (drop from numbers)) j ≡ number_at numbers (from + j)
number_at-slice numbers from n j h =
    get_or-take n (drop from numbers) j (pos 0) h ∙ get_or-drop from numbers j (pos 0)

-- the tail of a row lies within its rows
pub tail_within : (k count columns column width : ℕ) → k < count → column + width ≡ columns → k * columns + column + width ≤ count * columns
tail_within k count columns column width h whole =
    omega (arith, mul-le (k + 1) columns count columns (omega arith) (omega arith))

-- the term k in column `column + j`
module _ (factors other : List ℤ) (columns column j k n : ℕ) (within : j < n) (fits : SFits w128 (number_at factors k)) where
  tail_term_read : to_z w128 (of_z w128 (number_at factors k)) *ℤ number_at (take n (drop (k * columns + column) other)) j ≡ number_at factors k *ℤ place columns other k (column + j)
  tail_term_read =
      let same : k * columns + column + j ≡ k * columns + (column + j) = omega arith in
      ap₂ ◌*ℤ◌ (to_z-of_z w128 (number_at factors k) fits) (number_at-slice other (k * columns + column) n j within ∙ ap (number_at other) same)

  pub tail_term_fits : (m : ℕ) (partial : ℤ) → partial ≡ sum_below k (λ k. number_at factors k *ℤ place columns other k (column + j)) → k < m → TermsFit m (λ k. number_at factors k *ℤ place columns other k (column + j)) → unsigned_abs partial + unsigned_abs (to_z w128 (of_z w128 (number_at factors k)) *ℤ number_at (take n (drop (k * columns + column) other)) j) ≤ 2 ^ 126
  tail_term_fits m partial same h fit =
      subst (λ z. unsigned_abs partial + unsigned_abs z ≤ 2 ^ 126) (sym tail_term_read) (next_term_fits m k (λ k. number_at factors k *ℤ place columns other k (column + j)) partial same h fit)

  pub tail_term_added : (partial next : ℤ) → partial ≡ sum_below k (λ k. number_at factors k *ℤ place columns other k (column + j)) → next ≡ partial +ℤ to_z w128 (of_z w128 (number_at factors k)) *ℤ number_at (take n (drop (k * columns + column) other)) j → next ≡ sum_below (k + 1) (λ k. number_at factors k *ℤ place columns other k (column + j))
  tail_term_added partial next same is =
      is ∙ total_more k (λ k. number_at factors k *ℤ place columns other k (column + j)) partial _ same tail_term_read
