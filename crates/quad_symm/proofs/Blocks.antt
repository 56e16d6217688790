-- Symmetric blocks and the lists of their upper triangles: each operation on blocks is its loop over the lists.
use Rattle.std.proofs.Common.{◌≡◌, ℕ, ◌+◌, ◌*◌, ◌^◌, ◌<◌, ◌≤◌, min, max, List, length, ℤ, pos, ◌+ℤ◌, ◌*ℤ◌, unsigned_abs, sym, ap, ap₂, ◌∙◌, subst, arith, ⊎_elim}
use Rattle.std.proofs.lemmas.Bool.{cases_lt}
use Rattle.dense_def.specs.Matrix.{Matrix, height, entry, IsSymmetric, row_by_row, tabulate, sum_below, plus, times, SumFits, ProductFits, TermsFit}
use Rattle.dense_def.proofs.Sums.{sum_below_ext, magnitudes_bound, unsigned_abs-add}
use Rattle.dense_def.proofs.Entries.{length-tabulate, get_or-tabulate, made_same, made_entry}
use Rattle.dense_def.proofs.RowByRow.{Stores}
use Rattle.dense_def.proofs.Operations.{entry-plus, entry-times, height-plus, height-times, IsSymmetric-square, IsSymmetric-whole, IsSymmetric-entry, IsSymmetric-plus}
use Rattle.leaf_blocks.specs.Block.{number_at, place, EachPlace, IsSmall, IsBlock, FillsSquare}
use Rattle.leaf_blocks.specs.Symmetric.{triangular, triangle_index, EachUpper, mirrored_place, mirrored, FillsTriangle, IsSymmetricBlock}
use Rattle.leaf_blocks.proofs.Squares.{seen, block_is, all_by_place, times_fits}
use Rattle.leaf_blocks.proofs.Triangles.{Mirrors, mirrors, mirrored_all, all_by_triangle, by_triangle, index_within, symmetric_block}

-- a symmetric matrix is the one that its upper triangle gives
pub mirrored_is : (m : Matrix) (n : ℕ) (numbers : List ℤ) → IsSymmetric m → height m ≡ n → EachUpper n (λ i j. number_at numbers (triangle_index n i j) ≡ entry m i j) → mirrored n numbers ≡ m
mirrored_is m n numbers symmetric tall each =
    made_same n n (height m) m.columns (mirrored_place n numbers) (λ i j. entry m i j) (sym tall) (sym (IsSymmetric-square m symmetric ∙ tall))
    (λ i j h k.
    ⊎_elim
    (λ (l : j < i).
    let low : min i j ≡ j = omega arith in
    let high : max i j ≡ i = omega arith in
    ap₂ (λ p q. number_at numbers (triangle_index n p q)) low high
    ∙ each j i (omega arith) h ∙ IsSymmetric-entry m j i symmetric (rw tall k) (rw tall h))
    (λ (l : i ≤ j).
    let low : min i j ≡ i = omega arith in
    let high : max i j ≡ j = omega arith in
    ap₂ (λ p q. number_at numbers (triangle_index n p q)) low high ∙ each i j l k)
    (cases_lt j i))
    ∙ sym (made_entry m (IsSymmetric-whole m symmetric))

-- ---- What the calls of a block say of the list of its numbers, at the side that the block tells

pub mirrors_at : (a : Matrix) (n : ℕ) (numbers kept : List ℤ) → height a ≡ n → numbers ≡ kept → mirrored (height a) kept ≡ a → Mirrors numbers n a
mirrors_at a n numbers kept tall same value =
    mirrors numbers kept n a same (ap (λ n. mirrored n kept) (sym tall) ∙ value)

pub stores_at : (a : Matrix) (n : ℕ) (numbers kept : List ℤ) → height a ≡ n → numbers ≡ kept → row_by_row (height a) (height a) kept ≡ a → Stores numbers n n a
stores_at a n numbers kept tall same value =
    seen a n numbers kept same (ap (λ n. row_by_row n n kept) (sym tall) ∙ value)

pub triangle_at : (h n : ℕ) (numbers kept : List ℤ) → h ≡ n → numbers ≡ kept → FillsTriangle h kept → FillsTriangle n numbers
triangle_at h n numbers kept tall same fills =
    subst (λ n. FillsTriangle n numbers) tall (subst (FillsTriangle h) (sym same) fills)

-- the block that a call makes of a list, at the height of its operand
pub made_symmetric : (block : Matrix) (n h : ℕ) (out numbers : List ℤ) → h ≡ n → numbers ≡ out → block ≡ mirrored n numbers → FillsTriangle n out → IsSymmetricBlock h block
made_symmetric block n h out numbers tall same is fills =
    subst (λ h. IsSymmetricBlock h block) (sym tall) (symmetric_block block n out (mirrors out numbers n block (sym same) (sym is)) fills)

pub made_block : (block : Matrix) (n h : ℕ) (out numbers : List ℤ) → h ≡ n → numbers ≡ out → block ≡ row_by_row n n numbers → FillsSquare n out → IsBlock h block
made_block block n h out numbers tall same is fills =
    subst (λ h. IsBlock h block) (sym tall) (block_is block n out (seen block n out numbers (sym same) (sym is)) fills)

-- ---- The sum
module _ (a b : Matrix) (n : ℕ) (xs ys : List ℤ) (first : Mirrors xs n a) (second : Mirrors ys n b) where
  -- the numbers at each index fit together
  pub upper_sum_fits : SumFits a b → (p : ℕ) → p < triangular n → unsigned_abs (number_at xs p) + unsigned_abs (number_at ys p) ≤ 2 ^ 126
  upper_sum_fits fits = by_triangle (λ p. unsigned_abs (number_at xs p) + unsigned_abs (number_at ys p) ≤ 2 ^ 126) n (λ i j h k.
      rw (← (first.upper i j h k), ← (second.upper i j h k)) (fits i j (rw first.tall (omega arith)) (rw first.wide k)))

  module _ (out : List ℤ) (long : length xs ≡ triangular n) (sums : out ≡ tabulate (length xs) (λ p. number_at xs p +ℤ number_at ys p)) where
    sum_place : EachUpper n (λ i j. number_at out (triangle_index n i j) ≡ entry a i j +ℤ entry b i j)
    sum_place i j h k =
        ap (λ (l : List ℤ). number_at l (triangle_index n i j)) sums
        ∙ get_or-tabulate (length xs) (triangle_index n i j) (λ p. number_at xs p +ℤ number_at ys p) (pos 0) (rw long (index_within n i j h k))
        ∙ ap₂ ◌+ℤ◌ (sym (first.upper i j h k)) (sym (second.upper i j h k))

    pub upper_sum_is : mirrored n out ≡ plus a b
    upper_sum_is =
        mirrored_is (plus a b) n out (IsSymmetric-plus a b first.symmetric second.symmetric (first.tall ∙ sym second.tall)) (height-plus a b ∙ first.tall)
        (λ i j h k. sum_place i j h k ∙ sym (entry-plus a b i j (rw first.tall (omega arith)) (rw first.wide k)))

    pub upper_sum_fills : SumFits a b → FillsTriangle n out
    upper_sum_fills fits =
        let long_out : length out ≡ triangular n = ap length sums ∙ length-tabulate (length xs) (λ p. number_at xs p +ℤ number_at ys p) ∙ long in
        record {
          full = long_out;
          small = all_by_triangle IsSmall n out long_out (λ i j h k.
              let fit = fits i j (rw first.tall (omega arith)) (rw first.wide k) in
              rw (sum_place i j h k) (omega (arith, unsigned_abs-add (entry a i j) (entry b i j))));
        }

-- ---- The product, where it is symmetric
module _ (a b : Matrix) (n : ℕ) (xs ys : List ℤ) (first : Stores xs n n a) (second : Stores ys n n b) where
  pub upper_fits : ProductFits a b → EachUpper n (λ i j. TermsFit n (λ k. place n xs i k *ℤ place n ys k j))
  upper_fits fits i j h k = times_fits a b n n xs ys first second (first.tall ∙ sym second.tall) fits i j (omega arith) k

  module _ (out : List ℤ) (sums : EachUpper n (λ i j. number_at out (triangle_index n i j) ≡ sum_below n (λ k. place n xs i k *ℤ place n ys k j))) where
    pub upper_product_is : IsSymmetric (times a b) → mirrored n out ≡ times a b
    upper_product_is symmetric =
        mirrored_is (times a b) n out symmetric (height-times a b ∙ first.tall) (λ i j h k.
        sums i j h k
        ∙ sym (sum_below_ext n _ _ (λ t l. ap₂ ◌*ℤ◌ (first.place i t (omega arith) l) (second.place t j l k)))
        ∙ ap (λ w. sum_below w (λ t. entry a i t *ℤ entry b t j)) (sym first.wide)
        ∙ sym (entry-times a b i j (rw first.tall (omega arith)) (rw second.wide k)))

    pub upper_product_fills : length out ≡ triangular n → ProductFits a b → FillsTriangle n out
    upper_product_fills long fits = record {
      full = long;
      small = all_by_triangle IsSmall n out long (λ i j h k.
          let fit = upper_fits fits i j h k in
          rw (sums i j h k) (omega (arith, magnitudes_bound n (λ t. place n xs i t *ℤ place n ys t j))));
    }

-- ---- The whole block
module _ (a : Matrix) (n : ℕ) (xs out : List ℤ) (s : Mirrors xs n a) (each : EachPlace n (λ i j. place n out i j ≡ mirrored_place n xs i j)) where
  pub whole_is : row_by_row n n out ≡ a
  whole_is =
      made_same n n (height a) a.columns (place n out) (λ i j. entry a i j) (sym s.tall) (sym s.wide) (λ i j h k. each i j h k ∙ sym (s.place i j h k))
      ∙ sym (made_entry a s.whole)

  pub whole_fills : length out ≡ n * n → FillsTriangle n xs → FillsSquare n out
  whole_fills long fills = record {
    full = long;
    small = all_by_place IsSmall n out long (λ i j h k.
        subst IsSmall (s.place i j h k ∙ sym (each i j h k)) (mirrored_all a n xs s IsSmall fills.full fills.small i j h k));
  }
