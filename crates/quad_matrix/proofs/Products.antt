-- Products of canonical trees, by the children of their factors. All is said once for the three products.
use Rattle.std.proofs.Common.{◌≡◌, ℕ, suc, ◌*◌, ◌^◌, ◌<◌, ◌≤◌, Bool, true, false, [], ◌∷◌, ◌*ℤ◌, refl, sym, ap, ap₂, ◌∙◌, subst, subst₂, le_trans}
use Rattle.dense_def.specs.Matrix.{Matrix, height, entry, IsMatrix, sum_below, plus, times, transposed, joined, zeros, completed, peak_of, SumFits, PairFits, TmulPairFits, MultPairFits}
use Rattle.dense_def.proofs.Sums.{magnitudes_bound}
use Rattle.dense_def.proofs.Entries.{IsMatrix-made}
use Rattle.dense_def.proofs.Operations.{entry-times, height-times, entry-tmul_of, height-tmul_of, entry-mult_of, height-mult_of, height-transposed, tmul_is, mult_is}
use Rattle.dense_def.proofs.Blocks.{joined_same}
use Rattle.dense_def.proofs.Quadrants.{times-joined, tmul_of-joined, mult_of-joined}
use Rattle.dense_def.proofs.Zeros.{times-zeros, transposed-zeros}
use Rattle.dense_def.proofs.Fits.{product_fits_on_quadrants, tmul_fits_on_quadrants, mult_fits_on_quadrants}
use Rattle.dense_def.proofs.Completed.{times-completed, tmul_of-completed, mult_of-completed, product_fits-completed, tmul_fits-completed, mult_fits-completed}
use Rattle.leaf_blocks.specs.Block.{IsBlock}
use Rattle.task_types.specs.Tree.{Tree, Nothing, child}
use Rattle.quad_matrix.specs.declared.chunk.MatChunk.{MatChunk}
use Rattle.quad_matrix.specs.declared.kind.What.TheVariants.{Add, Join}
use Rattle.chunk_codec.specs.Spots.{side_of}
use Rattle.quad_matrix.specs.Blocks.{block_of, canonical, IsCanonical}
use Rattle.quad_matrix.specs.Goals.{goal_at, FitsAt}
use Rattle.quad_matrix.specs.Products.{Turned, Neither, First, Second, product_what, product_of, FactorsFit, first_child, second_child, inner_size, InnerSizesAgree}
use Rattle.quad_matrix.proofs.Canonical.{canonical_zero, block_of_canonical, canonical_of_block, peak-zeros}
use Rattle.quad_matrix.proofs.Quadrants.{child_canonical, block_of_quadrants, squares_fit}
use Rattle.quad_matrix.proofs.Sums.{IsBlock-plus, join_goal}

-- ---- Blocks

-- the product of two blocks whose terms fit is a block
pub IsBlock-product : (side : ℕ) (turned : Turned) (a b : Matrix) → IsBlock side a → IsBlock side b → FactorsFit turned a b → IsBlock side (product_of turned a b)
IsBlock-product side Neither a b ia ib fits =
    record {
      whole = IsMatrix-made (height a) b.columns (λ i j. sum_below a.columns (λ k. entry a i k *ℤ entry b k j));
      tall = height-times a b ∙ ia.tall;
      wide = ib.wide;
      small = λ i j p q.
          let l : i < height a = rw ia.tall p in
          let k : j < b.columns = rw ib.wide q in
          rw (entry-times a b i j l k) (le_trans (magnitudes_bound a.columns (λ k. entry a i k *ℤ entry b k j)) (fits i j l k));
    }
IsBlock-product side First a b ia ib fits =
    record {
      whole = IsMatrix-made a.columns b.columns (λ i j. sum_below (height a) (λ k. entry a k i *ℤ entry b k j));
      tall = height-tmul_of a b ∙ ia.wide;
      wide = ib.wide;
      small = λ i j p q.
          let l : i < a.columns = rw ia.wide p in
          let k : j < b.columns = rw ib.wide q in
          rw (entry-tmul_of a b i j l k) (le_trans (magnitudes_bound (height a) (λ k. entry a k i *ℤ entry b k j)) (fits i j l k));
    }
IsBlock-product side Second a b ia ib fits =
    record {
      whole = IsMatrix-made (height a) (height b) (λ i j. sum_below a.columns (λ k. entry a i k *ℤ entry b j k));
      tall = height-mult_of a b ∙ ia.tall;
      wide = ib.tall;
      small = λ i j p q.
          let l : i < height a = rw ia.tall p in
          let k : j < height b = rw ib.tall q in
          rw (entry-mult_of a b i j l k) (le_trans (magnitudes_bound a.columns (λ k. entry a i k *ℤ entry b j k)) (fits i j l k));
    }

-- two products may be computed and added
pub record TermsFitTogether (turned : Turned) (a b c d : Matrix) : Type 0 where
  pub first : FactorsFit turned a b
  pub second : FactorsFit turned c d
  pub together : SumFits (product_of turned a b) (product_of turned c d)

as_neither : (a b c d : Matrix) → PairFits a b c d → TermsFitTogether Neither a b c d
as_neither a b c d fit = record { first = fit.first; second = fit.second; together = fit.together }

as_first : (a b c d : Matrix) → TmulPairFits a b c d → TermsFitTogether First a b c d
as_first a b c d fit = record { first = fit.first; second = fit.second; together = fit.together }

as_second : (a b c d : Matrix) → MultPairFits a b c d → TermsFitTogether Second a b c d
as_second a b c d fit = record { first = fit.first; second = fit.second; together = fit.together }

-- Two matrices, each joined of four blocks of one side
module _ (n : ℕ) (x y : ℕ → Matrix) (ix : (q : ℕ) → IsBlock n (x q)) (iy : (q : ℕ) → IsBlock n (y q)) where
  abbrev first_whole : Matrix
  first_whole = joined (x 0) (x 1) (x 2) (x 3)

  abbrev second_whole : Matrix
  second_whole = joined (y 0) (y 1) (y 2) (y 3)

  -- the two terms of a quadrant
  abbrev term : Turned → Bool → Bool → Bool → Matrix
  term turned lower right far = product_of turned (x (first_child turned lower far)) (y (second_child turned right far))

  abbrev TermsOf : Turned → Bool → Bool → Type 0
  TermsOf turned lower right =
      TermsFitTogether turned (x (first_child turned lower false)) (y (second_child turned right false)) (x (first_child turned lower true)) (y (second_child turned right true))

  -- what fits as a whole fits on each quadrant
  neither_terms : FactorsFit Neither first_whole second_whole → (lower right : Bool) → TermsOf Neither lower right
  neither_terms fits lower right =
      let four =
      product_fits_on_quadrants (x 0) (x 1) (x 2) (x 3) (y 0) (y 1) (y 2) (y 3)
      (squares_fit n (x 0) (x 1) (x 2) (x 3) (ix 0) (ix 1) (ix 2) (ix 3)) (squares_fit n (y 0) (y 1) (y 2) (y 3) (iy 0) (iy 1) (iy 2) (iy 3))
      ((ix 0).wide ∙ sym (iy 0).tall) ((ix 1).wide ∙ sym (iy 2).tall) fits in
      elim lower as (λ lower. TermsOf Neither lower right) [
        | false ↦ elim right as (λ right. TermsOf Neither false right) [ false ↦ as_neither (x 0) (y 0) (x 1) (y 2) four.0 | true ↦ as_neither (x 0) (y 1) (x 1) (y 3) four.1 ]
        | true ↦ elim right as (λ right. TermsOf Neither true right) [ false ↦ as_neither (x 2) (y 0) (x 3) (y 2) four.2 | true ↦ as_neither (x 2) (y 1) (x 3) (y 3) four.3 ]
      ]

  first_terms : FactorsFit First first_whole second_whole → (lower right : Bool) → TermsOf First lower right
  first_terms fits lower right =
      let four =
      tmul_fits_on_quadrants (x 0) (x 1) (x 2) (x 3) (y 0) (y 1) (y 2) (y 3)
      (squares_fit n (x 0) (x 1) (x 2) (x 3) (ix 0) (ix 1) (ix 2) (ix 3)) (squares_fit n (y 0) (y 1) (y 2) (y 3) (iy 0) (iy 1) (iy 2) (iy 3))
      ((ix 0).tall ∙ sym (iy 0).tall) ((ix 2).tall ∙ sym (iy 2).tall) fits in
      elim lower as (λ lower. TermsOf First lower right) [
        | false ↦ elim right as (λ right. TermsOf First false right) [ false ↦ as_first (x 0) (y 0) (x 2) (y 2) four.0 | true ↦ as_first (x 0) (y 1) (x 2) (y 3) four.1 ]
        | true ↦ elim right as (λ right. TermsOf First true right) [ false ↦ as_first (x 1) (y 0) (x 3) (y 2) four.2 | true ↦ as_first (x 1) (y 1) (x 3) (y 3) four.3 ]
      ]

  second_terms : FactorsFit Second first_whole second_whole → (lower right : Bool) → TermsOf Second lower right
  second_terms fits lower right =
      let four =
      mult_fits_on_quadrants (x 0) (x 1) (x 2) (x 3) (y 0) (y 1) (y 2) (y 3)
      (squares_fit n (x 0) (x 1) (x 2) (x 3) (ix 0) (ix 1) (ix 2) (ix 3)) (squares_fit n (y 0) (y 1) (y 2) (y 3) (iy 0) (iy 1) (iy 2) (iy 3))
      ((ix 0).wide ∙ sym (iy 0).wide) ((ix 1).wide ∙ sym (iy 1).wide) fits in
      elim lower as (λ lower. TermsOf Second lower right) [
        | false ↦ elim right as (λ right. TermsOf Second false right) [ false ↦ as_second (x 0) (y 0) (x 1) (y 1) four.0 | true ↦ as_second (x 0) (y 2) (x 1) (y 3) four.1 ]
        | true ↦ elim right as (λ right. TermsOf Second true right) [ false ↦ as_second (x 2) (y 0) (x 3) (y 1) four.2 | true ↦ as_second (x 2) (y 2) (x 3) (y 3) four.3 ]
      ]

  terms_fit : (turned : Turned) → FactorsFit turned first_whole second_whole → (lower right : Bool) → TermsOf turned lower right
  terms_fit Neither fits lower right = neither_terms fits lower right
  terms_fit First fits lower right = first_terms fits lower right
  terms_fit Second fits lower right = second_terms fits lower right

  -- a quadrant of a product
  abbrev quadrant : Turned → Bool → Bool → Matrix
  quadrant turned lower right = plus (term turned lower right false) (term turned lower right true)

  -- the product is joined of its quadrants
  product_joined : (turned : Turned) → product_of turned first_whole second_whole ≡ joined (quadrant turned false false) (quadrant turned false true) (quadrant turned true false) (quadrant turned true true)
  product_joined Neither =
      times-joined (x 0) (x 1) (x 2) (x 3) (y 0) (y 1) (y 2) (y 3)
      (squares_fit n (x 0) (x 1) (x 2) (x 3) (ix 0) (ix 1) (ix 2) (ix 3)) (squares_fit n (y 0) (y 1) (y 2) (y 3) (iy 0) (iy 1) (iy 2) (iy 3))
      ((ix 0).wide ∙ sym (iy 0).tall) ((ix 1).wide ∙ sym (iy 2).tall)
  product_joined First =
      tmul_of-joined (x 0) (x 1) (x 2) (x 3) (y 0) (y 1) (y 2) (y 3)
      (squares_fit n (x 0) (x 1) (x 2) (x 3) (ix 0) (ix 1) (ix 2) (ix 3)) (squares_fit n (y 0) (y 1) (y 2) (y 3) (iy 0) (iy 1) (iy 2) (iy 3))
      ((ix 0).tall ∙ sym (iy 0).tall) ((ix 2).tall ∙ sym (iy 2).tall)
  product_joined Second =
      mult_of-joined (x 0) (x 1) (x 2) (x 3) (y 0) (y 1) (y 2) (y 3)
      (squares_fit n (x 0) (x 1) (x 2) (x 3) (ix 0) (ix 1) (ix 2) (ix 3)) (squares_fit n (y 0) (y 1) (y 2) (y 3) (iy 0) (iy 1) (iy 2) (iy 3))
      ((ix 0).wide ∙ sym (iy 0).wide) ((ix 1).wide ∙ sym (iy 1).wide)

-- ---- Goals

-- the goal of a product
abbrev pub product_goal : ℕ → ℕ → Turned → Tree MatChunk → Tree MatChunk → Tree MatChunk
product_goal b h turned x y = canonical b h (product_of turned (block_of b h x) (block_of b h y))

pub product_goal_is : (b h : ℕ) (turned : Turned) (x y : Tree MatChunk) → goal_at b (product_what turned) h (x ∷ y ∷ []) ≡ product_goal b h turned x y
product_goal_is b h Neither x y = refl
product_goal_is b h First x y = refl
product_goal_is b h Second x y = refl

-- where it is defined
abbrev pub ProductFitsAt : ℕ → ℕ → Turned → Tree MatChunk → Tree MatChunk → Type 0
ProductFitsAt b h turned x y = IsCanonical b h x × IsCanonical b h y × FactorsFit turned (block_of b h x) (block_of b h y)

pub fits_product : (b h : ℕ) (turned : Turned) (x y : Tree MatChunk) → FitsAt b (product_what turned) h (x ∷ y ∷ []) → ProductFitsAt b h turned x y
fits_product b h Neither x y fits = fits
fits_product b h First x y fits = fits
fits_product b h Second x y fits = fits

pub product_fits_at : (b h : ℕ) (turned : Turned) (x y : Tree MatChunk) → ProductFitsAt b h turned x y → FitsAt b (product_what turned) h (x ∷ y ∷ [])
product_fits_at b h Neither x y fits = fits
product_fits_at b h First x y fits = fits
product_fits_at b h Second x y fits = fits

-- the goal is canonical
pub product_canonical : (b h : ℕ) (turned : Turned) (x y : Tree MatChunk) → ProductFitsAt b h turned x y → IsCanonical b h (product_goal b h turned x y)
product_canonical b h turned x y fits =
    canonical_of_block b h (product_of turned (block_of b h x) (block_of b h y)) (IsBlock-product (side_of b h) turned (block_of b h x) (block_of b h y) fits.0.sized fits.1.sized fits.2)

-- and stands for the product
pub block_of_product : (b h : ℕ) (turned : Turned) (x y : Tree MatChunk) → ProductFitsAt b h turned x y → block_of b h (product_goal b h turned x y) ≡ product_of turned (block_of b h x) (block_of b h y)
block_of_product b h turned x y fits =
    let sized = IsBlock-product (side_of b h) turned (block_of b h x) (block_of b h y) fits.0.sized fits.1.sized fits.2 in
    block_of_canonical b h (product_of turned (block_of b h x) (block_of b h y)) sized.whole sized.tall sized.wide

-- ---- Products with nothing

-- a product with zeros as its first factor
pub zeros_first : (turned : Turned) (n : ℕ) (a : Matrix) → IsBlock n a → product_of turned (zeros n n) a ≡ zeros n n
zeros_first Neither n a ia = (times-zeros a n n).1 ∙ ap (zeros n) ia.wide
zeros_first First n a ia =
    tmul_is (zeros n n) a ∙ ap (λ m. times m a) (transposed-zeros n n) ∙ (times-zeros a n n).1 ∙ ap (zeros n) ia.wide
zeros_first Second n a ia =
    mult_is (zeros n n) a (sym ia.wide) ∙ (times-zeros (transposed a) n n).1 ∙ ap (zeros n) ia.tall

-- and as its second one
zeros_second : (turned : Turned) (n : ℕ) (a : Matrix) → IsBlock n a → product_of turned a (zeros n n) ≡ zeros n n
zeros_second Neither n a ia = (times-zeros a n n).0 ∙ ap (λ m. zeros m n) ia.tall
zeros_second First n a ia =
    tmul_is a (zeros n n) ∙ (times-zeros (transposed a) n n).0 ∙ ap (λ m. zeros m n) (height-transposed a ∙ ia.wide)
zeros_second Second n a ia =
    mult_is a (zeros n n) ia.wide ∙ ap (times a) (transposed-zeros n n) ∙ (times-zeros a n n).0 ∙ ap (λ m. zeros m n) ia.tall

-- the goal of a product with nothing is nothing
pub product_nothing_with : (b h : ℕ) (turned : Turned) (y : Tree MatChunk) → IsCanonical b h y → product_goal b h turned Nothing y ≡ Nothing
product_nothing_with b h turned y is =
    let n = side_of b h in
    ap (canonical b h) (zeros_first turned n (block_of b h y) is.sized) ∙ canonical_zero b h (zeros n n) (peak-zeros n n)

pub product_with_nothing : (b h : ℕ) (turned : Turned) (x : Tree MatChunk) → IsCanonical b h x → product_goal b h turned x Nothing ≡ Nothing
product_with_nothing b h turned x is =
    let n = side_of b h in
    ap (canonical b h) (zeros_second turned n (block_of b h x) is.sized) ∙ canonical_zero b h (zeros n n) (peak-zeros n n)

-- ---- By children

-- the goal of a term of a quadrant
abbrev pub term_tree : ℕ → ℕ → Turned → Tree MatChunk → Tree MatChunk → Bool → Bool → Bool → Tree MatChunk
term_tree b h turned x y lower right far =
    product_goal b h turned (child x (first_child turned lower far)) (child y (second_child turned right far))

-- the goal of a quadrant
abbrev pub quadrant_tree : ℕ → ℕ → Turned → Tree MatChunk → Tree MatChunk → Bool → Bool → Tree MatChunk
quadrant_tree b h turned x y lower right =
    goal_at b Add h (term_tree b h turned x y lower right false ∷ term_tree b h turned x y lower right true ∷ [])

module _ (b h : ℕ) (turned : Turned) (x y : Tree MatChunk) (fits : ProductFitsAt b (suc h) turned x y) where
  abbrev left : ℕ → Matrix
  left q = block_of b h (child x q)

  abbrev right : ℕ → Matrix
  right q = block_of b h (child y q)

  left_sized : (q : ℕ) → IsBlock (side_of b h) (left q)
  left_sized q = (child_canonical b h x fits.0 q).sized

  right_sized : (q : ℕ) → IsBlock (side_of b h) (right q)
  right_sized q = (child_canonical b h y fits.1 q).sized

  -- the terms of each quadrant fit
  together : (lower far : Bool) → TermsFitTogether turned (left (first_child turned lower false)) (right (second_child turned far false)) (left (first_child turned lower true)) (right (second_child turned far true))
  together lower far =
      terms_fit (side_of b h) left right left_sized right_sized turned
      (subst₂ (FactorsFit turned) (block_of_quadrants b h x fits.0) (block_of_quadrants b h y fits.1) fits.2) lower far

  pub first_term_fits : (lower far : Bool) → ProductFitsAt b h turned (child x (first_child turned lower false)) (child y (second_child turned far false))
  first_term_fits lower far =
      (child_canonical b h x fits.0 (first_child turned lower false), child_canonical b h y fits.1 (second_child turned far false), (together lower far).first)

  pub second_term_fits : (lower far : Bool) → ProductFitsAt b h turned (child x (first_child turned lower true)) (child y (second_child turned far true))
  second_term_fits lower far =
      (child_canonical b h x fits.0 (first_child turned lower true), child_canonical b h y fits.1 (second_child turned far true), (together lower far).second)

  -- and so does their sum
  pub quadrant_fits : (lower far : Bool) → FitsAt b Add h (term_tree b h turned x y lower far false ∷ term_tree b h turned x y lower far true ∷ [])
  quadrant_fits lower far =
      let one = first_term_fits lower far in
      let other = second_term_fits lower far in (
        product_canonical b h turned (child x (first_child turned lower false)) (child y (second_child turned far false)) one,
        product_canonical b h turned (child x (first_child turned lower true)) (child y (second_child turned far true)) other,
        subst₂ SumFits
            (sym (block_of_product b h turned (child x (first_child turned lower false)) (child y (second_child turned far false)) one))
            (sym (block_of_product b h turned (child x (first_child turned lower true)) (child y (second_child turned far true)) other))
            (together lower far).together,
      )

  -- the goal of a quadrant stands for the sum of two products
  quadrant_block : (lower far : Bool) → block_of b h (quadrant_tree b h turned x y lower far) ≡ quadrant (side_of b h) left right left_sized right_sized turned lower far
  quadrant_block lower far =
      let one = first_term_fits lower far in
      let other = second_term_fits lower far in
      let fit = quadrant_fits lower far in
      let sized = IsBlock-plus (side_of b h) _ _ fit.0.sized fit.1.sized fit.2 in
      block_of_canonical b h _ sized.whole sized.tall sized.wide
      ∙ ap₂ plus
      (block_of_product b h turned (child x (first_child turned lower false)) (child y (second_child turned far false)) one)
      (block_of_product b h turned (child x (first_child turned lower true)) (child y (second_child turned far true)) other)

  -- the product is the join of its quadrants
  pub product_is_join : product_goal b (suc h) turned x y ≡ goal_at b Join (suc h) (quadrant_tree b h turned x y false false ∷ quadrant_tree b h turned x y false true ∷ quadrant_tree b h turned x y true false ∷ quadrant_tree b h turned x y true true ∷ [])
  product_is_join =
      ap (canonical b (suc h))
      (ap₂ (product_of turned) (block_of_quadrants b h x fits.0) (block_of_quadrants b h y fits.1)
      ∙ product_joined (side_of b h) left right left_sized right_sized turned
      ∙ sym (joined_same _ _ _ _ _ _ _ _ (quadrant_block false false) (quadrant_block false true) (quadrant_block true false) (quadrant_block true true)))
      ∙ sym (join_goal b h (quadrant_tree b h turned x y false false) (quadrant_tree b h turned x y false true) (quadrant_tree b h turned x y true false) (quadrant_tree b h turned x y true true))

-- ---- By peaks

-- the terms of a product of completed matrices fit
factors_fit : (side : ℕ) (turned : Turned) (m n : Matrix) → IsMatrix m → IsMatrix n → InnerSizesAgree turned m n → inner_size turned m ≤ side → inner_size turned m * peak_of m * peak_of n ≤ 2 ^ 126
    → FactorsFit turned (completed side m) (completed side n)
factors_fit side Neither m n wm wn inner low fits = product_fits-completed side m n wm wn inner low fits
factors_fit side First m n wm wn inner low fits = tmul_fits-completed side m n wm wn inner low fits
factors_fit side Second m n wm wn inner low fits = mult_fits-completed side m n wm wn inner low fits

-- and it is the completed product
product_completed : (side : ℕ) (turned : Turned) (m n : Matrix) → IsMatrix m → IsMatrix n → InnerSizesAgree turned m n → inner_size turned m ≤ side
    → product_of turned (completed side m) (completed side n) ≡ completed side (product_of turned m n)
product_completed side Neither m n wm wn inner low = times-completed side m n wm wn inner low
product_completed side First m n wm wn inner low = tmul_of-completed side m n wm wn inner low
product_completed side Second m n wm wn inner low = mult_of-completed side m n wm wn inner low

-- trees that stand for completed matrices, by the peaks of these
pub product_fits_by_peaks : (b h : ℕ) (turned : Turned) (x y : Tree MatChunk) (m n : Matrix) → IsCanonical b h x → IsCanonical b h y
    → block_of b h x ≡ completed (side_of b h) m → block_of b h y ≡ completed (side_of b h) n
    → IsMatrix m → IsMatrix n → InnerSizesAgree turned m n → inner_size turned m ≤ side_of b h → inner_size turned m * peak_of m * peak_of n ≤ 2 ^ 126
    → FitsAt b (product_what turned) h (x ∷ y ∷ [])
product_fits_by_peaks b h turned x y m n ix iy ex ey wm wn inner low fits =
    product_fits_at b h turned x y
    (ix, iy, subst₂ (FactorsFit turned) (sym ex) (sym ey) (factors_fit (side_of b h) turned m n wm wn inner low fits))

-- their goal is canonical, and stands for the completed product
pub product_goal_stands : (b h : ℕ) (turned : Turned) (x y : Tree MatChunk) (m n : Matrix) → FitsAt b (product_what turned) h (x ∷ y ∷ [])
    → block_of b h x ≡ completed (side_of b h) m → block_of b h y ≡ completed (side_of b h) n
    → IsMatrix m → IsMatrix n → InnerSizesAgree turned m n → inner_size turned m ≤ side_of b h
    → IsCanonical b h (goal_at b (product_what turned) h (x ∷ y ∷ [])) × (block_of b h (goal_at b (product_what turned) h (x ∷ y ∷ [])) ≡ completed (side_of b h) (product_of turned m n))
product_goal_stands b h turned x y m n defined ex ey wm wn inner low =
    let fits = fits_product b h turned x y defined in
    let is = product_goal_is b h turned x y in (
      subst (IsCanonical b h) (sym is) (product_canonical b h turned x y fits),
      ap (block_of b h) is ∙ block_of_product b h turned x y fits ∙ ap₂ (product_of turned) ex ey ∙ product_completed (side_of b h) turned m n wm wn inner low,
    )
