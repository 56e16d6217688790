-- Products with symmetric blocks: their goals are canonical, and nothing on nothing.
use Rattle.std.proofs.Common.{◌≡◌, ℕ, [], ◌∷◌, ap, ◌∙◌}
use Rattle.dense_def.specs.Matrix.{zeros, times, mult_of, tmul_of}
use Rattle.dense_def.proofs.Operations.{IsSymmetric-times, IsSymmetric-mult_of, IsSymmetric-tmul_of}
use Rattle.task_types.specs.Tree.{Tree, Nothing}
use Rattle.chunk_codec.specs.Spots.{side_of}
use Rattle.quad_matrix.specs.declared.chunk.MatChunk.{MatChunk}
use Rattle.quad_matrix.specs.declared.kind.What.TheVariants.{Square, RankMul, TRank, SMul, MulS}
use Rattle.quad_matrix.specs.Blocks.{block_of, canonical_symmetric, IsCanonical, IsCanonicalSymmetric}
use Rattle.quad_matrix.specs.Goals.{goal_at, FitsAt}
use Rattle.quad_matrix.specs.Products.{Turned, Neither, First, Second, product_of}
use Rattle.quad_matrix.proofs.Canonical.{canonical_of_block, nothing_is_canonical, peak-zeros}
use Rattle.quad_matrix.proofs.Symmetric.{symmetric_zero, symmetric_of_block}
use Rattle.quad_matrix.proofs.Products.{IsBlock-product, zeros_first, product_nothing_with}

-- the goal of a square is canonical
pub square_canonical : (b h : ℕ) (x : Tree MatChunk) → FitsAt b Square h (x ∷ []) → IsCanonicalSymmetric b h (goal_at b Square h (x ∷ []))
square_canonical b h x fits =
    symmetric_of_block b h (times (block_of b h x) (block_of b h x)) (IsBlock-product (side_of b h) Neither (block_of b h x) (block_of b h x) fits.0.sized fits.0.sized fits.1) (IsSymmetric-times (block_of b h x) fits.0.symmetric)

-- so is that of a product of a block with its own transpose
pub rank_canonical : (b h : ℕ) (x : Tree MatChunk) → FitsAt b RankMul h (x ∷ []) → IsCanonicalSymmetric b h (goal_at b RankMul h (x ∷ []))
rank_canonical b h x fits =
    symmetric_of_block b h (mult_of (block_of b h x) (block_of b h x)) (IsBlock-product (side_of b h) Second (block_of b h x) (block_of b h x) fits.0.sized fits.0.sized fits.1) (IsSymmetric-mult_of (block_of b h x))

-- and in the other order
pub transposed_rank_canonical : (b h : ℕ) (x : Tree MatChunk) → FitsAt b TRank h (x ∷ []) → IsCanonicalSymmetric b h (goal_at b TRank h (x ∷ []))
transposed_rank_canonical b h x fits =
    symmetric_of_block b h (tmul_of (block_of b h x) (block_of b h x)) (IsBlock-product (side_of b h) First (block_of b h x) (block_of b h x) fits.0.sized fits.0.sized fits.1) (IsSymmetric-tmul_of (block_of b h x))

-- and that of a product with a symmetric factor
pub symmetric_first_canonical : (b h : ℕ) (x y : Tree MatChunk) → FitsAt b SMul h (x ∷ y ∷ []) → IsCanonical b h (goal_at b SMul h (x ∷ y ∷ []))
symmetric_first_canonical b h x y fits =
    canonical_of_block b h (times (block_of b h x) (block_of b h y)) (IsBlock-product (side_of b h) Neither (block_of b h x) (block_of b h y) fits.0.sized fits.1.sized fits.2)

pub symmetric_second_canonical : (b h : ℕ) (x y : Tree MatChunk) → FitsAt b MulS h (x ∷ y ∷ []) → IsCanonical b h (goal_at b MulS h (x ∷ y ∷ []))
symmetric_second_canonical b h x y fits =
    canonical_of_block b h (times (block_of b h x) (block_of b h y)) (IsBlock-product (side_of b h) Neither (block_of b h x) (block_of b h y) fits.0.sized fits.1.sized fits.2)

-- ---- Nothing

-- a symmetric product of nothing is nothing
symmetric_nothing : (b h : ℕ) (turned : Turned) → canonical_symmetric b h (product_of turned (zeros (side_of b h) (side_of b h)) (zeros (side_of b h) (side_of b h))) ≡ Nothing
symmetric_nothing b h turned =
    let n = side_of b h in
    ap (canonical_symmetric b h) (zeros_first turned n (zeros n n) (nothing_is_canonical b h).sized) ∙ symmetric_zero b h (zeros n n) (peak-zeros n n)

pub square_of_nothing : (b h : ℕ) → goal_at b Square h (Nothing ∷ []) ≡ Nothing
square_of_nothing b h = symmetric_nothing b h Neither

pub rank_of_nothing : (b h : ℕ) → goal_at b RankMul h (Nothing ∷ []) ≡ Nothing
rank_of_nothing b h = symmetric_nothing b h Second

pub transposed_rank_of_nothing : (b h : ℕ) → goal_at b TRank h (Nothing ∷ []) ≡ Nothing
transposed_rank_of_nothing b h = symmetric_nothing b h First

pub symmetric_first_nothing : (b h : ℕ) → goal_at b SMul h (Nothing ∷ Nothing ∷ []) ≡ Nothing
symmetric_first_nothing b h = product_nothing_with b h Neither Nothing (nothing_is_canonical b h)

pub symmetric_second_nothing : (b h : ℕ) → goal_at b MulS h (Nothing ∷ Nothing ∷ []) ≡ Nothing
symmetric_second_nothing b h = product_nothing_with b h Neither Nothing (nothing_is_canonical b h)
