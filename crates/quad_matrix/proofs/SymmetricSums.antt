-- Sums of symmetric blocks, and their general forms.
use Rattle.std.proofs.Common.{◌≡◌, ℕ, [], ◌∷◌, sym, ap, ◌∙◌}
use Rattle.dense_def.specs.Matrix.{plus, zeros}
use Rattle.dense_def.proofs.Operations.{IsSymmetric-plus}
use Rattle.dense_def.proofs.Zeros.{plus-zeros}
use Rattle.task_types.specs.Tree.{Tree, Nothing}
use Rattle.chunk_codec.specs.Spots.{side_of}
use Rattle.quad_matrix.specs.declared.chunk.MatChunk.{MatChunk}
use Rattle.quad_matrix.specs.declared.kind.What.TheVariants.{SAdd, Full}
use Rattle.quad_matrix.specs.Blocks.{block_of, canonical_symmetric, IsCanonical, IsCanonicalSymmetric}
use Rattle.quad_matrix.specs.Goals.{goal_at, FitsAt}
use Rattle.quad_matrix.proofs.Canonical.{canonical_zero, canonical_of_block, peak-zeros}
use Rattle.quad_matrix.proofs.Symmetric.{block_of_symmetric, symmetric_of_block, nothing_is_symmetric}
use Rattle.quad_matrix.proofs.Sums.{IsBlock-plus}

-- the goal of a sum of symmetric blocks is canonical
pub symmetric_add_canonical : (b h : ℕ) (x y : Tree MatChunk) → FitsAt b SAdd h (x ∷ y ∷ []) → IsCanonicalSymmetric b h (goal_at b SAdd h (x ∷ y ∷ []))
symmetric_add_canonical b h x y fits =
    symmetric_of_block b h (plus (block_of b h x) (block_of b h y)) (IsBlock-plus (side_of b h) (block_of b h x) (block_of b h y) fits.0.sized fits.1.sized fits.2)
    (IsSymmetric-plus (block_of b h x) (block_of b h y) fits.0.symmetric fits.1.symmetric (fits.0.sized.tall ∙ sym fits.1.sized.tall))

-- and stands for the sum
pub block_of_symmetric_add : (b h : ℕ) (x y : Tree MatChunk) → FitsAt b SAdd h (x ∷ y ∷ []) → block_of b h (goal_at b SAdd h (x ∷ y ∷ [])) ≡ plus (block_of b h x) (block_of b h y)
block_of_symmetric_add b h x y fits =
    block_of_symmetric b h (plus (block_of b h x) (block_of b h y)) (IsBlock-plus (side_of b h) (block_of b h x) (block_of b h y) fits.0.sized fits.1.sized fits.2)
    (IsSymmetric-plus (block_of b h x) (block_of b h y) fits.0.symmetric fits.1.symmetric (fits.0.sized.tall ∙ sym fits.1.sized.tall))

-- a symmetric tree and nothing add up to the tree
pub symmetric_add_with_nothing : (b h : ℕ) (x : Tree MatChunk) → IsCanonicalSymmetric b h x → goal_at b SAdd h (x ∷ Nothing ∷ []) ≡ x
symmetric_add_with_nothing b h x is =
    let side = side_of b h in
    ap (canonical_symmetric b h) (plus-zeros (block_of b h x) side side is.sized.whole is.sized.tall is.sized.wide).0
    ∙ sym is.same

-- and so do nothing and a symmetric tree
pub symmetric_add_nothing_with : (b h : ℕ) (y : Tree MatChunk) → IsCanonicalSymmetric b h y → goal_at b SAdd h (Nothing ∷ y ∷ []) ≡ y
symmetric_add_nothing_with b h y is =
    let side = side_of b h in
    ap (canonical_symmetric b h) (plus-zeros (block_of b h y) side side is.sized.whole is.sized.tall is.sized.wide).1
    ∙ sym is.same

-- nothing and nothing add up to nothing
pub symmetric_add_nothing : (b h : ℕ) → goal_at b SAdd h (Nothing ∷ Nothing ∷ []) ≡ Nothing
symmetric_add_nothing b h = symmetric_add_with_nothing b h Nothing (nothing_is_symmetric b h)

-- the goal of a general form is canonical
pub full_canonical : (b h : ℕ) (x : Tree MatChunk) → IsCanonicalSymmetric b h x → IsCanonical b h (goal_at b Full h (x ∷ []))
full_canonical b h x is = canonical_of_block b h (block_of b h x) is.sized

-- that of nothing is nothing
pub full_of_nothing : (b h : ℕ) → goal_at b Full h (Nothing ∷ []) ≡ Nothing
full_of_nothing b h =
    canonical_zero b h (zeros (side_of b h) (side_of b h)) (peak-zeros (side_of b h) (side_of b h))
