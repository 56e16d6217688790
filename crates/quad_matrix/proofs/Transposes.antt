-- Transposes of canonical trees, by children.
use Rattle.std.proofs.Common.{◌≡◌, ℕ, suc, ◌<◌, [], ◌∷◌, sym, ap, ◌∙◌}
use Rattle.dense_def.specs.Matrix.{Matrix, height, entry, transposed}
use Rattle.dense_def.proofs.Entries.{IsMatrix-made}
use Rattle.dense_def.proofs.Operations.{entry-transposed, height-transposed}
use Rattle.dense_def.proofs.Blocks.{joined_same}
use Rattle.dense_def.proofs.Quadrants.{transposed-joined}
use Rattle.dense_def.proofs.Zeros.{transposed-zeros}
use Rattle.leaf_blocks.specs.Block.{IsBlock}
use Rattle.task_types.specs.Tree.{Tree, Nothing, child}
use Rattle.quad_matrix.specs.declared.chunk.MatChunk.{MatChunk}
use Rattle.quad_matrix.specs.declared.kind.What.TheVariants.{Transpose, Join}
use Rattle.chunk_codec.specs.Spots.{side_of}
use Rattle.quad_matrix.specs.Blocks.{block_of, canonical, IsCanonical}
use Rattle.quad_matrix.specs.Goals.{goal_at}
use Rattle.quad_matrix.proofs.Canonical.{canonical_zero, block_of_canonical, canonical_of_block, peak-zeros}
use Rattle.quad_matrix.proofs.Quadrants.{child_canonical, block_of_quadrants, squares_fit}
use Rattle.quad_matrix.proofs.Sums.{join_goal}

-- the transpose of a block is a block
pub IsBlock-transposed : (side : ℕ) (a : Matrix) → IsBlock side a → IsBlock side (transposed a)
IsBlock-transposed side a ia =
    record {
      whole = IsMatrix-made a.columns (height a) (λ i j. entry a j i);
      tall = height-transposed a ∙ ia.wide;
      wide = ia.tall;
      small = λ i j p q.
          let l : i < a.columns = rw ia.wide p in
          let k : j < height a = rw ia.tall q in
          rw (entry-transposed a i j l k) (ia.small j i q p);
    }

-- the goal of a transpose is canonical
pub transpose_canonical : (b h : ℕ) (x : Tree MatChunk) → IsCanonical b h x → IsCanonical b h (goal_at b Transpose h (x ∷ []))
transpose_canonical b h x is =
    canonical_of_block b h (transposed (block_of b h x)) (IsBlock-transposed (side_of b h) (block_of b h x) is.sized)

-- and stands for it
pub block_of_transpose : (b h : ℕ) (x : Tree MatChunk) → IsCanonical b h x → block_of b h (goal_at b Transpose h (x ∷ [])) ≡ transposed (block_of b h x)
block_of_transpose b h x is =
    let sized = IsBlock-transposed (side_of b h) (block_of b h x) is.sized in
    block_of_canonical b h (transposed (block_of b h x)) sized.whole sized.tall sized.wide

-- the transpose of nothing is nothing
pub transpose_of_nothing : (b h : ℕ) → goal_at b Transpose h (Nothing ∷ []) ≡ Nothing
transpose_of_nothing b h =
    let n = side_of b h in
    ap (canonical b h) (transposed-zeros n n) ∙ canonical_zero b h _ (peak-zeros n n)

-- the goal of the transpose of a child
abbrev pub child_turned : ℕ → ℕ → Tree MatChunk → ℕ → Tree MatChunk
child_turned b h x q = goal_at b Transpose h (child x q ∷ [])

-- the transpose is the join of the transposes of the children, those beside the diagonal exchanged
pub transpose_is_join : (b h : ℕ) (x : Tree MatChunk) → IsCanonical b (suc h) x → goal_at b Transpose (suc h) (x ∷ []) ≡ goal_at b Join (suc h) (child_turned b h x 0 ∷ child_turned b h x 2 ∷ child_turned b h x 1 ∷ child_turned b h x 3 ∷ [])
transpose_is_join b h x is =
    let part : (q : ℕ) → IsCanonical b h (child x q) = child_canonical b h x is in
    let block : ℕ → Matrix = λ q. block_of b h (child x q) in
    let turned : (q : ℕ) → block_of b h (child_turned b h x q) ≡ transposed (block q) = λ q. block_of_transpose b h (child x q) (part q) in
    ap (canonical b (suc h))
    (ap transposed (block_of_quadrants b h x is)
    ∙ transposed-joined (block 0) (block 1) (block 2) (block 3) (squares_fit (side_of b h) (block 0) (block 1) (block 2) (block 3) (part 0).sized (part 1).sized (part 2).sized (part 3).sized)
    ∙ sym (joined_same _ _ _ _ _ _ _ _ (turned 0) (turned 2) (turned 1) (turned 3)))
    ∙ sym (join_goal b h (child_turned b h x 0) (child_turned b h x 2) (child_turned b h x 1) (child_turned b h x 3))
