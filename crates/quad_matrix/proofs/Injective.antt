-- Canonical trees that are equal are of equal blocks.
use Rattle.std.proofs.Common.{◌≡◌, ℕ, sym, ap, ◌∙◌}
use Rattle.std.proofs.lemmas.Bool.{true≢false}
use Rattle.dense_def.specs.Matrix.{Matrix, height, IsMatrix, peak_of, IsSymmetric}
use Rattle.leaf_blocks.specs.Block.{IsBlock}
use Rattle.task_types.specs.Tree.{Nothing, is_there}
use Rattle.chunk_codec.specs.Spots.{side_of}
use Rattle.quad_matrix.specs.Blocks.{block_of, canonical, canonical_symmetric, leaf_of}
use Rattle.quad_matrix.proofs.Canonical.{canonical_zero, block_of_canonical, is_there_some}
use Rattle.quad_matrix.proofs.Symmetric.{block_of_symmetric, symmetric_zero, is_there_symmetric_some}
use Rattle.quad_matrix.proofs.Leaves.{leaf_of_full, leaf_of_symmetric_full}

-- of one side of the leaves
pub canonical_injective : (b h : ℕ) (m n : Matrix) → IsMatrix m → height m ≡ side_of b h → m.columns ≡ side_of b h → IsMatrix n → height n ≡ side_of b h → n.columns ≡ side_of b h → canonical b h m ≡ canonical b h n → m ≡ n
canonical_injective b h m n whole tall wide whole' tall' wide' same =
    sym (block_of_canonical b h m whole tall wide) ∙ ap (block_of b h) same ∙ block_of_canonical b h n whole' tall' wide'

-- a canonical tree that equals one of a block other than zero is of a block other than zero
pub canonical_some_same : (b c h : ℕ) (m n : Matrix) → (peak_of m ≡ 0 → ⊥) → canonical b h m ≡ canonical c h n → peak_of n ≡ 0 → ⊥
canonical_some_same b c h m n some same flat =
    let none : canonical b h m ≡ Nothing = same ∙ canonical_zero c h n flat in
    true≢false (sym (is_there_some b h m some) ∙ ap is_there none)

-- and where it is not zero the leaves are of one side
pub canonical_leaf_same : (b c h : ℕ) (m n : Matrix) → IsMatrix m → height m ≡ side_of b h → m.columns ≡ side_of b h → IsMatrix n → height n ≡ side_of c h → n.columns ≡ side_of c h → (peak_of m ≡ 0 → ⊥) → canonical b h m ≡ canonical c h n → b ≡ c
canonical_leaf_same b c h m n whole tall wide whole' tall' wide' some same =
    sym (leaf_of_full b h m whole tall wide some) ∙ ap leaf_of same ∙ leaf_of_full c h n whole' tall' wide' (canonical_some_same b c h m n some same)

-- ---- Canonical symmetric trees

-- of one side of the leaves
pub symmetric_injective : (b h : ℕ) (m n : Matrix) → IsBlock (side_of b h) m → IsSymmetric m → IsBlock (side_of b h) n → IsSymmetric n → canonical_symmetric b h m ≡ canonical_symmetric b h n → m ≡ n
symmetric_injective b h m n sized even sized' even' same =
    sym (block_of_symmetric b h m sized even) ∙ ap (block_of b h) same ∙ block_of_symmetric b h n sized' even'

-- one that equals one of a block other than zero is of a block other than zero
pub symmetric_some_same : (b c h : ℕ) (m n : Matrix) → (peak_of m ≡ 0 → ⊥) → canonical_symmetric b h m ≡ canonical_symmetric c h n → peak_of n ≡ 0 → ⊥
symmetric_some_same b c h m n some same flat =
    let none : canonical_symmetric b h m ≡ Nothing = same ∙ symmetric_zero c h n flat in
    true≢false (sym (is_there_symmetric_some b h m some) ∙ ap is_there none)

-- and where it is not zero the leaves are of one side
pub symmetric_leaf_same : (b c h : ℕ) (m n : Matrix) → IsBlock (side_of b h) m → IsSymmetric m → IsBlock (side_of c h) n → IsSymmetric n → (peak_of m ≡ 0 → ⊥) → canonical_symmetric b h m ≡ canonical_symmetric c h n → b ≡ c
symmetric_leaf_same b c h m n sized even sized' even' some same =
    sym (leaf_of_symmetric_full b h m sized even some) ∙ ap leaf_of same ∙ leaf_of_symmetric_full c h n sized' even' (symmetric_some_same b c h m n some same)
