-- The root contents of canonical trees.
use Rattle.std.proofs.Common.{◌≡◌, ℕ, zero, suc, true, false, not, refl, sym, ap, ◌∙◌, eq-eqb}
use Rattle.std.proofs.lemmas.Bool.{true≢false}
use Rattle.dense_def.specs.Matrix.{peak_of}
use Rattle.task_types.specs.Tree.{Tree, Nothing, Root, is_there}
use Rattle.quad_matrix.specs.declared.chunk.MatChunk.{MatChunk}
use Rattle.quad_matrix.specs.declared.chunk.MatChunk.TheVariants.{Leaf, Node}
use Rattle.quad_matrix.specs.Chunks.{peak_in}
use Rattle.chunk_codec.specs.Spots.{side_of}
use Rattle.quad_matrix.specs.Blocks.{block_of, alone, IsCanonical}
use Rattle.quad_matrix.proofs.Canonical.{canonical_leaf, canonical_node, node_of, is_there_block, peak-zeros}

-- a tree that is not there is nothing
pub not_there : {C : Type 0} (t : Tree C) → is_there t ≡ false → t ≡ Nothing
not_there Nothing e = refl
not_there (Root c x y z w) e = absurd (true≢false e)

-- a canonical tree whose block is zero is not there
pub flat_not_there : (b h : ℕ) (t : Tree MatChunk) → IsCanonical b h t → peak_of (block_of b h t) ≡ 0 → is_there t ≡ false
flat_not_there b h t is flat = is_there_block b h t is ∙ ap not (eq-eqb (peak_of (block_of b h t)) 0 flat)

-- a canonical tree that is there has a block other than zero
pub root_some : (b h : ℕ) (t : Tree MatChunk) → IsCanonical b h t → is_there t ≡ true → peak_of (block_of b h t) ≡ 0 → ⊥
root_some b h t is there flat = true≢false (sym there ∙ flat_not_there b h t is flat)

-- a canonical tree of height 0 is a leaf
pub root_of_leaf : (b : ℕ) (c : MatChunk) (x y z w : Tree MatChunk) → IsCanonical b 0 (Root c x y z w) → (c ≡ Leaf (block_of b 0 (Root c x y z w))) × (x ≡ Nothing) × (y ≡ Nothing) × (z ≡ Nothing) × (w ≡ Nothing)
root_of_leaf b c x y z w is =
    let m = block_of b 0 (Root c x y z w) in
    let same : Root c x y z w ≡ alone (Leaf m) =
    is.same ∙ canonical_leaf b m (root_some b 0 (Root c x y z w) is refl) in
    (cc, cc, cc, cc, cc)

-- a higher one is a node over the canonical trees of its quadrants
pub root_is_node : (b h : ℕ) (c : MatChunk) (x y z w : Tree MatChunk) → IsCanonical b (suc h) (Root c x y z w) → Root c x y z w ≡ node_of b h (block_of b (suc h) (Root c x y z w))
root_is_node b h c x y z w is =
    is.same ∙ canonical_node b h (block_of b (suc h) (Root c x y z w)) (root_some b (suc h) (Root c x y z w) is refl)

-- whose content has the height and the peak
pub root_of_node : (b h : ℕ) (c : MatChunk) (x y z w : Tree MatChunk) → IsCanonical b (suc h) (Root c x y z w) → c ≡ Node (suc h) (peak_of (block_of b (suc h) (Root c x y z w)))
root_of_node b h c x y z w is = let same = root_is_node b h c x y z w is in cc

-- the peak in the root is the peak of the block
pub peak_of_root : (b h : ℕ) (c : MatChunk) (x y z w : Tree MatChunk) → IsCanonical b h (Root c x y z w) → peak_in c ≡ peak_of (block_of b h (Root c x y z w))
peak_of_root b zero c x y z w is = ap peak_in (root_of_leaf b c x y z w is).0
peak_of_root b (suc h) c x y z w is = ap peak_in (root_of_node b h c x y z w is)

-- the peak of a tree: that of its root, and 0 of nothing
abbrev pub tree_peak : Tree MatChunk → ℕ
tree_peak Nothing = 0
tree_peak (Root c x y z w) = peak_in c

-- is the peak of its block
pub peak_of_tree : (b h : ℕ) (t : Tree MatChunk) → IsCanonical b h t → tree_peak t ≡ peak_of (block_of b h t)
peak_of_tree b h Nothing is = sym (peak-zeros (side_of b h) (side_of b h))
peak_of_tree b h (Root c x y z w) is = peak_of_root b h c x y z w is
