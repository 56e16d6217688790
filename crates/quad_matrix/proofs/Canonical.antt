-- Canonical trees of blocks: what they stand for, and where they are nothing.
use Rattle.std.proofs.Common.{◌≡◌, ℕ, zero, suc, pos, true, not, ◌==◌, refl, sym, ap, ◌∙◌, subst, arith, eq-eqb, ne_eqb, ⊎_elim}
use Rattle.std.proofs.lemmas.Bool.{cases_eq, cond-true, cond-false}
use Rattle.dense_def.specs.Matrix.{Matrix, height, IsMatrix, joined, zeros, peak_of}
use Rattle.dense_def.proofs.Entries.{IsMatrix-made}
use Rattle.dense_def.proofs.Blocks.{height-block, IsMatrix-block, joined-block, joined_same}
use Rattle.dense_def.proofs.Peaks.{peak-zero}
use Rattle.dense_def.proofs.Zeros.{entry-zeros, height-zeros, zero_is_zeros}
use Rattle.leaf_blocks.specs.Block.{IsBlock}
use Rattle.task_types.specs.Tree.{Tree, Nothing, Root, is_there}
use Rattle.quad_matrix.specs.declared.chunk.MatChunk.{MatChunk}
use Rattle.quad_matrix.specs.declared.chunk.MatChunk.TheVariants.{Leaf, Node}
use Rattle.chunk_codec.specs.Spots.{side_of}
use Rattle.quad_matrix.specs.Blocks.{block_of, alone, canonical, IsCanonical, upper_left, upper_right, lower_left, lower_right}
use Rattle.quad_matrix.proofs.Sides.{side_twice, suc-sub_one}

-- the canonical tree of a zero block is nothing
pub canonical_zero : (b h : ℕ) (m : Matrix) → peak_of m ≡ 0 → canonical b h m ≡ Nothing
canonical_zero b zero m flat = cond-true (peak_of m == 0) Nothing (alone (Leaf m)) (eq-eqb (peak_of m) 0 flat)
canonical_zero b (suc h) m flat = cond-true (peak_of m == 0) Nothing _ (eq-eqb (peak_of m) 0 flat)

-- that of another block of height 0 is a leaf
pub canonical_leaf : (b : ℕ) (m : Matrix) → (peak_of m ≡ 0 → ⊥) → canonical b 0 m ≡ alone (Leaf m)
canonical_leaf b m some = cond-false (peak_of m == 0) Nothing (alone (Leaf m)) (ne_eqb (peak_of m) 0 some)

-- the node over the canonical trees of a block's quadrants
abbrev pub node_of : ℕ → ℕ → Matrix → Tree MatChunk
node_of b h m =
    Root (Node (suc h) (peak_of m))
    (canonical b h (upper_left (side_of b h) m)) (canonical b h (upper_right (side_of b h) m))
    (canonical b h (lower_left (side_of b h) m)) (canonical b h (lower_right (side_of b h) m))

-- and of another higher block such a node
pub canonical_node : (b h : ℕ) (m : Matrix) → (peak_of m ≡ 0 → ⊥) → canonical b (suc h) m ≡ node_of b h m
canonical_node b h m some = cond-false (peak_of m == 0) Nothing (node_of b h m) (ne_eqb (peak_of m) 0 some)

-- a zero block is the zeros of its side
pub zero_block : (side : ℕ) (m : Matrix) → IsMatrix m → height m ≡ side → m.columns ≡ side → peak_of m ≡ 0 → zeros side side ≡ m
zero_block side m whole tall wide flat =
    sym (zero_is_zeros m whole ((peak-zero m).1 flat) ∙ ap (λ n. zeros n m.columns) tall ∙ ap (λ n. zeros side n) wide)

-- the canonical tree of a block stands for the block
pub block_of_canonical : (b h : ℕ) (m : Matrix) → IsMatrix m → height m ≡ side_of b h → m.columns ≡ side_of b h → block_of b h (canonical b h m) ≡ m
block_of_canonical b zero m whole tall wide =
    ⊎_elim
    (λ (flat : peak_of m ≡ 0). ap (block_of b 0) (canonical_zero b 0 m flat) ∙ zero_block (side_of b 0) m whole tall wide flat)
    (λ (some : peak_of m ≡ 0 → ⊥). ap (block_of b 0) (canonical_leaf b m some))
    (cases_eq (peak_of m) 0)
block_of_canonical b (suc h) m whole tall wide =
    let half = side_of b h in
    ⊎_elim
    (λ (flat : peak_of m ≡ 0). ap (block_of b (suc h)) (canonical_zero b (suc h) m flat) ∙ zero_block (side_of b (suc h)) m whole tall wide flat)
    (λ (some : peak_of m ≡ 0 → ⊥).
    ap (block_of b (suc h)) (canonical_node b h m some)
    ∙ ap (λ k. joined (block_of b k (canonical b h (upper_left half m))) (block_of b k (canonical b h (upper_right half m))) (block_of b k (canonical b h (lower_left half m))) (block_of b k (canonical b h (lower_right half m)))) (suc-sub_one h)
    ∙ joined_same _ _ _ _ _ _ _ _
    (block_of_canonical b h (upper_left half m) (IsMatrix-block m 0 0 half half) (height-block m 0 0 half half) refl)
    (block_of_canonical b h (upper_right half m) (IsMatrix-block m 0 half half half) (height-block m 0 half half half) refl)
    (block_of_canonical b h (lower_left half m) (IsMatrix-block m half 0 half half) (height-block m half 0 half half) refl)
    (block_of_canonical b h (lower_right half m) (IsMatrix-block m half half half half) (height-block m half half half half) refl)
    ∙ joined-block m half half half half whole (tall ∙ side_twice b h) (wide ∙ side_twice b h))
    (cases_eq (peak_of m) 0)

-- the canonical tree of a block is canonical
pub canonical_of_block : (b h : ℕ) (m : Matrix) → IsBlock (side_of b h) m → IsCanonical b h (canonical b h m)
canonical_of_block b h m sized =
    let same : block_of b h (canonical b h m) ≡ m = block_of_canonical b h m sized.whole sized.tall sized.wide in
    record { sized = subst (IsBlock (side_of b h)) (sym same) sized; same = ap (canonical b h) (sym same) }

-- the peak of zeros is 0
pub peak-zeros : (rows columns : ℕ) → peak_of (zeros rows columns) ≡ 0
peak-zeros rows columns = (peak-zero (zeros rows columns)).0 (λ i j p q. entry-zeros rows columns i j)

-- nothing is canonical
pub nothing_is_canonical : (b h : ℕ) → IsCanonical b h Nothing
nothing_is_canonical b h =
    let side = side_of b h in
    record {
      sized = record {
        whole = IsMatrix-made side side (λ _ _. pos 0);
        tall = height-zeros side side;
        wide = refl;
        small = λ i j p q. rw entry-zeros (omega arith);
      };
      same = sym (canonical_zero b h (zeros side side) (peak-zeros side side));
    }

there_if_some : (b h : ℕ) (m : Matrix) → (peak_of m ≡ 0 → ⊥) → is_there (canonical b h m) ≡ not (peak_of m == 0)
there_if_some b zero m some = rw (canonical_leaf b m some, ne_eqb (peak_of m) 0 some) refl
there_if_some b (suc h) m some = rw (canonical_node b h m some, ne_eqb (peak_of m) 0 some) refl

-- a canonical tree is there where its block is not zero
pub is_there_canonical : (b h : ℕ) (m : Matrix) → is_there (canonical b h m) ≡ not (peak_of m == 0)
is_there_canonical b h m =
    ⊎_elim
    (λ (flat : peak_of m ≡ 0). rw (canonical_zero b h m flat, eq-eqb (peak_of m) 0 flat) refl)
    (λ (some : peak_of m ≡ 0 → ⊥). there_if_some b h m some)
    (cases_eq (peak_of m) 0)

-- so that of a block other than zero is there
pub is_there_some : (b h : ℕ) (m : Matrix) → (peak_of m ≡ 0 → ⊥) → is_there (canonical b h m) ≡ true
is_there_some b h m some = is_there_canonical b h m ∙ ap not (ne_eqb (peak_of m) 0 some)

-- the same of a tree that is canonical
pub is_there_block : (b h : ℕ) (t : Tree MatChunk) → IsCanonical b h t → is_there t ≡ not (peak_of (block_of b h t) == 0)
is_there_block b h t is = ap is_there is.same ∙ is_there_canonical b h (block_of b h t)
