-- Canonical symmetric trees of blocks: what they stand for, where they are nothing, their roots and their children.
use Rattle.std.proofs.Common.{◌≡◌, ℕ, zero, suc, ◌+◌, ◌<◌, ◌≤◌, true, false, not, ◌==◌, refl, sym, ap, ◌∙◌, subst, arith, eq-eqb, ne_eqb, ⊎_elim}
use Rattle.std.proofs.lemmas.Bool.{cases_eq, cond-true, cond-false, true≢false}
use Rattle.dense_def.specs.Matrix.{Matrix, height, entry, IsMatrix, block, joined, transposed, zeros, peak_of, IsSymmetric}
use Rattle.dense_def.proofs.Entries.{same_matrix, IsMatrix-made}
use Rattle.dense_def.proofs.Operations.{entry-transposed, height-transposed, IsSymmetric-entry}
use Rattle.dense_def.proofs.Blocks.{height-block, IsMatrix-block, entry-block, entry-block_left, entry-block_top, joined-block, joined_same}
use Rattle.dense_def.proofs.Zeros.{transposed-zeros}
use Rattle.leaf_blocks.specs.Block.{IsBlock}
use Rattle.task_types.specs.Tree.{Tree, Nothing, Root, is_there, child}
use Rattle.chunk_codec.specs.Spots.{side_of}
use Rattle.quad_matrix.specs.declared.chunk.MatChunk.{MatChunk}
use Rattle.quad_matrix.specs.declared.chunk.MatChunk.TheVariants.{SymLeaf, SymNode}
use Rattle.quad_matrix.specs.Chunks.{peak_in}
use Rattle.quad_matrix.specs.Blocks.{block_of, alone, canonical, canonical_symmetric, IsCanonical, IsCanonicalSymmetric, upper_left, upper_right, lower_left, lower_right}
use Rattle.quad_matrix.proofs.Sides.{side_twice, suc-sub_one}
use Rattle.quad_matrix.proofs.Canonical.{block_of_canonical, canonical_of_block, nothing_is_canonical, peak-zeros, zero_block}
use Rattle.quad_matrix.proofs.Roots.{tree_peak}
use Rattle.quad_matrix.proofs.Quadrants.{IsBlock-quadrants, zeros_join}

-- ---- The quadrants of a symmetric matrix

-- a matrix that has the number of each place at the place with row and column exchanged, is symmetric
pub symmetric_by_entries : (n : ℕ) (m : Matrix) → IsMatrix m → height m ≡ n → m.columns ≡ n → ((i j : ℕ) → i < n → j < n → entry m j i ≡ entry m i j) → IsSymmetric m
symmetric_by_entries n m whole tall wide same =
    same_matrix (transposed m) m (IsMatrix-made m.columns (height m) (λ i j. entry m j i)) whole (height-transposed m ∙ wide ∙ sym tall) (tall ∙ sym wide)
    (λ i j p q.
    let l : i < m.columns = rw (height-transposed m) at p in
    entry-transposed m i j l q ∙ same i j (omega (arith, wide)) (omega (arith, tall)))

-- a block on the diagonal of a symmetric matrix is symmetric
IsSymmetric-block : (m : Matrix) (n top half : ℕ) → IsSymmetric m → height m ≡ n → top + half ≤ n → IsSymmetric (block m top top half half)
IsSymmetric-block m n top half even tall low =
    symmetric_by_entries half (block m top top half half) (IsMatrix-block m top top half half) (height-block m top top half half) refl
    (λ i j p q. entry-block m top top half half j i q p ∙ IsSymmetric-entry m (top + j) (top + i) even (omega (arith, tall)) (omega (arith, tall)) ∙ sym (entry-block m top top half half i j p q))

-- below the diagonal stands the transpose of what stands above it
lower_is_upper : (m : Matrix) (half : ℕ) → IsSymmetric m → height m ≡ half + half → lower_left half m ≡ transposed (upper_right half m)
lower_is_upper m half even tall =
    let upper = upper_right half m in
    same_matrix (lower_left half m) (transposed upper) (IsMatrix-block m half 0 half half) (IsMatrix-made upper.columns (height upper) (λ i j. entry upper j i))
    (height-block m half 0 half half ∙ sym (height-transposed upper)) (sym (height-block m 0 half half half))
    (λ i j p q.
    let l : i < half = rw (height-block m half 0 half half) at p in
    let k : j < height upper = rw (height-block m 0 half half half) q in
    entry-block_left m half half half i j l q ∙ IsSymmetric-entry m (half + i) j even (omega (arith, tall)) (omega (arith, tall))
    ∙ sym (entry-block_top m half half half j i q l) ∙ sym (entry-transposed upper i j l k))

-- zeros are symmetric
pub zeros_symmetric : (n : ℕ) → IsSymmetric (zeros n n)
zeros_symmetric n = transposed-zeros n n

-- the quadrants of a symmetric block that are kept in its tree are symmetric, and the one that is not kept is the transpose of its neighbour
pub quadrants_symmetric : (b h : ℕ) (m : Matrix) → IsBlock (side_of b (suc h)) m → IsSymmetric m → IsSymmetric (upper_left (side_of b h) m) × IsSymmetric (lower_right (side_of b h) m) × (lower_left (side_of b h) m ≡ transposed (upper_right (side_of b h) m))
quadrants_symmetric b h m sized even =
    let half = side_of b h in
    let tall : height m ≡ half + half = sized.tall ∙ side_twice b h in (
      IsSymmetric-block m (half + half) 0 half even tall (omega arith),
      IsSymmetric-block m (half + half) half half even tall (omega arith),
      lower_is_upper m half even tall,
    )

-- ---- Canonical symmetric trees

-- that of a zero block is nothing
pub symmetric_zero : (b h : ℕ) (m : Matrix) → peak_of m ≡ 0 → canonical_symmetric b h m ≡ Nothing
symmetric_zero b zero m flat = cond-true (peak_of m == 0) Nothing (alone (SymLeaf m)) (eq-eqb (peak_of m) 0 flat)
symmetric_zero b (suc h) m flat = cond-true (peak_of m == 0) Nothing _ (eq-eqb (peak_of m) 0 flat)

-- that of another block of height 0 is a symmetric leaf
pub symmetric_leaf : (b : ℕ) (m : Matrix) → (peak_of m ≡ 0 → ⊥) → canonical_symmetric b 0 m ≡ alone (SymLeaf m)
symmetric_leaf b m some = cond-false (peak_of m == 0) Nothing (alone (SymLeaf m)) (ne_eqb (peak_of m) 0 some)

-- the symmetric node over the trees of a block's quadrants
abbrev pub symmetric_node_of : ℕ → ℕ → Matrix → Tree MatChunk
symmetric_node_of b h m =
    Root (SymNode (suc h) (peak_of m))
    (canonical_symmetric b h (upper_left (side_of b h) m)) (canonical b h (upper_right (side_of b h) m))
    (canonical_symmetric b h (lower_right (side_of b h) m)) Nothing

-- and of another higher block such a node
pub symmetric_node : (b h : ℕ) (m : Matrix) → (peak_of m ≡ 0 → ⊥) → canonical_symmetric b (suc h) m ≡ symmetric_node_of b h m
symmetric_node b h m some =
    cond-false (peak_of m == 0) Nothing (symmetric_node_of b h m) (ne_eqb (peak_of m) 0 some)

-- the canonical symmetric tree of a symmetric block stands for the block
pub block_of_symmetric : (b h : ℕ) (m : Matrix) → IsBlock (side_of b h) m → IsSymmetric m → block_of b h (canonical_symmetric b h m) ≡ m
block_of_symmetric b zero m sized even =
    ⊎_elim
    (λ (flat : peak_of m ≡ 0). ap (block_of b 0) (symmetric_zero b 0 m flat) ∙ zero_block (side_of b 0) m sized.whole sized.tall sized.wide flat)
    (λ (some : peak_of m ≡ 0 → ⊥). ap (block_of b 0) (symmetric_leaf b m some))
    (cases_eq (peak_of m) 0)
block_of_symmetric b (suc h) m sized even =
    let half = side_of b h in
    let parts = IsBlock-quadrants b h m sized in
    let evens = quadrants_symmetric b h m sized even in
    let a : Tree MatChunk = canonical_symmetric b h (upper_left half m) in
    let x : Tree MatChunk = canonical b h (upper_right half m) in
    let c : Tree MatChunk = canonical_symmetric b h (lower_right half m) in
    let upper : block_of b h x ≡ upper_right half m = block_of_canonical b h (upper_right half m) parts.1.whole parts.1.tall parts.1.wide in
    ⊎_elim
    (λ (flat : peak_of m ≡ 0). ap (block_of b (suc h)) (symmetric_zero b (suc h) m flat) ∙ zero_block (side_of b (suc h)) m sized.whole sized.tall sized.wide flat)
    (λ (some : peak_of m ≡ 0 → ⊥).
    ap (block_of b (suc h)) (symmetric_node b h m some)
    ∙ ap (λ k. joined (block_of b k a) (block_of b k x) (transposed (block_of b k x)) (block_of b k c)) (suc-sub_one h)
    ∙ joined_same (block_of b h a) (block_of b h x) (transposed (block_of b h x)) (block_of b h c) (upper_left half m) (upper_right half m) (lower_left half m) (lower_right half m)
    (block_of_symmetric b h (upper_left half m) parts.0 evens.0) upper (ap transposed upper ∙ sym evens.2)
    (block_of_symmetric b h (lower_right half m) parts.3 evens.1)
    ∙ joined-block m half half half half sized.whole (sized.tall ∙ side_twice b h) (sized.wide ∙ side_twice b h))
    (cases_eq (peak_of m) 0)

-- and is canonical
pub symmetric_of_block : (b h : ℕ) (m : Matrix) → IsBlock (side_of b h) m → IsSymmetric m → IsCanonicalSymmetric b h (canonical_symmetric b h m)
symmetric_of_block b h m sized even =
    let same : block_of b h (canonical_symmetric b h m) ≡ m = block_of_symmetric b h m sized even in
    record {
      sized = subst (IsBlock (side_of b h)) (sym same) sized;
      symmetric = subst IsSymmetric (sym same) even;
      same = ap (canonical_symmetric b h) (sym same);
    }

-- nothing is canonical
pub nothing_is_symmetric : (b h : ℕ) → IsCanonicalSymmetric b h Nothing
nothing_is_symmetric b h =
    record {
      sized = (nothing_is_canonical b h).sized;
      symmetric = zeros_symmetric (side_of b h);
      same = sym (symmetric_zero b h (zeros (side_of b h) (side_of b h)) (peak-zeros (side_of b h) (side_of b h)));
    }

-- canonical symmetric trees of one block are one
pub symmetric_is_only : (b h : ℕ) (one other : Tree MatChunk) → IsCanonicalSymmetric b h one → IsCanonicalSymmetric b h other → block_of b h one ≡ block_of b h other → one ≡ other
symmetric_is_only b h one other is is' same = is.same ∙ ap (canonical_symmetric b h) same ∙ sym is'.same

there_if_some : (b h : ℕ) (m : Matrix) → (peak_of m ≡ 0 → ⊥) → is_there (canonical_symmetric b h m) ≡ not (peak_of m == 0)
there_if_some b zero m some = rw (symmetric_leaf b m some, ne_eqb (peak_of m) 0 some) refl
there_if_some b (suc h) m some = rw (symmetric_node b h m some, ne_eqb (peak_of m) 0 some) refl

-- a canonical symmetric tree is there where its block is not zero
pub is_there_symmetric : (b h : ℕ) (m : Matrix) → is_there (canonical_symmetric b h m) ≡ not (peak_of m == 0)
is_there_symmetric b h m =
    ⊎_elim
    (λ (flat : peak_of m ≡ 0). rw (symmetric_zero b h m flat, eq-eqb (peak_of m) 0 flat) refl)
    (λ (some : peak_of m ≡ 0 → ⊥). there_if_some b h m some)
    (cases_eq (peak_of m) 0)

-- so that of a block other than zero is there
pub is_there_symmetric_some : (b h : ℕ) (m : Matrix) → (peak_of m ≡ 0 → ⊥) → is_there (canonical_symmetric b h m) ≡ true
is_there_symmetric_some b h m some = is_there_symmetric b h m ∙ ap not (ne_eqb (peak_of m) 0 some)

-- ---- Roots

-- a canonical symmetric tree whose block is zero is not there
pub flat_symmetric_not_there : (b h : ℕ) (t : Tree MatChunk) → IsCanonicalSymmetric b h t → peak_of (block_of b h t) ≡ 0 → is_there t ≡ false
flat_symmetric_not_there b h t is flat =
    ap is_there is.same ∙ is_there_symmetric b h (block_of b h t) ∙ ap not (eq-eqb (peak_of (block_of b h t)) 0 flat)

-- one that is there has a block other than zero
pub symmetric_root_some : (b h : ℕ) (t : Tree MatChunk) → IsCanonicalSymmetric b h t → is_there t ≡ true → peak_of (block_of b h t) ≡ 0 → ⊥
symmetric_root_some b h t is there flat = true≢false (sym there ∙ flat_symmetric_not_there b h t is flat)

-- one of height 0 is a symmetric leaf
pub root_of_symmetric_leaf : (b : ℕ) (c : MatChunk) (x y z w : Tree MatChunk) → IsCanonicalSymmetric b 0 (Root c x y z w) → (c ≡ SymLeaf (block_of b 0 (Root c x y z w))) × (x ≡ Nothing) × (y ≡ Nothing) × (z ≡ Nothing) × (w ≡ Nothing)
root_of_symmetric_leaf b c x y z w is =
    let m = block_of b 0 (Root c x y z w) in
    let same : Root c x y z w ≡ alone (SymLeaf m) =
    is.same ∙ symmetric_leaf b m (symmetric_root_some b 0 (Root c x y z w) is refl) in
    (cc, cc, cc, cc, cc)

-- a higher one is a symmetric node over the trees of its quadrants
pub root_is_symmetric_node : (b h : ℕ) (c : MatChunk) (x y z w : Tree MatChunk) → IsCanonicalSymmetric b (suc h) (Root c x y z w) → Root c x y z w ≡ symmetric_node_of b h (block_of b (suc h) (Root c x y z w))
root_is_symmetric_node b h c x y z w is =
    is.same
    ∙ symmetric_node b h (block_of b (suc h) (Root c x y z w)) (symmetric_root_some b (suc h) (Root c x y z w) is refl)

-- whose content has the height and the peak
pub root_of_symmetric_node : (b h : ℕ) (c : MatChunk) (x y z w : Tree MatChunk) → IsCanonicalSymmetric b (suc h) (Root c x y z w) → c ≡ SymNode (suc h) (peak_of (block_of b (suc h) (Root c x y z w)))
root_of_symmetric_node b h c x y z w is = let same = root_is_symmetric_node b h c x y z w is in cc

-- the peak in the root is the peak of the block
pub peak_of_symmetric_root : (b h : ℕ) (c : MatChunk) (x y z w : Tree MatChunk) → IsCanonicalSymmetric b h (Root c x y z w) → peak_in c ≡ peak_of (block_of b h (Root c x y z w))
peak_of_symmetric_root b zero c x y z w is = ap peak_in (root_of_symmetric_leaf b c x y z w is).0
peak_of_symmetric_root b (suc h) c x y z w is = ap peak_in (root_of_symmetric_node b h c x y z w is)

-- the peak of a tree is that of its block
pub peak_of_symmetric_tree : (b h : ℕ) (t : Tree MatChunk) → IsCanonicalSymmetric b h t → tree_peak t ≡ peak_of (block_of b h t)
peak_of_symmetric_tree b h Nothing is = sym (peak-zeros (side_of b h) (side_of b h))
peak_of_symmetric_tree b h (Root c x y z w) is = peak_of_symmetric_root b h c x y z w is

-- ---- Children

-- The children of a canonical symmetric tree: those on the diagonal are canonical symmetric trees, the one between them is a canonical
-- tree, and there is no fourth one.
pub record AreSymmetricChildren (b h : ℕ) (tree : Tree MatChunk) : Type 0 where
  pub first : IsCanonicalSymmetric b h (child tree 0)
  pub second : IsCanonical b h (child tree 1)
  pub third : IsCanonicalSymmetric b h (child tree 2)
  pub none : child tree 3 ≡ Nothing

pub symmetric_children : (b h : ℕ) (t : Tree MatChunk) → IsCanonicalSymmetric b (suc h) t → AreSymmetricChildren b h t
symmetric_children b h Nothing is =
    record { first = nothing_is_symmetric b h; second = nothing_is_canonical b h; third = nothing_is_symmetric b h; none = refl }
symmetric_children b h (Root c x y z w) is =
    let m = block_of b (suc h) (Root c x y z w) in
    let parts = IsBlock-quadrants b h m is.sized in
    let evens = quadrants_symmetric b h m is.sized is.symmetric in
    subst (λ t. AreSymmetricChildren b h t) (sym (root_is_symmetric_node b h c x y z w is))
    (record {
      first = symmetric_of_block b h (upper_left (side_of b h) m) parts.0 evens.0;
      second = canonical_of_block b h (upper_right (side_of b h) m) parts.1;
      third = symmetric_of_block b h (lower_right (side_of b h) m) parts.3 evens.1;
      none = refl;
    })

-- the block of a symmetric node
symmetric_node_block : (b h k peak : ℕ) (x y z w : Tree MatChunk) → block_of b (suc h) (Root (SymNode k peak) x y z w) ≡ joined (block_of b h x) (block_of b h y) (transposed (block_of b h y)) (block_of b h z)
symmetric_node_block b h k peak x y z w =
    ap (λ n. joined (block_of b n x) (block_of b n y) (transposed (block_of b n y)) (block_of b n z)) (suc-sub_one h)

-- zeros are the join of zeros, and of the transpose of zeros
pub zeros_join_symmetric : (b h : ℕ) → joined (zeros (side_of b h) (side_of b h)) (zeros (side_of b h) (side_of b h)) (transposed (zeros (side_of b h) (side_of b h))) (zeros (side_of b h) (side_of b h)) ≡ zeros (side_of b (suc h)) (side_of b (suc h))
zeros_join_symmetric b h =
    let n = side_of b h in
    ap (λ c. joined (zeros n n) (zeros n n) c (zeros n n)) (transposed-zeros n n) ∙ zeros_join b h

-- the block of a canonical symmetric tree is joined of its children's blocks
pub block_of_symmetric_children : (b h : ℕ) (t : Tree MatChunk) → IsCanonicalSymmetric b (suc h) t → block_of b (suc h) t ≡ joined (block_of b h (child t 0)) (block_of b h (child t 1)) (transposed (block_of b h (child t 1))) (block_of b h (child t 2))
block_of_symmetric_children b h Nothing is = sym (zeros_join_symmetric b h)
block_of_symmetric_children b h (Root c x y z w) is =
    ap (λ k. block_of b (suc h) (Root k x y z w)) (root_of_symmetric_node b h c x y z w is)
    ∙ symmetric_node_block b h (suc h) (peak_of (block_of b (suc h) (Root c x y z w))) x y z w
