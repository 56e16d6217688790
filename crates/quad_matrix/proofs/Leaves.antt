-- The side of the leaves of trees.
use Rattle.std.proofs.Common.{◌≡◌, ℕ, zero, suc, ◌<◌, ◌≤◌, max, Bool, true, ◌==◌, unsigned_abs, refl, sym, ap, ◌∙◌, arith, ⊎_elim, pos_of_ne-zero, le_of_eq, ◌⊎◌, inl, inr, List, [], ◌∷◌}
use Rattle.std.specs.List.{AllByRecursion}
use Rattle.std.proofs.lemmas.Bool.{cases_eq, cases_lt, true≢false, cond_both}
use Rattle.dense_def.specs.Matrix.{Matrix, height, IsMatrix, joined, peak_of, IsSymmetric}
use Rattle.dense_def.proofs.Blocks.{height-block, IsMatrix-block, joined-block}
use Rattle.dense_def.proofs.Peaks.{peak-joined, peak-transposed}
use Rattle.leaf_blocks.specs.Block.{IsBlock}
use Rattle.task_types.specs.Tree.{Tree, Nothing, Root, is_there}
use Rattle.quad_matrix.specs.declared.chunk.MatChunk.{MatChunk}
use Rattle.quad_matrix.specs.declared.chunk.MatChunk.TheVariants.{Leaf, Node, SymLeaf, SymNode, Entries, Num}
use Rattle.chunk_codec.specs.Spots.{side_of}
use Rattle.quad_matrix.specs.Blocks.{block_of, number_of, alone, canonical, canonical_symmetric, IsCanonical, IsCanonicalSymmetric, IsNumber, leaf_of, leaf_in, upper_left, upper_right, lower_left, lower_right}
use Rattle.quad_matrix.specs.Goals.{IsList}
use Rattle.quad_matrix.proofs.Sides.{side_low, side_twice}
use Rattle.quad_matrix.proofs.Canonical.{canonical_zero, canonical_leaf, canonical_node}
use Rattle.quad_matrix.proofs.Roots.{root_some}
use Rattle.quad_matrix.proofs.Quadrants.{IsBlock-quadrants}
use Rattle.quad_matrix.proofs.Symmetric.{quadrants_symmetric, symmetric_zero, symmetric_leaf, symmetric_node, symmetric_root_some}

-- where the peak of a quadrant is 0 it has no leaves, else leaves of side b
record Tells (b peak leaf : ℕ) : Type 0 where
  most : leaf ≤ b
  some : leaf < b → peak ≡ 0

-- what four quadrants tell
greatest_tells : (b p q r s k l m n : ℕ) → Tells b p k → Tells b q l → Tells b r m → Tells b s n → 0 < max (max p q) (max r s) → max (max k l) (max m n) ≡ b
greatest_tells b p q r s k l m n one two three four some =
    let most : max (max k l) (max m n) ≤ b = omega arith in
    ⊎_elim
    (λ (low : max (max k l) (max m n) < b). absurd (omega arith))
    (λ (high : b ≤ max (max k l) (max m n)). omega arith)
    (cases_lt (max (max k l) (max m n)) b)

-- what a tree tells that is nothing where the peak is 0, and whose leaves are known elsewhere
tells_from : (b peak : ℕ) (tree : Tree MatChunk) → (peak ≡ 0 → tree ≡ Nothing) → ((peak ≡ 0 → ⊥) → leaf_of tree ≡ b) → Tells b peak (leaf_of tree)
tells_from b peak tree nothing leaf =
    ⊎_elim
    (λ (flat : peak ≡ 0).
    let none : leaf_of tree ≡ 0 = ap leaf_of (nothing flat) in
    record { most = omega arith; some = λ p. flat })
    (λ (some : peak ≡ 0 → ⊥). let is = leaf some in record { most = omega arith; some = λ p. absurd (omega arith) })
    (cases_eq peak 0)

-- what a canonical tree tells
tells : (b h : ℕ) (m : Matrix) → ((peak_of m ≡ 0 → ⊥) → leaf_of (canonical b h m) ≡ b) → Tells b (peak_of m) (leaf_of (canonical b h m))
tells b h m leaf = tells_from b (peak_of m) (canonical b h m) (canonical_zero b h m) leaf

-- and a canonical symmetric tree
symmetric_tells : (b h : ℕ) (m : Matrix) → ((peak_of m ≡ 0 → ⊥) → leaf_of (canonical_symmetric b h m) ≡ b) → Tells b (peak_of m) (leaf_of (canonical_symmetric b h m))
symmetric_tells b h m leaf = tells_from b (peak_of m) (canonical_symmetric b h m) (symmetric_zero b h m) leaf

-- the peak of a block is the greatest of those of its quadrants
quadrants_peak : (b h : ℕ) (m : Matrix) → IsMatrix m → height m ≡ side_of b (suc h) → m.columns ≡ side_of b (suc h) → peak_of m ≡ max (max (peak_of (upper_left (side_of b h) m)) (peak_of (upper_right (side_of b h) m))) (max (peak_of (lower_left (side_of b h) m)) (peak_of (lower_right (side_of b h) m)))
quadrants_peak b h m whole tall wide =
    let half = side_of b h in
    let parts : joined (upper_left half m) (upper_right half m) (lower_left half m) (lower_right half m) ≡ m =
    joined-block m half half half half whole (tall ∙ side_twice b h) (wide ∙ side_twice b h) in
    ap peak_of (sym parts)
    ∙ peak-joined (upper_left half m) (upper_right half m) (lower_left half m) (lower_right half m)
    (record {
      upper = height-block m 0 0 half half ∙ sym (height-block m 0 half half half);
      lower = height-block m half 0 half half ∙ sym (height-block m half half half half);
      left = refl;
      right = refl;
    })

-- the leaves of the canonical tree of a block other than zero have the side that it is made for
pub leaf_of_full : (b h : ℕ) (m : Matrix) → IsMatrix m → height m ≡ side_of b h → m.columns ≡ side_of b h → (peak_of m ≡ 0 → ⊥) → leaf_of (canonical b h m) ≡ b
leaf_of_full b zero m whole tall wide some = ap leaf_of (canonical_leaf b m some) ∙ tall ∙ side_low b
leaf_of_full b (suc h) m whole tall wide some =
    let half = side_of b h in
    let peak = quadrants_peak b h m whole tall wide in
    ap leaf_of (canonical_node b h m some)
    ∙ greatest_tells b (peak_of (upper_left half m)) (peak_of (upper_right half m)) (peak_of (lower_left half m)) (peak_of (lower_right half m)) _ _ _ _
    (tells b h (upper_left half m) (leaf_of_full b h (upper_left half m) (IsMatrix-block m 0 0 half half) (height-block m 0 0 half half) refl))
    (tells b h (upper_right half m) (leaf_of_full b h (upper_right half m) (IsMatrix-block m 0 half half half) (height-block m 0 half half half) refl))
    (tells b h (lower_left half m) (leaf_of_full b h (lower_left half m) (IsMatrix-block m half 0 half half) (height-block m half 0 half half) refl))
    (tells b h (lower_right half m) (leaf_of_full b h (lower_right half m) (IsMatrix-block m half half half half) (height-block m half half half half) refl))
    (rw (← peak) (pos_of_ne-zero some))

-- those of the canonical symmetric tree of such a block too
pub leaf_of_symmetric_full : (b h : ℕ) (m : Matrix) → IsBlock (side_of b h) m → IsSymmetric m → (peak_of m ≡ 0 → ⊥) → leaf_of (canonical_symmetric b h m) ≡ b
leaf_of_symmetric_full b zero m sized even some = ap leaf_of (symmetric_leaf b m some) ∙ sized.tall ∙ side_low b
leaf_of_symmetric_full b (suc h) m sized even some =
    let half = side_of b h in
    let parts = IsBlock-quadrants b h m sized in
    let evens = quadrants_symmetric b h m sized even in
    let peak = quadrants_peak b h m sized.whole sized.tall sized.wide in
    let lower : peak_of (lower_left half m) ≡ peak_of (upper_right half m) = ap peak_of evens.2 ∙ peak-transposed (upper_right half m) in
    let least : 0 < peak_of m = pos_of_ne-zero some in
    ap leaf_of (symmetric_node b h m some)
    ∙ greatest_tells b (peak_of (upper_left half m)) (peak_of (upper_right half m)) (peak_of (lower_right half m)) 0
    (leaf_of (canonical_symmetric b h (upper_left half m))) (leaf_of (canonical b h (upper_right half m))) (leaf_of (canonical_symmetric b h (lower_right half m))) 0
    (symmetric_tells b h (upper_left half m) (leaf_of_symmetric_full b h (upper_left half m) parts.0 evens.0))
    (tells b h (upper_right half m) (leaf_of_full b h (upper_right half m) parts.1.whole parts.1.tall parts.1.wide))
    (symmetric_tells b h (lower_right half m) (leaf_of_symmetric_full b h (lower_right half m) parts.3 evens.1))
    (record { most = omega arith; some = λ p. refl })
    (omega arith)

-- the leaves of a canonical tree that is there
pub leaf_of_canonical : (b h : ℕ) (t : Tree MatChunk) → IsCanonical b h t → is_there t ≡ true → leaf_of t ≡ b
leaf_of_canonical b h t is there =
    ap leaf_of is.same
    ∙ leaf_of_full b h (block_of b h t) is.sized.whole is.sized.tall is.sized.wide (root_some b h t is there)

-- so it is with a canonical symmetric tree
pub leaf_of_symmetric : (b h : ℕ) (t : Tree MatChunk) → IsCanonicalSymmetric b h t → is_there t ≡ true → leaf_of t ≡ b
leaf_of_symmetric b h t is there =
    ap leaf_of is.same ∙ leaf_of_symmetric_full b h (block_of b h t) is.sized is.symmetric (symmetric_root_some b h t is there)

-- the leaves of a tree, if it has some, have that side
abbrev pub HasLeaves : ℕ → Tree MatChunk → Type 0
HasLeaves b tree = is_there tree ≡ true → leaf_of tree ≡ b

-- then it has no greater leaves
leaf_le : (b : ℕ) (t : Tree MatChunk) → HasLeaves b t → leaf_of t ≤ b
leaf_le b Nothing has = omega arith
leaf_le b (Root c x y z w) has = le_of_eq (has refl)

-- nor have some
leaf_in_le : (b : ℕ) (trees : List (Tree MatChunk)) → AllByRecursion (HasLeaves b) trees → leaf_in trees ≤ b
leaf_in_le b [] all = omega arith
leaf_in_le b (t ∷ trees) all = omega (arith, leaf_le b t all.0, leaf_in_le b trees all.1)

-- the leaves of some trees, of which one may be there
pub leaf_in_known : (b : ℕ) (trees : List (Tree MatChunk)) → AllByRecursion (HasLeaves b) trees → (leaf_in trees ≡ b) ⊎ AllByRecursion (λ (t : Tree MatChunk). t ≡ Nothing) trees
leaf_in_known b [] all = inr tt
leaf_in_known b (Nothing ∷ trees) all =
    ⊎_elim (λ (e : leaf_in trees ≡ b). inl (let same : max 0 (leaf_in trees) ≡ b = omega arith in same))
    (λ (none : AllByRecursion (λ (t : Tree MatChunk). t ≡ Nothing) trees). inr (refl, none))
    (leaf_in_known b trees all.1)
leaf_in_known b (Root c x y z w ∷ trees) all =
    let one : leaf_of (Root c x y z w) ≡ b = all.0 refl in
    let rest = leaf_in_le b trees all.1 in
    let same : max (leaf_of (Root c x y z w)) (leaf_in trees) ≡ b = omega arith in
    inl same

-- the leaves of a sound list
pub leaf_of_list : (b h : ℕ) (mirrored : Bool) (t : Tree MatChunk) → IsList b h mirrored t → is_there t ≡ true → leaf_of t ≡ b
leaf_of_list b h mirrored Nothing is there = absurd (true≢false (sym there))
leaf_of_list b h mirrored (Root (Entries entries) x y z w) is there = is.0.leaf
leaf_of_list b h mirrored (Root (Leaf m) x y z w) is there = absurd is
leaf_of_list b h mirrored (Root (Node k peak) x y z w) is there = absurd is
leaf_of_list b h mirrored (Root (SymLeaf m) x y z w) is there = absurd is
leaf_of_list b h mirrored (Root (SymNode k peak) x y z w) is there = absurd is
leaf_of_list b h mirrored (Root (Num n) x y z w) is there = absurd is

-- a number has no leaves
pub leaf_of_number : (t : Tree MatChunk) → IsNumber t → leaf_of t ≡ 0
leaf_of_number t is = ap leaf_of is.same ∙ cond_both (unsigned_abs (number_of t) == 0) Nothing (alone (Num (number_of t))) (λ x. leaf_of x ≡ 0) (λ e. refl) (λ e. refl)
