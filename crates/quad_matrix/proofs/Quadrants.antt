-- The quadrants of canonical trees, and canonical trees joined of four.
use Rattle.std.proofs.Common.{◌≡◌, ℕ, zero, suc, ◌+◌, ◌≤◌, max, Bool, true, false, ◌||◌, refl, sym, ap, ap₂, ◌∙◌, subst, arith, ⊎_elim, le_trans, ◌^◌}
use Rattle.std.proofs.lemmas.Bool.{cases_Bool, true≢false}
use Rattle.dense_def.specs.Matrix.{Matrix, height, block, joined, zeros, peak_of, QuadrantsFit}
use Rattle.dense_def.proofs.Blocks.{height-block, IsMatrix-block, entry-block, block-joined, height-joined, IsMatrix-joined}
use Rattle.dense_def.proofs.Peaks.{peak-joined, peak_least, entry_le_peak}
use Rattle.dense_def.proofs.Zeros.{joined-zeros}
use Rattle.leaf_blocks.specs.Block.{IsBlock}
use Rattle.task_types.specs.Tree.{Tree, Nothing, Root, is_there, child}
use Rattle.quad_matrix.specs.declared.chunk.MatChunk.{MatChunk}
use Rattle.quad_matrix.specs.declared.chunk.MatChunk.TheVariants.{Node}
use Rattle.chunk_codec.specs.Spots.{side_of}
use Rattle.quad_matrix.specs.Blocks.{block_of, canonical, IsCanonical, upper_left, upper_right, lower_left, lower_right}
use Rattle.quad_matrix.proofs.Sides.{side_twice, suc-sub_one}
use Rattle.quad_matrix.proofs.Canonical.{canonical_zero, canonical_node, node_of, canonical_of_block, nothing_is_canonical, peak-zeros}
use Rattle.quad_matrix.proofs.Roots.{root_is_node, root_of_node, flat_not_there}

-- a part of a block is a block
pub IsBlock-part : (side half top left : ℕ) (m : Matrix) → top + half ≤ side → left + half ≤ side → IsBlock side m → IsBlock half (block m top left half half)
IsBlock-part side half top left m low right sized =
    record {
      whole = IsMatrix-block m top left half half;
      tall = height-block m top left half half;
      wide = refl;
      small = λ i j p q. rw entry-block (sized.small (top + i) (left + j) (omega arith) (omega arith));
    }

-- the quadrants of a block are blocks
pub IsBlock-quadrants : (b h : ℕ) (m : Matrix) → IsBlock (side_of b (suc h)) m → IsBlock (side_of b h) (upper_left (side_of b h) m) × IsBlock (side_of b h) (upper_right (side_of b h) m) × IsBlock (side_of b h) (lower_left (side_of b h) m) × IsBlock (side_of b h) (lower_right (side_of b h) m)
IsBlock-quadrants b h m sized =
    let half = side_of b h in
    let twice : IsBlock (half + half) m = subst (λ n. IsBlock n m) (side_twice b h) sized in (
      IsBlock-part (half + half) half 0 0 m (omega arith) (omega arith) twice,
      IsBlock-part (half + half) half 0 half m (omega arith) (omega arith) twice,
      IsBlock-part (half + half) half half 0 m (omega arith) (omega arith) twice,
      IsBlock-part (half + half) half half half m (omega arith) (omega arith) twice,
    )

-- the children of such a node are canonical
node_child : (b h : ℕ) (m : Matrix) → IsBlock (side_of b (suc h)) m → (q : ℕ) → IsCanonical b h (child (node_of b h m) q)
node_child b h m sized zero = canonical_of_block b h (upper_left (side_of b h) m) (IsBlock-quadrants b h m sized).0
node_child b h m sized (suc zero) = canonical_of_block b h (upper_right (side_of b h) m) (IsBlock-quadrants b h m sized).1
node_child b h m sized (suc (suc zero)) =
    canonical_of_block b h (lower_left (side_of b h) m) (IsBlock-quadrants b h m sized).2
node_child b h m sized (suc (suc (suc zero))) =
    canonical_of_block b h (lower_right (side_of b h) m) (IsBlock-quadrants b h m sized).3
node_child b h m sized (suc (suc (suc (suc q)))) = nothing_is_canonical b h

-- the children of a canonical tree are canonical
pub child_canonical : (b h : ℕ) (t : Tree MatChunk) → IsCanonical b (suc h) t → (q : ℕ) → IsCanonical b h (child t q)
child_canonical b h Nothing is q = nothing_is_canonical b h
child_canonical b h (Root c x y z w) is q =
    subst (λ t. IsCanonical b h (child t q)) (sym (root_is_node b h c x y z w is)) (node_child b h _ is.sized q)

-- all four of them
pub quadrants_canonical : (b h : ℕ) (t : Tree MatChunk) → IsCanonical b (suc h) t → IsCanonical b h (child t 0) × IsCanonical b h (child t 1) × IsCanonical b h (child t 2) × IsCanonical b h (child t 3)
quadrants_canonical b h t is =
    (child_canonical b h t is 0, child_canonical b h t is 1, child_canonical b h t is 2, child_canonical b h t is 3)

-- a node's block is the join of its children's blocks
node_block : (b h k peak : ℕ) (x y z w : Tree MatChunk) → block_of b (suc h) (Root (Node k peak) x y z w) ≡ joined (block_of b h x) (block_of b h y) (block_of b h z) (block_of b h w)
node_block b h k peak x y z w =
    ap (λ n. joined (block_of b n x) (block_of b n y) (block_of b n z) (block_of b n w)) (suc-sub_one h)

-- zeros are zeros joined
pub zeros_join : (b h : ℕ) → joined (zeros (side_of b h) (side_of b h)) (zeros (side_of b h) (side_of b h)) (zeros (side_of b h) (side_of b h)) (zeros (side_of b h) (side_of b h)) ≡ zeros (side_of b (suc h)) (side_of b (suc h))
zeros_join b h =
    joined-zeros (side_of b h) (side_of b h) (side_of b h) (side_of b h) ∙ ap (λ n. zeros n n) (sym (side_twice b h))

-- the block of a canonical tree is the join of its children's blocks
pub block_of_quadrants : (b h : ℕ) (t : Tree MatChunk) → IsCanonical b (suc h) t → block_of b (suc h) t ≡ joined (block_of b h (child t 0)) (block_of b h (child t 1)) (block_of b h (child t 2)) (block_of b h (child t 3))
block_of_quadrants b h Nothing is = sym (zeros_join b h)
block_of_quadrants b h (Root c x y z w) is =
    ap (λ k. block_of b (suc h) (Root k x y z w)) (root_of_node b h c x y z w is)
    ∙ node_block b h (suc h) (peak_of (block_of b (suc h) (Root c x y z w))) x y z w

-- whether one of four trees is there
abbrev pub any_there : {C : Type 0} → Tree C → Tree C → Tree C → Tree C → Bool
any_there x y z w = is_there x || is_there y || is_there z || is_there w

-- blocks of one side are quadrants of one block
pub squares_fit : (side : ℕ) (a b c d : Matrix) → IsBlock side a → IsBlock side b → IsBlock side c → IsBlock side d → QuadrantsFit a b c d
squares_fit side a b c d ia ib ic id =
    record {
      upper = ia.tall ∙ sym ib.tall;
      lower = ic.tall ∙ sym id.tall;
      left = ia.wide ∙ sym ic.wide;
      right = ib.wide ∙ sym id.wide;
    }

-- no number of a block is above 2 ^ 126
pub peak_small : (side : ℕ) (m : Matrix) → IsBlock side m → peak_of m ≤ 2 ^ 126
peak_small side m sized = peak_least m (2 ^ 126) (λ i j p q. sized.small i j (rw (← sized.tall) p) (rw (← sized.wide) q))

-- the join of four blocks of one side is a block of twice the side
pub IsBlock-joined : (side : ℕ) (a b c d : Matrix) → IsBlock side a → IsBlock side b → IsBlock side c → IsBlock side d → IsBlock (side + side) (joined a b c d)
IsBlock-joined side a b c d ia ib ic id =
    let m = joined a b c d in
    let small : peak_of m ≤ 2 ^ 126 =
    rw (peak-joined a b c d (squares_fit side a b c d ia ib ic id))
    (omega (arith, peak_small side a ia, peak_small side b ib, peak_small side c ic, peak_small side d id)) in
    let tall : height m ≡ side + side = height-joined a b c d ∙ ap₂ ◌+◌ ia.tall ic.tall in
    let wide : m.columns ≡ side + side = ap₂ ◌+◌ ia.wide ib.wide in
    record {
      whole = IsMatrix-joined a b c d;
      tall = tall;
      wide = wide;
      small = λ i j p q. le_trans (entry_le_peak m i j (rw tall p) (rw wide q)) small;
    }

-- a block of other bounds that are equal
block_at : (m : Matrix) (t t' l l' r r' c c' : ℕ) → t ≡ t' → l ≡ l' → r ≡ r' → c ≡ c' → block m t l r c ≡ block m t' l' r' c'
block_at m t t' l l' r r' c c' et el er ec =
    ap₂ (λ x y. block m x y r c) et el ∙ ap₂ (λ x y. block m t' l' x y) er ec

-- the quadrants of the join of four blocks of one side are the four
pub quadrants_of_join : (side : ℕ) (a b c d : Matrix) → IsBlock side a → IsBlock side b → IsBlock side c → IsBlock side d → (upper_left side (joined a b c d) ≡ a) × (upper_right side (joined a b c d) ≡ b) × (lower_left side (joined a b c d) ≡ c) × (lower_right side (joined a b c d) ≡ d)
quadrants_of_join side a b c d ia ib ic id =
    let parts = block-joined a b c d ia.whole ib.whole ic.whole id.whole (squares_fit side a b c d ia ib ic id) in
    let m = joined a b c d in (
      block_at m _ _ _ _ _ _ _ _ refl refl (sym ia.tall) (sym ia.wide) ∙ parts.0,
      block_at m _ _ _ _ _ _ _ _ refl (sym ia.wide) (sym ib.tall) (sym ib.wide) ∙ parts.1,
      block_at m _ _ _ _ _ _ _ _ (sym ia.tall) refl (sym ic.tall) (sym ic.wide) ∙ parts.2,
      block_at m _ _ _ _ _ _ _ _ (sym ia.tall) (sym ia.wide) (sym id.tall) (sym id.wide) ∙ parts.3,
    )

-- ---- Joins

-- the block with the blocks of four trees as its quadrants
abbrev pub join_of : ℕ → ℕ → Tree MatChunk → Tree MatChunk → Tree MatChunk → Tree MatChunk → Matrix
join_of b h x y z w = joined (block_of b h x) (block_of b h y) (block_of b h z) (block_of b h w)

-- the greatest of their peaks
abbrev pub join_peak : ℕ → ℕ → Tree MatChunk → Tree MatChunk → Tree MatChunk → Tree MatChunk → ℕ
join_peak b h x y z w =
    max (max (peak_of (block_of b h x)) (peak_of (block_of b h y))) (max (peak_of (block_of b h z)) (peak_of (block_of b h w)))

-- roots with equal parts are equal
pub same_root : (c d : MatChunk) (x x' y y' z z' w w' : Tree MatChunk) → c ≡ d → x ≡ x' → y ≡ y' → z ≡ z' → w ≡ w' → Root c x y z w ≡ Root d x' y' z' w'
same_root c d x x' y y' z z' w w' ec ex ey ez ew = cc

-- the join of nothing four times is nothing
pub join_nothing : (b h : ℕ) (x y z w : Tree MatChunk) → any_there x y z w ≡ false → canonical b (suc h) (join_of b h x y z w) ≡ Nothing
join_nothing b h Nothing Nothing Nothing Nothing e =
    canonical_zero b (suc h) _ (ap peak_of (zeros_join b h) ∙ peak-zeros (side_of b (suc h)) (side_of b (suc h)))
join_nothing b h (Root c c0 c1 c2 c3) y z w e = absurd (true≢false e)
join_nothing b h Nothing (Root c c0 c1 c2 c3) z w e = absurd (true≢false e)
join_nothing b h Nothing Nothing (Root c c0 c1 c2 c3) w e = absurd (true≢false e)
join_nothing b h Nothing Nothing Nothing (Root c c0 c1 c2 c3) e = absurd (true≢false e)

-- four canonical trees of one height and one side of leaves
module _ (b h : ℕ) (x y z w : Tree MatChunk) (ix : IsCanonical b h x) (iy : IsCanonical b h y) (iz : IsCanonical b h z) (iw : IsCanonical b h w) where
  -- the peak of the join is the greatest of theirs
  pub peak_of_join : peak_of (join_of b h x y z w) ≡ join_peak b h x y z w
  peak_of_join = peak-joined _ _ _ _ (squares_fit (side_of b h) _ _ _ _ ix.sized iy.sized iz.sized iw.sized)

  -- the join is a block
  pub block_of_join : IsBlock (side_of b (suc h)) (join_of b h x y z w)
  block_of_join =
      subst (λ n. IsBlock n (join_of b h x y z w)) (sym (side_twice b h)) (IsBlock-joined (side_of b h) _ _ _ _ ix.sized iy.sized iz.sized iw.sized)

  -- its canonical tree is canonical
  pub join_canonical : IsCanonical b (suc h) (canonical b (suc h) (join_of b h x y z w))
  join_canonical = canonical_of_block b (suc h) (join_of b h x y z w) block_of_join

  -- a join with a tree that is there is not zero
  join_not_flat : any_there x y z w ≡ true → peak_of (join_of b h x y z w) ≡ 0 → ⊥
  join_not_flat there flat =
      let most : join_peak b h x y z w ≡ 0 = sym peak_of_join ∙ flat in
      let ex : is_there x ≡ false = flat_not_there b h x ix (omega arith) in
      let ey : is_there y ≡ false = flat_not_there b h y iy (omega arith) in
      let ez : is_there z ≡ false = flat_not_there b h z iz (omega arith) in
      let ew : is_there w ≡ false = flat_not_there b h w iw (omega arith) in
      true≢false (sym there ∙ rw (ex, ey, ez, ew) refl)

  -- its canonical tree is a node over the four
  pub join_some : any_there x y z w ≡ true → canonical b (suc h) (join_of b h x y z w) ≡ Root (Node (suc h) (join_peak b h x y z w)) x y z w
  join_some there =
      let m = join_of b h x y z w in
      let parts = quadrants_of_join (side_of b h) _ _ _ _ ix.sized iy.sized iz.sized iw.sized in
      let ex : canonical b h (upper_left (side_of b h) m) ≡ x = ap (canonical b h) parts.0 ∙ sym ix.same in
      let ey : canonical b h (upper_right (side_of b h) m) ≡ y = ap (canonical b h) parts.1 ∙ sym iy.same in
      let ez : canonical b h (lower_left (side_of b h) m) ≡ z = ap (canonical b h) parts.2 ∙ sym iz.same in
      let ew : canonical b h (lower_right (side_of b h) m) ≡ w = ap (canonical b h) parts.3 ∙ sym iw.same in
      canonical_node b h m (join_not_flat there)
      ∙ same_root (Node (suc h) (peak_of m)) (Node (suc h) (join_peak b h x y z w)) _ x _ y _ z _ w (ap (Node (suc h)) peak_of_join) ex ey ez ew

  -- the join is there where one of the four is
  pub join_there : is_there (canonical b (suc h) (join_of b h x y z w)) ≡ any_there x y z w
  join_there =
      ⊎_elim
      (λ (e : any_there x y z w ≡ true). ap is_there (join_some e) ∙ sym e)
      (λ (e : any_there x y z w ≡ false). ap is_there (join_nothing b h x y z w e) ∙ sym e)
      (cases_Bool (any_there x y z w))

-- a canonical tree of height at least 1 is there where one of its children is
pub some_child : (b h : ℕ) (t : Tree MatChunk) → IsCanonical b (suc h) t → is_there t ≡ any_there (child t 0) (child t 1) (child t 2) (child t 3)
some_child b h t is =
    ap is_there (is.same ∙ ap (canonical b (suc h)) (block_of_quadrants b h t is))
    ∙ join_there b h (child t 0) (child t 1) (child t 2) (child t 3) (child_canonical b h t is 0) (child_canonical b h t is 1) (child_canonical b h t is 2) (child_canonical b h t is 3)
