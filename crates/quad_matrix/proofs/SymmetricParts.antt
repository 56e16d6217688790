-- An assignment of the entries of a symmetric block is the symmetric join of the assignments of their parts.
use Rattle.std.proofs.Common.{◌≡◌, ℕ, suc, ◌+◌, ◌<◌, ◌≤◌, min, max, Bool, true, false, ℤ, List, [], ◌∷◌, length, sym, ap, ap₂, ◌∙◌, subst, refl, arith}
use Rattle.std.proofs.lemmas.Bool.{false≢true}
use Rattle.dense_def.specs.Matrix.{Matrix, entry, block, joined, transposed, IsSymmetric}
use Rattle.dense_def.proofs.Entries.{made_ext, entry_made}
use Rattle.dense_def.proofs.Blocks.{joined-block, joined_same}
use Rattle.leaf_blocks.specs.Block.{IsBlock}
use Rattle.task_types.specs.Tree.{Tree}
use Rattle.chunk_codec.specs.declared.plain.Spot.{Spot}
use Rattle.chunk_codec.specs.Spots.{side_of}
use Rattle.quad_matrix.specs.declared.chunk.MatChunk.{MatChunk}
use Rattle.quad_matrix.specs.declared.chunk.Entries.{Entries}
use Rattle.quad_matrix.specs.declared.kind.What.TheVariants.{Assign, SAssign, SJoin}
use Rattle.quad_matrix.specs.Spots.{spot_value, block_of_spots, mirrored_block, block_listed, AreSoundEntries, part_of}
use Rattle.quad_matrix.specs.Blocks.{block_of, canonical, canonical_symmetric, upper_left, upper_right, lower_left, lower_right}
use Rattle.quad_matrix.specs.Goals.{goal_at, FitsAt}
use Rattle.quad_matrix.proofs.Sides.{side_twice}
use Rattle.quad_matrix.proofs.Canonical.{block_of_canonical, canonical_of_block}
use Rattle.quad_matrix.proofs.Quadrants.{IsBlock-quadrants}
use Rattle.quad_matrix.proofs.Symmetric.{quadrants_symmetric, block_of_symmetric, symmetric_of_block}
use Rattle.quad_matrix.proofs.SymmetricJoins.{symmetric_join_goal, fits_symmetric_join}
use Rattle.quad_matrix.proofs.Lists.{block_of_list, list_symmetric}
use Rattle.quad_matrix.proofs.QuadrantSides.{quadrant_at}
use Rattle.quad_matrix.proofs.PartBlocks.{spot_value-part, part_is_sound, part_is_upper}
use Rattle.quad_matrix.proofs.ListParts.{list_tree, part_in, portion_of}

-- ---- A symmetric block on its quadrants

module _ (b h : ℕ) (m : Matrix) (sized : IsBlock (side_of b (suc h)) m) (even : IsSymmetric m) where
  -- the canonical trees of the quadrants that are kept
  abbrev upper_left_tree : Tree MatChunk
  upper_left_tree = canonical_symmetric b h (upper_left (side_of b h) m)

  abbrev upper_right_tree : Tree MatChunk
  upper_right_tree = canonical b h (upper_right (side_of b h) m)

  abbrev lower_right_tree : Tree MatChunk
  lower_right_tree = canonical_symmetric b h (lower_right (side_of b h) m)

  -- they fit a symmetric join
  pub quadrants_fit_symmetric_join : FitsAt b SJoin (suc h) (upper_left_tree ∷ upper_right_tree ∷ lower_right_tree ∷ [])
  quadrants_fit_symmetric_join =
      let half = side_of b h in
      let parts = IsBlock-quadrants b h m sized in
      let evens = quadrants_symmetric b h m sized even in
      fits_symmetric_join b h upper_left_tree upper_right_tree lower_right_tree (symmetric_of_block b h (upper_left half m) parts.0 evens.0) (canonical_of_block b h (upper_right half m) parts.1) (symmetric_of_block b h (lower_right half m) parts.3 evens.1)

  -- whose goal is the canonical symmetric tree of the whole
  pub symmetric_on_quadrants : canonical_symmetric b (suc h) m ≡ goal_at b SJoin (suc h) (upper_left_tree ∷ upper_right_tree ∷ lower_right_tree ∷ [])
  symmetric_on_quadrants =
      let half = side_of b h in
      let parts = IsBlock-quadrants b h m sized in
      let evens = quadrants_symmetric b h m sized even in
      let one : block_of b h upper_left_tree ≡ upper_left half m = block_of_symmetric b h (upper_left half m) parts.0 evens.0 in
      let two : block_of b h upper_right_tree ≡ upper_right half m = block_of_canonical b h (upper_right half m) parts.1.whole parts.1.tall parts.1.wide in
      let three : block_of b h lower_right_tree ≡ lower_right half m = block_of_symmetric b h (lower_right half m) parts.3 evens.1 in
      let whole : joined (upper_left half m) (upper_right half m) (lower_left half m) (lower_right half m) ≡ m = joined-block m half half half half sized.whole (sized.tall ∙ side_twice b h) (sized.wide ∙ side_twice b h) in
      ap (canonical_symmetric b (suc h))
      (sym whole
      ∙ joined_same _ _ _ _ (block_of b h upper_left_tree) (block_of b h upper_right_tree) (transposed (block_of b h upper_right_tree)) (block_of b h lower_right_tree) (sym one) (sym two) (evens.2 ∙ ap transposed (sym two)) (sym three))
      ∙ sym (symmetric_join_goal b h upper_left_tree upper_right_tree lower_right_tree)

-- ---- The blocks of the parts

-- the symmetric block of a part on the diagonal is the block of the whole that its values are from
mirrored_part_is : (half side q top : ℕ) (spots : List Spot) → top + half ≤ side → ((i j : ℕ) → i < half → j < half → spot_value (part_of half q spots) i j ≡ spot_value spots (top + i) (top + j)) → mirrored_block half (part_of half q spots) ≡ block (mirrored_block side spots) top top half half
mirrored_part_is half side q top spots low same =
    let part = part_of half q spots in
    let value : ℕ → ℕ → ℤ = λ i j. spot_value spots (min i j) (max i j) in
    made_ext half half (λ i j. spot_value part (min i j) (max i j)) (λ i j. entry (mirrored_block side spots) (top + i) (top + j))
    (λ i j p q.
    let least : top + min i j ≡ min (top + i) (top + j) = omega arith in
    let most : top + max i j ≡ max (top + i) (top + j) = omega arith in
    same (min i j) (max i j) (omega arith) (omega arith) ∙ ap₂ (λ r c. spot_value spots r c) least most ∙ sym (entry_made side side value (top + i) (top + j) (omega arith) (omega arith)))

module _ (b h : ℕ) (spots : List Spot) where
  pub mirrored_upper_left : mirrored_block (side_of b h) (part_of (side_of b h) 0 spots) ≡ upper_left (side_of b h) (mirrored_block (side_of b (suc h)) spots)
  mirrored_upper_left =
      mirrored_part_is (side_of b h) (side_of b (suc h)) 0 0 spots (omega (arith, side_twice b h))
      (λ i j p q.
      let row : i ≡ 0 + i = omega arith in
      let column : j ≡ 0 + j = omega arith in
      spot_value-part (side_of b h) i j false false spots p q ∙ ap₂ (λ r c. spot_value spots r c) row column)

  pub mirrored_upper_right : block_of_spots (side_of b h) (part_of (side_of b h) 1 spots) ≡ upper_right (side_of b h) (mirrored_block (side_of b (suc h)) spots)
  mirrored_upper_right =
      let half = side_of b h in
      let side = side_of b (suc h) in
      let part = part_of half 1 spots in
      let value : ℕ → ℕ → ℤ = λ i j. spot_value spots (min i j) (max i j) in
      made_ext half half (λ i j. spot_value part i j) (λ i j. entry (mirrored_block side spots) (0 + i) (half + j))
      (λ i j p q.
      let row : i ≡ min (0 + i) (half + j) = omega arith in
      let column : half + j ≡ max (0 + i) (half + j) = omega arith in
      spot_value-part half i j false true spots p q ∙ ap₂ (λ r c. spot_value spots r c) row column
      ∙ sym (entry_made side side value (0 + i) (half + j) (omega (arith, side_twice b h)) (omega (arith, side_twice b h))))

  pub mirrored_lower_right : mirrored_block (side_of b h) (part_of (side_of b h) 3 spots) ≡ lower_right (side_of b h) (mirrored_block (side_of b (suc h)) spots)
  mirrored_lower_right =
      mirrored_part_is (side_of b h) (side_of b (suc h)) 3 (side_of b h) spots (omega (arith, side_twice b h))
      (λ i j p q. spot_value-part (side_of b h) i j true true spots p q)

-- ---- Assignments

-- entries of a quadrant on the diagonal as entries of a symmetric block of their own, one level below
abbrev pub mirrored_portion_of : Entries → List Spot → Entries
mirrored_portion_of whole spots = record (portion_of whole spots) { symmetric = true }

-- the canonical symmetric tree of the block of a part on the diagonal
abbrev pub mirrored_part_tree : ℕ → ℕ → Entries → ℕ → Tree MatChunk
mirrored_part_tree b h whole q = canonical_symmetric b h (mirrored_block (side_of b h) (part_in b h whole q))

-- and that of the part above the diagonal
abbrev pub upper_part_tree : ℕ → ℕ → Entries → Tree MatChunk
upper_part_tree b h whole = canonical b h (block_of_spots (side_of b h) (part_in b h whole 1))

module _ (b h : ℕ) (whole : Entries) (sound : AreSoundEntries b (suc h) true whole) where
  -- the block of the whole
  abbrev m : Matrix
  m = mirrored_block (side_of b (suc h)) whole.list

  list : FitsAt b SAssign (suc h) (list_tree whole ∷ [])
  list = (sound, refl, refl, refl, refl)

  listed : block_of b (suc h) (list_tree whole) ≡ m
  listed = ap (λ mirrored. block_listed mirrored (side_of b (suc h)) whole.list) sound.symmetric

  m_sized : IsBlock (side_of b (suc h)) m
  m_sized = subst (IsBlock (side_of b (suc h))) listed (block_of_list b (suc h) true (list_tree whole) list)

  m_even : IsSymmetric m
  m_even = subst IsSymmetric listed (list_symmetric b (suc h) (list_tree whole) list)

  -- the trees of the parts are those of the quadrants
  trees : (mirrored_part_tree b h whole 0 ≡ canonical_symmetric b h (upper_left (side_of b h) m)) × (upper_part_tree b h whole ≡ canonical b h (upper_right (side_of b h) m)) × (mirrored_part_tree b h whole 3 ≡ canonical_symmetric b h (lower_right (side_of b h) m))
  trees = (
    ap (canonical_symmetric b h) (mirrored_upper_left b h whole.list),
    ap (canonical b h) (mirrored_upper_right b h whole.list),
    ap (canonical_symmetric b h) (mirrored_lower_right b h whole.list),
  )

  -- the trees of the parts fit a symmetric join
  pub mirrored_parts_fit_join : FitsAt b SJoin (suc h) (mirrored_part_tree b h whole 0 ∷ upper_part_tree b h whole ∷ mirrored_part_tree b h whole 3 ∷ [])
  mirrored_parts_fit_join = rw (trees.0, trees.1, trees.2) (quadrants_fit_symmetric_join b h m m_sized m_even)

  -- the goal of an assignment is the goal of the symmetric join of its parts
  pub symmetric_assign_on_parts : goal_at b SAssign (suc h) (list_tree whole ∷ []) ≡ goal_at b SJoin (suc h) (mirrored_part_tree b h whole 0 ∷ upper_part_tree b h whole ∷ mirrored_part_tree b h whole 3 ∷ [])
  symmetric_assign_on_parts =
      ap (canonical_symmetric b (suc h)) listed
      ∙ symmetric_on_quadrants b h m m_sized m_even
      ∙ (let same : goal_at b SJoin (suc h) (canonical_symmetric b h (upper_left (side_of b h) m) ∷ canonical b h (upper_right (side_of b h) m) ∷ canonical_symmetric b h (lower_right (side_of b h) m) ∷ []) ≡ goal_at b SJoin (suc h) (mirrored_part_tree b h whole 0 ∷ upper_part_tree b h whole ∷ mirrored_part_tree b h whole 3 ∷ []) = cc (trees.0, trees.1, trees.2) in same)

  -- a part on the diagonal that is not empty is a sound list of a symmetric block
  pub mirrored_part_fits : (below : Bool) → 1 ≤ length (part_in b h whole (quadrant_at below below)) → FitsAt b SAssign h (list_tree (mirrored_portion_of whole (part_in b h whole (quadrant_at below below))) ∷ [])
  mirrored_part_fits below some =
      let entries : AreSoundEntries b h true (mirrored_portion_of whole (part_in b h whole (quadrant_at below below))) = record {
        leaf = sound.leaf;
        height = omega (arith, sound.height);
        symmetric = refl;
        listed = part_is_sound b h (quadrant_at below below) true true whole.list sound.listed some (λ e. part_is_upper (side_of b h) below whole.list (sound.listed.upper refl));
      } in
      (entries, refl, refl, refl, refl)

  -- and one above it of a general block
  pub upper_part_fits : 1 ≤ length (part_in b h whole 1) → FitsAt b Assign h (list_tree (portion_of whole (part_in b h whole 1)) ∷ [])
  upper_part_fits some =
      let entries : AreSoundEntries b h false (portion_of whole (part_in b h whole 1)) = record {
        leaf = sound.leaf;
        height = omega (arith, sound.height);
        symmetric = refl;
        listed = part_is_sound b h 1 true false whole.list sound.listed some (λ e. absurd (false≢true e));
      } in
      (entries, refl, refl, refl, refl)
