-- An assignment of entries is the join of the assignments of their parts.
use Rattle.std.proofs.Common.{◌≡◌, ℕ, suc, ◌-◌, ◌≤◌, ◌||◌, Bool, false, List, [], ◌∷◌, length, not, ◌==◌, refl, sym, ap, ap₂, subst, ◌∙◌, ⊎_elim, ◌⊎◌, inl, inr, true, arith}
use Rattle.std.proofs.lemmas.Bool.{false≢true, ne_eqb, eq-eqb}
use Rattle.dense_def.specs.Matrix.{joined, peak_of}
use Rattle.dense_def.proofs.Blocks.{joined-block, joined_same}
use Rattle.task_types.specs.Tree.{Tree, Nothing, is_there}
use Rattle.chunk_codec.specs.declared.plain.Spot.{Spot}
use Rattle.quad_matrix.specs.declared.chunk.MatChunk.{MatChunk}
use Rattle.quad_matrix.specs.declared.chunk.MatChunk.TheVariants as chunk
use Rattle.quad_matrix.specs.declared.chunk.Entries.{Entries}
use Rattle.quad_matrix.specs.declared.kind.What.TheVariants.{Assign, Join}
use Rattle.chunk_codec.specs.Spots.{side_of}
use Rattle.quad_matrix.specs.Spots.{block_of_spots, block_listed, AreSoundEntries, part_of}
use Rattle.quad_matrix.specs.Blocks.{block_of, alone, canonical, IsCanonical, upper_left, upper_right, lower_left, lower_right}
use Rattle.quad_matrix.specs.Goals.{goal_at, FitsAt}
use Rattle.quad_matrix.proofs.Sides.{side_low, side_twice}
use Rattle.quad_matrix.proofs.Canonical.{canonical_zero, block_of_canonical, canonical_of_block, is_there_canonical, is_there_some, nothing_is_canonical, peak-zeros}
use Rattle.quad_matrix.proofs.Quadrants.{join_there}
use Rattle.quad_matrix.proofs.Sums.{join_goal, fits_join}
use Rattle.quad_matrix.proofs.Lists.{spots_whole, spots_tall, block_of_sound, sound_some}
use Rattle.quad_matrix.proofs.PartBlocks.{part_is_upper_left, part_is_upper_right, part_is_lower_left, part_is_lower_right, part_is_sound}

-- whether a list has an entry
abbrev pub has_spot : List Spot → Bool
has_spot spots = not (length spots == 0)

-- entries of a quadrant of a block as entries of a general block of their own, one level below
abbrev pub portion_of : Entries → List Spot → Entries
portion_of whole spots = record { leaf = whole.leaf; height = whole.height - 1; symmetric = false; list = spots }

-- a list of entries as a tree
abbrev pub list_tree : Entries → Tree MatChunk
list_tree entries = alone (chunk.Entries entries)

-- the entries of a part
abbrev pub part_in : ℕ → ℕ → Entries → ℕ → List Spot
part_in b h whole q = part_of (side_of b h) q whole.list

-- the canonical tree of a part's block
abbrev pub part_tree : ℕ → ℕ → Entries → ℕ → Tree MatChunk
part_tree b h whole q = canonical b h (block_of_spots (side_of b h) (part_in b h whole q))

-- the blocks of the parts, joined, are the block of the whole
pub joined_parts : (b h : ℕ) (spots : List Spot) → joined (block_of_spots (side_of b h) (part_of (side_of b h) 0 spots)) (block_of_spots (side_of b h) (part_of (side_of b h) 1 spots)) (block_of_spots (side_of b h) (part_of (side_of b h) 2 spots)) (block_of_spots (side_of b h) (part_of (side_of b h) 3 spots)) ≡ block_of_spots (side_of b (suc h)) spots
joined_parts b h spots =
    let half = side_of b h in
    let m = block_of_spots (side_of b (suc h)) spots in
    joined_same (block_of_spots half (part_of half 0 spots)) (block_of_spots half (part_of half 1 spots)) (block_of_spots half (part_of half 2 spots)) (block_of_spots half (part_of half 3 spots))
    (upper_left half m) (upper_right half m) (lower_left half m) (lower_right half m)
    (part_is_upper_left b h spots) (part_is_upper_right b h spots) (part_is_lower_left b h spots) (part_is_lower_right b h spots)
    ∙ joined-block m half half half half (spots_whole (side_of b (suc h)) spots) (spots_tall (side_of b (suc h)) spots ∙ side_twice b h) (side_twice b h)

-- a list is empty or not
empty_or_not : (spots : List Spot) → (spots ≡ []) ⊎ (1 ≤ length spots)
empty_or_not [] = inl refl
empty_or_not (spot ∷ spots) = inr (omega arith)

module _ (b h : ℕ) (whole : Entries) (sound : AreSoundEntries b (suc h) false whole) where
  -- a part that is not empty is a sound list
  pub portion_sound : (q : ℕ) → 1 ≤ length (part_in b h whole q) → AreSoundEntries b h false (portion_of whole (part_in b h whole q))
  portion_sound q some = record {
    leaf = sound.leaf;
    height = omega (arith, sound.height);
    symmetric = refl;
    listed = part_is_sound b h q false false whole.list sound.listed some (λ e. absurd (false≢true e));
  }

  -- an empty part has a block of zeros
  pub empty_part_is_zero : (q : ℕ) → part_in b h whole q ≡ [] → peak_of (block_of_spots (side_of b h) (part_in b h whole q)) ≡ 0
  empty_part_is_zero q none =
      ap (λ spots. peak_of (block_of_spots (side_of b h) spots)) none ∙ peak-zeros (side_of b h) (side_of b h)

  -- another part has not
  pub full_part_is_not_zero : (q : ℕ) → 1 ≤ length (part_in b h whole q) → peak_of (block_of_spots (side_of b h) (part_in b h whole q)) ≡ 0 → ⊥
  full_part_is_not_zero q some =
      sound_some b h false (portion_of whole (part_in b h whole q)) (portion_sound q some)

  -- so a part has an entry exactly where its block has a number other than 0
  pub has_spot_is : (q : ℕ) → has_spot (part_in b h whole q) ≡ not (peak_of (block_of_spots (side_of b h) (part_in b h whole q)) == 0)
  has_spot_is q =
      ap not
      (⊎_elim
      (λ (none : part_in b h whole q ≡ []). eq-eqb (length (part_in b h whole q)) 0 (ap length none) ∙ sym (eq-eqb (peak_of (block_of_spots (side_of b h) (part_in b h whole q))) 0 (empty_part_is_zero q none)))
      (λ (some : 1 ≤ length (part_in b h whole q)). ne_eqb (length (part_in b h whole q)) 0 (λ none. omega arith) ∙ sym (ne_eqb (peak_of (block_of_spots (side_of b h) (part_in b h whole q))) 0 (full_part_is_not_zero q some)))
      (empty_or_not (part_in b h whole q)))

  -- and its canonical tree is there exactly then
  pub part_there : (q : ℕ) → is_there (part_tree b h whole q) ≡ has_spot (part_in b h whole q)
  part_there q = is_there_canonical b h (block_of_spots (side_of b h) (part_in b h whole q)) ∙ sym (has_spot_is q)

  -- the canonical tree of an empty part is nothing
  pub empty_part : (q : ℕ) → part_in b h whole q ≡ [] → part_tree b h whole q ≡ Nothing
  empty_part q none = canonical_zero b h (block_of_spots (side_of b h) (part_in b h whole q)) (empty_part_is_zero q none)

  -- a part that is not empty is a sound list of its own
  pub part_fits : (q : ℕ) → 1 ≤ length (part_in b h whole q) → FitsAt b Assign h (list_tree (portion_of whole (part_in b h whole q)) ∷ [])
  part_fits q some = (portion_sound q some, refl, refl, refl, refl)

  -- the canonical tree of a part's block is canonical
  pub part_canonical : (q : ℕ) → IsCanonical b h (part_tree b h whole q)
  part_canonical q =
      ⊎_elim
      (λ (none : part_in b h whole q ≡ []). subst (IsCanonical b h) (sym (empty_part q none)) (nothing_is_canonical b h))
      (λ (some : 1 ≤ length (part_in b h whole q)). canonical_of_block b h (block_of_spots (side_of b h) (part_in b h whole q))
      (block_of_sound b h false (portion_of whole (part_in b h whole q)) (portion_sound q some)))
      (empty_or_not (part_in b h whole q))

  -- the trees of the parts fit a join
  pub parts_fit_join : FitsAt b Join (suc h) (part_tree b h whole 0 ∷ part_tree b h whole 1 ∷ part_tree b h whole 2 ∷ part_tree b h whole 3 ∷ [])
  parts_fit_join =
      fits_join b h (part_tree b h whole 0) (part_tree b h whole 1) (part_tree b h whole 2) (part_tree b h whole 3)
      (part_canonical 0) (part_canonical 1) (part_canonical 2) (part_canonical 3)

-- the canonical tree of a part's block is the goal of the assignment of the part
pub part_goal : (b h : ℕ) (whole : Entries) (q : ℕ) → goal_at b Assign h (list_tree (portion_of whole (part_in b h whole q)) ∷ []) ≡ part_tree b h whole q
part_goal b h whole q = refl

-- and it stands for the part's block
pub block_of_part : (b h : ℕ) (whole : Entries) (q : ℕ) → block_of b h (part_tree b h whole q) ≡ block_of_spots (side_of b h) (part_in b h whole q)
block_of_part b h whole q =
    block_of_canonical b h (block_of_spots (side_of b h) (part_in b h whole q)) (spots_whole (side_of b h) (part_in b h whole q)) (spots_tall (side_of b h) (part_in b h whole q)) refl

-- the goal of an assignment is the goal of the join of its parts
pub assign_on_parts : (b h : ℕ) (whole : Entries) → whole.symmetric ≡ false → goal_at b Assign (suc h) (list_tree whole ∷ []) ≡ goal_at b Join (suc h) (part_tree b h whole 0 ∷ part_tree b h whole 1 ∷ part_tree b h whole 2 ∷ part_tree b h whole 3 ∷ [])
assign_on_parts b h whole general =
    ap (λ mirrored. canonical b (suc h) (block_listed mirrored (side_of b (suc h)) whole.list)) general
    ∙ sym (join_goal b h (part_tree b h whole 0) (part_tree b h whole 1) (part_tree b h whole 2) (part_tree b h whole 3)
    ∙ ap (canonical b (suc h))
    (joined_same (block_of b h (part_tree b h whole 0)) (block_of b h (part_tree b h whole 1)) (block_of b h (part_tree b h whole 2)) (block_of b h (part_tree b h whole 3)) _ _ _ _
    (block_of_part b h whole 0) (block_of_part b h whole 1) (block_of_part b h whole 2) (block_of_part b h whole 3)
    ∙ joined_parts b h whole.list))

-- ---- What the code needs of sound entries, and what it makes

-- sound entries are sound at their own leaf
pub sound_at_leaf : (b h : ℕ) (e : Entries) → AreSoundEntries b h false e → AreSoundEntries e.leaf h false e
sound_at_leaf b h e sound = subst (λ leaf. AreSoundEntries leaf h false e) (sym sound.leaf) sound

-- the leaf block of sound entries is what they stand for
pub leaf_is : (b : ℕ) (e : Entries) → AreSoundEntries b 0 false e → block_of_spots e.leaf e.list ≡ block_of b 0 (list_tree e)
leaf_is b e sound = ap (λ side. block_of_spots side e.list) (sound.leaf ∙ sym (side_low b)) ∙ ap (λ mirrored. block_listed mirrored (side_of b 0) e.list) (sym sound.symmetric)

module _ (b h : ℕ) (whole : Entries) (sound : AreSoundEntries b (suc h) false whole) where
  -- an entry lies in one of them
  pub some_part : (has_spot (part_in b h whole 0) || has_spot (part_in b h whole 1) || has_spot (part_in b h whole 2) || has_spot (part_in b h whole 3)) ≡ true
  some_part =
      sym (ap₂ ◌||◌ (ap₂ ◌||◌ (ap₂ ◌||◌ (part_there b h whole sound 0) (part_there b h whole sound 1)) (part_there b h whole sound 2)) (part_there b h whole sound 3))
      ∙ sym (join_there b h (part_tree b h whole 0) (part_tree b h whole 1) (part_tree b h whole 2) (part_tree b h whole 3) (part_canonical b h whole sound 0) (part_canonical b h whole sound 1) (part_canonical b h whole sound 2) (part_canonical b h whole sound 3))
      ∙ ap is_there (sym (join_goal b h (part_tree b h whole 0) (part_tree b h whole 1) (part_tree b h whole 2) (part_tree b h whole 3)) ∙ sym (assign_on_parts b h whole sound.symmetric))
      ∙ is_there_some b (suc h) (block_listed whole.symmetric (side_of b (suc h)) whole.list) (sound_some b (suc h) false whole sound)
