-- What a symmetric assignment of height at least 1 answers by its plan is sound.
use Rattle.std.specs.Prelude.{◌==◌, cond}
use Rattle.std.proofs.Common.{◌≡◌, ℕ, suc, ◌+◌, ◌-◌, ◌*◌, ◌<◌, ◌≤◌, Bool, true, false, ◌||◌, List, [], ◌∷◌, length, map, refl, sym, ap, ap₂, ◌∙◌, subst, arith, ◌⊎◌, inl, inr, ⊎_elim}
use Rattle.std.specs.Option.{is_some}
use Rattle.std.specs.List.{filter, All}
use Rattle.std.proofs.lemmas.Bool.{false≢true, le-leb, lt-leb, eq-eqb, cases_lt}
use Rattle.std.proofs.lemmas.List.Elements.{All-head}
use Rattle.chunk_codec.specs.declared.plain.Spot.{Spot}
use Rattle.chunk_codec.specs.Spots.{side_of, IsUpper}
use Rattle.task_types.specs.Tree.{Tree, Nothing, Root}
use Rattle.task_types.specs.Presence.{Presence, Present, presence_of}
use Rattle.task_types.specs.Places.{Shape, IsOneOf}
use Rattle.task_types.specs.Sound.{IsSound}
use Rattle.task_plans.specs.declared.portions.Portions.{Portions}
use Rattle.task_plans.specs.Portions.{AreSound}
use Rattle.task_plans.specs.Plans.{planned_shape}
use Rattle.task_plans.specs.Sketches.{planned_outcome}
use Rattle.task_plans.specs.Steps.{PortionGives}
use Rattle.task_plans.proofs.ForOthers.{plan_is_sound, choice_among}
use Rattle.quad_matrix.specs.declared.chunk.MatChunk.{MatChunk}
use Rattle.quad_matrix.specs.declared.chunk.MatChunk.TheVariants as chunk
use Rattle.quad_matrix.specs.declared.chunk.Entries.{Entries}
use Rattle.quad_matrix.specs.declared.kind.What.TheVariants.{Assign, SAssign}
use Rattle.quad_matrix.specs.declared.kind.MatKind.{MatKind}
use Rattle.quad_matrix.specs.Chunks.{arity_of, IsSoundChunk}
use Rattle.quad_matrix.specs.Spots.{AreSoundEntries, part_of, moved, quadrant_of, block_of_spots, mirrored_block}
use Rattle.quad_matrix.specs.Blocks.{canonical, canonical_symmetric}
use Rattle.quad_matrix.specs.Goals.{kind_of, kind_at, goal_at, FitsAt}
use Rattle.quad_matrix.specs.Matrices.{matrices}
use Rattle.quad_matrix.specs.Plans.{plan_of}
use Rattle.quad_matrix.specs.Portions.{listed, entries_in, portions_of}
use Rattle.quad_matrix.proofs.ForOthers.{goal_any, half_is, canonical_zero, symmetric_zero, peak-zeros, list_tree, portion_of, part_in, has_spot, mirrored_portion_of, mirrored_part_tree, upper_part_tree, mirrored_parts_fit_join, symmetric_assign_on_parts, mirrored_part_fits, upper_part_fits, portions_are_sound}
use Rattle.matrix_tasks.proofs.ForOthers.{shapes_open, task_gives, parts_below, has_first}
use Rattle.symm_tasks.proofs.ByPlan.{symmetric_join_gives}

-- ---- Which parts have an entry

-- a list that has an entry is a content
listed_some : (leaf height : ℕ) (mirrored : Bool) (spots : List Spot) → is_some (listed leaf height mirrored spots) ≡ has_spot spots
listed_some leaf height mirrored [] = refl
listed_some leaf height mirrored (spot ∷ spots) = sym (has_first spot spots)

-- the quadrant of an entry, by whether it lies in the lower half and to the right
abbrev quadrant_by : Bool → Bool → ℕ
quadrant_by lower right = (cond lower 2 0) + (cond right 1 0)

-- an entry on the diagonal or above it does not lie in the lower left quadrant
upper_quadrant : (half : ℕ) (spot : Spot) → spot.row ≤ spot.column → ((quadrant_of half spot ≡ 0) ⊎ (quadrant_of half spot ≡ 1)) ⊎ (quadrant_of half spot ≡ 3)
upper_quadrant half spot upper =
    ⊎_elim
    (λ (r : spot.row < half). ⊎_elim
    (λ (c : spot.column < half). inl (inl (ap₂ quadrant_by (lt-leb half spot.row r) (lt-leb half spot.column c))))
    (λ (c : half ≤ spot.column). inl (inr (ap₂ quadrant_by (lt-leb half spot.row r) (le-leb half spot.column c))))
    (cases_lt spot.column half))
    (λ (r : half ≤ spot.row). inr (ap₂ quadrant_by (le-leb half spot.row r) (le-leb half spot.column (omega (arith, r, upper)))))
    (cases_lt spot.row half)

-- the part of the quadrant in which the first entry lies has an entry
first_in : (half q : ℕ) (spot : Spot) (spots : List Spot) → quadrant_of half spot ≡ q → has_spot (part_of half q (spot ∷ spots)) ≡ true
first_in half q spot spots lies =
    let rest : List Spot = filter (λ (spot : Spot). quadrant_of half spot == q) spots in
    ap (λ test. has_spot (map (moved half) (cond test (spot ∷ rest) rest))) (eq-eqb (quadrant_of half spot) q lies)
    ∙ has_first (moved half spot) (map (moved half) rest)

-- one of three tests, with one between them that fails
one_of_three : (a b d : Bool) → ((a ≡ true) ⊎ (b ≡ true)) ⊎ (d ≡ true) → (a || b || false || d) ≡ true
one_of_three true b d e = refl
one_of_three false true d e = refl
one_of_three false false true e = refl
one_of_three false false false e = absurd (⊎_elim (λ e. ⊎_elim (λ e. false≢true e) (λ e. false≢true e) e) (λ e. false≢true e) e)

-- a part on the diagonal or above it has an entry
some_upper_part : (half : ℕ) (spots : List Spot) → 1 ≤ length spots → All IsUpper spots
    → (has_spot (part_of half 0 spots) || has_spot (part_of half 1 spots) || false || has_spot (part_of half 3 spots)) ≡ true
some_upper_part half [] some all = absurd (omega (arith, some))
some_upper_part half (spot ∷ spots) some all =
    one_of_three (has_spot (part_of half 0 (spot ∷ spots))) (has_spot (part_of half 1 (spot ∷ spots))) (has_spot (part_of half 3 (spot ∷ spots)))
    (⊎_elim
    (λ e. inl (⊎_elim (λ e. inl (first_in half 0 spot spots e)) (λ e. inr (first_in half 1 spot spots e)) e))
    (λ e. inr (first_in half 3 spot spots e))
    (upper_quadrant half spot (All-head IsUpper spot spots all)))

-- ---- The parts

module _ (b h : ℕ) (whole : Entries) (sound : AreSoundEntries b (suc h) true whole) where
  -- the entries in a quadrant
  part_is : (q : ℕ) → part_in b h whole q ≡ entries_in whole q
  part_is q = ap (λ half. part_of half q whole.list) (sym (half_is b h true whole sound))

  -- the trees of empty parts are nothing
  no_mirrored_part : (q : ℕ) → part_in b h whole q ≡ [] → mirrored_part_tree b h whole q ≡ Nothing
  no_mirrored_part q none =
      ap (λ (spots : List Spot). canonical_symmetric b h (mirrored_block (side_of b h) spots)) none
      ∙ symmetric_zero b h (mirrored_block (side_of b h) []) (peak-zeros (side_of b h) (side_of b h))

  no_upper_part : part_in b h whole 1 ≡ [] → upper_part_tree b h whole ≡ Nothing
  no_upper_part none =
      ap (λ (spots : List Spot). canonical b h (block_of_spots (side_of b h) spots)) none
      ∙ canonical_zero b h (block_of_spots (side_of b h) []) (peak-zeros (side_of b h) (side_of b h))

  -- a part on the diagonal gives its tree: `fits` tells that one with an entry is a sound list
  mirrored_part_gives : (rank q : ℕ) (spots : List Spot) → h ≤ 16 → 4 * h + 1 < rank → part_in b h whole q ≡ spots
      → (1 ≤ length (part_in b h whole q) → FitsAt b SAssign h (list_tree (mirrored_portion_of whole (part_in b h whole q)) ∷ []))
      → PortionGives arity_of matrices rank (kind_of SAssign h) (listed whole.leaf (whole.height - 1) true spots) (mirrored_part_tree b h whole q)
  mirrored_part_gives rank q [] low lower e fits = sym (no_mirrored_part q e)
  mirrored_part_gives rank q (spot ∷ spots) low lower e fits =
      let tree : Tree MatChunk = list_tree (mirrored_portion_of whole (spot ∷ spots)) in
      let is : list_tree (mirrored_portion_of whole (part_in b h whole q)) ≡ tree = ap (λ (spots : List Spot). list_tree (mirrored_portion_of whole spots)) e in
      let some : 1 ≤ length (part_in b h whole q) = omega (arith, ap length e) in
      let part : FitsAt b SAssign h (tree ∷ []) = subst (λ (tree : Tree MatChunk). FitsAt b SAssign h (tree ∷ [])) is (fits some) in
      (refl, task_gives b SAssign h rank (tree ∷ []) (mirrored_part_tree b h whole q) sound.listed.leaf_high low lower part (ap (λ (tree : Tree MatChunk). goal_at b SAssign h (tree ∷ [])) (sym is)))

  -- the part above it gives its tree
  upper_part_gives : (rank : ℕ) (spots : List Spot) → h ≤ 16 → 4 * h + 1 < rank → part_in b h whole 1 ≡ spots
      → PortionGives arity_of matrices rank (kind_of Assign h) (listed whole.leaf (whole.height - 1) false spots) (upper_part_tree b h whole)
  upper_part_gives rank [] low lower e = sym (no_upper_part e)
  upper_part_gives rank (spot ∷ spots) low lower e =
      let tree : Tree MatChunk = list_tree (portion_of whole (spot ∷ spots)) in
      let is : list_tree (portion_of whole (part_in b h whole 1)) ≡ tree = ap (λ (spots : List Spot). list_tree (portion_of whole spots)) e in
      let some : 1 ≤ length (part_in b h whole 1) = omega (arith, ap length e) in
      let part : FitsAt b Assign h (tree ∷ []) = subst (λ (tree : Tree MatChunk). FitsAt b Assign h (tree ∷ [])) is (upper_part_fits b h whole sound some) in
      (refl, task_gives b Assign h rank (tree ∷ []) (upper_part_tree b h whole) sound.listed.leaf_high low lower part (ap (λ (tree : Tree MatChunk). goal_at b Assign h (tree ∷ [])) (sym is)))

  -- the portions that an assignment takes are sound
  pub portions_sound : AreSound IsSoundChunk (portions_of whole (plan_of SAssign).parts)
  portions_sound =
      portions_are_sound b h true whole (plan_of SAssign).parts sound
      (record { upper_left = λ e. refl; upper_right = refl; lower_left = refl; lower_right = λ e. refl })

  -- an entry lies in one of them
  some_chosen : (is_some (listed whole.leaf (whole.height - 1) true (entries_in whole 0)) || is_some (listed whole.leaf (whole.height - 1) false (entries_in whole 1)) || false || is_some (listed whole.leaf (whole.height - 1) true (entries_in whole 3))) ≡ true
  some_chosen =
      let there : (mirrored : Bool) (q : ℕ) → is_some (listed whole.leaf (whole.height - 1) mirrored (entries_in whole q)) ≡ has_spot (part_in b h whole q) = λ mirrored q. listed_some whole.leaf (whole.height - 1) mirrored (entries_in whole q) ∙ ap has_spot (sym (part_is q)) in
      ap₂ ◌||◌ (ap₂ ◌||◌ (ap₂ ◌||◌ (there true 0) (there false 1)) refl) (there true 3)
      ∙ some_upper_part (side_of b h) whole.list sound.listed.some (sound.listed.upper refl)

  -- an assignment of a list of entries
  pub list_by_plan : (x0 x1 x2 x3 : Tree MatChunk) → suc h ≤ 16 → FitsAt b SAssign (suc h) (Root (chunk.Entries whole) x0 x1 x2 x3 ∷ [])
      → IsSound arity_of matrices (kind_of SAssign (suc h)) (Root (chunk.Entries whole) x0 x1 x2 x3 ∷ []) (planned_outcome kind_at (suc h) (plan_of SAssign) (portions_of whole (plan_of SAssign).parts) (map presence_of (Root (chunk.Entries whole) x0 x1 x2 x3 ∷ [])))
  list_by_plan x0 x1 x2 x3 low fits =
      let trees : List (Tree MatChunk) = Root (chunk.Entries whole) x0 x1 x2 x3 ∷ [] in
      let known : List Presence = map presence_of trees in
      let kind : MatKind = kind_of SAssign (suc h) in
      let rank : ℕ = matrices.rank kind in
      let portions : Portions MatChunk = portions_of whole (plan_of SAssign).parts in
      let t0 : Tree MatChunk = mirrored_part_tree b h whole 0 in
      let t1 : Tree MatChunk = upper_part_tree b h whole in
      let t2 : Tree MatChunk = mirrored_part_tree b h whole 3 in
      let three : List (Tree MatChunk) = t0 ∷ t1 ∷ t2 ∷ [] in
      let shape : Presence → Shape MatKind = planned_shape kind_at (suc h) (plan_of SAssign) known in
      let some = λ (mirrored : Bool) (q : ℕ). is_some (listed whole.leaf (whole.height - 1) mirrored (entries_in whole q)) in
      let chosen : Presence = Present (some true 0) (some false 1) false (some true 3) in
      plan_is_sound arity_of matrices kind_at (suc h) kind (plan_of SAssign) portions trees (record {
        few = omega arith;
        trees = three;
        parts = parts_below rank h trees portions (plan_of SAssign).parts three (
          mirrored_part_gives rank 0 (entries_in whole 0) (omega arith) (omega arith) (part_is 0) (mirrored_part_fits b h whole sound false),
          (
            upper_part_gives rank (entries_in whole 1) (omega arith) (omega arith) (part_is 1),
            (mirrored_part_gives rank 3 (entries_in whole 3) (omega arith) (omega arith) (part_is 3) (mirrored_part_fits b h whole sound true), tt),
          ),
        );
        ending = symmetric_join_gives b h kind trees t0 t1 t2 sound.listed.leaf_high low (omega arith)
            (mirrored_parts_fit_join b h whole sound)
            (sym (symmetric_assign_on_parts b h whole sound) ∙ sym (goal_any b SAssign (suc h) trees fits));
        chosen = chosen;
        agree = (refl, (refl, (refl, tt)));
        planned = subst (IsOneOf (shape chosen)) (sym (shapes_open SAssign (suc h) known refl (le-leb (suc h) 16 low)))
            (choice_among shape (plan_of SAssign).parts (some true 0) (some false 1) false (some true 3) some_chosen (λ e. refl) (λ e. refl) (λ e. absurd (false≢true e)) (λ e. refl) refl);
      })
