-- What an assignment of height at least 1 answers by its plan is sound.
use Rattle.std.proofs.Common.{◌≡◌, ℕ, suc, ◌+◌, ◌-◌, ◌*◌, ◌<◌, ◌≤◌, true, false, not, ◌||◌, List, [], ◌∷◌, length, map, refl, sym, ap, ap₂, ◌∙◌, subst, arith, ne_eqb}
use Rattle.std.specs.Option.{is_some}
use Rattle.std.proofs.lemmas.Bool.{false≢true, le-leb}
use Rattle.chunk_codec.specs.declared.plain.Spot.{Spot}
use Rattle.task_types.specs.Tree.{Tree, Root}
use Rattle.task_types.specs.Presence.{Presence, presence_of}
use Rattle.task_types.specs.Places.{Shape, IsOneOf}
use Rattle.task_types.specs.Sound.{IsSound}
use Rattle.task_plans.specs.declared.portions.Portions.{Portions}
use Rattle.task_plans.specs.Portions.{chosen_in, AreSound}
use Rattle.task_plans.specs.Plans.{planned_shape}
use Rattle.task_plans.specs.Sketches.{planned_outcome}
use Rattle.task_plans.specs.Steps.{PortionGives}
use Rattle.task_plans.proofs.ForOthers.{plan_is_sound, choice_among}
use Rattle.quad_matrix.specs.declared.chunk.MatChunk.{MatChunk}
use Rattle.quad_matrix.specs.declared.chunk.MatChunk.TheVariants as chunk
use Rattle.quad_matrix.specs.declared.chunk.Entries.{Entries}
use Rattle.quad_matrix.specs.declared.kind.What.TheVariants.{Assign}
use Rattle.quad_matrix.specs.declared.kind.MatKind.{MatKind}
use Rattle.quad_matrix.specs.Chunks.{arity_of, IsSoundChunk}
use Rattle.quad_matrix.specs.Spots.{AreSoundEntries, part_of}
use Rattle.quad_matrix.specs.Goals.{kind_of, kind_at, goal_at, FitsAt}
use Rattle.quad_matrix.specs.Matrices.{matrices}
use Rattle.quad_matrix.specs.Plans.{plan_of}
use Rattle.quad_matrix.specs.Portions.{listed, entries_in, portions_of}
use Rattle.quad_matrix.proofs.ForOthers.{goal_any, half_is, has_spot, portion_of, list_tree, part_in, part_tree, part_fits, part_goal, empty_part, parts_fit_join, some_part, assign_on_parts, portions_are_sound}
use Rattle.matrix_tasks.proofs.Joins.{shapes_open}
use Rattle.matrix_tasks.proofs.ByPlan.{task_gives, join_gives, parts_below}

-- a list with an entry has one
pub has_first : (spot : Spot) (spots : List Spot) → has_spot (spot ∷ spots) ≡ true
has_first spot spots = ap not (ne_eqb (length (spot ∷ spots)) 0 (λ e. absurd (omega arith)))

-- and is a content
listed_some : (leaf height : ℕ) (spots : List Spot) → is_some (listed leaf height false spots) ≡ has_spot spots
listed_some leaf height [] = refl
listed_some leaf height (spot ∷ spots) = sym (has_first spot spots)

module _ (b h : ℕ) (whole : Entries) (sound : AreSoundEntries b (suc h) false whole) where
  -- the entries in a quadrant
  part_is : (q : ℕ) → part_in b h whole q ≡ entries_in whole q
  part_is q = ap (λ half. part_of half q whole.list) (sym (half_is b h false whole sound))

  -- a part gives its tree
  part_gives : (rank q : ℕ) (spots : List Spot) → h ≤ 16 → 4 * h + 1 < rank → part_in b h whole q ≡ spots
      → PortionGives arity_of matrices rank (kind_of Assign h) (listed whole.leaf (whole.height - 1) false spots) (part_tree b h whole q)
  part_gives rank q [] low lower e = sym (empty_part b h whole sound q e)
  part_gives rank q (spot ∷ spots) low lower e =
      let tree : Tree MatChunk = list_tree (portion_of whole (spot ∷ spots)) in
      let is : list_tree (portion_of whole (part_in b h whole q)) ≡ tree = ap (λ (spots : List Spot). list_tree (portion_of whole spots)) e in
      let some : 1 ≤ length (part_in b h whole q) = omega (arith, ap length e) in
      let fits : FitsAt b Assign h (tree ∷ []) = subst (λ (tree : Tree MatChunk). FitsAt b Assign h (tree ∷ [])) is (part_fits b h whole sound q some) in
      (refl, task_gives b Assign h rank (tree ∷ []) (part_tree b h whole q) sound.listed.leaf_high low lower fits (ap (λ (tree : Tree MatChunk). goal_at b Assign h (tree ∷ [])) (sym is) ∙ part_goal b h whole q))

  -- the portions that an assignment takes are sound
  pub portions_sound : AreSound IsSoundChunk (portions_of whole (plan_of Assign).parts)
  portions_sound =
      portions_are_sound b h false whole (plan_of Assign).parts sound
      (record { upper_left = λ e. absurd (false≢true e); upper_right = refl; lower_left = refl; lower_right = λ e. absurd (false≢true e) })

  -- an entry lies in one of them
  some_chosen : (is_some (listed whole.leaf (whole.height - 1) false (entries_in whole 0)) || is_some (listed whole.leaf (whole.height - 1) false (entries_in whole 1)) || is_some (listed whole.leaf (whole.height - 1) false (entries_in whole 2)) || is_some (listed whole.leaf (whole.height - 1) false (entries_in whole 3))) ≡ true
  some_chosen =
      let there : (q : ℕ) → is_some (listed whole.leaf (whole.height - 1) false (entries_in whole q)) ≡ has_spot (part_in b h whole q) = λ q. listed_some whole.leaf (whole.height - 1) (entries_in whole q) ∙ ap has_spot (sym (part_is q)) in
      ap₂ ◌||◌ (ap₂ ◌||◌ (ap₂ ◌||◌ (there 0) (there 1)) (there 2)) (there 3) ∙ some_part b h whole sound

  -- an assignment of a list of entries
  pub list_by_plan : (x0 x1 x2 x3 : Tree MatChunk) → suc h ≤ 16 → FitsAt b Assign (suc h) (Root (chunk.Entries whole) x0 x1 x2 x3 ∷ [])
      → IsSound arity_of matrices (kind_of Assign (suc h)) (Root (chunk.Entries whole) x0 x1 x2 x3 ∷ []) (planned_outcome kind_at (suc h) (plan_of Assign) (portions_of whole (plan_of Assign).parts) (map presence_of (Root (chunk.Entries whole) x0 x1 x2 x3 ∷ [])))
  list_by_plan x0 x1 x2 x3 low fits =
      let trees : List (Tree MatChunk) = Root (chunk.Entries whole) x0 x1 x2 x3 ∷ [] in
      let known : List Presence = map presence_of trees in
      let kind : MatKind = kind_of Assign (suc h) in
      let portions : Portions MatChunk = portions_of whole (plan_of Assign).parts in
      let tree : ℕ → Tree MatChunk = part_tree b h whole in
      let four : List (Tree MatChunk) = tree 0 ∷ tree 1 ∷ tree 2 ∷ tree 3 ∷ [] in
      let gives : (q : ℕ) → PortionGives arity_of matrices (matrices.rank kind) (kind_of Assign h) (listed whole.leaf (whole.height - 1) false (entries_in whole q)) (tree q) = λ q. part_gives (matrices.rank kind) q (entries_in whole q) (omega arith) (omega arith) (part_is q) in
      let shape : Presence → Shape MatKind = planned_shape kind_at (suc h) (plan_of Assign) known in
      let some = λ (q : ℕ). is_some (listed whole.leaf (whole.height - 1) false (entries_in whole q)) in
      plan_is_sound arity_of matrices kind_at (suc h) kind (plan_of Assign) portions trees (record {
        few = omega arith;
        trees = four;
        parts = parts_below (matrices.rank kind) h trees portions (plan_of Assign).parts four (gives 0, (gives 1, (gives 2, (gives 3, tt))));
        ending = join_gives b h kind trees (tree 0) (tree 1) (tree 2) (tree 3) sound.listed.leaf_high low (omega arith)
            (parts_fit_join b h whole sound)
            (sym (assign_on_parts b h whole sound.symmetric) ∙ sym (goal_any b Assign (suc h) trees fits));
        chosen = chosen_in portions;
        agree = (refl, (refl, (refl, (refl, tt))));
        planned = subst (IsOneOf (shape (chosen_in portions))) (sym (shapes_open Assign (suc h) known refl (le-leb (suc h) 16 low)))
            (choice_among shape (plan_of Assign).parts (some 0) (some 1) (some 2) (some 3) some_chosen (λ e. refl) (λ e. refl) (λ e. refl) (λ e. refl) refl);
      })
