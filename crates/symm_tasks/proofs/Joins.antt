-- What a symmetric join answers is sound.
use Rattle.std.proofs.Common.{◌≡◌, ℕ, zero, suc, ◌^◌, ◌≤◌, max, Bool, true, false, not, List, [], ◌∷◌, map, refl, sym, ap, ◌∙◌, subst, inl, ⊎_elim, arith}
use Rattle.std.specs.Prelude.{if◌then◌else◌, nat_le}
use Rattle.std.proofs.lemmas.Bool.{cond-true, cond-false, le-leb, false≢true}
use Rattle.task_types.specs.declared.outcome.Place.{Place}
use Rattle.task_types.specs.declared.outcome.Place.TheVariants.{Null, Chunk}
use Rattle.task_types.specs.declared.outcome.Outcome.{Outcome}
use Rattle.task_types.specs.declared.inputs.Inputs.{Inputs}
use Rattle.task_types.specs.Tree.{Tree, Nothing, Root}
use Rattle.task_types.specs.Presence.{Presence, presence_of, all_present}
use Rattle.task_types.specs.Shown.{view_of, Shows}
use Rattle.task_types.specs.Places.{Shape, shape_from, filled, IsOneOf}
use Rattle.task_types.specs.Sound.{IsSound}
use Rattle.task_types.proofs.Shown.{presences_in-shown}
use Rattle.task_plans.specs.Plans.{given_shape, input_place, are_null}
use Rattle.task_plans.specs.Outcomes.{given, one_chunk}
use Rattle.task_plans.proofs.ForOthers.{true_or_false, both_pass, input_given, given_sound, node_sound, begun}
use Rattle.quad_matrix.specs.declared.chunk.MatChunk.{MatChunk}
use Rattle.quad_matrix.specs.declared.chunk.MatChunk.TheVariants.{SymNode}
use Rattle.quad_matrix.specs.declared.kind.What.{What}
use Rattle.quad_matrix.specs.declared.kind.What.TheVariants.{SJoin}
use Rattle.quad_matrix.specs.declared.kind.MatKind.{MatKind}
use Rattle.quad_matrix.specs.Chunks.{arity_of}
use Rattle.quad_matrix.specs.Blocks.{block_of, IsCanonicalSymmetric}
use Rattle.quad_matrix.specs.Goals.{kind_of, goal_of, FitsAt, IsDefined}
use Rattle.quad_matrix.specs.Matrices.{matrices}
use Rattle.quad_matrix.specs.Plans.{shapes_of, symmetric_joined_shape, symmetric_join_places}
use Rattle.quad_matrix.proofs.ForOthers.{any_there, tree_peak, peak_of_tree, peak_of_symmetric_tree, peak_small, symmetric_root_some, symmetric_join_peak, symmetric_join_nothing, symmetric_join_some, symmetric_join_goal, symmetric_join_fits, goal_any}
use Rattle.matrix_tasks.specs.Answers.{peak_shown}
use Rattle.matrix_tasks.proofs.ForOthers.{shapes_open, shown_peak, tree_small, tree_some}
use Rattle.symm_tasks.specs.Answers.{greatest_of_three, SymmetricNodeFits, symmetric_join_answer}

-- ---- Plans

-- of the same shapes in both cases
same_shapes : (test : Bool) (shapes : List (Shape MatKind)) → (if test then shapes else shapes) ≡ shapes
same_shapes true shapes = refl
same_shapes false shapes = refl

join_shapes : (h : ℕ) (x y z : Tree MatChunk) → suc h ≤ 16
    → shapes_of (kind_of SJoin (suc h)) (map presence_of (x ∷ y ∷ z ∷ [])) ≡ symmetric_joined_shape (map presence_of (x ∷ y ∷ z ∷ [])) ∷ []
join_shapes h x y z low =
    let known : List Presence = map presence_of (x ∷ y ∷ z ∷ []) in
    shapes_open SJoin (suc h) known refl (both_pass (nat_le 1 (suc h)) (nat_le (suc h) 16) (le-leb 1 (suc h) (omega arith)) (le-leb (suc h) 16 low))
    ∙ same_shapes (all_present known) (symmetric_joined_shape known ∷ [])

-- ---- Places and peaks

-- all places are null where no tree is there
nulls_where_none : (x y z : Tree MatChunk) → are_null (symmetric_join_places (map presence_of (x ∷ y ∷ z ∷ []))) ≡ not (any_there x y z Nothing)
nulls_where_none Nothing Nothing Nothing = refl
nulls_where_none (Root c a b d e) y z = refl
nulls_where_none Nothing (Root c a b d e) z = refl
nulls_where_none Nothing Nothing (Root c a b d e) = refl

not_not : (b : Bool) → not (not b) ≡ b
not_not true = refl
not_not false = refl

-- the greatest peak of three trees
abbrev three_peak : Tree MatChunk → Tree MatChunk → Tree MatChunk → ℕ
three_peak x y z = max (max (tree_peak x) (tree_peak y)) (tree_peak z)

three_peaks : (inputs : Inputs MatChunk) (x y z : Tree MatChunk) → Shows inputs (x ∷ y ∷ z ∷ []) → greatest_of_three inputs ≡ three_peak x y z
three_peaks inputs x y z s =
    let e = rw s.0 at s.1 in
    let first : inputs.first ≡ view_of x = cc in
    let second : inputs.second ≡ view_of y = cc in
    let third : inputs.third ≡ view_of z = cc in
    cc (ap peak_shown first ∙ shown_peak x, ap peak_shown second ∙ shown_peak y, ap peak_shown third ∙ shown_peak z)

-- ---- The outcome

-- three trees, of which none is there
none_sound : (b h : ℕ) (x y z : Tree MatChunk) → suc h ≤ 16 → FitsAt b SJoin (suc h) (x ∷ y ∷ z ∷ [])
    → are_null (symmetric_join_places (map presence_of (x ∷ y ∷ z ∷ []))) ≡ true
    → IsSound arity_of matrices (kind_of SJoin (suc h)) (x ∷ y ∷ z ∷ []) (given Null)
none_sound b h x y z low fits null =
    let trees : List (Tree MatChunk) = x ∷ y ∷ z ∷ [] in
    let known : List Presence = map presence_of trees in
    let kind : MatKind = kind_of SJoin (suc h) in
    let none : any_there x y z Nothing ≡ false = sym (not_not (any_there x y z Nothing)) ∙ ap not (sym (nulls_where_none x y z) ∙ null) in
    let goal : goal_of kind trees ≡ Nothing = goal_any b SJoin (suc h) trees fits ∙ symmetric_join_goal b h x y z ∙ symmetric_join_nothing b h x y z none in
    let shape : given_shape Null ≡ symmetric_joined_shape known = sym (cond-true (are_null (symmetric_join_places known)) (given_shape Null) (shape_from (filled (symmetric_join_places known) ∷ []) [] (Chunk 0)) null) in
    given_sound arity_of matrices kind trees Null refl (sym goal) (subst (IsOneOf (given_shape Null)) (sym (join_shapes h x y z low)) (inl shape))

-- three trees, of which one is there
some_sound : (b h : ℕ) (x y z : Tree MatChunk) → suc h ≤ 16 → FitsAt b SJoin (suc h) (x ∷ y ∷ z ∷ [])
    → are_null (symmetric_join_places (map presence_of (x ∷ y ∷ z ∷ []))) ≡ false
    → IsSound arity_of matrices (kind_of SJoin (suc h)) (x ∷ y ∷ z ∷ []) (one_chunk (SymNode (suc h) (symmetric_join_peak b h x y z)) (symmetric_join_places (map presence_of (x ∷ y ∷ z ∷ []))))
some_sound b h x y z low fits null =
    let trees : List (Tree MatChunk) = x ∷ y ∷ z ∷ [] in
    let known : List Presence = map presence_of trees in
    let kind : MatKind = kind_of SJoin (suc h) in
    let node : MatChunk = SymNode (suc h) (symmetric_join_peak b h x y z) in
    let some : any_there x y z Nothing ≡ true = sym (not_not (any_there x y z Nothing)) ∙ ap not (sym (nulls_where_none x y z) ∙ null) in
    let three = symmetric_join_fits b h x y z fits in
    let goal : goal_of kind trees ≡ Root node x y z Nothing = goal_any b SJoin (suc h) trees fits ∙ symmetric_join_goal b h x y z ∙ symmetric_join_some b h x y z three.0 three.1 three.2 some in
    let shape : shape_from (filled (symmetric_join_places known) ∷ []) [] (Chunk 0) ≡ symmetric_joined_shape known = sym (cond-false (are_null (symmetric_join_places known)) (given_shape Null) (shape_from (filled (symmetric_join_places known) ∷ []) [] (Chunk 0)) null) in
    let rank : ℕ = matrices.rank kind in
    let p0 : Place = input_place known 0 in
    let p1 : Place = input_place known 1 in
    let s1 = input_given arity_of matrices rank trees [] [] 0 (begun arity_of matrices rank trees) in
    let s2 = input_given arity_of matrices rank trees (p0 ∷ []) (x ∷ []) 1 s1 in
    let s3 = input_given arity_of matrices rank trees (p0 ∷ p1 ∷ []) (x ∷ y ∷ []) 2 s2 in
    node_sound arity_of matrices kind trees node (symmetric_join_places known) trees (omega arith) refl (sym goal) (subst (IsOneOf (shape_from (filled (symmetric_join_places known) ∷ []) [] (Chunk 0))) (sym (join_shapes h x y z low)) (inl shape)) s3

-- their peaks are those of their blocks
block_peaks : (b h : ℕ) (x y z : Tree MatChunk) → FitsAt b SJoin (suc h) (x ∷ y ∷ z ∷ []) → three_peak x y z ≡ symmetric_join_peak b h x y z
block_peaks b h x y z fits =
    let three = symmetric_join_fits b h x y z fits in
    cc (peak_of_symmetric_tree b h x three.0, peak_of_tree b h y three.1, peak_of_symmetric_tree b h z three.2)

join_at : (b h : ℕ) (inputs : Inputs MatChunk) (x y z : Tree MatChunk) → suc h ≤ 16 → FitsAt b SJoin (suc h) (x ∷ y ∷ z ∷ [])
    → Shows inputs (x ∷ y ∷ z ∷ [])
    → IsSound arity_of matrices (kind_of SJoin (suc h)) (x ∷ y ∷ z ∷ []) (symmetric_join_answer (suc h) inputs)
join_at b h inputs x y z low fits shows =
    let trees : List (Tree MatChunk) = x ∷ y ∷ z ∷ [] in
    let known : List Presence = map presence_of trees in
    let kind : MatKind = kind_of SJoin (suc h) in
    let sound = λ (outcome : Outcome MatChunk MatKind). IsSound arity_of matrices kind trees outcome in
    let peaks : greatest_of_three inputs ≡ symmetric_join_peak b h x y z = three_peaks inputs x y z shows ∙ block_peaks b h x y z fits in
    let node : MatChunk = SymNode (suc h) (symmetric_join_peak b h x y z) in
    let answer : symmetric_join_answer (suc h) inputs ≡ (if are_null (symmetric_join_places known) then given Null else one_chunk node (symmetric_join_places known)) = ap (λ (known : List Presence). if are_null (symmetric_join_places known) then given Null else one_chunk (SymNode (suc h) (greatest_of_three inputs)) (symmetric_join_places known)) (presences_in-shown inputs trees shows) ∙ ap (λ peak. if are_null (symmetric_join_places known) then given Null else one_chunk (SymNode (suc h) peak) (symmetric_join_places known)) peaks in
    subst sound (sym answer) (⊎_elim
    (λ e. subst sound (sym (cond-true (are_null (symmetric_join_places known)) (given Null) (one_chunk node (symmetric_join_places known)) e)) (none_sound b h x y z low fits e))
    (λ e. subst sound (sym (cond-false (are_null (symmetric_join_places known)) (given Null) (one_chunk node (symmetric_join_places known)) e)) (some_sound b h x y z low fits e))
    (true_or_false (are_null (symmetric_join_places known))))

-- a join has at least height 1
join_low : (b h : ℕ) (inputs : Inputs MatChunk) (x y z : Tree MatChunk) → h ≤ 16 → FitsAt b SJoin h (x ∷ y ∷ z ∷ [])
    → Shows inputs (x ∷ y ∷ z ∷ [])
    → IsSound arity_of matrices (kind_of SJoin h) (x ∷ y ∷ z ∷ []) (symmetric_join_answer h inputs)
join_low b zero inputs x y z low fits shows = let high : 1 ≤ 0 = fits.0 in absurd (omega arith)
join_low b (suc h) inputs x y z low fits shows = join_at b h inputs x y z low fits shows

join_sound_of : (height : ℕ) (inputs : Inputs MatChunk) → (trees : List (Tree MatChunk)) → Shows inputs trees
    → IsDefined (kind_of SJoin height) trees
    → IsSound arity_of matrices (kind_of SJoin height) trees (symmetric_join_answer height inputs)
join_sound_of height inputs [] shows d = absurd d.fits
join_sound_of height inputs (x ∷ []) shows d = absurd d.fits
join_sound_of height inputs (x ∷ y ∷ []) shows d = absurd d.fits
join_sound_of height inputs (x ∷ y ∷ z ∷ []) shows d = join_low d.leaf height inputs x y z d.low d.fits shows
join_sound_of height inputs (x ∷ y ∷ z ∷ w ∷ trees) shows d = absurd d.fits

-- what a symmetric join answers is sound
pub join_sound : (what : What) (height : ℕ) (inputs : Inputs MatChunk) → what ≡ SJoin → (trees : List (Tree MatChunk)) → Shows inputs trees
    → IsDefined (kind_of what height) trees
    → IsSound arity_of matrices (kind_of what height) trees (symmetric_join_answer height inputs)
join_sound what height inputs e trees shows d =
    subst (λ (what : What). IsSound arity_of matrices (kind_of what height) trees (symmetric_join_answer height inputs)) (sym e)
    (join_sound_of height inputs trees shows (subst (λ (what : What). IsDefined (kind_of what height) trees) e d))

-- ---- The node

-- the peak of a canonical symmetric tree is small
symmetric_tree_small : (b h : ℕ) (t : Tree MatChunk) → IsCanonicalSymmetric b h t → tree_peak t ≤ 2 ^ 126
symmetric_tree_small b h t is = omega (arith, peak_of_symmetric_tree b h t is, peak_small _ (block_of b h t) is.sized)

-- and is not 0 where the tree is there
symmetric_tree_some : (b h : ℕ) (c : MatChunk) (x y z w : Tree MatChunk) → IsCanonicalSymmetric b h (Root c x y z w) → 1 ≤ tree_peak (Root c x y z w)
symmetric_tree_some b h c x y z w is = lemma (tree_peak (Root c x y z w)) refl
  where
    lemma : (k : ℕ) → tree_peak (Root c x y z w) ≡ k → 1 ≤ tree_peak (Root c x y z w)
    lemma zero e = absurd (symmetric_root_some b h (Root c x y z w) is refl (sym (peak_of_symmetric_tree b h (Root c x y z w) is) ∙ e))
    lemma (suc k) e = omega arith

peak_there : (b h : ℕ) (x y z : Tree MatChunk) → FitsAt b SJoin (suc h) (x ∷ y ∷ z ∷ [])
    → are_null (symmetric_join_places (map presence_of (x ∷ y ∷ z ∷ []))) ≡ false → 1 ≤ three_peak x y z
peak_there b h (Root c x0 x1 x2 x3) y z fits some =
    omega (arith, symmetric_tree_some b h c x0 x1 x2 x3 (symmetric_join_fits b h (Root c x0 x1 x2 x3) y z fits).0)
peak_there b h Nothing (Root c x0 x1 x2 x3) z fits some =
    omega (arith, tree_some b h c x0 x1 x2 x3 (symmetric_join_fits b h Nothing (Root c x0 x1 x2 x3) z fits).1)
peak_there b h Nothing Nothing (Root c x0 x1 x2 x3) fits some =
    omega (arith, symmetric_tree_some b h c x0 x1 x2 x3 (symmetric_join_fits b h Nothing Nothing (Root c x0 x1 x2 x3) fits).2)
peak_there b h Nothing Nothing Nothing fits some = absurd (false≢true (sym some))

node_at : (b h : ℕ) (inputs : Inputs MatChunk) (x y z : Tree MatChunk) → h ≤ 16 → FitsAt b SJoin h (x ∷ y ∷ z ∷ []) → Shows inputs (x ∷ y ∷ z ∷ [])
    → SymmetricNodeFits h inputs
node_at b zero inputs x y z low fits shows some = let none : 1 ≤ 0 = fits.0 in absurd (omega arith)
node_at b (suc h) inputs x y z low fits shows some =
    let three = symmetric_join_fits b h x y z fits in
    let peak : greatest_of_three inputs ≡ three_peak x y z = three_peaks inputs x y z shows in
    let there : are_null (symmetric_join_places (map presence_of (x ∷ y ∷ z ∷ []))) ≡ false = ap (λ known. are_null (symmetric_join_places known)) (sym (presences_in-shown inputs (x ∷ y ∷ z ∷ []) shows)) ∙ some in
    let least : 1 ≤ three_peak x y z = peak_there b h x y z fits there in
    let most : three_peak x y z ≤ 2 ^ 126 = omega (arith, symmetric_tree_small b h x three.0, tree_small b h y three.1, symmetric_tree_small b h z three.2) in
    record { low = omega arith; high = low; range = record { some = omega arith; small = omega arith } }

node_fits_of : (height : ℕ) (inputs : Inputs MatChunk) → (trees : List (Tree MatChunk)) → Shows inputs trees
    → IsDefined (kind_of SJoin height) trees → SymmetricNodeFits height inputs
node_fits_of height inputs [] shows d = absurd d.fits
node_fits_of height inputs (x ∷ []) shows d = absurd d.fits
node_fits_of height inputs (x ∷ y ∷ []) shows d = absurd d.fits
node_fits_of height inputs (x ∷ y ∷ z ∷ []) shows d = node_at d.leaf height inputs x y z d.low d.fits shows
node_fits_of height inputs (x ∷ y ∷ z ∷ w ∷ trees) shows d = absurd d.fits

-- a symmetric node over inputs of which one is there is sound
pub node_fits : (what : What) (height : ℕ) (inputs : Inputs MatChunk) → what ≡ SJoin → (trees : List (Tree MatChunk)) → Shows inputs trees
    → IsDefined (kind_of what height) trees → SymmetricNodeFits height inputs
node_fits what height inputs e trees shows d =
    node_fits_of height inputs trees shows (subst (λ (what : What). IsDefined (kind_of what height) trees) e d)
