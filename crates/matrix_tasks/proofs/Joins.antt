-- What a join answers is sound.
use Rattle.std.proofs.Common.{◌≡◌, ℕ, zero, suc, ◌≤◌, max, Bool, true, false, ◌&&◌, not, ◌==◌, List, [], ◌∷◌, length, map, refl, sym, ap, ◌∙◌, subst, inl, ⊎_elim, arith}
use Rattle.std.specs.Prelude.{if◌then◌else◌, nat_le}
use Rattle.std.proofs.lemmas.Bool.{cond-true, cond-false, le-leb}
use Rattle.task_types.specs.declared.outcome.Place.{Place}
use Rattle.task_types.specs.declared.outcome.Place.TheVariants.{Null, Chunk}
use Rattle.task_types.specs.declared.outcome.Outcome.{Outcome}
use Rattle.task_types.specs.declared.inputs.Inputs.{Inputs}
use Rattle.task_types.specs.Tree.{Tree, Nothing, Root}
use Rattle.task_types.specs.Presence.{Presence, presence_of, all_present}
use Rattle.task_types.specs.Shown.{view_of, Shows}
use Rattle.task_types.specs.Places.{Shape, shape_from, filled, IsOneOf}
use Rattle.task_types.specs.Sound.{IsSound}
use Rattle.task_types.proofs.Shown.{presences_in-shown}
use Rattle.quad_matrix.specs.declared.chunk.MatChunk.{MatChunk}
use Rattle.quad_matrix.specs.declared.chunk.MatChunk.TheVariants.{Node}
use Rattle.quad_matrix.specs.declared.kind.What.{What}
use Rattle.quad_matrix.specs.declared.kind.What.TheVariants.{Join}
use Rattle.quad_matrix.specs.declared.kind.MatKind.{MatKind}
use Rattle.quad_matrix.specs.Chunks.{arity_of}
use Rattle.quad_matrix.specs.Goals.{kind_of, goal_of, FitsAt, IsDefined}
use Rattle.quad_matrix.specs.Matrices.{matrices}
use Rattle.task_plans.specs.Plans.{given_shape, input_place, are_null}
use Rattle.quad_matrix.specs.Plans.{shapes_of, full_shapes, null_shape, joined_shape, join_places, may_have, inputs_of}
use Rattle.quad_matrix.proofs.ForOthers.{any_there, join_peak, join_nothing, join_some}
use Rattle.quad_matrix.proofs.ForOthers.{tree_peak, peak_of_tree}
use Rattle.quad_matrix.proofs.ForOthers.{join_goal, join_fits}
use Rattle.quad_matrix.proofs.ForOthers.{goal_any}
use Rattle.task_plans.specs.Outcomes.{given, one_chunk}
use Rattle.matrix_tasks.specs.Answers.{peak_shown, greatest_peak, join_answer}
use Rattle.task_plans.proofs.ForOthers.{true_or_false, both_pass}
use Rattle.task_plans.proofs.ForOthers.{input_given, given_sound, node_sound, begun}

-- ---- Plans

-- the shapes of a kind with as many inputs as it has, at a height that it may have
pub shapes_open : (what : What) (height : ℕ) (known : List Presence) → (length known == inputs_of what) ≡ true
    → may_have what height ≡ true
    → shapes_of (kind_of what height) known ≡ (if all_present known then full_shapes what height known else null_shape what known ∷ [])
shapes_open what height known count may =
    cond-true ((length known == inputs_of what) && may_have what height) (if all_present known then full_shapes what height known else null_shape what known ∷ []) [] (both_pass (length known == inputs_of what) (may_have what height) count may)

-- of the same shapes in both cases
same_shapes : (test : Bool) (shapes : List (Shape MatKind)) → (if test then shapes else shapes) ≡ shapes
same_shapes true shapes = refl
same_shapes false shapes = refl

join_shapes : (h : ℕ) (x y z w : Tree MatChunk) → suc h ≤ 16
    → shapes_of (kind_of Join (suc h)) (map presence_of (x ∷ y ∷ z ∷ w ∷ [])) ≡ joined_shape (map presence_of (x ∷ y ∷ z ∷ w ∷ [])) ∷ []
join_shapes h x y z w low =
    let known : List Presence = map presence_of (x ∷ y ∷ z ∷ w ∷ []) in
    shapes_open Join (suc h) known refl (both_pass (nat_le 1 (suc h)) (nat_le (suc h) 16) (le-leb 1 (suc h) (omega arith)) (le-leb (suc h) 16 low))
    ∙ same_shapes (all_present known) (joined_shape known ∷ [])

-- ---- Places and peaks

-- all places are null where no tree is there
nulls_where_none : (x y z w : Tree MatChunk) → are_null (join_places (map presence_of (x ∷ y ∷ z ∷ w ∷ []))) ≡ not (any_there x y z w)
nulls_where_none Nothing Nothing Nothing Nothing = refl
nulls_where_none (Root c a b d e) y z w = refl
nulls_where_none Nothing (Root c a b d e) z w = refl
nulls_where_none Nothing Nothing (Root c a b d e) w = refl
nulls_where_none Nothing Nothing Nothing (Root c a b d e) = refl

not_not : (b : Bool) → not (not b) ≡ b
not_not true = refl
not_not false = refl

-- the peak that a tree shows
pub shown_peak : (tree : Tree MatChunk) → peak_shown (view_of tree) ≡ tree_peak tree
shown_peak Nothing = refl
shown_peak (Root c x y z w) = refl

pub four_peaks : (inputs : Inputs MatChunk) (x y z w : Tree MatChunk) → Shows inputs (x ∷ y ∷ z ∷ w ∷ [])
    → greatest_peak inputs ≡ max (max (tree_peak x) (tree_peak y)) (max (tree_peak z) (tree_peak w))
four_peaks inputs x y z w s =
    let e = rw s.0 at s.1 in
    let first : inputs.first ≡ view_of x = cc in
    let second : inputs.second ≡ view_of y = cc in
    let third : inputs.third ≡ view_of z = cc in
    let fourth : inputs.fourth ≡ view_of w = cc in
    cc (ap peak_shown first ∙ shown_peak x, ap peak_shown second ∙ shown_peak y, ap peak_shown third ∙ shown_peak z, ap peak_shown fourth ∙ shown_peak w)

-- ---- The outcome

-- four trees, of which none is there
none_sound : (b h : ℕ) (x y z w : Tree MatChunk) → suc h ≤ 16 → FitsAt b Join (suc h) (x ∷ y ∷ z ∷ w ∷ [])
    → are_null (join_places (map presence_of (x ∷ y ∷ z ∷ w ∷ []))) ≡ true
    → IsSound arity_of matrices (kind_of Join (suc h)) (x ∷ y ∷ z ∷ w ∷ []) (given Null)
none_sound b h x y z w low fits null =
    let trees : List (Tree MatChunk) = x ∷ y ∷ z ∷ w ∷ [] in
    let known : List Presence = map presence_of trees in
    let kind : MatKind = kind_of Join (suc h) in
    let none : any_there x y z w ≡ false = sym (not_not (any_there x y z w)) ∙ ap not (sym (nulls_where_none x y z w) ∙ null) in
    let goal : goal_of kind trees ≡ Nothing = goal_any b Join (suc h) trees fits ∙ join_goal b h x y z w ∙ join_nothing b h x y z w none in
    let shape : given_shape Null ≡ joined_shape known = sym (cond-true (are_null (join_places known)) (given_shape Null) (shape_from (filled (join_places known) ∷ []) [] (Chunk 0)) null) in
    given_sound arity_of matrices kind trees Null refl (sym goal) (subst (IsOneOf (given_shape Null)) (sym (join_shapes h x y z w low)) (inl shape))

-- four trees, of which one is there
some_sound : (b h : ℕ) (x y z w : Tree MatChunk) → suc h ≤ 16 → FitsAt b Join (suc h) (x ∷ y ∷ z ∷ w ∷ [])
    → are_null (join_places (map presence_of (x ∷ y ∷ z ∷ w ∷ []))) ≡ false
    → IsSound arity_of matrices (kind_of Join (suc h)) (x ∷ y ∷ z ∷ w ∷ []) (one_chunk (Node (suc h) (join_peak b h x y z w)) (join_places (map presence_of (x ∷ y ∷ z ∷ w ∷ []))))
some_sound b h x y z w low fits null =
    let trees : List (Tree MatChunk) = x ∷ y ∷ z ∷ w ∷ [] in
    let known : List Presence = map presence_of trees in
    let kind : MatKind = kind_of Join (suc h) in
    let node : MatChunk = Node (suc h) (join_peak b h x y z w) in
    let some : any_there x y z w ≡ true = sym (not_not (any_there x y z w)) ∙ ap not (sym (nulls_where_none x y z w) ∙ null) in
    let four = join_fits b h x y z w fits in
    let goal : goal_of kind trees ≡ Root node x y z w = goal_any b Join (suc h) trees fits ∙ join_goal b h x y z w ∙ join_some b h x y z w four.0 four.1 four.2 four.3 some in
    let shape : shape_from (filled (join_places known) ∷ []) [] (Chunk 0) ≡ joined_shape known = sym (cond-false (are_null (join_places known)) (given_shape Null) (shape_from (filled (join_places known) ∷ []) [] (Chunk 0)) null) in
    let rank : ℕ = matrices.rank kind in
    let p0 : Place = input_place known 0 in
    let p1 : Place = input_place known 1 in
    let p2 : Place = input_place known 2 in
    let s1 = input_given arity_of matrices rank trees [] [] 0 (begun arity_of matrices rank trees) in
    let s2 = input_given arity_of matrices rank trees (p0 ∷ []) (x ∷ []) 1 s1 in
    let s3 = input_given arity_of matrices rank trees (p0 ∷ p1 ∷ []) (x ∷ y ∷ []) 2 s2 in
    let s4 = input_given arity_of matrices rank trees (p0 ∷ p1 ∷ p2 ∷ []) (x ∷ y ∷ z ∷ []) 3 s3 in
    node_sound arity_of matrices kind trees node (join_places known) trees (omega arith) refl (sym goal) (subst (IsOneOf (shape_from (filled (join_places known) ∷ []) [] (Chunk 0))) (sym (join_shapes h x y z w low)) (inl shape)) s4

join_at : (b h : ℕ) (inputs : Inputs MatChunk) (x y z w : Tree MatChunk) → suc h ≤ 16 → FitsAt b Join (suc h) (x ∷ y ∷ z ∷ w ∷ [])
    → Shows inputs (x ∷ y ∷ z ∷ w ∷ [])
    → IsSound arity_of matrices (kind_of Join (suc h)) (x ∷ y ∷ z ∷ w ∷ []) (join_answer (suc h) inputs)
join_at b h inputs x y z w low fits shows =
    let trees : List (Tree MatChunk) = x ∷ y ∷ z ∷ w ∷ [] in
    let known : List Presence = map presence_of trees in
    let kind : MatKind = kind_of Join (suc h) in
    let sound = λ (outcome : Outcome MatChunk MatKind). IsSound arity_of matrices kind trees outcome in
    let four = join_fits b h x y z w fits in
    let peaks : greatest_peak inputs ≡ join_peak b h x y z w = four_peaks inputs x y z w shows ∙ cc (peak_of_tree b h x four.0, peak_of_tree b h y four.1, peak_of_tree b h z four.2, peak_of_tree b h w four.3) in
    let node : MatChunk = Node (suc h) (join_peak b h x y z w) in
    let answer : join_answer (suc h) inputs ≡ (if are_null (join_places known) then given Null else one_chunk node (join_places known)) = ap (λ (known : List Presence). if are_null (join_places known) then given Null else one_chunk (Node (suc h) (greatest_peak inputs)) (join_places known)) (presences_in-shown inputs trees shows) ∙ ap (λ peak. if are_null (join_places known) then given Null else one_chunk (Node (suc h) peak) (join_places known)) peaks in
    subst sound (sym answer) (⊎_elim
    (λ e. subst sound (sym (cond-true (are_null (join_places known)) (given Null) (one_chunk node (join_places known)) e)) (none_sound b h x y z w low fits e))
    (λ e. subst sound (sym (cond-false (are_null (join_places known)) (given Null) (one_chunk node (join_places known)) e)) (some_sound b h x y z w low fits e))
    (true_or_false (are_null (join_places known))))

-- a join has at least height 1
join_low : (b h : ℕ) (inputs : Inputs MatChunk) (x y z w : Tree MatChunk) → h ≤ 16 → FitsAt b Join h (x ∷ y ∷ z ∷ w ∷ [])
    → Shows inputs (x ∷ y ∷ z ∷ w ∷ [])
    → IsSound arity_of matrices (kind_of Join h) (x ∷ y ∷ z ∷ w ∷ []) (join_answer h inputs)
join_low b zero inputs x y z w low fits shows = let high : 1 ≤ 0 = fits.0 in absurd (omega arith)
join_low b (suc h) inputs x y z w low fits shows = join_at b h inputs x y z w low fits shows

join_sound_of : (height : ℕ) (inputs : Inputs MatChunk) → (trees : List (Tree MatChunk)) → Shows inputs trees
    → IsDefined (kind_of Join height) trees
    → IsSound arity_of matrices (kind_of Join height) trees (join_answer height inputs)
join_sound_of height inputs [] shows d = absurd d.fits
join_sound_of height inputs (x ∷ []) shows d = absurd d.fits
join_sound_of height inputs (x ∷ y ∷ []) shows d = absurd d.fits
join_sound_of height inputs (x ∷ y ∷ z ∷ []) shows d = absurd d.fits
join_sound_of height inputs (x ∷ y ∷ z ∷ w ∷ []) shows d = join_low d.leaf height inputs x y z w d.low d.fits shows
join_sound_of height inputs (x ∷ y ∷ z ∷ w ∷ v ∷ trees) shows d = absurd d.fits

-- what a join answers is sound
pub join_sound : (what : What) (height : ℕ) (inputs : Inputs MatChunk) → what ≡ Join → (trees : List (Tree MatChunk)) → Shows inputs trees
    → IsDefined (kind_of what height) trees
    → IsSound arity_of matrices (kind_of what height) trees (join_answer height inputs)
join_sound what height inputs e trees shows d =
    subst (λ (what : What). IsSound arity_of matrices (kind_of what height) trees (join_answer height inputs)) (sym e)
    (join_sound_of height inputs trees shows (subst (λ (what : What). IsDefined (kind_of what height) trees) e d))
