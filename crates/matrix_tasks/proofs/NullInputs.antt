-- What a kind with a null input answers is sound.
use Rattle.std.proofs.Common.{◌≡◌, ℕ, ◌≤◌, false, List, [], ◌∷◌, map, refl, sym, ap, ◌∙◌, subst, inl, eq-eqb}
use Rattle.std.specs.Prelude.{IsTrue}
use Rattle.std.proofs.lemmas.Bool.{le-leb, false≢true}
use Rattle.task_types.specs.declared.outcome.Place.TheVariants.{Null, Input}
use Rattle.task_types.specs.declared.inputs.Inputs.{Inputs}
use Rattle.task_types.specs.Tree.{Tree, Nothing, Root}
use Rattle.task_types.specs.Presence.{Presence, Absent, presence_of, all_present}
use Rattle.task_types.specs.Shown.{Shows, presences_in}
use Rattle.task_types.specs.Places.{IsOneOf}
use Rattle.task_types.specs.Sound.{IsSound}
use Rattle.task_types.proofs.Shown.{presences_in-shown}
use Rattle.quad_matrix.specs.declared.chunk.MatChunk.{MatChunk}
use Rattle.quad_matrix.specs.declared.kind.What.{What}
use Rattle.quad_matrix.specs.declared.kind.What.TheVariants.{Assign, Add, Mul, TMul, MulT, Transpose, Join, Trace, AddNum, SAssign, SAdd, Square, RankMul, TRank, SMul, MulS, Full, SJoin, STrace}
use Rattle.quad_matrix.specs.Chunks.{arity_of}
use Rattle.quad_matrix.specs.Goals.{kind_of, FitsAt, IsDefined}
use Rattle.quad_matrix.specs.Matrices.{matrices}
use Rattle.task_plans.specs.Plans.{given_shape}
use Rattle.quad_matrix.proofs.ForOthers.{add_with_nothing, add_nothing_with, add_nothing}
use Rattle.quad_matrix.proofs.ForOthers.{addnum_with_nothing, addnum_nothing_with, trace_of_nothing}
use Rattle.quad_matrix.proofs.ForOthers.{goal_any, assign_nothing}
use Rattle.quad_matrix.specs.Blocks.{IsCanonical}
use Rattle.quad_matrix.specs.Products.{Turned, Neither, First, Second, product_what}
use Rattle.quad_matrix.proofs.ForOthers.{product_goal, product_goal_is, fits_product, product_nothing_with, product_with_nothing, transpose_of_nothing}
use Rattle.task_plans.specs.Outcomes.{given}
use Rattle.matrix_tasks.specs.Answers.{is_general, null_place}
use Rattle.task_plans.proofs.ForOthers.{given_sound}
use Rattle.matrix_tasks.proofs.Joins.{shapes_open}
use Rattle.matrix_tasks.proofs.Factors.{null_open}

-- a product of which a factor is null
null_product : (b : ℕ) (turned : Turned) (h : ℕ) (x y : Tree MatChunk) → h ≤ 16 → FitsAt b (product_what turned) h (x ∷ y ∷ []) → all_present (map presence_of (x ∷ y ∷ [])) ≡ false
    → IsSound arity_of matrices (kind_of (product_what turned) h) (x ∷ y ∷ []) (given Null)
null_product b turned h x y low fits null =
    let both = fits_product b h turned x y fits in
    given_sound arity_of matrices (kind_of (product_what turned) h) (x ∷ y ∷ []) Null refl
    (sym (goal_any b (product_what turned) h (x ∷ y ∷ []) fits ∙ product_goal_is b h turned x y ∙ absent b h turned x y both.0 both.1 null))
    (null_open turned h (presence_of x) (presence_of y) low null)
  where
    absent : (b h : ℕ) (turned : Turned) (x y : Tree MatChunk) → IsCanonical b h x → IsCanonical b h y → all_present (map presence_of (x ∷ y ∷ [])) ≡ false → product_goal b h turned x y ≡ Nothing
    absent b h turned Nothing y ix iy e = product_nothing_with b h turned y iy
    absent b h turned (Root c x0 x1 x2 x3) Nothing ix iy e = product_with_nothing b h turned (Root c x0 x1 x2 x3) ix
    absent b h turned (Root c x0 x1 x2 x3) (Root d y0 y1 y2 y3) ix iy e = absurd (false≢true (sym e))

null_at : (b : ℕ) (what : What) (h : ℕ) (trees : List (Tree MatChunk)) → IsTrue (is_general what) → (what ≡ Join → ⊥) → h ≤ 16 → FitsAt b what h trees
    → all_present (map presence_of trees) ≡ false
    → IsSound arity_of matrices (kind_of what h) trees (given (null_place what (map presence_of trees)))
null_at b Join h trees serves other low fits null = absurd (other refl)
null_at b SAssign h trees serves other low fits null = absurd (false≢true serves)
null_at b SAdd h trees serves other low fits null = absurd (false≢true serves)
null_at b Square h trees serves other low fits null = absurd (false≢true serves)
null_at b RankMul h trees serves other low fits null = absurd (false≢true serves)
null_at b TRank h trees serves other low fits null = absurd (false≢true serves)
null_at b SMul h trees serves other low fits null = absurd (false≢true serves)
null_at b MulS h trees serves other low fits null = absurd (false≢true serves)
null_at b Full h trees serves other low fits null = absurd (false≢true serves)
null_at b SJoin h trees serves other low fits null = absurd (false≢true serves)
null_at b STrace h trees serves other low fits null = absurd (false≢true serves)
null_at b Assign h [] serves other low fits null = absurd fits
null_at b Assign h (Root c x y z w ∷ []) serves other low fits null = absurd (false≢true (sym null))
null_at b Assign h (Nothing ∷ []) serves other low fits null =
    given_sound arity_of matrices (kind_of Assign h) (Nothing ∷ []) Null refl (sym (goal_any b Assign h (Nothing ∷ []) fits ∙ assign_nothing b h))
    (subst (IsOneOf (given_shape Null)) (sym (shapes_open Assign h (Absent ∷ []) refl (le-leb h 16 low))) (inl refl))
null_at b Assign h (x ∷ y ∷ trees) serves other low fits null = absurd fits
null_at b Trace h [] serves other low fits null = absurd fits
null_at b Trace h (Root c x y z w ∷ []) serves other low fits null = absurd (false≢true (sym null))
null_at b Trace h (Nothing ∷ []) serves other low fits null =
    given_sound arity_of matrices (kind_of Trace h) (Nothing ∷ []) Null refl (sym (goal_any b Trace h (Nothing ∷ []) fits ∙ trace_of_nothing b h))
    (subst (IsOneOf (given_shape Null)) (sym (shapes_open Trace h (Absent ∷ []) refl (le-leb h 16 low))) (inl refl))
null_at b Trace h (x ∷ y ∷ trees) serves other low fits null = absurd fits
null_at b Mul h [] serves other low fits null = absurd fits
null_at b Mul h (x ∷ []) serves other low fits null = absurd fits
null_at b Mul h (x ∷ y ∷ []) serves other low fits null = null_product b Neither h x y low fits null
null_at b Mul h (x ∷ y ∷ z ∷ trees) serves other low fits null = absurd fits
null_at b TMul h [] serves other low fits null = absurd fits
null_at b TMul h (x ∷ []) serves other low fits null = absurd fits
null_at b TMul h (x ∷ y ∷ []) serves other low fits null = null_product b First h x y low fits null
null_at b TMul h (x ∷ y ∷ z ∷ trees) serves other low fits null = absurd fits
null_at b MulT h [] serves other low fits null = absurd fits
null_at b MulT h (x ∷ []) serves other low fits null = absurd fits
null_at b MulT h (x ∷ y ∷ []) serves other low fits null = null_product b Second h x y low fits null
null_at b MulT h (x ∷ y ∷ z ∷ trees) serves other low fits null = absurd fits
null_at b Transpose h [] serves other low fits null = absurd fits
null_at b Transpose h (Root c x y z w ∷ []) serves other low fits null = absurd (false≢true (sym null))
null_at b Transpose h (Nothing ∷ []) serves other low fits null =
    given_sound arity_of matrices (kind_of Transpose h) (Nothing ∷ []) Null refl (sym (goal_any b Transpose h (Nothing ∷ []) fits ∙ transpose_of_nothing b h))
    (subst (IsOneOf (given_shape Null)) (sym (shapes_open Transpose h (Absent ∷ []) refl (le-leb h 16 low))) (inl refl))
null_at b Transpose h (x ∷ y ∷ trees) serves other low fits null = absurd fits
null_at b Add h [] serves other low fits null = absurd fits
null_at b Add h (x ∷ []) serves other low fits null = absurd fits
null_at b Add h (Nothing ∷ Nothing ∷ []) serves other low fits null =
    given_sound arity_of matrices (kind_of Add h) (Nothing ∷ Nothing ∷ []) Null refl (sym (goal_any b Add h (Nothing ∷ Nothing ∷ []) fits ∙ add_nothing b h))
    (subst (IsOneOf (given_shape Null)) (sym (shapes_open Add h (Absent ∷ Absent ∷ []) refl (le-leb h 16 low))) (inl refl))
null_at b Add h (Root c x y z w ∷ Nothing ∷ []) serves other low fits null =
    let tree : Tree MatChunk = Root c x y z w in
    given_sound arity_of matrices (kind_of Add h) (tree ∷ Nothing ∷ []) (Input 0) refl (sym (goal_any b Add h (tree ∷ Nothing ∷ []) fits ∙ add_with_nothing b h tree fits))
    (subst (IsOneOf (given_shape (Input 0))) (sym (shapes_open Add h (map presence_of (tree ∷ Nothing ∷ [])) refl (le-leb h 16 low))) (inl refl))
null_at b Add h (Nothing ∷ Root c x y z w ∷ []) serves other low fits null =
    let tree : Tree MatChunk = Root c x y z w in
    given_sound arity_of matrices (kind_of Add h) (Nothing ∷ tree ∷ []) (Input 1) refl (sym (goal_any b Add h (Nothing ∷ tree ∷ []) fits ∙ add_nothing_with b h tree fits))
    (subst (IsOneOf (given_shape (Input 1))) (sym (shapes_open Add h (map presence_of (Nothing ∷ tree ∷ [])) refl (le-leb h 16 low))) (inl refl))
null_at b Add h (Root c x y z w ∷ Root d x1 y1 z1 w1 ∷ []) serves other low fits null = absurd (false≢true (sym null))
null_at b Add h (x ∷ y ∷ z ∷ trees) serves other low fits null = absurd fits
null_at b AddNum h [] serves other low fits null = absurd fits
null_at b AddNum h (x ∷ []) serves other low fits null = absurd fits
null_at b AddNum h (Nothing ∷ Nothing ∷ []) serves other low fits null =
    given_sound arity_of matrices (kind_of AddNum h) (Nothing ∷ Nothing ∷ []) Null refl (sym (goal_any b AddNum h (Nothing ∷ Nothing ∷ []) fits ∙ addnum_with_nothing b h Nothing fits.1))
    (subst (IsOneOf (given_shape Null)) (sym (shapes_open AddNum h (Absent ∷ Absent ∷ []) refl (eq-eqb h 0 fits.0))) (inl refl))
null_at b AddNum h (Root c x y z w ∷ Nothing ∷ []) serves other low fits null =
    let tree : Tree MatChunk = Root c x y z w in
    given_sound arity_of matrices (kind_of AddNum h) (tree ∷ Nothing ∷ []) (Input 0) refl (sym (goal_any b AddNum h (tree ∷ Nothing ∷ []) fits ∙ addnum_with_nothing b h tree fits.1))
    (subst (IsOneOf (given_shape (Input 0))) (sym (shapes_open AddNum h (map presence_of (tree ∷ Nothing ∷ [])) refl (eq-eqb h 0 fits.0))) (inl refl))
null_at b AddNum h (Nothing ∷ Root c x y z w ∷ []) serves other low fits null =
    let tree : Tree MatChunk = Root c x y z w in
    given_sound arity_of matrices (kind_of AddNum h) (Nothing ∷ tree ∷ []) (Input 1) refl (sym (goal_any b AddNum h (Nothing ∷ tree ∷ []) fits ∙ addnum_nothing_with b h tree fits.2))
    (subst (IsOneOf (given_shape (Input 1))) (sym (shapes_open AddNum h (map presence_of (Nothing ∷ tree ∷ [])) refl (eq-eqb h 0 fits.0))) (inl refl))
null_at b AddNum h (Root c x y z w ∷ Root d x1 y1 z1 w1 ∷ []) serves other low fits null = absurd (false≢true (sym null))
null_at b AddNum h (x ∷ y ∷ z ∷ trees) serves other low fits null = absurd fits

-- what a kind other than a join answers with a null input is sound
pub null_sound : (what : What) (height : ℕ) (inputs : Inputs MatChunk) → IsTrue (is_general what) → (what ≡ Join → ⊥) → all_present (presences_in inputs) ≡ false
    → (trees : List (Tree MatChunk)) → Shows inputs trees → IsDefined (kind_of what height) trees
    → IsSound arity_of matrices (kind_of what height) trees (given (null_place what (presences_in inputs)))
null_sound what height inputs serves other null trees shows d =
    let known = presences_in-shown inputs trees shows in
    subst (λ (known : List Presence). IsSound arity_of matrices (kind_of what height) trees (given (null_place what known))) (sym known)
    (null_at d.leaf what height trees serves other d.low d.fits (ap all_present (sym known) ∙ null))
