-- What a kind of symmetric matrices with a null input answers is sound.
use Rattle.std.proofs.Common.{◌≡◌, ℕ, ◌≤◌, true, false, ◌&&◌, ◌==◌, List, [], ◌∷◌, length, map, refl, sym, ap, ◌∙◌, subst, inl}
use Rattle.std.specs.Prelude.{IsTrue}
use Rattle.std.proofs.lemmas.Bool.{le-leb, false≢true, cond-false}
use Rattle.dense_def.specs.Matrix.{times, zeros}
use Rattle.dense_def.proofs.Zeros.{times-zeros}
use Rattle.leaf_blocks.specs.Block.{IsBlock}
use Rattle.chunk_codec.specs.Spots.{side_of}
use Rattle.task_types.specs.declared.outcome.Place.TheVariants.{Null, Input}
use Rattle.task_types.specs.declared.inputs.Inputs.{Inputs}
use Rattle.task_types.specs.Tree.{Tree, Nothing, Root, is_there}
use Rattle.task_types.specs.Presence.{Presence, Absent, presence_of, all_present}
use Rattle.task_types.specs.Shown.{Shows, presences_in}
use Rattle.task_types.specs.Places.{IsOneOf}
use Rattle.task_types.specs.Sound.{IsSound}
use Rattle.task_types.proofs.Shown.{presences_in-shown}
use Rattle.task_plans.specs.Plans.{given_shape}
use Rattle.task_plans.specs.Outcomes.{given}
use Rattle.task_plans.proofs.ForOthers.{given_sound}
use Rattle.quad_matrix.specs.declared.chunk.MatChunk.{MatChunk}
use Rattle.quad_matrix.specs.declared.kind.What.{What}
use Rattle.quad_matrix.specs.declared.kind.What.TheVariants.{Assign, Add, Mul, TMul, MulT, Transpose, Join, Trace, AddNum, SAssign, SAdd, Square, RankMul, TRank, SMul, MulS, Full, SJoin, STrace}
use Rattle.quad_matrix.specs.Chunks.{arity_of}
use Rattle.quad_matrix.specs.Blocks.{block_of, canonical}
use Rattle.quad_matrix.specs.Goals.{kind_of, goal_at, FitsAt, IsDefined}
use Rattle.quad_matrix.specs.Matrices.{matrices}
use Rattle.quad_matrix.specs.Plans.{shapes_of, full_shapes, null_shape, inputs_of, may_have}
use Rattle.quad_matrix.proofs.ForOthers.{canonical_zero, peak-zeros, goal_any, symmetric_assign_nothing, symmetric_add_with_nothing, symmetric_add_nothing_with, symmetric_add_nothing, full_of_nothing, trace_of_nothing, square_of_nothing, rank_of_nothing, transposed_rank_of_nothing}
use Rattle.matrix_tasks.specs.Answers.{null_place}
use Rattle.matrix_tasks.proofs.ForOthers.{shapes_open}
use Rattle.symm_tasks.specs.Answers.{is_symmetric}
use Rattle.symm_tasks.proofs.ShownTrees.{of_one, of_two}

-- ---- Goals

-- a product of which a factor is missing is nothing
pub factor_missing : (b h : ℕ) (x y : Tree MatChunk) → IsBlock (side_of b h) (block_of b h x) → IsBlock (side_of b h) (block_of b h y) → (is_there x && is_there y) ≡ false
    → canonical b h (times (block_of b h x) (block_of b h y)) ≡ Nothing
factor_missing b h Nothing y ix iy e =
    let n = side_of b h in
    ap (canonical b h) ((times-zeros (block_of b h y) n n).1 ∙ ap (zeros n) iy.wide) ∙ canonical_zero b h (zeros n n) (peak-zeros n n)
factor_missing b h (Root c x0 x1 x2 x3) Nothing ix iy e =
    let n = side_of b h in
    let x : Tree MatChunk = Root c x0 x1 x2 x3 in
    ap (canonical b h) ((times-zeros (block_of b h x) n n).0 ∙ ap (λ k. zeros k n) ix.tall) ∙ canonical_zero b h (zeros n n) (peak-zeros n n)
factor_missing b h (Root c x0 x1 x2 x3) (Root d y0 y1 y2 y3) ix iy e = absurd (false≢true (sym e))

-- ---- Shapes

-- the one shape of a kind of which an input is null
open_null : (what : What) (h : ℕ) (known : List Presence) → (length known == inputs_of what) ≡ true → may_have what h ≡ true → all_present known ≡ false
    → shapes_of (kind_of what h) known ≡ null_shape what known ∷ []
open_null what h known count may null =
    shapes_open what h known count may ∙ cond-false (all_present known) (full_shapes what h known) (null_shape what known ∷ []) null

-- ---- Kinds with one input

null_one : (b : ℕ) (what : What) (h : ℕ) → inputs_of what ≡ 1 → goal_at b what h (Nothing ∷ []) ≡ Nothing
    → shapes_of (kind_of what h) (Absent ∷ []) ≡ given_shape Null ∷ []
    → (trees : List (Tree MatChunk)) → FitsAt b what h trees → all_present (map presence_of trees) ≡ false
    → IsSound arity_of matrices (kind_of what h) trees (given Null)
null_one b what h one goal shape trees fits null =
    of_one what b h (λ (trees : List (Tree MatChunk)). FitsAt b what h trees → all_present (map presence_of trees) ≡ false → IsSound arity_of matrices (kind_of what h) trees (given Null)) one absent trees fits fits null
  where
    absent : (x : Tree MatChunk) → FitsAt b what h (x ∷ []) → all_present (map presence_of (x ∷ [])) ≡ false → IsSound arity_of matrices (kind_of what h) (x ∷ []) (given Null)
    absent Nothing fits null =
        given_sound arity_of matrices (kind_of what h) (Nothing ∷ []) Null refl (sym (goal_any b what h (Nothing ∷ []) fits ∙ goal))
        (subst (IsOneOf (given_shape Null)) (sym shape) (inl refl))
    absent (Root c x0 x1 x2 x3) fits null = absurd (false≢true (sym null))

-- ---- Kinds with two inputs

-- products
null_two : (b : ℕ) (what : What) (h : ℕ) → inputs_of what ≡ 2
    → ((x y : Tree MatChunk) → FitsAt b what h (x ∷ y ∷ []) → (is_there x && is_there y) ≡ false → goal_at b what h (x ∷ y ∷ []) ≡ Nothing)
    → ((p q : Presence) → all_present (p ∷ q ∷ []) ≡ false → shapes_of (kind_of what h) (p ∷ q ∷ []) ≡ given_shape Null ∷ [])
    → (trees : List (Tree MatChunk)) → FitsAt b what h trees → all_present (map presence_of trees) ≡ false
    → IsSound arity_of matrices (kind_of what h) trees (given Null)
null_two b what h two goal shape trees fits null =
    of_two what b h (λ (trees : List (Tree MatChunk)). FitsAt b what h trees → all_present (map presence_of trees) ≡ false → IsSound arity_of matrices (kind_of what h) trees (given Null)) two
    (λ x y fits null.
    given_sound arity_of matrices (kind_of what h) (x ∷ y ∷ []) Null refl (sym (goal_any b what h (x ∷ y ∷ []) fits ∙ goal x y fits (missing x y null)))
    (subst (IsOneOf (given_shape Null)) (sym (shape (presence_of x) (presence_of y) null)) (inl refl)))
    trees fits fits null
  where
    missing : (x y : Tree MatChunk) → all_present (map presence_of (x ∷ y ∷ [])) ≡ false → (is_there x && is_there y) ≡ false
    missing Nothing y e = refl
    missing (Root c x0 x1 x2 x3) Nothing e = refl
    missing (Root c x0 x1 x2 x3) (Root d y0 y1 y2 y3) e = absurd (false≢true (sym e))

-- sums
null_sum : (b h : ℕ) (x y : Tree MatChunk) → h ≤ 16 → FitsAt b SAdd h (x ∷ y ∷ []) → all_present (map presence_of (x ∷ y ∷ [])) ≡ false
    → IsSound arity_of matrices (kind_of SAdd h) (x ∷ y ∷ []) (given (null_place SAdd (map presence_of (x ∷ y ∷ []))))
null_sum b h Nothing Nothing low fits null =
    given_sound arity_of matrices (kind_of SAdd h) (Nothing ∷ Nothing ∷ []) Null refl (sym (goal_any b SAdd h (Nothing ∷ Nothing ∷ []) fits ∙ symmetric_add_nothing b h))
    (subst (IsOneOf (given_shape Null)) (sym (open_null SAdd h (Absent ∷ Absent ∷ []) refl (le-leb h 16 low) refl)) (inl refl))
null_sum b h (Root c x y z w) Nothing low fits null =
    let tree : Tree MatChunk = Root c x y z w in
    given_sound arity_of matrices (kind_of SAdd h) (tree ∷ Nothing ∷ []) (Input 0) refl (sym (goal_any b SAdd h (tree ∷ Nothing ∷ []) fits ∙ symmetric_add_with_nothing b h tree fits.0))
    (subst (IsOneOf (given_shape (Input 0))) (sym (open_null SAdd h (map presence_of (tree ∷ Nothing ∷ [])) refl (le-leb h 16 low) refl)) (inl refl))
null_sum b h Nothing (Root c x y z w) low fits null =
    let tree : Tree MatChunk = Root c x y z w in
    given_sound arity_of matrices (kind_of SAdd h) (Nothing ∷ tree ∷ []) (Input 1) refl (sym (goal_any b SAdd h (Nothing ∷ tree ∷ []) fits ∙ symmetric_add_nothing_with b h tree fits.1))
    (subst (IsOneOf (given_shape (Input 1))) (sym (open_null SAdd h (map presence_of (Nothing ∷ tree ∷ [])) refl (le-leb h 16 low) refl)) (inl refl))
null_sum b h (Root c x y z w) (Root d x1 y1 z1 w1) low fits null = absurd (false≢true (sym null))

-- ---- All kinds

null_at : (b : ℕ) (what : What) (h : ℕ) (trees : List (Tree MatChunk)) → IsTrue (is_symmetric what) → (what ≡ SJoin → ⊥) → h ≤ 16 → FitsAt b what h trees
    → all_present (map presence_of trees) ≡ false
    → IsSound arity_of matrices (kind_of what h) trees (given (null_place what (map presence_of trees)))
null_at b SJoin h trees serves other low fits null = absurd (other refl)
null_at b Assign h trees serves other low fits null = absurd (false≢true serves)
null_at b Add h trees serves other low fits null = absurd (false≢true serves)
null_at b Mul h trees serves other low fits null = absurd (false≢true serves)
null_at b TMul h trees serves other low fits null = absurd (false≢true serves)
null_at b MulT h trees serves other low fits null = absurd (false≢true serves)
null_at b Transpose h trees serves other low fits null = absurd (false≢true serves)
null_at b Join h trees serves other low fits null = absurd (false≢true serves)
null_at b Trace h trees serves other low fits null = absurd (false≢true serves)
null_at b AddNum h trees serves other low fits null = absurd (false≢true serves)
null_at b SAssign h trees serves other low fits null =
    null_one b SAssign h refl (symmetric_assign_nothing b h) (open_null SAssign h (Absent ∷ []) refl (le-leb h 16 low) refl) trees fits null
null_at b SAdd h trees serves other low fits null =
    of_two SAdd b h (λ (trees : List (Tree MatChunk)). FitsAt b SAdd h trees → all_present (map presence_of trees) ≡ false → IsSound arity_of matrices (kind_of SAdd h) trees (given (null_place SAdd (map presence_of trees)))) refl
    (λ x y fits null. null_sum b h x y low fits null)
    trees fits fits null
null_at b Square h trees serves other low fits null =
    null_one b Square h refl (square_of_nothing b h) (open_null Square h (Absent ∷ []) refl (le-leb h 16 low) refl) trees fits null
null_at b RankMul h trees serves other low fits null =
    null_one b RankMul h refl (rank_of_nothing b h) (open_null RankMul h (Absent ∷ []) refl (le-leb h 16 low) refl) trees fits null
null_at b TRank h trees serves other low fits null =
    null_one b TRank h refl (transposed_rank_of_nothing b h) (open_null TRank h (Absent ∷ []) refl (le-leb h 16 low) refl) trees fits null
null_at b Full h trees serves other low fits null =
    null_one b Full h refl (full_of_nothing b h) (open_null Full h (Absent ∷ []) refl (le-leb h 16 low) refl) trees fits null
null_at b STrace h trees serves other low fits null =
    null_one b STrace h refl (trace_of_nothing b h) (open_null STrace h (Absent ∷ []) refl (le-leb h 16 low) refl) trees fits null
null_at b SMul h trees serves other low fits null =
    null_two b SMul h refl (λ x y fits e. factor_missing b h x y fits.0.sized fits.1.sized e) (λ p q e. open_null SMul h (p ∷ q ∷ []) refl (le-leb h 16 low) e) trees fits null
null_at b MulS h trees serves other low fits null =
    null_two b MulS h refl (λ x y fits e. factor_missing b h x y fits.0.sized fits.1.sized e) (λ p q e. open_null MulS h (p ∷ q ∷ []) refl (le-leb h 16 low) e) trees fits null

-- what a kind other than a join answers with a null input is sound
pub null_sound : (what : What) (height : ℕ) (inputs : Inputs MatChunk) → IsTrue (is_symmetric what) → (what ≡ SJoin → ⊥) → all_present (presences_in inputs) ≡ false
    → (trees : List (Tree MatChunk)) → Shows inputs trees → IsDefined (kind_of what height) trees
    → IsSound arity_of matrices (kind_of what height) trees (given (null_place what (presences_in inputs)))
null_sound what height inputs serves other null trees shows d =
    let known = presences_in-shown inputs trees shows in
    subst (λ (known : List Presence). IsSound arity_of matrices (kind_of what height) trees (given (null_place what known))) (sym known)
    (null_at d.leaf what height trees serves other d.low d.fits (ap all_present (sym known) ∙ null))
