-- Outcomes of a leaf and of a number are sound.
use Rattle.std.proofs.Common.{◌≡◌, ℕ, ◌==◌, List, [], map, refl, sym, ◌∙◌, subst, ⊎_elim}
use Rattle.std.specs.Prelude.{ℤ, unsigned_abs}
use Rattle.std.proofs.lemmas.Bool.{cond-true, cond-false}
use Rattle.dense_def.specs.Matrix.{Matrix, peak_of}
use Rattle.task_types.specs.declared.outcome.Place.TheVariants.{Null}
use Rattle.task_types.specs.declared.outcome.Outcome.{Outcome}
use Rattle.task_types.specs.Tree.{Tree, Nothing}
use Rattle.task_types.specs.Presence.{presence_of}
use Rattle.task_types.specs.Places.{IsOneOf}
use Rattle.task_types.specs.Sound.{IsSound}
use Rattle.task_plans.specs.Plans.{given_shape, chunk_shape}
use Rattle.task_plans.specs.Outcomes.{given, one_chunk}
use Rattle.task_plans.proofs.ForOthers.{true_or_false, given_sound, chunk_sound}
use Rattle.quad_matrix.specs.declared.chunk.MatChunk.{MatChunk}
use Rattle.quad_matrix.specs.declared.chunk.MatChunk.TheVariants.{Leaf, Num}
use Rattle.quad_matrix.specs.declared.kind.MatKind.{MatKind}
use Rattle.quad_matrix.specs.Chunks.{arity_of}
use Rattle.quad_matrix.specs.Blocks.{alone, canonical, number_tree}
use Rattle.quad_matrix.specs.Goals.{goal_of}
use Rattle.quad_matrix.specs.Matrices.{matrices}
use Rattle.quad_matrix.specs.Plans.{shapes_of}
use Rattle.matrix_tasks.specs.Answers.{leaf_outcome, number_outcome}

-- no chunk and no task
abbrev nothing : Outcome MatChunk MatKind
nothing = given Null

-- a leaf, or null for a zero block
pub leaf_sound : (b : ℕ) (kind : MatKind) (trees : List (Tree MatChunk)) (m : Matrix) → goal_of kind trees ≡ canonical b 0 m
    → IsOneOf (given_shape Null) (shapes_of kind (map presence_of trees))
    → IsOneOf chunk_shape (shapes_of kind (map presence_of trees))
    → IsSound arity_of matrices kind trees (leaf_outcome m)
leaf_sound b kind trees m goal null chunk =
    let sound = λ (outcome : Outcome MatChunk MatKind). IsSound arity_of matrices kind trees outcome in
    ⊎_elim
    (λ e. subst sound (sym (cond-true (peak_of m == 0) nothing (one_chunk (Leaf m) []) e))
    (given_sound arity_of matrices kind trees Null refl (sym (goal ∙ cond-true (peak_of m == 0) Nothing (alone (Leaf m)) e)) null))
    (λ e. subst sound (sym (cond-false (peak_of m == 0) nothing (one_chunk (Leaf m) []) e))
    (chunk_sound arity_of matrices kind trees (Leaf m) refl (sym (goal ∙ cond-false (peak_of m == 0) Nothing (alone (Leaf m)) e)) chunk))
    (true_or_false (peak_of m == 0))

-- a number, or null for 0
pub number_sound : (kind : MatKind) (trees : List (Tree MatChunk)) (n : ℤ) → goal_of kind trees ≡ number_tree n
    → IsOneOf (given_shape Null) (shapes_of kind (map presence_of trees))
    → IsOneOf chunk_shape (shapes_of kind (map presence_of trees))
    → IsSound arity_of matrices kind trees (number_outcome n)
number_sound kind trees n goal null chunk =
    let sound = λ (outcome : Outcome MatChunk MatKind). IsSound arity_of matrices kind trees outcome in
    ⊎_elim
    (λ e. subst sound (sym (cond-true (unsigned_abs n == 0) nothing (one_chunk (Num n) []) e))
    (given_sound arity_of matrices kind trees Null refl (sym (goal ∙ cond-true (unsigned_abs n == 0) Nothing (alone (Num n)) e)) null))
    (λ e. subst sound (sym (cond-false (unsigned_abs n == 0) nothing (one_chunk (Num n) []) e))
    (chunk_sound arity_of matrices kind trees (Num n) refl (sym (goal ∙ cond-false (unsigned_abs n == 0) Nothing (alone (Num n)) e)) chunk))
    (true_or_false (unsigned_abs n == 0))
