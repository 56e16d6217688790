-- What products and transposes of leaves answer is sound.
use Rattle.std.proofs.Common.{◌≡◌, ℕ, ◌≤◌, Bool, true, Option, None, List, [], ◌∷◌, refl, sym, ap, ap₂, ◌∙◌, subst, subst₂, inl, inr, arith}
use Rattle.std.proofs.lemmas.Bool.{false≢true}
use Rattle.dense_def.specs.Matrix.{Matrix, height, transposed}
use Rattle.task_types.specs.declared.outcome.Outcome.{Outcome}
use Rattle.task_types.specs.declared.outcome.Place.TheVariants.{Null}
use Rattle.task_types.specs.declared.inputs.Inputs.{Inputs}
use Rattle.task_types.specs.Tree.{Tree, Nothing, Root}
use Rattle.task_types.specs.Presence.{Present, presence_of, all_present}
use Rattle.task_types.specs.Shown.{view_of, Shows, presences_in}
use Rattle.task_types.specs.Places.{IsOneOf}
use Rattle.task_types.specs.Sound.{IsSound}
use Rattle.task_types.proofs.Shown.{presences_in-shown, first-shown_one, first-shown_two, second-shown_two}
use Rattle.task_plans.specs.Plans.{given_shape, chunk_shape}
use Rattle.quad_matrix.specs.declared.chunk.MatChunk.{MatChunk}
use Rattle.quad_matrix.specs.declared.kind.What.{What}
use Rattle.quad_matrix.specs.declared.kind.What.TheVariants.{Transpose}
use Rattle.quad_matrix.specs.declared.kind.MatKind.{MatKind}
use Rattle.quad_matrix.specs.Chunks.{arity_of}
use Rattle.quad_matrix.specs.Blocks.{block_of}
use Rattle.quad_matrix.specs.Goals.{kind_of, FitsAt, IsDefined}
use Rattle.quad_matrix.specs.Matrices.{matrices}
use Rattle.quad_matrix.specs.Plans.{shapes_of}
use Rattle.quad_matrix.specs.Products.{Turned, Neither, First, Second, product_what, product_of}
use Rattle.quad_matrix.proofs.ForOthers.{side_low, goal_any, ProductFitsAt, fits_product, product_fits_at, product_goal_is}
use Rattle.matrix_tasks.specs.Answers.{leaf_shown, FactorsAreLeaves, product_answer, IsLeaf, transpose_answer}
use Rattle.matrix_tasks.proofs.Simple.{leaf_sound}
use Rattle.matrix_tasks.proofs.LowBlocks.{shown_leaf}
use Rattle.matrix_tasks.proofs.Factors.{of_two}

-- ---- Products of leaves

-- a product at height 0 may be null, or one chunk
low_open : (turned : Turned) (a b c d e f g h : Bool) → IsOneOf (given_shape Null) (shapes_of (kind_of (product_what turned) 0) (Present a b c d ∷ Present e f g h ∷ [])) × IsOneOf chunk_shape (shapes_of (kind_of (product_what turned) 0) (Present a b c d ∷ Present e f g h ∷ []))
low_open Neither a b c d e f g h = (inl refl, inr (inl refl))
low_open First a b c d e f g h = (inl refl, inr (inl refl))
low_open Second a b c d e f g h = (inl refl, inr (inl refl))

product_at : (b : ℕ) (turned : Turned) (x y : Tree MatChunk) → ProductFitsAt b 0 turned x y → all_present (presence_of x ∷ presence_of y ∷ []) ≡ true
    → IsSound arity_of matrices (kind_of (product_what turned) 0) (x ∷ y ∷ []) (product_answer turned (leaf_shown (view_of x)) (leaf_shown (view_of y)))
product_at b turned Nothing y fits there = absurd (false≢true there)
product_at b turned (Root c x0 x1 x2 x3) Nothing fits there = absurd (false≢true there)
product_at b turned (Root c x0 x1 x2 x3) (Root d y0 y1 y2 y3) fits there =
    let x : Tree MatChunk = Root c x0 x1 x2 x3 in
    let y : Tree MatChunk = Root d y0 y1 y2 y3 in
    let kind : MatKind = kind_of (product_what turned) 0 in
    let shapes = low_open turned _ _ _ _ _ _ _ _ in
    subst (λ (answer : Outcome MatChunk MatKind). IsSound arity_of matrices kind (x ∷ y ∷ []) answer)
    (sym (ap₂ (λ (m n : Option Matrix). product_answer turned m n) (shown_leaf b c x0 x1 x2 x3 fits.0) (shown_leaf b d y0 y1 y2 y3 fits.1)))
    (leaf_sound b kind (x ∷ y ∷ []) (product_of turned (block_of b 0 x) (block_of b 0 y))
    (goal_any b (product_what turned) 0 (x ∷ y ∷ []) (product_fits_at b 0 turned x y fits) ∙ product_goal_is b 0 turned x y) shapes.0 shapes.1)

low_product : (turned : Turned) (inputs : Inputs MatChunk) → all_present (presences_in inputs) ≡ true
    → (trees : List (Tree MatChunk)) → Shows inputs trees → IsDefined (kind_of (product_what turned) 0) trees
    → IsSound arity_of matrices (kind_of (product_what turned) 0) trees (product_answer turned (leaf_shown inputs.first) (leaf_shown inputs.second))
low_product turned inputs there trees shows d =
    of_two d.leaf 0 turned
    (λ (trees : List (Tree MatChunk)). Shows inputs trees → FitsAt d.leaf (product_what turned) 0 trees → IsSound arity_of matrices (kind_of (product_what turned) 0) trees (product_answer turned (leaf_shown inputs.first) (leaf_shown inputs.second)))
    (λ x y shows fits.
    let present = ap all_present (sym (presences_in-shown inputs (x ∷ y ∷ []) shows)) ∙ there in
    rw (first-shown_two inputs x y shows, second-shown_two inputs x y shows) (product_at d.leaf turned x y (fits_product d.leaf 0 turned x y fits) present))
    trees d.fits shows d.fits

-- what a product of two leaves answers is sound
pub product_sound : (turned : Turned) (what : What) (height : ℕ) (inputs : Inputs MatChunk) → what ≡ product_what turned → height ≡ 0 → all_present (presences_in inputs) ≡ true
    → (trees : List (Tree MatChunk)) → Shows inputs trees → IsDefined (kind_of what height) trees
    → IsSound arity_of matrices (kind_of what height) trees (product_answer turned (leaf_shown inputs.first) (leaf_shown inputs.second))
product_sound turned what height inputs e l there trees shows d =
    subst₂ (λ (what : What) height. IsSound arity_of matrices (kind_of what height) trees (product_answer turned (leaf_shown inputs.first) (leaf_shown inputs.second))) (sym e) (sym l)
    (low_product turned inputs there trees shows (subst₂ (λ (what : What) height. IsDefined (kind_of what height) trees) e l d))

factors_at : (b : ℕ) (turned : Turned) (x y : Tree MatChunk) → b ≤ 64 → ProductFitsAt b 0 turned x y → FactorsAreLeaves turned (leaf_shown (view_of x)) (leaf_shown (view_of y))
factors_at b turned Nothing y side fits = tt
factors_at b turned (Root c x0 x1 x2 x3) Nothing side fits = subst (λ (m : Option Matrix). FactorsAreLeaves turned m None) (sym (shown_leaf b c x0 x1 x2 x3 fits.0)) tt
factors_at b turned (Root c x0 x1 x2 x3) (Root d y0 y1 y2 y3) side fits =
    subst₂ (λ (m n : Option Matrix). FactorsAreLeaves turned m n) (sym (shown_leaf b c x0 x1 x2 x3 fits.0)) (sym (shown_leaf b d y0 y1 y2 y3 fits.1))
    (fits.0.sized.tall ∙ sym fits.1.sized.tall, omega (arith, fits.0.sized.tall, side_low b, side), fits.2)

-- the two leaves fit
pub factors_fit : (turned : Turned) (what : What) (height : ℕ) (inputs : Inputs MatChunk) → what ≡ product_what turned → height ≡ 0
    → (trees : List (Tree MatChunk)) → Shows inputs trees → IsDefined (kind_of what height) trees
    → FactorsAreLeaves turned (leaf_shown inputs.first) (leaf_shown inputs.second)
factors_fit turned what height inputs e l trees shows defined =
    let d = subst₂ (λ (what : What) height. IsDefined (kind_of what height) trees) e l defined in
    of_two d.leaf 0 turned
    (λ (trees : List (Tree MatChunk)). Shows inputs trees → FitsAt d.leaf (product_what turned) 0 trees → FactorsAreLeaves turned (leaf_shown inputs.first) (leaf_shown inputs.second))
    (λ x y shows fits. rw (first-shown_two inputs x y shows, second-shown_two inputs x y shows) (factors_at d.leaf turned x y d.leaf_high (fits_product d.leaf 0 turned x y fits)))
    trees d.fits shows d.fits

-- ---- Transposes of leaves

transpose_at : (b : ℕ) (x : Tree MatChunk) → FitsAt b Transpose 0 (x ∷ []) → all_present (presence_of x ∷ []) ≡ true
    → IsSound arity_of matrices (kind_of Transpose 0) (x ∷ []) (transpose_answer (leaf_shown (view_of x)))
transpose_at b Nothing fits there = absurd (false≢true there)
transpose_at b (Root c x0 x1 x2 x3) fits there =
    let x : Tree MatChunk = Root c x0 x1 x2 x3 in
    subst (λ (m : Option Matrix). IsSound arity_of matrices (kind_of Transpose 0) (x ∷ []) (transpose_answer m)) (sym (shown_leaf b c x0 x1 x2 x3 fits))
    (leaf_sound b (kind_of Transpose 0) (x ∷ []) (transposed (block_of b 0 x)) (goal_any b Transpose 0 (x ∷ []) fits) (inl refl) (inr (inl refl)))

low_transpose : (inputs : Inputs MatChunk) → all_present (presences_in inputs) ≡ true
    → (trees : List (Tree MatChunk)) → Shows inputs trees → IsDefined (kind_of Transpose 0) trees
    → IsSound arity_of matrices (kind_of Transpose 0) trees (transpose_answer (leaf_shown inputs.first))
low_transpose inputs there [] shows d = absurd d.fits
low_transpose inputs there (x ∷ []) shows d =
    rw (first-shown_one inputs x shows) (transpose_at d.leaf x d.fits (ap all_present (sym (presences_in-shown inputs (x ∷ []) shows)) ∙ there))
low_transpose inputs there (x ∷ y ∷ trees) shows d = absurd d.fits

-- what a transpose of a leaf answers is sound
pub transpose_sound : (what : What) (height : ℕ) (inputs : Inputs MatChunk) → what ≡ Transpose → height ≡ 0 → all_present (presences_in inputs) ≡ true
    → (trees : List (Tree MatChunk)) → Shows inputs trees → IsDefined (kind_of what height) trees
    → IsSound arity_of matrices (kind_of what height) trees (transpose_answer (leaf_shown inputs.first))
transpose_sound what height inputs e l there trees shows d =
    subst₂ (λ (what : What) height. IsSound arity_of matrices (kind_of what height) trees (transpose_answer (leaf_shown inputs.first))) (sym e) (sym l)
    (low_transpose inputs there trees shows (subst₂ (λ (what : What) height. IsDefined (kind_of what height) trees) e l d))

leaf_at : (b : ℕ) (x : Tree MatChunk) → b ≤ 64 → FitsAt b Transpose 0 (x ∷ []) → IsLeaf (leaf_shown (view_of x))
leaf_at b Nothing side fits = tt
leaf_at b (Root c x0 x1 x2 x3) side fits =
    subst IsLeaf (sym (shown_leaf b c x0 x1 x2 x3 fits)) (omega (arith, fits.sized.tall, side_low b, side))

low_leaf : (inputs : Inputs MatChunk) (trees : List (Tree MatChunk)) → Shows inputs trees → IsDefined (kind_of Transpose 0) trees → IsLeaf (leaf_shown inputs.first)
low_leaf inputs [] shows d = absurd d.fits
low_leaf inputs (x ∷ []) shows d = rw (first-shown_one inputs x shows) (leaf_at d.leaf x d.leaf_high d.fits)
low_leaf inputs (x ∷ y ∷ trees) shows d = absurd d.fits

-- the leaf has a side of at most 64
pub leaf_turns : (what : What) (height : ℕ) (inputs : Inputs MatChunk) → what ≡ Transpose → height ≡ 0
    → (trees : List (Tree MatChunk)) → Shows inputs trees → IsDefined (kind_of what height) trees → IsLeaf (leaf_shown inputs.first)
leaf_turns what height inputs e l trees shows d =
    low_leaf inputs trees shows (subst₂ (λ (what : What) height. IsDefined (kind_of what height) trees) e l d)
