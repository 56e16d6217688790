-- What sums of numbers, and the kinds at height 0, answer is sound.
use Rattle.std.proofs.Common.{◌≡◌, ℕ, zero, suc, ◌+◌, ◌^◌, ◌≤◌, true, Option, None, Some, List, [], ◌∷◌, refl, sym, ap, ◌∙◌, subst, subst₂, inl, inr, arith}
use Rattle.std.specs.Prelude.{ℤ, ◌+ℤ◌, unsigned_abs}
use Rattle.std.proofs.lemmas.Bool.{false≢true}
use Rattle.dense_def.specs.Matrix.{Matrix, height, plus}
use Rattle.task_types.specs.declared.outcome.Outcome.{Outcome}
use Rattle.task_types.specs.declared.inputs.View.TheVariants as view
use Rattle.task_types.specs.declared.inputs.Inputs.{Inputs}
use Rattle.task_types.specs.Tree.{Tree, Nothing, Root, is_there}
use Rattle.task_types.specs.Presence.{presence_of, all_present}
use Rattle.task_types.specs.Shown.{view_of, mask, Shows, presences_in}
use Rattle.task_types.specs.Sound.{IsSound}
use Rattle.task_types.proofs.Shown.{presences_in-shown, first-shown_two, second-shown_two}
use Rattle.quad_matrix.specs.declared.chunk.MatChunk.{MatChunk}
use Rattle.quad_matrix.specs.declared.kind.What.{What}
use Rattle.quad_matrix.specs.declared.kind.What.TheVariants.{Add, AddNum}
use Rattle.quad_matrix.specs.declared.kind.MatKind.{MatKind}
use Rattle.quad_matrix.specs.Chunks.{arity_of}
use Rattle.quad_matrix.specs.Blocks.{block_of, number_of, IsCanonical, IsNumber}
use Rattle.quad_matrix.specs.Goals.{kind_of, FitsAt, IsDefined}
use Rattle.quad_matrix.specs.Matrices.{matrices}
use Rattle.quad_matrix.proofs.ForOthers.{root_of_leaf, side_low}
use Rattle.quad_matrix.proofs.ForOthers.{root_of_number}
use Rattle.quad_matrix.proofs.ForOthers.{goal_any}
use Rattle.matrix_tasks.specs.Answers.{number_shown, number_outcome, leaf_shown, LeavesFit, add_answer}
use Rattle.matrix_tasks.proofs.Simple.{leaf_sound, number_sound}

-- ---- What views show

-- the tree of a number shows it
shown_number : (tree : Tree MatChunk) → IsNumber tree → number_shown (view_of tree) ≡ number_of tree
shown_number Nothing is = refl
shown_number (Root c x y z w) is =
    ap (λ (content : MatChunk). number_shown (view.There content (mask (is_there x) (is_there y) (is_there z) (is_there w)))) (root_of_number c x y z w is).0

-- a canonical tree of height 0 shows its block
pub shown_leaf : (b : ℕ) (c : MatChunk) (x y z w : Tree MatChunk) → IsCanonical b 0 (Root c x y z w)
    → leaf_shown (view_of (Root c x y z w)) ≡ Some (block_of b 0 (Root c x y z w))
shown_leaf b c x y z w is =
    ap (λ (content : MatChunk). leaf_shown (view.There content (mask (is_there x) (is_there y) (is_there z) (is_there w)))) (root_of_leaf b c x y z w is).0

-- ---- Numbers

sum_at : (b h : ℕ) (inputs : Inputs MatChunk) (x y : Tree MatChunk) → FitsAt b AddNum h (x ∷ y ∷ [])
    → all_present (presence_of x ∷ presence_of y ∷ []) ≡ true → Shows inputs (x ∷ y ∷ [])
    → IsSound arity_of matrices (kind_of AddNum h) (x ∷ y ∷ []) (number_outcome (number_shown inputs.first +ℤ number_shown inputs.second))
sum_at b (suc h) inputs x y fits there shows = let none : suc h ≡ 0 = fits.0 in absurd (omega arith)
sum_at b zero inputs Nothing y fits there shows = absurd (false≢true there)
sum_at b zero inputs (Root c x0 x1 x2 x3) Nothing fits there shows = absurd (false≢true there)
sum_at b zero inputs (Root c x0 x1 x2 x3) (Root d y0 y1 y2 y3) fits there shows =
    let x : Tree MatChunk = Root c x0 x1 x2 x3 in
    let y : Tree MatChunk = Root d y0 y1 y2 y3 in
    let first : number_shown inputs.first ≡ number_of x = ap number_shown (first-shown_two inputs x y shows) ∙ shown_number x fits.1 in
    let second : number_shown inputs.second ≡ number_of y = ap number_shown (second-shown_two inputs x y shows) ∙ shown_number y fits.2 in
    subst (λ (n : ℤ). IsSound arity_of matrices (kind_of AddNum 0) (x ∷ y ∷ []) (number_outcome n)) (sym (ap (λ (n : ℤ). n +ℤ number_shown inputs.second) first ∙ ap (λ (n : ℤ). number_of x +ℤ n) second))
    (number_sound (kind_of AddNum 0) (x ∷ y ∷ []) (number_of x +ℤ number_of y) (goal_any b AddNum 0 (x ∷ y ∷ []) fits) (inl refl) (inr (inl refl)))

sum_sound_of : (height : ℕ) (inputs : Inputs MatChunk) → all_present (presences_in inputs) ≡ true
    → (trees : List (Tree MatChunk)) → Shows inputs trees → IsDefined (kind_of AddNum height) trees
    → IsSound arity_of matrices (kind_of AddNum height) trees (number_outcome (number_shown inputs.first +ℤ number_shown inputs.second))
sum_sound_of height inputs there [] shows d = absurd d.fits
sum_sound_of height inputs there (x ∷ []) shows d = absurd d.fits
sum_sound_of height inputs there (x ∷ y ∷ []) shows d =
    sum_at d.leaf height inputs x y d.fits (ap all_present (sym (presences_in-shown inputs (x ∷ y ∷ []) shows)) ∙ there) shows
sum_sound_of height inputs there (x ∷ y ∷ z ∷ trees) shows d = absurd d.fits

-- what a sum of two numbers answers is sound
pub sum_sound : (what : What) (height : ℕ) (inputs : Inputs MatChunk) → what ≡ AddNum → all_present (presences_in inputs) ≡ true
    → (trees : List (Tree MatChunk)) → Shows inputs trees → IsDefined (kind_of what height) trees
    → IsSound arity_of matrices (kind_of what height) trees (number_outcome (number_shown inputs.first +ℤ number_shown inputs.second))
sum_sound what height inputs e there trees shows d =
    subst (λ (what : What). IsSound arity_of matrices (kind_of what height) trees (number_outcome (number_shown inputs.first +ℤ number_shown inputs.second))) (sym e)
    (sum_sound_of height inputs there trees shows (subst (λ (what : What). IsDefined (kind_of what height) trees) e d))

numbers_fit_of : (height : ℕ) (inputs : Inputs MatChunk)
    → (trees : List (Tree MatChunk)) → Shows inputs trees → IsDefined (kind_of AddNum height) trees
    → unsigned_abs (number_shown inputs.first) + unsigned_abs (number_shown inputs.second) ≤ 2 ^ 126
numbers_fit_of height inputs [] shows d = absurd d.fits
numbers_fit_of height inputs (x ∷ []) shows d = absurd d.fits
numbers_fit_of height inputs (x ∷ y ∷ []) shows d =
    let first : number_shown inputs.first ≡ number_of x = ap number_shown (first-shown_two inputs x y shows) ∙ shown_number x d.fits.1 in
    let second : number_shown inputs.second ≡ number_of y = ap number_shown (second-shown_two inputs x y shows) ∙ shown_number y d.fits.2 in
    rw (first, second) d.fits.3
numbers_fit_of height inputs (x ∷ y ∷ z ∷ trees) shows d = absurd d.fits

-- the two numbers fit
pub numbers_fit : (what : What) (height : ℕ) (inputs : Inputs MatChunk) → what ≡ AddNum
    → (trees : List (Tree MatChunk)) → Shows inputs trees → IsDefined (kind_of what height) trees
    → unsigned_abs (number_shown inputs.first) + unsigned_abs (number_shown inputs.second) ≤ 2 ^ 126
numbers_fit what height inputs e trees shows d =
    numbers_fit_of height inputs trees shows (subst (λ (what : What). IsDefined (kind_of what height) trees) e d)

-- ---- Sums of leaves

add_at : (b : ℕ) (x y : Tree MatChunk) → FitsAt b Add 0 (x ∷ y ∷ []) → all_present (presence_of x ∷ presence_of y ∷ []) ≡ true
    → IsSound arity_of matrices (kind_of Add 0) (x ∷ y ∷ []) (add_answer (leaf_shown (view_of x)) (leaf_shown (view_of y)))
add_at b Nothing y fits there = absurd (false≢true there)
add_at b (Root c x0 x1 x2 x3) Nothing fits there = absurd (false≢true there)
add_at b (Root c x0 x1 x2 x3) (Root d y0 y1 y2 y3) fits there =
    let x : Tree MatChunk = Root c x0 x1 x2 x3 in
    let y : Tree MatChunk = Root d y0 y1 y2 y3 in
    subst (λ (answer : Outcome MatChunk MatKind). IsSound arity_of matrices (kind_of Add 0) (x ∷ y ∷ []) answer) (sym (ap (λ (m : Option Matrix). add_answer m (leaf_shown (view_of y))) (shown_leaf b c x0 x1 x2 x3 fits.0) ∙ ap (λ (m : Option Matrix). add_answer (Some (block_of b 0 x)) m) (shown_leaf b d y0 y1 y2 y3 fits.1)))
    (leaf_sound b (kind_of Add 0) (x ∷ y ∷ []) (plus (block_of b 0 x) (block_of b 0 y)) (goal_any b Add 0 (x ∷ y ∷ []) fits) (inl refl) (inr (inl refl)))

low_add_sound : (inputs : Inputs MatChunk) → all_present (presences_in inputs) ≡ true
    → (trees : List (Tree MatChunk)) → Shows inputs trees → IsDefined (kind_of Add 0) trees
    → IsSound arity_of matrices (kind_of Add 0) trees (add_answer (leaf_shown inputs.first) (leaf_shown inputs.second))
low_add_sound inputs there [] shows d = absurd d.fits
low_add_sound inputs there (x ∷ []) shows d = absurd d.fits
low_add_sound inputs there (x ∷ y ∷ []) shows d =
    let present = ap all_present (sym (presences_in-shown inputs (x ∷ y ∷ []) shows)) ∙ there in
    rw (first-shown_two inputs x y shows, second-shown_two inputs x y shows) (add_at d.leaf x y d.fits present)
low_add_sound inputs there (x ∷ y ∷ z ∷ trees) shows d = absurd d.fits

-- what a sum of two leaves answers is sound
pub add_sound : (what : What) (height : ℕ) (inputs : Inputs MatChunk) → what ≡ Add → height ≡ 0 → all_present (presences_in inputs) ≡ true
    → (trees : List (Tree MatChunk)) → Shows inputs trees → IsDefined (kind_of what height) trees
    → IsSound arity_of matrices (kind_of what height) trees (add_answer (leaf_shown inputs.first) (leaf_shown inputs.second))
add_sound what height inputs e l there trees shows d =
    subst₂ (λ (what : What) height. IsSound arity_of matrices (kind_of what height) trees (add_answer (leaf_shown inputs.first) (leaf_shown inputs.second))) (sym e) (sym l)
    (low_add_sound inputs there trees shows (subst₂ (λ (what : What) height. IsDefined (kind_of what height) trees) e l d))

leaves_at : (b : ℕ) (x y : Tree MatChunk) → b ≤ 64 → FitsAt b Add 0 (x ∷ y ∷ []) → LeavesFit (leaf_shown (view_of x)) (leaf_shown (view_of y))
leaves_at b Nothing y side fits = tt
leaves_at b (Root c x0 x1 x2 x3) Nothing side fits = subst (λ (m : Option Matrix). LeavesFit m None) (sym (shown_leaf b c x0 x1 x2 x3 fits.0)) tt
leaves_at b (Root c x0 x1 x2 x3) (Root d y0 y1 y2 y3) side fits =
    let x : Tree MatChunk = Root c x0 x1 x2 x3 in
    let y : Tree MatChunk = Root d y0 y1 y2 y3 in
    subst (λ (m : Option Matrix). LeavesFit m (leaf_shown (view_of y))) (sym (shown_leaf b c x0 x1 x2 x3 fits.0))
    (subst (λ (m : Option Matrix). LeavesFit (Some (block_of b 0 x)) m) (sym (shown_leaf b d y0 y1 y2 y3 fits.1))
    (fits.0.sized.tall ∙ sym fits.1.sized.tall, omega (arith, fits.0.sized.tall, side_low b, side), fits.2))

low_leaves_fit : (inputs : Inputs MatChunk)
    → (trees : List (Tree MatChunk)) → Shows inputs trees → IsDefined (kind_of Add 0) trees
    → LeavesFit (leaf_shown inputs.first) (leaf_shown inputs.second)
low_leaves_fit inputs [] shows d = absurd d.fits
low_leaves_fit inputs (x ∷ []) shows d = absurd d.fits
low_leaves_fit inputs (x ∷ y ∷ []) shows d =
    rw (first-shown_two inputs x y shows, second-shown_two inputs x y shows) (leaves_at d.leaf x y d.leaf_high d.fits)
low_leaves_fit inputs (x ∷ y ∷ z ∷ trees) shows d = absurd d.fits

-- the two leaves fit
pub leaves_fit : (what : What) (height : ℕ) (inputs : Inputs MatChunk) → what ≡ Add → height ≡ 0
    → (trees : List (Tree MatChunk)) → Shows inputs trees → IsDefined (kind_of what height) trees
    → LeavesFit (leaf_shown inputs.first) (leaf_shown inputs.second)
leaves_fit what height inputs e l trees shows d =
    low_leaves_fit inputs trees shows (subst₂ (λ (what : What) height. IsDefined (kind_of what height) trees) e l d)
