-- What the kinds with one input answer at height 0 is sound.
use Rattle.std.proofs.Common.{◌≡◌, ℕ, true, false, Option, List, [], ◌∷◌, refl, sym, ap, ◌∙◌, subst, subst₂, inl, inr}
use Rattle.std.proofs.lemmas.Bool.{false≢true}
use Rattle.dense_def.specs.Matrix.{Matrix, trace_of}
use Rattle.task_types.specs.declared.inputs.Inputs.{Inputs}
use Rattle.task_types.specs.Tree.{Tree, Nothing, Root}
use Rattle.task_types.specs.Presence.{presence_of, all_present}
use Rattle.task_types.specs.Shown.{view_of, Shows, presences_in}
use Rattle.task_types.specs.Sound.{IsSound}
use Rattle.task_types.proofs.Shown.{presences_in-shown, first-shown_one}
use Rattle.quad_matrix.specs.declared.chunk.MatChunk.{MatChunk}
use Rattle.quad_matrix.specs.declared.chunk.MatChunk.TheVariants as chunk
use Rattle.quad_matrix.specs.declared.kind.What.{What}
use Rattle.quad_matrix.specs.declared.kind.What.TheVariants.{Assign, Trace}
use Rattle.quad_matrix.specs.Chunks.{arity_of}
use Rattle.quad_matrix.specs.Blocks.{block_of}
use Rattle.quad_matrix.specs.Goals.{kind_of, FitsAt, IsDefined, IsList}
use Rattle.quad_matrix.specs.Matrices.{matrices}
use Rattle.quad_matrix.proofs.ForOthers.{goal_any}
use Rattle.matrix_tasks.specs.Answers.{leaf_shown, entries_shown, LeafFits, AreForLeaf, trace_answer, assign_answer, leaf_outcome}
use Rattle.quad_matrix.proofs.ForOthers.{sound_at_leaf, leaf_is}
use Rattle.matrix_tasks.proofs.Simple.{leaf_sound, number_sound}
use Rattle.matrix_tasks.proofs.LowBlocks.{shown_leaf}

-- ---- Traces of leaves

trace_at : (b : ℕ) (x : Tree MatChunk) → FitsAt b Trace 0 (x ∷ []) → all_present (presence_of x ∷ []) ≡ true
    → IsSound arity_of matrices (kind_of Trace 0) (x ∷ []) (trace_answer (leaf_shown (view_of x)))
trace_at b Nothing fits there = absurd (false≢true there)
trace_at b (Root c x0 x1 x2 x3) fits there =
    let x : Tree MatChunk = Root c x0 x1 x2 x3 in
    subst (λ (m : Option Matrix). IsSound arity_of matrices (kind_of Trace 0) (x ∷ []) (trace_answer m)) (sym (shown_leaf b c x0 x1 x2 x3 fits.0))
    (number_sound (kind_of Trace 0) (x ∷ []) (trace_of (block_of b 0 x)) (goal_any b Trace 0 (x ∷ []) fits) (inl refl) (inr (inl refl)))

low_trace_sound : (inputs : Inputs MatChunk) → all_present (presences_in inputs) ≡ true
    → (trees : List (Tree MatChunk)) → Shows inputs trees → IsDefined (kind_of Trace 0) trees
    → IsSound arity_of matrices (kind_of Trace 0) trees (trace_answer (leaf_shown inputs.first))
low_trace_sound inputs there [] shows d = absurd d.fits
low_trace_sound inputs there (x ∷ []) shows d =
    rw (first-shown_one inputs x shows) (trace_at d.leaf x d.fits (ap all_present (sym (presences_in-shown inputs (x ∷ []) shows)) ∙ there))
low_trace_sound inputs there (x ∷ y ∷ trees) shows d = absurd d.fits

-- what a trace of a leaf answers is sound
pub trace_sound : (what : What) (height : ℕ) (inputs : Inputs MatChunk) → what ≡ Trace → height ≡ 0 → all_present (presences_in inputs) ≡ true
    → (trees : List (Tree MatChunk)) → Shows inputs trees → IsDefined (kind_of what height) trees
    → IsSound arity_of matrices (kind_of what height) trees (trace_answer (leaf_shown inputs.first))
trace_sound what height inputs e l there trees shows d =
    subst₂ (λ (what : What) height. IsSound arity_of matrices (kind_of what height) trees (trace_answer (leaf_shown inputs.first))) (sym e) (sym l)
    (low_trace_sound inputs there trees shows (subst₂ (λ (what : What) height. IsDefined (kind_of what height) trees) e l d))

leaf_at : (b : ℕ) (x : Tree MatChunk) → FitsAt b Trace 0 (x ∷ []) → LeafFits (leaf_shown (view_of x))
leaf_at b Nothing fits = tt
leaf_at b (Root c x0 x1 x2 x3) fits = subst LeafFits (sym (shown_leaf b c x0 x1 x2 x3 fits.0)) fits.1

low_leaf_fits : (inputs : Inputs MatChunk)
    → (trees : List (Tree MatChunk)) → Shows inputs trees → IsDefined (kind_of Trace 0) trees
    → LeafFits (leaf_shown inputs.first)
low_leaf_fits inputs [] shows d = absurd d.fits
low_leaf_fits inputs (x ∷ []) shows d = rw (first-shown_one inputs x shows) (leaf_at d.leaf x d.fits)
low_leaf_fits inputs (x ∷ y ∷ trees) shows d = absurd d.fits

-- the terms of the trace fit
pub leaf_fits : (what : What) (height : ℕ) (inputs : Inputs MatChunk) → what ≡ Trace → height ≡ 0
    → (trees : List (Tree MatChunk)) → Shows inputs trees → IsDefined (kind_of what height) trees
    → LeafFits (leaf_shown inputs.first)
leaf_fits what height inputs e l trees shows d =
    low_leaf_fits inputs trees shows (subst₂ (λ (what : What) height. IsDefined (kind_of what height) trees) e l d)

-- ---- Leaves of entries

assign_at : (b : ℕ) (x : Tree MatChunk) → IsList b 0 false x → all_present (presence_of x ∷ []) ≡ true
    → IsSound arity_of matrices (kind_of Assign 0) (x ∷ []) (assign_answer (entries_shown (view_of x)))
assign_at b Nothing fits there = absurd (false≢true there)
assign_at b (Root (chunk.Leaf m) x0 x1 x2 x3) fits there = absurd fits
assign_at b (Root (chunk.Node k peak) x0 x1 x2 x3) fits there = absurd fits
assign_at b (Root (chunk.SymLeaf m) x0 x1 x2 x3) fits there = absurd fits
assign_at b (Root (chunk.SymNode k peak) x0 x1 x2 x3) fits there = absurd fits
assign_at b (Root (chunk.Num n) x0 x1 x2 x3) fits there = absurd fits
assign_at b (Root (chunk.Entries e) x0 x1 x2 x3) fits there =
    let x : Tree MatChunk = Root (chunk.Entries e) x0 x1 x2 x3 in
    subst (λ (m : Matrix). IsSound arity_of matrices (kind_of Assign 0) (x ∷ []) (leaf_outcome m)) (sym (leaf_is b e fits.0))
    (leaf_sound b (kind_of Assign 0) (x ∷ []) (block_of b 0 x) (goal_any b Assign 0 (x ∷ []) fits) (inl refl) (inr (inl refl)))

low_assign_sound : (inputs : Inputs MatChunk) → all_present (presences_in inputs) ≡ true
    → (trees : List (Tree MatChunk)) → Shows inputs trees → IsDefined (kind_of Assign 0) trees
    → IsSound arity_of matrices (kind_of Assign 0) trees (assign_answer (entries_shown inputs.first))
low_assign_sound inputs there [] shows d = absurd d.fits
low_assign_sound inputs there (x ∷ []) shows d =
    rw (first-shown_one inputs x shows) (assign_at d.leaf x d.fits (ap all_present (sym (presences_in-shown inputs (x ∷ []) shows)) ∙ there))
low_assign_sound inputs there (x ∷ y ∷ trees) shows d = absurd d.fits

-- what an assignment of a leaf answers is sound
pub assign_sound : (what : What) (height : ℕ) (inputs : Inputs MatChunk) → what ≡ Assign → height ≡ 0 → all_present (presences_in inputs) ≡ true
    → (trees : List (Tree MatChunk)) → Shows inputs trees → IsDefined (kind_of what height) trees
    → IsSound arity_of matrices (kind_of what height) trees (assign_answer (entries_shown inputs.first))
assign_sound what height inputs e l there trees shows d =
    subst₂ (λ (what : What) height. IsSound arity_of matrices (kind_of what height) trees (assign_answer (entries_shown inputs.first))) (sym e) (sym l)
    (low_assign_sound inputs there trees shows (subst₂ (λ (what : What) height. IsDefined (kind_of what height) trees) e l d))

entries_at : (b : ℕ) (x : Tree MatChunk) → IsList b 0 false x → AreForLeaf (entries_shown (view_of x))
entries_at b Nothing fits = tt
entries_at b (Root (chunk.Leaf m) x0 x1 x2 x3) fits = absurd fits
entries_at b (Root (chunk.Node k peak) x0 x1 x2 x3) fits = absurd fits
entries_at b (Root (chunk.SymLeaf m) x0 x1 x2 x3) fits = absurd fits
entries_at b (Root (chunk.SymNode k peak) x0 x1 x2 x3) fits = absurd fits
entries_at b (Root (chunk.Num n) x0 x1 x2 x3) fits = absurd fits
entries_at b (Root (chunk.Entries e) x0 x1 x2 x3) fits = sound_at_leaf b 0 e fits.0

low_entries_fit : (inputs : Inputs MatChunk)
    → (trees : List (Tree MatChunk)) → Shows inputs trees → IsDefined (kind_of Assign 0) trees
    → AreForLeaf (entries_shown inputs.first)
low_entries_fit inputs [] shows d = absurd d.fits
low_entries_fit inputs (x ∷ []) shows d = rw (first-shown_one inputs x shows) (entries_at d.leaf x d.fits)
low_entries_fit inputs (x ∷ y ∷ trees) shows d = absurd d.fits

-- the entries are a sound list for a leaf
pub entries_fit : (what : What) (height : ℕ) (inputs : Inputs MatChunk) → what ≡ Assign → height ≡ 0
    → (trees : List (Tree MatChunk)) → Shows inputs trees → IsDefined (kind_of what height) trees
    → AreForLeaf (entries_shown inputs.first)
entries_fit what height inputs e l trees shows d =
    low_entries_fit inputs trees shows (subst₂ (λ (what : What) height. IsDefined (kind_of what height) trees) e l d)
