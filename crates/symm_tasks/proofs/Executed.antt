-- What the code answers by a plan is sound, and what it needs of the entries that it splits.
use Rattle.std.proofs.Common.{◌≡◌, ℕ, zero, suc, ◌≤◌, true, Option, None, Some, List, [], ◌∷◌, map, refl, sym, ap, ◌∙◌, subst, arith}
use Rattle.std.specs.Prelude.{IsTrue}
use Rattle.std.proofs.lemmas.Bool.{false≢true}
use Rattle.task_types.specs.declared.outcome.Outcome.{Outcome}
use Rattle.task_types.specs.declared.inputs.View.{View}
use Rattle.task_types.specs.declared.inputs.View.TheVariants as view
use Rattle.task_types.specs.declared.inputs.Inputs.{Inputs}
use Rattle.task_types.specs.Tree.{Tree, Root, is_there}
use Rattle.task_types.specs.Presence.{presence_of, all_present}
use Rattle.task_types.specs.Shown.{view_of, mask, Shows, presences_in}
use Rattle.task_types.specs.Sound.{IsSound, IsSoundFor}
use Rattle.task_types.proofs.Shown.{presences_in-shown, first-shown_one, first-shown_two}
use Rattle.task_plans.specs.declared.portions.Portions.{Portions}
use Rattle.task_plans.specs.Sketches.{planned_outcome}
use Rattle.quad_matrix.specs.declared.chunk.MatChunk.{MatChunk}
use Rattle.quad_matrix.specs.declared.chunk.MatChunk.TheVariants as chunk
use Rattle.quad_matrix.specs.declared.chunk.Entries.{Entries}
use Rattle.quad_matrix.specs.declared.kind.What.{What}
use Rattle.quad_matrix.specs.declared.kind.What.TheVariants.{Assign, Add, Mul, TMul, MulT, Transpose, Join, Trace, AddNum, SAssign, SAdd, Square, RankMul, TRank, SMul, MulS, Full, SJoin, STrace}
use Rattle.quad_matrix.specs.declared.kind.MatKind.{MatKind}
use Rattle.quad_matrix.specs.Chunks.{arity_of}
use Rattle.quad_matrix.specs.Blocks.{IsCanonical, IsCanonicalSymmetric}
use Rattle.quad_matrix.specs.Goals.{kind_of, kind_at, FitsAt, IsDefined}
use Rattle.quad_matrix.specs.Matrices.{matrices}
use Rattle.quad_matrix.specs.Plans.{plan_of, inputs_of}
use Rattle.quad_matrix.proofs.ForOthers.{root_of_symmetric_node}
use Rattle.matrix_tasks.specs.Answers.{entries_shown}
use Rattle.matrix_tasks.specs.ByPlan.{portions_shown, HasPortions, planned_answer}
use Rattle.matrix_tasks.proofs.ForOthers.{answer_is, no_entries}
use Rattle.symm_tasks.specs.Answers.{is_symmetric}
use Rattle.symm_tasks.proofs.ShownTrees.{HoldsOfOne, HoldsOfTwo, one_there, two_there}
use Rattle.symm_tasks.proofs.ByPlan.{symmetric_add_by_plan, full_by_plan, symmetric_trace_by_plan}
use Rattle.symm_tasks.proofs.SquaresByPlan.{square_by_plan, rank_by_plan, transposed_rank_by_plan}
use Rattle.symm_tasks.proofs.FactorsByPlan.{symmetric_first_by_plan, symmetric_second_by_plan}
use Rattle.symm_tasks.proofs.AssignByPlan.{list_by_plan, portions_sound}

-- the answer of a kind on trees is its plan's outcome
abbrev IsAnswered : What → ℕ → Inputs MatChunk → List (Tree MatChunk) → Type 0
IsAnswered what h inputs trees =
    IsSound arity_of matrices (kind_of what (suc h)) trees (planned_answer (kind_of what (suc h)) inputs)

-- it is sound where the outcome of the plan is
by_outcome : (what : What) (h : ℕ) (inputs : Inputs MatChunk) (trees : List (Tree MatChunk)) (shown : Option Entries) → Shows inputs trees → entries_shown inputs.first ≡ shown
    → IsSound arity_of matrices (kind_of what (suc h)) trees (planned_outcome kind_at (suc h) (plan_of what) (portions_shown what shown) (map presence_of trees))
    → IsAnswered what h inputs trees
by_outcome what h inputs trees shown shows e sound =
    subst (λ (outcome : Outcome MatChunk MatKind). IsSound arity_of matrices (kind_of what (suc h)) trees outcome)
    (sym (answer_is what h inputs (map presence_of trees) shown (presences_in-shown inputs trees shows) e)) sound

assign_executes : (b h : ℕ) (inputs : Inputs MatChunk) (c : MatChunk) (x0 x1 x2 x3 : Tree MatChunk) → suc h ≤ 16 → FitsAt b SAssign (suc h) (Root c x0 x1 x2 x3 ∷ []) → Shows inputs (Root c x0 x1 x2 x3 ∷ [])
    → IsAnswered SAssign h inputs (Root c x0 x1 x2 x3 ∷ [])
assign_executes b h inputs (chunk.Leaf m) x0 x1 x2 x3 low fits shows = absurd fits
assign_executes b h inputs (chunk.Node k peak) x0 x1 x2 x3 low fits shows = absurd fits
assign_executes b h inputs (chunk.SymLeaf m) x0 x1 x2 x3 low fits shows = absurd fits
assign_executes b h inputs (chunk.SymNode k peak) x0 x1 x2 x3 low fits shows = absurd fits
assign_executes b h inputs (chunk.Num n) x0 x1 x2 x3 low fits shows = absurd fits
assign_executes b h inputs (chunk.Entries e) x0 x1 x2 x3 low fits shows =
    let x : Tree MatChunk = Root (chunk.Entries e) x0 x1 x2 x3 in
    by_outcome SAssign h inputs (x ∷ []) (Some e) shows (ap entries_shown (first-shown_one inputs x shows)) (list_by_plan b h e fits.0 x0 x1 x2 x3 low fits)

module _ (h : ℕ) (inputs : Inputs MatChunk) (there : all_present (presences_in inputs) ≡ true) where
  -- the answers of kinds with one input, and of kinds with two
  one_executes : (what : What) → inputs_of what ≡ 1
      → ((b : ℕ) → b ≤ 64 → suc h ≤ 16 → HoldsOfOne what b (suc h) inputs there (IsAnswered what h inputs))
      → (trees : List (Tree MatChunk)) → Shows inputs trees → IsDefined (kind_of what (suc h)) trees → IsAnswered what h inputs trees
  one_executes what one holds trees shows d =
      one_there what d.leaf (suc h) inputs there (IsAnswered what h inputs) one (holds d.leaf d.leaf_high d.low) trees d.fits shows

  two_execute : (what : What) → inputs_of what ≡ 2
      → ((b : ℕ) → b ≤ 64 → suc h ≤ 16 → HoldsOfTwo what b (suc h) inputs there (IsAnswered what h inputs))
      → (trees : List (Tree MatChunk)) → Shows inputs trees → IsDefined (kind_of what (suc h)) trees → IsAnswered what h inputs trees
  two_execute what two holds trees shows d =
      two_there what d.leaf (suc h) inputs there (IsAnswered what h inputs) two (holds d.leaf d.leaf_high d.low) trees d.fits shows

  -- the portions of what the first input shows
  abbrev portions : What → Portions MatChunk
  portions what = portions_shown what (entries_shown inputs.first)

  at_height : (what : What) → IsTrue (is_symmetric what) → (what ≡ SJoin → ⊥) → IsSoundFor arity_of matrices (kind_of what (suc h)) inputs (planned_answer (kind_of what (suc h)) inputs)
  at_height SJoin serves other trees shows d = absurd (other refl)
  at_height Assign serves other trees shows d = absurd (false≢true serves)
  at_height Add serves other trees shows d = absurd (false≢true serves)
  at_height Mul serves other trees shows d = absurd (false≢true serves)
  at_height TMul serves other trees shows d = absurd (false≢true serves)
  at_height MulT serves other trees shows d = absurd (false≢true serves)
  at_height Transpose serves other trees shows d = absurd (false≢true serves)
  at_height Join serves other trees shows d = absurd (false≢true serves)
  at_height Trace serves other trees shows d = absurd (false≢true serves)
  at_height AddNum serves other trees shows d = absurd (false≢true serves)
  at_height SAssign serves other trees shows d =
      one_executes SAssign refl (λ b side low c x0 x1 x2 x3 fits shows. assign_executes b h inputs c x0 x1 x2 x3 low fits shows) trees shows d
  at_height SAdd serves other trees shows d =
      two_execute SAdd refl
      (λ b side low c x0 x1 x2 x3 d y0 y1 y2 y3 fits shows.
      by_outcome SAdd h inputs (Root c x0 x1 x2 x3 ∷ Root d y0 y1 y2 y3 ∷ []) (entries_shown inputs.first) shows refl (symmetric_add_by_plan b h (portions SAdd) c x0 x1 x2 x3 d y0 y1 y2 y3 side low fits))
      trees shows d
  at_height Full serves other trees shows d =
      one_executes Full refl
      (λ b side low c x0 x1 x2 x3 fits shows.
      by_outcome Full h inputs (Root c x0 x1 x2 x3 ∷ []) (entries_shown inputs.first) shows refl (full_by_plan b h (portions Full) c x0 x1 x2 x3 side low fits))
      trees shows d
  at_height STrace serves other trees shows d =
      one_executes STrace refl
      (λ b side low c x0 x1 x2 x3 fits shows.
      by_outcome STrace h inputs (Root c x0 x1 x2 x3 ∷ []) (entries_shown inputs.first) shows refl (symmetric_trace_by_plan b h (portions STrace) c x0 x1 x2 x3 side low fits))
      trees shows d
  at_height Square serves other trees shows d =
      one_executes Square refl
      (λ b side low c x0 x1 x2 x3 fits shows.
      by_outcome Square h inputs (Root c x0 x1 x2 x3 ∷ []) (entries_shown inputs.first) shows refl (square_by_plan b h (portions Square) c x0 x1 x2 x3 side low fits))
      trees shows d
  at_height RankMul serves other trees shows d =
      one_executes RankMul refl
      (λ b side low c x0 x1 x2 x3 fits shows.
      by_outcome RankMul h inputs (Root c x0 x1 x2 x3 ∷ []) (entries_shown inputs.first) shows refl (rank_by_plan b h (portions RankMul) c x0 x1 x2 x3 side low fits))
      trees shows d
  at_height TRank serves other trees shows d =
      one_executes TRank refl
      (λ b side low c x0 x1 x2 x3 fits shows.
      by_outcome TRank h inputs (Root c x0 x1 x2 x3 ∷ []) (entries_shown inputs.first) shows refl (transposed_rank_by_plan b h (portions TRank) c x0 x1 x2 x3 side low fits))
      trees shows d
  at_height SMul serves other trees shows d =
      two_execute SMul refl
      (λ b side low c x0 x1 x2 x3 d y0 y1 y2 y3 fits shows.
      by_outcome SMul h inputs (Root c x0 x1 x2 x3 ∷ Root d y0 y1 y2 y3 ∷ []) (entries_shown inputs.first) shows refl (symmetric_first_by_plan b h (portions SMul) c x0 x1 x2 x3 d y0 y1 y2 y3 side low fits))
      trees shows d
  at_height MulS serves other trees shows d =
      two_execute MulS refl
      (λ b side low c x0 x1 x2 x3 d y0 y1 y2 y3 fits shows.
      by_outcome MulS h inputs (Root c x0 x1 x2 x3 ∷ Root d y0 y1 y2 y3 ∷ []) (entries_shown inputs.first) shows refl (symmetric_second_by_plan b h (portions MulS) c x0 x1 x2 x3 d y0 y1 y2 y3 side low fits))
      trees shows d

-- what a kind of height at least 1 answers where its inputs are there is sound
pub plan_sound : (what : What) (height : ℕ) (inputs : Inputs MatChunk) → IsTrue (is_symmetric what) → (what ≡ SJoin → ⊥) → 1 ≤ height
    → all_present (presences_in inputs) ≡ true → IsSoundFor arity_of matrices (kind_of what height) inputs (planned_answer (kind_of what height) inputs)
plan_sound what zero inputs serves other high there = absurd (omega arith)
plan_sound what (suc h) inputs serves other high there = at_height h inputs there what serves other

-- ---- The entries that are split

-- a canonical symmetric tree of height at least 1 shows no entries
no_symmetric_entries : (b h : ℕ) (c : MatChunk) (x0 x1 x2 x3 : Tree MatChunk) → IsCanonicalSymmetric b (suc h) (Root c x0 x1 x2 x3) → entries_shown (view_of (Root c x0 x1 x2 x3)) ≡ None
no_symmetric_entries b h c x0 x1 x2 x3 is =
    ap (λ (content : MatChunk). entries_shown (view.There content (mask (is_there x0) (is_there x1) (is_there x2) (is_there x3)))) (root_of_symmetric_node b h c x0 x1 x2 x3 is)

-- so it has portions
no_portions_shown : (what : What) (input : View MatChunk) → entries_shown input ≡ None → HasPortions what (entries_shown input)
no_portions_shown what input none = subst (HasPortions what) (sym none) tt

list_splits : (b h : ℕ) (c : MatChunk) (x0 x1 x2 x3 : Tree MatChunk) → suc h ≤ 16 → FitsAt b SAssign (suc h) (Root c x0 x1 x2 x3 ∷ []) → HasPortions SAssign (entries_shown (view_of (Root c x0 x1 x2 x3)))
list_splits b h (chunk.Leaf m) x0 x1 x2 x3 low fits = absurd fits
list_splits b h (chunk.Node k peak) x0 x1 x2 x3 low fits = absurd fits
list_splits b h (chunk.SymLeaf m) x0 x1 x2 x3 low fits = absurd fits
list_splits b h (chunk.SymNode k peak) x0 x1 x2 x3 low fits = absurd fits
list_splits b h (chunk.Num n) x0 x1 x2 x3 low fits = absurd fits
list_splits b h (chunk.Entries e) x0 x1 x2 x3 low fits =
    record {
      leaf = omega (arith, fits.0.leaf, fits.0.listed.leaf_high);
      low = omega (arith, fits.0.height);
      high = omega (arith, fits.0.height);
      sound = portions_sound b h e fits.0;
    }

module _ (h : ℕ) (inputs : Inputs MatChunk) (there : all_present (presences_in inputs) ≡ true) where
  -- what kinds with one input, and those with two, need of the entries
  one_splits : (what : What) → inputs_of what ≡ 1
      → ((b : ℕ) → suc h ≤ 16 → HoldsOfOne what b (suc h) inputs there (λ (trees : List (Tree MatChunk)). HasPortions what (entries_shown inputs.first)))
      → (trees : List (Tree MatChunk)) → Shows inputs trees → IsDefined (kind_of what (suc h)) trees → HasPortions what (entries_shown inputs.first)
  one_splits what one holds trees shows d =
      one_there what d.leaf (suc h) inputs there (λ (trees : List (Tree MatChunk)). HasPortions what (entries_shown inputs.first)) one (holds d.leaf d.low) trees d.fits shows

  two_split : (what : What) → inputs_of what ≡ 2
      → ((b : ℕ) → suc h ≤ 16 → HoldsOfTwo what b (suc h) inputs there (λ (trees : List (Tree MatChunk)). HasPortions what (entries_shown inputs.first)))
      → (trees : List (Tree MatChunk)) → Shows inputs trees → IsDefined (kind_of what (suc h)) trees → HasPortions what (entries_shown inputs.first)
  two_split what two holds trees shows d =
      two_there what d.leaf (suc h) inputs there (λ (trees : List (Tree MatChunk)). HasPortions what (entries_shown inputs.first)) two (holds d.leaf d.low) trees d.fits shows

  -- a symmetric first input shows none
  symmetric_one : (what : What) (b : ℕ) (c : MatChunk) (x0 x1 x2 x3 : Tree MatChunk) → IsCanonicalSymmetric b (suc h) (Root c x0 x1 x2 x3) → Shows inputs (Root c x0 x1 x2 x3 ∷ [])
      → HasPortions what (entries_shown inputs.first)
  symmetric_one what b c x0 x1 x2 x3 is shows =
      no_portions_shown what inputs.first (ap entries_shown (first-shown_one inputs (Root c x0 x1 x2 x3) shows) ∙ no_symmetric_entries b h c x0 x1 x2 x3 is)

  symmetric_two : (what : What) (b : ℕ) (c : MatChunk) (x0 x1 x2 x3 y : Tree MatChunk) → IsCanonicalSymmetric b (suc h) (Root c x0 x1 x2 x3) → Shows inputs (Root c x0 x1 x2 x3 ∷ y ∷ [])
      → HasPortions what (entries_shown inputs.first)
  symmetric_two what b c x0 x1 x2 x3 y is shows =
      no_portions_shown what inputs.first (ap entries_shown (first-shown_two inputs (Root c x0 x1 x2 x3) y shows) ∙ no_symmetric_entries b h c x0 x1 x2 x3 is)

  -- nor does a general one
  general_one : (what : What) (b : ℕ) (c : MatChunk) (x0 x1 x2 x3 : Tree MatChunk) → IsCanonical b (suc h) (Root c x0 x1 x2 x3) → Shows inputs (Root c x0 x1 x2 x3 ∷ [])
      → HasPortions what (entries_shown inputs.first)
  general_one what b c x0 x1 x2 x3 is shows =
      no_portions_shown what inputs.first (ap entries_shown (first-shown_one inputs (Root c x0 x1 x2 x3) shows) ∙ no_entries b h (Root c x0 x1 x2 x3) is)

  general_two : (what : What) (b : ℕ) (c : MatChunk) (x0 x1 x2 x3 y : Tree MatChunk) → IsCanonical b (suc h) (Root c x0 x1 x2 x3) → Shows inputs (Root c x0 x1 x2 x3 ∷ y ∷ [])
      → HasPortions what (entries_shown inputs.first)
  general_two what b c x0 x1 x2 x3 y is shows =
      no_portions_shown what inputs.first (ap entries_shown (first-shown_two inputs (Root c x0 x1 x2 x3) y shows) ∙ no_entries b h (Root c x0 x1 x2 x3) is)

  portions_at : (what : What) → IsTrue (is_symmetric what) → (what ≡ SJoin → ⊥) → (trees : List (Tree MatChunk)) → Shows inputs trees → IsDefined (kind_of what (suc h)) trees
      → HasPortions what (entries_shown inputs.first)
  portions_at SJoin serves other trees shows d = absurd (other refl)
  portions_at Assign serves other trees shows d = absurd (false≢true serves)
  portions_at Add serves other trees shows d = absurd (false≢true serves)
  portions_at Mul serves other trees shows d = absurd (false≢true serves)
  portions_at TMul serves other trees shows d = absurd (false≢true serves)
  portions_at MulT serves other trees shows d = absurd (false≢true serves)
  portions_at Transpose serves other trees shows d = absurd (false≢true serves)
  portions_at Join serves other trees shows d = absurd (false≢true serves)
  portions_at Trace serves other trees shows d = absurd (false≢true serves)
  portions_at AddNum serves other trees shows d = absurd (false≢true serves)
  portions_at SAssign serves other trees shows d =
      one_splits SAssign refl
      (λ b low c x0 x1 x2 x3 fits shows. subst (λ (input : View MatChunk). HasPortions SAssign (entries_shown input)) (sym (first-shown_one inputs (Root c x0 x1 x2 x3) shows)) (list_splits b h c x0 x1 x2 x3 low fits))
      trees shows d
  portions_at SAdd serves other trees shows d =
      two_split SAdd refl (λ b low c x0 x1 x2 x3 e y0 y1 y2 y3 fits shows. symmetric_two SAdd b c x0 x1 x2 x3 (Root e y0 y1 y2 y3) fits.0 shows) trees shows d
  portions_at Full serves other trees shows d =
      one_splits Full refl (λ b low c x0 x1 x2 x3 fits shows. symmetric_one Full b c x0 x1 x2 x3 fits shows) trees shows d
  portions_at STrace serves other trees shows d =
      one_splits STrace refl (λ b low c x0 x1 x2 x3 fits shows. symmetric_one STrace b c x0 x1 x2 x3 fits.0 shows) trees shows d
  portions_at Square serves other trees shows d =
      one_splits Square refl (λ b low c x0 x1 x2 x3 fits shows. symmetric_one Square b c x0 x1 x2 x3 fits.0 shows) trees shows d
  portions_at RankMul serves other trees shows d =
      one_splits RankMul refl (λ b low c x0 x1 x2 x3 fits shows. general_one RankMul b c x0 x1 x2 x3 fits.0 shows) trees shows d
  portions_at TRank serves other trees shows d =
      one_splits TRank refl (λ b low c x0 x1 x2 x3 fits shows. general_one TRank b c x0 x1 x2 x3 fits.0 shows) trees shows d
  portions_at SMul serves other trees shows d =
      two_split SMul refl (λ b low c x0 x1 x2 x3 e y0 y1 y2 y3 fits shows. symmetric_two SMul b c x0 x1 x2 x3 (Root e y0 y1 y2 y3) fits.0 shows) trees shows d
  portions_at MulS serves other trees shows d =
      two_split MulS refl (λ b low c x0 x1 x2 x3 e y0 y1 y2 y3 fits shows. general_two MulS b c x0 x1 x2 x3 (Root e y0 y1 y2 y3) fits.0 shows) trees shows d

-- entries that are shown to a kind of height at least 1 have sound portions
pub have_portions : (what : What) (height : ℕ) (inputs : Inputs MatChunk) → IsTrue (is_symmetric what) → (what ≡ SJoin → ⊥) → 1 ≤ height → all_present (presences_in inputs) ≡ true
    → (trees : List (Tree MatChunk)) → Shows inputs trees → IsDefined (kind_of what height) trees
    → HasPortions what (entries_shown inputs.first)
have_portions what zero inputs serves other high there trees shows d = absurd (omega arith)
have_portions what (suc h) inputs serves other high there trees shows d = portions_at h inputs there what serves other trees shows d
