-- What the code answers by a plan is sound, and what it needs of the entries that it splits.
use Rattle.std.proofs.Common.{◌≡◌, ℕ, zero, suc, ◌≤◌, true, false, Option, None, Some, List, [], ◌∷◌, map, refl, sym, ap, ◌∙◌, subst, arith}
use Rattle.std.specs.Prelude.{IsTrue}
use Rattle.std.proofs.lemmas.Bool.{false≢true}
use Rattle.task_types.specs.declared.outcome.Outcome.{Outcome}
use Rattle.task_types.specs.declared.inputs.Inputs.{Inputs}
use Rattle.task_types.specs.declared.inputs.View.{View}
use Rattle.task_types.specs.declared.inputs.View.TheVariants as view
use Rattle.task_types.specs.Tree.{Tree, Nothing, Root, is_there}
use Rattle.task_types.specs.Presence.{Presence, presence_of, all_present}
use Rattle.task_types.specs.Shown.{view_of, mask, Shows, presences_in}
use Rattle.task_types.specs.Sound.{IsSound}
use Rattle.task_types.proofs.Shown.{presences_in-shown, first-shown_one, first-shown_two}
use Rattle.quad_matrix.specs.declared.chunk.MatChunk.{MatChunk}
use Rattle.quad_matrix.specs.declared.chunk.MatChunk.TheVariants as chunk
use Rattle.quad_matrix.specs.declared.chunk.Entries.{Entries}
use Rattle.quad_matrix.specs.declared.kind.What.{What}
use Rattle.quad_matrix.specs.declared.kind.What.TheVariants.{Assign, Add, Mul, TMul, MulT, Transpose, Join, Trace, AddNum, SAssign, SAdd, Square, RankMul, TRank, SMul, MulS, Full, SJoin, STrace}
use Rattle.quad_matrix.specs.declared.kind.MatKind.{MatKind}
use Rattle.quad_matrix.specs.Chunks.{arity_of}
use Rattle.quad_matrix.specs.Blocks.{IsCanonical}
use Rattle.quad_matrix.specs.Goals.{kind_of, kind_at, FitsAt, IsDefined, IsList}
use Rattle.quad_matrix.specs.Matrices.{matrices}
use Rattle.quad_matrix.specs.Plans.{plan_of}
use Rattle.task_plans.specs.Sketches.{planned_outcome}
use Rattle.quad_matrix.proofs.ForOthers.{root_of_node}
use Rattle.matrix_tasks.specs.Answers.{is_general, entries_shown}
use Rattle.matrix_tasks.specs.ByPlan.{portions_shown, HasPortions, planned_answer}
use Rattle.matrix_tasks.proofs.ByPlan.{add_by_plan, trace_by_plan}
use Rattle.quad_matrix.specs.Products.{Turned, Neither, First, Second, product_what}
use Rattle.quad_matrix.proofs.ForOthers.{fits_product}
use Rattle.matrix_tasks.proofs.Factors.{of_two}
use Rattle.matrix_tasks.proofs.ProductsByPlan.{product_by_plan, transpose_by_plan}
use Rattle.matrix_tasks.proofs.AssignByPlan.{list_by_plan, portions_sound}

-- the answer of a kind, by what is known of its inputs and by the entries that the first one shows
pub answer_is : (what : What) (h : ℕ) (inputs : Inputs MatChunk) (known : List Presence) (shown : Option Entries)
    → presences_in inputs ≡ known → entries_shown inputs.first ≡ shown
    → planned_answer (kind_of what (suc h)) inputs ≡ planned_outcome kind_at (suc h) (plan_of what) (portions_shown what shown) known
answer_is what h inputs known shown e f =
    ap (λ (known : List Presence). planned_outcome kind_at (suc h) (plan_of what) (portions_shown what (entries_shown inputs.first)) known) e
    ∙ ap (λ (shown : Option Entries). planned_outcome kind_at (suc h) (plan_of what) (portions_shown what shown) known) f

assign_executes : (b h : ℕ) (inputs : Inputs MatChunk) (x : Tree MatChunk) → suc h ≤ 16 → FitsAt b Assign (suc h) (x ∷ []) → Shows inputs (x ∷ [])
    → all_present (map presence_of (x ∷ [])) ≡ true
    → IsSound arity_of matrices (kind_of Assign (suc h)) (x ∷ []) (planned_answer (kind_of Assign (suc h)) inputs)
assign_executes b h inputs Nothing low fits shows there = absurd (false≢true there)
assign_executes b h inputs (Root (chunk.Leaf m) x0 x1 x2 x3) low fits shows there = absurd fits
assign_executes b h inputs (Root (chunk.Node k peak) x0 x1 x2 x3) low fits shows there = absurd fits
assign_executes b h inputs (Root (chunk.SymLeaf m) x0 x1 x2 x3) low fits shows there = absurd fits
assign_executes b h inputs (Root (chunk.SymNode k peak) x0 x1 x2 x3) low fits shows there = absurd fits
assign_executes b h inputs (Root (chunk.Num n) x0 x1 x2 x3) low fits shows there = absurd fits
assign_executes b h inputs (Root (chunk.Entries e) x0 x1 x2 x3) low fits shows there =
    let x : Tree MatChunk = Root (chunk.Entries e) x0 x1 x2 x3 in
    subst (λ (outcome : Outcome MatChunk MatKind). IsSound arity_of matrices (kind_of Assign (suc h)) (x ∷ []) outcome)
    (sym (answer_is Assign h inputs (map presence_of (x ∷ [])) (Some e) (presences_in-shown inputs (x ∷ []) shows) (ap entries_shown (first-shown_one inputs x shows))))
    (list_by_plan b h e fits.0 x0 x1 x2 x3 low fits)

-- a product
product_executes : (turned : Turned) (h : ℕ) (inputs : Inputs MatChunk) → all_present (presences_in inputs) ≡ true → (trees : List (Tree MatChunk)) → Shows inputs trees
    → IsDefined (kind_of (product_what turned) (suc h)) trees
    → IsSound arity_of matrices (kind_of (product_what turned) (suc h)) trees (planned_answer (kind_of (product_what turned) (suc h)) inputs)
product_executes turned h inputs there trees shows d =
    of_two d.leaf (suc h) turned
    (λ (trees : List (Tree MatChunk)). Shows inputs trees → FitsAt d.leaf (product_what turned) (suc h) trees → IsSound arity_of matrices (kind_of (product_what turned) (suc h)) trees (planned_answer (kind_of (product_what turned) (suc h)) inputs))
    (λ x y shows fits.
    let two : List (Tree MatChunk) = x ∷ y ∷ [] in
    let known = presences_in-shown inputs two shows in
    subst (λ (outcome : Outcome MatChunk MatKind). IsSound arity_of matrices (kind_of (product_what turned) (suc h)) two outcome)
    (sym (answer_is (product_what turned) h inputs (map presence_of two) (entries_shown inputs.first) known refl))
    (product_by_plan turned d.leaf h (portions_shown (product_what turned) (entries_shown inputs.first)) x y d.leaf_high d.low (ap all_present (sym known) ∙ there) fits))
    trees d.fits shows d.fits

at_height : (what : What) (h : ℕ) (inputs : Inputs MatChunk) → IsTrue (is_general what) → (what ≡ Join → ⊥)
    → all_present (presences_in inputs) ≡ true → (trees : List (Tree MatChunk)) → Shows inputs trees → IsDefined (kind_of what (suc h)) trees
    → IsSound arity_of matrices (kind_of what (suc h)) trees (planned_answer (kind_of what (suc h)) inputs)
at_height Join h inputs serves e there trees shows d = absurd (e refl)
at_height SAssign h inputs serves e there trees shows d = absurd (false≢true serves)
at_height SAdd h inputs serves e there trees shows d = absurd (false≢true serves)
at_height Square h inputs serves e there trees shows d = absurd (false≢true serves)
at_height RankMul h inputs serves e there trees shows d = absurd (false≢true serves)
at_height TRank h inputs serves e there trees shows d = absurd (false≢true serves)
at_height SMul h inputs serves e there trees shows d = absurd (false≢true serves)
at_height MulS h inputs serves e there trees shows d = absurd (false≢true serves)
at_height Full h inputs serves e there trees shows d = absurd (false≢true serves)
at_height SJoin h inputs serves e there trees shows d = absurd (false≢true serves)
at_height STrace h inputs serves e there trees shows d = absurd (false≢true serves)
at_height AddNum h inputs serves e there [] shows d = absurd d.fits
at_height AddNum h inputs serves e there (x ∷ []) shows d = absurd d.fits
at_height AddNum h inputs serves e there (x ∷ y ∷ []) shows d = let none : suc h ≡ 0 = d.fits.0 in absurd (omega arith)
at_height AddNum h inputs serves e there (x ∷ y ∷ z ∷ trees) shows d = absurd d.fits
at_height Assign h inputs serves e there [] shows d = absurd d.fits
at_height Assign h inputs serves e there (x ∷ []) shows d =
    assign_executes d.leaf h inputs x d.low d.fits shows (ap all_present (sym (presences_in-shown inputs (x ∷ []) shows)) ∙ there)
at_height Assign h inputs serves e there (x ∷ y ∷ trees) shows d = absurd d.fits
at_height Add h inputs serves e there [] shows d = absurd d.fits
at_height Add h inputs serves e there (x ∷ []) shows d = absurd d.fits
at_height Add h inputs serves e there (x ∷ y ∷ []) shows d =
    let trees : List (Tree MatChunk) = x ∷ y ∷ [] in
    let known = presences_in-shown inputs trees shows in
    subst (λ (outcome : Outcome MatChunk MatKind). IsSound arity_of matrices (kind_of Add (suc h)) trees outcome)
    (sym (answer_is Add h inputs (map presence_of trees) (entries_shown inputs.first) known refl))
    (add_by_plan d.leaf h (portions_shown Add (entries_shown inputs.first)) x y d.leaf_high d.low (ap all_present (sym known) ∙ there) d.fits)
at_height Add h inputs serves e there (x ∷ y ∷ z ∷ trees) shows d = absurd d.fits
at_height Mul h inputs serves e there trees shows d = product_executes Neither h inputs there trees shows d
at_height TMul h inputs serves e there trees shows d = product_executes First h inputs there trees shows d
at_height MulT h inputs serves e there trees shows d = product_executes Second h inputs there trees shows d
at_height Transpose h inputs serves e there [] shows d = absurd d.fits
at_height Transpose h inputs serves e there (x ∷ []) shows d =
    let trees : List (Tree MatChunk) = x ∷ [] in
    let known = presences_in-shown inputs trees shows in
    subst (λ (outcome : Outcome MatChunk MatKind). IsSound arity_of matrices (kind_of Transpose (suc h)) trees outcome)
    (sym (answer_is Transpose h inputs (map presence_of trees) (entries_shown inputs.first) known refl))
    (transpose_by_plan d.leaf h (portions_shown Transpose (entries_shown inputs.first)) x d.leaf_high d.low (ap all_present (sym known) ∙ there) d.fits)
at_height Transpose h inputs serves e there (x ∷ y ∷ trees) shows d = absurd d.fits
at_height Trace h inputs serves e there [] shows d = absurd d.fits
at_height Trace h inputs serves e there (x ∷ []) shows d =
    let trees : List (Tree MatChunk) = x ∷ [] in
    let known = presences_in-shown inputs trees shows in
    subst (λ (outcome : Outcome MatChunk MatKind). IsSound arity_of matrices (kind_of Trace (suc h)) trees outcome)
    (sym (answer_is Trace h inputs (map presence_of trees) (entries_shown inputs.first) known refl))
    (trace_by_plan d.leaf h (portions_shown Trace (entries_shown inputs.first)) x d.leaf_high d.low (ap all_present (sym known) ∙ there) d.fits)
at_height Trace h inputs serves e there (x ∷ y ∷ trees) shows d = absurd d.fits

-- what a kind of height at least 1 answers where its inputs are there is sound
pub plan_sound : (what : What) (height : ℕ) (inputs : Inputs MatChunk) → IsTrue (is_general what) → (what ≡ Join → ⊥) → 1 ≤ height
    → all_present (presences_in inputs) ≡ true → (trees : List (Tree MatChunk)) → Shows inputs trees → IsDefined (kind_of what height) trees
    → IsSound arity_of matrices (kind_of what height) trees (planned_answer (kind_of what height) inputs)
plan_sound what zero inputs serves e high there trees shows d = absurd (omega arith)
plan_sound what (suc h) inputs serves e high there trees shows d = at_height what h inputs serves e there trees shows d

-- ---- The entries that are split

-- a canonical tree of height at least 1 shows no entries
pub no_entries : (b h : ℕ) (x : Tree MatChunk) → IsCanonical b (suc h) x → entries_shown (view_of x) ≡ None
no_entries b h Nothing is = refl
no_entries b h (Root c x0 x1 x2 x3) is =
    ap (λ (content : MatChunk). entries_shown (view.There content (mask (is_there x0) (is_there x1) (is_there x2) (is_there x3)))) (root_of_node b h c x0 x1 x2 x3 is)

list_splits : (b h : ℕ) (x : Tree MatChunk) → suc h ≤ 16 → IsList b (suc h) false x → HasPortions Assign (entries_shown (view_of x))
list_splits b h Nothing low is = tt
list_splits b h (Root (chunk.Leaf m) x0 x1 x2 x3) low is = absurd is
list_splits b h (Root (chunk.Node k peak) x0 x1 x2 x3) low is = absurd is
list_splits b h (Root (chunk.SymLeaf m) x0 x1 x2 x3) low is = absurd is
list_splits b h (Root (chunk.SymNode k peak) x0 x1 x2 x3) low is = absurd is
list_splits b h (Root (chunk.Num n) x0 x1 x2 x3) low is = absurd is
list_splits b h (Root (chunk.Entries e) x0 x1 x2 x3) low is =
    record {
      leaf = omega (arith, is.0.leaf, is.0.listed.leaf_high);
      low = omega (arith, is.0.height);
      high = omega (arith, is.0.height);
      sound = portions_sound b h e is.0;
    }

-- nor does a factor of a product
product_splits : (turned : Turned) (h : ℕ) (inputs : Inputs MatChunk) (trees : List (Tree MatChunk)) → Shows inputs trees → IsDefined (kind_of (product_what turned) (suc h)) trees
    → HasPortions (product_what turned) (entries_shown inputs.first)
product_splits turned h inputs trees shows d =
    of_two d.leaf (suc h) turned
    (λ (trees : List (Tree MatChunk)). Shows inputs trees → FitsAt d.leaf (product_what turned) (suc h) trees → HasPortions (product_what turned) (entries_shown inputs.first))
    (λ x y shows fits.
    let both = fits_product d.leaf (suc h) turned x y fits in
    subst (HasPortions (product_what turned)) (sym (ap entries_shown (first-shown_two inputs x y shows) ∙ no_entries d.leaf h x both.0)) tt)
    trees d.fits shows d.fits

portions_at : (what : What) (h : ℕ) (inputs : Inputs MatChunk) → IsTrue (is_general what) → (what ≡ Join → ⊥)
    → (trees : List (Tree MatChunk)) → Shows inputs trees → IsDefined (kind_of what (suc h)) trees
    → HasPortions what (entries_shown inputs.first)
portions_at Join h inputs serves e trees shows d = absurd (e refl)
portions_at SAssign h inputs serves e trees shows d = absurd (false≢true serves)
portions_at SAdd h inputs serves e trees shows d = absurd (false≢true serves)
portions_at Square h inputs serves e trees shows d = absurd (false≢true serves)
portions_at RankMul h inputs serves e trees shows d = absurd (false≢true serves)
portions_at TRank h inputs serves e trees shows d = absurd (false≢true serves)
portions_at SMul h inputs serves e trees shows d = absurd (false≢true serves)
portions_at MulS h inputs serves e trees shows d = absurd (false≢true serves)
portions_at Full h inputs serves e trees shows d = absurd (false≢true serves)
portions_at SJoin h inputs serves e trees shows d = absurd (false≢true serves)
portions_at STrace h inputs serves e trees shows d = absurd (false≢true serves)
portions_at AddNum h inputs serves e [] shows d = absurd d.fits
portions_at AddNum h inputs serves e (x ∷ []) shows d = absurd d.fits
portions_at AddNum h inputs serves e (x ∷ y ∷ []) shows d = let none : suc h ≡ 0 = d.fits.0 in absurd (omega arith)
portions_at AddNum h inputs serves e (x ∷ y ∷ z ∷ trees) shows d = absurd d.fits
portions_at Assign h inputs serves e [] shows d = absurd d.fits
portions_at Assign h inputs serves e (x ∷ []) shows d =
    subst (λ (shown : View MatChunk). HasPortions Assign (entries_shown shown)) (sym (first-shown_one inputs x shows)) (list_splits d.leaf h x d.low d.fits)
portions_at Assign h inputs serves e (x ∷ y ∷ trees) shows d = absurd d.fits
portions_at Add h inputs serves e [] shows d = absurd d.fits
portions_at Add h inputs serves e (x ∷ []) shows d = absurd d.fits
portions_at Add h inputs serves e (x ∷ y ∷ []) shows d =
    subst (HasPortions Add) (sym (ap entries_shown (first-shown_two inputs x y shows) ∙ no_entries d.leaf h x d.fits.0)) tt
portions_at Add h inputs serves e (x ∷ y ∷ z ∷ trees) shows d = absurd d.fits
portions_at Mul h inputs serves e trees shows d = product_splits Neither h inputs trees shows d
portions_at TMul h inputs serves e trees shows d = product_splits First h inputs trees shows d
portions_at MulT h inputs serves e trees shows d = product_splits Second h inputs trees shows d
portions_at Transpose h inputs serves e [] shows d = absurd d.fits
portions_at Transpose h inputs serves e (x ∷ []) shows d =
    subst (HasPortions Transpose) (sym (ap entries_shown (first-shown_one inputs x shows) ∙ no_entries d.leaf h x d.fits)) tt
portions_at Transpose h inputs serves e (x ∷ y ∷ trees) shows d = absurd d.fits
portions_at Trace h inputs serves e [] shows d = absurd d.fits
portions_at Trace h inputs serves e (x ∷ []) shows d =
    subst (HasPortions Trace) (sym (ap entries_shown (first-shown_one inputs x shows) ∙ no_entries d.leaf h x d.fits.0)) tt
portions_at Trace h inputs serves e (x ∷ y ∷ trees) shows d = absurd d.fits

-- entries that are shown to a kind of height at least 1 have sound portions
pub have_portions : (what : What) (height : ℕ) (inputs : Inputs MatChunk) → IsTrue (is_general what) → (what ≡ Join → ⊥) → 1 ≤ height
    → (trees : List (Tree MatChunk)) → Shows inputs trees → IsDefined (kind_of what height) trees
    → HasPortions what (entries_shown inputs.first)
have_portions what zero inputs serves e high trees shows d = absurd (omega arith)
have_portions what (suc h) inputs serves e high trees shows d = portions_at what h inputs serves e trees shows d
