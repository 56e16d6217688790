-- What the kinds of symmetric matrices answer at height 0 is sound, and what the kernels need of the leaves.
use Rattle.std.proofs.Common.{◌≡◌, ℕ, ◌≤◌, true, Option, Some, List, [], ◌∷◌, map, refl, sym, ap, ◌∙◌, subst, subst₂, inl, inr, arith, ⊎_elim, ◌==◌}
use Rattle.std.proofs.lemmas.Bool.{cond-true, cond-false}
use Rattle.dense_def.specs.Matrix.{Matrix, peak_of, plus, trace_of}
use Rattle.task_types.specs.declared.outcome.Place.TheVariants.{Null}
use Rattle.task_types.specs.declared.outcome.Outcome.{Outcome}
use Rattle.task_types.specs.declared.inputs.View.{View}
use Rattle.task_types.specs.declared.inputs.View.TheVariants as view
use Rattle.task_types.specs.declared.inputs.Inputs.{Inputs}
use Rattle.task_types.specs.Tree.{Tree, Nothing, Root, is_there}
use Rattle.task_types.specs.Presence.{presence_of, all_present}
use Rattle.task_types.specs.Shown.{view_of, mask, Shows, presences_in}
use Rattle.task_types.specs.Places.{IsOneOf}
use Rattle.task_types.specs.Sound.{IsSound, IsSoundFor}
use Rattle.task_types.proofs.Shown.{first-shown_one, first-shown_two, second-shown_two}
use Rattle.task_plans.specs.Plans.{given_shape, chunk_shape}
use Rattle.task_plans.specs.Outcomes.{given, one_chunk}
use Rattle.task_plans.proofs.ForOthers.{true_or_false, given_sound, chunk_sound}
use Rattle.chunk_codec.specs.Spots.{side_of}
use Rattle.quad_matrix.specs.declared.chunk.MatChunk.{MatChunk}
use Rattle.quad_matrix.specs.declared.chunk.MatChunk.TheVariants.{SymLeaf}
use Rattle.quad_matrix.specs.declared.chunk.MatChunk.TheVariants as chunk
use Rattle.quad_matrix.specs.declared.chunk.Entries.{Entries}
use Rattle.quad_matrix.specs.declared.kind.What.{What}
use Rattle.quad_matrix.specs.declared.kind.What.TheVariants.{SAssign, SAdd, Square, RankMul, TRank, SMul, MulS, Full, STrace}
use Rattle.quad_matrix.specs.declared.kind.MatKind.{MatKind}
use Rattle.quad_matrix.specs.Chunks.{arity_of}
use Rattle.quad_matrix.specs.Spots.{AreSoundEntries, block_listed, mirrored_block}
use Rattle.quad_matrix.specs.Blocks.{alone, block_of, canonical_symmetric, IsCanonical, IsCanonicalSymmetric}
use Rattle.quad_matrix.specs.Goals.{kind_of, goal_of, FitsAt, IsDefined}
use Rattle.quad_matrix.specs.Matrices.{matrices}
use Rattle.quad_matrix.specs.Plans.{shapes_of, inputs_of}
use Rattle.quad_matrix.specs.Products.{Neither, First, Second, product_of}
use Rattle.quad_matrix.proofs.ForOthers.{side_low, goal_any, root_of_symmetric_leaf}
use Rattle.matrix_tasks.specs.Answers.{leaf_shown, entries_shown, LeavesFit, FactorsAreLeaves, product_answer, IsLeaf, LeafFits, trace_answer}
use Rattle.matrix_tasks.proofs.ForOthers.{leaf_sound, number_sound, shown_leaf}
use Rattle.symm_tasks.specs.Answers.{symmetric_leaf_outcome, symmetric_leaf_shown, symmetric_add_answer, own_product_answer, full_answer, AreForSymmetricLeaf, symmetric_assign_answer}
use Rattle.symm_tasks.proofs.ShownTrees.{HoldsOfOne, HoldsOfTwo, one_there, two_there}

-- ---- Leaves

-- no chunk and no task
abbrev nothing : Outcome MatChunk MatKind
nothing = given Null

-- a symmetric leaf, or null for a zero block
symmetric_leaf_sound : (b : ℕ) (kind : MatKind) (trees : List (Tree MatChunk)) (m : Matrix) → goal_of kind trees ≡ canonical_symmetric b 0 m
    → IsOneOf (given_shape Null) (shapes_of kind (map presence_of trees))
    → IsOneOf chunk_shape (shapes_of kind (map presence_of trees))
    → IsSound arity_of matrices kind trees (symmetric_leaf_outcome m)
symmetric_leaf_sound b kind trees m goal null chunk =
    let sound = λ (outcome : Outcome MatChunk MatKind). IsSound arity_of matrices kind trees outcome in
    ⊎_elim
    (λ e. subst sound (sym (cond-true (peak_of m == 0) nothing (one_chunk (SymLeaf m) []) e))
    (given_sound arity_of matrices kind trees Null refl (sym (goal ∙ cond-true (peak_of m == 0) Nothing (alone (SymLeaf m)) e)) null))
    (λ e. subst sound (sym (cond-false (peak_of m == 0) nothing (one_chunk (SymLeaf m) []) e))
    (chunk_sound arity_of matrices kind trees (SymLeaf m) refl (sym (goal ∙ cond-false (peak_of m == 0) Nothing (alone (SymLeaf m)) e)) chunk))
    (true_or_false (peak_of m == 0))

-- a canonical symmetric tree of height 0 shows its block
shown_symmetric_leaf : (b : ℕ) (c : MatChunk) (x y z w : Tree MatChunk) → IsCanonicalSymmetric b 0 (Root c x y z w)
    → symmetric_leaf_shown (view_of (Root c x y z w)) ≡ Some (block_of b 0 (Root c x y z w))
shown_symmetric_leaf b c x y z w is =
    ap (λ (content : MatChunk). symmetric_leaf_shown (view.There content (mask (is_there x) (is_there y) (is_there z) (is_there w)))) (root_of_symmetric_leaf b c x y z w is).0

-- ---- What holds at height 0

-- a kind with one input
module _ (what : What) (inputs : Inputs MatChunk) (there : all_present (presences_in inputs) ≡ true) where
  -- the answer is sound
  abbrev OneIsSound : Outcome MatChunk MatKind → Type 0
  OneIsSound answer =
      (b : ℕ) → HoldsOfOne what b 0 inputs there (λ (trees : List (Tree MatChunk)). IsSound arity_of matrices (kind_of what 0) trees answer)

  one_sound : inputs_of what ≡ 1 → (answer : Outcome MatChunk MatKind) → OneIsSound answer
      → (asked : What) (height : ℕ) → asked ≡ what → height ≡ 0 → IsSoundFor arity_of matrices (kind_of asked height) inputs answer
  one_sound one answer holds asked height e l =
      subst₂ (λ (what : What) height. IsSoundFor arity_of matrices (kind_of what height) inputs answer) (sym e) (sym l)
      (λ trees shows d. one_there what d.leaf 0 inputs there (λ (trees : List (Tree MatChunk)). IsSound arity_of matrices (kind_of what 0) trees answer) one (holds d.leaf) trees d.fits shows)

  -- so is what is needed
  one_fits : inputs_of what ≡ 1 → (P : Type 0)
      → ((b : ℕ) → b ≤ 64 → HoldsOfOne what b 0 inputs there (λ (trees : List (Tree MatChunk)). P))
      → (asked : What) (height : ℕ) → asked ≡ what → height ≡ 0 → (trees : List (Tree MatChunk)) → Shows inputs trees → IsDefined (kind_of asked height) trees → P
  one_fits one P holds asked height e l trees shows defined =
      let d = subst₂ (λ (what : What) height. IsDefined (kind_of what height) trees) e l defined in
      one_there what d.leaf 0 inputs there (λ (trees : List (Tree MatChunk)). P) one (holds d.leaf d.leaf_high) trees d.fits shows

  -- a kind with two
  abbrev TwoIsSound : Outcome MatChunk MatKind → Type 0
  TwoIsSound answer =
      (b : ℕ) → HoldsOfTwo what b 0 inputs there (λ (trees : List (Tree MatChunk)). IsSound arity_of matrices (kind_of what 0) trees answer)

  two_sound : inputs_of what ≡ 2 → (answer : Outcome MatChunk MatKind) → TwoIsSound answer
      → (asked : What) (height : ℕ) → asked ≡ what → height ≡ 0 → IsSoundFor arity_of matrices (kind_of asked height) inputs answer
  two_sound two answer holds asked height e l =
      subst₂ (λ (what : What) height. IsSoundFor arity_of matrices (kind_of what height) inputs answer) (sym e) (sym l)
      (λ trees shows d. two_there what d.leaf 0 inputs there (λ (trees : List (Tree MatChunk)). IsSound arity_of matrices (kind_of what 0) trees answer) two (holds d.leaf) trees d.fits shows)

  two_fits : inputs_of what ≡ 2 → (P : Type 0)
      → ((b : ℕ) → b ≤ 64 → HoldsOfTwo what b 0 inputs there (λ (trees : List (Tree MatChunk)). P))
      → (asked : What) (height : ℕ) → asked ≡ what → height ≡ 0 → (trees : List (Tree MatChunk)) → Shows inputs trees → IsDefined (kind_of asked height) trees → P
  two_fits two P holds asked height e l trees shows defined =
      let d = subst₂ (λ (what : What) height. IsDefined (kind_of what height) trees) e l defined in
      two_there what d.leaf 0 inputs there (λ (trees : List (Tree MatChunk)). P) two (holds d.leaf d.leaf_high) trees d.fits shows

-- ---- The kinds

module _ (inputs : Inputs MatChunk) (there : all_present (presences_in inputs) ≡ true) (asked : What) (height : ℕ) where
  -- what is shown of an input of height 0
  symmetric_shown : (b : ℕ) (c : MatChunk) (x y z w : Tree MatChunk) (input : View MatChunk) → input ≡ view_of (Root c x y z w) → IsCanonicalSymmetric b 0 (Root c x y z w)
      → symmetric_leaf_shown input ≡ Some (block_of b 0 (Root c x y z w))
  symmetric_shown b c x y z w input e is = ap symmetric_leaf_shown e ∙ shown_symmetric_leaf b c x y z w is

  general_shown : (b : ℕ) (c : MatChunk) (x y z w : Tree MatChunk) (input : View MatChunk) → input ≡ view_of (Root c x y z w) → IsCanonical b 0 (Root c x y z w)
      → leaf_shown input ≡ Some (block_of b 0 (Root c x y z w))
  general_shown b c x y z w input e is = ap leaf_shown e ∙ shown_leaf b c x y z w is

  -- the general form
  pub full_sound : asked ≡ Full → height ≡ 0 → IsSoundFor arity_of matrices (kind_of asked height) inputs (full_answer (symmetric_leaf_shown inputs.first))
  full_sound e l =
      one_sound Full inputs there refl (full_answer (symmetric_leaf_shown inputs.first))
      (λ b c x0 x1 x2 x3 fits shows.
      let x : Tree MatChunk = Root c x0 x1 x2 x3 in
      subst (λ (m : Option Matrix). IsSound arity_of matrices (kind_of Full 0) (x ∷ []) (full_answer m)) (sym (symmetric_shown b c x0 x1 x2 x3 inputs.first (first-shown_one inputs x shows) fits))
      (leaf_sound b (kind_of Full 0) (x ∷ []) (block_of b 0 x) (goal_any b Full 0 (x ∷ []) fits) (inl refl) (inr (inl refl))))
      asked height e l

  pub full_fits : asked ≡ Full → height ≡ 0 → (trees : List (Tree MatChunk)) → Shows inputs trees → IsDefined (kind_of asked height) trees → IsLeaf (symmetric_leaf_shown inputs.first)
  full_fits e l =
      one_fits Full inputs there refl (IsLeaf (symmetric_leaf_shown inputs.first))
      (λ b side c x0 x1 x2 x3 fits shows.
      let x : Tree MatChunk = Root c x0 x1 x2 x3 in
      subst IsLeaf (sym (symmetric_shown b c x0 x1 x2 x3 inputs.first (first-shown_one inputs x shows) fits)) (omega (arith, fits.sized.tall, side_low b, side)))
      asked height e l

  -- the trace
  pub trace_sound : asked ≡ STrace → height ≡ 0 → IsSoundFor arity_of matrices (kind_of asked height) inputs (trace_answer (symmetric_leaf_shown inputs.first))
  trace_sound e l =
      one_sound STrace inputs there refl (trace_answer (symmetric_leaf_shown inputs.first))
      (λ b c x0 x1 x2 x3 fits shows.
      let x : Tree MatChunk = Root c x0 x1 x2 x3 in
      subst (λ (m : Option Matrix). IsSound arity_of matrices (kind_of STrace 0) (x ∷ []) (trace_answer m)) (sym (symmetric_shown b c x0 x1 x2 x3 inputs.first (first-shown_one inputs x shows) fits.0))
      (number_sound (kind_of STrace 0) (x ∷ []) (trace_of (block_of b 0 x)) (goal_any b STrace 0 (x ∷ []) fits) (inl refl) (inr (inl refl))))
      asked height e l

  pub trace_fits : asked ≡ STrace → height ≡ 0 → (trees : List (Tree MatChunk)) → Shows inputs trees → IsDefined (kind_of asked height) trees → LeafFits (symmetric_leaf_shown inputs.first)
  trace_fits e l =
      one_fits STrace inputs there refl (LeafFits (symmetric_leaf_shown inputs.first))
      (λ b side c x0 x1 x2 x3 fits shows.
      let x : Tree MatChunk = Root c x0 x1 x2 x3 in
      subst LeafFits (sym (symmetric_shown b c x0 x1 x2 x3 inputs.first (first-shown_one inputs x shows) fits.0)) fits.1)
      asked height e l

  -- the sum
  pub add_sound : asked ≡ SAdd → height ≡ 0 → IsSoundFor arity_of matrices (kind_of asked height) inputs (symmetric_add_answer (symmetric_leaf_shown inputs.first) (symmetric_leaf_shown inputs.second))
  add_sound e l =
      two_sound SAdd inputs there refl (symmetric_add_answer (symmetric_leaf_shown inputs.first) (symmetric_leaf_shown inputs.second))
      (λ b c x0 x1 x2 x3 d y0 y1 y2 y3 fits shows.
      let x : Tree MatChunk = Root c x0 x1 x2 x3 in
      let y : Tree MatChunk = Root d y0 y1 y2 y3 in
      subst₂ (λ (m n : Option Matrix). IsSound arity_of matrices (kind_of SAdd 0) (x ∷ y ∷ []) (symmetric_add_answer m n))
      (sym (symmetric_shown b c x0 x1 x2 x3 inputs.first (first-shown_two inputs x y shows) fits.0)) (sym (symmetric_shown b d y0 y1 y2 y3 inputs.second (second-shown_two inputs x y shows) fits.1))
      (symmetric_leaf_sound b (kind_of SAdd 0) (x ∷ y ∷ []) (plus (block_of b 0 x) (block_of b 0 y)) (goal_any b SAdd 0 (x ∷ y ∷ []) fits) (inl refl) (inr (inl refl))))
      asked height e l

  pub add_fits : asked ≡ SAdd → height ≡ 0 → (trees : List (Tree MatChunk)) → Shows inputs trees → IsDefined (kind_of asked height) trees → LeavesFit (symmetric_leaf_shown inputs.first) (symmetric_leaf_shown inputs.second)
  add_fits e l =
      two_fits SAdd inputs there refl (LeavesFit (symmetric_leaf_shown inputs.first) (symmetric_leaf_shown inputs.second))
      (λ b side c x0 x1 x2 x3 d y0 y1 y2 y3 fits shows.
      let x : Tree MatChunk = Root c x0 x1 x2 x3 in
      let y : Tree MatChunk = Root d y0 y1 y2 y3 in
      subst₂ (λ (m n : Option Matrix). LeavesFit m n)
      (sym (symmetric_shown b c x0 x1 x2 x3 inputs.first (first-shown_two inputs x y shows) fits.0)) (sym (symmetric_shown b d y0 y1 y2 y3 inputs.second (second-shown_two inputs x y shows) fits.1))
      (fits.0.sized.tall ∙ sym fits.1.sized.tall, omega (arith, fits.0.sized.tall, side_low b, side), fits.2))
      asked height e l

  -- the square
  pub square_sound : asked ≡ Square → height ≡ 0 → IsSoundFor arity_of matrices (kind_of asked height) inputs (own_product_answer Neither (symmetric_leaf_shown inputs.first))
  square_sound e l =
      one_sound Square inputs there refl (own_product_answer Neither (symmetric_leaf_shown inputs.first))
      (λ b c x0 x1 x2 x3 fits shows.
      let x : Tree MatChunk = Root c x0 x1 x2 x3 in
      subst (λ (m : Option Matrix). IsSound arity_of matrices (kind_of Square 0) (x ∷ []) (own_product_answer Neither m)) (sym (symmetric_shown b c x0 x1 x2 x3 inputs.first (first-shown_one inputs x shows) fits.0))
      (symmetric_leaf_sound b (kind_of Square 0) (x ∷ []) (product_of Neither (block_of b 0 x) (block_of b 0 x)) (goal_any b Square 0 (x ∷ []) fits) (inl refl) (inr (inl refl))))
      asked height e l

  pub square_fits : asked ≡ Square → height ≡ 0 → (trees : List (Tree MatChunk)) → Shows inputs trees → IsDefined (kind_of asked height) trees → FactorsAreLeaves Neither (symmetric_leaf_shown inputs.first) (symmetric_leaf_shown inputs.first)
  square_fits e l =
      one_fits Square inputs there refl (FactorsAreLeaves Neither (symmetric_leaf_shown inputs.first) (symmetric_leaf_shown inputs.first))
      (λ b side c x0 x1 x2 x3 fits shows.
      let x : Tree MatChunk = Root c x0 x1 x2 x3 in
      subst (λ (m : Option Matrix). FactorsAreLeaves Neither m m) (sym (symmetric_shown b c x0 x1 x2 x3 inputs.first (first-shown_one inputs x shows) fits.0))
      (refl, omega (arith, fits.0.sized.tall, side_low b, side), fits.1))
      asked height e l

  -- products with the own transpose
  pub rank_sound : asked ≡ RankMul → height ≡ 0 → IsSoundFor arity_of matrices (kind_of asked height) inputs (own_product_answer Second (leaf_shown inputs.first))
  rank_sound e l =
      one_sound RankMul inputs there refl (own_product_answer Second (leaf_shown inputs.first))
      (λ b c x0 x1 x2 x3 fits shows.
      let x : Tree MatChunk = Root c x0 x1 x2 x3 in
      subst (λ (m : Option Matrix). IsSound arity_of matrices (kind_of RankMul 0) (x ∷ []) (own_product_answer Second m)) (sym (general_shown b c x0 x1 x2 x3 inputs.first (first-shown_one inputs x shows) fits.0))
      (symmetric_leaf_sound b (kind_of RankMul 0) (x ∷ []) (product_of Second (block_of b 0 x) (block_of b 0 x)) (goal_any b RankMul 0 (x ∷ []) fits) (inl refl) (inr (inl refl))))
      asked height e l

  pub rank_fits : asked ≡ RankMul → height ≡ 0 → (trees : List (Tree MatChunk)) → Shows inputs trees → IsDefined (kind_of asked height) trees → FactorsAreLeaves Second (leaf_shown inputs.first) (leaf_shown inputs.first)
  rank_fits e l =
      one_fits RankMul inputs there refl (FactorsAreLeaves Second (leaf_shown inputs.first) (leaf_shown inputs.first))
      (λ b side c x0 x1 x2 x3 fits shows.
      let x : Tree MatChunk = Root c x0 x1 x2 x3 in
      subst (λ (m : Option Matrix). FactorsAreLeaves Second m m) (sym (general_shown b c x0 x1 x2 x3 inputs.first (first-shown_one inputs x shows) fits.0))
      (refl, omega (arith, fits.0.sized.tall, side_low b, side), fits.1))
      asked height e l

  pub transposed_rank_sound : asked ≡ TRank → height ≡ 0 → IsSoundFor arity_of matrices (kind_of asked height) inputs (own_product_answer First (leaf_shown inputs.first))
  transposed_rank_sound e l =
      one_sound TRank inputs there refl (own_product_answer First (leaf_shown inputs.first))
      (λ b c x0 x1 x2 x3 fits shows.
      let x : Tree MatChunk = Root c x0 x1 x2 x3 in
      subst (λ (m : Option Matrix). IsSound arity_of matrices (kind_of TRank 0) (x ∷ []) (own_product_answer First m)) (sym (general_shown b c x0 x1 x2 x3 inputs.first (first-shown_one inputs x shows) fits.0))
      (symmetric_leaf_sound b (kind_of TRank 0) (x ∷ []) (product_of First (block_of b 0 x) (block_of b 0 x)) (goal_any b TRank 0 (x ∷ []) fits) (inl refl) (inr (inl refl))))
      asked height e l

  pub transposed_rank_fits : asked ≡ TRank → height ≡ 0 → (trees : List (Tree MatChunk)) → Shows inputs trees → IsDefined (kind_of asked height) trees → FactorsAreLeaves First (leaf_shown inputs.first) (leaf_shown inputs.first)
  transposed_rank_fits e l =
      one_fits TRank inputs there refl (FactorsAreLeaves First (leaf_shown inputs.first) (leaf_shown inputs.first))
      (λ b side c x0 x1 x2 x3 fits shows.
      let x : Tree MatChunk = Root c x0 x1 x2 x3 in
      subst (λ (m : Option Matrix). FactorsAreLeaves First m m) (sym (general_shown b c x0 x1 x2 x3 inputs.first (first-shown_one inputs x shows) fits.0))
      (refl, omega (arith, fits.0.sized.tall, side_low b, side), fits.1))
      asked height e l

  -- products with a symmetric factor
  pub symmetric_first_sound : asked ≡ SMul → height ≡ 0 → IsSoundFor arity_of matrices (kind_of asked height) inputs (product_answer Neither (symmetric_leaf_shown inputs.first) (leaf_shown inputs.second))
  symmetric_first_sound e l =
      two_sound SMul inputs there refl (product_answer Neither (symmetric_leaf_shown inputs.first) (leaf_shown inputs.second))
      (λ b c x0 x1 x2 x3 d y0 y1 y2 y3 fits shows.
      let x : Tree MatChunk = Root c x0 x1 x2 x3 in
      let y : Tree MatChunk = Root d y0 y1 y2 y3 in
      subst₂ (λ (m n : Option Matrix). IsSound arity_of matrices (kind_of SMul 0) (x ∷ y ∷ []) (product_answer Neither m n))
      (sym (symmetric_shown b c x0 x1 x2 x3 inputs.first (first-shown_two inputs x y shows) fits.0)) (sym (general_shown b d y0 y1 y2 y3 inputs.second (second-shown_two inputs x y shows) fits.1))
      (leaf_sound b (kind_of SMul 0) (x ∷ y ∷ []) (product_of Neither (block_of b 0 x) (block_of b 0 y)) (goal_any b SMul 0 (x ∷ y ∷ []) fits) (inl refl) (inr (inl refl))))
      asked height e l

  pub symmetric_first_fits : asked ≡ SMul → height ≡ 0 → (trees : List (Tree MatChunk)) → Shows inputs trees → IsDefined (kind_of asked height) trees → FactorsAreLeaves Neither (symmetric_leaf_shown inputs.first) (leaf_shown inputs.second)
  symmetric_first_fits e l =
      two_fits SMul inputs there refl (FactorsAreLeaves Neither (symmetric_leaf_shown inputs.first) (leaf_shown inputs.second))
      (λ b side c x0 x1 x2 x3 d y0 y1 y2 y3 fits shows.
      let x : Tree MatChunk = Root c x0 x1 x2 x3 in
      let y : Tree MatChunk = Root d y0 y1 y2 y3 in
      subst₂ (λ (m n : Option Matrix). FactorsAreLeaves Neither m n)
      (sym (symmetric_shown b c x0 x1 x2 x3 inputs.first (first-shown_two inputs x y shows) fits.0)) (sym (general_shown b d y0 y1 y2 y3 inputs.second (second-shown_two inputs x y shows) fits.1))
      (fits.0.sized.tall ∙ sym fits.1.sized.tall, omega (arith, fits.0.sized.tall, side_low b, side), fits.2))
      asked height e l

  pub symmetric_second_sound : asked ≡ MulS → height ≡ 0 → IsSoundFor arity_of matrices (kind_of asked height) inputs (product_answer Neither (leaf_shown inputs.first) (symmetric_leaf_shown inputs.second))
  symmetric_second_sound e l =
      two_sound MulS inputs there refl (product_answer Neither (leaf_shown inputs.first) (symmetric_leaf_shown inputs.second))
      (λ b c x0 x1 x2 x3 d y0 y1 y2 y3 fits shows.
      let x : Tree MatChunk = Root c x0 x1 x2 x3 in
      let y : Tree MatChunk = Root d y0 y1 y2 y3 in
      subst₂ (λ (m n : Option Matrix). IsSound arity_of matrices (kind_of MulS 0) (x ∷ y ∷ []) (product_answer Neither m n))
      (sym (general_shown b c x0 x1 x2 x3 inputs.first (first-shown_two inputs x y shows) fits.0)) (sym (symmetric_shown b d y0 y1 y2 y3 inputs.second (second-shown_two inputs x y shows) fits.1))
      (leaf_sound b (kind_of MulS 0) (x ∷ y ∷ []) (product_of Neither (block_of b 0 x) (block_of b 0 y)) (goal_any b MulS 0 (x ∷ y ∷ []) fits) (inl refl) (inr (inl refl))))
      asked height e l

  pub symmetric_second_fits : asked ≡ MulS → height ≡ 0 → (trees : List (Tree MatChunk)) → Shows inputs trees → IsDefined (kind_of asked height) trees → FactorsAreLeaves Neither (leaf_shown inputs.first) (symmetric_leaf_shown inputs.second)
  symmetric_second_fits e l =
      two_fits MulS inputs there refl (FactorsAreLeaves Neither (leaf_shown inputs.first) (symmetric_leaf_shown inputs.second))
      (λ b side c x0 x1 x2 x3 d y0 y1 y2 y3 fits shows.
      let x : Tree MatChunk = Root c x0 x1 x2 x3 in
      let y : Tree MatChunk = Root d y0 y1 y2 y3 in
      subst₂ (λ (m n : Option Matrix). FactorsAreLeaves Neither m n)
      (sym (general_shown b c x0 x1 x2 x3 inputs.first (first-shown_two inputs x y shows) fits.0)) (sym (symmetric_shown b d y0 y1 y2 y3 inputs.second (second-shown_two inputs x y shows) fits.1))
      (fits.0.sized.tall ∙ sym fits.1.sized.tall, omega (arith, fits.0.sized.tall, side_low b, side), fits.2))
      asked height e l

-- ---- Lists of entries

-- the symmetric leaf of sound entries is what they stand for
symmetric_leaf_is : (b : ℕ) (e : Entries) → AreSoundEntries b 0 true e → mirrored_block e.leaf e.list ≡ block_of b 0 (alone (chunk.Entries e))
symmetric_leaf_is b e sound =
    ap (λ side. mirrored_block side e.list) (sound.leaf ∙ sym (side_low b)) ∙ ap (λ mirrored. block_listed mirrored (side_of b 0) e.list) (sym sound.symmetric)

assign_at : (b : ℕ) (c : MatChunk) (x0 x1 x2 x3 : Tree MatChunk) → FitsAt b SAssign 0 (Root c x0 x1 x2 x3 ∷ [])
    → IsSound arity_of matrices (kind_of SAssign 0) (Root c x0 x1 x2 x3 ∷ []) (symmetric_assign_answer (entries_shown (view_of (Root c x0 x1 x2 x3))))
assign_at b (chunk.Leaf m) x0 x1 x2 x3 fits = absurd fits
assign_at b (chunk.Node k peak) x0 x1 x2 x3 fits = absurd fits
assign_at b (chunk.SymLeaf m) x0 x1 x2 x3 fits = absurd fits
assign_at b (chunk.SymNode k peak) x0 x1 x2 x3 fits = absurd fits
assign_at b (chunk.Num n) x0 x1 x2 x3 fits = absurd fits
assign_at b (chunk.Entries e) x0 x1 x2 x3 fits =
    let x : Tree MatChunk = Root (chunk.Entries e) x0 x1 x2 x3 in
    subst (λ (m : Matrix). IsSound arity_of matrices (kind_of SAssign 0) (x ∷ []) (symmetric_leaf_outcome m)) (sym (symmetric_leaf_is b e fits.0))
    (symmetric_leaf_sound b (kind_of SAssign 0) (x ∷ []) (block_of b 0 x) (goal_any b SAssign 0 (x ∷ []) fits) (inl refl) (inr (inl refl)))

entries_at : (b : ℕ) (c : MatChunk) (x0 x1 x2 x3 : Tree MatChunk) → FitsAt b SAssign 0 (Root c x0 x1 x2 x3 ∷ []) → AreForSymmetricLeaf (entries_shown (view_of (Root c x0 x1 x2 x3)))
entries_at b (chunk.Leaf m) x0 x1 x2 x3 fits = absurd fits
entries_at b (chunk.Node k peak) x0 x1 x2 x3 fits = absurd fits
entries_at b (chunk.SymLeaf m) x0 x1 x2 x3 fits = absurd fits
entries_at b (chunk.SymNode k peak) x0 x1 x2 x3 fits = absurd fits
entries_at b (chunk.Num n) x0 x1 x2 x3 fits = absurd fits
entries_at b (chunk.Entries e) x0 x1 x2 x3 fits = subst (λ leaf. AreSoundEntries leaf 0 true e) (sym fits.0.leaf) fits.0

module _ (inputs : Inputs MatChunk) (there : all_present (presences_in inputs) ≡ true) (asked : What) (height : ℕ) where
  pub assign_sound : asked ≡ SAssign → height ≡ 0 → IsSoundFor arity_of matrices (kind_of asked height) inputs (symmetric_assign_answer (entries_shown inputs.first))
  assign_sound e l =
      one_sound SAssign inputs there refl (symmetric_assign_answer (entries_shown inputs.first))
      (λ b c x0 x1 x2 x3 fits shows.
      let x : Tree MatChunk = Root c x0 x1 x2 x3 in
      subst (λ (input : View MatChunk). IsSound arity_of matrices (kind_of SAssign 0) (x ∷ []) (symmetric_assign_answer (entries_shown input))) (sym (first-shown_one inputs x shows))
      (assign_at b c x0 x1 x2 x3 fits))
      asked height e l

  pub assign_fits : asked ≡ SAssign → height ≡ 0 → (trees : List (Tree MatChunk)) → Shows inputs trees → IsDefined (kind_of asked height) trees → AreForSymmetricLeaf (entries_shown inputs.first)
  assign_fits e l =
      one_fits SAssign inputs there refl (AreForSymmetricLeaf (entries_shown inputs.first))
      (λ b side c x0 x1 x2 x3 fits shows.
      let x : Tree MatChunk = Root c x0 x1 x2 x3 in
      subst (λ (input : View MatChunk). AreForSymmetricLeaf (entries_shown input)) (sym (first-shown_one inputs x shows)) (entries_at b c x0 x1 x2 x3 fits))
      asked height e l
