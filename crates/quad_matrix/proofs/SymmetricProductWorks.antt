-- The works of products with a symmetric factor, and of symmetric products, add up.
use Rattle.std.proofs.Common.{◌≡◌, ℕ, zero, suc, ◌+◌, Bool, true, false, cond, not, ◌&&◌, ◌||◌, List, [], ◌∷◌, ◌++◌, sum, refl, sym, ap, ap₂, ◌∙◌, arith}
use Rattle.std.proofs.lemmas.Bool.{or_parts}
use Rattle.task_types.specs.declared.outcome.NewTask.{NewTask}
use Rattle.task_types.specs.Tree.{Tree, is_there, child}
use Rattle.task_types.specs.Presence.{Presence, Absent, presence_of, has_child}
use Rattle.quad_matrix.specs.declared.chunk.MatChunk.{MatChunk}
use Rattle.quad_matrix.specs.declared.kind.What.{What}
use Rattle.quad_matrix.specs.declared.kind.What.TheVariants.{Add, Join, SAdd, SJoin}
use Rattle.quad_matrix.specs.declared.kind.MatKind.{MatKind}
use Rattle.quad_matrix.specs.Goals.{kind_of, kind_at, goal_of}
use Rattle.quad_matrix.specs.Matrices.{matrices}
use Rattle.task_plans.specs.declared.plan.Ending.TheVariants.{Joined}
use Rattle.task_plans.specs.declared.plan.Term.{Term}
use Rattle.task_plans.specs.Plans.{Draft, no_draft, with_pair, with_parts, are_null, ended, planned_shape, is_ready, term_task}
use Rattle.task_plans.specs.Steps.{term_trees}
use Rattle.quad_matrix.specs.Plans.{kept_child, symmetric_first, symmetric_first_term, symmetric_second, symmetric_second_term, quadrants_plan, square_term, rank_term, transposed_rank_term, symmetric_quadrants_plan}
use Rattle.quad_matrix.specs.Products.{child_in}
use Rattle.quad_matrix.specs.Works.{asked, work_of, are_both, add_work, pair_works, first_term_work, symmetric_first_work, second_term_work, symmetric_second_work, rank_work, transposed_rank_work, square_work}
use Rattle.task_plans.proofs.ForOthers.{IsPlainTask, pair_list, pair_work, pair_null, ended_work}
use Rattle.quad_matrix.proofs.Sides.{suc-sub_one}
use Rattle.quad_matrix.proofs.DraftWorks.{total, draft_work}
use Rattle.quad_matrix.proofs.AddWorks.{sum-append}
use Rattle.quad_matrix.proofs.ProductWorks.{and-true, child_known, pair_no, pair_list_is, four_pairs, pairs_total}
use Rattle.quad_matrix.proofs.SymmetricWorks.{ended_sum, null_three}

-- a test of two children of two trees that may be there
both_known : {C : Type 0} (x y : Tree C) (p q : ℕ) → (has_child (presence_of x) p && (has_child (presence_of y) q && true)) ≡ (is_there (child x p) && is_there (child y q))
both_known x y p q = ap₂ ◌&&◌ (child_known x p) (and-true (has_child (presence_of y) q) ∙ child_known y q)

-- a test of one
one_known : {C : Type 0} (x : Tree C) (p : ℕ) → (has_child (presence_of x) p && true) ≡ is_there (child x p)
one_known x p = and-true (has_child (presence_of x) p) ∙ child_known x p

-- ---- A symmetric first factor

-- the works of a quadrant
first_list : (low : ℕ) (s x : Tree MatChunk) (lower right a b : Bool)
    → pair_list a b
    (work_of (kind_at low (symmetric_first lower false)) (child s (kept_child lower false) ∷ child x (child_in false right) ∷ [])) (work_of (kind_at low (symmetric_first lower true)) (child s (kept_child lower true) ∷ child x (child_in true right) ∷ []))
    (add_work low (goal_of (kind_at low (symmetric_first lower false)) (child s (kept_child lower false) ∷ child x (child_in false right) ∷ [])) (goal_of (kind_at low (symmetric_first lower true)) (child s (kept_child lower true) ∷ child x (child_in true right) ∷ [])))
    ≡ pair_works a b
    (first_term_work lower false (symmetric_first_work low (child s (kept_child lower false)) (child x (child_in false right))) low (child s (kept_child lower false)) (child x (child_in false right)))
    (first_term_work lower true (symmetric_first_work low (child s (kept_child lower true)) (child x (child_in true right))) low (child s (kept_child lower true)) (child x (child_in true right)))
    (add_work low (goal_of (kind_of (symmetric_first lower false) low) (child s (kept_child lower false) ∷ child x (child_in false right) ∷ [])) (goal_of (kind_of (symmetric_first lower true) low) (child s (kept_child lower true) ∷ child x (child_in true right) ∷ [])))
first_list low s x false right a b = pair_list_is _ _ _ _ _
first_list low s x true right a b = pair_list_is _ _ _ _ _

-- the work is one more than the works of its tasks
pub symmetric_first_works : (h : ℕ) (s x : Tree MatChunk) (chunks : List (Tree MatChunk)) → symmetric_first_work (suc h) s x ≡ 1 + total (s ∷ x ∷ []) chunks (planned_shape kind_at (suc h) (quadrants_plan symmetric_first_term) (presence_of s ∷ presence_of x ∷ []) Absent)
symmetric_first_works h s x chunks =
    let trees : List (Tree MatChunk) = s ∷ x ∷ [] in
    let known : List Presence = presence_of s ∷ presence_of x ∷ [] in
    let task : ℕ → Bool → Bool → Bool → NewTask MatKind = λ low lower right far. term_task (kind_at low) (symmetric_first_term lower right far) in
    let inputs : Bool → Bool → Bool → List (Tree MatChunk) = λ lower right far. child s (kept_child lower far) ∷ child x (child_in far right) ∷ [] in
    let plain : (low : ℕ) (lower right far : Bool) → IsPlainTask matrices trees chunks (task low lower right far) (inputs lower right far) = λ low lower right far goals. refl in
    let ready : Bool → Bool → Bool → Bool = λ lower right far. is_ready known (symmetric_first_term lower right far) in
    let there : Bool → Bool → Bool → Bool = λ lower right far. are_both (child s (kept_child lower far)) (child x (child_in far right)) in
    let same : ready ≡ there = λ i lower right far. both_known s x (kept_child lower far) (child_in far right) i in
    let any : Bool = (there false false false || there false false true) || (there false true false || there false true true) || (there true false false || there true false true) || (there true true false || there true true true) in
    ap (λ n. 1 + n)
    (sym (ap (λ low. total trees chunks (ended (kind_at (suc h)) (Joined Join) (with_parts (kind_at low) known Absent no_draft (quadrants_plan symmetric_first_term).parts))) (suc-sub_one h)
    ∙ ap (λ (ready : Bool → Bool → Bool → Bool). total trees chunks (ended (kind_at (suc h)) (Joined Join) (four_pairs trees chunks h (task h) inputs (plain h) ready))) same
    ∙ pairs_total trees chunks h (task h) inputs (plain h) there (suc h)
    ∙ ap (λ (quadrant : Bool → Bool → List ℕ). sum (quadrant false false ++ quadrant false true ++ quadrant true false ++ quadrant true true ++ asked any 1)) (λ i lower right. first_list h s x lower right (there lower right false) (there lower right true) i)))

-- ---- A symmetric second factor

-- the works of a quadrant
second_list : (low : ℕ) (x s : Tree MatChunk) (lower right a b : Bool)
    → pair_list a b
    (work_of (kind_at low (symmetric_second right false)) (child x (child_in lower false) ∷ child s (kept_child right false) ∷ [])) (work_of (kind_at low (symmetric_second right true)) (child x (child_in lower true) ∷ child s (kept_child right true) ∷ []))
    (add_work low (goal_of (kind_at low (symmetric_second right false)) (child x (child_in lower false) ∷ child s (kept_child right false) ∷ [])) (goal_of (kind_at low (symmetric_second right true)) (child x (child_in lower true) ∷ child s (kept_child right true) ∷ [])))
    ≡ pair_works a b
    (second_term_work right false (symmetric_second_work low (child x (child_in lower false)) (child s (kept_child right false))) low (child x (child_in lower false)) (child s (kept_child right false)))
    (second_term_work right true (symmetric_second_work low (child x (child_in lower true)) (child s (kept_child right true))) low (child x (child_in lower true)) (child s (kept_child right true)))
    (add_work low (goal_of (kind_of (symmetric_second right false) low) (child x (child_in lower false) ∷ child s (kept_child right false) ∷ [])) (goal_of (kind_of (symmetric_second right true) low) (child x (child_in lower true) ∷ child s (kept_child right true) ∷ [])))
second_list low x s lower false a b = pair_list_is _ _ _ _ _
second_list low x s lower true a b = pair_list_is _ _ _ _ _

-- the work is one more than the works of its tasks
pub symmetric_second_works : (h : ℕ) (x s : Tree MatChunk) (chunks : List (Tree MatChunk)) → symmetric_second_work (suc h) x s ≡ 1 + total (x ∷ s ∷ []) chunks (planned_shape kind_at (suc h) (quadrants_plan symmetric_second_term) (presence_of x ∷ presence_of s ∷ []) Absent)
symmetric_second_works h x s chunks =
    let trees : List (Tree MatChunk) = x ∷ s ∷ [] in
    let known : List Presence = presence_of x ∷ presence_of s ∷ [] in
    let task : ℕ → Bool → Bool → Bool → NewTask MatKind = λ low lower right far. term_task (kind_at low) (symmetric_second_term lower right far) in
    let inputs : Bool → Bool → Bool → List (Tree MatChunk) = λ lower right far. child x (child_in lower far) ∷ child s (kept_child right far) ∷ [] in
    let plain : (low : ℕ) (lower right far : Bool) → IsPlainTask matrices trees chunks (task low lower right far) (inputs lower right far) = λ low lower right far goals. refl in
    let ready : Bool → Bool → Bool → Bool = λ lower right far. is_ready known (symmetric_second_term lower right far) in
    let there : Bool → Bool → Bool → Bool = λ lower right far. are_both (child x (child_in lower far)) (child s (kept_child right far)) in
    let same : ready ≡ there = λ i lower right far. both_known x s (child_in lower far) (kept_child right far) i in
    let any : Bool = (there false false false || there false false true) || (there false true false || there false true true) || (there true false false || there true false true) || (there true true false || there true true true) in
    ap (λ n. 1 + n)
    (sym (ap (λ low. total trees chunks (ended (kind_at (suc h)) (Joined Join) (with_parts (kind_at low) known Absent no_draft (quadrants_plan symmetric_second_term).parts))) (suc-sub_one h)
    ∙ ap (λ (ready : Bool → Bool → Bool → Bool). total trees chunks (ended (kind_at (suc h)) (Joined Join) (four_pairs trees chunks h (task h) inputs (plain h) ready))) same
    ∙ pairs_total trees chunks h (task h) inputs (plain h) there (suc h)
    ∙ ap (λ (quadrant : Bool → Bool → List ℕ). sum (quadrant false false ++ quadrant false true ++ quadrant true false ++ quadrant true true ++ asked any 1)) (λ i lower right. second_list h x s lower right (there lower right false) (there lower right true) i)))

-- ---- Symmetric products

-- lists that are equal three times are equal joined
three_same : (k l m k' l' m' n : List ℕ) → k ≡ k' → l ≡ l' → m ≡ m' → sum (k ++ l ++ m ++ n) ≡ sum (k' ++ l' ++ m' ++ n)
three_same k l m k' l' m' n ek el em = ap sum (ap (λ xs. xs ++ n) (ap₂ ◌++◌ (ap₂ ◌++◌ ek el) em))

-- what adds the two terms of a quadrant that is kept
abbrev added_at : ℕ → ℕ → MatKind
added_at low zero = kind_of SAdd low
added_at low (suc zero) = kind_of Add low
added_at low (suc (suc q)) = kind_of SAdd low

-- three pairs of tasks, each on known trees and ready or not
module _ (trees chunks : List (Tree MatChunk)) (low : ℕ) (task : ℕ → Bool → NewTask MatKind) (inputs : ℕ → Bool → List (Tree MatChunk)) (plain : (q : ℕ) (far : Bool) → IsPlainTask matrices trees chunks (task q far) (inputs q far)) (ready : ℕ → Bool → Bool) where
  -- a draft with one more pair
  abbrev paired : ℕ → Draft MatKind → Draft MatKind
  paired q draft = with_pair draft (task q false) (task q true) (added_at low q) (ready q false) (ready q true)

  -- all three
  abbrev three_pairs : Draft MatKind
  three_pairs = paired 2 (paired 1 (paired 0 no_draft))

  -- the works of a pair
  abbrev pair_at : ℕ → List ℕ
  pair_at q =
      pair_list (ready q false) (ready q true) (work_of (task q false).kind (inputs q false)) (work_of (task q true).kind (inputs q true))
      (work_of (added_at low q) (goal_of (task q false).kind (inputs q false) ∷ goal_of (task q true).kind (inputs q true) ∷ []))

  abbrev has_one : ℕ → Bool
  has_one q = ready q false || ready q true

  one_more : (q : ℕ) (draft : Draft MatKind) → draft_work trees chunks (paired q draft) ≡ draft_work trees chunks draft + sum (pair_at q)
  one_more q draft =
      pair_work matrices trees chunks draft (task q false) (task q true) (added_at low q) (inputs q false) (inputs q true) (ready q false) (ready q true) (plain q false) (plain q true)

  three_sum : sum (pair_at 0 ++ pair_at 1 ++ pair_at 2) ≡ sum (pair_at 0) + sum (pair_at 1) + sum (pair_at 2)
  three_sum = sum-append (pair_at 0 ++ pair_at 1) (pair_at 2) ∙ ap (λ n. n + sum (pair_at 2)) (sum-append (pair_at 0) (pair_at 1))

  three_work : draft_work trees chunks three_pairs ≡ sum (pair_at 0 ++ pair_at 1 ++ pair_at 2)
  three_work =
      let d1 : Draft MatKind = paired 0 no_draft in
      let d2 : Draft MatKind = paired 1 d1 in
      (let all : draft_work trees chunks three_pairs ≡ sum (pair_at 0) + sum (pair_at 1) + sum (pair_at 2) = omega (arith, one_more 0 no_draft, one_more 1 d1, one_more 2 d2) in all) ∙ sym three_sum

  none_more : (q : ℕ) (draft : Draft MatKind) → are_null (paired q draft).places ≡ (are_null draft.places && not (has_one q))
  none_more q draft = pair_null draft (task q false) (task q true) (added_at low q) (ready q false) (ready q true)

  three_null : are_null three_pairs.places ≡ not (has_one 0 || has_one 1 || has_one 2)
  three_null =
      let d1 : Draft MatKind = paired 0 no_draft in
      let d2 : Draft MatKind = paired 1 d1 in
      none_more 2 d2
      ∙ ap (λ t. t && not (has_one 2)) (none_more 1 d1
      ∙ ap (λ t. t && not (has_one 1)) (none_more 0 no_draft))
      ∙ null_three (has_one 0) (has_one 1) (has_one 2)

  none_at : (q : ℕ) → has_one q ≡ false → sum (pair_at q) ≡ 0
  none_at q e =
      pair_no (ready q false) (ready q true) (work_of (task q false).kind (inputs q false)) (work_of (task q true).kind (inputs q true)) (work_of (added_at low q) (goal_of (task q false).kind (inputs q false) ∷ goal_of (task q true).kind (inputs q true) ∷ [])) e

  three_none : (has_one 0 || has_one 1 || has_one 2) ≡ false → sum (pair_at 0 ++ pair_at 1 ++ pair_at 2) ≡ 0
  three_none none =
      let last = or_parts (has_one 0 || has_one 1) (has_one 2) none in
      let first = or_parts (has_one 0) (has_one 1) last.0 in
      three_sum ∙ (let all : sum (pair_at 0) + sum (pair_at 1) + sum (pair_at 2) ≡ 0 = omega (arith, none_at 0 first.0, none_at 1 first.1, none_at 2 last.1) in all)

  -- the works of the three pairs and of their join
  three_total : (height : ℕ) → total trees chunks (ended (kind_at height) (Joined SJoin) three_pairs) ≡ sum (pair_at 0 ++ pair_at 1 ++ pair_at 2 ++ asked (has_one 0 || has_one 1 || has_one 2) 1)
  three_total height =
      ended_work matrices trees chunks (kind_at height) SJoin three_pairs (λ inputs. refl)
      ∙ ap (λ test. cond test 0 (draft_work trees chunks three_pairs + 1)) three_null
      ∙ ended_sum (pair_at 0 ++ pair_at 1 ++ pair_at 2) (has_one 0 || has_one 1 || has_one 2) (draft_work trees chunks three_pairs) three_none three_work

  -- the works of a pair, as the definitions have them
  abbrev works_at : ℕ → List ℕ
  works_at q =
      pair_works (ready q false) (ready q true) (work_of (task q false).kind (inputs q false)) (work_of (task q true).kind (inputs q true))
      (work_of (added_at low q) (goal_of (task q false).kind (inputs q false) ∷ goal_of (task q true).kind (inputs q true) ∷ []))

  same_works : (q : ℕ) → pair_at q ≡ works_at q
  same_works q =
      pair_list_is (ready q false) (ready q true) (work_of (task q false).kind (inputs q false)) (work_of (task q true).kind (inputs q true))
      (work_of (added_at low q) (goal_of (task q false).kind (inputs q false) ∷ goal_of (task q true).kind (inputs q true) ∷ []))

  three_works : (height : ℕ) → total trees chunks (ended (kind_at height) (Joined SJoin) three_pairs) ≡ sum (works_at 0 ++ works_at 1 ++ works_at 2 ++ asked (has_one 0 || has_one 1 || has_one 2) 1)
  three_works height =
      three_total height
      ∙ three_same (pair_at 0) (pair_at 1) (pair_at 2) (works_at 0) (works_at 1) (works_at 2) (asked (has_one 0 || has_one 1 || has_one 2) 1) (same_works 0) (same_works 1) (same_works 2)

-- the total of a plan of three quadrants, where it is known of each term that it is ready
module _ (x : Tree MatChunk) (chunks : List (Tree MatChunk)) (term : ℕ → Bool → Term What) (there : ℕ → Bool → Bool) (plain : (low q : ℕ) (far : Bool) → IsPlainTask matrices (x ∷ []) chunks (term_task (kind_at low) (term q far)) (term_trees (x ∷ []) (term q far))) (same : (q : ℕ) (far : Bool) → is_ready (presence_of x ∷ []) (term q far) ≡ there q far) where
  quadrants_total : (h : ℕ) → total (x ∷ []) chunks (planned_shape kind_at (suc h) (symmetric_quadrants_plan term) (presence_of x ∷ []) Absent)
      ≡ total (x ∷ []) chunks (ended (kind_at (suc h)) (Joined SJoin) (three_pairs (x ∷ []) chunks h (λ q far. term_task (kind_at h) (term q far)) (λ q far. term_trees (x ∷ []) (term q far)) (plain h) there))
  quadrants_total h =
      let known : List Presence = presence_of x ∷ [] in
      let all : (λ (q : ℕ) (far : Bool). is_ready known (term q far)) ≡ there = λ i q far. same q far i in
      ap (λ low. total (x ∷ []) chunks (ended (kind_at (suc h)) (Joined SJoin) (with_parts (kind_at low) known Absent no_draft (symmetric_quadrants_plan term).parts))) (suc-sub_one h)
      ∙ ap (λ (ready : ℕ → Bool → Bool). total (x ∷ []) chunks (ended (kind_at (suc h)) (Joined SJoin) (three_pairs (x ∷ []) chunks h (λ q far. term_task (kind_at h) (term q far)) (λ q far. term_trees (x ∷ []) (term q far)) (plain h) ready))) all

-- the terms of a product of a block with its own transpose
abbrev rank_there : Tree MatChunk → ℕ → Bool → Bool
rank_there x zero false = is_there (child x 0)
rank_there x zero true = is_there (child x 1)
rank_there x (suc zero) false = are_both (child x 0) (child x 2)
rank_there x (suc zero) true = are_both (child x 1) (child x 3)
rank_there x (suc (suc q)) false = is_there (child x 2)
rank_there x (suc (suc q)) true = is_there (child x 3)

rank_same : (x : Tree MatChunk) (q : ℕ) (far : Bool) → is_ready (presence_of x ∷ []) (rank_term q far) ≡ rank_there x q far
rank_same x zero false = one_known x 0
rank_same x zero true = one_known x 1
rank_same x (suc zero) false = both_known x x 0 2
rank_same x (suc zero) true = both_known x x 1 3
rank_same x (suc (suc q)) false = one_known x 2
rank_same x (suc (suc q)) true = one_known x 3

rank_plain : (x : Tree MatChunk) (chunks : List (Tree MatChunk)) (low q : ℕ) (far : Bool) → IsPlainTask matrices (x ∷ []) chunks (term_task (kind_at low) (rank_term q far)) (term_trees (x ∷ []) (rank_term q far))
rank_plain x chunks low zero false = λ goals. refl
rank_plain x chunks low zero true = λ goals. refl
rank_plain x chunks low (suc zero) false = λ goals. refl
rank_plain x chunks low (suc zero) true = λ goals. refl
rank_plain x chunks low (suc (suc q)) false = λ goals. refl
rank_plain x chunks low (suc (suc q)) true = λ goals. refl

pub rank_works : (h : ℕ) (x : Tree MatChunk) (chunks : List (Tree MatChunk)) → rank_work (suc h) x ≡ 1 + total (x ∷ []) chunks (planned_shape kind_at (suc h) (symmetric_quadrants_plan rank_term) (presence_of x ∷ []) Absent)
rank_works h x chunks =
    ap (λ n. 1 + n)
    (sym (quadrants_total x chunks rank_term (rank_there x) (rank_plain x chunks) (rank_same x) h
    ∙ three_works (x ∷ []) chunks h (λ q far. term_task (kind_at h) (rank_term q far)) (λ q far. term_trees (x ∷ []) (rank_term q far)) (rank_plain x chunks h) (rank_there x) (suc h)))

-- the terms of a product of the transpose of a block with the block
abbrev transposed_rank_there : Tree MatChunk → ℕ → Bool → Bool
transposed_rank_there x zero false = is_there (child x 0)
transposed_rank_there x zero true = is_there (child x 2)
transposed_rank_there x (suc zero) false = are_both (child x 0) (child x 1)
transposed_rank_there x (suc zero) true = are_both (child x 2) (child x 3)
transposed_rank_there x (suc (suc q)) false = is_there (child x 1)
transposed_rank_there x (suc (suc q)) true = is_there (child x 3)

transposed_rank_same : (x : Tree MatChunk) (q : ℕ) (far : Bool) → is_ready (presence_of x ∷ []) (transposed_rank_term q far) ≡ transposed_rank_there x q far
transposed_rank_same x zero false = one_known x 0
transposed_rank_same x zero true = one_known x 2
transposed_rank_same x (suc zero) false = both_known x x 0 1
transposed_rank_same x (suc zero) true = both_known x x 2 3
transposed_rank_same x (suc (suc q)) false = one_known x 1
transposed_rank_same x (suc (suc q)) true = one_known x 3

transposed_rank_plain : (x : Tree MatChunk) (chunks : List (Tree MatChunk)) (low q : ℕ) (far : Bool) → IsPlainTask matrices (x ∷ []) chunks (term_task (kind_at low) (transposed_rank_term q far)) (term_trees (x ∷ []) (transposed_rank_term q far))
transposed_rank_plain x chunks low zero false = λ goals. refl
transposed_rank_plain x chunks low zero true = λ goals. refl
transposed_rank_plain x chunks low (suc zero) false = λ goals. refl
transposed_rank_plain x chunks low (suc zero) true = λ goals. refl
transposed_rank_plain x chunks low (suc (suc q)) false = λ goals. refl
transposed_rank_plain x chunks low (suc (suc q)) true = λ goals. refl

pub transposed_rank_works : (h : ℕ) (x : Tree MatChunk) (chunks : List (Tree MatChunk)) → transposed_rank_work (suc h) x ≡ 1 + total (x ∷ []) chunks (planned_shape kind_at (suc h) (symmetric_quadrants_plan transposed_rank_term) (presence_of x ∷ []) Absent)
transposed_rank_works h x chunks =
    ap (λ n. 1 + n)
    (sym (quadrants_total x chunks transposed_rank_term (transposed_rank_there x) (transposed_rank_plain x chunks) (transposed_rank_same x) h
    ∙ three_works (x ∷ []) chunks h (λ q far. term_task (kind_at h) (transposed_rank_term q far)) (λ q far. term_trees (x ∷ []) (transposed_rank_term q far)) (transposed_rank_plain x chunks h) (transposed_rank_there x) (suc h)))

-- the terms of a square
abbrev square_there : Tree MatChunk → ℕ → Bool → Bool
square_there x zero false = is_there (child x 0)
square_there x zero true = is_there (child x 1)
square_there x (suc zero) false = are_both (child x 0) (child x 1)
square_there x (suc zero) true = are_both (child x 1) (child x 2)
square_there x (suc (suc q)) false = is_there (child x 1)
square_there x (suc (suc q)) true = is_there (child x 2)

square_same : (x : Tree MatChunk) (q : ℕ) (far : Bool) → is_ready (presence_of x ∷ []) (square_term q far) ≡ square_there x q far
square_same x zero false = one_known x 0
square_same x zero true = one_known x 1
square_same x (suc zero) false = both_known x x 0 1
square_same x (suc zero) true = both_known x x 1 2
square_same x (suc (suc q)) false = one_known x 1
square_same x (suc (suc q)) true = one_known x 2

square_plain : (x : Tree MatChunk) (chunks : List (Tree MatChunk)) (low q : ℕ) (far : Bool) → IsPlainTask matrices (x ∷ []) chunks (term_task (kind_at low) (square_term q far)) (term_trees (x ∷ []) (square_term q far))
square_plain x chunks low zero false = λ goals. refl
square_plain x chunks low zero true = λ goals. refl
square_plain x chunks low (suc zero) false = λ goals. refl
square_plain x chunks low (suc zero) true = λ goals. refl
square_plain x chunks low (suc (suc q)) false = λ goals. refl
square_plain x chunks low (suc (suc q)) true = λ goals. refl

pub square_works : (h : ℕ) (x : Tree MatChunk) (chunks : List (Tree MatChunk)) → square_work (suc h) x ≡ 1 + total (x ∷ []) chunks (planned_shape kind_at (suc h) (symmetric_quadrants_plan square_term) (presence_of x ∷ []) Absent)
square_works h x chunks =
    ap (λ n. 1 + n)
    (sym (quadrants_total x chunks square_term (square_there x) (square_plain x chunks) (square_same x) h
    ∙ three_works (x ∷ []) chunks h (λ q far. term_task (kind_at h) (square_term q far)) (λ q far. term_trees (x ∷ []) (square_term q far)) (square_plain x chunks h) (square_there x) (suc h)))
