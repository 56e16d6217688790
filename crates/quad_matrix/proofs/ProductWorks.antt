-- The work of a product and of a transpose adds up.
use Rattle.std.proofs.Common.{◌≡◌, ℕ, zero, suc, ◌+◌, Bool, true, false, cond, not, ◌&&◌, ◌||◌, List, [], ◌∷◌, ◌++◌, sum, refl, sym, ap, ap₂, ◌∙◌, arith, ⊎_elim}
use Rattle.std.proofs.lemmas.Bool.{cases_Bool, or_parts, true≢false}
use Rattle.task_types.specs.declared.outcome.Place.TheVariants.{Child}
use Rattle.task_types.specs.declared.outcome.NewTask.{NewTask}
use Rattle.task_types.specs.Tree.{Tree, Nothing, Root, is_there, child}
use Rattle.task_types.specs.Presence.{Presence, Absent, presence_of, has_child}
use Rattle.quad_matrix.specs.declared.chunk.MatChunk.{MatChunk}
use Rattle.quad_matrix.specs.declared.kind.What.TheVariants.{Add, Transpose, Join}
use Rattle.quad_matrix.specs.declared.kind.MatKind.{MatKind}
use Rattle.quad_matrix.specs.Goals.{kind_of, kind_at, goal_of}
use Rattle.quad_matrix.specs.Matrices.{matrices}
use Rattle.task_plans.specs.declared.plan.Ending.TheVariants.{Joined}
use Rattle.task_plans.specs.Plans.{Draft, no_draft, with_alone, with_pair, with_parts, are_null, ended, planned_shape, is_ready, term_on, term_task}
use Rattle.quad_matrix.specs.Plans.{plan_of}
use Rattle.quad_matrix.specs.Products.{Turned, Neither, First, Second, product_what, first_child, second_child, product_term, product_plan}
use Rattle.quad_matrix.specs.Works.{asked, work_of, add_work, pair_works, transpose_work, product_work, factors, is_term, term_goal}
use Rattle.task_plans.proofs.ForOthers.{IsPlainTask, alone_work, alone_null, pair_list, pair_work, pair_null, ended_work}
use Rattle.quad_matrix.proofs.Sides.{suc-sub_one}
use Rattle.quad_matrix.proofs.DraftWorks.{total, draft_work}
use Rattle.quad_matrix.proofs.AddWorks.{null_any, sum_of_five}

-- whether a child is there, of a tree of which this is known
pub child_known : {C : Type 0} (tree : Tree C) (q : ℕ) → has_child (presence_of tree) q ≡ is_there (child tree q)
child_known Nothing q = refl
child_known (Root content a b c d) zero = refl
child_known (Root content a b c d) (suc zero) = refl
child_known (Root content a b c d) (suc (suc zero)) = refl
child_known (Root content a b c d) (suc (suc (suc zero))) = refl
child_known (Root content a b c d) (suc (suc (suc (suc q)))) = refl

-- a test and true
pub and-true : (b : Bool) → (b && true) ≡ b
and-true true = refl
and-true false = refl

-- what four parts and their join come to, where the parts come to nothing if none is there
joined_sum : (k l m n : List ℕ) (a b c d : Bool) (all : ℕ) → (a ≡ false → sum k ≡ 0) → (b ≡ false → sum l ≡ 0) → (c ≡ false → sum m ≡ 0) → (d ≡ false → sum n ≡ 0)
    → all ≡ sum k + sum l + sum m + sum n → cond (not (a || b || c || d)) 0 (all + 1) ≡ sum (k ++ l ++ m ++ n ++ asked (a || b || c || d) 1)
joined_sum k l m n a b c d all none_k none_l none_m none_n parts =
    let any = a || b || c || d in
    let sums = sum_of_five k l m n (asked any 1) in
    ⊎_elim
    (λ (there : any ≡ true).
    let one : sum (asked any 1) ≡ 1 = ap (λ test. sum (asked test 1)) there in
    ap (λ test. cond (not test) 0 (all + 1)) there ∙ (let done : all + 1 ≡ sum k + sum l + sum m + sum n + sum (asked any 1) = omega arith in done) ∙ sym sums)
    (λ (none : any ≡ false).
    let zero_one : sum (asked any 1) ≡ 0 = ap (λ test. sum (asked test 1)) none in
    let last = or_parts (a || b || c) d none in
    let third = or_parts (a || b) c last.0 in
    let first = or_parts a b third.0 in
    ap (λ test. cond (not test) 0 (all + 1)) none
    ∙ (let done : 0 ≡ sum k + sum l + sum m + sum n + sum (asked any 1) = omega (arith, none_k first.0, none_l first.1, none_m third.1, none_n last.1) in done)
    ∙ sym sums)
    (cases_Bool any)

-- what is not asked has no work
asked_no : (a : Bool) (work : ℕ) → a ≡ false → sum (asked a work) ≡ 0
asked_no false work e = refl
asked_no true work e = absurd (true≢false e)

-- nor has a pair of which no term is there
pub pair_no : (a b : Bool) (one other both : ℕ) → (a || b) ≡ false → sum (pair_list a b one other both) ≡ 0
pair_no false false one other both e = refl
pair_no true b one other both e = absurd (true≢false e)
pair_no false true one other both e = absurd (true≢false e)

-- ---- Products

-- four pairs of tasks, each on known trees and ready or not
module _ (trees chunks : List (Tree MatChunk)) (low : ℕ) (task : Bool → Bool → Bool → NewTask MatKind) (inputs : Bool → Bool → Bool → List (Tree MatChunk)) (plain : (lower right far : Bool) → IsPlainTask matrices trees chunks (task lower right far) (inputs lower right far)) (ready : Bool → Bool → Bool → Bool) where
  -- a draft with one more pair
  abbrev paired : Bool → Bool → Draft MatKind → Draft MatKind
  paired lower right draft =
      with_pair draft (task lower right false) (task lower right true) (kind_of Add low) (ready lower right false) (ready lower right true)

  -- all four
  abbrev pub four_pairs : Draft MatKind
  four_pairs = paired true true (paired true false (paired false true (paired false false no_draft)))

  abbrev term_work : Bool → Bool → Bool → ℕ
  term_work lower right far = work_of (task lower right far).kind (inputs lower right far)

  abbrev goal_in : Bool → Bool → Bool → Tree MatChunk
  goal_in lower right far = goal_of (task lower right far).kind (inputs lower right far)

  -- the works of a pair
  abbrev pair_in : Bool → Bool → List ℕ
  pair_in lower right =
      pair_list (ready lower right false) (ready lower right true) (term_work lower right false) (term_work lower right true)
      (add_work low (goal_in lower right false) (goal_in lower right true))

  abbrev has_one : Bool → Bool → Bool
  has_one lower right = ready lower right false || ready lower right true

  one_more : (lower right : Bool) (draft : Draft MatKind) → draft_work trees chunks (paired lower right draft) ≡ draft_work trees chunks draft + sum (pair_in lower right)
  one_more lower right draft =
      pair_work matrices trees chunks draft (task lower right false) (task lower right true) (kind_of Add low) (inputs lower right false) (inputs lower right true) (ready lower right false) (ready lower right true) (plain lower right false) (plain lower right true)

  pairs_work : draft_work trees chunks four_pairs ≡ sum (pair_in false false) + sum (pair_in false true) + sum (pair_in true false) + sum (pair_in true true)
  pairs_work =
      let d1 : Draft MatKind = paired false false no_draft in
      let d2 : Draft MatKind = paired false true d1 in
      let d3 : Draft MatKind = paired true false d2 in
      omega (arith, one_more false false no_draft, one_more false true d1, one_more true false d2, one_more true true d3)

  none_more : (lower right : Bool) (draft : Draft MatKind) → are_null (paired lower right draft).places ≡ (are_null draft.places && not (has_one lower right))
  none_more lower right draft =
      pair_null draft (task lower right false) (task lower right true) (kind_of Add low) (ready lower right false) (ready lower right true)

  pairs_null : are_null four_pairs.places ≡ not (has_one false false || has_one false true || has_one true false || has_one true true)
  pairs_null =
      let d1 : Draft MatKind = paired false false no_draft in
      let d2 : Draft MatKind = paired false true d1 in
      let d3 : Draft MatKind = paired true false d2 in
      none_more true true d3
      ∙ ap (λ t. t && not (has_one true true)) (none_more true false d2
      ∙ ap (λ t. t && not (has_one true false)) (none_more false true d1
      ∙ ap (λ t. t && not (has_one false true)) (none_more false false no_draft)))
      ∙ null_any (has_one false false) (has_one false true) (has_one true false) (has_one true true)

  none_in : (lower right : Bool) → has_one lower right ≡ false → sum (pair_in lower right) ≡ 0
  none_in lower right e =
      pair_no (ready lower right false) (ready lower right true) (term_work lower right false) (term_work lower right true) (add_work low (goal_in lower right false) (goal_in lower right true)) e

  -- the works of the four pairs and of their join
  pub pairs_total : (height : ℕ) → total trees chunks (ended (kind_at height) (Joined Join) four_pairs) ≡ sum (pair_in false false ++ pair_in false true ++ pair_in true false ++ pair_in true true ++ asked (has_one false false || has_one false true || has_one true false || has_one true true) 1)
  pairs_total height =
      ended_work matrices trees chunks (kind_at height) Join four_pairs (λ inputs. refl)
      ∙ ap (λ test. cond test 0 (draft_work trees chunks four_pairs + 1)) pairs_null
      ∙ joined_sum (pair_in false false) (pair_in false true) (pair_in true false) (pair_in true true) (has_one false false) (has_one false true) (has_one true false) (has_one true true) (draft_work trees chunks four_pairs)
      (none_in false false) (none_in false true) (none_in true false) (none_in true true) pairs_work

-- the works of a pair, in either form
pub pair_list_is : (a b : Bool) (one other both : ℕ) → pair_list a b one other both ≡ pair_works a b one other both
pair_list_is false false one other both = refl
pair_list_is true false one other both = refl
pair_list_is false true one other both = refl
pair_list_is true true one other both = refl

-- the works of a quadrant of a product
quadrant_list : (turned : Turned) (low : ℕ) (x y : Tree MatChunk) (lower right : Bool)
    → pair_list (is_term turned x y lower right false) (is_term turned x y lower right true)
    (work_of (kind_at low (product_what turned)) (factors turned x y lower right false)) (work_of (kind_at low (product_what turned)) (factors turned x y lower right true))
    (add_work low (goal_of (kind_at low (product_what turned)) (factors turned x y lower right false)) (goal_of (kind_at low (product_what turned)) (factors turned x y lower right true)))
    ≡ pair_works (is_term turned x y lower right false) (is_term turned x y lower right true)
    (product_work turned low (child x (first_child turned lower false)) (child y (second_child turned right false)))
    (product_work turned low (child x (first_child turned lower true)) (child y (second_child turned right true)))
    (add_work low (term_goal turned low x y lower right false) (term_goal turned low x y lower right true))
quadrant_list Neither low x y lower right = pair_list_is _ _ _ _ _
quadrant_list First low x y lower right = pair_list_is _ _ _ _ _
quadrant_list Second low x y lower right = pair_list_is _ _ _ _ _

-- a term is ready where both children are there
ready_is : (turned : Turned) (x y : Tree MatChunk) (lower right far : Bool) → is_ready (presence_of x ∷ presence_of y ∷ []) (product_term turned lower right far) ≡ is_term turned x y lower right far
ready_is turned x y lower right far =
    ap₂ ◌&&◌ (child_known x (first_child turned lower far)) (and-true (has_child (presence_of y) (second_child turned right far)) ∙ child_known y (second_child turned right far))

-- the work of a product is one more than the works of its tasks
pub product_works : (h : ℕ) (turned : Turned) (x y : Tree MatChunk) (chunks : List (Tree MatChunk)) → product_work turned (suc h) x y ≡ 1 + total (x ∷ y ∷ []) chunks (planned_shape kind_at (suc h) (product_plan turned) (presence_of x ∷ presence_of y ∷ []) Absent)
product_works h turned x y chunks =
    let trees : List (Tree MatChunk) = x ∷ y ∷ [] in
    let known : List Presence = presence_of x ∷ presence_of y ∷ [] in
    let task : ℕ → Bool → Bool → Bool → NewTask MatKind = λ low lower right far. term_task (kind_at low) (product_term turned lower right far) in
    let inputs : Bool → Bool → Bool → List (Tree MatChunk) = λ lower right far. factors turned x y lower right far in
    let plain : (low : ℕ) (lower right far : Bool) → IsPlainTask matrices trees chunks (task low lower right far) (inputs lower right far) = λ low lower right far goals. refl in
    let ready : Bool → Bool → Bool → Bool = λ lower right far. is_ready known (product_term turned lower right far) in
    let there : Bool → Bool → Bool → Bool = λ lower right far. is_term turned x y lower right far in
    let same : ready ≡ there = λ i lower right far. ready_is turned x y lower right far i in
    let any : Bool = (there false false false || there false false true) || (there false true false || there false true true) || (there true false false || there true false true) || (there true true false || there true true true) in
    ap (λ n. 1 + n)
    (sym (ap (λ low. total trees chunks (ended (kind_at (suc h)) (Joined Join) (with_parts (kind_at low) known Absent no_draft (product_plan turned).parts))) (suc-sub_one h)
    ∙ ap (λ (ready : Bool → Bool → Bool → Bool). total trees chunks (ended (kind_at (suc h)) (Joined Join) (four_pairs trees chunks h (task h) inputs (plain h) ready))) same
    ∙ pairs_total trees chunks h (task h) inputs (plain h) there (suc h)
    ∙ ap (λ (quadrant : Bool → Bool → List ℕ). sum (quadrant false false ++ quadrant false true ++ quadrant true false ++ quadrant true true ++ asked any 1)) (λ i lower right. quadrant_list turned h x y lower right i)))

-- ---- Transposes

-- four tasks on children, each ready or not
module _ (x : Tree MatChunk) (chunks : List (Tree MatChunk)) (low : ℕ) (ready : ℕ → Bool) where
  abbrev turned_child : ℕ → NewTask MatKind
  turned_child q = term_task (kind_at low) (term_on Transpose (Child 0 q ∷ []))

  abbrev with_child : ℕ → Draft MatKind → Draft MatKind
  with_child q draft = with_alone draft (turned_child q) (ready q)

  abbrev four_turned : Draft MatKind
  four_turned = with_child 3 (with_child 1 (with_child 2 (with_child 0 no_draft)))

  abbrev child_in_list : ℕ → List ℕ
  child_in_list q = asked (ready q) (transpose_work low (child x q))

  child_more : (q : ℕ) (draft : Draft MatKind) → draft_work (x ∷ []) chunks (with_child q draft) ≡ draft_work (x ∷ []) chunks draft + sum (child_in_list q)
  child_more q draft =
      alone_work matrices (x ∷ []) chunks draft (turned_child q) (child x q ∷ []) (ready q) (λ goals. refl)

  turned_work : draft_work (x ∷ []) chunks four_turned ≡ sum (child_in_list 0) + sum (child_in_list 2) + sum (child_in_list 1) + sum (child_in_list 3)
  turned_work =
      let d1 : Draft MatKind = with_child 0 no_draft in
      let d2 : Draft MatKind = with_child 2 d1 in
      let d3 : Draft MatKind = with_child 1 d2 in
      omega (arith, child_more 0 no_draft, child_more 2 d1, child_more 1 d2, child_more 3 d3)

  turned_null : are_null four_turned.places ≡ not (ready 0 || ready 2 || ready 1 || ready 3)
  turned_null =
      let d1 : Draft MatKind = with_child 0 no_draft in
      let d2 : Draft MatKind = with_child 2 d1 in
      let d3 : Draft MatKind = with_child 1 d2 in
      alone_null d3 (turned_child 3) (ready 3)
      ∙ ap (λ t. t && not (ready 3)) (alone_null d2 (turned_child 1) (ready 1)
      ∙ ap (λ t. t && not (ready 1)) (alone_null d1 (turned_child 2) (ready 2)
      ∙ ap (λ t. t && not (ready 2)) (alone_null no_draft (turned_child 0) (ready 0))))
      ∙ null_any (ready 0) (ready 2) (ready 1) (ready 3)

  turned_total : (height : ℕ) → total (x ∷ []) chunks (ended (kind_at height) (Joined Join) four_turned) ≡ sum (child_in_list 0 ++ child_in_list 2 ++ child_in_list 1 ++ child_in_list 3 ++ asked (ready 0 || ready 2 || ready 1 || ready 3) 1)
  turned_total height =
      let work : ℕ → ℕ = λ q. transpose_work low (child x q) in
      ended_work matrices (x ∷ []) chunks (kind_at height) Join four_turned (λ inputs. refl)
      ∙ ap (λ test. cond test 0 (draft_work (x ∷ []) chunks four_turned + 1)) turned_null
      ∙ joined_sum (child_in_list 0) (child_in_list 2) (child_in_list 1) (child_in_list 3) (ready 0) (ready 2) (ready 1) (ready 3) (draft_work (x ∷ []) chunks four_turned)
      (asked_no (ready 0) (work 0)) (asked_no (ready 2) (work 2)) (asked_no (ready 1) (work 1)) (asked_no (ready 3) (work 3)) turned_work

-- the work of a transpose is one more than the works of its tasks
pub transpose_works : (h : ℕ) (x : Tree MatChunk) (chunks : List (Tree MatChunk)) → transpose_work (suc h) x ≡ 1 + total (x ∷ []) chunks (planned_shape kind_at (suc h) (plan_of Transpose) (presence_of x ∷ []) Absent)
transpose_works h x chunks =
    let known : List Presence = presence_of x ∷ [] in
    let ready : ℕ → Bool = λ q. is_ready known (term_on Transpose (Child 0 q ∷ [])) in
    let there : ℕ → Bool = λ q. is_there (child x q) in
    let same : ready ≡ there = λ i q. (and-true (has_child (presence_of x) q) ∙ child_known x q) i in
    ap (λ n. 1 + n)
    (sym (ap (λ low. total (x ∷ []) chunks (ended (kind_at (suc h)) (Joined Join) (with_parts (kind_at low) known Absent no_draft (plan_of Transpose).parts))) (suc-sub_one h)
    ∙ ap (λ (ready : ℕ → Bool). total (x ∷ []) chunks (ended (kind_at (suc h)) (Joined Join) (four_turned x chunks h ready))) same
    ∙ turned_total x chunks h there (suc h)))
