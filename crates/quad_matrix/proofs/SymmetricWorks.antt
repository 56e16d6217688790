-- The works of traces, of general forms of symmetric blocks, and of sums of symmetric blocks add up.
use Rattle.std.proofs.Common.{◌≡◌, ℕ, suc, ◌+◌, Bool, true, false, cond, not, ◌&&◌, ◌||◌, List, [], ◌∷◌, ◌++◌, sum, refl, sym, ap, ap₂, ◌∙◌, arith}
use Rattle.std.proofs.lemmas.Bool.{or_parts}
use Rattle.task_types.specs.declared.outcome.Place.TheVariants.{Child}
use Rattle.task_types.specs.Tree.{Tree, Root, is_there, tree_at, child}
use Rattle.task_types.specs.Places.{Shape}
use Rattle.task_types.specs.Presence.{Presence, Absent, presence_of, has_child}
use Rattle.quad_matrix.specs.declared.chunk.MatChunk.{MatChunk}
use Rattle.quad_matrix.specs.declared.kind.What.TheVariants.{Add, Transpose, Join, AddNum, SAdd, Full, SJoin}
use Rattle.quad_matrix.specs.declared.kind.MatKind.{MatKind}
use Rattle.quad_matrix.specs.Goals.{kind_of, kind_at}
use Rattle.quad_matrix.specs.Matrices.{matrices}
use Rattle.task_plans.specs.declared.plan.Ending.TheVariants.{Joined, Single}
use Rattle.task_plans.specs.Plans.{Draft, no_draft, with_itself, with_alone, with_either, with_pair, are_null, ended, planned_shape, is_ready, term_on, term_task}
use Rattle.quad_matrix.specs.Plans.{plan_of, trace_plan, trace_term, last_child}
use Rattle.quad_matrix.specs.Works.{asked, work_of, pair_works, trace_work, transpose_work, full_work, symmetric_add_work}
use Rattle.task_plans.proofs.ForOthers.{either_work, either_null, ended_work}
use Rattle.quad_matrix.proofs.Sides.{suc-sub_one}
use Rattle.quad_matrix.proofs.DraftWorks.{total, draft_work}
use Rattle.quad_matrix.proofs.AddWorks.{asked_none, sum-append}
use Rattle.quad_matrix.proofs.ProductWorks.{and-true, child_known}

-- ---- Traces

-- the works of the one part of a trace
trace_total : (mirrored : Bool) (x : Tree MatChunk) (chunks : List (Tree MatChunk)) (low height : ℕ) (a d : Bool) → total (x ∷ []) chunks (ended (kind_at height) Single (with_pair no_draft (term_task (kind_at low) (trace_term mirrored 0)) (term_task (kind_at low) (trace_term mirrored (last_child mirrored))) (kind_at low AddNum) a d)) ≡ sum (pair_works a d (trace_work mirrored low (child x 0)) (trace_work mirrored low (child x (last_child mirrored))) 1)
trace_total false x chunks low height false false = refl
trace_total false x chunks low height true false = refl
trace_total false x chunks low height false true = refl
trace_total false x chunks low height true true = refl
trace_total true x chunks low height false false = refl
trace_total true x chunks low height true false = refl
trace_total true x chunks low height false true = refl
trace_total true x chunks low height true true = refl

-- the work of a trace is one more than the works of its tasks
pub trace_works : (mirrored : Bool) (h : ℕ) (x : Tree MatChunk) (chunks : List (Tree MatChunk)) → trace_work mirrored (suc h) x ≡ 1 + total (x ∷ []) chunks (planned_shape kind_at (suc h) (trace_plan mirrored) (presence_of x ∷ []) Absent)
trace_works mirrored h x chunks =
    let known : List Presence = presence_of x ∷ [] in
    let shape : ℕ → Bool → Bool → Shape MatKind = λ low a d. ended (kind_at (suc h)) Single (with_pair no_draft (term_task (kind_at low) (trace_term mirrored 0)) (term_task (kind_at low) (trace_term mirrored (last_child mirrored))) (kind_at low AddNum) a d) in
    let same : (q : ℕ) → is_ready known (trace_term mirrored q) ≡ is_there (child x q) = λ q. and-true (has_child (presence_of x) q) ∙ child_known x q in
    ap (λ n. 1 + n)
    (sym (ap (λ low. total (x ∷ []) chunks (shape low (is_ready known (trace_term mirrored 0)) (is_ready known (trace_term mirrored (last_child mirrored))))) (suc-sub_one h)
    ∙ ap₂ (λ a d. total (x ∷ []) chunks (shape h a d)) (same 0) (same (last_child mirrored))
    ∙ trace_total mirrored x chunks h (suc h) (is_there (child x 0)) (is_there (child x (last_child mirrored)))))

-- ---- General forms

-- the shape of a general form, where children are there or not
abbrev full_shape : ℕ → ℕ → Bool → Bool → Bool → Bool → Shape MatKind
full_shape low height a b c d =
    ended (kind_at height) (Joined Join)
    (with_alone
    (with_alone (with_itself (with_alone no_draft (term_task (kind_at low) (term_on Full (Child 0 0 ∷ []))) a) (Child 0 1) b) (term_task (kind_at low) (term_on Transpose (Child 0 1 ∷ []))) c)
    (term_task (kind_at low) (term_on Full (Child 0 2 ∷ []))) d)

-- its works
full_total : (x : Tree MatChunk) (chunks : List (Tree MatChunk)) (low height : ℕ) (a b c : Bool) → total (x ∷ []) chunks (full_shape low height a b b c) ≡ sum (asked a (full_work low (child x 0)) ++ asked b (transpose_work low (child x 1)) ++ asked c (full_work low (child x 2)) ++ asked (a || b || c) 1)
full_total x chunks low height false false false = refl
full_total x chunks low height false false true = refl
full_total x chunks low height false true false = refl
full_total x chunks low height false true true = refl
full_total x chunks low height true false false = refl
full_total x chunks low height true false true = refl
full_total x chunks low height true true false = refl
full_total x chunks low height true true true = refl

-- the work of a general form is one more than the works of its tasks
pub full_works : (h : ℕ) (x : Tree MatChunk) (chunks : List (Tree MatChunk)) → full_work (suc h) x ≡ 1 + total (x ∷ []) chunks (planned_shape kind_at (suc h) (plan_of Full) (presence_of x ∷ []) Absent)
full_works h x chunks =
    let known : List Presence = presence_of x ∷ [] in
    let there : ℕ → Bool = λ q. is_there (child x q) in
    let ready : ℕ → Bool = λ q. has_child (presence_of x) q && true in
    let same : (q : ℕ) → ready q ≡ there q = λ q. and-true (has_child (presence_of x) q) ∙ child_known x q in
    ap (λ n. 1 + n)
    (sym (ap (λ low. total (x ∷ []) chunks (full_shape low (suc h) (ready 0) (has_child (presence_of x) 1) (ready 1) (ready 2))) (suc-sub_one h)
    ∙ ap₂ (λ a b. total (x ∷ []) chunks (full_shape h (suc h) a b (ready 1) (ready 2))) (same 0) (child_known x 1)
    ∙ ap₂ (λ c d. total (x ∷ []) chunks (full_shape h (suc h) (there 0) (there 1) c d)) (same 1) (same 2)
    ∙ full_total x chunks h (suc h) (there 0) (there 1) (there 2)))

-- ---- Sums of symmetric blocks

-- what some parts and their join come to, where the parts come to nothing if none is there
pub ended_sum : (parts : List ℕ) (any : Bool) (all : ℕ) → (any ≡ false → sum parts ≡ 0) → all ≡ sum parts → cond (not any) 0 (all + 1) ≡ sum (parts ++ asked any 1)
ended_sum parts true all none same =
    let sums : sum (parts ++ 1 ∷ []) ≡ sum parts + 1 = sum-append parts (1 ∷ []) in
    ap (λ n. n + 1) same ∙ sym sums
ended_sum parts false all none same =
    let sums : sum (parts ++ []) ≡ sum parts + 0 = sum-append parts [] in
    let zero_sum : sum parts ≡ 0 = none refl in
    sym (sums ∙ ap (λ n. n + 0) zero_sum)

-- no part is there where none of three is
pub null_three : (a b c : Bool) → (((true && not a) && not b) && not c) ≡ not (a || b || c)
null_three true b c = refl
null_three false true c = refl
null_three false false true = refl
null_three false false false = refl

-- the three parts of a sum, where children of two inputs are there or not
abbrev parts_of : ℕ → Bool → Bool → Bool → Bool → Bool → Bool → Draft MatKind
parts_of low a b c p q r =
    with_either (with_either (with_either no_draft (kind_of SAdd low) 0 a p) (kind_of Add low) 1 b q) (kind_of SAdd low) 2 c r

module _ (trees chunks : List (Tree MatChunk)) (low : ℕ) where
  -- the work of the sum of two symmetric children
  abbrev symmetric_work : ℕ → ℕ
  symmetric_work q = work_of (kind_of SAdd low) (child (tree_at trees 0) q ∷ child (tree_at trees 1) q ∷ [])

  -- the work of the sum of the general children between them
  abbrev general_work : ℕ
  general_work = work_of (kind_of Add low) (child (tree_at trees 0) 1 ∷ child (tree_at trees 1) 1 ∷ [])

  parts_work : (a b c p q r : Bool) → draft_work trees chunks (parts_of low a b c p q r) ≡ sum (asked (a && p) (symmetric_work 0) ++ asked (b && q) general_work ++ asked (c && r) (symmetric_work 2))
  parts_work a b c p q r =
      let d1 : Draft MatKind = with_either no_draft (kind_of SAdd low) 0 a p in
      let d2 : Draft MatKind = with_either d1 (kind_of Add low) 1 b q in
      omega (arith, either_work matrices trees chunks no_draft (kind_of SAdd low) 0 a p, either_work matrices trees chunks d1 (kind_of Add low) 1 b q, either_work matrices trees chunks d2 (kind_of SAdd low) 2 c r, sum-append (asked (a && p) (symmetric_work 0) ++ asked (b && q) general_work) (asked (c && r) (symmetric_work 2)), sum-append (asked (a && p) (symmetric_work 0)) (asked (b && q) general_work))

  parts_null : (a b c p q r : Bool) → are_null (parts_of low a b c p q r).places ≡ not ((a || p) || (b || q) || (c || r))
  parts_null a b c p q r =
      let d1 : Draft MatKind = with_either no_draft (kind_of SAdd low) 0 a p in
      let d2 : Draft MatKind = with_either d1 (kind_of Add low) 1 b q in
      either_null d2 (kind_of SAdd low) 2 c r
      ∙ ap (λ t. t && not (c || r)) (either_null d1 (kind_of Add low) 1 b q
      ∙ ap (λ t. t && not (b || q)) (either_null no_draft (kind_of SAdd low) 0 a p))
      ∙ null_three (a || p) (b || q) (c || r)

  parts_none : (a b c p q r : Bool) → ((a || p) || (b || q) || (c || r)) ≡ false → sum (asked (a && p) (symmetric_work 0) ++ asked (b && q) general_work ++ asked (c && r) (symmetric_work 2)) ≡ 0
  parts_none a b c p q r none =
      let last = or_parts ((a || p) || (b || q)) (c || r) none in
      let first = or_parts (a || p) (b || q) last.0 in
      omega (arith, asked_none a p (symmetric_work 0) first.0, asked_none b q general_work first.1, asked_none c r (symmetric_work 2) last.1, sum-append (asked (a && p) (symmetric_work 0) ++ asked (b && q) general_work) (asked (c && r) (symmetric_work 2)), sum-append (asked (a && p) (symmetric_work 0)) (asked (b && q) general_work))

  -- the works of the three parts and of their join
  symmetric_add_total : (height : ℕ) (a b c p q r : Bool) → total trees chunks (ended (kind_at height) (Joined SJoin) (parts_of low a b c p q r)) ≡ sum (asked (a && p) (symmetric_work 0) ++ asked (b && q) general_work ++ asked (c && r) (symmetric_work 2) ++ asked ((a || p) || (b || q) || (c || r)) 1)
  symmetric_add_total height a b c p q r =
      let any = (a || p) || (b || q) || (c || r) in
      let all = draft_work trees chunks (parts_of low a b c p q r) in
      ended_work matrices trees chunks (kind_at height) SJoin (parts_of low a b c p q r) (λ inputs. refl)
      ∙ ap (λ test. cond test 0 (all + 1)) (parts_null a b c p q r)
      ∙ ended_sum (asked (a && p) (symmetric_work 0) ++ asked (b && q) general_work ++ asked (c && r) (symmetric_work 2)) any all (parts_none a b c p q r) (parts_work a b c p q r)

-- the work of a sum of two symmetric trees that are there is one more than the works of its tasks
pub symmetric_add_works : (h : ℕ) (k l : MatChunk) (a b c d p q r s : Tree MatChunk) (chunks : List (Tree MatChunk)) → symmetric_add_work (suc h) (Root k a b c d) (Root l p q r s) ≡ 1 + total (Root k a b c d ∷ Root l p q r s ∷ []) chunks (planned_shape kind_at (suc h) (plan_of SAdd) (presence_of (Root k a b c d) ∷ presence_of (Root l p q r s) ∷ []) Absent)
symmetric_add_works h k l a b c d p q r s chunks =
    let trees = Root k a b c d ∷ Root l p q r s ∷ [] in
    ap (λ n. 1 + n)
    (sym (ap (λ low. total trees chunks (ended (kind_at (suc h)) (Joined SJoin) (parts_of low (is_there a) (is_there b) (is_there c) (is_there p) (is_there q) (is_there r)))) (suc-sub_one h)
    ∙ symmetric_add_total trees chunks h (suc h) (is_there a) (is_there b) (is_there c) (is_there p) (is_there q) (is_there r)))
