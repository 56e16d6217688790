-- The work of a sum adds up.
use Rattle.std.proofs.Common.{◌≡◌, ℕ, suc, ◌+◌, Bool, true, false, cond, not, ◌&&◌, ◌||◌, List, [], ◌∷◌, ◌++◌, sum, refl, sym, ap, ◌∙◌, arith, ⊎_elim}
use Rattle.std.proofs.lemmas.Bool.{cases_Bool, or_parts, true≢false}
use Rattle.std.proofs.lemmas.List.Sums.{sum_by-append}
use Rattle.task_types.specs.Tree.{Tree, Root, is_there, tree_at, child}
use Rattle.task_types.specs.Presence.{Absent, presence_of}
use Rattle.quad_matrix.specs.declared.chunk.MatChunk.{MatChunk}
use Rattle.quad_matrix.specs.declared.kind.What.TheVariants.{Add, Join}
use Rattle.quad_matrix.specs.declared.kind.MatKind.{MatKind}
use Rattle.quad_matrix.specs.Goals.{kind_of, kind_at}
use Rattle.quad_matrix.specs.Matrices.{matrices}
use Rattle.task_plans.specs.declared.plan.Ending.TheVariants.{Joined}
use Rattle.task_plans.specs.Plans.{Draft, no_draft, with_either, are_null, ended, planned_shape}
use Rattle.quad_matrix.specs.Plans.{plan_of}
use Rattle.quad_matrix.specs.Works.{asked, work_of, add_work}
use Rattle.quad_matrix.proofs.Sides.{suc-sub_one}
use Rattle.task_plans.proofs.ForOthers.{either_work, either_null, ended_work}
use Rattle.quad_matrix.proofs.DraftWorks.{total, draft_work}

-- no part is there where none of four is
pub null_any : (a b c d : Bool) → ((((true && not a) && not b) && not c) && not d) ≡ not (a || b || c || d)
null_any true b c d = refl
null_any false true c d = refl
null_any false false true d = refl
null_any false false false true = refl
null_any false false false false = refl

-- where none of two is there nothing is asked for both
pub asked_none : (a b : Bool) (work : ℕ) → (a || b) ≡ false → sum (asked (a && b) work) ≡ 0
asked_none false b work e = refl
asked_none true b work e = absurd (true≢false e)

-- the sum of two lists joined
pub sum-append : (k l : List ℕ) → sum (k ++ l) ≡ sum k + sum l
sum-append k l = sum_by-append (λ x. x) k l

-- the sum of five
pub sum_of_five : (k l m n o : List ℕ) → sum (k ++ l ++ m ++ n ++ o) ≡ sum k + sum l + sum m + sum n + sum o
sum_of_five k l m n o =
    sum-append (k ++ l ++ m ++ n) o
    ∙ ap (λ x. x + sum o) (sum-append (k ++ l ++ m) n
    ∙ ap (λ x. x + sum n) (sum-append (k ++ l) m
    ∙ ap (λ x. x + sum m) (sum-append k l)))

-- the four parts of a sum, where children of two inputs are there or not
abbrev parts_of : ℕ → Bool → Bool → Bool → Bool → Bool → Bool → Bool → Bool → Draft MatKind
parts_of low a b c d p q r s =
    with_either (with_either (with_either (with_either no_draft (kind_of Add low) 0 a p) (kind_of Add low) 1 b q) (kind_of Add low) 2 c r) (kind_of Add low) 3 d s

module _ (trees chunks : List (Tree MatChunk)) (low : ℕ) where
  -- the work of the sum of two children
  abbrev child_work : ℕ → ℕ
  child_work q = work_of (kind_of Add low) (child (tree_at trees 0) q ∷ child (tree_at trees 1) q ∷ [])

  parts_work : (a b c d p q r s : Bool) → draft_work trees chunks (parts_of low a b c d p q r s) ≡ sum (asked (a && p) (child_work 0)) + sum (asked (b && q) (child_work 1)) + sum (asked (c && r) (child_work 2)) + sum (asked (d && s) (child_work 3))
  parts_work a b c d p q r s =
      let d1 : Draft MatKind = with_either no_draft (kind_of Add low) 0 a p in
      let d2 = with_either d1 (kind_of Add low) 1 b q in
      let d3 = with_either d2 (kind_of Add low) 2 c r in
      omega (arith, either_work matrices trees chunks no_draft (kind_of Add low) 0 a p, either_work matrices trees chunks d1 (kind_of Add low) 1 b q, either_work matrices trees chunks d2 (kind_of Add low) 2 c r, either_work matrices trees chunks d3 (kind_of Add low) 3 d s)

  parts_null : (a b c d p q r s : Bool) → are_null (parts_of low a b c d p q r s).places ≡ not ((a || p) || (b || q) || (c || r) || (d || s))
  parts_null a b c d p q r s =
      let d1 : Draft MatKind = with_either no_draft (kind_of Add low) 0 a p in
      let d2 = with_either d1 (kind_of Add low) 1 b q in
      let d3 = with_either d2 (kind_of Add low) 2 c r in
      either_null d3 (kind_of Add low) 3 d s
      ∙ ap (λ t. t && not (d || s)) (either_null d2 (kind_of Add low) 2 c r
      ∙ ap (λ t. t && not (c || r)) (either_null d1 (kind_of Add low) 1 b q
      ∙ ap (λ t. t && not (b || q)) (either_null no_draft (kind_of Add low) 0 a p)))
      ∙ null_any (a || p) (b || q) (c || r) (d || s)

  -- the works of the four parts and of their join
  add_total : (height : ℕ) (a b c d p q r s : Bool) → total trees chunks (ended (kind_at height) (Joined Join) (parts_of low a b c d p q r s)) ≡ sum (asked (a && p) (child_work 0) ++ asked (b && q) (child_work 1) ++ asked (c && r) (child_work 2) ++ asked (d && s) (child_work 3) ++ asked ((a || p) || (b || q) || (c || r) || (d || s)) 1)
  add_total height a b c d p q r s =
      let any = (a || p) || (b || q) || (c || r) || (d || s) in
      let all = draft_work trees chunks (parts_of low a b c d p q r s) in
      let sums = sum_of_five (asked (a && p) (child_work 0)) (asked (b && q) (child_work 1)) (asked (c && r) (child_work 2)) (asked (d && s) (child_work 3)) (asked any 1) in
      let parts = parts_work a b c d p q r s in
      ended_work matrices trees chunks (kind_at height) Join (parts_of low a b c d p q r s) (λ inputs. refl)
      ∙ ap (λ test. cond test 0 (all + 1)) (parts_null a b c d p q r s)
      ∙ ⊎_elim
      (λ (there : any ≡ true).
      let one : sum (asked any 1) ≡ 1 = ap (λ test. sum (asked test 1)) there in
      ap (λ test. cond (not test) 0 (all + 1)) there ∙ (let done : all + 1 ≡ sum (asked (a && p) (child_work 0)) + sum (asked (b && q) (child_work 1)) + sum (asked (c && r) (child_work 2)) + sum (asked (d && s) (child_work 3)) + sum (asked any 1) = omega arith in done) ∙ sym sums)
      (λ (none : any ≡ false).
      let zero_one : sum (asked any 1) ≡ 0 = ap (λ test. sum (asked test 1)) none in
      let last = or_parts ((a || p) || (b || q) || (c || r)) (d || s) none in
      let third = or_parts ((a || p) || (b || q)) (c || r) last.0 in
      let first = or_parts (a || p) (b || q) third.0 in
      ap (λ test. cond (not test) 0 (all + 1)) none
      ∙ (let done : 0 ≡ sum (asked (a && p) (child_work 0)) + sum (asked (b && q) (child_work 1)) + sum (asked (c && r) (child_work 2)) + sum (asked (d && s) (child_work 3)) + sum (asked any 1) =
      omega (arith, asked_none a p (child_work 0) first.0, asked_none b q (child_work 1) first.1, asked_none c r (child_work 2) third.1, asked_none d s (child_work 3) last.1) in
      done)
      ∙ sym sums)
      (cases_Bool any)

-- the work of a sum of two trees that are there is one more than the works of its tasks
pub add_works : (h : ℕ) (k l : MatChunk) (a b c d p q r s : Tree MatChunk) (chunks : List (Tree MatChunk)) → add_work (suc h) (Root k a b c d) (Root l p q r s) ≡ 1 + total (Root k a b c d ∷ Root l p q r s ∷ []) chunks (planned_shape kind_at (suc h) (plan_of Add) (presence_of (Root k a b c d) ∷ presence_of (Root l p q r s) ∷ []) Absent)
add_works h k l a b c d p q r s chunks =
    let trees = Root k a b c d ∷ Root l p q r s ∷ [] in
    ap (λ n. 1 + n)
    (sym (ap (λ low. total trees chunks (ended (kind_at (suc h)) (Joined Join) (parts_of low (is_there a) (is_there b) (is_there c) (is_there d) (is_there p) (is_there q) (is_there r) (is_there s)))) (suc-sub_one h)
    ∙ add_total trees chunks h (suc h) (is_there a) (is_there b) (is_there c) (is_there d) (is_there p) (is_there q) (is_there r) (is_there s)))
