-- The laws that the library of matrices keeps.
use Rattle.std.proofs.Common.{◌≡◌, ℕ, zero, suc, ◌+◌, ◌≤◌, Bool, true, false, cond, not, ◌&&◌, ◌==◌, ◌<◌, List, [], ◌∷◌, ◌++◌, length, map, sum, inl, inr, refl, sym, ap, ◌∙◌, lit≤, eq-eqb, arith}
use Rattle.std.proofs.lemmas.Bool.{cond_both}
use Rattle.dense_def.specs.Matrix.{block, zeros, peak_of}
use Rattle.dense_def.proofs.Blocks.{height-block, entry-block}
use Rattle.dense_def.proofs.Peaks.{peak-zero}
use Rattle.dense_def.proofs.Zeros.{entry-zeros}
use Rattle.task_types.specs.declared.outcome.Place.{Place}
use Rattle.task_types.specs.declared.outcome.Place.TheVariants.{Null, Input, Chunk}
use Rattle.task_types.specs.declared.outcome.Outcome.{Outcome}
use Rattle.task_types.specs.Tree.{Tree, Nothing, Root, child, is_there}
use Rattle.task_types.specs.Presence.{Presence, Absent, presence_of, has_child, all_present}
use Rattle.task_types.specs.Places.{Shape, shape_of, filled, shape_from, IsOneOf}
use Rattle.task_types.specs.Reading.{new_trees}
use Rattle.task_types.specs.Sound.{IsSound, HasFewInputs, AddsUp, new_work}
use Rattle.quad_matrix.specs.declared.chunk.MatChunk.{MatChunk}
use Rattle.quad_matrix.specs.declared.kind.What.{What}
use Rattle.quad_matrix.specs.declared.kind.What.TheVariants.{Assign, Add, Mul, TMul, MulT, Transpose, Join, Trace, AddNum, SAssign, SAdd, Square, RankMul, TRank, SMul, MulS, Full, SJoin, STrace}
use Rattle.quad_matrix.specs.declared.kind.MatKind.{MatKind}
use Rattle.quad_matrix.specs.Chunks.{arity_of}
use Rattle.chunk_codec.specs.Spots.{side_of}
use Rattle.quad_matrix.specs.Blocks.{block_of, upper_left, upper_right, lower_left, lower_right}
use Rattle.quad_matrix.specs.Goals.{kind_of, kind_at, FitsAt, IsList}
use Rattle.task_plans.specs.Plans.{planned_shape, choices, choices_of, given_shape, are_null, chunk_shape}
use Rattle.quad_matrix.specs.Plans.{plan_of, node_shape, joined_shape, symmetric_joined_shape, join_places, symmetric_join_places, null_shape, shapes_of, full_shapes, inputs_of, may_have}
use Rattle.quad_matrix.specs.Products.{Turned, Neither, First, Second, first_child}
use Rattle.quad_matrix.specs.Works.{asked, has_number, assign_work, symmetric_assign_work, add_work, symmetric_add_work, trace_work, transpose_work, full_work, symmetric_first_work, symmetric_second_work, rank_work, transposed_rank_work, square_work, product_work, is_term, work_at}
use Rattle.quad_matrix.specs.Matrices.{matrices}
use Rattle.quad_matrix.proofs.Sides.{suc-sub_one}
use Rattle.quad_matrix.proofs.Canonical.{peak-zeros}
use Rattle.quad_matrix.proofs.Leaves.{leaf_of_list}
use Rattle.task_plans.proofs.ForOthers.{one_of_cond, one_of_one, one_of_same, one_of_choices}
use Rattle.quad_matrix.proofs.DraftWorks.{total}
use Rattle.quad_matrix.proofs.AddWorks.{add_works}
use Rattle.quad_matrix.proofs.SymmetricWorks.{trace_works, full_works, symmetric_add_works}
use Rattle.quad_matrix.proofs.SymmetricProductWorks.{symmetric_first_works, symmetric_second_works, rank_works, transposed_rank_works, square_works}
use Rattle.quad_matrix.proofs.ProductWorks.{product_works, transpose_works}
use Rattle.quad_matrix.proofs.AssignParts.{assign_shape, symmetric_assign_shape}
use Rattle.quad_matrix.proofs.AssignWorks.{assign_work_is}
use Rattle.quad_matrix.proofs.SymmetricAssignWorks.{symmetric_assign_work_is}

-- goals are defined for at most four inputs
few_trees : (b : ℕ) (what : What) (h : ℕ) (trees : List (Tree MatChunk)) → FitsAt b what h trees → length trees ≤ 4
few_trees b Assign h (x ∷ []) fits = lit≤ tt
few_trees b Assign h [] fits = absurd fits
few_trees b Assign h (x ∷ y ∷ trees) fits = absurd fits
few_trees b Add h (x ∷ y ∷ []) fits = lit≤ tt
few_trees b Add h [] fits = absurd fits
few_trees b Add h (x ∷ []) fits = absurd fits
few_trees b Add h (x ∷ y ∷ z ∷ trees) fits = absurd fits
few_trees b Mul h (x ∷ y ∷ []) fits = lit≤ tt
few_trees b Mul h [] fits = absurd fits
few_trees b Mul h (x ∷ []) fits = absurd fits
few_trees b Mul h (x ∷ y ∷ z ∷ trees) fits = absurd fits
few_trees b TMul h (x ∷ y ∷ []) fits = lit≤ tt
few_trees b TMul h [] fits = absurd fits
few_trees b TMul h (x ∷ []) fits = absurd fits
few_trees b TMul h (x ∷ y ∷ z ∷ trees) fits = absurd fits
few_trees b MulT h (x ∷ y ∷ []) fits = lit≤ tt
few_trees b MulT h [] fits = absurd fits
few_trees b MulT h (x ∷ []) fits = absurd fits
few_trees b MulT h (x ∷ y ∷ z ∷ trees) fits = absurd fits
few_trees b Transpose h (x ∷ []) fits = lit≤ tt
few_trees b Transpose h [] fits = absurd fits
few_trees b Transpose h (x ∷ y ∷ trees) fits = absurd fits
few_trees b Join h (x ∷ y ∷ z ∷ w ∷ []) fits = lit≤ tt
few_trees b Join h [] fits = absurd fits
few_trees b Join h (x ∷ []) fits = absurd fits
few_trees b Join h (x ∷ y ∷ []) fits = absurd fits
few_trees b Join h (x ∷ y ∷ z ∷ []) fits = absurd fits
few_trees b Join h (x ∷ y ∷ z ∷ w ∷ t ∷ trees) fits = absurd fits
few_trees b Trace h (x ∷ []) fits = lit≤ tt
few_trees b Trace h [] fits = absurd fits
few_trees b Trace h (x ∷ y ∷ trees) fits = absurd fits
few_trees b SAssign h (x ∷ []) fits = lit≤ tt
few_trees b SAssign h [] fits = absurd fits
few_trees b SAssign h (x ∷ y ∷ trees) fits = absurd fits
few_trees b SAdd h (x ∷ y ∷ []) fits = lit≤ tt
few_trees b SAdd h [] fits = absurd fits
few_trees b SAdd h (x ∷ []) fits = absurd fits
few_trees b SAdd h (x ∷ y ∷ z ∷ trees) fits = absurd fits
few_trees b Square h (x ∷ []) fits = lit≤ tt
few_trees b Square h [] fits = absurd fits
few_trees b Square h (x ∷ y ∷ trees) fits = absurd fits
few_trees b RankMul h (x ∷ []) fits = lit≤ tt
few_trees b RankMul h [] fits = absurd fits
few_trees b RankMul h (x ∷ y ∷ trees) fits = absurd fits
few_trees b TRank h (x ∷ []) fits = lit≤ tt
few_trees b TRank h [] fits = absurd fits
few_trees b TRank h (x ∷ y ∷ trees) fits = absurd fits
few_trees b SMul h (x ∷ y ∷ []) fits = lit≤ tt
few_trees b SMul h [] fits = absurd fits
few_trees b SMul h (x ∷ []) fits = absurd fits
few_trees b SMul h (x ∷ y ∷ z ∷ trees) fits = absurd fits
few_trees b MulS h (x ∷ y ∷ []) fits = lit≤ tt
few_trees b MulS h [] fits = absurd fits
few_trees b MulS h (x ∷ []) fits = absurd fits
few_trees b MulS h (x ∷ y ∷ z ∷ trees) fits = absurd fits
few_trees b Full h (x ∷ []) fits = lit≤ tt
few_trees b Full h [] fits = absurd fits
few_trees b Full h (x ∷ y ∷ trees) fits = absurd fits
few_trees b STrace h (x ∷ []) fits = lit≤ tt
few_trees b STrace h [] fits = absurd fits
few_trees b STrace h (x ∷ y ∷ trees) fits = absurd fits
few_trees b SJoin h (x ∷ y ∷ z ∷ []) fits = lit≤ tt
few_trees b SJoin h [] fits = absurd fits
few_trees b SJoin h (x ∷ []) fits = absurd fits
few_trees b SJoin h (x ∷ y ∷ []) fits = absurd fits
few_trees b SJoin h (x ∷ y ∷ z ∷ w ∷ trees) fits = absurd fits
few_trees b AddNum h (x ∷ y ∷ []) fits = lit≤ tt
few_trees b AddNum h [] fits = absurd fits
few_trees b AddNum h (x ∷ []) fits = absurd fits
few_trees b AddNum h (x ∷ y ∷ z ∷ trees) fits = absurd fits

-- so each kind has few inputs
pub few_matrices : HasFewInputs matrices
few_matrices = λ kind trees d. few_trees d.leaf kind.what kind.height trees d.fits

-- ---- Works without new tasks

-- what is not asked for has no work
sum_none : (k l m n o : ℕ) (p q r s t : Bool) → p ≡ false → q ≡ false → r ≡ false → s ≡ false → t ≡ false → sum (asked p k ++ asked q l ++ asked r m ++ asked s n ++ asked t o) ≡ 0
sum_none k l m n o p q r s t ep eq er es et = rw (ep, eq, er, es, et) refl

-- a part of zeros has no number
zeros_part : (side top left half : ℕ) → has_number (block (zeros side side) top left half half) ≡ false
zeros_part side top left half =
    let m = block (zeros side side) top left half half in
    let flat : peak_of m ≡ 0 =
    (peak-zero m).0
    (λ i j p q.
    let l : i < half = rw height-block at p in
    entry-block (zeros side side) top left half half i j l q ∙ entry-zeros side side (top + i) (left + j)) in
    ap not (eq-eqb (peak_of m) 0 flat)

-- the work of an assignment of nothing is 1
assign_work_nothing : (b h : ℕ) → assign_work b h (zeros (side_of b h) (side_of b h)) ≡ 1
assign_work_nothing b zero = refl
assign_work_nothing b (suc h) =
    let side = side_of b (suc h) in
    let half = side_of b h in
    ap (λ n. 1 + n)
    (sum_none _ _ _ _ 1 (has_number (upper_left half (zeros side side))) (has_number (upper_right half (zeros side side))) (has_number (lower_left half (zeros side side))) (has_number (lower_right half (zeros side side))) (has_number (zeros side side))
    (zeros_part side 0 0 half) (zeros_part side 0 half half) (zeros_part side half 0 half) (zeros_part side half half half)
    (ap not (eq-eqb (peak_of (zeros side side)) 0 (peak-zeros side side))))

-- what is not asked for has no work, of four
sum_none_of_four : (k l m n : ℕ) (p q r s : Bool) → p ≡ false → q ≡ false → r ≡ false → s ≡ false → sum (asked p k ++ asked q l ++ asked r m ++ asked s n) ≡ 0
sum_none_of_four k l m n p q r s ep eq er es = rw (ep, eq, er, es) refl

-- so it is of an assignment of a symmetric block
symmetric_assign_work_nothing : (b h : ℕ) → symmetric_assign_work b h (zeros (side_of b h) (side_of b h)) ≡ 1
symmetric_assign_work_nothing b zero = refl
symmetric_assign_work_nothing b (suc h) =
    let side = side_of b (suc h) in
    let half = side_of b h in
    ap (λ n. 1 + n)
    (sum_none_of_four _ _ _ 1 (has_number (upper_left half (zeros side side))) (has_number (upper_right half (zeros side side))) (has_number (lower_right half (zeros side side))) (has_number (zeros side side))
    (zeros_part side 0 0 half) (zeros_part side 0 half half) (zeros_part side half half half)
    (ap not (eq-eqb (peak_of (zeros side side)) 0 (peak-zeros side side))))

-- the work of a sum with nothing is 1
add_work_first : (h : ℕ) (y : Tree MatChunk) → add_work h Nothing y ≡ 1
add_work_first zero y = refl
add_work_first (suc h) y = refl

add_work_second : (h : ℕ) (x : Tree MatChunk) → add_work h x Nothing ≡ 1
add_work_second zero x = refl
add_work_second (suc h) Nothing = refl
add_work_second (suc h) (Root c x y z w) = refl

-- also of symmetric blocks
symmetric_add_work_first : (h : ℕ) (y : Tree MatChunk) → symmetric_add_work h Nothing y ≡ 1
symmetric_add_work_first zero y = refl
symmetric_add_work_first (suc h) y = refl

symmetric_add_work_second : (h : ℕ) (x : Tree MatChunk) → symmetric_add_work h x Nothing ≡ 1
symmetric_add_work_second zero x = refl
symmetric_add_work_second (suc h) Nothing = refl
symmetric_add_work_second (suc h) (Root c x y z w) = refl

-- and so is that of a trace of nothing
trace_work_nothing : (mirrored : Bool) (h : ℕ) → trace_work mirrored h Nothing ≡ 1
trace_work_nothing mirrored zero = refl
trace_work_nothing mirrored (suc h) = refl

-- and of a general form of nothing
full_work_nothing : (h : ℕ) → full_work h Nothing ≡ 1
full_work_nothing zero = refl
full_work_nothing (suc h) = refl

-- and of a product with nothing
product_work_first : (turned : Turned) (h : ℕ) (y : Tree MatChunk) → product_work turned h Nothing y ≡ 1
product_work_first turned zero y = refl
product_work_first turned (suc h) y = refl

no_term : (turned : Turned) (x : Tree MatChunk) (lower right far : Bool) → is_term turned x Nothing lower right far ≡ false
no_term turned x lower right far = and_false (is_there (child x (first_child turned lower far)))
  where
    and_false : (b : Bool) → (b && false) ≡ false
    and_false true = refl
    and_false false = refl

product_work_second : (turned : Turned) (h : ℕ) (x : Tree MatChunk) → product_work turned h x Nothing ≡ 1
product_work_second turned zero x = refl
product_work_second turned (suc h) x =
    rw (no_term turned x false false false, no_term turned x false false true, no_term turned x true false false, no_term turned x true false true)
    refl

-- and of a transpose of nothing
transpose_work_nothing : (h : ℕ) → transpose_work h Nothing ≡ 1
transpose_work_nothing zero = refl
transpose_work_nothing (suc h) = refl

-- and of symmetric products of nothing
square_work_nothing : (h : ℕ) → square_work h Nothing ≡ 1
square_work_nothing zero = refl
square_work_nothing (suc h) = refl

rank_work_nothing : (h : ℕ) → rank_work h Nothing ≡ 1
rank_work_nothing zero = refl
rank_work_nothing (suc h) = refl

transposed_rank_work_nothing : (h : ℕ) → transposed_rank_work h Nothing ≡ 1
transposed_rank_work_nothing zero = refl
transposed_rank_work_nothing (suc h) = refl

-- a test and false
and_false : (b : Bool) → (b && false) ≡ false
and_false true = refl
and_false false = refl

-- and of products with a symmetric factor, of which one factor is nothing
symmetric_first_work_no_first : (h : ℕ) (y : Tree MatChunk) → symmetric_first_work h Nothing y ≡ 1
symmetric_first_work_no_first zero y = refl
symmetric_first_work_no_first (suc h) y = refl

symmetric_first_work_no_second : (h : ℕ) (x : Tree MatChunk) → symmetric_first_work h x Nothing ≡ 1
symmetric_first_work_no_second zero x = refl
symmetric_first_work_no_second (suc h) x =
    rw (and_false (is_there (child x 0)), and_false (is_there (child x 1)), and_false (is_there (child x 2))) refl

symmetric_second_work_no_first : (h : ℕ) (y : Tree MatChunk) → symmetric_second_work h Nothing y ≡ 1
symmetric_second_work_no_first zero y = refl
symmetric_second_work_no_first (suc h) y = refl

symmetric_second_work_no_second : (h : ℕ) (x : Tree MatChunk) → symmetric_second_work h x Nothing ≡ 1
symmetric_second_work_no_second zero x = refl
symmetric_second_work_no_second (suc h) x =
    rw (and_false (is_there (child x 0)), and_false (is_there (child x 1)), and_false (is_there (child x 2)), and_false (is_there (child x 3))) refl

-- a join asks no tasks
node_total : (trees chunks : List (Tree MatChunk)) (places : List Place) → total trees chunks (node_shape places) ≡ 0
node_total trees chunks places =
    cond_both (are_null places) (given_shape Null) (shape_from (filled places ∷ []) [] (Chunk 0)) (λ shape. total trees chunks shape ≡ 0) (λ e. refl) (λ e. refl)

-- ---- The shape of an outcome

-- the shapes of a kind with as many inputs as it has
abbrev allowed : What → ℕ → List Presence → List (Shape MatKind)
allowed what h known = cond (all_present known) (full_shapes what h known) (null_shape what known ∷ [])

-- a shape of the plan is one of them
in_plan : (what : What) (h : ℕ) (known : List Presence) (shape : Shape MatKind) → IsOneOf shape (shapes_of (kind_of what h) known) → IsOneOf shape (allowed what h known)
in_plan what h known shape e = one_of_cond ((length known == inputs_of what) && may_have what h) shape (allowed what h known) e

-- an outcome of an input that is null, or of height 0, asks no tasks
no_tasks : (trees chunks : List (Tree MatChunk)) (shape other : Shape MatKind) → total trees chunks other ≡ 0 → shape ≡ other → 1 ≡ 1 + total trees chunks shape
no_tasks trees chunks shape other none same =
    sym (ap (λ n. 1 + n) (ap (total trees chunks) same ∙ none))

low_tasks : (trees chunks : List (Tree MatChunk)) (shape : Shape MatKind) → IsOneOf shape (given_shape Null ∷ chunk_shape ∷ []) → 1 ≡ 1 + total trees chunks shape
low_tasks trees chunks shape (inl e) = no_tasks trees chunks shape (given_shape Null) refl e
low_tasks trees chunks shape (inr (inl e)) = no_tasks trees chunks shape chunk_shape refl e
low_tasks trees chunks shape (inr (inr e)) = absurd e

-- ---- The works of all kinds

-- the work of an assignment
assign_adds_up : (b h : ℕ) (x : Tree MatChunk) (outcome : Outcome MatChunk MatKind) → IsList b h false x → IsSound arity_of matrices (kind_of Assign h) (x ∷ []) outcome → work_at Assign h (x ∷ []) ≡ 1 + new_work matrices (x ∷ []) outcome
assign_adds_up b h Nothing outcome list sound =
    assign_work_nothing 0 h
    ∙ no_tasks (Nothing ∷ []) (new_trees (Nothing ∷ []) outcome) (shape_of outcome) (given_shape Null) refl
    (one_of_one (shape_of outcome) (given_shape Null) (in_plan Assign h (presence_of {C = MatChunk} Nothing ∷ []) (shape_of outcome) sound.planned))
assign_adds_up b zero (Root k x y z w) outcome list sound =
    low_tasks (Root k x y z w ∷ []) (new_trees (Root k x y z w ∷ []) outcome) (shape_of outcome)
    (in_plan Assign 0 (presence_of (Root k x y z w) ∷ []) (shape_of outcome) sound.planned)
assign_adds_up b (suc h) (Root k x y z w) outcome list sound =
    let t = Root k x y z w in
    let known = presence_of t ∷ [] in
    let choice = one_of_choices (planned_shape kind_at (suc h) (plan_of Assign) known) (shape_of outcome) choices (in_plan Assign (suc h) known (shape_of outcome) sound.planned) in
    let p = has_child choice.0 0 in
    let q = has_child choice.0 1 in
    let r = has_child choice.0 2 in
    let s = has_child choice.0 3 in
    let shape : shape_of outcome ≡ assign_shape h (suc h) p q r s = choice.1 ∙ ap (λ low. assign_shape low (suc h) p q r s) (suc-sub_one h) in
    ap (λ c. assign_work c (suc h) (block_of c (suc h) t)) (leaf_of_list b (suc h) false t list refl)
    ∙ assign_work_is b h k x y z w list outcome sound p q r s shape

-- the work of an assignment of a symmetric block
symmetric_assign_adds_up : (b h : ℕ) (x : Tree MatChunk) (outcome : Outcome MatChunk MatKind) → IsList b h true x → IsSound arity_of matrices (kind_of SAssign h) (x ∷ []) outcome → work_at SAssign h (x ∷ []) ≡ 1 + new_work matrices (x ∷ []) outcome
symmetric_assign_adds_up b h Nothing outcome list sound =
    symmetric_assign_work_nothing 0 h
    ∙ no_tasks (Nothing ∷ []) (new_trees (Nothing ∷ []) outcome) (shape_of outcome) (given_shape Null) refl
    (one_of_one (shape_of outcome) (given_shape Null) (in_plan SAssign h (presence_of {C = MatChunk} Nothing ∷ []) (shape_of outcome) sound.planned))
symmetric_assign_adds_up b zero (Root k x y z w) outcome list sound =
    low_tasks (Root k x y z w ∷ []) (new_trees (Root k x y z w ∷ []) outcome) (shape_of outcome)
    (in_plan SAssign 0 (presence_of (Root k x y z w) ∷ []) (shape_of outcome) sound.planned)
symmetric_assign_adds_up b (suc h) (Root k x y z w) outcome list sound =
    let t = Root k x y z w in
    let known = presence_of t ∷ [] in
    let choice = one_of_choices (planned_shape kind_at (suc h) (plan_of SAssign) known) (shape_of outcome) (choices_of (plan_of SAssign).parts) (in_plan SAssign (suc h) known (shape_of outcome) sound.planned) in
    let p = has_child choice.0 0 in
    let q = has_child choice.0 1 in
    let r = has_child choice.0 3 in
    let shape : shape_of outcome ≡ symmetric_assign_shape h (suc h) p q r = choice.1 ∙ ap (λ low. symmetric_assign_shape low (suc h) p q r) (suc-sub_one h) in
    ap (λ c. symmetric_assign_work c (suc h) (block_of c (suc h) t)) (leaf_of_list b (suc h) true t list refl)
    ∙ symmetric_assign_work_is b h k x y z w list outcome sound p q r shape

-- a shape that equals another has its works
same_work : (trees chunks : List (Tree MatChunk)) (shape other : Shape MatKind) (work : ℕ) → work ≡ 1 + total trees chunks other → shape ≡ other → work ≡ 1 + total trees chunks shape
same_work trees chunks shape other work is same = is ∙ ap (λ s. 1 + total trees chunks s) (sym same)

-- the works of the other kinds, by the shape alone
works_at : (b : ℕ) (what : What) (h : ℕ) (trees chunks : List (Tree MatChunk)) (shape : Shape MatKind) → FitsAt b what h trees → (what ≡ Assign → ⊥) → (what ≡ SAssign → ⊥) → IsOneOf shape (allowed what h (map presence_of trees)) → work_at what h trees ≡ 1 + total trees chunks shape
works_at b Assign h trees chunks shape fits other more e = absurd (other refl)
works_at b SAssign h trees chunks shape fits other more e = absurd (more refl)
works_at b Add h (Nothing ∷ Nothing ∷ []) chunks shape fits other more e =
    add_work_first h Nothing ∙ no_tasks (Nothing ∷ Nothing ∷ []) chunks shape (given_shape Null) refl (one_of_one shape (given_shape Null) e)
works_at b Add h (Nothing ∷ Root k x y z w ∷ []) chunks shape fits other more e =
    add_work_first h (Root k x y z w)
    ∙ no_tasks (Nothing ∷ Root k x y z w ∷ []) chunks shape (given_shape (Input 1)) refl (one_of_one shape (given_shape (Input 1)) e)
works_at b Add h (Root k x y z w ∷ Nothing ∷ []) chunks shape fits other more e =
    add_work_second h (Root k x y z w)
    ∙ no_tasks (Root k x y z w ∷ Nothing ∷ []) chunks shape (given_shape (Input 0)) refl (one_of_one shape (given_shape (Input 0)) e)
works_at b Add zero (Root k x y z w ∷ Root l p q r s ∷ []) chunks shape fits other more e =
    low_tasks (Root k x y z w ∷ Root l p q r s ∷ []) chunks shape e
works_at b Add (suc h) (Root k x y z w ∷ Root l p q r s ∷ []) chunks shape fits other more e =
    let known = presence_of (Root k x y z w) ∷ presence_of (Root l p q r s) ∷ [] in
    same_work (Root k x y z w ∷ Root l p q r s ∷ []) chunks shape (planned_shape kind_at (suc h) (plan_of Add) known Absent) (add_work (suc h) (Root k x y z w) (Root l p q r s))
    (add_works h k l x y z w p q r s chunks) (one_of_one shape (planned_shape kind_at (suc h) (plan_of Add) known Absent) e)
works_at b Add h [] chunks shape fits other more e = absurd fits
works_at b Add h (x ∷ []) chunks shape fits other more e = absurd fits
works_at b Add h (x ∷ y ∷ z ∷ trees) chunks shape fits other more e = absurd fits
works_at b Mul h (Nothing ∷ y ∷ []) chunks shape fits other more e =
    product_work_first Neither h y ∙ no_tasks (Nothing ∷ y ∷ []) chunks shape (given_shape Null) refl (one_of_one shape (given_shape Null) e)
works_at b Mul h (Root k x y z w ∷ Nothing ∷ []) chunks shape fits other more e =
    product_work_second Neither h (Root k x y z w)
    ∙ no_tasks (Root k x y z w ∷ Nothing ∷ []) chunks shape (given_shape Null) refl (one_of_one shape (given_shape Null) e)
works_at b Mul zero (Root k x y z w ∷ Root l p q r s ∷ []) chunks shape fits other more e =
    low_tasks (Root k x y z w ∷ Root l p q r s ∷ []) chunks shape e
works_at b Mul (suc h) (Root k x y z w ∷ Root l p q r s ∷ []) chunks shape fits other more e =
    let first = Root k x y z w in
    let second = Root l p q r s in
    let known = presence_of first ∷ presence_of second ∷ [] in
    same_work (first ∷ second ∷ []) chunks shape (planned_shape kind_at (suc h) (plan_of Mul) known Absent) (product_work Neither (suc h) first second)
    (product_works h Neither first second chunks) (one_of_one shape (planned_shape kind_at (suc h) (plan_of Mul) known Absent) e)
works_at b Mul h [] chunks shape fits other more e = absurd fits
works_at b Mul h (x ∷ []) chunks shape fits other more e = absurd fits
works_at b Mul h (x ∷ y ∷ z ∷ trees) chunks shape fits other more e = absurd fits
works_at b TMul h (Nothing ∷ y ∷ []) chunks shape fits other more e =
    product_work_first First h y ∙ no_tasks (Nothing ∷ y ∷ []) chunks shape (given_shape Null) refl (one_of_one shape (given_shape Null) e)
works_at b TMul h (Root k x y z w ∷ Nothing ∷ []) chunks shape fits other more e =
    product_work_second First h (Root k x y z w)
    ∙ no_tasks (Root k x y z w ∷ Nothing ∷ []) chunks shape (given_shape Null) refl (one_of_one shape (given_shape Null) e)
works_at b TMul zero (Root k x y z w ∷ Root l p q r s ∷ []) chunks shape fits other more e =
    low_tasks (Root k x y z w ∷ Root l p q r s ∷ []) chunks shape e
works_at b TMul (suc h) (Root k x y z w ∷ Root l p q r s ∷ []) chunks shape fits other more e =
    let first = Root k x y z w in
    let second = Root l p q r s in
    let known = presence_of first ∷ presence_of second ∷ [] in
    same_work (first ∷ second ∷ []) chunks shape (planned_shape kind_at (suc h) (plan_of TMul) known Absent) (product_work First (suc h) first second)
    (product_works h First first second chunks) (one_of_one shape (planned_shape kind_at (suc h) (plan_of TMul) known Absent) e)
works_at b TMul h [] chunks shape fits other more e = absurd fits
works_at b TMul h (x ∷ []) chunks shape fits other more e = absurd fits
works_at b TMul h (x ∷ y ∷ z ∷ trees) chunks shape fits other more e = absurd fits
works_at b MulT h (Nothing ∷ y ∷ []) chunks shape fits other more e =
    product_work_first Second h y ∙ no_tasks (Nothing ∷ y ∷ []) chunks shape (given_shape Null) refl (one_of_one shape (given_shape Null) e)
works_at b MulT h (Root k x y z w ∷ Nothing ∷ []) chunks shape fits other more e =
    product_work_second Second h (Root k x y z w)
    ∙ no_tasks (Root k x y z w ∷ Nothing ∷ []) chunks shape (given_shape Null) refl (one_of_one shape (given_shape Null) e)
works_at b MulT zero (Root k x y z w ∷ Root l p q r s ∷ []) chunks shape fits other more e =
    low_tasks (Root k x y z w ∷ Root l p q r s ∷ []) chunks shape e
works_at b MulT (suc h) (Root k x y z w ∷ Root l p q r s ∷ []) chunks shape fits other more e =
    let first = Root k x y z w in
    let second = Root l p q r s in
    let known = presence_of first ∷ presence_of second ∷ [] in
    same_work (first ∷ second ∷ []) chunks shape (planned_shape kind_at (suc h) (plan_of MulT) known Absent) (product_work Second (suc h) first second)
    (product_works h Second first second chunks) (one_of_one shape (planned_shape kind_at (suc h) (plan_of MulT) known Absent) e)
works_at b MulT h [] chunks shape fits other more e = absurd fits
works_at b MulT h (x ∷ []) chunks shape fits other more e = absurd fits
works_at b MulT h (x ∷ y ∷ z ∷ trees) chunks shape fits other more e = absurd fits
works_at b Transpose h (Nothing ∷ []) chunks shape fits other more e =
    transpose_work_nothing h ∙ no_tasks (Nothing ∷ []) chunks shape (given_shape Null) refl (one_of_one shape (given_shape Null) e)
works_at b Transpose zero (Root k x y z w ∷ []) chunks shape fits other more e = low_tasks (Root k x y z w ∷ []) chunks shape e
works_at b Transpose (suc h) (Root k x y z w ∷ []) chunks shape fits other more e =
    let known = presence_of (Root k x y z w) ∷ [] in
    same_work (Root k x y z w ∷ []) chunks shape (planned_shape kind_at (suc h) (plan_of Transpose) known Absent) (transpose_work (suc h) (Root k x y z w))
    (transpose_works h (Root k x y z w) chunks) (one_of_one shape (planned_shape kind_at (suc h) (plan_of Transpose) known Absent) e)
works_at b Transpose h [] chunks shape fits other more e = absurd fits
works_at b Transpose h (x ∷ y ∷ trees) chunks shape fits other more e = absurd fits
works_at b Join h (x ∷ y ∷ z ∷ w ∷ []) chunks shape fits other more e =
    let trees = x ∷ y ∷ z ∷ w ∷ [] in
    let known = map presence_of trees in
    no_tasks trees chunks shape (joined_shape known) (node_total trees chunks (join_places known)) (one_of_same (all_present known) shape (joined_shape known) e)
works_at b Join h [] chunks shape fits other more e = absurd fits
works_at b Join h (x ∷ []) chunks shape fits other more e = absurd fits
works_at b Join h (x ∷ y ∷ []) chunks shape fits other more e = absurd fits
works_at b Join h (x ∷ y ∷ z ∷ []) chunks shape fits other more e = absurd fits
works_at b Join h (x ∷ y ∷ z ∷ w ∷ t ∷ trees) chunks shape fits other more e = absurd fits
works_at b Trace h (Nothing ∷ []) chunks shape fits other more e =
    trace_work_nothing false h ∙ no_tasks (Nothing ∷ []) chunks shape (given_shape Null) refl (one_of_one shape (given_shape Null) e)
works_at b Trace zero (Root k x y z w ∷ []) chunks shape fits other more e = low_tasks (Root k x y z w ∷ []) chunks shape e
works_at b Trace (suc h) (Root k x y z w ∷ []) chunks shape fits other more e =
    let known = presence_of (Root k x y z w) ∷ [] in
    same_work (Root k x y z w ∷ []) chunks shape (planned_shape kind_at (suc h) (plan_of Trace) known Absent) (trace_work false (suc h) (Root k x y z w))
    (trace_works false h (Root k x y z w) chunks) (one_of_one shape (planned_shape kind_at (suc h) (plan_of Trace) known Absent) e)
works_at b Trace h [] chunks shape fits other more e = absurd fits
works_at b Trace h (x ∷ y ∷ trees) chunks shape fits other more e = absurd fits
works_at b SAdd h (Nothing ∷ Nothing ∷ []) chunks shape fits other more e =
    symmetric_add_work_first h Nothing ∙ no_tasks (Nothing ∷ Nothing ∷ []) chunks shape (given_shape Null) refl (one_of_one shape (given_shape Null) e)
works_at b SAdd h (Nothing ∷ Root k x y z w ∷ []) chunks shape fits other more e =
    symmetric_add_work_first h (Root k x y z w)
    ∙ no_tasks (Nothing ∷ Root k x y z w ∷ []) chunks shape (given_shape (Input 1)) refl (one_of_one shape (given_shape (Input 1)) e)
works_at b SAdd h (Root k x y z w ∷ Nothing ∷ []) chunks shape fits other more e =
    symmetric_add_work_second h (Root k x y z w)
    ∙ no_tasks (Root k x y z w ∷ Nothing ∷ []) chunks shape (given_shape (Input 0)) refl (one_of_one shape (given_shape (Input 0)) e)
works_at b SAdd zero (Root k x y z w ∷ Root l p q r s ∷ []) chunks shape fits other more e =
    low_tasks (Root k x y z w ∷ Root l p q r s ∷ []) chunks shape e
works_at b SAdd (suc h) (Root k x y z w ∷ Root l p q r s ∷ []) chunks shape fits other more e =
    let known = presence_of (Root k x y z w) ∷ presence_of (Root l p q r s) ∷ [] in
    same_work (Root k x y z w ∷ Root l p q r s ∷ []) chunks shape (planned_shape kind_at (suc h) (plan_of SAdd) known Absent) (symmetric_add_work (suc h) (Root k x y z w) (Root l p q r s))
    (symmetric_add_works h k l x y z w p q r s chunks) (one_of_one shape (planned_shape kind_at (suc h) (plan_of SAdd) known Absent) e)
works_at b SAdd h [] chunks shape fits other more e = absurd fits
works_at b SAdd h (x ∷ []) chunks shape fits other more e = absurd fits
works_at b SAdd h (x ∷ y ∷ z ∷ trees) chunks shape fits other more e = absurd fits
works_at b Square h (Nothing ∷ []) chunks shape fits other more e =
    square_work_nothing h ∙ no_tasks (Nothing ∷ []) chunks shape (given_shape Null) refl (one_of_one shape (given_shape Null) e)
works_at b Square zero (Root k x y z w ∷ []) chunks shape fits other more e = low_tasks (Root k x y z w ∷ []) chunks shape e
works_at b Square (suc h) (Root k x y z w ∷ []) chunks shape fits other more e =
    let known = presence_of (Root k x y z w) ∷ [] in
    same_work (Root k x y z w ∷ []) chunks shape (planned_shape kind_at (suc h) (plan_of Square) known Absent) (square_work (suc h) (Root k x y z w))
    (square_works h (Root k x y z w) chunks) (one_of_one shape (planned_shape kind_at (suc h) (plan_of Square) known Absent) e)
works_at b Square h [] chunks shape fits other more e = absurd fits
works_at b Square h (x ∷ y ∷ trees) chunks shape fits other more e = absurd fits
works_at b RankMul h (Nothing ∷ []) chunks shape fits other more e =
    rank_work_nothing h ∙ no_tasks (Nothing ∷ []) chunks shape (given_shape Null) refl (one_of_one shape (given_shape Null) e)
works_at b RankMul zero (Root k x y z w ∷ []) chunks shape fits other more e = low_tasks (Root k x y z w ∷ []) chunks shape e
works_at b RankMul (suc h) (Root k x y z w ∷ []) chunks shape fits other more e =
    let known = presence_of (Root k x y z w) ∷ [] in
    same_work (Root k x y z w ∷ []) chunks shape (planned_shape kind_at (suc h) (plan_of RankMul) known Absent) (rank_work (suc h) (Root k x y z w))
    (rank_works h (Root k x y z w) chunks) (one_of_one shape (planned_shape kind_at (suc h) (plan_of RankMul) known Absent) e)
works_at b RankMul h [] chunks shape fits other more e = absurd fits
works_at b RankMul h (x ∷ y ∷ trees) chunks shape fits other more e = absurd fits
works_at b TRank h (Nothing ∷ []) chunks shape fits other more e =
    transposed_rank_work_nothing h ∙ no_tasks (Nothing ∷ []) chunks shape (given_shape Null) refl (one_of_one shape (given_shape Null) e)
works_at b TRank zero (Root k x y z w ∷ []) chunks shape fits other more e = low_tasks (Root k x y z w ∷ []) chunks shape e
works_at b TRank (suc h) (Root k x y z w ∷ []) chunks shape fits other more e =
    let known = presence_of (Root k x y z w) ∷ [] in
    same_work (Root k x y z w ∷ []) chunks shape (planned_shape kind_at (suc h) (plan_of TRank) known Absent) (transposed_rank_work (suc h) (Root k x y z w))
    (transposed_rank_works h (Root k x y z w) chunks) (one_of_one shape (planned_shape kind_at (suc h) (plan_of TRank) known Absent) e)
works_at b TRank h [] chunks shape fits other more e = absurd fits
works_at b TRank h (x ∷ y ∷ trees) chunks shape fits other more e = absurd fits
works_at b SMul h (Nothing ∷ y ∷ []) chunks shape fits other more e =
    symmetric_first_work_no_first h y ∙ no_tasks (Nothing ∷ y ∷ []) chunks shape (given_shape Null) refl (one_of_one shape (given_shape Null) e)
works_at b SMul h (Root k x y z w ∷ Nothing ∷ []) chunks shape fits other more e =
    symmetric_first_work_no_second h (Root k x y z w)
    ∙ no_tasks (Root k x y z w ∷ Nothing ∷ []) chunks shape (given_shape Null) refl (one_of_one shape (given_shape Null) e)
works_at b SMul zero (Root k x y z w ∷ Root l p q r s ∷ []) chunks shape fits other more e =
    low_tasks (Root k x y z w ∷ Root l p q r s ∷ []) chunks shape e
works_at b SMul (suc h) (Root k x y z w ∷ Root l p q r s ∷ []) chunks shape fits other more e =
    let first = Root k x y z w in
    let second = Root l p q r s in
    let known = presence_of first ∷ presence_of second ∷ [] in
    same_work (first ∷ second ∷ []) chunks shape (planned_shape kind_at (suc h) (plan_of SMul) known Absent) (symmetric_first_work (suc h) first second)
    (symmetric_first_works h first second chunks) (one_of_one shape (planned_shape kind_at (suc h) (plan_of SMul) known Absent) e)
works_at b SMul h [] chunks shape fits other more e = absurd fits
works_at b SMul h (x ∷ []) chunks shape fits other more e = absurd fits
works_at b SMul h (x ∷ y ∷ z ∷ trees) chunks shape fits other more e = absurd fits
works_at b MulS h (Nothing ∷ y ∷ []) chunks shape fits other more e =
    symmetric_second_work_no_first h y ∙ no_tasks (Nothing ∷ y ∷ []) chunks shape (given_shape Null) refl (one_of_one shape (given_shape Null) e)
works_at b MulS h (Root k x y z w ∷ Nothing ∷ []) chunks shape fits other more e =
    symmetric_second_work_no_second h (Root k x y z w)
    ∙ no_tasks (Root k x y z w ∷ Nothing ∷ []) chunks shape (given_shape Null) refl (one_of_one shape (given_shape Null) e)
works_at b MulS zero (Root k x y z w ∷ Root l p q r s ∷ []) chunks shape fits other more e =
    low_tasks (Root k x y z w ∷ Root l p q r s ∷ []) chunks shape e
works_at b MulS (suc h) (Root k x y z w ∷ Root l p q r s ∷ []) chunks shape fits other more e =
    let first = Root k x y z w in
    let second = Root l p q r s in
    let known = presence_of first ∷ presence_of second ∷ [] in
    same_work (first ∷ second ∷ []) chunks shape (planned_shape kind_at (suc h) (plan_of MulS) known Absent) (symmetric_second_work (suc h) first second)
    (symmetric_second_works h first second chunks) (one_of_one shape (planned_shape kind_at (suc h) (plan_of MulS) known Absent) e)
works_at b MulS h [] chunks shape fits other more e = absurd fits
works_at b MulS h (x ∷ []) chunks shape fits other more e = absurd fits
works_at b MulS h (x ∷ y ∷ z ∷ trees) chunks shape fits other more e = absurd fits
works_at b Full h (Nothing ∷ []) chunks shape fits other more e =
    full_work_nothing h ∙ no_tasks (Nothing ∷ []) chunks shape (given_shape Null) refl (one_of_one shape (given_shape Null) e)
works_at b Full zero (Root k x y z w ∷ []) chunks shape fits other more e = low_tasks (Root k x y z w ∷ []) chunks shape e
works_at b Full (suc h) (Root k x y z w ∷ []) chunks shape fits other more e =
    let known = presence_of (Root k x y z w) ∷ [] in
    same_work (Root k x y z w ∷ []) chunks shape (planned_shape kind_at (suc h) (plan_of Full) known Absent) (full_work (suc h) (Root k x y z w))
    (full_works h (Root k x y z w) chunks) (one_of_one shape (planned_shape kind_at (suc h) (plan_of Full) known Absent) e)
works_at b Full h [] chunks shape fits other more e = absurd fits
works_at b Full h (x ∷ y ∷ trees) chunks shape fits other more e = absurd fits
works_at b STrace h (Nothing ∷ []) chunks shape fits other more e =
    trace_work_nothing true h ∙ no_tasks (Nothing ∷ []) chunks shape (given_shape Null) refl (one_of_one shape (given_shape Null) e)
works_at b STrace zero (Root k x y z w ∷ []) chunks shape fits other more e = low_tasks (Root k x y z w ∷ []) chunks shape e
works_at b STrace (suc h) (Root k x y z w ∷ []) chunks shape fits other more e =
    let known = presence_of (Root k x y z w) ∷ [] in
    same_work (Root k x y z w ∷ []) chunks shape (planned_shape kind_at (suc h) (plan_of STrace) known Absent) (trace_work true (suc h) (Root k x y z w))
    (trace_works true h (Root k x y z w) chunks) (one_of_one shape (planned_shape kind_at (suc h) (plan_of STrace) known Absent) e)
works_at b STrace h [] chunks shape fits other more e = absurd fits
works_at b STrace h (x ∷ y ∷ trees) chunks shape fits other more e = absurd fits
works_at b SJoin h (x ∷ y ∷ z ∷ []) chunks shape fits other more e =
    let trees = x ∷ y ∷ z ∷ [] in
    let known = map presence_of trees in
    no_tasks trees chunks shape (symmetric_joined_shape known) (node_total trees chunks (symmetric_join_places known)) (one_of_same (all_present known) shape (symmetric_joined_shape known) e)
works_at b SJoin h [] chunks shape fits other more e = absurd fits
works_at b SJoin h (x ∷ []) chunks shape fits other more e = absurd fits
works_at b SJoin h (x ∷ y ∷ []) chunks shape fits other more e = absurd fits
works_at b SJoin h (x ∷ y ∷ z ∷ w ∷ trees) chunks shape fits other more e = absurd fits
works_at b AddNum h (Nothing ∷ Nothing ∷ []) chunks shape fits other more e =
    no_tasks (Nothing ∷ Nothing ∷ []) chunks shape (given_shape Null) refl (one_of_one shape (given_shape Null) e)
works_at b AddNum h (Nothing ∷ Root k x y z w ∷ []) chunks shape fits other more e =
    no_tasks (Nothing ∷ Root k x y z w ∷ []) chunks shape (given_shape (Input 1)) refl (one_of_one shape (given_shape (Input 1)) e)
works_at b AddNum h (Root k x y z w ∷ Nothing ∷ []) chunks shape fits other more e =
    no_tasks (Root k x y z w ∷ Nothing ∷ []) chunks shape (given_shape (Input 0)) refl (one_of_one shape (given_shape (Input 0)) e)
works_at b AddNum zero (Root k x y z w ∷ Root l p q r s ∷ []) chunks shape fits other more e =
    low_tasks (Root k x y z w ∷ Root l p q r s ∷ []) chunks shape e
works_at b AddNum (suc h) (Root k x y z w ∷ Root l p q r s ∷ []) chunks shape fits other more e = absurd (omega (arith, fits.0))
works_at b AddNum h [] chunks shape fits other more e = absurd fits
works_at b AddNum h (x ∷ []) chunks shape fits other more e = absurd fits
works_at b AddNum h (x ∷ y ∷ z ∷ trees) chunks shape fits other more e = absurd fits

-- the work of a kind
kind_adds_up : (b : ℕ) (what : What) (h : ℕ) (trees : List (Tree MatChunk)) (outcome : Outcome MatChunk MatKind) → FitsAt b what h trees → IsSound arity_of matrices (kind_of what h) trees outcome → work_at what h trees ≡ 1 + new_work matrices trees outcome
kind_adds_up b Assign h (x ∷ []) outcome fits sound = assign_adds_up b h x outcome fits sound
kind_adds_up b Assign h [] outcome fits sound = absurd fits
kind_adds_up b Assign h (x ∷ y ∷ trees) outcome fits sound = absurd fits
kind_adds_up b SAssign h (x ∷ []) outcome fits sound = symmetric_assign_adds_up b h x outcome fits sound
kind_adds_up b SAssign h [] outcome fits sound = absurd fits
kind_adds_up b SAssign h (x ∷ y ∷ trees) outcome fits sound = absurd fits
kind_adds_up b Add h trees outcome fits sound =
    works_at b Add h trees (new_trees trees outcome) (shape_of outcome) fits (λ e. cc) (λ e. cc) (in_plan Add h (map presence_of trees) (shape_of outcome) sound.planned)
kind_adds_up b Mul h trees outcome fits sound =
    works_at b Mul h trees (new_trees trees outcome) (shape_of outcome) fits (λ e. cc) (λ e. cc) (in_plan Mul h (map presence_of trees) (shape_of outcome) sound.planned)
kind_adds_up b TMul h trees outcome fits sound =
    works_at b TMul h trees (new_trees trees outcome) (shape_of outcome) fits (λ e. cc) (λ e. cc) (in_plan TMul h (map presence_of trees) (shape_of outcome) sound.planned)
kind_adds_up b MulT h trees outcome fits sound =
    works_at b MulT h trees (new_trees trees outcome) (shape_of outcome) fits (λ e. cc) (λ e. cc) (in_plan MulT h (map presence_of trees) (shape_of outcome) sound.planned)
kind_adds_up b Transpose h trees outcome fits sound =
    works_at b Transpose h trees (new_trees trees outcome) (shape_of outcome) fits (λ e. cc) (λ e. cc) (in_plan Transpose h (map presence_of trees) (shape_of outcome) sound.planned)
kind_adds_up b Join h trees outcome fits sound =
    works_at b Join h trees (new_trees trees outcome) (shape_of outcome) fits (λ e. cc) (λ e. cc) (in_plan Join h (map presence_of trees) (shape_of outcome) sound.planned)
kind_adds_up b Trace h trees outcome fits sound =
    works_at b Trace h trees (new_trees trees outcome) (shape_of outcome) fits (λ e. cc) (λ e. cc) (in_plan Trace h (map presence_of trees) (shape_of outcome) sound.planned)
kind_adds_up b AddNum h trees outcome fits sound =
    works_at b AddNum h trees (new_trees trees outcome) (shape_of outcome) fits (λ e. cc) (λ e. cc) (in_plan AddNum h (map presence_of trees) (shape_of outcome) sound.planned)
kind_adds_up b SJoin h trees outcome fits sound =
    works_at b SJoin h trees (new_trees trees outcome) (shape_of outcome) fits (λ e. cc) (λ e. cc) (in_plan SJoin h (map presence_of trees) (shape_of outcome) sound.planned)
kind_adds_up b SAdd h trees outcome fits sound =
    works_at b SAdd h trees (new_trees trees outcome) (shape_of outcome) fits (λ e. cc) (λ e. cc) (in_plan SAdd h (map presence_of trees) (shape_of outcome) sound.planned)
kind_adds_up b Full h trees outcome fits sound =
    works_at b Full h trees (new_trees trees outcome) (shape_of outcome) fits (λ e. cc) (λ e. cc) (in_plan Full h (map presence_of trees) (shape_of outcome) sound.planned)
kind_adds_up b Square h trees outcome fits sound =
    works_at b Square h trees (new_trees trees outcome) (shape_of outcome) fits (λ e. cc) (λ e. cc) (in_plan Square h (map presence_of trees) (shape_of outcome) sound.planned)
kind_adds_up b RankMul h trees outcome fits sound =
    works_at b RankMul h trees (new_trees trees outcome) (shape_of outcome) fits (λ e. cc) (λ e. cc) (in_plan RankMul h (map presence_of trees) (shape_of outcome) sound.planned)
kind_adds_up b TRank h trees outcome fits sound =
    works_at b TRank h trees (new_trees trees outcome) (shape_of outcome) fits (λ e. cc) (λ e. cc) (in_plan TRank h (map presence_of trees) (shape_of outcome) sound.planned)
kind_adds_up b SMul h trees outcome fits sound =
    works_at b SMul h trees (new_trees trees outcome) (shape_of outcome) fits (λ e. cc) (λ e. cc) (in_plan SMul h (map presence_of trees) (shape_of outcome) sound.planned)
kind_adds_up b MulS h trees outcome fits sound =
    works_at b MulS h trees (new_trees trees outcome) (shape_of outcome) fits (λ e. cc) (λ e. cc) (in_plan MulS h (map presence_of trees) (shape_of outcome) sound.planned)
kind_adds_up b STrace h trees outcome fits sound =
    works_at b STrace h trees (new_trees trees outcome) (shape_of outcome) fits (λ e. cc) (λ e. cc) (in_plan STrace h (map presence_of trees) (shape_of outcome) sound.planned)

-- at each sound outcome the work of a kind is one more than those of the new tasks
pub matrix_works_add_up : AddsUp arity_of matrices
matrix_works_add_up =
    λ kind trees outcome d sound. kind_adds_up d.leaf kind.what kind.height trees outcome d.fits sound
