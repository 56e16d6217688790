-- The works of the kinds: how many tasks are finished for one, itself and all that come of it.
use Rattle.std.specs.Prelude.{ℕ, zero, suc, ◌+◌, Bool, true, false, ◌&&◌, ◌||◌, ◌==◌, not, if◌then◌else◌, List, [], ◌∷◌, ◌++◌, sum}
use Rattle.dense_def.specs.Matrix.{Matrix, peak_of}
use Rattle.task_types.specs.Tree.{Tree, Nothing, Root, child, is_there}
use Rattle.quad_matrix.specs.declared.chunk.MatChunk.{MatChunk}
use Rattle.quad_matrix.specs.declared.kind.What.{What}
use Rattle.quad_matrix.specs.declared.kind.What.TheVariants.{Assign, Add, Mul, TMul, MulT, Transpose, Join, Trace, AddNum, SAssign, SAdd, Square, RankMul, TRank, SMul, MulS, Full, SJoin, STrace}
use Rattle.quad_matrix.specs.declared.kind.MatKind.{MatKind}
use Rattle.chunk_codec.specs.Spots.{side_of}
use Rattle.quad_matrix.specs.Blocks.{block_of, leaf_of, upper_left, upper_right, lower_left, lower_right}
use Rattle.quad_matrix.specs.Goals.{kind_of, goal_of}
use Rattle.quad_matrix.specs.Plans.{last_child, kept_child, symmetric_first, symmetric_second}
use Rattle.quad_matrix.specs.Products.{Turned, Neither, First, Second, product_what, first_child, second_child, child_in}

-- an item where it is asked for
abbrev pub asked : {X : Type 0} → Bool → X → List X
asked wanted item = if wanted then item ∷ [] else []

-- whether both trees are there
abbrev pub are_both : Tree MatChunk → Tree MatChunk → Bool
are_both x y = is_there x && is_there y

-- whether one of two trees is there, or both
abbrev pub is_either : Tree MatChunk → Tree MatChunk → Bool
is_either x y = is_there x || is_there y

-- the work of a sum: those of the sums of children that both trees have, and 1 for the join of what comes of them
abbrev pub add_work : ℕ → Tree MatChunk → Tree MatChunk → ℕ
add_work zero x y = 1
add_work (suc h) Nothing y = 1
add_work (suc h) (Root c x0 x1 x2 x3) Nothing = 1
add_work (suc h) (Root c x0 x1 x2 x3) (Root d y0 y1 y2 y3) =
    1
    + sum
    (asked (are_both x0 y0) (add_work h x0 y0) ++ asked (are_both x1 y1) (add_work h x1 y1)
    ++ asked (are_both x2 y2) (add_work h x2 y2) ++ asked (are_both x3 y3) (add_work h x3 y3)
    ++ asked (is_either x0 y0 || is_either x1 y1 || is_either x2 y2 || is_either x3 y3) 1)

-- the work of a sum of symmetric blocks: those of the sums of children that both trees have, and 1 for the join of what comes of them
abbrev pub symmetric_add_work : ℕ → Tree MatChunk → Tree MatChunk → ℕ
symmetric_add_work zero x y = 1
symmetric_add_work (suc h) Nothing y = 1
symmetric_add_work (suc h) (Root c x0 x1 x2 x3) Nothing = 1
symmetric_add_work (suc h) (Root c x0 x1 x2 x3) (Root d y0 y1 y2 y3) =
    1
    + sum
    (asked (are_both x0 y0) (symmetric_add_work h x0 y0) ++ asked (are_both x1 y1) (add_work h x1 y1)
    ++ asked (are_both x2 y2) (symmetric_add_work h x2 y2) ++ asked (is_either x0 y0 || is_either x1 y1 || is_either x2 y2) 1)

-- the works of two tasks of which each may be missing, and of what adds both
abbrev pub pair_works : Bool → Bool → ℕ → ℕ → ℕ → List ℕ
pair_works false false a b both = []
pair_works true false a b both = a ∷ []
pair_works false true a b both = b ∷ []
pair_works true true a b both = a ∷ b ∷ both ∷ []

-- the work of a trace, of a general block or of a symmetric one
abbrev pub trace_work : Bool → ℕ → Tree MatChunk → ℕ
trace_work mirrored zero x = 1
trace_work mirrored (suc h) x =
    1
    + sum
    (pair_works (is_there (child x 0)) (is_there (child x (last_child mirrored))) (trace_work mirrored h (child x 0)) (trace_work mirrored h (child x (last_child mirrored))) 1)

-- the work of a transpose: those of the transposes of the children, and 1 for their join
abbrev pub transpose_work : ℕ → Tree MatChunk → ℕ
transpose_work zero x = 1
transpose_work (suc h) x =
    1
    + sum
    (asked (is_there (child x 0)) (transpose_work h (child x 0)) ++ asked (is_there (child x 2)) (transpose_work h (child x 2))
    ++ asked (is_there (child x 1)) (transpose_work h (child x 1)) ++ asked (is_there (child x 3)) (transpose_work h (child x 3))
    ++ asked (is_there (child x 0) || is_there (child x 2) || is_there (child x 1) || is_there (child x 3)) 1)

-- the work of the general form of a symmetric block: those of the forms of the symmetric children and of the transpose of the child between
-- them, and 1 for their join
abbrev pub full_work : ℕ → Tree MatChunk → ℕ
full_work zero x = 1
full_work (suc h) x =
    1
    + sum
    (asked (is_there (child x 0)) (full_work h (child x 0)) ++ asked (is_there (child x 1)) (transpose_work h (child x 1))
    ++ asked (is_there (child x 2)) (full_work h (child x 2))
    ++ asked (is_there (child x 0) || is_there (child x 1) || is_there (child x 2)) 1)

-- the inputs of a term of a product
abbrev pub factors : Turned → Tree MatChunk → Tree MatChunk → Bool → Bool → Bool → List (Tree MatChunk)
factors turned x y lower right far =
    child x (first_child turned lower far) ∷ child y (second_child turned right far) ∷ []

-- whether a term of a product is there
abbrev pub is_term : Turned → Tree MatChunk → Tree MatChunk → Bool → Bool → Bool → Bool
is_term turned x y lower right far =
    are_both (child x (first_child turned lower far)) (child y (second_child turned right far))

-- whether a quadrant of a product has a term
abbrev pub has_term : Turned → Tree MatChunk → Tree MatChunk → Bool → Bool → Bool
has_term turned x y lower right = is_term turned x y lower right false || is_term turned x y lower right true

-- the product that a term gives, on blocks of a height
abbrev pub term_goal : Turned → ℕ → Tree MatChunk → Tree MatChunk → Bool → Bool → Bool → Tree MatChunk
term_goal turned h x y lower right far = goal_of (kind_of (product_what turned) h) (factors turned x y lower right far)

-- the work of a product: those of the terms of its quadrants and of the sums of two terms, and 1 for the join of the quadrants
abbrev pub product_work : Turned → ℕ → Tree MatChunk → Tree MatChunk → ℕ
product_work turned zero x y = 1
product_work turned (suc h) x y =
    let term : Bool → Bool → Bool → ℕ =
    λ lower right far. product_work turned h (child x (first_child turned lower far)) (child y (second_child turned right far)) in
    let quadrant : Bool → Bool → List ℕ =
    λ lower right.
    pair_works (is_term turned x y lower right false) (is_term turned x y lower right true) (term lower right false) (term lower right true)
    (add_work h (term_goal turned h x y lower right false) (term_goal turned h x y lower right true)) in
    1
    + sum
    (quadrant false false ++ quadrant false true ++ quadrant true false ++ quadrant true true
    ++ asked (has_term turned x y false false || has_term turned x y false true || has_term turned x y true false || has_term turned x y true true) 1)

-- the work of a term of a product of a symmetric block with a general one: of such a product itself, or of a product of general blocks
abbrev pub first_term_work : Bool → Bool → ℕ → ℕ → Tree MatChunk → Tree MatChunk → ℕ
first_term_work false false own h x y = own
first_term_work false true own h x y = product_work Neither h x y
first_term_work true false own h x y = product_work First h x y
first_term_work true true own h x y = own

-- the work of a product of a symmetric block with a general one
abbrev pub symmetric_first_work : ℕ → Tree MatChunk → Tree MatChunk → ℕ
symmetric_first_work zero s x = 1
symmetric_first_work (suc h) s x =
    let term : Bool → Bool → Bool → ℕ =
    λ lower right far. first_term_work lower far (symmetric_first_work h (child s (kept_child lower far)) (child x (child_in far right))) h (child s (kept_child lower far)) (child x (child_in far right)) in
    let goal : Bool → Bool → Bool → Tree MatChunk =
    λ lower right far. goal_of (kind_of (symmetric_first lower far) h) (child s (kept_child lower far) ∷ child x (child_in far right) ∷ []) in
    let there : Bool → Bool → Bool → Bool = λ lower right far. are_both (child s (kept_child lower far)) (child x (child_in far right)) in
    let quadrant : Bool → Bool → List ℕ =
    λ lower right.
    pair_works (there lower right false) (there lower right true) (term lower right false) (term lower right true)
    (add_work h (goal lower right false) (goal lower right true)) in
    1
    + sum
    (quadrant false false ++ quadrant false true ++ quadrant true false ++ quadrant true true
    ++ asked ((there false false false || there false false true) || (there false true false || there false true true) || (there true false false || there true false true) || (there true true false || there true true true)) 1)

-- the work of a term of a product of a general block with a symmetric one
abbrev pub second_term_work : Bool → Bool → ℕ → ℕ → Tree MatChunk → Tree MatChunk → ℕ
second_term_work false false own h x y = own
second_term_work false true own h x y = product_work Second h x y
second_term_work true false own h x y = product_work Neither h x y
second_term_work true true own h x y = own

-- the work of a product of a general block with a symmetric one
abbrev pub symmetric_second_work : ℕ → Tree MatChunk → Tree MatChunk → ℕ
symmetric_second_work zero x s = 1
symmetric_second_work (suc h) x s =
    let term : Bool → Bool → Bool → ℕ =
    λ lower right far. second_term_work right far (symmetric_second_work h (child x (child_in lower far)) (child s (kept_child right far))) h (child x (child_in lower far)) (child s (kept_child right far)) in
    let goal : Bool → Bool → Bool → Tree MatChunk =
    λ lower right far. goal_of (kind_of (symmetric_second right far) h) (child x (child_in lower far) ∷ child s (kept_child right far) ∷ []) in
    let there : Bool → Bool → Bool → Bool = λ lower right far. are_both (child x (child_in lower far)) (child s (kept_child right far)) in
    let quadrant : Bool → Bool → List ℕ =
    λ lower right.
    pair_works (there lower right false) (there lower right true) (term lower right false) (term lower right true)
    (add_work h (goal lower right false) (goal lower right true)) in
    1
    + sum
    (quadrant false false ++ quadrant false true ++ quadrant true false ++ quadrant true true
    ++ asked ((there false false false || there false false true) || (there false true false || there false true true) || (there true false false || there true false true) || (there true true false || there true true true)) 1)

-- the work of a product of a general block with its own transpose
abbrev pub rank_work : ℕ → Tree MatChunk → ℕ
rank_work zero x = 1
rank_work (suc h) x =
    let a = child x 0 in
    let b = child x 1 in
    let c = child x 2 in
    let d = child x 3 in
    1
    + sum
    (pair_works (is_there a) (is_there b) (rank_work h a) (rank_work h b) (symmetric_add_work h (goal_of (kind_of RankMul h) (a ∷ [])) (goal_of (kind_of RankMul h) (b ∷ [])))
    ++ pair_works (are_both a c) (are_both b d) (product_work Second h a c) (product_work Second h b d) (add_work h (goal_of (kind_of MulT h) (a ∷ c ∷ [])) (goal_of (kind_of MulT h) (b ∷ d ∷ [])))
    ++ pair_works (is_there c) (is_there d) (rank_work h c) (rank_work h d) (symmetric_add_work h (goal_of (kind_of RankMul h) (c ∷ [])) (goal_of (kind_of RankMul h) (d ∷ [])))
    ++ asked ((is_there a || is_there b) || (are_both a c || are_both b d) || (is_there c || is_there d)) 1)

-- the work of a product of the transpose of a general block with the block itself
abbrev pub transposed_rank_work : ℕ → Tree MatChunk → ℕ
transposed_rank_work zero x = 1
transposed_rank_work (suc h) x =
    let a = child x 0 in
    let b = child x 1 in
    let c = child x 2 in
    let d = child x 3 in
    1
    + sum
    (pair_works (is_there a) (is_there c) (transposed_rank_work h a) (transposed_rank_work h c) (symmetric_add_work h (goal_of (kind_of TRank h) (a ∷ [])) (goal_of (kind_of TRank h) (c ∷ [])))
    ++ pair_works (are_both a b) (are_both c d) (product_work First h a b) (product_work First h c d) (add_work h (goal_of (kind_of TMul h) (a ∷ b ∷ [])) (goal_of (kind_of TMul h) (c ∷ d ∷ [])))
    ++ pair_works (is_there b) (is_there d) (transposed_rank_work h b) (transposed_rank_work h d) (symmetric_add_work h (goal_of (kind_of TRank h) (b ∷ [])) (goal_of (kind_of TRank h) (d ∷ [])))
    ++ asked ((is_there a || is_there c) || (are_both a b || are_both c d) || (is_there b || is_there d)) 1)

-- the work of a square of a symmetric block
abbrev pub square_work : ℕ → Tree MatChunk → ℕ
square_work zero x = 1
square_work (suc h) x =
    let a = child x 0 in
    let b = child x 1 in
    let c = child x 2 in
    1
    + sum
    (pair_works (is_there a) (is_there b) (square_work h a) (rank_work h b) (symmetric_add_work h (goal_of (kind_of Square h) (a ∷ [])) (goal_of (kind_of RankMul h) (b ∷ [])))
    ++ pair_works (are_both a b) (are_both b c) (symmetric_first_work h a b) (symmetric_second_work h b c) (add_work h (goal_of (kind_of SMul h) (a ∷ b ∷ [])) (goal_of (kind_of MulS h) (b ∷ c ∷ [])))
    ++ pair_works (is_there b) (is_there c) (transposed_rank_work h b) (square_work h c) (symmetric_add_work h (goal_of (kind_of TRank h) (b ∷ [])) (goal_of (kind_of Square h) (c ∷ [])))
    ++ asked ((is_there a || is_there b) || (are_both a b || are_both b c) || (is_there b || is_there c)) 1)

-- whether a block has a number other than 0
abbrev pub has_number : Matrix → Bool
has_number m = not (peak_of m == 0)

-- the work for a list of entries, by the block that it stands for: those for its quadrants that have an entry, and 1 for
-- their join
abbrev pub assign_work : ℕ → ℕ → Matrix → ℕ
assign_work b zero m = 1
assign_work b (suc h) m =
    1
    + sum
    (asked (has_number (upper_left (side_of b h) m)) (assign_work b h (upper_left (side_of b h) m))
    ++ asked (has_number (upper_right (side_of b h) m)) (assign_work b h (upper_right (side_of b h) m))
    ++ asked (has_number (lower_left (side_of b h) m)) (assign_work b h (lower_left (side_of b h) m))
    ++ asked (has_number (lower_right (side_of b h) m)) (assign_work b h (lower_right (side_of b h) m))
    ++ asked (has_number m) 1)

-- the work for a list of entries of a symmetric block: those for the quadrants that are kept and have an entry, and 1 for their join
abbrev pub symmetric_assign_work : ℕ → ℕ → Matrix → ℕ
symmetric_assign_work b zero m = 1
symmetric_assign_work b (suc h) m =
    1
    + sum
    (asked (has_number (upper_left (side_of b h) m)) (symmetric_assign_work b h (upper_left (side_of b h) m))
    ++ asked (has_number (upper_right (side_of b h) m)) (assign_work b h (upper_right (side_of b h) m))
    ++ asked (has_number (lower_right (side_of b h) m)) (symmetric_assign_work b h (lower_right (side_of b h) m))
    ++ asked (has_number m) 1)

-- the work of a kind on trees
abbrev pub work_at : What → ℕ → List (Tree MatChunk) → ℕ
work_at Assign h (x ∷ []) = assign_work (leaf_of x) h (block_of (leaf_of x) h x)
work_at Add h (x ∷ y ∷ []) = add_work h x y
work_at Mul h (x ∷ y ∷ []) = product_work Neither h x y
work_at TMul h (x ∷ y ∷ []) = product_work First h x y
work_at MulT h (x ∷ y ∷ []) = product_work Second h x y
work_at Transpose h (x ∷ []) = transpose_work h x
work_at Trace h (x ∷ []) = trace_work false h x
work_at SAssign h (x ∷ []) = symmetric_assign_work (leaf_of x) h (block_of (leaf_of x) h x)
work_at SAdd h (x ∷ y ∷ []) = symmetric_add_work h x y
work_at Square h (x ∷ []) = square_work h x
work_at RankMul h (x ∷ []) = rank_work h x
work_at TRank h (x ∷ []) = transposed_rank_work h x
work_at SMul h (x ∷ y ∷ []) = symmetric_first_work h x y
work_at MulS h (x ∷ y ∷ []) = symmetric_second_work h x y
work_at Full h (x ∷ []) = full_work h x
work_at STrace h (x ∷ []) = trace_work true h x
work_at Assign h trees = 1
work_at Add h trees = 1
work_at Mul h trees = 1
work_at TMul h trees = 1
work_at MulT h trees = 1
work_at Transpose h trees = 1
work_at Join h trees = 1
work_at Trace h trees = 1
work_at AddNum h trees = 1
work_at SAssign h trees = 1
work_at SAdd h trees = 1
work_at Square h trees = 1
work_at RankMul h trees = 1
work_at TRank h trees = 1
work_at SMul h trees = 1
work_at MulS h trees = 1
work_at Full h trees = 1
work_at SJoin h trees = 1
work_at STrace h trees = 1

-- the work of a kind: how many tasks are finished for it, itself counted
abbrev pub work_of : MatKind → List (Tree MatChunk) → ℕ
work_of kind trees = work_at kind.what kind.height trees
