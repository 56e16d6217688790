-- Goals at any side of the leaves.
use Rattle.std.proofs.Common.{◌≡◌, ℕ, zero, suc, true, false, List, [], ◌∷◌, refl, sym, ap, ◌∙◌, arith, ⊎_elim}
use Rattle.std.specs.List.{AllByRecursion}
use Rattle.task_types.specs.Tree.{Tree, Nothing, Root}
use Rattle.quad_matrix.specs.declared.chunk.MatChunk.{MatChunk}
use Rattle.quad_matrix.specs.declared.kind.What.{What}
use Rattle.quad_matrix.specs.declared.kind.What.TheVariants.{Assign, Add, Mul, TMul, MulT, Transpose, Join, Trace, AddNum, SAssign, SAdd, Square, RankMul, TRank, SMul, MulS, Full, SJoin, STrace}
use Rattle.chunk_codec.specs.Spots.{side_of}
use Rattle.quad_matrix.specs.Blocks.{leaf_in, block_of, IsCanonical, IsCanonicalSymmetric}
use Rattle.quad_matrix.specs.Goals.{kind_of, goal_at, goal_of, FitsAt}
use Rattle.quad_matrix.specs.Products.{Turned, Neither, First, Second, product_what}
use Rattle.quad_matrix.proofs.Canonical.{canonical_zero, nothing_is_canonical, peak-zeros}
use Rattle.quad_matrix.proofs.Quadrants.{join_nothing}
use Rattle.quad_matrix.proofs.Symmetric.{symmetric_zero}
use Rattle.quad_matrix.proofs.Leaves.{HasLeaves, leaf_in_known, leaf_of_canonical, leaf_of_symmetric, leaf_of_list}
use Rattle.quad_matrix.proofs.Sums.{add_nothing, join_goal, join_fits}
use Rattle.quad_matrix.proofs.Products.{product_goal_is, product_nothing_with}
use Rattle.quad_matrix.proofs.Transposes.{transpose_of_nothing}
use Rattle.quad_matrix.proofs.SymmetricJoins.{symmetric_join_fits, symmetric_join_goal_nothing}
use Rattle.quad_matrix.proofs.SymmetricSums.{symmetric_add_nothing, full_of_nothing}
use Rattle.quad_matrix.proofs.SymmetricProducts.{square_of_nothing, rank_of_nothing, transposed_rank_of_nothing, symmetric_first_nothing, symmetric_second_nothing}
use Rattle.quad_matrix.proofs.Numbers.{trace_of_nothing}

-- the goal of an assignment of nothing is nothing
pub assign_nothing : (b h : ℕ) → goal_at b Assign h (Nothing ∷ []) ≡ Nothing
assign_nothing b h = canonical_zero b h (block_of b h Nothing) (peak-zeros (side_of b h) (side_of b h))

-- so is that of an assignment of a symmetric block
pub symmetric_assign_nothing : (b h : ℕ) → goal_at b SAssign h (Nothing ∷ []) ≡ Nothing
symmetric_assign_nothing b h = symmetric_zero b h (block_of b h Nothing) (peak-zeros (side_of b h) (side_of b h))

-- and so is that of a join
pub join_goal_nothing : (b h : ℕ) → goal_at b Join (suc h) (Nothing ∷ Nothing ∷ Nothing ∷ Nothing ∷ []) ≡ Nothing
join_goal_nothing b h =
    join_goal b h Nothing Nothing Nothing Nothing ∙ join_nothing b h Nothing Nothing Nothing Nothing refl

-- a goal that is nothing on nothing is one on trees with leaves of another side
at_leaf : (b : ℕ) (what : What) (height : ℕ) (trees : List (Tree MatChunk)) → AllByRecursion (HasLeaves b) trees → ((c : ℕ) → AllByRecursion (λ (t : Tree MatChunk). t ≡ Nothing) trees → goal_at c what height trees ≡ Nothing) → goal_of (kind_of what height) trees ≡ goal_at b what height trees
at_leaf b what height trees all nothing =
    ⊎_elim (λ (e : leaf_in trees ≡ b). ap (λ c. goal_at c what height trees) e)
    (λ (none : AllByRecursion (λ (t : Tree MatChunk). t ≡ Nothing) trees). nothing (leaf_in trees) none ∙ sym (nothing b none))
    (leaf_in_known b trees all)

-- the goal of a join at another side
join_any : (b h : ℕ) (x y z w : Tree MatChunk) → IsCanonical b h x → IsCanonical b h y → IsCanonical b h z → IsCanonical b h w → goal_of (kind_of Join (suc h)) (x ∷ y ∷ z ∷ w ∷ []) ≡ goal_at b Join (suc h) (x ∷ y ∷ z ∷ w ∷ [])
join_any b h x y z w ix iy iz iw =
    at_leaf b Join (suc h) (x ∷ y ∷ z ∷ w ∷ []) (leaf_of_canonical b h x ix, (leaf_of_canonical b h y iy, (leaf_of_canonical b h z iz, (leaf_of_canonical b h w iw, tt))))
    (λ c none. rw (none.0, none.1.0, none.1.1.0, none.1.1.1.0) (join_goal_nothing c h))

-- the goal of a sum at another side
add_any : (b h : ℕ) (x y : Tree MatChunk) → IsCanonical b h x → IsCanonical b h y → goal_of (kind_of Add h) (x ∷ y ∷ []) ≡ goal_at b Add h (x ∷ y ∷ [])
add_any b h x y ix iy =
    at_leaf b Add h (x ∷ y ∷ []) (leaf_of_canonical b h x ix, (leaf_of_canonical b h y iy, tt)) (λ c none. rw (none.0, none.1.0) (add_nothing c h))

-- the goal of a trace at another side
trace_any : (b h : ℕ) (x : Tree MatChunk) → IsCanonical b h x → goal_of (kind_of Trace h) (x ∷ []) ≡ goal_at b Trace h (x ∷ [])
trace_any b h x ix = at_leaf b Trace h (x ∷ []) (leaf_of_canonical b h x ix, tt) (λ c none. rw none.0 (trace_of_nothing c h))

-- the goal of a product at another side
product_any : (b h : ℕ) (turned : Turned) (x y : Tree MatChunk) → IsCanonical b h x → IsCanonical b h y → goal_of (kind_of (product_what turned) h) (x ∷ y ∷ []) ≡ goal_at b (product_what turned) h (x ∷ y ∷ [])
product_any b h turned x y ix iy =
    at_leaf b (product_what turned) h (x ∷ y ∷ []) (leaf_of_canonical b h x ix, (leaf_of_canonical b h y iy, tt))
    (λ c none. rw (none.0, none.1.0) (product_goal_is c h turned Nothing Nothing ∙ product_nothing_with c h turned Nothing (nothing_is_canonical c h)))

-- the goal of a transpose at another side
transpose_any : (b h : ℕ) (x : Tree MatChunk) → IsCanonical b h x → goal_of (kind_of Transpose h) (x ∷ []) ≡ goal_at b Transpose h (x ∷ [])
transpose_any b h x ix =
    at_leaf b Transpose h (x ∷ []) (leaf_of_canonical b h x ix, tt) (λ c none. rw none.0 (transpose_of_nothing c h))

-- the goal of a symmetric join at another side
symmetric_join_any : (b h : ℕ) (x y z : Tree MatChunk) → IsCanonicalSymmetric b h x → IsCanonical b h y → IsCanonicalSymmetric b h z → goal_of (kind_of SJoin (suc h)) (x ∷ y ∷ z ∷ []) ≡ goal_at b SJoin (suc h) (x ∷ y ∷ z ∷ [])
symmetric_join_any b h x y z ix iy iz =
    at_leaf b SJoin (suc h) (x ∷ y ∷ z ∷ []) (leaf_of_symmetric b h x ix, (leaf_of_canonical b h y iy, (leaf_of_symmetric b h z iz, tt)))
    (λ c none. rw (none.0, none.1.0, none.1.1.0) (symmetric_join_goal_nothing c h))

-- the goal of a sum of symmetric blocks at another side
symmetric_add_any : (b h : ℕ) (x y : Tree MatChunk) → IsCanonicalSymmetric b h x → IsCanonicalSymmetric b h y → goal_of (kind_of SAdd h) (x ∷ y ∷ []) ≡ goal_at b SAdd h (x ∷ y ∷ [])
symmetric_add_any b h x y ix iy =
    at_leaf b SAdd h (x ∷ y ∷ []) (leaf_of_symmetric b h x ix, (leaf_of_symmetric b h y iy, tt)) (λ c none. rw (none.0, none.1.0) (symmetric_add_nothing c h))

-- the goal of a general form at another side
full_any : (b h : ℕ) (x : Tree MatChunk) → IsCanonicalSymmetric b h x → goal_of (kind_of Full h) (x ∷ []) ≡ goal_at b Full h (x ∷ [])
full_any b h x ix = at_leaf b Full h (x ∷ []) (leaf_of_symmetric b h x ix, tt) (λ c none. rw none.0 (full_of_nothing c h))

-- the goal of a trace of a symmetric block at another side
symmetric_trace_any : (b h : ℕ) (x : Tree MatChunk) → IsCanonicalSymmetric b h x → goal_of (kind_of STrace h) (x ∷ []) ≡ goal_at b STrace h (x ∷ [])
symmetric_trace_any b h x ix =
    at_leaf b STrace h (x ∷ []) (leaf_of_symmetric b h x ix, tt) (λ c none. rw none.0 (trace_of_nothing c h))

-- the goal of a kind that fits at some side of the leaves is the goal at that side
pub goal_any : (b : ℕ) (what : What) (h : ℕ) (trees : List (Tree MatChunk)) → FitsAt b what h trees → goal_of (kind_of what h) trees ≡ goal_at b what h trees
goal_any b Assign h (Nothing ∷ []) fits = assign_nothing (leaf_in (Nothing ∷ [])) h ∙ sym (assign_nothing b h)
goal_any b Assign h (Root c s t u v ∷ []) fits =
    ap (λ k. goal_at k Assign h (Root c s t u v ∷ []))
    (let one = leaf_of_list b h false (Root c s t u v) fits refl in omega arith)
goal_any b Assign h [] fits = absurd fits
goal_any b Assign h (x ∷ y ∷ trees) fits = absurd fits
goal_any b Add h (x ∷ y ∷ []) fits = add_any b h x y fits.0 fits.1
goal_any b Add h [] fits = absurd fits
goal_any b Add h (x ∷ []) fits = absurd fits
goal_any b Add h (x ∷ y ∷ z ∷ trees) fits = absurd fits
goal_any b Mul h (x ∷ y ∷ []) fits = product_any b h Neither x y fits.0 fits.1
goal_any b Mul h [] fits = absurd fits
goal_any b Mul h (x ∷ []) fits = absurd fits
goal_any b Mul h (x ∷ y ∷ z ∷ trees) fits = absurd fits
goal_any b TMul h (x ∷ y ∷ []) fits = product_any b h First x y fits.0 fits.1
goal_any b TMul h [] fits = absurd fits
goal_any b TMul h (x ∷ []) fits = absurd fits
goal_any b TMul h (x ∷ y ∷ z ∷ trees) fits = absurd fits
goal_any b MulT h (x ∷ y ∷ []) fits = product_any b h Second x y fits.0 fits.1
goal_any b MulT h [] fits = absurd fits
goal_any b MulT h (x ∷ []) fits = absurd fits
goal_any b MulT h (x ∷ y ∷ z ∷ trees) fits = absurd fits
goal_any b Transpose h (x ∷ []) fits = transpose_any b h x fits
goal_any b Transpose h [] fits = absurd fits
goal_any b Transpose h (x ∷ y ∷ trees) fits = absurd fits
goal_any b Join (suc h) (x ∷ y ∷ z ∷ w ∷ []) fits =
    let low = join_fits b h x y z w fits in join_any b h x y z w low.0 low.1 low.2 low.3
goal_any b Join zero (x ∷ y ∷ z ∷ w ∷ []) fits = absurd (omega (arith, fits.0))
goal_any b Join h [] fits = absurd fits
goal_any b Join h (x ∷ []) fits = absurd fits
goal_any b Join h (x ∷ y ∷ []) fits = absurd fits
goal_any b Join h (x ∷ y ∷ z ∷ []) fits = absurd fits
goal_any b Join h (x ∷ y ∷ z ∷ w ∷ t ∷ trees) fits = absurd fits
goal_any b Trace h (x ∷ []) fits = trace_any b h x fits.0
goal_any b Trace h [] fits = absurd fits
goal_any b Trace h (x ∷ y ∷ trees) fits = absurd fits
goal_any b SAssign h (Nothing ∷ []) fits =
    symmetric_assign_nothing (leaf_in (Nothing ∷ [])) h ∙ sym (symmetric_assign_nothing b h)
goal_any b SAssign h (Root c s t u v ∷ []) fits =
    ap (λ k. goal_at k SAssign h (Root c s t u v ∷ []))
    (let one = leaf_of_list b h true (Root c s t u v) fits refl in omega arith)
goal_any b SAssign h [] fits = absurd fits
goal_any b SAssign h (x ∷ y ∷ trees) fits = absurd fits
goal_any b SAdd h (x ∷ y ∷ []) fits = symmetric_add_any b h x y fits.0 fits.1
goal_any b SAdd h [] fits = absurd fits
goal_any b SAdd h (x ∷ []) fits = absurd fits
goal_any b SAdd h (x ∷ y ∷ z ∷ trees) fits = absurd fits
goal_any b Square h (x ∷ []) fits = at_leaf b Square h (x ∷ []) (leaf_of_symmetric b h x fits.0, tt) (λ c none. rw none.0 (square_of_nothing c h))
goal_any b Square h [] fits = absurd fits
goal_any b Square h (x ∷ y ∷ trees) fits = absurd fits
goal_any b RankMul h (x ∷ []) fits = at_leaf b RankMul h (x ∷ []) (leaf_of_canonical b h x fits.0, tt) (λ c none. rw none.0 (rank_of_nothing c h))
goal_any b RankMul h [] fits = absurd fits
goal_any b RankMul h (x ∷ y ∷ trees) fits = absurd fits
goal_any b TRank h (x ∷ []) fits = at_leaf b TRank h (x ∷ []) (leaf_of_canonical b h x fits.0, tt) (λ c none. rw none.0 (transposed_rank_of_nothing c h))
goal_any b TRank h [] fits = absurd fits
goal_any b TRank h (x ∷ y ∷ trees) fits = absurd fits
goal_any b SMul h (x ∷ y ∷ []) fits =
    at_leaf b SMul h (x ∷ y ∷ []) (leaf_of_symmetric b h x fits.0, (leaf_of_canonical b h y fits.1, tt)) (λ c none. rw (none.0, none.1.0) (symmetric_first_nothing c h))
goal_any b SMul h [] fits = absurd fits
goal_any b SMul h (x ∷ []) fits = absurd fits
goal_any b SMul h (x ∷ y ∷ z ∷ trees) fits = absurd fits
goal_any b MulS h (x ∷ y ∷ []) fits =
    at_leaf b MulS h (x ∷ y ∷ []) (leaf_of_canonical b h x fits.0, (leaf_of_symmetric b h y fits.1, tt)) (λ c none. rw (none.0, none.1.0) (symmetric_second_nothing c h))
goal_any b MulS h [] fits = absurd fits
goal_any b MulS h (x ∷ []) fits = absurd fits
goal_any b MulS h (x ∷ y ∷ z ∷ trees) fits = absurd fits
goal_any b Full h (x ∷ []) fits = full_any b h x fits
goal_any b Full h [] fits = absurd fits
goal_any b Full h (x ∷ y ∷ trees) fits = absurd fits
goal_any b STrace h (x ∷ []) fits = symmetric_trace_any b h x fits.0
goal_any b STrace h [] fits = absurd fits
goal_any b STrace h (x ∷ y ∷ trees) fits = absurd fits
goal_any b SJoin (suc h) (x ∷ y ∷ z ∷ []) fits =
    let low = symmetric_join_fits b h x y z fits in symmetric_join_any b h x y z low.0 low.1 low.2
goal_any b SJoin zero (x ∷ y ∷ z ∷ []) fits = absurd (omega (arith, fits.0))
goal_any b SJoin h [] fits = absurd fits
goal_any b SJoin h (x ∷ []) fits = absurd fits
goal_any b SJoin h (x ∷ y ∷ []) fits = absurd fits
goal_any b SJoin h (x ∷ y ∷ z ∷ w ∷ trees) fits = absurd fits
goal_any b AddNum h (x ∷ y ∷ []) fits = refl
goal_any b AddNum h [] fits = absurd fits
goal_any b AddNum h (x ∷ []) fits = absurd fits
goal_any b AddNum h (x ∷ y ∷ z ∷ trees) fits = absurd fits
