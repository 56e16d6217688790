-- The work of an assignment of a symmetric block adds up: the quadrants for which it asks are those that are kept and have a number.
use Rattle.std.proofs.Common.{◌≡◌, ℕ, suc, ◌+◌, ◌<◌, Bool, true, false, cond, ◌||◌, List, [], ◌∷◌, ◌++◌, length, map, sum, sum_by, refl, sym, ap, ap₂, ◌∙◌, subst, arith, ⊎_elim}
use Rattle.std.specs.List.{AllByRecursion}
use Rattle.std.proofs.lemmas.Bool.{cases_Bool, true≢false}
use Rattle.std.proofs.lemmas.List.{length-map}
use Rattle.std.proofs.lemmas.List.Sums.{sum_by-append}
use Rattle.dense_def.specs.Matrix.{Matrix, peak_of, IsSymmetric}
use Rattle.dense_def.proofs.Blocks.{height-block, IsMatrix-block}
use Rattle.leaf_blocks.specs.Block.{IsBlock}
use Rattle.task_types.specs.declared.outcome.NewChunk.{NewChunk}
use Rattle.task_types.specs.declared.outcome.Outcome.{Outcome}
use Rattle.task_types.specs.Tree.{Tree, Nothing, Root, is_there, tree_at}
use Rattle.task_types.specs.Places.{Shape, places_of, shape_of}
use Rattle.task_types.specs.Reading.{Call, chunk_tree, new_trees}
use Rattle.task_types.specs.Shown.{bit}
use Rattle.task_types.specs.Sound.{IsSound}
use Rattle.task_types.proofs.InOrder.{length-in_order}
use Rattle.quad_matrix.specs.declared.chunk.MatChunk.{MatChunk}
use Rattle.quad_matrix.specs.declared.chunk.MatChunk.TheVariants.{SymNode}
use Rattle.quad_matrix.specs.declared.kind.What.TheVariants.{Assign, SAssign, SJoin}
use Rattle.quad_matrix.specs.declared.kind.MatKind.{MatKind}
use Rattle.quad_matrix.specs.Chunks.{arity_of}
use Rattle.chunk_codec.specs.Spots.{side_of}
use Rattle.quad_matrix.specs.Blocks.{block_of, canonical, canonical_symmetric, upper_left, upper_right, lower_right}
use Rattle.quad_matrix.specs.Goals.{kind_of, goal_of, IsList, IsDefined}
use Rattle.quad_matrix.specs.Works.{asked, has_number, assign_work, symmetric_assign_work, work_of}
use Rattle.quad_matrix.specs.Matrices.{matrices}
use Rattle.quad_matrix.proofs.Symmetric.{quadrants_symmetric, symmetric_node, symmetric_node_of, is_there_symmetric, is_there_symmetric_some}
use Rattle.quad_matrix.proofs.Quadrants.{any_there, IsBlock-quadrants}
use Rattle.quad_matrix.proofs.Leaves.{leaf_of_list}
use Rattle.quad_matrix.proofs.SymmetricJoins.{symmetric_join_of, symmetric_join_peak, symmetric_join_some, symmetric_join_there, symmetric_join_goal, symmetric_join_fits}
use Rattle.quad_matrix.proofs.AnySide.{goal_any}
use Rattle.quad_matrix.proofs.Lists.{block_of_list, list_symmetric, list_some}
use Rattle.quad_matrix.proofs.Injective.{symmetric_injective, symmetric_some_same, symmetric_leaf_same}
use Rattle.quad_matrix.proofs.DraftWorks.{call_work, calls_of, total}
use Rattle.quad_matrix.proofs.AddWorks.{sum-append}
use Rattle.quad_matrix.proofs.AssignParts.{part_tree, part_call, result_in, symmetric_assign_shape, symmetric_assign_parts, symmetric_part_trees, symmetric_join_call}
use Rattle.quad_matrix.proofs.AssignWorks.{some_has_number, part_work, all_split, all_asked, new_there, there_at, work_asked}

-- ---- One symmetric part

-- a part's entries stand for the quadrant whose canonical symmetric tree is the goal of its assignment
listed_work : (b h : ℕ) (m : Matrix) (k : MatChunk) (x y z w : Tree MatChunk) → IsBlock (side_of b h) m → IsSymmetric m → canonical_symmetric b h m ≡ goal_of (kind_of SAssign h) (Root k x y z w ∷ []) → IsDefined (kind_of SAssign h) (Root k x y z w ∷ []) → asked (has_number m) (symmetric_assign_work b h m) ≡ work_of (kind_of SAssign h) (Root k x y z w ∷ []) ∷ []
listed_work b h m k x y z w sized even same d =
    let t = Root k x y z w in
    let n = block_of d.leaf h t in
    let some : peak_of n ≡ 0 → ⊥ = list_some d.leaf h true k x y z w d.fits in
    let back : canonical_symmetric d.leaf h n ≡ canonical_symmetric b h m = sym (same ∙ goal_any d.leaf SAssign h (t ∷ []) d.fits) in
    let leaf : d.leaf ≡ b = symmetric_leaf_same d.leaf b h n m (block_of_list d.leaf h true t d.fits) (list_symmetric d.leaf h t d.fits) sized even some back in
    let list : IsList b h true t = subst (λ c. IsList c h true t) leaf d.fits in
    let here : canonical_symmetric b h m ≡ canonical_symmetric b h (block_of b h t) = sym (subst (λ c. canonical_symmetric c h (block_of c h t) ≡ canonical_symmetric b h m) leaf back) in
    let one : m ≡ block_of b h t = symmetric_injective b h m (block_of b h t) sized even (block_of_list b h true t list) (list_symmetric b h t list) here in
    ap (λ test. asked test (symmetric_assign_work b h m)) (some_has_number m (symmetric_some_same d.leaf b h n m some back))
    ∙ ap (λ v. v ∷ []) (ap (symmetric_assign_work b h) one ∙ ap (λ c. symmetric_assign_work c h (block_of c h t)) (sym (leaf_of_list b h true t list refl)))

-- a part that is asked for has the quadrant's work, and one that is not has a zero quadrant
symmetric_part_work : (b h : ℕ) (m : Matrix) (a : Bool) (t : Tree MatChunk) → IsBlock (side_of b h) m → IsSymmetric m → canonical_symmetric b h m ≡ part_tree SAssign h a t → (a ≡ true → IsDefined (kind_of SAssign h) (t ∷ [])) → (a ≡ true → is_there t ≡ true) → asked (has_number m) (symmetric_assign_work b h m) ≡ asked a (work_of (kind_of SAssign h) (t ∷ []))
symmetric_part_work b h m false t sized even same defined there =
    ap (λ test. asked test (symmetric_assign_work b h m)) (sym (is_there_symmetric b h m) ∙ ap is_there same)
symmetric_part_work b h m true Nothing sized even same defined there = absurd (true≢false (sym (there refl)))
symmetric_part_work b h m true (Root k x y z w) sized even same defined there =
    listed_work b h m k x y z w sized even same (defined refl)

-- ---- Lists

-- works that are equal twice are equal for the lists joined
works_with : (k l : List ℕ) (k' l' : List (Call MatChunk MatKind)) → sum k ≡ sum_by call_work k' → sum l ≡ sum_by call_work l' → sum (k ++ l) ≡ sum_by call_work (k' ++ l')
works_with k l k' l' ek el = sum-append k l ∙ ap₂ ◌+◌ ek el ∙ sym (sum_by-append call_work k' l')

-- ---- The whole

-- An assignment at height h + 1 of a sound list of a symmetric block, with leaves of side b, by an outcome that has this shape.
module _ (b h : ℕ) (k : MatChunk) (x y z w : Tree MatChunk) (list : IsList b (suc h) true (Root k x y z w)) (outcome : Outcome MatChunk MatKind) (sound : IsSound arity_of matrices (kind_of SAssign (suc h)) (Root k x y z w ∷ []) outcome) (p q r : Bool) (shape : shape_of outcome ≡ symmetric_assign_shape h (suc h) p q r) where
  abbrev trees : List (Tree MatChunk)
  trees = Root k x y z w ∷ []

  abbrev chunks : List (Tree MatChunk)
  chunks = new_trees trees outcome

  abbrev m : Matrix
  m = block_of b (suc h) (Root k x y z w)

  abbrev any : Bool
  any = p || q || r

  -- the trees of the new chunks
  abbrev first : Tree MatChunk
  first = tree_at chunks 0

  abbrev second : Tree MatChunk
  second = tree_at chunks (bit p)

  abbrev third : Tree MatChunk
  third = tree_at chunks (bit p + bit q)

  -- the calls of the parts, and of their join
  abbrev first_calls : List (Call MatChunk MatKind)
  first_calls = asked p (part_call SAssign h first)

  abbrev second_calls : List (Call MatChunk MatKind)
  second_calls = asked q (part_call Assign h second)

  abbrev third_calls : List (Call MatChunk MatKind)
  third_calls = asked r (part_call SAssign h third)

  abbrev join_calls : List (Call MatChunk MatKind)
  join_calls = asked any (symmetric_join_call chunks h (suc h) p q r)

  -- the goal is the canonical symmetric tree of a block that is not zero
  not_flat : peak_of m ≡ 0 → ⊥
  not_flat = list_some b (suc h) true k x y z w list

  result : canonical_symmetric b (suc h) m ≡ cond any (goal_of (kind_of SJoin (suc h)) (symmetric_part_trees chunks h p q r)) Nothing
  result =
      sym (goal_any b SAssign (suc h) trees list)
      ∙ sym sound.goal
      ∙ ap (result_in trees chunks) shape
      ∙ (symmetric_assign_parts trees chunks h (suc h) p q r).result

  -- so some part is asked for
  some_part : any ≡ true
  some_part =
      ⊎_elim
      (λ (e : any ≡ true). e)
      (λ (e : any ≡ false).
      absurd (true≢false (sym (is_there_symmetric_some b (suc h) m not_flat) ∙ ap is_there result ∙ ap (λ test. is_there (cond test (goal_of (kind_of SJoin (suc h)) (symmetric_part_trees chunks h p q r)) Nothing)) e)))
      (cases_Bool any)

  abbrev is_defined : Call MatChunk MatKind → Type 0
  is_defined call = IsDefined call.kind call.inputs

  -- the goals of the new tasks are defined
  defined : AllByRecursion is_defined (first_calls ++ second_calls ++ third_calls ++ join_calls)
  defined =
      subst (AllByRecursion is_defined)
      (ap (λ (a : Shape MatKind). calls_of trees chunks a.tasks) shape ∙ (symmetric_assign_parts trees chunks h (suc h) p q r).calls)
      sound.defined

  -- by parts
  defined_join : IsDefined (kind_of SJoin (suc h)) (symmetric_part_trees chunks h p q r)
  defined_join =
      all_asked is_defined any (symmetric_join_call chunks h (suc h) p q r) (all_split is_defined (first_calls ++ second_calls ++ third_calls) join_calls defined).1 some_part

  first_three : AllByRecursion is_defined (first_calls ++ second_calls ++ third_calls)
  first_three = (all_split is_defined (first_calls ++ second_calls ++ third_calls) join_calls defined).0

  first_two : AllByRecursion is_defined (first_calls ++ second_calls)
  first_two = (all_split is_defined (first_calls ++ second_calls) third_calls first_three).0

  defined_first : p ≡ true → IsDefined (kind_of SAssign h) (first ∷ [])
  defined_first = all_asked is_defined p (part_call SAssign h first) (all_split is_defined first_calls second_calls first_two).0

  defined_second : q ≡ true → IsDefined (kind_of Assign h) (second ∷ [])
  defined_second = all_asked is_defined q (part_call Assign h second) (all_split is_defined first_calls second_calls first_two).1

  defined_third : r ≡ true → IsDefined (kind_of SAssign h) (third ∷ [])
  defined_third =
      all_asked is_defined r (part_call SAssign h third) (all_split is_defined (first_calls ++ second_calls) third_calls first_three).1

  -- the new chunks are there
  chunks_there : (i : ℕ) → i < bit p + bit q + bit r → is_there (tree_at chunks i) ≡ true
  chunks_there i low =
      let count : length outcome.chunks ≡ bit p + bit q + bit r =
      sym (length-map (map (λ (chunk : NewChunk MatChunk). chunk.children) outcome.chunks) places_of ∙ length-map outcome.chunks (λ (chunk : NewChunk MatChunk). chunk.children))
      ∙ ap (λ (a : Shape MatKind). length a.chunks) shape
      ∙ (symmetric_assign_parts trees chunks h (suc h) p q r).count in
      there_at chunks i (new_there trees [] outcome.chunks tt) (omega (arith, length-in_order (chunk_tree trees) [] outcome.chunks))

  -- the canonical trees of the quadrants are the trees of the parts
  quadrants : (canonical_symmetric b h (upper_left (side_of b h) m) ≡ part_tree SAssign h p first) × (canonical b h (upper_right (side_of b h) m) ≡ part_tree Assign h q second) × (canonical_symmetric b h (lower_right (side_of b h) m) ≡ part_tree SAssign h r third)
  quadrants =
      let c = defined_join.leaf in
      let t0 = part_tree SAssign h p first in
      let t1 = part_tree Assign h q second in
      let t2 = part_tree SAssign h r third in
      let fit = symmetric_join_fits c h t0 t1 t2 defined_join.fits in
      let joins : canonical_symmetric b (suc h) m ≡ canonical_symmetric c (suc h) (symmetric_join_of c h t0 t1 t2) =
      result
      ∙ ap (λ test. cond test (goal_of (kind_of SJoin (suc h)) (symmetric_part_trees chunks h p q r)) Nothing) some_part
      ∙ goal_any c SJoin (suc h) (symmetric_part_trees chunks h p q r) defined_join.fits
      ∙ symmetric_join_goal c h t0 t1 t2 in
      let there : any_there t0 t1 t2 Nothing ≡ true =
      sym (symmetric_join_there c h t0 t1 t2 fit.0 fit.1 fit.2) ∙ ap is_there (sym joins) ∙ is_there_symmetric_some b (suc h) m not_flat in
      let nodes : symmetric_node_of b h m ≡ Root (SymNode (suc h) (symmetric_join_peak c h t0 t1 t2)) t0 t1 t2 Nothing =
      sym (symmetric_node b h m not_flat) ∙ joins ∙ symmetric_join_some c h t0 t1 t2 fit.0 fit.1 fit.2 there in
      (cc, cc, cc)

  -- so the works of the quadrants are those of the parts
  pub symmetric_assign_work_is : symmetric_assign_work b (suc h) m ≡ 1 + total trees chunks (shape_of outcome)
  symmetric_assign_work_is =
      let half = side_of b h in
      let sized = IsBlock-quadrants b h m (block_of_list b (suc h) true (Root k x y z w) list) in
      let even = quadrants_symmetric b h m (block_of_list b (suc h) true (Root k x y z w) list) (list_symmetric b (suc h) (Root k x y z w) list) in
      let parts = symmetric_assign_parts trees chunks h (suc h) p q r in
      let one = symmetric_part_work b h (upper_left half m) p first sized.0 even.0 quadrants.0 defined_first
      (λ e. let on : bit p ≡ 1 = ap bit e in chunks_there 0 (omega arith)) in
      let two = part_work b h (upper_right half m) q second (IsMatrix-block m 0 half half half) (height-block m 0 half half half) refl quadrants.1 defined_second
      (λ e. let on : bit q ≡ 1 = ap bit e in chunks_there (bit p) (omega arith)) in
      let three = symmetric_part_work b h (lower_right half m) r third sized.3 even.1 quadrants.2 defined_third
      (λ e. let on : bit r ≡ 1 = ap bit e in chunks_there (bit p + bit q) (omega arith)) in
      let last : has_number m ≡ any = some_has_number m not_flat ∙ sym some_part in
      let k1 : List ℕ = asked (has_number (upper_left half m)) (symmetric_assign_work b h (upper_left half m)) in
      let k2 : List ℕ = asked (has_number (upper_right half m)) (assign_work b h (upper_right half m)) in
      let k3 : List ℕ = asked (has_number (lower_right half m)) (symmetric_assign_work b h (lower_right half m)) in
      ap (λ n. 1 + n)
      (works_with (k1 ++ k2 ++ k3) (asked (has_number m) 1) (first_calls ++ second_calls ++ third_calls) join_calls
      (works_with (k1 ++ k2) k3 (first_calls ++ second_calls) third_calls
      (works_with k1 k2 first_calls second_calls (ap sum one ∙ sym (work_asked p (part_call SAssign h first))) (ap sum two ∙ sym (work_asked q (part_call Assign h second))))
      (ap sum three ∙ sym (work_asked r (part_call SAssign h third))))
      (ap (λ test. sum (asked test 1)) last ∙ sym (work_asked any (symmetric_join_call chunks h (suc h) p q r)))
      ∙ sym (ap (sum_by call_work) (ap (λ (a : Shape MatKind). calls_of trees chunks a.tasks) shape ∙ parts.calls)))
