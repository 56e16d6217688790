-- The work of an assignment adds up: the quadrants for which it asks are those that have a number.
use Rattle.std.proofs.Common.{◌≡◌, ℕ, zero, suc, ◌+◌, ◌<◌, Bool, true, false, cond, not, ◌||◌, List, [], ◌∷◌, ◌++◌, length, map, sum, sum_by, refl, sym, ap, ◌∙◌, subst, arith, ⊎_elim, ne_eqb}
use Rattle.std.specs.List.{AllByRecursion}
use Rattle.std.proofs.lemmas.Bool.{cases_Bool, true≢false}
use Rattle.std.proofs.lemmas.List.{length-map}
use Rattle.std.proofs.lemmas.List.Sums.{sum_by-append}
use Rattle.dense_def.specs.Matrix.{Matrix, height, IsMatrix, peak_of}
use Rattle.dense_def.proofs.Blocks.{height-block, IsMatrix-block}
use Rattle.task_types.specs.declared.outcome.NewChunk.{NewChunk}
use Rattle.task_types.specs.declared.outcome.Outcome.{Outcome}
use Rattle.task_types.specs.Tree.{Tree, Nothing, Root, is_there, tree_at}
use Rattle.task_types.specs.Places.{Shape, places_of, shape_of}
use Rattle.task_types.specs.Reading.{Call, chunk_tree, in_order, new_trees}
use Rattle.task_types.specs.Shown.{bit}
use Rattle.task_types.specs.Sound.{IsSound}
use Rattle.task_types.proofs.InOrder.{length-in_order}
use Rattle.quad_matrix.specs.declared.chunk.MatChunk.{MatChunk}
use Rattle.quad_matrix.specs.declared.chunk.MatChunk.TheVariants.{Node}
use Rattle.quad_matrix.specs.declared.kind.What.TheVariants.{Assign, Join}
use Rattle.quad_matrix.specs.declared.kind.MatKind.{MatKind}
use Rattle.quad_matrix.specs.Chunks.{arity_of}
use Rattle.chunk_codec.specs.Spots.{side_of}
use Rattle.quad_matrix.specs.Blocks.{block_of, canonical, upper_left, upper_right, lower_left, lower_right}
use Rattle.quad_matrix.specs.Goals.{kind_of, goal_of, IsList, IsDefined}
use Rattle.quad_matrix.specs.Works.{asked, has_number, assign_work, work_of}
use Rattle.quad_matrix.specs.Matrices.{matrices}
use Rattle.quad_matrix.proofs.Canonical.{canonical_node, node_of, is_there_canonical, is_there_some}
use Rattle.quad_matrix.proofs.Quadrants.{any_there, join_of, join_peak, join_some, join_there}
use Rattle.quad_matrix.proofs.Leaves.{leaf_of_list}
use Rattle.quad_matrix.proofs.Sums.{join_goal, join_fits}
use Rattle.quad_matrix.proofs.AnySide.{goal_any}
use Rattle.quad_matrix.proofs.Lists.{block_of_list, list_some}
use Rattle.quad_matrix.proofs.Injective.{canonical_injective, canonical_some_same, canonical_leaf_same}
use Rattle.quad_matrix.proofs.DraftWorks.{call_work, calls_of, total}
use Rattle.quad_matrix.proofs.AddWorks.{sum_of_five}
use Rattle.quad_matrix.proofs.AssignParts.{assign_shape, assign_parts, part_tree, part_call, part_trees, join_call, result_in}

-- ---- One part

-- a block other than zero has a number
pub some_has_number : (m : Matrix) → (peak_of m ≡ 0 → ⊥) → has_number m ≡ true
some_has_number m some = ap not (ne_eqb (peak_of m) 0 some)

-- a part's entries stand for the quadrant whose canonical tree is the goal of its assignment
listed_work : (b h : ℕ) (m : Matrix) (k : MatChunk) (x y z w : Tree MatChunk) → IsMatrix m → height m ≡ side_of b h → m.columns ≡ side_of b h → canonical b h m ≡ goal_of (kind_of Assign h) (Root k x y z w ∷ []) → IsDefined (kind_of Assign h) (Root k x y z w ∷ []) → asked (has_number m) (assign_work b h m) ≡ work_of (kind_of Assign h) (Root k x y z w ∷ []) ∷ []
listed_work b h m k x y z w whole tall wide same d =
    let t = Root k x y z w in
    let n = block_of d.leaf h t in
    let sized = block_of_list d.leaf h false t d.fits in
    let some : peak_of n ≡ 0 → ⊥ = list_some d.leaf h false k x y z w d.fits in
    let back : canonical d.leaf h n ≡ canonical b h m = sym (same ∙ goal_any d.leaf Assign h (t ∷ []) d.fits) in
    let leaf : d.leaf ≡ b = canonical_leaf_same d.leaf b h n m sized.whole sized.tall sized.wide whole tall wide some back in
    let list : IsList b h false t = subst (λ c. IsList c h false t) leaf d.fits in
    let sized_b = block_of_list b h false t list in
    let here : canonical b h m ≡ canonical b h (block_of b h t) = sym (subst (λ c. canonical c h (block_of c h t) ≡ canonical b h m) leaf back) in
    let one : m ≡ block_of b h t = canonical_injective b h m (block_of b h t) whole tall wide sized_b.whole sized_b.tall sized_b.wide here in
    ap (λ test. asked test (assign_work b h m)) (some_has_number m (canonical_some_same d.leaf b h n m some back))
    ∙ ap (λ v. v ∷ []) (ap (assign_work b h) one ∙ ap (λ c. assign_work c h (block_of c h t)) (sym (leaf_of_list b h false t list refl)))

-- a part that is asked for has the quadrant's work, and one that is not has a zero quadrant
pub part_work : (b h : ℕ) (m : Matrix) (a : Bool) (t : Tree MatChunk) → IsMatrix m → height m ≡ side_of b h → m.columns ≡ side_of b h → canonical b h m ≡ part_tree Assign h a t → (a ≡ true → IsDefined (kind_of Assign h) (t ∷ [])) → (a ≡ true → is_there t ≡ true) → asked (has_number m) (assign_work b h m) ≡ asked a (work_of (kind_of Assign h) (t ∷ []))
part_work b h m false t whole tall wide same defined there =
    ap (λ test. asked test (assign_work b h m)) (sym (is_there_canonical b h m) ∙ ap is_there same)
part_work b h m true Nothing whole tall wide same defined there = absurd (true≢false (sym (there refl)))
part_work b h m true (Root k x y z w) whole tall wide same defined there =
    listed_work b h m k x y z w whole tall wide same (defined refl)

-- ---- Lists

-- what holds of two lists joined holds of both
pub all_split : {X : Type 0} (P : X → Type 0) (xs ys : List X) → AllByRecursion P (xs ++ ys) → AllByRecursion P xs × AllByRecursion P ys
all_split P [] ys all = (tt, all)
all_split P (x ∷ xs) ys all = let rest = all_split P xs ys all.1 in ((all.0, rest.0), rest.1)

-- and what holds of two lists holds of both joined
all_join : {X : Type 0} (P : X → Type 0) (xs ys : List X) → AllByRecursion P xs → AllByRecursion P ys → AllByRecursion P (xs ++ ys)
all_join P [] ys one other = other
all_join P (x ∷ xs) ys one other = (one.0, all_join P xs ys one.1 other)

-- what holds of an item that is asked for
pub all_asked : {X : Type 0} (P : X → Type 0) (a : Bool) (x : X) → AllByRecursion P (asked a x) → a ≡ true → P x
all_asked P true x all e = all.0
all_asked P false x all e = absurd (true≢false (sym e))

-- the trees of new chunks are there
pub new_there : (trees before : List (Tree MatChunk)) (chunks : List (NewChunk MatChunk)) → AllByRecursion (λ t. is_there t ≡ true) before → AllByRecursion (λ t. is_there t ≡ true) (in_order (chunk_tree trees) before chunks)
new_there trees before [] all = all
new_there trees before (chunk ∷ chunks) all =
    new_there trees (before ++ chunk_tree trees before chunk ∷ []) chunks
    (all_join (λ t. is_there t ≡ true) before (chunk_tree trees before chunk ∷ []) all (refl, tt))

-- each tree of a list of trees that are there is there
pub there_at : (ts : List (Tree MatChunk)) (i : ℕ) → AllByRecursion (λ t. is_there t ≡ true) ts → i < length ts → is_there (tree_at ts i) ≡ true
there_at [] i all h = absurd (omega arith)
there_at (t ∷ ts) zero all h = all.0
there_at (t ∷ ts) (suc i) all h = there_at ts i all.1 (omega arith)

-- the work of a call that is asked for
pub work_asked : (a : Bool) (call : Call MatChunk MatKind) → sum_by call_work (asked a call) ≡ sum (asked a (call_work call))
work_asked false call = refl
work_asked true call = refl

-- the works of five lists of calls joined
works_of_five : (k l m n o : List (Call MatChunk MatKind)) → sum_by call_work (k ++ l ++ m ++ n ++ o) ≡ sum_by call_work k + sum_by call_work l + sum_by call_work m + sum_by call_work n + sum_by call_work o
works_of_five k l m n o =
    sum_by-append call_work (k ++ l ++ m ++ n) o
    ∙ ap (λ x. x + sum_by call_work o) (sum_by-append call_work (k ++ l ++ m) n
    ∙ ap (λ x. x + sum_by call_work n) (sum_by-append call_work (k ++ l) m
    ∙ ap (λ x. x + sum_by call_work m) (sum_by-append call_work k l)))

-- works that are equal five times are equal for the lists joined
works_same : (k l m n o : List ℕ) (k' l' m' n' o' : List (Call MatChunk MatKind)) → sum k ≡ sum_by call_work k' → sum l ≡ sum_by call_work l' → sum m ≡ sum_by call_work m' → sum n ≡ sum_by call_work n' → sum o ≡ sum_by call_work o' → sum (k ++ l ++ m ++ n ++ o) ≡ sum_by call_work (k' ++ l' ++ m' ++ n' ++ o')
works_same k l m n o k' l' m' n' o' ek el em en eo =
    sum_of_five k l m n o
    ∙ (let same : sum k + sum l + sum m + sum n + sum o ≡ sum_by call_work k' + sum_by call_work l' + sum_by call_work m' + sum_by call_work n' + sum_by call_work o' = omega arith in same)
    ∙ sym (works_of_five k' l' m' n' o')

-- ---- The whole

-- An assignment at height h + 1 of a sound list, with leaves of side b, by an outcome that has this shape.
module _ (b h : ℕ) (k : MatChunk) (x y z w : Tree MatChunk) (list : IsList b (suc h) false (Root k x y z w)) (outcome : Outcome MatChunk MatKind) (sound : IsSound arity_of matrices (kind_of Assign (suc h)) (Root k x y z w ∷ []) outcome) (p q r s : Bool) (shape : shape_of outcome ≡ assign_shape h (suc h) p q r s) where
  abbrev trees : List (Tree MatChunk)
  trees = Root k x y z w ∷ []

  abbrev chunks : List (Tree MatChunk)
  chunks = new_trees trees outcome

  abbrev m : Matrix
  m = block_of b (suc h) (Root k x y z w)

  abbrev any : Bool
  any = p || q || r || s

  -- the trees of the new chunks
  abbrev first : Tree MatChunk
  first = tree_at chunks 0

  abbrev second : Tree MatChunk
  second = tree_at chunks (bit p)

  abbrev third : Tree MatChunk
  third = tree_at chunks (bit p + bit q)

  abbrev fourth : Tree MatChunk
  fourth = tree_at chunks (bit p + bit q + bit r)

  -- the calls of the parts, and of their join
  abbrev first_calls : List (Call MatChunk MatKind)
  first_calls = asked p (part_call Assign h first)

  abbrev second_calls : List (Call MatChunk MatKind)
  second_calls = asked q (part_call Assign h second)

  abbrev third_calls : List (Call MatChunk MatKind)
  third_calls = asked r (part_call Assign h third)

  abbrev fourth_calls : List (Call MatChunk MatKind)
  fourth_calls = asked s (part_call Assign h fourth)

  abbrev join_calls : List (Call MatChunk MatKind)
  join_calls = asked any (join_call chunks h (suc h) p q r s)

  -- the goal is the canonical tree of a block that is not zero
  not_flat : peak_of m ≡ 0 → ⊥
  not_flat = list_some b (suc h) false k x y z w list

  result : canonical b (suc h) m ≡ cond any (goal_of (kind_of Join (suc h)) (part_trees chunks h p q r s)) Nothing
  result =
      sym (goal_any b Assign (suc h) trees list)
      ∙ sym sound.goal
      ∙ ap (result_in trees chunks) shape
      ∙ (assign_parts trees chunks h (suc h) p q r s).result

  -- so some part is asked for
  some_part : any ≡ true
  some_part =
      ⊎_elim
      (λ (e : any ≡ true). e)
      (λ (e : any ≡ false).
      absurd (true≢false (sym (is_there_some b (suc h) m not_flat) ∙ ap is_there result ∙ ap (λ test. is_there (cond test (goal_of (kind_of Join (suc h)) (part_trees chunks h p q r s)) Nothing)) e)))
      (cases_Bool any)

  -- the goals of the new tasks are defined
  defined : AllByRecursion (λ (call : Call MatChunk MatKind). IsDefined call.kind call.inputs) (first_calls ++ second_calls ++ third_calls ++ fourth_calls ++ join_calls)
  defined =
      subst (AllByRecursion (λ (call : Call MatChunk MatKind). IsDefined call.kind call.inputs))
      (ap (λ (a : Shape MatKind). calls_of trees chunks a.tasks) shape ∙ (assign_parts trees chunks h (suc h) p q r s).calls)
      sound.defined

  abbrev is_defined : Call MatChunk MatKind → Type 0
  is_defined call = IsDefined call.kind call.inputs

  -- by parts
  defined_join : IsDefined (kind_of Join (suc h)) (part_trees chunks h p q r s)
  defined_join = all_asked is_defined any (join_call chunks h (suc h) p q r s) (all_split is_defined _ _ defined).1 some_part

  first_three : AllByRecursion is_defined (first_calls ++ second_calls ++ third_calls)
  first_three = (all_split is_defined _ (fourth_calls) (all_split is_defined _ (join_calls) defined).0).0

  first_two : AllByRecursion is_defined (first_calls ++ second_calls)
  first_two = (all_split is_defined _ (third_calls) first_three).0

  defined_first : p ≡ true → IsDefined (kind_of Assign h) (first ∷ [])
  defined_first = all_asked is_defined p (part_call Assign h first) (all_split is_defined _ (second_calls) first_two).0

  defined_second : q ≡ true → IsDefined (kind_of Assign h) (second ∷ [])
  defined_second = all_asked is_defined q (part_call Assign h second) (all_split is_defined (first_calls) _ first_two).1

  defined_third : r ≡ true → IsDefined (kind_of Assign h) (third ∷ [])
  defined_third = all_asked is_defined r (part_call Assign h third) (all_split is_defined (first_calls ++ second_calls) _ first_three).1

  defined_fourth : s ≡ true → IsDefined (kind_of Assign h) (fourth ∷ [])
  defined_fourth =
      all_asked is_defined s (part_call Assign h fourth)
      (all_split is_defined (first_calls ++ second_calls ++ third_calls) _ (all_split is_defined _ (join_calls) defined).0).1

  -- the new chunks are there
  chunks_there : (i : ℕ) → i < bit p + bit q + bit r + bit s → is_there (tree_at chunks i) ≡ true
  chunks_there i low =
      let count : length outcome.chunks ≡ bit p + bit q + bit r + bit s =
      sym (length-map (map (λ (chunk : NewChunk MatChunk). chunk.children) outcome.chunks) places_of ∙ length-map outcome.chunks (λ (chunk : NewChunk MatChunk). chunk.children))
      ∙ ap (λ (a : Shape MatKind). length a.chunks) shape
      ∙ (assign_parts trees chunks h (suc h) p q r s).count in
      there_at chunks i (new_there trees [] outcome.chunks tt) (omega (arith, length-in_order (chunk_tree trees) [] outcome.chunks))

  -- the canonical trees of the quadrants are the trees of the parts
  quadrants : (canonical b h (upper_left (side_of b h) m) ≡ part_tree Assign h p first) × (canonical b h (upper_right (side_of b h) m) ≡ part_tree Assign h q second) × (canonical b h (lower_left (side_of b h) m) ≡ part_tree Assign h r third) × (canonical b h (lower_right (side_of b h) m) ≡ part_tree Assign h s fourth)
  quadrants =
      let c = defined_join.leaf in
      let t0 = part_tree Assign h p first in
      let t1 = part_tree Assign h q second in
      let t2 = part_tree Assign h r third in
      let t3 = part_tree Assign h s fourth in
      let fit = join_fits c h t0 t1 t2 t3 defined_join.fits in
      let joins : canonical b (suc h) m ≡ canonical c (suc h) (join_of c h t0 t1 t2 t3) =
      result
      ∙ ap (λ test. cond test (goal_of (kind_of Join (suc h)) (part_trees chunks h p q r s)) Nothing) some_part
      ∙ goal_any c Join (suc h) (part_trees chunks h p q r s) defined_join.fits
      ∙ join_goal c h t0 t1 t2 t3 in
      let there : any_there t0 t1 t2 t3 ≡ true =
      sym (join_there c h t0 t1 t2 t3 fit.0 fit.1 fit.2 fit.3) ∙ ap is_there (sym joins) ∙ is_there_some b (suc h) m not_flat in
      let nodes : node_of b h m ≡ Root (Node (suc h) (join_peak c h t0 t1 t2 t3)) t0 t1 t2 t3 =
      sym (canonical_node b h m not_flat) ∙ joins ∙ join_some c h t0 t1 t2 t3 fit.0 fit.1 fit.2 fit.3 there in
      (cc, cc, cc, cc)

  -- so the works of the quadrants are those of the parts
  pub assign_work_is : assign_work b (suc h) m ≡ 1 + total trees chunks (shape_of outcome)
  assign_work_is =
      let half = side_of b h in
      let parts = assign_parts trees chunks h (suc h) p q r s in
      let one = part_work b h (upper_left half m) p first (IsMatrix-block m 0 0 half half) (height-block m 0 0 half half) refl quadrants.0 defined_first
      (λ e. let on : bit p ≡ 1 = ap bit e in chunks_there 0 (omega arith)) in
      let two = part_work b h (upper_right half m) q second (IsMatrix-block m 0 half half half) (height-block m 0 half half half) refl quadrants.1 defined_second
      (λ e. let on : bit q ≡ 1 = ap bit e in chunks_there (bit p) (omega arith)) in
      let three = part_work b h (lower_left half m) r third (IsMatrix-block m half 0 half half) (height-block m half 0 half half) refl quadrants.2 defined_third
      (λ e. let on : bit r ≡ 1 = ap bit e in chunks_there (bit p + bit q) (omega arith)) in
      let four = part_work b h (lower_right half m) s fourth (IsMatrix-block m half half half half) (height-block m half half half half) refl quadrants.3 defined_fourth
      (λ e. let on : bit s ≡ 1 = ap bit e in chunks_there (bit p + bit q + bit r) (omega arith)) in
      let last : has_number m ≡ any = some_has_number m not_flat ∙ sym some_part in
      ap (λ n. 1 + n)
      (works_same (asked (has_number (upper_left half m)) (assign_work b h (upper_left half m))) (asked (has_number (upper_right half m)) (assign_work b h (upper_right half m))) (asked (has_number (lower_left half m)) (assign_work b h (lower_left half m))) (asked (has_number (lower_right half m)) (assign_work b h (lower_right half m))) (asked (has_number m) 1)
      first_calls second_calls third_calls fourth_calls join_calls
      (ap sum one ∙ sym (work_asked p (part_call Assign h first))) (ap sum two ∙ sym (work_asked q (part_call Assign h second)))
      (ap sum three ∙ sym (work_asked r (part_call Assign h third))) (ap sum four ∙ sym (work_asked s (part_call Assign h fourth)))
      (ap (λ test. sum (asked test 1)) last ∙ sym (work_asked any (join_call chunks h (suc h) p q r s)))
      ∙ sym (ap (sum_by call_work) (ap (λ (a : Shape MatKind). calls_of trees chunks a.tasks) shape ∙ parts.calls)))
