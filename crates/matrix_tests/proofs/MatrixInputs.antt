-- The inputs of the tests show trees on which goals are defined.
use Rattle.std.proofs.Common.{◌≡◌, ℕ, zero, suc, ◌+◌, ◌*◌, ◌^◌, ◌≤◌, false, List, [], ◌∷◌, refl, sym, ap, ◌∙◌, subst, ⊎_elim, arith, add-one, le_trans, lit≤}
use Rattle.std.specs.Prelude.{if◌then◌else◌, ℤ, unsigned_abs, IsTrue}
use Rattle.std.proofs.lemmas.Bool.{cond-true, cond-false, false≢true}
use Rattle.std.proofs.Math.Nat.{mul-le-mul}
use Rattle.dense_def.specs.Matrix.{Matrix, height, peak_of, SumFits, TraceFits}
use Rattle.dense_def.proofs.Peaks.{sum_fits, product_fits, tmul_fits, mult_fits, trace_fits}
use Rattle.leaf_blocks.specs.Block.{IsBlock}
use Rattle.task_types.specs.declared.inputs.View.{View}
use Rattle.task_types.specs.declared.inputs.View.TheVariants as view
use Rattle.task_types.specs.declared.inputs.Inputs.{Inputs}
use Rattle.task_types.specs.Tree.{Tree, Nothing, Root, is_there}
use Rattle.task_types.specs.Presence.{is_present, presence_of}
use Rattle.task_types.specs.Shown.{view_of, views_of, mask, Shows}
use Rattle.task_types.specs.Sound.{HasGoal}
use Rattle.task_types.proofs.Shown.{presence_in-view_of}
use Rattle.quad_matrix.specs.declared.chunk.MatChunk.{MatChunk}
use Rattle.quad_matrix.specs.declared.chunk.MatChunk.TheVariants.{Leaf, Node, Num}
use Rattle.quad_matrix.specs.declared.chunk.MatChunk.TheVariants as chunk
use Rattle.quad_matrix.specs.declared.chunk.Entries.{Entries}
use Rattle.quad_matrix.specs.declared.kind.What.{What}
use Rattle.quad_matrix.specs.declared.kind.What.TheVariants.{Assign, Add, Mul, TMul, MulT, Transpose, Join, Trace, AddNum, SAssign, SAdd, Square, RankMul, TRank, SMul, MulS, Full, SJoin, STrace}
use Rattle.chunk_codec.specs.Spots.{side_of, AreSoundSpots}
use Rattle.chunk_codec.specs.declared.plain.Spot.{Spot}
use Rattle.quad_matrix.specs.Spots.{AreSoundEntries}
use Rattle.quad_matrix.specs.Blocks.{block_of, alone, canonical, IsCanonical}
use Rattle.quad_matrix.specs.Goals.{kind_of}
use Rattle.quad_matrix.specs.Matrices.{matrices}
use Rattle.quad_matrix.proofs.ForOthers.{nothing_is_canonical, canonical_leaf, block_of_canonical, peak-zeros}
use Rattle.quad_matrix.proofs.ForOthers.{any_there, join_of, join_peak, join_nothing, join_some, join_canonical, peak_of_join, block_of_join}
use Rattle.quad_matrix.proofs.ForOthers.{tree_peak, peak_of_tree}
use Rattle.quad_matrix.proofs.ForOthers.{fits_join}
use Rattle.quad_matrix.proofs.ForOthers.{nothing_is_number, number_some}
use Rattle.matrix_tasks.specs.Answers.{is_general, peak_shown, greatest_peak}
use Rattle.matrix_tests.specs.MatrixInputs.{ShowsBlock, ShowsNumber, shows_some, is_product, over}
use Rattle.task_plans.proofs.ForOthers.{true_or_false}

-- the peak that a tree shows
shown_peak : (tree : Tree MatChunk) → peak_shown (view_of tree) ≡ tree_peak tree
shown_peak Nothing = refl
shown_peak (Root c x y z w) = refl

-- nothing shows the zero block
pub nothing_shows : (h : ℕ) → ShowsBlock h view.Nothing
nothing_shows h = (Nothing, nothing_is_canonical 1 h, omega (arith, peak-zeros (side_of 1 h) (side_of 1 h)), refl)

-- a leaf of side 1 other than zero
pub leaf_shows : (m : Matrix) (shown : View MatChunk) (side peak : ℕ) → shown ≡ view.There (Leaf m) 0 → IsBlock side m → side ≡ 1 → peak ≡ peak_of m → (peak ≡ 0 → ⊥) → peak ≤ 2 ^ 62
    → ShowsBlock 0 shown
leaf_shows m shown side peak is sized one at some small =
    let full : peak_of m ≡ 0 → ⊥ = λ flat. some (at ∙ flat) in
    (alone (Leaf m), record { sized = subst (λ side. IsBlock side m) one sized; same = sym (canonical_leaf 1 m full) }, omega arith, is)

-- what is known of the view of a tree
shows_tree : (tree : Tree MatChunk) → shows_some (view_of tree) ≡ is_there tree
shows_tree tree = ap is_present (presence_in-view_of tree) ∙ there tree
  where
    there : (tree : Tree MatChunk) → is_present (presence_of tree) ≡ is_there tree
    there Nothing = refl
    there (Root c x y z w) = refl

-- a node over four quadrants, or nothing
pub over_shows : (h n : ℕ) (inputs : Inputs MatChunk) (shown : View MatChunk) → shown ≡ over n inputs → n ≡ h + 1 → ShowsBlock h inputs.first → ShowsBlock h inputs.second → ShowsBlock h inputs.third → ShowsBlock h inputs.fourth
    → ShowsBlock n shown
over_shows h n inputs found drawn e a b c d =
    let x : Tree MatChunk = a.0 in
    let y : Tree MatChunk = b.0 in
    let z : Tree MatChunk = c.0 in
    let w : Tree MatChunk = d.0 in
    let m : Matrix = join_of 1 h x y z w in
    let tree : Tree MatChunk = canonical 1 (suc h) m in
    let is : IsCanonical 1 (suc h) tree = join_canonical 1 h x y z w a.1 b.1 c.1 d.1 in
    let sized : IsBlock (side_of 1 (suc h)) m = block_of_join 1 h x y z w a.1 b.1 c.1 d.1 in
    let block : block_of 1 (suc h) tree ≡ m = block_of_canonical 1 (suc h) m sized.whole sized.tall sized.wide in
    let peak : peak_of (block_of 1 (suc h) tree) ≡ join_peak 1 h x y z w = ap peak_of block ∙ peak_of_join 1 h x y z w a.1 b.1 c.1 d.1 in
    let small : peak_of (block_of 1 (suc h) tree) ≤ 2 ^ 62 = omega (arith, peak, a.2, b.2, c.2, d.2) in
    let peaks : greatest_peak inputs ≡ join_peak 1 h x y z w = cc (ap peak_shown a.3 ∙ shown_peak x ∙ peak_of_tree 1 h x a.1, ap peak_shown b.3 ∙ shown_peak y ∙ peak_of_tree 1 h y b.1, ap peak_shown c.3 ∙ shown_peak z ∙ peak_of_tree 1 h z c.1, ap peak_shown d.3 ∙ shown_peak w ∙ peak_of_tree 1 h w d.1) in
    let node : View MatChunk = view.There (Node (suc h) (join_peak 1 h x y z w)) (mask (is_there x) (is_there y) (is_there z) (is_there w)) in
    let same : over (suc h) inputs ≡ (if any_there x y z w then node else view.Nothing) = cc (peaks, ap shows_some a.3 ∙ shows_tree x, ap shows_some b.3 ∙ shows_tree y, ap shows_some c.3 ∙ shows_tree z, ap shows_some d.3 ∙ shows_tree w) in
    let shown : (if any_there x y z w then node else view.Nothing) ≡ view_of tree = ⊎_elim
    (λ some. cond-true (any_there x y z w) node view.Nothing some ∙ sym (ap view_of (join_some 1 h x y z w a.1 b.1 c.1 d.1 some)))
    (λ none. cond-false (any_there x y z w) node view.Nothing none ∙ sym (ap view_of (join_nothing 1 h x y z w none)))
    (true_or_false (any_there x y z w)) in
    let top : suc h ≡ n = sym (add-one h) ∙ sym e in
    subst (ShowsBlock n) (sym drawn) (subst (λ n. ShowsBlock n (over n inputs)) top (tree, is, small, same ∙ shown))

-- a number other than 0
pub number_shows : (z : ℤ) (shown : View MatChunk) (size : ℕ) → shown ≡ view.There (Num z) 0 → size ≡ unsigned_abs z → (size ≡ 0 → ⊥) → size ≤ 2 ^ 62 → ShowsNumber shown
number_shows z shown size is at some small =
    (alone (Num z), record { small = omega arith; same = sym (number_some z (λ flat. some (at ∙ flat))) }, omega arith, is)

pub nothing_shows_zero : ShowsNumber view.Nothing
nothing_shows_zero = (Nothing, nothing_is_number, omega arith, refl)

-- ---- Goals

one_shown : (inputs : Inputs MatChunk) (x : Tree MatChunk) → inputs.count ≡ 1 → inputs.first ≡ view_of x → Shows inputs (x ∷ [])
one_shown inputs x count a =
    let views : views_of inputs ≡ inputs.first ∷ [] = rw count refl in (count, views ∙ cc)

two_shown : (inputs : Inputs MatChunk) (x y : Tree MatChunk) → inputs.count ≡ 2 → inputs.first ≡ view_of x → inputs.second ≡ view_of y
    → Shows inputs (x ∷ y ∷ [])
two_shown inputs x y count a b =
    let views : views_of inputs ≡ inputs.first ∷ inputs.second ∷ [] = rw count refl in (count, views ∙ cc)

four_shown : (inputs : Inputs MatChunk) (x y z w : Tree MatChunk) → inputs.count ≡ 4 → inputs.first ≡ view_of x → inputs.second ≡ view_of y
    → inputs.third ≡ view_of z → inputs.fourth ≡ view_of w → Shows inputs (x ∷ y ∷ z ∷ w ∷ [])
four_shown inputs x y z w count a b c d =
    let views : views_of inputs ≡ inputs.first ∷ inputs.second ∷ inputs.third ∷ inputs.fourth ∷ [] = rw count refl in (count, views ∙ cc)

pub add_has_goal : (h : ℕ) (inputs : Inputs MatChunk) → h ≤ 16 → inputs.count ≡ 2 → ShowsBlock h inputs.first → ShowsBlock h inputs.second
    → HasGoal matrices (kind_of Add h) inputs
add_has_goal h inputs low count a b =
    let x : Matrix = block_of 1 h a.0 in
    let y : Matrix = block_of 1 h b.0 in
    let fits : SumFits x y = sum_fits x y (a.1.sized.tall ∙ sym b.1.sized.tall) (a.1.sized.wide ∙ sym b.1.sized.wide) (omega (arith, a.2, b.2)) in
    (a.0 ∷ b.0 ∷ [], two_shown inputs a.0 b.0 count a.3 b.3, record { low = low; leaf = 1; leaf_high = omega arith; fits = (a.1, b.1, fits) })

-- the side of a block of height at most 1
side_small : (h : ℕ) → h ≤ 1 → side_of 1 h ≤ 2
side_small zero low = omega arith
side_small (suc zero) low = omega arith
side_small (suc (suc h)) low = absurd (omega arith)

few_times : (n p : ℕ) → n ≤ 2 → p ≤ 2 ^ 62 → n * p ≤ 2 ^ 126
few_times zero p low small = omega arith
few_times (suc zero) p low small = omega arith
few_times (suc (suc zero)) p low small = omega arith
few_times (suc (suc (suc n))) p low small = absurd (omega arith)

pub trace_has_goal : (h : ℕ) (inputs : Inputs MatChunk) → h ≤ 1 → inputs.count ≡ 1 → ShowsBlock h inputs.first
    → HasGoal matrices (kind_of Trace h) inputs
trace_has_goal h inputs low count a =
    let x : Matrix = block_of 1 h a.0 in
    let side : height x ≤ 2 = omega (arith, a.1.sized.tall, side_small h low) in
    let fits : TraceFits x = trace_fits x (a.1.sized.tall ∙ sym a.1.sized.wide) (few_times (height x) (peak_of x) side a.2) in
    (a.0 ∷ [], one_shown inputs a.0 count a.3, record { low = omega arith; leaf = 1; leaf_high = omega arith; fits = (a.1, fits) })

-- the products of few small numbers sum to a small one
few_products : (n p q : ℕ) → n ≤ 2 → p ≤ 2 ^ 62 → q ≤ 2 ^ 62 → n * p * q ≤ 2 ^ 126
few_products n p q low first second = le_trans (mul-le-mul (mul-le-mul low first) second) (lit≤ tt)

pub product_has_goal : (what : What) (h : ℕ) (inputs : Inputs MatChunk) → IsTrue (is_product what) → h ≤ 1 → inputs.count ≡ 2 → ShowsBlock h inputs.first → ShowsBlock h inputs.second
    → HasGoal matrices (kind_of what h) inputs
product_has_goal Mul h inputs is low count a b =
    let x : Matrix = block_of 1 h a.0 in
    let y : Matrix = block_of 1 h b.0 in
    let inner : x.columns ≤ 2 = omega (arith, a.1.sized.wide, side_small h low) in
    (a.0 ∷ b.0 ∷ [], two_shown inputs a.0 b.0 count a.3 b.3, record { low = omega arith; leaf = 1; leaf_high = omega arith; fits = (a.1, b.1, product_fits x y (a.1.sized.wide ∙ sym b.1.sized.tall) (few_products x.columns (peak_of x) (peak_of y) inner a.2 b.2)) })
product_has_goal TMul h inputs is low count a b =
    let x : Matrix = block_of 1 h a.0 in
    let y : Matrix = block_of 1 h b.0 in
    let inner : height x ≤ 2 = omega (arith, a.1.sized.tall, side_small h low) in
    (a.0 ∷ b.0 ∷ [], two_shown inputs a.0 b.0 count a.3 b.3, record { low = omega arith; leaf = 1; leaf_high = omega arith; fits = (a.1, b.1, tmul_fits x y (a.1.sized.tall ∙ sym b.1.sized.tall) (few_products (height x) (peak_of x) (peak_of y) inner a.2 b.2)) })
product_has_goal MulT h inputs is low count a b =
    let x : Matrix = block_of 1 h a.0 in
    let y : Matrix = block_of 1 h b.0 in
    let inner : x.columns ≤ 2 = omega (arith, a.1.sized.wide, side_small h low) in
    (a.0 ∷ b.0 ∷ [], two_shown inputs a.0 b.0 count a.3 b.3, record { low = omega arith; leaf = 1; leaf_high = omega arith; fits = (a.1, b.1, mult_fits x y (a.1.sized.wide ∙ sym b.1.sized.wide) (few_products x.columns (peak_of x) (peak_of y) inner a.2 b.2)) })
product_has_goal Assign h inputs is low count a b = absurd (false≢true is)
product_has_goal Add h inputs is low count a b = absurd (false≢true is)
product_has_goal Transpose h inputs is low count a b = absurd (false≢true is)
product_has_goal Join h inputs is low count a b = absurd (false≢true is)
product_has_goal Trace h inputs is low count a b = absurd (false≢true is)
product_has_goal AddNum h inputs is low count a b = absurd (false≢true is)
product_has_goal SAssign h inputs is low count a b = absurd (false≢true is)
product_has_goal SAdd h inputs is low count a b = absurd (false≢true is)
product_has_goal Square h inputs is low count a b = absurd (false≢true is)
product_has_goal RankMul h inputs is low count a b = absurd (false≢true is)
product_has_goal TRank h inputs is low count a b = absurd (false≢true is)
product_has_goal SMul h inputs is low count a b = absurd (false≢true is)
product_has_goal MulS h inputs is low count a b = absurd (false≢true is)
product_has_goal Full h inputs is low count a b = absurd (false≢true is)
product_has_goal SJoin h inputs is low count a b = absurd (false≢true is)
product_has_goal STrace h inputs is low count a b = absurd (false≢true is)

-- run_general serves the products
pub is_served : (what : What) → IsTrue (is_product what) → IsTrue (is_general what)
is_served Mul is = refl
is_served TMul is = refl
is_served MulT is = refl
is_served Assign is = absurd (false≢true is)
is_served Add is = absurd (false≢true is)
is_served Transpose is = absurd (false≢true is)
is_served Join is = absurd (false≢true is)
is_served Trace is = absurd (false≢true is)
is_served AddNum is = absurd (false≢true is)
is_served SAssign is = absurd (false≢true is)
is_served SAdd is = absurd (false≢true is)
is_served Square is = absurd (false≢true is)
is_served RankMul is = absurd (false≢true is)
is_served TRank is = absurd (false≢true is)
is_served SMul is = absurd (false≢true is)
is_served MulS is = absurd (false≢true is)
is_served Full is = absurd (false≢true is)
is_served SJoin is = absurd (false≢true is)
is_served STrace is = absurd (false≢true is)

pub transpose_has_goal : (h : ℕ) (inputs : Inputs MatChunk) → h ≤ 1 → inputs.count ≡ 1 → ShowsBlock h inputs.first
    → HasGoal matrices (kind_of Transpose h) inputs
transpose_has_goal h inputs low count a =
    (a.0 ∷ [], one_shown inputs a.0 count a.3, record { low = omega arith; leaf = 1; leaf_high = omega arith; fits = a.1 })

pub join_has_goal : (h n : ℕ) (inputs : Inputs MatChunk) → n ≡ h + 1 → n ≤ 16 → inputs.count ≡ 4 → ShowsBlock h inputs.first → ShowsBlock h inputs.second → ShowsBlock h inputs.third → ShowsBlock h inputs.fourth
    → HasGoal matrices (kind_of Join n) inputs
join_has_goal h n inputs e low count a b c d =
    let top : suc h ≡ n = sym (add-one h) ∙ sym e in
    subst (λ n. HasGoal matrices (kind_of Join n) inputs) top
    (a.0 ∷ b.0 ∷ c.0 ∷ d.0 ∷ [], four_shown inputs a.0 b.0 c.0 d.0 count a.3 b.3 c.3 d.3, record { low = omega arith; leaf = 1; leaf_high = omega arith; fits = fits_join 1 h a.0 b.0 c.0 d.0 a.1 b.1 c.1 d.1 })

pub sum_has_goal : (inputs : Inputs MatChunk) → inputs.count ≡ 2 → ShowsNumber inputs.first → ShowsNumber inputs.second
    → HasGoal matrices (kind_of AddNum 0) inputs
sum_has_goal inputs count a b =
    (a.0 ∷ b.0 ∷ [], two_shown inputs a.0 b.0 count a.3 b.3, record { low = omega arith; leaf = 1; leaf_high = omega arith; fits = (refl, a.1, b.1, omega (arith, a.2, b.2)) })

pub assign_has_goal : (leaf h : ℕ) (inputs : Inputs MatChunk) (spots : List Spot) → inputs.count ≡ 1
    → inputs.first ≡ view.There (chunk.Entries (record { leaf = leaf; height = h; symmetric = false; list = spots })) 0
    → AreSoundSpots leaf h false spots → HasGoal matrices (kind_of Assign h) inputs
assign_has_goal leaf h inputs spots count a sound =
    let entries : Entries = record { leaf = leaf; height = h; symmetric = false; list = spots } in
    let tree : Tree MatChunk = alone (chunk.Entries entries) in
    let list : AreSoundEntries leaf h false entries = record { leaf = refl; height = refl; symmetric = refl; listed = sound } in
    (tree ∷ [], one_shown inputs tree count a, record { low = sound.low; leaf = leaf; leaf_high = sound.leaf_high; fits = (list, refl, refl, refl, refl) })
