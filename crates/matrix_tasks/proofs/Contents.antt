-- New contents are sound.
use Rattle.std.proofs.Common.{◌≡◌, ◌↔◌, ℕ, zero, suc, ◌^◌, ◌≤◌, ◌==◌, max, Bool, true, false, IsTrue, List, [], ◌∷◌, ℤ, pos, unsigned_abs, map, refl, sym, ap, ◌∙◌, subst, arith}
use Rattle.std.proofs.lemmas.Int.{ints}
use Rattle.std.proofs.lemmas.Bool.{false≢true}
use Rattle.dense_def.specs.Matrix.{Matrix, height, entry, peak_of, trace_of, IsZero, TraceFits}
use Rattle.dense_def.proofs.Peaks.{peak-zero}
use Rattle.dense_def.proofs.Sums.{magnitudes_bound}
use Rattle.chunk_codec.specs.declared.plain.Spot.{Spot}
use Rattle.chunk_codec.specs.Sound.{IsSoundBlock, IsSoundNumber}
use Rattle.task_types.specs.declared.inputs.Inputs.{Inputs}
use Rattle.task_types.specs.Tree.{Tree, Nothing, Root}
use Rattle.task_types.specs.Presence.{presence_of}
use Rattle.task_types.specs.Shown.{Shows}
use Rattle.task_types.proofs.Shown.{presences_in-shown}
use Rattle.task_plans.specs.Plans.{are_null}
use Rattle.quad_matrix.specs.declared.chunk.MatChunk.{MatChunk}
use Rattle.quad_matrix.specs.declared.kind.What.{What}
use Rattle.quad_matrix.specs.declared.kind.What.TheVariants.{Join}
use Rattle.quad_matrix.specs.Blocks.{block_of, IsCanonical}
use Rattle.quad_matrix.specs.Goals.{kind_of, FitsAt, IsDefined}
use Rattle.quad_matrix.specs.Spots.{block_of_spots}
use Rattle.quad_matrix.specs.Plans.{join_places}
use Rattle.quad_matrix.proofs.ForOthers.{tree_peak, peak_of_tree, peak_small, root_some, join_fits, spots_tall}
use Rattle.matrix_tasks.specs.Answers.{greatest_peak, NodeFits}
use Rattle.matrix_tasks.proofs.Joins.{four_peaks}

-- a matrix other than zero has a row
tall_if_some : (m : Matrix) → (peak_of m ≡ 0 → ⊥) → 1 ≤ height m
tall_if_some m some = lemma (height m) refl
  where
    lemma : (n : ℕ) → height m ≡ n → 1 ≤ height m
    lemma zero e = absurd (some ((peak-zero m).0 (λ i j p q. absurd (omega arith))))
    lemma (suc n) e = omega arith

-- a test whether all numbers of a block are 0 tells whether the peak is
pub zero_told : (m : Matrix) (told : Bool) → (IsTrue told ↔ IsZero m) → told ≡ (peak_of m == 0)
zero_told m true is = sym (ap (λ n. n == 0) ((peak-zero m).0 (is.0 refl)))
zero_told m false is = lemma (peak_of m) refl
  where
    lemma : (n : ℕ) → peak_of m ≡ n → false ≡ (peak_of m == 0)
    lemma zero e = absurd (false≢true (is.1 ((peak-zero m).1 e)))
    lemma (suc n) e = grind arith

-- a leaf whose block is not zero
pub sound_leaf : (m : Matrix) → height m ≤ 64 → peak_of m ≤ 2 ^ 126 → (peak_of m ≡ 0 → ⊥) → IsSoundBlock (height m) (peak_of m)
sound_leaf m side small some =
    record { low = tall_if_some m some; high = side; range = record { some = omega arith; small = small } }

-- a number other than 0
pub sound_number : (n : ℤ) → unsigned_abs n ≤ 2 ^ 126 → (n ≡ pos 0 → ⊥) → IsSoundNumber n
sound_number n small some = record { some = lemma (unsigned_abs n) refl; small = small }
  where
    lemma : (k : ℕ) → unsigned_abs n ≡ k → 1 ≤ unsigned_abs n
    lemma zero e = absurd (some (omega (arith, ints)))
    lemma (suc k) e = omega arith

-- a trace whose terms fit
pub trace_small : (m : Matrix) → TraceFits m → unsigned_abs (trace_of m) ≤ 2 ^ 126
trace_small m fits = omega (arith, fits, magnitudes_bound (height m) (λ i. entry m i i))

-- the leaf block of a list has the side of its leaves
pub listed_side : (side : ℕ) (spots : List Spot) (m : Matrix) → m ≡ block_of_spots side spots → side ≤ 64 → height m ≤ 64
listed_side side spots m e low = subst (λ (m : Matrix). height m ≤ 64) (sym e) (omega (arith, spots_tall side spots))

-- ---- Nodes

-- the peak of a canonical tree is small
pub tree_small : (b h : ℕ) (t : Tree MatChunk) → IsCanonical b h t → tree_peak t ≤ 2 ^ 126
tree_small b h t is = omega (arith, peak_of_tree b h t is, peak_small _ (block_of b h t) is.sized)

-- and is not 0 where the tree is there
pub tree_some : (b h : ℕ) (c : MatChunk) (x y z w : Tree MatChunk) → IsCanonical b h (Root c x y z w) → 1 ≤ tree_peak (Root c x y z w)
tree_some b h c x y z w is = lemma (tree_peak (Root c x y z w)) refl
  where
    lemma : (k : ℕ) → tree_peak (Root c x y z w) ≡ k → 1 ≤ tree_peak (Root c x y z w)
    lemma zero e = absurd (root_some b h (Root c x y z w) is refl (sym (peak_of_tree b h (Root c x y z w) is) ∙ e))
    lemma (suc k) e = omega arith

abbrev four_peak : Tree MatChunk → Tree MatChunk → Tree MatChunk → Tree MatChunk → ℕ
four_peak x y z w = max (max (tree_peak x) (tree_peak y)) (max (tree_peak z) (tree_peak w))

peak_there : (b h : ℕ) (x y z w : Tree MatChunk) → IsCanonical b h x → IsCanonical b h y → IsCanonical b h z → IsCanonical b h w
    → are_null (join_places (map presence_of (x ∷ y ∷ z ∷ w ∷ []))) ≡ false → 1 ≤ four_peak x y z w
peak_there b h (Root c x0 x1 x2 x3) y z w ix iy iz iw some = omega (arith, tree_some b h c x0 x1 x2 x3 ix)
peak_there b h Nothing (Root c x0 x1 x2 x3) z w ix iy iz iw some = omega (arith, tree_some b h c x0 x1 x2 x3 iy)
peak_there b h Nothing Nothing (Root c x0 x1 x2 x3) w ix iy iz iw some = omega (arith, tree_some b h c x0 x1 x2 x3 iz)
peak_there b h Nothing Nothing Nothing (Root c x0 x1 x2 x3) ix iy iz iw some = omega (arith, tree_some b h c x0 x1 x2 x3 iw)
peak_there b h Nothing Nothing Nothing Nothing ix iy iz iw some = absurd (false≢true (sym some))

node_at : (b h : ℕ) (inputs : Inputs MatChunk) (x y z w : Tree MatChunk) → h ≤ 16 → FitsAt b Join h (x ∷ y ∷ z ∷ w ∷ []) → Shows inputs (x ∷ y ∷ z ∷ w ∷ [])
    → NodeFits h inputs
node_at b zero inputs x y z w low fits shows some = let none : 1 ≤ 0 = fits.0 in absurd (omega arith)
node_at b (suc h) inputs x y z w low fits shows some =
    let four = join_fits b h x y z w fits in
    let peak : greatest_peak inputs ≡ four_peak x y z w = four_peaks inputs x y z w shows in
    let there : are_null (join_places (map presence_of (x ∷ y ∷ z ∷ w ∷ []))) ≡ false = ap (λ known. are_null (join_places known)) (sym (presences_in-shown inputs (x ∷ y ∷ z ∷ w ∷ []) shows)) ∙ some in
    let least : 1 ≤ four_peak x y z w = peak_there b h x y z w four.0 four.1 four.2 four.3 there in
    let most : four_peak x y z w ≤ 2 ^ 126 = omega (arith, tree_small b h x four.0, tree_small b h y four.1, tree_small b h z four.2, tree_small b h w four.3) in
    record { low = omega arith; high = low; range = record { some = omega arith; small = omega arith } }

node_fits_of : (height : ℕ) (inputs : Inputs MatChunk) → (trees : List (Tree MatChunk)) → Shows inputs trees
    → IsDefined (kind_of Join height) trees → NodeFits height inputs
node_fits_of height inputs [] shows d = absurd d.fits
node_fits_of height inputs (x ∷ []) shows d = absurd d.fits
node_fits_of height inputs (x ∷ y ∷ []) shows d = absurd d.fits
node_fits_of height inputs (x ∷ y ∷ z ∷ []) shows d = absurd d.fits
node_fits_of height inputs (x ∷ y ∷ z ∷ w ∷ []) shows d = node_at d.leaf height inputs x y z w d.low d.fits shows
node_fits_of height inputs (x ∷ y ∷ z ∷ w ∷ v ∷ trees) shows d = absurd d.fits

-- a node over inputs of which one is there is sound
pub node_fits : (what : What) (height : ℕ) (inputs : Inputs MatChunk) → what ≡ Join → (trees : List (Tree MatChunk)) → Shows inputs trees
    → IsDefined (kind_of what height) trees → NodeFits height inputs
node_fits what height inputs e trees shows d =
    node_fits_of height inputs trees shows (subst (λ (what : What). IsDefined (kind_of what height) trees) e d)
