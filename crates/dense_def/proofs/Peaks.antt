-- The peak of a matrix, and the peaks within which the terms of an operation fit.
use Rattle.std.proofs.Common.{◌≡◌, ℕ, ◌+◌, ◌*◌, ◌<◌, ◌≤◌, max, ℤ, pos, ◌*ℤ◌, unsigned_abs, arith, le_trans, mul_assoc, le_antisymm}
use Rattle.dense_def.specs.Matrix.{Matrix, height, entry, greatest_below, transposed, joined, QuadrantsFit, peak_of}
use Rattle.std.proofs.lemmas.Int.{ints}
use Rattle.dense_def.specs.Laws.{PeakIsBound, PeakIsLeast, PeakOfZero, PeakOfJoin, PeakOfTranspose, SumFitsByPeaks, ProductFitsByPeaks, TmulFitsByPeaks, MultFitsByPeaks, TraceFitsByPeak}
use Rattle.dense_def.proofs.Sums.{greatest_below_bound, greatest_below_least, magnitudes_below_bound, unsigned_abs-mul_le}
use Rattle.dense_def.proofs.Entries.{by_quadrants}
use Rattle.dense_def.proofs.Operations.{entry-transposed, height-transposed}
use Rattle.dense_def.proofs.Blocks.{height-joined, entry-joined_upper_left, entry-joined_upper_right, entry-joined_lower_left, entry-joined_lower_right}

-- no number of a matrix has an absolute value above its peak
pub entry_le_peak : PeakIsBound
entry_le_peak m i j h k =
    le_trans (greatest_below_bound j m.columns (λ q. unsigned_abs (entry m i q)) k)
    (greatest_below_bound i (height m) (λ p. greatest_below m.columns (λ q. unsigned_abs (entry m p q))) h)

-- no number below the peak bounds the absolute values of a matrix
pub peak_least : PeakIsLeast
peak_least m bound each =
    greatest_below_least (height m) bound (λ p. greatest_below m.columns (λ q. unsigned_abs (entry m p q)))
    (λ i h. greatest_below_least m.columns bound (λ q. unsigned_abs (entry m i q)) (λ j k. each i j h k))

-- a number of absolute value 0 is 0
zero_from_abs : (z : ℤ) → unsigned_abs z ≤ 0 → z ≡ pos 0
zero_from_abs z h = omega (arith, ints)

-- the peak is 0 exactly where the matrix is
pub peak-zero : PeakOfZero
peak-zero m = (
  λ none. let least : peak_of m ≤ 0 = peak_least m 0 (λ i j h k. rw (none i j h k) (omega arith)) in omega arith,
  λ flat i j h k. zero_from_abs (entry m i j) (omega (arith, entry_le_peak m i j h k)),
)

-- a transpose has the same peak
pub peak-transposed : PeakOfTranspose
peak-transposed a =
    le_antisymm
    (peak_least (transposed a) (peak_of a) (λ i j h k. let l : i < a.columns = rw height-transposed at h in rw (entry-transposed a i j l k) (entry_le_peak a j i k l)))
    (peak_least a (peak_of (transposed a)) (λ i j h k. rw (← entry-transposed a j i k h) (entry_le_peak (transposed a) j i (rw height-transposed k) h)))

-- a bound of the peaks of four quadrants is one of the peak of their join
joined_below : (a b c d : Matrix) (bound : ℕ) → QuadrantsFit a b c d → peak_of a ≤ bound → peak_of b ≤ bound → peak_of c ≤ bound → peak_of d ≤ bound → peak_of (joined a b c d) ≤ bound
joined_below a b c d bound fit pa pb pc pd =
    let x = joined a b c d in
    peak_least x bound (λ i j h k.
    by_quadrants (λ p q. unsigned_abs (entry x p q) ≤ bound) (height a) (height c) a.columns b.columns
    (λ p q l m. rw (entry-joined_upper_left a b c d p q l m) (le_trans (entry_le_peak a p q l m) pa))
    (λ p q l m. rw (entry-joined_upper_right a b c d p q l m) (le_trans (entry_le_peak b p q (rw fit.upper at l) m) pb))
    (λ p q l m. rw (entry-joined_lower_left a b c d p q l m) (le_trans (entry_le_peak c p q l (rw fit.left at m)) pc))
    (λ p q l m. rw (entry-joined_lower_right a b c d p q l m) (le_trans (entry_le_peak d p q (rw fit.lower at l) (rw fit.right at m)) pd))
    i j (rw height-joined at h) k)

-- the peak of each quadrant is at most that of the join
part_below : (a b c d : Matrix) → QuadrantsFit a b c d → (peak_of a ≤ peak_of (joined a b c d)) × (peak_of b ≤ peak_of (joined a b c d)) × (peak_of c ≤ peak_of (joined a b c d)) × (peak_of d ≤ peak_of (joined a b c d))
part_below a b c d fit =
    let x = joined a b c d in
    let tall : height x ≡ height a + height c = height-joined a b c d in (
      peak_least a (peak_of x) (λ i j h k. rw (← entry-joined_upper_left a b c d i j h k) (entry_le_peak x i j (rw tall (omega arith)) (omega arith))),
      peak_least b (peak_of x) (λ i j h k. let l : i < height a = rw fit.upper h in rw (← entry-joined_upper_right a b c d i j l k) (entry_le_peak x i (a.columns + j) (rw tall (omega arith)) (omega arith))),
      peak_least c (peak_of x) (λ i j h k. let m : j < a.columns = rw fit.left k in rw (← entry-joined_lower_left a b c d i j h m) (entry_le_peak x (height a + i) j (rw tall (omega arith)) (omega arith))),
      peak_least d (peak_of x) (λ i j h k. let l : i < height c = rw fit.lower h in let m : j < b.columns = rw fit.right k in rw (← entry-joined_lower_right a b c d i j l m) (entry_le_peak x (height a + i) (a.columns + j) (rw tall (omega arith)) (omega arith))),
    )

max_is : (n a b c d : ℕ) → ((m : ℕ) → a ≤ m → b ≤ m → c ≤ m → d ≤ m → n ≤ m) → (a ≤ n) × (b ≤ n) × (c ≤ n) × (d ≤ n) → n ≡ max (max a b) (max c d)
max_is n a b c d least each =
    omega (arith, each.0, each.1, each.2, each.3, least (max (max a b) (max c d)) (omega arith) (omega arith) (omega arith) (omega arith))

-- the peak of a join is the greatest peak of its parts
pub peak-joined : PeakOfJoin
peak-joined a b c d fit =
    max_is (peak_of (joined a b c d)) (peak_of a) (peak_of b) (peak_of c) (peak_of d) (λ m. joined_below a b c d m fit) (part_below a b c d fit)

-- the terms of a sum fit within peaks whose sum is at most 2 ^ 126
pub sum_fits : SumFitsByPeaks
sum_fits a b tall wide h = λ i j below_i below_j.
    omega (arith, entry_le_peak a i j below_i below_j, entry_le_peak b i j (rw (← tall) below_i) (rw (← wide) below_j))

-- the terms of a product fit where the inner size times both peaks is at most 2 ^ 126
pub product_fits : ProductFitsByPeaks
product_fits a b inner h = λ i j below_i below_j.
    le_trans (magnitudes_below_bound a.columns (peak_of a * peak_of b) (λ k. entry a i k *ℤ entry b k j)
    (λ k below. unsigned_abs-mul_le (entry a i k) (entry b k j) (peak_of a) (peak_of b) (entry_le_peak a i k below_i below) (entry_le_peak b k j (rw (← inner) below) below_j)))
    (rw mul_assoc at h)

-- so do those of a product with the first factor transposed
pub tmul_fits : TmulFitsByPeaks
tmul_fits a b inner h = λ i j below_i below_j.
    le_trans (magnitudes_below_bound (height a) (peak_of a * peak_of b) (λ k. entry a k i *ℤ entry b k j)
    (λ k below. unsigned_abs-mul_le (entry a k i) (entry b k j) (peak_of a) (peak_of b) (entry_le_peak a k i below below_i) (entry_le_peak b k j (rw (← inner) below) below_j)))
    (rw mul_assoc at h)

-- and those of a product with the second factor transposed
pub mult_fits : MultFitsByPeaks
mult_fits a b inner h = λ i j below_i below_j.
    le_trans (magnitudes_below_bound a.columns (peak_of a * peak_of b) (λ k. entry a i k *ℤ entry b j k)
    (λ k below. unsigned_abs-mul_le (entry a i k) (entry b j k) (peak_of a) (peak_of b) (entry_le_peak a i k below_i below) (entry_le_peak b j k below_j (rw (← inner) below))))
    (rw mul_assoc at h)

-- the terms of a trace fit where the size times the peak is at most 2 ^ 126
pub trace_fits : TraceFitsByPeak
trace_fits a square h =
    le_trans (magnitudes_below_bound (height a) (peak_of a) (λ i. entry a i i) (λ i below. entry_le_peak a i i below (rw (← square) below))) h
