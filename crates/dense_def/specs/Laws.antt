-- The laws of matrices and of their blocks, as statements. The functions of `laws` carry each as their contract.
use Rattle.std.specs.Prelude.{◌≡◌, ℕ, ◌+◌, ◌*◌, ◌^◌, ◌<◌, ◌≤◌, max, ◌↔◌, pos, ◌+ℤ◌, unsigned_abs}
use Rattle.dense_def.specs.Matrix.{Matrix, height, entry, IsMatrix, plus, times, transposed, trace_of, tmul_of, mult_of, block, joined, QuadrantsFit, IsSymmetric, IsZero, zeros, peak_of, SumFits, ProductFits, TmulFits, MultFits, TraceFits, PairFits, TmulPairFits, MultPairFits, completed}

-- the transpose of a matrix, transposed, is the matrix
abbrev pub TransposeTwice : Type 0
TransposeTwice = (a : Matrix) → IsMatrix a → transposed (transposed a) ≡ a

-- the transpose of a product is the product of the transposes in the other order
abbrev pub TransposeOfProduct : Type 0
TransposeOfProduct = (a b : Matrix) → a.columns ≡ height b → transposed (times a b) ≡ times (transposed b) (transposed a)

-- the sums of `tmul_of` are the product with the first factor transposed
abbrev pub TransposedFactorFirst : Type 0
TransposedFactorFirst = (a b : Matrix) → tmul_of a b ≡ times (transposed a) b

-- the sums of `mult_of` are the product with the second factor transposed
abbrev pub TransposedFactorSecond : Type 0
TransposedFactorSecond = (a b : Matrix) → a.columns ≡ b.columns → mult_of a b ≡ times a (transposed b)

-- a block of a product is the sum of two products of blocks, at any split of the inner range
abbrev pub BlockOfProduct : Type 0
BlockOfProduct =
    (a b : Matrix) (top left rows columns front back : ℕ)
    → top + rows ≤ height a → left + columns ≤ b.columns → a.columns ≡ front + back
    → block (times a b) top left rows columns
    ≡ plus (times (block a top 0 rows front) (block b 0 left front columns))
    (times (block a top front rows back) (block b front left back columns))

-- a matrix is the join of its quadrants, at any split of its rows and of its columns
abbrev pub JoinOfQuadrants : Type 0
JoinOfQuadrants =
    (m : Matrix) (top bottom left right : ℕ)
    → IsMatrix m → height m ≡ top + bottom → m.columns ≡ left + right
    → joined (block m 0 0 top left) (block m 0 left top right)
    (block m top 0 bottom left) (block m top left bottom right) ≡ m

-- the quadrants of a join are its four parts
abbrev pub QuadrantsOfJoin : Type 0
QuadrantsOfJoin =
    (a b c d : Matrix)
    → IsMatrix a → IsMatrix b → IsMatrix c → IsMatrix d → QuadrantsFit a b c d
    → (block (joined a b c d) 0 0 (height a) a.columns ≡ a)
    × (block (joined a b c d) 0 a.columns (height b) b.columns ≡ b)
    × (block (joined a b c d) (height a) 0 (height c) c.columns ≡ c)
    × (block (joined a b c d) (height a) a.columns (height d) d.columns ≡ d)

-- a sum on quadrants
abbrev pub SumOfJoins : Type 0
SumOfJoins =
    (a b c d e f g h : Matrix)
    → QuadrantsFit a b c d
    → height a ≡ height e → height c ≡ height g → a.columns ≡ e.columns → b.columns ≡ f.columns
    → plus (joined a b c d) (joined e f g h) ≡ joined (plus a e) (plus b f) (plus c g) (plus d h)

-- a transpose on quadrants
abbrev pub TransposeOfJoin : Type 0
TransposeOfJoin =
    (a b c d : Matrix)
    → QuadrantsFit a b c d
    → transposed (joined a b c d) ≡ joined (transposed a) (transposed c) (transposed b) (transposed d)

-- a trace on quadrants
abbrev pub TraceOfJoin : Type 0
TraceOfJoin =
    (a b c d : Matrix)
    → height a ≡ a.columns → height d ≡ d.columns → QuadrantsFit a b c d
    → trace_of (joined a b c d) ≡ (trace_of a +ℤ trace_of d)

-- the product on quadrants: (A B)rc = Ar0 B0c + Ar1 B1c
abbrev pub ProductOfJoins : Type 0
ProductOfJoins =
    (a b c d e f g h : Matrix)
    → QuadrantsFit a b c d → QuadrantsFit e f g h → a.columns ≡ height e → b.columns ≡ height g
    → times (joined a b c d) (joined e f g h)
    ≡ joined (plus (times a e) (times b g)) (plus (times a f) (times b h))
    (plus (times c e) (times d g)) (plus (times c f) (times d h))

-- the product with the first factor transposed, on quadrants
abbrev pub TmulOfJoins : Type 0
TmulOfJoins =
    (a b c d e f g h : Matrix)
    → QuadrantsFit a b c d → QuadrantsFit e f g h → height a ≡ height e → height c ≡ height g
    → tmul_of (joined a b c d) (joined e f g h)
    ≡ joined (plus (tmul_of a e) (tmul_of c g)) (plus (tmul_of a f) (tmul_of c h))
    (plus (tmul_of b e) (tmul_of d g)) (plus (tmul_of b f) (tmul_of d h))

-- the product with the second factor transposed, on quadrants
abbrev pub MultOfJoins : Type 0
MultOfJoins =
    (a b c d e f g h : Matrix)
    → QuadrantsFit a b c d → QuadrantsFit e f g h → a.columns ≡ e.columns → b.columns ≡ f.columns
    → mult_of (joined a b c d) (joined e f g h)
    ≡ joined (plus (mult_of a e) (mult_of b f)) (plus (mult_of a g) (mult_of b h))
    (plus (mult_of c e) (mult_of d f)) (plus (mult_of c g) (mult_of d h))

-- the square of a symmetric matrix on quadrants: [A B; Bᵀ C]² = [A² + B Bᵀ, A B + B C; (A B + B C)ᵀ, Bᵀ B + C²]
abbrev pub SymmetricSquare : Type 0
SymmetricSquare =
    (a b c : Matrix)
    → IsSymmetric a → IsSymmetric c → height a ≡ height b → b.columns ≡ height c
    → times (joined a b (transposed b) c) (joined a b (transposed b) c)
    ≡ joined (plus (times a a) (mult_of b b)) (plus (times a b) (times b c))
    (transposed (plus (times a b) (times b c))) (plus (tmul_of b b) (times c c))

-- a matrix times its transpose, on quadrants: [A Aᵀ + B Bᵀ, A Cᵀ + B Dᵀ; (A Cᵀ + B Dᵀ)ᵀ, C Cᵀ + D Dᵀ]
abbrev pub RankByRows : Type 0
RankByRows =
    (a b c d : Matrix)
    → QuadrantsFit a b c d
    → mult_of (joined a b c d) (joined a b c d)
    ≡ joined (plus (mult_of a a) (mult_of b b)) (plus (mult_of a c) (mult_of b d))
    (transposed (plus (mult_of a c) (mult_of b d))) (plus (mult_of c c) (mult_of d d))

-- the transpose of a matrix times it, on quadrants: [Aᵀ A + Cᵀ C, Aᵀ B + Cᵀ D; (Aᵀ B + Cᵀ D)ᵀ, Bᵀ B + Dᵀ D]
abbrev pub RankByColumns : Type 0
RankByColumns =
    (a b c d : Matrix)
    → QuadrantsFit a b c d
    → tmul_of (joined a b c d) (joined a b c d)
    ≡ joined (plus (tmul_of a a) (tmul_of c c)) (plus (tmul_of a b) (tmul_of c d))
    (transposed (plus (tmul_of a b) (tmul_of c d))) (plus (tmul_of b b) (tmul_of d d))

-- ---- Symmetric matrices

-- the sum of two symmetric matrices of one size is symmetric
abbrev pub SymmetricSum : Type 0
SymmetricSum = (a b : Matrix) → IsSymmetric a → IsSymmetric b → height a ≡ height b → IsSymmetric (plus a b)

-- the square of a symmetric matrix is symmetric
abbrev pub SquareIsSymmetric : Type 0
SquareIsSymmetric = (a : Matrix) → IsSymmetric a → IsSymmetric (times a a)

-- the product of a matrix with its own transpose is symmetric, in either order
abbrev pub RankIsSymmetric : Type 0
RankIsSymmetric = (a : Matrix) → IsSymmetric (mult_of a a) × IsSymmetric (tmul_of a a)

-- a matrix with symmetric quadrants on its diagonal, and the transpose of the upper right one at the lower left, is symmetric
abbrev pub SymmetricJoin : Type 0
SymmetricJoin =
    (a b c : Matrix)
    → IsMatrix b → IsSymmetric a → IsSymmetric c → height a ≡ height b → b.columns ≡ height c
    → IsSymmetric (joined a b (transposed b) c)

-- ---- Zero

-- a matrix of zeros is the matrix of zeros of its shape
abbrev pub ZeroIsZeros : Type 0
ZeroIsZeros = (m : Matrix) → IsMatrix m → IsZero m → m ≡ zeros (height m) m.columns

-- zeros change no sum
abbrev pub SumWithZeros : Type 0
SumWithZeros =
    (a : Matrix) (rows columns : ℕ)
    → IsMatrix a → height a ≡ rows → a.columns ≡ columns
    → (plus a (zeros rows columns) ≡ a) × (plus (zeros rows columns) a ≡ a)

-- a product with zeros is zeros
abbrev pub ProductWithZeros : Type 0
ProductWithZeros =
    (a : Matrix) (rows columns : ℕ)
    → (times a (zeros rows columns) ≡ zeros (height a) columns) × (times (zeros rows columns) a ≡ zeros rows a.columns)

-- the transpose of zeros is zeros
abbrev pub TransposeOfZeros : Type 0
TransposeOfZeros = (rows columns : ℕ) → transposed (zeros rows columns) ≡ zeros columns rows

-- the trace of zeros is 0
abbrev pub TraceOfZeros : Type 0
TraceOfZeros = (rows columns : ℕ) → trace_of (zeros rows columns) ≡ pos 0

-- zeros joined are zeros
abbrev pub JoinOfZeros : Type 0
JoinOfZeros =
    (top bottom left right : ℕ)
    → joined (zeros top left) (zeros top right) (zeros bottom left) (zeros bottom right) ≡ zeros (top + bottom) (left + right)

-- ---- The peak

-- no number of a matrix has an absolute value above its peak
abbrev pub PeakIsBound : Type 0
PeakIsBound = (m : Matrix) (i j : ℕ) → i < height m → j < m.columns → unsigned_abs (entry m i j) ≤ peak_of m

-- no number below the peak bounds the absolute values of a matrix
abbrev pub PeakIsLeast : Type 0
PeakIsLeast =
    (m : Matrix) (bound : ℕ)
    → ((i j : ℕ) → i < height m → j < m.columns → unsigned_abs (entry m i j) ≤ bound) → peak_of m ≤ bound

-- the peak is 0 exactly where the matrix is
abbrev pub PeakOfZero : Type 0
PeakOfZero = (m : Matrix) → IsZero m ↔ (peak_of m ≡ 0)

-- the peak of a join is the greatest peak of its parts
abbrev pub PeakOfJoin : Type 0
PeakOfJoin =
    (a b c d : Matrix)
    → QuadrantsFit a b c d
    → peak_of (joined a b c d) ≡ max (max (peak_of a) (peak_of b)) (max (peak_of c) (peak_of d))

-- a transpose has the same peak
abbrev pub PeakOfTranspose : Type 0
PeakOfTranspose = (a : Matrix) → peak_of (transposed a) ≡ peak_of a

-- ---- Peaks within which the terms fit

-- the terms of a sum fit within peaks whose sum is at most 2 ^ 126
abbrev pub SumFitsByPeaks : Type 0
SumFitsByPeaks =
    (a b : Matrix)
    → height a ≡ height b → a.columns ≡ b.columns → peak_of a + peak_of b ≤ 2 ^ 126 → SumFits a b

-- the terms of a product fit where the inner size times both peaks is at most 2 ^ 126
abbrev pub ProductFitsByPeaks : Type 0
ProductFitsByPeaks =
    (a b : Matrix) → a.columns ≡ height b → a.columns * peak_of a * peak_of b ≤ 2 ^ 126 → ProductFits a b

-- so do those of a product with the first factor transposed
abbrev pub TmulFitsByPeaks : Type 0
TmulFitsByPeaks =
    (a b : Matrix) → height a ≡ height b → height a * peak_of a * peak_of b ≤ 2 ^ 126 → TmulFits a b

-- and those of a product with the second factor transposed
abbrev pub MultFitsByPeaks : Type 0
MultFitsByPeaks =
    (a b : Matrix) → a.columns ≡ b.columns → a.columns * peak_of a * peak_of b ≤ 2 ^ 126 → MultFits a b

-- the terms of a trace fit where the size times the peak is at most 2 ^ 126
abbrev pub TraceFitsByPeak : Type 0
TraceFitsByPeak = (a : Matrix) → height a ≡ a.columns → height a * peak_of a ≤ 2 ^ 126 → TraceFits a

-- ---- Terms that fit on a whole fit on its quadrants

-- a sum whose terms fit is one whose terms fit on each quadrant
abbrev pub SumFitsOnQuadrants : Type 0
SumFitsOnQuadrants =
    (a b c d e f g h : Matrix)
    → QuadrantsFit a b c d
    → height a ≡ height e → height c ≡ height g → a.columns ≡ e.columns → b.columns ≡ f.columns
    → SumFits (joined a b c d) (joined e f g h) → SumFits a e × SumFits b f × SumFits c g × SumFits d h

-- a product whose terms fit is one whose pair of products and their sum fit at each quadrant
abbrev pub ProductFitsOnQuadrants : Type 0
ProductFitsOnQuadrants =
    (a b c d e f g h : Matrix)
    → QuadrantsFit a b c d → QuadrantsFit e f g h → a.columns ≡ height e → b.columns ≡ height g
    → ProductFits (joined a b c d) (joined e f g h)
    → PairFits a e b g × PairFits a f b h × PairFits c e d g × PairFits c f d h

-- so is one with the first factor transposed
abbrev pub TmulFitsOnQuadrants : Type 0
TmulFitsOnQuadrants =
    (a b c d e f g h : Matrix)
    → QuadrantsFit a b c d → QuadrantsFit e f g h → height a ≡ height e → height c ≡ height g
    → TmulFits (joined a b c d) (joined e f g h)
    → TmulPairFits a e c g × TmulPairFits a f c h × TmulPairFits b e d g × TmulPairFits b f d h

-- and one with the second factor transposed
abbrev pub MultFitsOnQuadrants : Type 0
MultFitsOnQuadrants =
    (a b c d e f g h : Matrix)
    → QuadrantsFit a b c d → QuadrantsFit e f g h → a.columns ≡ e.columns → b.columns ≡ f.columns
    → MultFits (joined a b c d) (joined e f g h)
    → MultPairFits a e b f × MultPairFits a g b h × MultPairFits c e d f × MultPairFits c g d h

-- a trace whose terms fit is one whose terms fit on both diagonal quadrants, and the two traces fit together
abbrev pub TraceFitsOnQuadrants : Type 0
TraceFitsOnQuadrants =
    (a b c d : Matrix)
    → height a ≡ a.columns → height d ≡ d.columns → QuadrantsFit a b c d
    → TraceFits (joined a b c d)
    → TraceFits a × TraceFits d × (unsigned_abs (trace_of a) + unsigned_abs (trace_of d) ≤ 2 ^ 126)

-- the terms of `tmul_of` fit exactly where those of the product with the first factor transposed do
abbrev pub TmulFitsIsProductFits : Type 0
TmulFitsIsProductFits = (a b : Matrix) → TmulFits a b ↔ ProductFits (transposed a) b

-- the terms of `mult_of` fit exactly where those of the product with the second factor transposed do
abbrev pub MultFitsIsProductFits : Type 0
MultFitsIsProductFits = (a b : Matrix) → a.columns ≡ b.columns → (MultFits a b ↔ ProductFits a (transposed b))

-- ---- Matrices completed by zeros

-- the product of completed matrices is the completed product
abbrev pub ProductOfCompleted : Type 0
ProductOfCompleted =
    (side : ℕ) (a b : Matrix)
    → IsMatrix a → IsMatrix b → a.columns ≡ height b → a.columns ≤ side
    → times (completed side a) (completed side b) ≡ completed side (times a b)

-- so it is with the first factor transposed
abbrev pub TmulOfCompleted : Type 0
TmulOfCompleted =
    (side : ℕ) (a b : Matrix)
    → IsMatrix a → IsMatrix b → height a ≡ height b → height a ≤ side
    → tmul_of (completed side a) (completed side b) ≡ completed side (tmul_of a b)

-- and with the second factor transposed
abbrev pub MultOfCompleted : Type 0
MultOfCompleted =
    (side : ℕ) (a b : Matrix)
    → IsMatrix a → IsMatrix b → a.columns ≡ b.columns → a.columns ≤ side
    → mult_of (completed side a) (completed side b) ≡ completed side (mult_of a b)

-- The terms of a product of completed matrices fit where the inner size of the matrices themselves times both peaks is at most
-- 2 ^ 126: what is completed adds zeros alone.
abbrev pub CompletedProductFitsByPeaks : Type 0
CompletedProductFitsByPeaks =
    (side : ℕ) (a b : Matrix)
    → IsMatrix a → IsMatrix b → a.columns ≡ height b → a.columns ≤ side → a.columns * peak_of a * peak_of b ≤ 2 ^ 126
    → ProductFits (completed side a) (completed side b)

-- so do those of a product with the first factor transposed
abbrev pub CompletedTmulFitsByPeaks : Type 0
CompletedTmulFitsByPeaks =
    (side : ℕ) (a b : Matrix)
    → IsMatrix a → IsMatrix b → height a ≡ height b → height a ≤ side → height a * peak_of a * peak_of b ≤ 2 ^ 126
    → TmulFits (completed side a) (completed side b)

-- and those of a product with the second factor transposed
abbrev pub CompletedMultFitsByPeaks : Type 0
CompletedMultFitsByPeaks =
    (side : ℕ) (a b : Matrix)
    → IsMatrix a → IsMatrix b → a.columns ≡ b.columns → a.columns ≤ side → a.columns * peak_of a * peak_of b ≤ 2 ^ 126
    → MultFits (completed side a) (completed side b)
