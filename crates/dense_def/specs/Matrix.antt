-- Dense matrices of whole numbers, and the textbook operations on them. Rows and columns count from 0.
use Rattle.std.specs.Prelude.{◌≡◌, ℕ, zero, suc, ◌+◌, ◌-◌, ◌*◌, ◌^◌, ◌<◌, ◌≤◌, max, List, [], ◌∷◌, length, slice_index_or, All, if◌then◌else◌, nat_lt, ℤ, pos, ◌+ℤ◌, ◌*ℤ◌, unsigned_abs}

-- ---- A matrix

-- a dense matrix: how many columns it has, and its rows, each the list of that many whole numbers
pub record Matrix : Type 0 where
  pub columns : ℕ
  pub rows : List (List ℤ)

-- the height of a matrix: how many rows it has
abbrev pub height : Matrix → ℕ
height m = length m.rows

-- the number in row i and column j, and 0 outside the matrix
abbrev pub entry : Matrix → ℕ → ℕ → ℤ
entry m i j = slice_index_or (slice_index_or m.rows i []) j (pos 0)

-- each row has as many numbers as the matrix has columns
abbrev pub IsMatrix : Matrix → Type 0
IsMatrix m = All (λ row. length row ≡ m.columns) m.rows

-- the list of the n values f 0, f 1, .. f (n - 1)
abbrev pub tabulate : {A : Type 0} → ℕ → (ℕ → A) → List A
tabulate zero f = []
tabulate (suc n) f = f 0 ∷ tabulate n (λ i. f (suc i))

-- the matrix of that many rows and columns whose number in row i and column j is f i j
abbrev pub made : ℕ → ℕ → (ℕ → ℕ → ℤ) → Matrix
made rows columns f = record { columns = columns; rows = tabulate rows (λ i. tabulate columns (λ j. f i j)) }

-- the matrix of that many rows and columns whose numbers stand row by row in a list
abbrev pub row_by_row : ℕ → ℕ → List ℤ → Matrix
row_by_row rows columns xs = made rows columns (λ i j. slice_index_or xs (i * columns + j) (pos 0))

-- ---- Sums over an index range

-- the sum of the n terms f 0, f 1, .. f (n - 1)
abbrev pub sum_below : ℕ → (ℕ → ℤ) → ℤ
sum_below zero f = pos 0
sum_below (suc n) f = sum_below n f +ℤ f n

-- the sum of the absolute values of those n terms
abbrev pub magnitudes_below : ℕ → (ℕ → ℤ) → ℕ
magnitudes_below zero f = 0
magnitudes_below (suc n) f = magnitudes_below n f + unsigned_abs (f n)

-- the greatest of the n values f 0, f 1, .. f (n - 1), and 0 where there is none
abbrev pub greatest_below : ℕ → (ℕ → ℕ) → ℕ
greatest_below zero f = 0
greatest_below (suc n) f = max (greatest_below n f) (f n)

-- ---- The textbook operations

-- the sum of two matrices of one shape, place by place
abbrev pub plus : Matrix → Matrix → Matrix
plus a b = made (height a) a.columns (λ i j. entry a i j +ℤ entry b i j)

-- the product of a and b, row by column
abbrev pub times : Matrix → Matrix → Matrix
times a b = made (height a) b.columns (λ i j. sum_below a.columns (λ k. entry a i k *ℤ entry b k j))

-- the transpose: rows become columns
abbrev pub transposed : Matrix → Matrix
transposed a = made a.columns (height a) (λ i j. entry a j i)

-- the trace of a square matrix: the sum of its diagonal
abbrev pub trace_of : Matrix → ℤ
trace_of a = sum_below (height a) (λ i. entry a i i)

-- the product of the transpose of a with b
abbrev pub tmul_of : Matrix → Matrix → Matrix
tmul_of a b = made a.columns b.columns (λ i j. sum_below (height a) (λ k. entry a k i *ℤ entry b k j))

-- the product of a with the transpose of b
abbrev pub mult_of : Matrix → Matrix → Matrix
mult_of a b = made (height a) (height b) (λ i j. sum_below a.columns (λ k. entry a i k *ℤ entry b j k))

-- ---- Blocks

-- the block of m that begins at row `top` and column `left`, with that many rows and columns
abbrev pub block : Matrix → ℕ → ℕ → ℕ → ℕ → Matrix
block m top left rows columns = made rows columns (λ i j. entry m (top + i) (left + j))

-- the matrix with the quadrants a (upper left), b (upper right), c (lower left) and d (lower right)
abbrev pub joined : Matrix → Matrix → Matrix → Matrix → Matrix
joined a b c d =
    made (height a + height c) (a.columns + b.columns)
    (λ i j. if nat_lt i (height a)
    then (if nat_lt j a.columns then entry a i j else entry b i (j - a.columns))
    else (if nat_lt j a.columns then entry c (i - height a) j else entry d (i - height a) (j - a.columns)))

-- the four are quadrants of one matrix: neighbours have as many rows, or as many columns, as each other
pub record QuadrantsFit (a b c d : Matrix) : Type 0 where
  pub upper : height a ≡ height b
  pub lower : height c ≡ height d
  pub left : a.columns ≡ c.columns
  pub right : b.columns ≡ d.columns

-- a matrix completed by zeros to a square of that side
abbrev pub completed : ℕ → Matrix → Matrix
completed side m = made side side (λ i j. entry m i j)

-- a matrix is symmetric where it is its own transpose
abbrev pub IsSymmetric : Matrix → Type 0
IsSymmetric a = transposed a ≡ a

-- every number of the matrix is 0
abbrev pub IsZero : Matrix → Type 0
IsZero m = (i j : ℕ) → i < height m → j < m.columns → entry m i j ≡ pos 0

-- the peak of a matrix: the greatest absolute value of a number in it, and 0 where it has none
abbrev pub peak_of : Matrix → ℕ
peak_of m = greatest_below (height m) (λ i. greatest_below m.columns (λ j. unsigned_abs (entry m i j)))

-- the matrix of that many rows and columns whose numbers are all 0
abbrev pub zeros : ℕ → ℕ → Matrix
zeros rows columns = made rows columns (λ _ _. pos 0)

-- ---- Terms that fit

-- the n terms f 0, f 1, .. f (n - 1) fit: their absolute values are at most 2 ^ 126 together
abbrev pub TermsFit : ℕ → (ℕ → ℤ) → Type 0
TermsFit n f = magnitudes_below n f ≤ 2 ^ 126

-- at each place of the sum of a and b the two terms fit
abbrev pub SumFits : Matrix → Matrix → Type 0
SumFits a b =
    (i j : ℕ) → i < height a → j < a.columns → unsigned_abs (entry a i j) + unsigned_abs (entry b i j) ≤ 2 ^ 126

-- at each place of the product of a and b the terms fit
abbrev pub ProductFits : Matrix → Matrix → Type 0
ProductFits a b =
    (i j : ℕ) → i < height a → j < b.columns → TermsFit a.columns (λ k. entry a i k *ℤ entry b k j)

-- at each place of the product of the transpose of a with b the terms fit
abbrev pub TmulFits : Matrix → Matrix → Type 0
TmulFits a b =
    (i j : ℕ) → i < a.columns → j < b.columns → TermsFit (height a) (λ k. entry a k i *ℤ entry b k j)

-- at each place of the product of a with the transpose of b the terms fit
abbrev pub MultFits : Matrix → Matrix → Type 0
MultFits a b =
    (i j : ℕ) → i < height a → j < height b → TermsFit a.columns (λ k. entry a i k *ℤ entry b j k)

-- the terms of the trace fit
abbrev pub TraceFits : Matrix → Type 0
TraceFits a = TermsFit (height a) (λ i. entry a i i)

-- a times b and c times d may be computed and added: their terms fit, and so do the two numbers at each place of the sum
pub record PairFits (a b c d : Matrix) : Type 0 where
  pub first : ProductFits a b
  pub second : ProductFits c d
  pub together : SumFits (times a b) (times c d)

-- the transpose of a times b, and the transpose of c times d, may be computed and added
pub record TmulPairFits (a b c d : Matrix) : Type 0 where
  pub first : TmulFits a b
  pub second : TmulFits c d
  pub together : SumFits (tmul_of a b) (tmul_of c d)

-- a times the transpose of b, and c times the transpose of d, may be computed and added
pub record MultPairFits (a b c d : Matrix) : Type 0 where
  pub first : MultFits a b
  pub second : MultFits c d
  pub together : SumFits (mult_of a b) (mult_of c d)
