-- The numbers of a matrix that is made from a list of cells are those cells.
use Rattle.std.proofs.Common.{◌≡◌, ◌⊎◌, inl, inr, ℕ, zero, suc, ◌+◌, ◌<◌, ◌≤◌, false, List, [], ◌∷◌, ◌++◌, refl, sym, ap, ◌∙◌, ℤ, pos, arith}
use Rattle.std.specs.Prelude.{◌==◌, ◌&&◌, if◌then◌else◌}
use Rattle.std.proofs.lemmas.Bool.{cases_eq}
use Rattle.std.proofs.lemmas.Bool.Decides.{nat_tests}
use Rattle.dense_def.specs.Matrix.{tabulate, made}
use Rattle.mm_text.specs.declared.market.Cell.{Cell}
use Rattle.mm_text.specs.Cells.{is_zero, cells_of_row, cells_of_rows, cells_of}

-- the value of the first cell with that row and column, which count from 1, and 0 where there is none
abbrev pub cell_at : List Cell → ℕ → ℕ → ℤ
cell_at [] i j = pos 0
cell_at (c ∷ cells) i j = if c.row == i && c.column == j then c.value else cell_at cells i j

-- each cell stands before the next: in an earlier row, or in the same row and an earlier column
abbrev pub AreRising : List Cell → Type 0
AreRising [] = Unit {0}
AreRising (c ∷ []) = Unit {0}
AreRising (c ∷ d ∷ cells) = ((c.row < d.row) ⊎ ((c.row ≡ d.row) × (c.column < d.column))) × AreRising (d ∷ cells)

-- each cell is a place of a matrix of that many rows and columns, which count from 1
abbrev pub AreWithin : ℕ → ℕ → List Cell → Type 0
AreWithin rows columns [] = Unit {0}
AreWithin rows columns (c ∷ cells) =
    (1 ≤ c.row) × (c.row ≤ rows) × (1 ≤ c.column) × (c.column ≤ columns) × AreWithin rows columns cells

-- no cell has the value 0
abbrev pub AreNonZero : List Cell → Type 0
AreNonZero [] = Unit {0}
AreNonZero (c ∷ cells) = (is_zero c.value ≡ false) × AreNonZero cells

-- the place in row a and column b stands before that in row i and column j
abbrev Before : ℕ → ℕ → ℕ → ℕ → Type 0
Before a b i j = (a < i) ⊎ ((a ≡ i) × (b < j))

-- a cell at row i and column j or after it, within a matrix, and not zero
record IsCellFrom (rows columns i j : ℕ) (c : Cell) : Type 0 where
  place : (i < c.row) ⊎ ((i ≡ c.row) × (j ≤ c.column))
  low : c.row ≤ rows
  first : 1 ≤ c.column
  last : c.column ≤ columns
  nonzero : is_zero c.value ≡ false

-- cells from row i and column j on, each after the one before it
abbrev AreFrom : ℕ → ℕ → ℕ → ℕ → List Cell → Type 0
AreFrom rows columns i j [] = Unit {0}
AreFrom rows columns i j (c ∷ cells) = IsCellFrom rows columns i j c × AreFrom rows columns c.row (c.column + 1) cells

-- where a cell is not, and where it is
cell_at-other : (c : Cell) (cells : List Cell) (a b : ℕ) → Before a b c.row c.column → cell_at (c ∷ cells) a b ≡ cell_at cells a b
cell_at-other c cells a b before = grind (arith, nat_tests)

cell_at-after : (c : Cell) (cells : List Cell) (a b : ℕ) → Before c.row c.column a b → cell_at (c ∷ cells) a b ≡ cell_at cells a b
cell_at-after c cells a b before = grind (arith, nat_tests)

cell_at-here : (c : Cell) (cells : List Cell) (a b : ℕ) → a ≡ c.row → b ≡ c.column → cell_at (c ∷ cells) a b ≡ c.value
cell_at-here c cells a b row column = grind (arith, nat_tests)

-- no cell stands before the place that all of them are from
cell_at-before : (rows columns i j : ℕ) (cells : List Cell) → AreFrom rows columns i j cells → (a b : ℕ) → Before a b i j → cell_at cells a b ≡ pos 0
cell_at-before rows columns i j [] from a b before = refl
cell_at-before rows columns i j (c ∷ cells) from a b before =
    let place = from.0.place in
    cell_at-other c cells a b (grind arith) ∙ cell_at-before rows columns c.row (c.column + 1) cells from.1 a b (grind arith)

-- cells none of which stands at a place are cells from the next place on
AreFrom-next_column : (rows columns i j : ℕ) (c : Cell) (cells : List Cell) → AreFrom rows columns i j (c ∷ cells)
    → (i < c.row) ⊎ ((i ≡ c.row) × (j < c.column)) → AreFrom rows columns i (j + 1) (c ∷ cells)
AreFrom-next_column rows columns i j c cells from later =
    (record { place = grind arith; low = from.0.low; first = from.0.first; last = from.0.last; nonzero = from.0.nonzero }, from.1)

-- past the last column they are cells from the next row on
AreFrom-next_row : (rows columns i j : ℕ) (cells : List Cell) → columns < j → AreFrom rows columns i j cells → AreFrom rows columns (i + 1) 1 cells
AreFrom-next_row rows columns i j [] past from = tt
AreFrom-next_row rows columns i j (c ∷ cells) past from =
    let place = from.0.place in
    let last = from.0.last in
    let first = from.0.first in
    (record { place = grind arith; low = from.0.low; first = from.0.first; last = from.0.last; nonzero = from.0.nonzero }, from.1)

-- past the last row there are none
AreFrom-none : (rows columns i j : ℕ) (cells : List Cell) → rows < i → AreFrom rows columns i j cells → cells ≡ []
AreFrom-none rows columns i j [] past from = refl
AreFrom-none rows columns i j (c ∷ cells) past from =
    let place = from.0.place in
    let low = from.0.low in
    let none : ⊥ = grind arith in absurd none

-- a row read from column j on: where a number is 0 and where it is not
row-zero : (i j : ℕ) (x : ℤ) (xs : List ℤ) → x ≡ pos 0 → cells_of_row i j (x ∷ xs) ≡ cells_of_row i (j + 1) xs
row-zero i j x xs e = rw e refl

same_cell : (c : Cell) (i j : ℕ) → i ≡ c.row → j ≡ c.column → record { row = i; column = j; value = c.value } ≡ c
same_cell c i j row column = rw (row, column) refl

row-cell : (i j : ℕ) (c : Cell) (x : ℤ) (xs : List ℤ) → i ≡ c.row → j ≡ c.column → x ≡ c.value → is_zero c.value ≡ false
    → cells_of_row i j (x ∷ xs) ≡ c ∷ cells_of_row i (j + 1) xs
row-cell i j c x xs row column value nonzero = rw (value, nonzero) (ap (λ d. d ∷ cells_of_row i (j + 1) xs) (same_cell c i j row column))

-- what follows row i is given by the cells that stand behind it
abbrev Follows : ℕ → ℕ → ℕ → List Cell → List Cell → Type 0
Follows rows columns i cells rest =
    (behind : List Cell) → AreFrom rows columns (i + 1) 1 behind
    → ((a b : ℕ) → i < a → cell_at behind a b ≡ cell_at cells a b) → rest ≡ behind

Follows-tail : (rows columns i : ℕ) (c : Cell) (cells rest : List Cell) → i ≡ c.row → Follows rows columns i (c ∷ cells) rest → Follows rows columns i cells rest
Follows-tail rows columns i c cells rest row follows behind from same =
    follows behind from (λ a b lt. same a b lt ∙ sym (cell_at-after c cells a b (inl (omega arith))))

-- a row from column j on, and what follows it
walk_row : (rows columns i : ℕ) (rest : List Cell) (n j : ℕ) (g : ℕ → ℤ) (cells : List Cell)
    → j + n ≡ columns + 1 → AreFrom rows columns i j cells → ((k : ℕ) → g k ≡ cell_at cells i (j + k)) → Follows rows columns i cells rest
    → cells_of_row i j (tabulate n g) ++ rest ≡ cells
walk_row rows columns i rest zero j g cells reach from values follows =
    follows cells (AreFrom-next_row rows columns i j cells (omega arith) from) (λ a b lt. refl)
walk_row rows columns i rest (suc n) j g [] reach from values follows =
    rw (values 0) (walk_row rows columns i rest n (j + 1) (λ k. g (suc k)) [] (omega arith) tt (λ k. values (suc k)) follows)
walk_row rows columns i rest (suc n) j g (c ∷ cells) reach from values follows =
    let skip : (i < c.row) ⊎ ((i ≡ c.row) × (j < c.column)) → cells_of_row i j (tabulate (suc n) g) ++ rest ≡ c ∷ cells = λ later.
    let next = AreFrom-next_column rows columns i j c cells from later in
    let none = values 0 ∙ cell_at-before rows columns i (j + 1) (c ∷ cells) next i (j + 0) (inr (refl, omega arith)) in
    rw none (walk_row rows columns i rest n (j + 1) (λ k. g (suc k)) (c ∷ cells) (omega arith) next (λ k. values (suc k) ∙ ap (cell_at (c ∷ cells) i) (omega arith)) follows) in
    let here : i ≡ c.row → j ≡ c.column → cells_of_row i j (tabulate (suc n) g) ++ rest ≡ c ∷ cells = λ row column.
    let value = values 0 ∙ cell_at-here c cells i (j + 0) row (omega arith) in
    let after = rw (← row, ← column) at from.1 in
    ap (λ xs. xs ++ rest) (row-cell i j c (g 0) (tabulate n (λ k. g (suc k))) row column value from.0.nonzero)
    ∙ ap (λ xs. c ∷ xs) (walk_row rows columns i rest n (j + 1) (λ k. g (suc k)) cells (omega arith) after
    (λ k. values (suc k) ∙ (ap (cell_at (c ∷ cells) i) (omega arith) ∙ cell_at-after c cells i (j + 1 + k) (inr (sym row, omega arith))))
    (Follows-tail rows columns i c cells rest row follows)) in
    elim from.0.place [
      | inl lower ↦ skip (inl lower)
      | inr at ↦ elim (cases_eq j c.column) [ inl column ↦ here at.0 column | inr other ↦ skip (inr (at.0, omega arith)) ]
    ]

-- the rows from row i on
walk_rows : (rows columns n i : ℕ) (g : ℕ → ℕ → ℤ) (cells : List Cell)
    → i + n ≡ rows + 1 → AreFrom rows columns i 1 cells → ((k j : ℕ) → g k j ≡ cell_at cells (i + k) (1 + j))
    → cells_of_rows i (tabulate n (λ k. tabulate columns (λ j. g k j))) ≡ cells
walk_rows rows columns zero i g cells reach from values = sym (AreFrom-none rows columns i 1 cells (omega arith) from)
walk_rows rows columns (suc n) i g cells reach from values =
    walk_row rows columns i (cells_of_rows (i + 1) (tabulate n (λ k. tabulate columns (λ j. g (suc k) j)))) columns 1 (g 0) cells
    (omega arith) from
    (λ j. values 0 j ∙ ap (λ a. cell_at cells a (1 + j)) (omega arith))
    (λ behind after same.
    walk_rows rows columns n (i + 1) (λ k. g (suc k)) behind (omega arith) after
    (λ k j. values (suc k) j ∙ (ap (λ a. cell_at cells a (1 + j)) (omega arith) ∙ sym (same (i + 1 + k) (1 + j) (omega arith)))))

-- cells in order, within a matrix and not zero, are cells from its first place on
AreFrom-start : (rows columns : ℕ) (c : Cell) (cells : List Cell) (i j : ℕ) → (i < c.row) ⊎ ((i ≡ c.row) × (j ≤ c.column))
    → AreRising (c ∷ cells) → AreWithin rows columns (c ∷ cells) → AreNonZero (c ∷ cells) → AreFrom rows columns i j (c ∷ cells)
AreFrom-start rows columns c [] i j place rising within nonzero =
    (record { place = place; low = within.1; first = within.2; last = within.3; nonzero = nonzero.0 }, tt)
AreFrom-start rows columns c (d ∷ cells) i j place rising within nonzero =
    let next = rising.0 in (
      record { place = place; low = within.1; first = within.2; last = within.3; nonzero = nonzero.0 },
      AreFrom-start rows columns d cells c.row (c.column + 1) (grind arith) rising.1 within.4 nonzero.1,
    )

AreFrom-all : (rows columns : ℕ) (cells : List Cell) → AreRising cells → AreWithin rows columns cells → AreNonZero cells → AreFrom rows columns 1 1 cells
AreFrom-all rows columns [] rising within nonzero = tt
AreFrom-all rows columns (c ∷ cells) rising within nonzero =
    let row = within.0 in
    let column = within.2 in
    AreFrom-start rows columns c cells 1 1 (grind arith) rising within nonzero

-- cells in order, other than zero and within a matrix, are the cells of the matrix whose numbers they give
pub cells_of_made : (rows columns : ℕ) (f : ℕ → ℕ → ℤ) (cells : List Cell)
    → AreRising cells → AreWithin rows columns cells → AreNonZero cells
    → ((i j : ℕ) → cell_at cells i j ≡ f i j)
    → cells_of (made rows columns (λ i j. f (i + 1) (j + 1))) ≡ cells
cells_of_made rows columns f cells rising within nonzero values =
    walk_rows rows columns rows 1 (λ k j. f (k + 1) (j + 1)) cells (omega arith) (AreFrom-all rows columns cells rising within nonzero)
    (λ k j. sym (values (k + 1) (j + 1)) ∙ (ap (λ a. cell_at cells a (j + 1)) (omega arith) ∙ ap (cell_at cells (1 + k)) (omega arith)))
