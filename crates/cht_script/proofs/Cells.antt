-- A matrix is given by its cells: the numbers that are not zero.
use Rattle.std.proofs.Common.{◌≡◌, ℕ, zero, suc, ◌+◌, ◌<◌, ◌≤◌, true, false, List, [], ◌∷◌, ◌++◌, refl, sym, ap, ◌∙◌, inl, inr, ℤ, pos, negsuc, arith}
use Rattle.std.specs.Prelude.{◌==◌, ◌&&◌, if◌then◌else◌}
use Rattle.std.proofs.lemmas.Bool.{cases_Bool, true≢false, eqb-true}
use Rattle.std.proofs.lemmas.Bool.Decides.{nat_tests}
use Rattle.std.specs.List.{filter}
use Rattle.dense_def.specs.Matrix.{tabulate, made}
use Rattle.mm_text.specs.declared.market.Cell.{Cell}
use Rattle.mm_text.specs.declared.market.Entry.{Entry}
use Rattle.mm_text.specs.Block.{names, value_at}
use Rattle.mm_text.specs.Cells.{is_zero, cells_of_row, cells_of_rows, cells_of, is_low, entry_cells}

-- the value of the first cell in this row and column, and 0 where there is none
abbrev pub look : List Cell → ℕ → ℕ → ℤ
look [] i j = pos 0
look (c ∷ cells) i j = if c.row == i && c.column == j then c.value else look cells i j

-- a cell of another place, and of this one
look-other_row : (c : Cell) (cells : List Cell) (i j : ℕ) → (c.row ≡ i → ⊥) → look (c ∷ cells) i j ≡ look cells i j
look-other_row c cells i j other = grind (arith, nat_tests)

look-other_column : (c : Cell) (cells : List Cell) (i j : ℕ) → (c.column ≡ j → ⊥) → look (c ∷ cells) i j ≡ look cells i j
look-other_column c cells i j other = grind (arith, nat_tests)

look-here : (c : Cell) (cells : List Cell) (i j : ℕ) → c.row ≡ i → c.column ≡ j → look (c ∷ cells) i j ≡ c.value
look-here c cells i j row column = grind (arith, nat_tests)

-- a cell above the diagonal is of no place on or below it
look-above : (c : Cell) (cells : List Cell) (i j : ℕ) → j ≤ i → is_low c ≡ false → look (c ∷ cells) i j ≡ look cells i j
look-above c cells i j le high = grind (arith, nat_tests)

-- entries give what their cells give
value_at-cells : (entries : List Entry) (i j : ℕ) → value_at entries i j ≡ look (entry_cells entries) i j
value_at-cells [] i j = refl
value_at-cells (e ∷ entries) i j = ap (λ rest. if names i j e then e.value else rest) (value_at-cells entries i j)

zero_is : (z : ℤ) → is_zero z ≡ true → pos 0 ≡ z
zero_is (pos n) h = ap pos (sym (eqb-true n 0 h))
zero_is (negsuc n) h = absurd (true≢false (sym h))

-- ---- One row, in front of other cells

row-other : (i j : ℕ) (xs : List ℤ) (rest : List Cell) (a b : ℕ) → (i ≡ a → ⊥) → look (cells_of_row i j xs ++ rest) a b ≡ look rest a b
row-other i j [] rest a b other = refl
row-other i j (x ∷ xs) rest a b other =
    let tail = row-other i (j + 1) xs rest a b other in
    elim (cases_Bool (is_zero x)) [
      | inl none ↦ rw none tail
      | inr some ↦ rw some (look-other_row (record { row = i; column = j; value = x }) (cells_of_row i (j + 1) xs ++ rest) a b other ∙ tail)
    ]

row-before : (i j : ℕ) (xs : List ℤ) (rest : List Cell) (b : ℕ) → b < j → look (cells_of_row i j xs ++ rest) i b ≡ look rest i b
row-before i j [] rest b lt = refl
row-before i j (x ∷ xs) rest b lt =
    let tail = row-before i (j + 1) xs rest b (omega arith) in
    elim (cases_Bool (is_zero x)) [
      | inl none ↦ rw none tail
      | inr some ↦ rw some (look-other_column (record { row = i; column = j; value = x }) (cells_of_row i (j + 1) xs ++ rest) i b (λ e. omega arith) ∙ tail)
    ]

row-here : (i n j : ℕ) (g : ℕ → ℤ) (rest : List Cell) (k b : ℕ) → k < n → b ≡ j + k → ((b : ℕ) → look rest i b ≡ pos 0) → look (cells_of_row i j (tabulate n g) ++ rest) i b ≡ g k
row-here i zero j g rest k b lt at none = absurd (omega arith)
row-here i (suc n) j g rest zero b lt at none =
    let xs = tabulate n (λ k. g (suc k)) in
    elim (cases_Bool (is_zero (g 0))) [
      | inl empty ↦ rw empty (row-before i (j + 1) xs rest b (omega arith) ∙ (none b ∙ zero_is (g 0) empty))
      | inr some ↦ rw some (look-here (record { row = i; column = j; value = g 0 }) (cells_of_row i (j + 1) xs ++ rest) i b refl (omega arith))
    ]
row-here i (suc n) j g rest (suc k) b lt at none =
    let xs = tabulate n (λ k. g (suc k)) in
    let tail = row-here i n (j + 1) (λ k. g (suc k)) rest k b (omega arith) (omega arith) none in
    elim (cases_Bool (is_zero (g 0))) [
      | inl empty ↦ rw empty tail
      | inr some ↦ rw some (look-other_column (record { row = i; column = j; value = g 0 }) (cells_of_row i (j + 1) xs ++ rest) i b (λ e. omega arith) ∙ tail)
    ]

-- ---- All rows

rows-before : (i : ℕ) (rows : List (List ℤ)) (a b : ℕ) → a < i → look (cells_of_rows i rows) a b ≡ pos 0
rows-before i [] a b lt = refl
rows-before i (row ∷ rows) a b lt =
    row-other i 1 row (cells_of_rows (i + 1) rows) a b (λ e. omega arith) ∙ rows-before (i + 1) rows a b (omega arith)

rows-here : (columns n i : ℕ) (g : ℕ → ℕ → ℤ) (k j a b : ℕ) → k < n → j < columns → a ≡ i + k → b ≡ 1 + j
    → look (cells_of_rows i (tabulate n (λ k. tabulate columns (λ j. g k j)))) a b ≡ g k j
rows-here columns zero i g k j a b lt within row column = absurd (omega arith)
rows-here columns (suc n) i g zero j a b lt within row column =
    let rest = cells_of_rows (i + 1) (tabulate n (λ k. tabulate columns (λ j. g (suc k) j))) in
    let same : a ≡ i = omega arith in
    rw same (row-here i columns 1 (g 0) rest j b within column (λ b. rows-before (i + 1) (tabulate n (λ k. tabulate columns (λ j. g (suc k) j))) i b (omega arith)))
rows-here columns (suc n) i g (suc k) j a b lt within row column =
    let rest = cells_of_rows (i + 1) (tabulate n (λ k. tabulate columns (λ j. g (suc k) j))) in
    row-other i 1 (tabulate columns (λ j. g 0 j)) rest a b (λ e. omega arith)
    ∙ rows-here columns n (i + 1) (λ k. g (suc k)) k j a b (omega arith) within (omega arith) column

-- the numbers of a matrix are those of its cells
pub value_at-made : (rows columns : ℕ) (f : ℕ → ℕ → ℤ) (entries : List Entry) → entry_cells entries ≡ cells_of (made rows columns f)
    → (i j : ℕ) → i < rows → j < columns → value_at entries (i + 1) (j + 1) ≡ f i j
value_at-made rows columns f entries same i j row column =
    value_at-cells entries (i + 1) (j + 1)
    ∙ (ap (λ cells. look cells (i + 1) (j + 1)) same ∙ rows-here columns rows 1 f i j (i + 1) (j + 1) row column (omega arith) (omega arith))

-- ---- On and below the diagonal

look-low : (cells : List Cell) (i j : ℕ) → j ≤ i → look (filter is_low cells) i j ≡ look cells i j
look-low [] i j le = refl
look-low (c ∷ cells) i j le =
    let tail = look-low cells i j le in
    elim (cases_Bool (is_low c)) [
      | inl low ↦ rw low (ap (λ rest. if c.row == i && c.column == j then c.value else rest) tail)
      | inr high ↦ rw high (tail ∙ sym (look-above c cells i j le high))
    ]

-- the numbers of a matrix on and below the diagonal are those of its cells there
pub value_at-low : (rows columns : ℕ) (f : ℕ → ℕ → ℤ) (entries : List Entry) → entry_cells entries ≡ filter is_low (cells_of (made rows columns f))
    → (i j : ℕ) → i < rows → j < columns → j ≤ i → value_at entries (i + 1) (j + 1) ≡ f i j
value_at-low rows columns f entries same i j row column le =
    value_at-cells entries (i + 1) (j + 1)
    ∙ (ap (λ cells. look cells (i + 1) (j + 1)) same
    ∙ (look-low (cells_of (made rows columns f)) (i + 1) (j + 1) (omega arith)
    ∙ rows-here columns rows 1 f i j (i + 1) (j + 1) row column (omega arith) (omega arith)))
