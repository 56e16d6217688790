-- The cells of a whole square matrix, row by row.
use Rattle.std.proofs.Common.{◌≡◌, ℕ, zero, suc, ◌+◌, ◌-◌, ◌<◌, ◌≤◌, Bool, true, false, cond, List, [], ◌∷◌, ◌++◌, length, ℤ, refl, ap, ◌∙◌, arith, append-nil}
use Rattle.std.specs.List.{filter}
use Rattle.std.proofs.lemmas.Bool.{le-leb, lt-leb}
use Rattle.std.proofs.lemmas.List.Elements.{filter-append}
use Rattle.dense_def.specs.Matrix.{Matrix, entry, made, tabulate}
use Rattle.dense_def.proofs.Entries.{length-tabulate, made_entry}
use Rattle.leaf_blocks.specs.Block.{IsBlock}
use Rattle.mm_text.specs.declared.market.Cell.{Cell}
use Rattle.mm_text.specs.declared.market.Form.{Form}
use Rattle.mm_text.specs.declared.market.Form.TheVariants.{General, Symmetric}
use Rattle.mm_text.specs.Cells.{is_zero, is_low, cells_of_row, cells_of_rows, cells_of, cells_listed}
use Rattle.tree_entries.specs.Strips.{lists_below}
use Rattle.tree_entries.proofs.CellLists.{lists_same}
use Rattle.tree_entries.proofs.CellRows.{row_of, row_cells, tabulate_add, cells_append}
use Rattle.tree_entries.proofs.LowParts.{low_cells}

-- ---- All cells

-- the rows of a made matrix, as lists one behind the other
rows_as_lists : (n i : ℕ) (f : ℕ → List ℤ) → cells_of_rows i (tabulate n f) ≡ lists_below n (λ r. cells_of_row (i + r) 1 (f r))
rows_as_lists zero i f = refl
rows_as_lists (suc n) i f =
    let e : i ≡ i + 0 = omega arith in
    ap (λ k. cells_of_row k 1 (f 0) ++ cells_of_rows (i + 1) (tabulate n (λ r. f (suc r)))) e
    ∙ ap (λ xs. cells_of_row (i + 0) 1 (f 0) ++ xs)
    (rows_as_lists n (i + 1) (λ r. f (suc r))
    ∙ lists_same n (λ r. cells_of_row (i + 1 + r) 1 (f (suc r))) (λ r. cells_of_row (i + suc r) 1 (f (suc r)))
    (λ r lt. let s : i + 1 + r ≡ i + suc r = omega arith in ap (λ k. cells_of_row k 1 (f (suc r))) s))

-- the cells of a square matrix
whole_cells : (side : ℕ) (m : Matrix) → IsBlock side m → cells_of m ≡ lists_below side (λ r. row_cells side m r (r + 1) 0)
whole_cells side m is =
    let same : m ≡ made side side (λ i j. entry m i j) =
    made_entry m is.whole ∙ ap (λ n. made n m.columns (λ i j. entry m i j)) is.tall ∙ ap (λ n. made side n (λ i j. entry m i j)) is.wide in
    ap cells_of same
    ∙ rows_as_lists side 1 (λ r. row_of side m r)
    ∙ lists_same side (λ r. cells_of_row (1 + r) 1 (row_of side m r)) (λ r. row_cells side m r (r + 1) 0)
    (λ r lt. let e : 1 + r ≡ r + 1 = omega arith in ap (λ k. cells_of_row k 1 (row_of side m r)) e)

-- ---- Those on and below the diagonal

kept_case : (b : Bool) (c : Cell) (cells : List Cell) → is_low c ≡ true → filter is_low cells ≡ cells → filter is_low (cond b cells (c ∷ cells)) ≡ cond b cells (c ∷ cells)
kept_case true c cells low same = same
kept_case false c cells low same = ap (λ t. cond t (c ∷ filter is_low cells) (filter is_low cells)) low ∙ ap (λ cs. c ∷ cs) same

-- the cells of a row up to the diagonal are all kept
low_kept : (i j : ℕ) (xs : List ℤ) → j + length xs ≤ i + 1 → filter is_low (cells_of_row i j xs) ≡ cells_of_row i j xs
low_kept i j [] le = refl
low_kept i j (x ∷ xs) le =
    kept_case (is_zero x) (record { row = i; column = j; value = x }) (cells_of_row i (j + 1) xs) (le-leb j i (omega (arith, le)))
    (low_kept i (j + 1) xs (omega (arith, le)))

gone_case : (b : Bool) (c : Cell) (cells : List Cell) → is_low c ≡ false → filter is_low cells ≡ [] → filter is_low (cond b cells (c ∷ cells)) ≡ []
gone_case true c cells high none = none
gone_case false c cells high none = ap (λ t. cond t (c ∷ filter is_low cells) (filter is_low cells)) high ∙ none

-- and none of those behind it
low_gone : (i j : ℕ) (xs : List ℤ) → i < j → filter is_low (cells_of_row i j xs) ≡ []
low_gone i j [] lt = refl
low_gone i j (x ∷ xs) lt =
    gone_case (is_zero x) (record { row = i; column = j; value = x }) (cells_of_row i (j + 1) xs) (lt-leb j i lt) (low_gone i (j + 1) xs (omega (arith, lt)))

-- a row keeps its front
low_row : (side : ℕ) (m : Matrix) (r : ℕ) → r < side → filter is_low (row_cells side m r (r + 1) 0) ≡ low_cells m r (r + 1) 0
low_row side m r lt =
    let n = r + 1 in
    let rest = side - n in
    let f = entry m r in
    let e : side ≡ n + rest = omega (arith, lt) in
    let long = length-tabulate n f in
    ap (λ k. filter is_low (cells_of_row n (0 + 1) (tabulate k f))) e
    ∙ ap (λ xs. filter is_low (cells_of_row n (0 + 1) xs)) (tabulate_add n rest f)
    ∙ ap (filter is_low) (cells_append n (0 + 1) (tabulate n f) (tabulate rest (λ i. f (n + i))))
    ∙ filter-append is_low (cells_of_row n (0 + 1) (tabulate n f)) (cells_of_row n (0 + 1 + length (tabulate n f)) (tabulate rest (λ i. f (n + i))))
    ∙ ap (λ cs. cs ++ filter is_low (cells_of_row n (0 + 1 + length (tabulate n f)) (tabulate rest (λ i. f (n + i))))) (low_kept n (0 + 1) (tabulate n f) (omega (arith, long)))
    ∙ ap (λ cs. cells_of_row n (0 + 1) (tabulate n f) ++ cs) (low_gone n (0 + 1 + length (tabulate n f)) (tabulate rest (λ i. f (n + i))) (omega (arith, long)))
    ∙ append-nil (cells_of_row n (0 + 1) (tabulate n f))

filter_lists : (n : ℕ) (f : ℕ → List Cell) → filter is_low (lists_below n f) ≡ lists_below n (λ i. filter is_low (f i))
filter_lists zero f = refl
filter_lists (suc n) f =
    filter-append is_low (f 0) (lists_below n (λ i. f (suc i))) ∙ ap (λ cs. filter is_low (f 0) ++ cs) (filter_lists n (λ i. f (suc i)))

-- ---- In a form

-- the cells of row i that a form lists, as those of row `number`
abbrev pub row_in : Form → ℕ → Matrix → ℕ → ℕ → List Cell
row_in General side m i number = row_cells side m i number 0
row_in Symmetric side m i number = low_cells m i number 0

-- the cells that a form lists, row by row
pub listed_by_rows : (form : Form) (side : ℕ) (m : Matrix) → IsBlock side m → cells_listed form m ≡ lists_below side (λ r. row_in form side m r (r + 1))
listed_by_rows General side m is = whole_cells side m is
listed_by_rows Symmetric side m is =
    ap (filter is_low) (whole_cells side m is)
    ∙ filter_lists side (λ r. row_cells side m r (r + 1) 0)
    ∙ lists_same side (λ r. filter is_low (row_cells side m r (r + 1) 0)) (λ r. low_cells m r (r + 1) 0) (λ r lt. low_row side m r lt)

-- ---- How many

length_case : (b : Bool) (c : Cell) (cells : List Cell) (n : ℕ) → length cells ≤ n → length (cond b cells (c ∷ cells)) ≤ suc n
length_case true c cells n le = omega (arith, le)
length_case false c cells n le = omega (arith, le)

row_length : (i j : ℕ) (xs : List ℤ) → length (cells_of_row i j xs) ≤ length xs
row_length i j [] = omega arith
row_length i j (x ∷ xs) = length_case (is_zero x) (record { row = i; column = j; value = x }) (cells_of_row i (j + 1) xs) (length xs) (row_length i (j + 1) xs)

-- a row has at most as many cells as columns
pub row_in_length : (form : Form) (side : ℕ) (m : Matrix) (i number : ℕ) → i < side → length (row_in form side m i number) ≤ side
row_in_length General side m i number lt =
    omega (arith, row_length number (0 + 1) (row_of side m i), length-tabulate side (λ j. entry m i j))
row_in_length Symmetric side m i number lt =
    omega (arith, row_length number (0 + 1) (tabulate (i + 1) (entry m i)), length-tabulate (i + 1) (entry m i), lt)
