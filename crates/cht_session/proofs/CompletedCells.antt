-- The cells of a matrix that is completed by zeros are those of the matrix.
use Rattle.std.proofs.Common.{◌≡◌, ℕ, zero, suc, ◌+◌, ◌-◌, ◌<◌, ◌≤◌, Bool, true, false, cond, List, [], ◌∷◌, ◌++◌, length, ℤ, pos, refl, sym, ap, ap₂, ◌∙◌, arith, append_assoc, append-nil}
use Rattle.dense_def.specs.Matrix.{completed, Matrix, height, entry, IsMatrix, tabulate}
use Rattle.dense_def.proofs.Entries.{tabulate_ext, made_entry}
use Rattle.dense_def.proofs.Completed.{entry_right, entry_below}
use Rattle.mm_text.specs.declared.market.Cell.{Cell}
use Rattle.mm_text.specs.Cells.{is_zero, cells_of_row, cells_of_rows, cells_of}

-- the values up to a sum, one after another
tabulate_add : {A : Type 0} → (m n : ℕ) (f : ℕ → A) → tabulate (m + n) f ≡ tabulate m f ++ tabulate n (λ i. f (m + i))
tabulate_add {A} zero n f =
    let e : zero + n ≡ n = omega arith in
    ap (λ k. tabulate k f) e ∙ tabulate_ext n f (λ i. f (zero + i)) (λ i lt. let s : i ≡ zero + i = omega arith in ap f s)
tabulate_add {A} (suc m) n f =
    let e : suc m + n ≡ suc (m + n) = omega arith in
    ap (λ k. tabulate k f) e
    ∙ ap (λ (r : List A). f 0 ∷ r)
    (tabulate_add m n (λ i. f (suc i))
    ∙ ap (λ (ys : List A). tabulate m (λ i. f (suc i)) ++ ys)
    (tabulate_ext n (λ i. f (suc (m + i))) (λ i. f (suc m + i)) (λ i lt. let s : suc (m + i) ≡ suc m + i = omega arith in ap f s)))

append_case : (b : Bool) (c : Cell) (all front more : List Cell) → all ≡ front ++ more → cond b all (c ∷ all) ≡ cond b front (c ∷ front) ++ more
append_case true c all front more e = e
append_case false c all front more e = ap (λ cs. c ∷ cs) e

-- the cells of two pieces of a row, one behind the other
cells_append : (i j : ℕ) (xs ys : List ℤ) → cells_of_row i j (xs ++ ys) ≡ cells_of_row i j xs ++ cells_of_row i (j + length xs) ys
cells_append i j [] ys = let e : j ≡ j + 0 = omega arith in ap (λ k. cells_of_row i k ys) e
cells_append i j (x ∷ xs) ys =
    let e : j + 1 + length xs ≡ j + suc (length xs) = omega arith in
    append_case (is_zero x) (record { row = i; column = j; value = x }) (cells_of_row i (j + 1) (xs ++ ys)) (cells_of_row i (j + 1) xs)
    (cells_of_row i (j + suc (length xs)) ys)
    (cells_append i (j + 1) xs ys ∙ ap (λ k. cells_of_row i (j + 1) xs ++ cells_of_row i k ys) e)

zero_cell : (i j : ℕ) (x : ℤ) (xs : List ℤ) → x ≡ pos 0 → cells_of_row i j (x ∷ xs) ≡ cells_of_row i (j + 1) xs
zero_cell i j x xs e = ap (λ y. cells_of_row i j (y ∷ xs)) e

-- a row of zeros has no cells
cells_zero : (i j n : ℕ) (f : ℕ → ℤ) → ((k : ℕ) → k < n → f k ≡ pos 0) → cells_of_row i j (tabulate n f) ≡ []
cells_zero i j zero f none = refl
cells_zero i j (suc n) f none =
    zero_cell i j (f 0) (tabulate n (λ k. f (suc k))) (none 0 (omega arith))
    ∙ cells_zero i (j + 1) n (λ k. f (suc k)) (λ k lt. none (suc k) (omega arith))

-- a row that goes on with zeros
row_completed : (i c side : ℕ) (f : ℕ → ℤ) → c ≤ side → ((k : ℕ) → c ≤ k → f k ≡ pos 0) → cells_of_row i 1 (tabulate side f) ≡ cells_of_row i 1 (tabulate c f)
row_completed i c side f le none =
    let rest = side - c in
    let e : side ≡ c + rest = omega arith in
    ap (λ n. cells_of_row i 1 (tabulate n f)) e
    ∙ ap (cells_of_row i 1) (tabulate_add c rest f)
    ∙ cells_append i 1 (tabulate c f) (tabulate rest (λ k. f (c + k)))
    ∙ ap (λ cs. cells_of_row i 1 (tabulate c f) ++ cs) (cells_zero i (1 + length (tabulate c f)) rest (λ k. f (c + k)) (λ k lt. none (c + k) (omega arith)))
    ∙ append-nil (cells_of_row i 1 (tabulate c f))

-- rows of which some have the same cells
rows_same : (i n : ℕ) (f g : ℕ → List ℤ) → ((k : ℕ) → (i : ℕ) → cells_of_row i 1 (f k) ≡ cells_of_row i 1 (g k))
    → cells_of_rows i (tabulate n f) ≡ cells_of_rows i (tabulate n g)
rows_same i zero f g same = refl
rows_same i (suc n) f g same =
    ap₂ (λ (xs ys : List Cell). xs ++ ys) (same 0 i) (rows_same (i + 1) n (λ k. f (suc k)) (λ k. g (suc k)) (λ k. same (suc k)))

rows_none : (i n : ℕ) (f : ℕ → List ℤ) → ((k : ℕ) → (i : ℕ) → cells_of_row i 1 (f k) ≡ []) → cells_of_rows i (tabulate n f) ≡ []
rows_none i zero f none = refl
rows_none i (suc n) f none =
    ap₂ (λ (xs ys : List Cell). xs ++ ys) (none 0 i) (rows_none (i + 1) n (λ k. f (suc k)) (λ k. none (suc k)))

rows_append : (i : ℕ) (xs ys : List (List ℤ)) → cells_of_rows i (xs ++ ys) ≡ cells_of_rows i xs ++ cells_of_rows (i + length xs) ys
rows_append i [] ys = let e : i ≡ i + 0 = omega arith in ap (λ k. cells_of_rows k ys) e
rows_append i (x ∷ xs) ys =
    let e : i + 1 + length xs ≡ i + suc (length xs) = omega arith in
    ap (λ (cs : List Cell). cells_of_row i 1 x ++ cs) (rows_append (i + 1) xs ys ∙ ap (λ k. cells_of_rows (i + 1) xs ++ cells_of_rows k ys) e)
    ∙ sym (append_assoc (cells_of_row i 1 x) (cells_of_rows (i + 1) xs) (cells_of_rows (i + suc (length xs)) ys))

pub cells_completed : (side : ℕ) (m : Matrix) → IsMatrix m → height m ≤ side → m.columns ≤ side → cells_of (completed side m) ≡ cells_of m
cells_completed side m whole r c =
    let h = height m in
    let rest = side - h in
    let e : side ≡ h + rest = omega arith in
    let wide : ℕ → List ℤ = λ i. tabulate side (λ j. entry m i j) in
    let row : ℕ → List ℤ = λ i. tabulate m.columns (λ j. entry m i j) in
    let none : List Cell = [] in
    ap (λ n. cells_of_rows 1 (tabulate n wide)) e
    ∙ ap (cells_of_rows 1) (tabulate_add h rest wide)
    ∙ rows_append 1 (tabulate h wide) (tabulate rest (λ i. wide (h + i)))
    ∙ ap (λ cs. cells_of_rows 1 (tabulate h wide) ++ cs)
    (rows_none (1 + length (tabulate h wide)) rest (λ i. wide (h + i)) (λ k i. cells_zero i 1 side (λ j. entry m (h + k) j) (λ j lt. entry_below m (h + k) j (omega arith))))
    ∙ append-nil (cells_of_rows 1 (tabulate h wide))
    ∙ rows_same 1 h wide row (λ k i. row_completed i m.columns side (λ j. entry m k j) c (λ j le. entry_right m k j whole le))
    ∙ ap cells_of (sym (made_entry m whole))
