-- The cells of rows of blocks.
use Rattle.std.proofs.Common.{◌≡◌, ℕ, zero, suc, ◌+◌, ◌-◌, ◌<◌, ◌≤◌, Bool, true, false, cond, List, [], ◌∷◌, ◌++◌, length, ℤ, pos, refl, sym, ap, ◌∙◌, arith, append_assoc}
use Rattle.std.specs.Prelude.{nat_lt}
use Rattle.std.proofs.lemmas.Bool.{lt-ltb, le-ltb}
use Rattle.dense_def.specs.Matrix.{Matrix, height, entry, tabulate, joined, zeros}
use Rattle.dense_def.proofs.Entries.{length-tabulate, tabulate_ext, entry_made}
use Rattle.dense_def.proofs.RowByRow.{tabulate_more}
use Rattle.mm_text.specs.declared.market.Cell.{Cell}
use Rattle.mm_text.specs.Cells.{is_zero, cells_of_row}

-- ---- A row of a block

-- row r of a block of that side, counted from 0
abbrev pub row_of : ℕ → Matrix → ℕ → List ℤ
row_of side m r = tabulate side (λ j. entry m r j)

-- its numbers other than 0 as cells of row `number` of a matrix in which so many columns stand to the left of the block
abbrev pub row_cells : ℕ → Matrix → ℕ → ℕ → ℕ → List Cell
row_cells side m r number left = cells_of_row number (left + 1) (row_of side m r)

-- ---- Lists of values

-- the values up to a sum, one after another
pub tabulate_add : {A : Type 0} → (m n : ℕ) (f : ℕ → A) → tabulate (m + n) f ≡ tabulate m f ++ tabulate n (λ i. f (m + i))
tabulate_add {A} zero n f =
    let e : zero + n ≡ n = omega arith in
    ap (λ k. tabulate k f) e ∙ tabulate_ext n f (λ i. f (zero + i)) (λ i lt. let s : i ≡ zero + i = omega arith in ap f s)
tabulate_add {A} (suc m) n f =
    let e : suc m + n ≡ suc (m + n) = omega arith in
    ap (λ k. tabulate k f) e
    ∙ ap (λ (r : List A). f 0 ∷ r)
    (tabulate_add m n (λ i. f (suc i))
    ∙ ap (λ (ys : List A). tabulate m (λ i. f (suc i)) ++ ys)
    (tabulate_ext n (λ i. f (suc (m + i))) (λ i. f (suc m + i)) (λ i lt. let s : suc (m + i) ≡ suc m + i = omega arith in ap f s)))

-- ---- Cells of a row

append_case : (b : Bool) (c : Cell) (all front more : List Cell) → all ≡ front ++ more → cond b all (c ∷ all) ≡ cond b front (c ∷ front) ++ more
append_case true c all front more e = e
append_case false c all front more e = ap (λ cs. c ∷ cs) e

-- the cells of two pieces of a row, one behind the other
pub cells_append : (i j : ℕ) (xs ys : List ℤ) → cells_of_row i j (xs ++ ys) ≡ cells_of_row i j xs ++ cells_of_row i (j + length xs) ys
cells_append i j [] ys = let e : j ≡ j + 0 = omega arith in ap (λ k. cells_of_row i k ys) e
cells_append i j (x ∷ xs) ys =
    let e : j + 1 + length xs ≡ j + suc (length xs) = omega arith in
    append_case (is_zero x) (record { row = i; column = j; value = x }) (cells_of_row i (j + 1) (xs ++ ys)) (cells_of_row i (j + 1) xs)
    (cells_of_row i (j + suc (length xs)) ys)
    (cells_append i (j + 1) xs ys ∙ ap (λ k. cells_of_row i (j + 1) xs ++ cells_of_row i k ys) e)

zero_cell : (i j : ℕ) (x : ℤ) (xs : List ℤ) → x ≡ pos 0 → cells_of_row i j (x ∷ xs) ≡ cells_of_row i (j + 1) xs
zero_cell i j x xs e = ap (λ y. cells_of_row i j (y ∷ xs)) e

-- a row of zeros has no cells
pub cells_zero : (i j n : ℕ) (f : ℕ → ℤ) → ((k : ℕ) → k < n → f k ≡ pos 0) → cells_of_row i j (tabulate n f) ≡ []
cells_zero i j zero f none = refl
cells_zero i j (suc n) f none =
    zero_cell i j (f 0) (tabulate n (λ k. f (suc k))) (none 0 (omega arith))
    ∙ cells_zero i (j + 1) n (λ k. f (suc k)) (λ k lt. none (suc k) (omega arith))

-- one number more
pub row_grows : (i l n : ℕ) (f : ℕ → ℤ) (base cells later : List Cell) → cells ≡ base ++ cells_of_row i (l + 1) (tabulate n f)
    → later ≡ cells ++ cells_of_row i (l + n + 1) (f n ∷ []) → later ≡ base ++ cells_of_row i (l + 1) (tabulate (n + 1) f)
row_grows i l n f base cells later so_far pushed =
    let front = cells_of_row i (l + 1) (tabulate n f) in
    let e : l + n + 1 ≡ l + 1 + length (tabulate n f) = omega (arith, length-tabulate n f) in
    let joined : front ++ cells_of_row i (l + n + 1) (f n ∷ []) ≡ cells_of_row i (l + 1) (tabulate (n + 1) f) =
    ap (λ k. front ++ cells_of_row i k (f n ∷ [])) e ∙ sym (cells_append i (l + 1) (tabulate n f) (f n ∷ []))
    ∙ ap (λ xs. cells_of_row i (l + 1) xs) (sym (tabulate_more n f)) in
    pushed
    ∙ ap (λ cs. cs ++ cells_of_row i (l + n + 1) (f n ∷ [])) so_far
    ∙ append_assoc base front (cells_of_row i (l + n + 1) (f n ∷ []))
    ∙ ap (λ cs. base ++ cs) joined

-- ---- Rows of four squares joined

-- a row of zeros
pub row_of_zeros : (side r number left : ℕ) → r < side → row_cells side (zeros side side) r number left ≡ []
row_of_zeros side r number left lt =
    cells_zero number (left + 1) side (entry (zeros side side) r) (λ k in_row. entry_made side side (λ _ _. pos 0) r k lt in_row)

-- a row in two parts
pub two_parts : (side n : ℕ) (number left : ℕ) (f g h : ℕ → ℤ) → ((j : ℕ) → j < side → f j ≡ g j) → ((j : ℕ) → j < n → f (side + j) ≡ h j)
    → cells_of_row number (left + 1) (tabulate (side + n) f)
    ≡ cells_of_row number (left + 1) (tabulate side g) ++ cells_of_row number (left + side + 1) (tabulate n h)
two_parts side n number left f g h first second =
    let e : left + 1 + length (tabulate side g) ≡ left + side + 1 = omega (arith, length-tabulate side g) in
    ap (cells_of_row number (left + 1)) (tabulate_add side n f)
    ∙ ap (λ xs. cells_of_row number (left + 1) (xs ++ tabulate n (λ i. f (side + i)))) (tabulate_ext side f g first)
    ∙ ap (λ xs. cells_of_row number (left + 1) (tabulate side g ++ xs)) (tabulate_ext n (λ i. f (side + i)) h second)
    ∙ cells_append number (left + 1) (tabulate side g) (tabulate n h)
    ∙ ap (λ k. cells_of_row number (left + 1) (tabulate side g) ++ cells_of_row number k (tabulate n h)) e

-- four squares of one side
pub record AreSquares (side : ℕ) (a b c d : Matrix) : Type 0 where
  pub a_tall : height a ≡ side
  pub a_wide : a.columns ≡ side
  pub b_wide : b.columns ≡ side
  pub c_tall : height c ≡ side

-- the number in a place of the join
abbrev at_join : Matrix → Matrix → Matrix → Matrix → ℕ → ℕ → ℤ
at_join a b c d i j =
    cond (nat_lt i (height a)) (cond (nat_lt j a.columns) (entry a i j) (entry b i (j - a.columns)))
    (cond (nat_lt j a.columns) (entry c (i - height a) j) (entry d (i - height a) (j - a.columns)))

join_entry : (side : ℕ) (a b c d : Matrix) → AreSquares side a b c d → (i j : ℕ) → i < side + side → j < side + side
    → entry (joined a b c d) i j ≡ at_join a b c d i j
join_entry side a b c d squares i j lt in_row =
    entry_made (height a + height c) (a.columns + b.columns) (at_join a b c d) i j
    (omega (arith, squares.a_tall, squares.c_tall)) (omega (arith, squares.a_wide, squares.b_wide))

pub upper_left_entry : (side : ℕ) (a b c d : Matrix) → AreSquares side a b c d → (i j : ℕ) → i < side → j < side → entry (joined a b c d) i j ≡ entry a i j
upper_left_entry side a b c d s i j lt in_row =
    join_entry side a b c d s i j (omega arith) (omega arith)
    ∙ ap (λ t. cond t (cond (nat_lt j a.columns) (entry a i j) (entry b i (j - a.columns))) (cond (nat_lt j a.columns) (entry c (i - height a) j) (entry d (i - height a) (j - a.columns)))) (lt-ltb i (height a) (omega (arith, s.a_tall)))
    ∙ ap (λ t. cond t (entry a i j) (entry b i (j - a.columns))) (lt-ltb j a.columns (omega (arith, s.a_wide)))

upper_right_entry : (side : ℕ) (a b c d : Matrix) → AreSquares side a b c d → (i j : ℕ) → i < side → j < side → entry (joined a b c d) i (side + j) ≡ entry b i j
upper_right_entry side a b c d s i j lt in_row =
    let k = side + j in
    let e : k - a.columns ≡ j = omega (arith, s.a_wide) in
    join_entry side a b c d s i k (omega arith) (omega arith)
    ∙ ap (λ t. cond t (cond (nat_lt k a.columns) (entry a i k) (entry b i (k - a.columns))) (cond (nat_lt k a.columns) (entry c (i - height a) k) (entry d (i - height a) (k - a.columns)))) (lt-ltb i (height a) (omega (arith, s.a_tall)))
    ∙ ap (λ t. cond t (entry a i k) (entry b i (k - a.columns))) (le-ltb k a.columns (omega (arith, s.a_wide)))
    ∙ ap (entry b i) e

pub lower_left_entry : (side : ℕ) (a b c d : Matrix) → AreSquares side a b c d → (i j : ℕ) → side ≤ i → i < side + side → j < side → entry (joined a b c d) i j ≡ entry c (i - side) j
lower_left_entry side a b c d s i j le lt in_row =
    let e : i - height a ≡ i - side = omega (arith, s.a_tall) in
    join_entry side a b c d s i j lt (omega arith)
    ∙ ap (λ t. cond t (cond (nat_lt j a.columns) (entry a i j) (entry b i (j - a.columns))) (cond (nat_lt j a.columns) (entry c (i - height a) j) (entry d (i - height a) (j - a.columns)))) (le-ltb i (height a) (omega (arith, s.a_tall)))
    ∙ ap (λ t. cond t (entry c (i - height a) j) (entry d (i - height a) (j - a.columns))) (lt-ltb j a.columns (omega (arith, s.a_wide)))
    ∙ ap (λ r. entry c r j) e

pub lower_right_entry : (side : ℕ) (a b c d : Matrix) → AreSquares side a b c d → (i j : ℕ) → side ≤ i → i < side + side → j < side → entry (joined a b c d) i (side + j) ≡ entry d (i - side) j
lower_right_entry side a b c d s i j le lt in_row =
    let k = side + j in
    let e : i - height a ≡ i - side = omega (arith, s.a_tall) in
    let f : k - a.columns ≡ j = omega (arith, s.a_wide) in
    join_entry side a b c d s i k lt (omega arith)
    ∙ ap (λ t. cond t (cond (nat_lt k a.columns) (entry a i k) (entry b i (k - a.columns))) (cond (nat_lt k a.columns) (entry c (i - height a) k) (entry d (i - height a) (k - a.columns)))) (le-ltb i (height a) (omega (arith, s.a_tall)))
    ∙ ap (λ t. cond t (entry c (i - height a) k) (entry d (i - height a) (k - a.columns))) (le-ltb k a.columns (omega (arith, s.a_wide)))
    ∙ ap (λ r. entry d r (k - a.columns)) e ∙ ap (entry d (i - side)) f

-- a row of the upper half
pub upper_row : (side : ℕ) (a b c d : Matrix) → AreSquares side a b c d → (r number left : ℕ) → r < side
    → row_cells (side + side) (joined a b c d) r number left ≡ row_cells side a r number left ++ row_cells side b r number (left + side)
upper_row side a b c d s r number left lt =
    two_parts side side number left (entry (joined a b c d) r) (entry a r) (entry b r)
    (λ j in_row. upper_left_entry side a b c d s r j lt in_row) (λ j in_row. upper_right_entry side a b c d s r j lt in_row)

-- a row of the lower half
pub lower_row : (side : ℕ) (a b c d : Matrix) → AreSquares side a b c d → (i number left : ℕ) → i < side
    → row_cells (side + side) (joined a b c d) (side + i) number left ≡ row_cells side c i number left ++ row_cells side d i number (left + side)
lower_row side a b c d s i number left lt =
    let e : side + i - side ≡ i = omega arith in
    two_parts side side number left (entry (joined a b c d) (side + i)) (entry c i) (entry d i)
    (λ j in_row. lower_left_entry side a b c d s (side + i) j (omega arith) (omega arith) in_row ∙ ap (λ r. entry c r j) e)
    (λ j in_row. lower_right_entry side a b c d s (side + i) j (omega arith) (omega arith) in_row ∙ ap (λ r. entry d r j) e)
