-- The entries that were read, in order and without zeros, are the numbers of the matrix of the block.
use Rattle.std.proofs.Common.{◌≡◌, ◌⊎◌, inl, inr, ℕ, zero, suc, ◌+◌, ◌^◌, ◌<◌, ◌≤◌, max, min, true, false, cond, leb, ltb, eqb, List, [], ◌∷◌, ◌++◌, IsPermutation, ℤ, pos, negsuc, refl, sym, ap, ◌∙◌, subst, arith}
use Rattle.std.specs.List.{filter, AllByRecursion}
use Rattle.std.proofs.lemmas.Bool.{cases_Bool, cases_order, cases_lt, cond_both, cond-true, cond-false, and_parts, leb-true, le-leb, lt-leb, ltb-true, ltb-false, eqb-true, true≢false, not-true, false_from_ne_true}
use Rattle.std.proofs.lemmas.List.Elements.{All-from_recursion, recursion_from_All, filter-append}
use Rattle.std.proofs.lemmas.List.Sorted.{All-permutation}
use Rattle.dense_def.specs.Matrix.{tabulate, made}
use Rattle.mm_text.specs.declared.market.Cell.{Cell}
use Rattle.mm_text.specs.declared.market.Entry.{Entry}
use Rattle.mm_text.specs.declared.market.Form.{Form}
use Rattle.mm_text.specs.declared.market.Form.TheVariants.{General, Symmetric}
use Rattle.mm_text.specs.Block.{Sizes, lies_within, natural, entry_from, is_inside, is_above, names, value_at, number_listed, matrix_of}
use Rattle.mm_text.specs.Cells.{is_zero, cells_of_row, cells_of_rows, cells_of, is_low, cells_listed, entry_cells}
use Rattle.mm_text.specs.Places.{have_no_repeats, place_of, rise, is_number}
use Rattle.mm_text.proofs.CellsMade.{cell_at, AreRising, AreWithin, AreNonZero, cells_of_made}
use Rattle.mm_text.proofs.Values.{value_at-IsPermutation, value_at-numbers, cell_at-entries, zero_is}
use Rattle.mm_text.proofs.Order.{apart-IsPermutation}

-- ---- Within the matrix

-- an entry is a place of the matrix
pub record IsWithin (sizes : Sizes) (e : Entry) : Type 0 where
  pub first_row : 1 ≤ e.row
  pub last_row : e.row ≤ sizes.rows
  pub first_column : 1 ≤ e.column
  pub last_column : e.column ≤ sizes.columns

within : (low high : ℕ) (z : ℤ) → lies_within low high z ≡ true → (low ≤ natural z) × (natural z ≤ high)
within low high (pos n) h = let p = and_parts _ _ h in (leb-true low n p.0, leb-true n high p.1)
within low high (negsuc n) h = absurd (true≢false (sym h))

pub inside-within : (sizes : Sizes) (n : ℤ × ℤ × ℤ) (e : Entry) → e ≡ entry_from n → is_inside sizes n ≡ true → IsWithin sizes e
inside-within sizes n e is h =
    let p = and_parts _ _ h in
    let row = within 1 sizes.rows n.0 p.0 in
    let column = within 1 sizes.columns n.1 p.1 in
    subst (IsWithin sizes) (sym is) (record { first_row = row.0; last_row = row.1; first_column = column.0; last_column = column.1 })

within-IsPermutation : (sizes : Sizes) (es fs : List Entry) → IsPermutation es fs → AllByRecursion (IsWithin sizes) es → AllByRecursion (IsWithin sizes) fs
within-IsPermutation sizes es fs p h =
    recursion_from_All (IsWithin sizes) fs (All-permutation (IsWithin sizes) es fs p (All-from_recursion (IsWithin sizes) es h))

within-numbers : (sizes : Sizes) (es : List Entry) → AllByRecursion (IsWithin sizes) es → AllByRecursion (IsWithin sizes) (filter is_number es)
within-numbers sizes [] h = tt
within-numbers sizes (e ∷ es) h =
    let rest = within-numbers sizes es h.1 in
    cond_both (is_number e) (e ∷ filter is_number es) (filter is_number es) (AllByRecursion (IsWithin sizes)) (λ _. (h.0, rest)) (λ _. rest)

cells-within : (sizes : Sizes) (es : List Entry) → AllByRecursion (IsWithin sizes) es → AreWithin sizes.rows sizes.columns (entry_cells es)
cells-within sizes [] h = tt
cells-within sizes (e ∷ es) h = (h.0.first_row, h.0.last_row, h.0.first_column, h.0.last_column, cells-within sizes es h.1)

-- ---- Other than zero

cells-numbers : (es : List Entry) → AreNonZero (entry_cells (filter is_number es))
cells-numbers [] = tt
cells-numbers (e ∷ es) =
    let rest = cells-numbers es in
    cond_both (is_number e) (e ∷ filter is_number es) (filter is_number es) (λ xs. AreNonZero (entry_cells xs)) (λ h. (not-true (is_zero e.value) h, rest)) (λ _. rest)

-- ---- In order

-- the places rise, and none lies before k
abbrev RiseFrom : ℕ → List Entry → Type 0
RiseFrom k [] = Unit {0}
RiseFrom k (e ∷ es) = (k ≤ place_of e) × RiseFrom (place_of e + 1) es

RiseFrom-rise : (e : Entry) (es : List Entry) → rise (e ∷ es) ≡ true → RiseFrom (place_of e + 1) es
RiseFrom-rise e [] h = tt
RiseFrom-rise e (f ∷ es) h = let p = and_parts _ _ h in (let lt = ltb-true (place_of e) (place_of f) p.0 in omega arith, RiseFrom-rise f es p.1)

RiseFrom-all : (es : List Entry) → rise es ≡ true → RiseFrom 0 es
RiseFrom-all [] h = tt
RiseFrom-all (e ∷ es) h = (omega arith, RiseFrom-rise e es h)

RiseFrom-before : (j k : ℕ) (es : List Entry) → j ≤ k → RiseFrom k es → RiseFrom j es
RiseFrom-before j k [] le h = tt
RiseFrom-before j k (e ∷ es) le h = (omega (arith, h.0), h.1)

RiseFrom-numbers : (k : ℕ) (es : List Entry) → RiseFrom k es → RiseFrom k (filter is_number es)
RiseFrom-numbers k [] h = tt
RiseFrom-numbers k (e ∷ es) h =
    let rest = RiseFrom-numbers (place_of e + 1) es h.1 in
    cond_both (is_number e) (e ∷ filter is_number es) (filter is_number es) (RiseFrom k) (λ _. (h.0, rest)) (λ _. RiseFrom-before k (place_of e + 1) (filter is_number es) (omega (arith, h.0)) rest)

later : (e f : Entry) → place_of e + 1 ≤ place_of f → e.column < 2 ^ 32 → f.column < 2 ^ 32 → (e.row < f.row) ⊎ ((e.row ≡ f.row) × (e.column < f.column))
later e f lt low_e low_f =
    elim (cases_order e.row f.row) [
      | inl same ↦ inr (same, omega arith)
      | inr apart ↦ elim apart [ inl before ↦ inl before | inr after ↦ absurd (omega arith) ]
    ]

cells-rising : (k : ℕ) (sizes : Sizes) (es : List Entry) → sizes.columns < 2 ^ 32 → AllByRecursion (IsWithin sizes) es → RiseFrom k es → AreRising (entry_cells es)
cells-rising k sizes [] narrow h r = tt
cells-rising k sizes (e ∷ []) narrow h r = tt
cells-rising k sizes (e ∷ f ∷ es) narrow h r =
    (later e f r.1.0 (omega (arith, h.0.last_column)) (omega (arith, h.1.0.last_column)), cells-rising (place_of e + 1) sizes (f ∷ es) narrow h.1 r.1)

-- ---- The part on and below the diagonal

-- a number on or below the diagonal, and 0 above it
abbrev Low : (ℕ → ℕ → ℤ) → ℕ → ℕ → ℤ
Low f i j = cond (leb j i) (f i j) (pos 0)

abbrev cell : ℕ → ℕ → ℤ → Cell
cell i j x = record { row = i; column = j; value = x }

low_first : (i j : ℕ) (x y : ℤ) (xs : List ℤ) (cells : List Cell) → y ≡ cond (leb j i) x (pos 0) → cells ≡ filter is_low (cells_of_row i (j + 1) xs)
    → filter is_low (cells_of_row i j (x ∷ xs)) ≡ cond (is_zero y) cells (cell i j y ∷ cells)
low_first i j x y xs cells is rest =
    let others = cells_of_row i (j + 1) xs in
    let skipped : y ≡ pos 0 → cond (is_zero y) cells (cell i j y ∷ cells) ≡ cells = λ none. ap (λ z. cond (is_zero z) cells (cell i j z ∷ cells)) none in
    elim (cases_Bool (is_zero x)) [
      | inl nothing ↦
          let none : y ≡ pos 0 = is ∙ cond_both (leb j i) x (pos 0) (λ z. z ≡ pos 0) (λ _. zero_is x nothing) (λ _. refl) in
          ap (filter is_low) (cond-true (is_zero x) others (cell i j x ∷ others) nothing) ∙ sym rest ∙ sym (skipped none)
      | inr number ↦
          ap (filter is_low) (cond-false (is_zero x) others (cell i j x ∷ others) number)
          ∙ elim (cases_Bool (leb j i)) [
            | inl low ↦
                let same : y ≡ x = is ∙ cond-true (leb j i) x (pos 0) low in
                cond-true (leb j i) (cell i j x ∷ filter is_low others) (filter is_low others) low
                ∙ ap (λ xs. cell i j x ∷ xs) (sym rest)
                ∙ sym (ap (λ z. cond (is_zero z) cells (cell i j z ∷ cells)) same ∙ cond-false (is_zero x) cells (cell i j x ∷ cells) number)
            | inr above ↦
                let none : y ≡ pos 0 = is ∙ cond-false (leb j i) x (pos 0) above in
                cond-false (leb j i) (cell i j x ∷ filter is_low others) (filter is_low others) above ∙ sym rest ∙ sym (skipped none)
          ]
    ]

low_row : (n i j : ℕ) (g h : ℕ → ℤ) → ((k : ℕ) → h k ≡ cond (leb (j + k) i) (g k) (pos 0)) → filter is_low (cells_of_row i j (tabulate n g)) ≡ cells_of_row i j (tabulate n h)
low_row zero i j g h is = refl
low_row (suc n) i j g h is =
    let here : h 0 ≡ cond (leb j i) (g 0) (pos 0) = is 0 ∙ ap (λ m. cond (leb m i) (g 0) (pos 0)) (omega arith) in
    let rest = low_row n i (j + 1) (λ k. g (suc k)) (λ k. h (suc k)) (λ k. is (suc k) ∙ ap (λ m. cond (leb m i) (g (suc k)) (pos 0)) (omega arith)) in
    low_first i j (g 0) (h 0) (tabulate n (λ k. g (suc k))) (cells_of_row i (j + 1) (tabulate n (λ k. h (suc k)))) here (sym rest)

low_rows : (n columns i : ℕ) (g h : ℕ → ℕ → ℤ) → ((k j : ℕ) → h k j ≡ cond (leb (1 + j) (i + k)) (g k j) (pos 0))
    → filter is_low (cells_of_rows i (tabulate n (λ k. tabulate columns (λ j. g k j)))) ≡ cells_of_rows i (tabulate n (λ k. tabulate columns (λ j. h k j)))
low_rows zero columns i g h is = refl
low_rows (suc n) columns i g h is =
    let first = low_row columns i 1 (λ j. g 0 j) (λ j. h 0 j) (λ j. is 0 j ∙ ap (λ m. cond (leb (1 + j) m) (g 0 j) (pos 0)) (omega arith)) in
    let rest = low_rows n columns (i + 1) (λ k j. g (suc k) j) (λ k j. h (suc k) j) (λ k j. is (suc k) j ∙ ap (λ m. cond (leb (1 + j) m) (g (suc k) j) (pos 0)) (omega arith)) in
    filter-append is_low (cells_of_row i 1 (tabulate columns (λ j. g 0 j))) (cells_of_rows (i + 1) (tabulate n (λ k. tabulate columns (λ j. g (suc k) j))))
    ∙ ap (λ xs. xs ++ filter is_low (cells_of_rows (i + 1) (tabulate n (λ k. tabulate columns (λ j. g (suc k) j))))) first
    ∙ ap (λ xs. cells_of_row i 1 (tabulate columns (λ j. h 0 j)) ++ xs) rest

low_cells : (rows columns : ℕ) (f : ℕ → ℕ → ℤ) → filter is_low (cells_of (made rows columns (λ i j. f (i + 1) (j + 1)))) ≡ cells_of (made rows columns (λ i j. Low f (i + 1) (j + 1)))
low_cells rows columns f =
    low_rows rows columns 1 (λ i j. f (i + 1) (j + 1)) (λ i j. Low f (i + 1) (j + 1))
    (λ k j. ap (λ m. cond (leb m (k + 1)) (f (k + 1) (j + 1)) (pos 0)) (omega arith) ∙ ap (λ m. cond (leb (1 + j) m) (f (k + 1) (j + 1)) (pos 0)) (omega arith))

-- entries on or below the diagonal give 0 above it
abbrev pub AreLow : Form → List Entry → Type 0
AreLow form = AllByRecursion (λ e. is_above form e ≡ false)

not_above : (i j : ℕ) (e : Entry) → ltb e.row e.column ≡ false → i < j → names i j e ≡ false
not_above i j e low lt =
    false_from_ne_true _ (λ same.
    let p = and_parts (eqb e.row i) (eqb e.column j) same in
    let row = eqb-true e.row i p.0 in
    let column = eqb-true e.column j p.1 in
    let le = ltb-false e.row e.column low in omega arith)

value_at-above : (i j : ℕ) (es : List Entry) → AreLow Symmetric es → i < j → value_at es i j ≡ pos 0
value_at-above i j [] low lt = refl
value_at-above i j (e ∷ es) low lt =
    cond-false (names i j e) e.value (value_at es i j) (not_above i j e low.0 lt) ∙ value_at-above i j es low.1 lt

-- ---- The matrix

-- the numbers of a symmetric matrix on and below its diagonal
number_low : (es : List Entry) (i j : ℕ) → AreLow Symmetric es → value_at es i j ≡ Low (number_listed Symmetric es) i j
number_low es i j low =
    elim (cases_lt i j) [
      | inl above ↦ value_at-above i j es low above ∙ sym (cond-false (leb j i) (number_listed Symmetric es i j) (pos 0) (lt-leb j i above))
      | inr le ↦
          let row : max i j ≡ i = omega arith in
          let column : min i j ≡ j = omega arith in
          let same : number_listed Symmetric es i j ≡ value_at es i j = ap (λ a. value_at es a (min i j)) row ∙ ap (value_at es i) column in
          sym (cond-true (leb j i) (number_listed Symmetric es i j) (pos 0) (le-leb j i le) ∙ same)
    ]

-- what the cells of sorted entries give
cells_give : (es fs : List Entry) → IsPermutation es fs → have_no_repeats es ≡ true → (i j : ℕ) → cell_at (entry_cells (filter is_number fs)) i j ≡ value_at es i j
cells_give es fs moved apart i j =
    cell_at-entries i j (filter is_number fs) ∙ value_at-numbers i j fs (apart-IsPermutation es fs moved ∙ apart) ∙ value_at-IsPermutation i j es fs moved apart

-- entries of a block that were put in order, without zeros, are the cells of the block's matrix
pub market_cells : (form : Form) (sizes : Sizes) (es fs : List Entry) (taken : ℕ) → sizes.columns < 2 ^ 32 → AllByRecursion (IsWithin sizes) es → AreLow form es
    → IsPermutation es fs → have_no_repeats es ≡ true → rise fs ≡ true
    → entry_cells (filter is_number fs) ≡ cells_listed form (matrix_of (record { form = form; sizes = sizes; entries = es; lines = taken }))
market_cells General sizes es fs taken narrow all low moved apart rises =
    let inside = within-numbers sizes fs (within-IsPermutation sizes es fs moved all) in
    sym (cells_of_made sizes.rows sizes.columns (value_at es) (entry_cells (filter is_number fs))
    (cells-rising 0 sizes (filter is_number fs) narrow inside (RiseFrom-numbers 0 fs (RiseFrom-all fs rises)))
    (cells-within sizes (filter is_number fs) inside)
    (cells-numbers fs)
    (cells_give es fs moved apart))
market_cells Symmetric sizes es fs taken narrow all low moved apart rises =
    let inside = within-numbers sizes fs (within-IsPermutation sizes es fs moved all) in
    sym (low_cells sizes.rows sizes.columns (number_listed Symmetric es)
    ∙ cells_of_made sizes.rows sizes.columns (Low (number_listed Symmetric es)) (entry_cells (filter is_number fs))
    (cells-rising 0 sizes (filter is_number fs) narrow inside (RiseFrom-numbers 0 fs (RiseFrom-all fs rises)))
    (cells-within sizes (filter is_number fs) inside)
    (cells-numbers fs)
    (λ i j. cells_give es fs moved apart i j ∙ number_low es i j low))
