-- The entries of a market as a list for a quadtree.
use Rattle.std.proofs.Common.{◌≡◌, ◌⊎◌, inl, inr, ℕ, zero, suc, ◌+◌, ◌-◌, ◌*◌, ◌^◌, ◌<◌, ◌≤◌, Bool, true, false, ◌&&◌, ◌==◌, List, [], ◌∷◌, ◌++◌, length, length-append, get_or, map, All, ℤ, pos, refl, sym, ap, ◌∙◌, subst, arith}
use Rattle.std.specs.Prelude.{nat_lt}
use Rattle.std.specs.List.{filter}
use Rattle.std.proofs.lemmas.Bool.{true≢false, cases_lt, cond_both, cond-false, and_from, and_left, and_right, or_left, or_right, lt-ltb, eq-eqb, ne_eqb}
use Rattle.std.proofs.lemmas.Bool.Decides.{nat_tests}
use Rattle.std.proofs.Math.Nat.{min-le_left, min-le_right, suc-mul}
use Rattle.std.proofs.lemmas.Nat.{mul-le}
use Rattle.std.proofs.lemmas.List.{get_or_past}
use Rattle.std.proofs.lemmas.List.Elements.{All-nil, All-cons, All-head, All-tail}
use Rattle.dense_def.specs.Matrix.{completed, entry, made, tabulate, peak_of}
use Rattle.dense_def.proofs.Entries.{length-tabulate, get_or-tabulate, entry_made, made_ext}
use Rattle.mm_text.specs.declared.market.Cell.{Cell}
use Rattle.mm_text.specs.declared.market.Entry.{Entry}
use Rattle.mm_text.specs.declared.market.Form.{Form}
use Rattle.mm_text.specs.declared.market.Form.TheVariants.{General, Symmetric}
use Rattle.mm_text.specs.declared.market.Market.{Market}
use Rattle.mm_text.specs.Block.{names, value_at, number_listed, matrix_listed}
use Rattle.mm_text.specs.Cells.{is_zero, cells_of_row, cells_of_rows, cells_of, cells_listed, is_low, cell_of, entry_cells}
use Rattle.chunk_codec.specs.Spots.{stands_before, spots_rise, IsSpot}
use Rattle.quad_matrix.specs.Spots.{spot_value, block_of_spots}
use Rattle.quad_matrix.proofs.ForOthers.{peak-zeros}
use Rattle.cht_script.specs.Reading.{IsGoodMarket}
use Rattle.cht_session.specs.Listed.{most_listed, spot_of, spot_in, IsCounted, HasSmallValue}

-- ---- The cells of a made matrix

-- a cell at row i and column j or after it, within a matrix whose rows and columns count from 1, and not zero
pub record IsCellFrom (rows columns i j : ℕ) (c : Cell) : Type 0 where
  pub place : (i < c.row) ⊎ ((i ≡ c.row) × (j ≤ c.column))
  pub top : 1 ≤ c.row
  pub bottom : c.row ≤ rows
  pub left : 1 ≤ c.column
  pub right : c.column ≤ columns
  pub value : is_zero c.value ≡ false

-- cells from row i and column j on, each after the one before it
abbrev pub AreFrom : ℕ → ℕ → ℕ → ℕ → List Cell → Type 0
AreFrom rows columns i j [] = Unit {0}
AreFrom rows columns i j (c ∷ cells) = IsCellFrom rows columns i j c × AreFrom rows columns c.row (c.column + 1) cells

-- cells from a place on are cells from an earlier one on
AreFrom-earlier : (rows columns i j k l : ℕ) (cells : List Cell) → (i < k) ⊎ ((i ≡ k) × (j ≤ l)) → AreFrom rows columns k l cells → AreFrom rows columns i j cells
AreFrom-earlier rows columns i j k l [] before from = tt
AreFrom-earlier rows columns i j k l (c ∷ cells) before from =
    let place = from.0.place in
    (record { place = grind arith; top = from.0.top; bottom = from.0.bottom; left = from.0.left; right = from.0.right; value = from.0.value }, from.1)

-- those of a row from column j on, with those of the rows behind it
row_from : (rows columns i : ℕ) (rest : List Cell) → 1 ≤ i → i ≤ rows → AreFrom rows columns (i + 1) 1 rest → (n j : ℕ) (g : ℕ → ℤ) → 1 ≤ j → j + n ≡ columns + 1
    → AreFrom rows columns i j (cells_of_row i j (tabulate n g) ++ rest)
row_from rows columns i rest top bottom behind zero j g left reach =
    AreFrom-earlier rows columns i j (i + 1) 1 rest (inl (omega arith)) behind
row_from rows columns i rest top bottom behind (suc n) j g left reach =
    let cells = cells_of_row i (j + 1) (tabulate n (λ k. g (suc k))) in
    let more : AreFrom rows columns i (j + 1) (cells ++ rest) = row_from rows columns i rest top bottom behind n (j + 1) (λ k. g (suc k)) (omega arith) (omega arith) in
    cond_both (is_zero (g 0)) cells (record { row = i; column = j; value = g 0 } ∷ cells) (λ cs. AreFrom rows columns i j (cs ++ rest))
    (λ e. AreFrom-earlier rows columns i j i (j + 1) (cells ++ rest) (inr (refl, omega arith)) more)
    (λ e. (record { place = inr (refl, omega arith); top = top; bottom = bottom; left = left; right = omega arith; value = e }, more))

-- those of the rows from row i on
rows_from : (rows columns n i : ℕ) (g : ℕ → ℕ → ℤ) → 1 ≤ i → i + n ≡ rows + 1
    → AreFrom rows columns i 1 (cells_of_rows i (tabulate n (λ k. tabulate columns (λ j. g k j))))
rows_from rows columns zero i g top reach = tt
rows_from rows columns (suc n) i g top reach =
    row_from rows columns i (cells_of_rows (i + 1) (tabulate n (λ k. tabulate columns (λ j. g (suc k) j)))) top (omega arith)
    (rows_from rows columns n (i + 1) (λ k. g (suc k)) (omega arith) (omega arith)) columns 1 (g 0) (omega arith) (omega arith)

-- the cells of a made matrix
made_from : (rows columns : ℕ) (f : ℕ → ℕ → ℤ) → AreFrom rows columns 1 1 (cells_of (made rows columns f))
made_from rows columns f = rows_from rows columns rows 1 f (omega arith) (omega arith)

-- cells that are left of such ones
AreFrom-filter : (rows columns i j : ℕ) (test : Cell → Bool) (cells : List Cell) → AreFrom rows columns i j cells → AreFrom rows columns i j (filter test cells)
AreFrom-filter rows columns i j test [] from = tt
AreFrom-filter rows columns i j test (c ∷ cells) from =
    let more = AreFrom-filter rows columns c.row (c.column + 1) test cells from.1 in
    let place = from.0.place in
    cond_both (test c) (c ∷ filter test cells) (filter test cells) (AreFrom rows columns i j)
    (λ e. (from.0, more))
    (λ e. AreFrom-earlier rows columns i j c.row (c.column + 1) (filter test cells) (grind arith) more)

-- the entries by which a form lists a matrix are such cells
pub entries_from : (form : Form) (rows columns : ℕ) (es : List Entry) → entry_cells es ≡ cells_listed form (matrix_listed form rows columns es) → AreFrom rows columns 1 1 (entry_cells es)
entries_from General rows columns es same =
    subst (AreFrom rows columns 1 1) (sym same) (made_from rows columns (λ i j. number_listed General es (i + 1) (j + 1)))
entries_from Symmetric rows columns es same =
    let f : ℕ → ℕ → ℤ = λ i j. number_listed Symmetric es (i + 1) (j + 1) in
    subst (AreFrom rows columns 1 1) (sym same) (AreFrom-filter rows columns 1 1 is_low (cells_of (made rows columns f)) (made_from rows columns f))

-- ---- Entries counted from 1

pub entries_counted : (rows columns i j : ℕ) (es : List Entry) → AreFrom rows columns i j (entry_cells es) → All IsCounted es
entries_counted rows columns i j [] from = All-nil IsCounted
entries_counted rows columns i j (e ∷ es) from =
    All-cons IsCounted e es (from.0.top, from.0.left) (entries_counted rows columns e.row (e.column + 1) es from.1)

-- rows and columns of a good market count from 1
pub market_counted : (grid : ℕ) (market : Market) → IsGoodMarket grid market → All IsCounted market.entries
market_counted grid market good =
    entries_counted market.rows market.columns 1 1 market.entries (entries_from market.form market.rows market.columns market.entries good.entries)

-- an entry that lies within the matrix names no place outside
names_inside : (e : Entry) (a b : ℕ) → (e.row < a) ⊎ (e.column < b) → names a b e ≡ false
names_inside e a b apart =
    elim apart [
      | inl above ↦ and_left (e.row == a) (e.column == b) (ne_eqb e.row a (λ same. omega arith))
      | inr before ↦ and_right (e.row == a) (e.column == b) (ne_eqb e.column b (λ same. omega arith))
    ]

-- so the value there is 0
pub value_outside : (rows columns i j : ℕ) (es : List Entry) → AreFrom rows columns i j (entry_cells es) → (a b : ℕ) → (rows < a) ⊎ (columns < b) → value_at es a b ≡ pos 0
value_outside rows columns i j [] from a b outside = refl
value_outside rows columns i j (e ∷ es) from a b outside =
    let bottom = from.0.bottom in
    let right = from.0.right in
    let apart : (e.row < a) ⊎ (e.column < b) = elim outside [ inl below ↦ inl (omega arith) | inr behind ↦ inr (omega arith) ] in
    cond-false (names a b e) e.value (value_at es a b) (names_inside e a b apart)
    ∙ value_outside rows columns e.row (e.column + 1) es from.1 a b outside

-- ---- Entries counted from 0

-- an index counted from 1 is another exactly where it is so counted from 0
same_index : (a i : ℕ) → 1 ≤ a → (a - 1 == i) ≡ (a == i + 1)
same_index a i low = grind (arith, nat_tests)

-- the values counted from 0 are those counted from 1
spot_value-moved : (es : List Entry) → All IsCounted es → (i j : ℕ) → spot_value (map spot_of es) i j ≡ value_at es (i + 1) (j + 1)
spot_value-moved [] counted i j = refl
spot_value-moved (e ∷ es) counted i j =
    let here = All-head IsCounted e es counted in
    let more = spot_value-moved es (All-tail IsCounted e es counted) i j in
    rw (same_index e.row i here.0, same_index e.column j here.1, more) refl

-- an entry before another stays before it
moved_before : (e f : Entry) → 1 ≤ e.row → 1 ≤ e.column → (e.row < f.row) ⊎ ((e.row ≡ f.row) × (e.column + 1 ≤ f.column)) → stands_before (spot_of e) (spot_of f) ≡ true
moved_before e f top left place =
    let r = nat_lt (e.row - 1) (f.row - 1) in
    let s = (e.row - 1 == f.row - 1) && nat_lt (e.column - 1) (f.column - 1) in
    elim place [
      | inl above ↦ or_left r s (lt-ltb (e.row - 1) (f.row - 1) (omega arith))
      | inr level ↦
          or_right r s (and_from (e.row - 1 == f.row - 1) (nat_lt (e.column - 1) (f.column - 1))
          (eq-eqb (e.row - 1) (f.row - 1) (omega arith)) (lt-ltb (e.column - 1) (f.column - 1) (omega arith)))
    ]

-- so the list rises
pub moved_rise : (rows columns i j : ℕ) (es : List Entry) → AreFrom rows columns i j (entry_cells es) → spots_rise (map spot_of es) ≡ true
moved_rise rows columns i j [] from = refl
moved_rise rows columns i j (e ∷ []) from = refl
moved_rise rows columns i j (e ∷ f ∷ es) from =
    and_from (stands_before (spot_of e) (spot_of f)) (spots_rise (map spot_of (f ∷ es)))
    (moved_before e f from.0.top from.0.left from.1.0.place)
    (moved_rise rows columns e.row (e.column + 1) (f ∷ es) from.1)

not_zero : (z : ℤ) → is_zero z ≡ false → z ≡ pos 0 → ⊥
not_zero z some none = true≢false (sym (ap is_zero none) ∙ some)

-- an entry of a block that holds the matrix
spot_is : (form : Form) (side rows columns i j : ℕ) (e : Entry) → rows ≤ side → columns ≤ side → IsCellFrom rows columns i j (cell_of e) → HasSmallValue (spot_in form e)
    → IsSpot side (spot_in form e)
spot_is General side rows columns i j e tall wide cell small =
    record {
      row = omega (arith, cell.top, cell.bottom);
      column = omega (arith, cell.left, cell.right);
      value = not_zero e.value cell.value;
      small = small.0;
      below = small.1;
    }
spot_is Symmetric side rows columns i j e tall wide cell small =
    record {
      row = omega (arith, cell.left, cell.right);
      column = omega (arith, cell.top, cell.bottom);
      value = not_zero e.value cell.value;
      small = small.0;
      below = small.1;
    }

-- each is so
pub moved_spots : (form : Form) (side rows columns i j : ℕ) (es : List Entry) → rows ≤ side → columns ≤ side → AreFrom rows columns i j (entry_cells es) → All HasSmallValue (map (spot_in form) es)
    → All (IsSpot side) (map (spot_in form) es)
moved_spots form side rows columns i j [] tall wide from small = All-nil (IsSpot side)
moved_spots form side rows columns i j (e ∷ es) tall wide from small =
    All-cons (IsSpot side) (spot_in form e) (map (spot_in form) es)
    (spot_is form side rows columns i j e tall wide from.0 (All-head HasSmallValue (spot_in form e) (map (spot_in form) es) small))
    (moved_spots form side rows columns e.row (e.column + 1) es tall wide from.1 (All-tail HasSmallValue (spot_in form e) (map (spot_in form) es) small))

-- ---- The block of the list

-- the number of a made matrix at any place, where it is made of zeros outside
pub entry_anywhere : (rows columns : ℕ) (f : ℕ → ℕ → ℤ) → ((i j : ℕ) → (rows ≤ i) ⊎ (columns ≤ j) → f i j ≡ pos 0) → (i j : ℕ) → entry (made rows columns f) i j ≡ f i j
entry_anywhere rows columns f outside i j =
    let row : ℕ → List ℤ = λ p. tabulate columns (λ q. f p q) in
    elim (cases_lt i rows) [
      | inr below ↦
          ap (λ (xs : List ℤ). get_or xs j (pos 0)) (get_or_past (tabulate rows row) i [] (omega (arith, length-tabulate rows row))) ∙ sym (outside i j (inl below))
      | inl within ↦
          elim (cases_lt j columns) [
            | inl here ↦ entry_made rows columns f i j within here
            | inr behind ↦
                ap (λ (xs : List ℤ). get_or xs j (pos 0)) (get_or-tabulate rows i row [] within)
                ∙ get_or_past (row i) j (pos 0) (omega (arith, length-tabulate columns (λ q. f i q))) ∙ sym (outside i j (inr behind))
          ]
    ]

-- the block of the list is the matrix, completed by zeros
pub block_of_moved : (side rows columns : ℕ) (es : List Entry) → AreFrom rows columns 1 1 (entry_cells es)
    → block_of_spots side (map spot_of es) ≡ completed side (made rows columns (λ i j. value_at es (i + 1) (j + 1)))
block_of_moved side rows columns es from =
    let f : ℕ → ℕ → ℤ = λ i j. value_at es (i + 1) (j + 1) in
    let counted = entries_counted rows columns 1 1 es from in
    let outside : (i j : ℕ) → (rows ≤ i) ⊎ (columns ≤ j) → f i j ≡ pos 0 =
    λ i j past. value_outside rows columns 1 1 es from (i + 1) (j + 1) (elim past [ inl below ↦ inl (omega arith) | inr behind ↦ inr (omega arith) ]) in
    made_ext side side (λ i j. spot_value (map spot_of es) i j) (λ i j. entry (made rows columns f) i j)
    (λ i j h k. spot_value-moved es counted i j ∙ sym (entry_anywhere rows columns f outside i j))

-- ---- The list of a market

-- where there is no entry all numbers are 0
pub no_entries : (form : Form) (rows columns : ℕ) (es : List Entry) → length es ≡ 0 → peak_of (matrix_listed form rows columns es) ≡ 0
no_entries General rows columns [] none = peak-zeros rows columns
no_entries Symmetric rows columns [] none = peak-zeros rows columns
no_entries form rows columns (e ∷ es) none = absurd (omega arith)

pub length_moved : (form : Form) (es : List Entry) → length (map (spot_in form) es) ≡ length es
length_moved form [] = refl
length_moved form (e ∷ es) = ap suc (length_moved form es)

-- what lies within the most that is listed lies within the side
pub listed_side : (side n : ℕ) → n ≤ most_listed side → n ≤ side
listed_side side n le = omega (arith, min-le_right 4096 side)

-- a row has no more cells than numbers
row_few : (i j : ℕ) (xs : List ℤ) → length (cells_of_row i j xs) ≤ length xs
row_few i j [] = omega arith
row_few i j (x ∷ xs) =
    let more = row_few i (j + 1) xs in
    cond_both (is_zero x) (cells_of_row i (j + 1) xs) (record { row = i; column = j; value = x } ∷ cells_of_row i (j + 1) xs)
    (λ cs. length cs ≤ suc (length xs)) (λ e. omega arith) (λ e. omega arith)

-- rows of so many numbers have no more cells than they have places
rows_few : (columns n i : ℕ) (g : ℕ → ℕ → ℤ) → length (cells_of_rows i (tabulate n (λ k. tabulate columns (λ j. g k j)))) ≤ n * columns
rows_few columns zero i g = omega arith
rows_few columns (suc n) i g =
    let row = cells_of_row i 1 (tabulate columns (λ j. g 0 j)) in
    let rest = cells_of_rows (i + 1) (tabulate n (λ k. tabulate columns (λ j. g (suc k) j))) in
    let first = row_few i 1 (tabulate columns (λ j. g 0 j)) in
    let more = rows_few columns n (i + 1) (λ k. g (suc k)) in
    omega (arith, length-append row rest, length-tabulate columns (λ j. g 0 j), suc-mul n columns)

length_cells : (es : List Entry) → length (entry_cells es) ≡ length es
length_cells [] = refl
length_cells (e ∷ es) = ap suc (length_cells es)

-- what is left of a list is no longer than it
left_few : (test : Cell → Bool) (cells : List Cell) → length (filter test cells) ≤ length cells
left_few test [] = omega arith
left_few test (c ∷ cells) =
    let more = left_few test cells in
    cond_both (test c) (c ∷ filter test cells) (filter test cells) (λ cs. length cs ≤ suc (length cells)) (λ e. omega arith) (λ e. omega arith)

listed_few : (form : Form) (rows columns : ℕ) (es : List Entry) → length (cells_listed form (matrix_listed form rows columns es)) ≤ rows * columns
listed_few General rows columns es = rows_few columns rows 1 (λ i j. number_listed General es (i + 1) (j + 1))
listed_few Symmetric rows columns es =
    let f : ℕ → ℕ → ℤ = λ i j. number_listed Symmetric es (i + 1) (j + 1) in
    let left = left_few is_low (cells_of (made rows columns f)) in
    omega (arith, rows_few columns rows 1 f)

-- a good market has fewer than 2 ^ 32 entries
pub market_few : (side : ℕ) (market : Market) → IsGoodMarket (most_listed side) market → length market.entries < 2 ^ 32
market_few side market good =
    let places = mul-le market.rows market.columns 4096 4096 (omega (arith, good.rows.1, min-le_left 4096 side)) (omega (arith, good.columns.1, min-le_left 4096 side)) in
    omega (arith, length_cells market.entries, ap length good.entries, listed_few market.form market.rows market.columns market.entries, places)
