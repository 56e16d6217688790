-- The entries of a market in a form as a sound list; those of the symmetric form are exchanged and put in order.
use Rattle.std.proofs.Common.{◌≡◌, ◌⊎◌, inl, inr, ℕ, zero, suc, ◌+◌, ◌-◌, ◌^◌, ◌<◌, ◌≤◌, max, min, Bool, true, false, ◌&&◌, ◌==◌, List, [], ◌∷◌, length, map, All, IsPermutation, ℤ, pos, refl, sym, ap, ap₂, ◌∙◌, subst, arith}
use Rattle.std.specs.Prelude.{nat_lt, None, Some, Contains}
use Rattle.std.specs.List.{list_any, filter, AllByRecursion, IsDistinct}
use Rattle.std.specs.List.Sorted.{IsNonDecreasingBy}
use Rattle.std.proofs.lemmas.Bool.{true≢false, cases_lt, cases_Bool, cond_both, cond-true, cond-false, and_from, and_left, and_right, and_parts, or_left, or_right, or_parts, or_cases, lt-ltb, leb-true, eqb-true, eq-eqb, ne_eqb, both_ways}
use Rattle.std.proofs.lemmas.Bool.Decides.{nat_tests}
use Rattle.std.proofs.Math.Nat.{pow-le-pow_right}
use Rattle.std.proofs.lemmas.Nat.{mul-le}
use Rattle.std.proofs.lemmas.List.Elements.{All-nil, All-cons, All-head, All-tail}
use Rattle.std.proofs.lemmas.List.Sorted.{list_any-IsPermutation, Contains-permutation, All-permutation, length_permutation}
use Rattle.std.proofs.lemmas.Map.Keys.{IsDistinct-IsPermutation, IsDistinct-head, IsDistinct-tail}
use Rattle.dense_def.specs.Matrix.{entry, made, completed, IsSymmetric}
use Rattle.dense_def.proofs.Entries.{entry_made, made_ext, IsMatrix-made, height-made}
use Rattle.mm_text.specs.declared.market.Cell.{Cell}
use Rattle.mm_text.specs.declared.market.Entry.{Entry}
use Rattle.mm_text.specs.declared.market.Form.{Form}
use Rattle.mm_text.specs.declared.market.Form.TheVariants.{General, Symmetric}
use Rattle.mm_text.specs.declared.market.Market.{Market}
use Rattle.mm_text.specs.Block.{value_at, matrix_listed}
use Rattle.mm_text.specs.Cells.{is_low, cells_of, cells_listed, entry_cells}
use Rattle.chunk_codec.specs.declared.plain.Spot.{Spot}
use Rattle.chunk_codec.specs.Spots.{side_of, stands_before, spots_rise, IsSpot, IsUpper}
use Rattle.quad_matrix.specs.Spots.{is_at, spot_value, mirrored_block}
use Rattle.quad_matrix.proofs.ForOthers.{symmetric_by_entries}
use Rattle.cht_script.specs.Statements.{is_symmetric}
use Rattle.cht_script.specs.Reading.{IsGoodMarket, matrix_of_market}
use Rattle.cht_session.specs.Forms.{IsListIn}
use Rattle.cht_session.specs.Listed.{most_listed, mirrored_spot, spot_in, IsCounted, HasSmallValue, place_of, ArePutInOrder}
use Rattle.cht_session.proofs.ListedEntries.{AreFrom, entries_from, entries_counted, value_outside, entry_anywhere, moved_spots, moved_rise, block_of_moved, no_entries, length_moved, listed_side, market_few}

-- ---- Entries of one place

-- whether two entries name one place
abbrev are_alike : Spot → Spot → Bool
are_alike s t = is_at s.row s.column t

eqb_flips : (a b : ℕ) → (a == b) ≡ (b == a)
eqb_flips a b = grind (arith, nat_tests)

alike_flips : (s t : Spot) → are_alike s t ≡ are_alike t s
alike_flips s t = rw (eqb_flips t.row s.row, eqb_flips t.column s.column) refl

-- an entry after another names another place, and so it is where both are exchanged
apart_mirrored : (e f : Entry) → 1 ≤ e.row → 1 ≤ e.column → (e.row < f.row) ⊎ ((e.row ≡ f.row) × (e.column + 1 ≤ f.column)) → are_alike (mirrored_spot e) (mirrored_spot f) ≡ false
apart_mirrored e f top left place =
    let r = f.column - 1 == e.column - 1 in
    let s = f.row - 1 == e.row - 1 in
    elim place [
      | inl above ↦ and_right r s (ne_eqb (f.row - 1) (e.row - 1) (λ same. omega arith))
      | inr level ↦ and_left r s (ne_eqb (f.column - 1) (e.column - 1) (λ same. omega arith))
    ]

-- so do all after it
all_apart : (rows columns i j : ℕ) (e : Entry) (es : List Entry) → 1 ≤ e.row → 1 ≤ e.column → (e.row < i) ⊎ ((e.row ≡ i) × (e.column + 1 ≤ j)) → AreFrom rows columns i j (entry_cells es)
    → AllByRecursion (λ t. are_alike (mirrored_spot e) t ≡ false) (map mirrored_spot es)
all_apart rows columns i j e [] top left before from = tt
all_apart rows columns i j e (f ∷ es) top left before from =
    let place = from.0.place in
    let next : (e.row < f.row) ⊎ ((e.row ≡ f.row) × (e.column + 1 ≤ f.column)) = grind arith in (
      apart_mirrored e f top left next,
      all_apart rows columns f.row (f.column + 1) e es top left (grind arith) from.1,
    )

-- no two of the exchanged entries name one place
mirrored_distinct : (rows columns i j : ℕ) (es : List Entry) → AreFrom rows columns i j (entry_cells es) → IsDistinct are_alike (map mirrored_spot es)
unfolding IsDistinct
mirrored_distinct rows columns i j [] from = tt
mirrored_distinct rows columns i j (e ∷ es) from = (
  all_apart rows columns e.row (e.column + 1) e es from.0.top from.0.left (inr (refl, omega arith)) from.1,
  mirrored_distinct rows columns e.row (e.column + 1) es from.1,
)

-- ---- Values in another order

-- no entry names the place
value-none : (i j : ℕ) (ss : List Spot) → list_any (is_at i j) ss ≡ false → spot_value ss i j ≡ pos 0
value-none i j [] h = refl
value-none i j (s ∷ ss) h =
    let p = or_parts (is_at i j s) (list_any (is_at i j) ss) h in
    cond-false (is_at i j s) s.value (spot_value ss i j) p.0 ∙ value-none i j ss p.1

-- some entry names it
some_there : (i j : ℕ) (ss : List Spot) → list_any (is_at i j) ss ≡ true → (s : Spot) × Contains ss s × (is_at i j s ≡ true)
some_there i j [] h = absurd (true≢false (sym h))
some_there i j (s ∷ ss) h =
    elim (or_cases (is_at i j s) (list_any (is_at i j) ss) h) [
      | inl here ↦ (s, (zero, omega arith, refl), here)
      | inr there ↦ let (t, (k, lt, is), place) = some_there i j ss there in (t, (suc k, omega arith, is), place)
    ]

-- what stands at the place of an entry is alike
alike_at : (i j : ℕ) (s t : Spot) → is_at i j s ≡ true → is_at i j t ≡ true → are_alike s t ≡ true
alike_at i j s t here there =
    let p = and_parts (s.row == i) (s.column == j) here in
    rw (eqb-true s.row i p.0, eqb-true s.column j p.1) there

-- none of a list is alike
not_alike : (s t : Spot) (ss : List Spot) → AllByRecursion (λ t. are_alike s t ≡ false) ss → Contains ss t → are_alike s t ≡ false
not_alike s t [] all (k, lt, is) = absurd (omega arith)
not_alike s t (u ∷ ss) all (zero, lt, is) = rw (← is) all.0
not_alike s t (u ∷ ss) all (suc k, lt, is) = not_alike s t ss all.1 (k, omega arith, is)

-- where no two entries name one place, the value is that of the entry that names it
value-there : (i j : ℕ) (ss : List Spot) (s : Spot) → IsDistinct are_alike ss → Contains ss s → is_at i j s ≡ true → spot_value ss i j ≡ s.value
value-there i j [] s apart (k, lt, is) place = absurd (omega arith)
value-there i j (t ∷ ss) s apart (zero, lt, is) place =
    cond-true (is_at i j t) t.value (spot_value ss i j) (rw is place) ∙ ap (λ (x : Spot). x.value) is
value-there i j (t ∷ ss) s apart (suc k, lt, is) place =
    elim (cases_Bool (is_at i j t)) [
      | inl twice ↦
          absurd (both_ways (are_alike t s) (not_alike t s ss (IsDistinct-head are_alike t ss apart) (k, omega arith, is)) (alike_at i j t s twice place))
      | inr other ↦
          cond-false (is_at i j t) t.value (spot_value ss i j) other
          ∙ value-there i j ss s (IsDistinct-tail are_alike t ss apart) (k, omega arith, is) place
    ]

-- entries without repeats give the same values in another order
value-permuted : (i j : ℕ) (ss ts : List Spot) → IsPermutation ss ts → IsDistinct are_alike ss → spot_value ts i j ≡ spot_value ss i j
value-permuted i j ss ts p apart =
    elim (cases_Bool (list_any (is_at i j) ss)) [
      | inl some ↦
          let (s, there, place) = some_there i j ss some in
          value-there i j ts s (IsDistinct-IsPermutation are_alike alike_flips ss ts p apart) (Contains-permutation ss ts s p there) place
          ∙ sym (value-there i j ss s apart there place)
      | inr none ↦ value-none i j ts (sym (list_any-IsPermutation (is_at i j) ss ts p) ∙ none) ∙ sym (value-none i j ss none)
    ]

-- ---- Order

-- an entry before another by its place, of which neither is the other's
before_by_place : (s t : Spot) → s.column < 2 ^ 32 → t.column < 2 ^ 32 → place_of s ≤ place_of t → are_alike s t ≡ false → stands_before s t ≡ true
before_by_place s t low_s low_t le differ =
    let level = (s.row == t.row) && nat_lt s.column t.column in
    elim (cases_lt s.row t.row) [
      | inl above ↦ or_left (nat_lt s.row t.row) level (lt-ltb s.row t.row above)
      | inr below ↦
          let row : s.row ≡ t.row = omega arith in
          or_right (nat_lt s.row t.row) level
          (and_from (s.row == t.row) (nat_lt s.column t.column) (eq-eqb s.row t.row row)
          (elim (cases_lt s.column t.column) [
            | inl left ↦ lt-ltb s.column t.column left
            | inr right ↦
                absurd (both_ways (are_alike s t) differ
                (and_from (t.row == s.row) (t.column == s.column) (eq-eqb t.row s.row (sym row)) (eq-eqb t.column s.column (omega arith))))
          ]))
    ]

-- entries in the order of their places, of which no two name one, rise
rise_by_place : (side : ℕ) (ss : List Spot) → side ≤ 2 ^ 32 → All (IsSpot side) ss → IsNonDecreasingBy place_of ss → IsDistinct are_alike ss → spots_rise ss ≡ true
rise_by_place side [] low all sorted apart = refl
rise_by_place side (s ∷ []) low all sorted apart = refl
rise_by_place side (s ∷ t ∷ ss) low all sorted apart =
    let rest = All-tail (IsSpot side) s (t ∷ ss) all in
    let one = (All-head (IsSpot side) s (t ∷ ss) all).column in
    let other = (All-head (IsSpot side) t ss rest).column in
    and_from (stands_before s t) (spots_rise (t ∷ ss))
    (before_by_place s t (omega arith) (omega arith) (sorted zero (suc zero) s (omega arith) (omega arith)) (IsDistinct-head are_alike s (t ∷ ss) apart).0)
    (rise_by_place side (t ∷ ss) low rest (λ i j d le lt. sorted (suc i) (suc j) d (omega arith) (omega arith)) (IsDistinct-tail are_alike s (t ∷ ss) apart))

-- ---- The upper triangle

-- the cells on or below the diagonal are so
all_low : (cells : List Cell) → AllByRecursion (λ c. is_low c ≡ true) (filter is_low cells)
all_low [] = tt
all_low (c ∷ cells) =
    let more = all_low cells in
    cond_both (is_low c) (c ∷ filter is_low cells) (filter is_low cells) (AllByRecursion (λ c. is_low c ≡ true)) (λ e. (e, more)) (λ e. more)

-- exchanged, they come to stand on the diagonal or above it
mirrored_upper : (es : List Entry) → AllByRecursion (λ c. is_low c ≡ true) (entry_cells es) → All IsUpper (map mirrored_spot es)
mirrored_upper [] low = All-nil IsUpper
mirrored_upper (e ∷ es) low =
    let le = leb-true e.column e.row low.0 in
    All-cons IsUpper (mirrored_spot e) (map mirrored_spot es) (omega arith) (mirrored_upper es low.1)

-- an index counted from 1 is another exactly where it is so counted from 0
index_from_1 : (a i : ℕ) → 1 ≤ a → (a - 1 == i) ≡ (a == i + 1)
index_from_1 a i low = grind (arith, nat_tests)

and_flips : (a b : Bool) → a && b ≡ b && a
and_flips true true = refl
and_flips true false = refl
and_flips false true = refl
and_flips false false = refl

-- the values of the exchanged entries
value-mirrored : (es : List Entry) → All IsCounted es → (i j : ℕ) → spot_value (map mirrored_spot es) i j ≡ value_at es (j + 1) (i + 1)
value-mirrored [] counted i j = refl
value-mirrored (e ∷ es) counted i j =
    let here = All-head IsCounted e es counted in
    let more = value-mirrored es (All-tail IsCounted e es counted) i j in
    rw (index_from_1 e.row j here.0, index_from_1 e.column i here.1, and_flips (e.column == i + 1) (e.row == j + 1), more) refl

-- the block of the list is the matrix, completed by zeros
block_of_mirrored : (side rows columns : ℕ) (es : List Entry) (ss : List Spot) → rows ≡ columns → AreFrom rows columns 1 1 (entry_cells es) → IsPermutation (map mirrored_spot es) ss
    → mirrored_block side ss ≡ completed side (matrix_listed Symmetric rows columns es)
block_of_mirrored side rows columns es ss square from p =
    let f : ℕ → ℕ → ℤ = λ i j. value_at es (max (i + 1) (j + 1)) (min (i + 1) (j + 1)) in
    let counted = entries_counted rows columns 1 1 es from in
    let outside : (i j : ℕ) → (rows ≤ i) ⊎ (columns ≤ j) → f i j ≡ pos 0 =
    λ i j past. value_outside rows columns 1 1 es from (max (i + 1) (j + 1)) (min (i + 1) (j + 1)) (inl (elim past [ inl below ↦ omega arith | inr behind ↦ omega arith ])) in
    made_ext side side (λ i j. spot_value ss (min i j) (max i j)) (λ i j. entry (made rows columns f) i j)
    (λ i j h k.
    let high : max i j + 1 ≡ max (i + 1) (j + 1) = omega arith in
    let low : min i j + 1 ≡ min (i + 1) (j + 1) = omega arith in
    value-permuted (min i j) (max i j) (map mirrored_spot es) ss p (mirrored_distinct rows columns 1 1 es from)
    ∙ value-mirrored es counted (min i j) (max i j) ∙ ap₂ (λ r c. value_at es r c) high low
    ∙ sym (entry_anywhere rows columns f outside i j))

-- ---- The list of a market

-- the side of a block is small
side_few : (b h : ℕ) → b ≤ 64 → h ≤ 16 → side_of b h ≤ 2 ^ 32
side_few b h leaf_high low =
    let power : 2 ^ h ≤ 2 ^ 16 = pow-le-pow_right {n = 2} (omega arith) {i = h} {j = 16} low in
    let both = mul-le b (2 ^ h) 64 (2 ^ 16) leaf_high power in
    omega arith

-- the entries of a form, in order, are a sound list of their matrix
listed_in : (form : Form) (b h rows columns : ℕ) (es : List Entry) (ss : List Spot) → 1 ≤ b → b ≤ 64 → h ≤ 16 → rows ≤ side_of b h → columns ≤ side_of b h → (form ≡ Symmetric → rows ≡ columns)
    → entry_cells es ≡ cells_listed form (matrix_listed form rows columns es) → (length es ≡ 0 → ⊥) → length es < 2 ^ 32
    → ArePutInOrder form (map (spot_in form) es) ss → All HasSmallValue (map (spot_in form) es)
    → IsListIn form b h (matrix_listed form rows columns es) (Some (record { leaf = b; height = h; symmetric = is_symmetric form; list = ss }))
listed_in General b h rows columns es ss leaf_low leaf_high low tall wide square same some few order small =
    let from = entries_from General rows columns es same in
    subst (λ (xs : List Spot). IsListIn General b h (matrix_listed General rows columns es) (Some (record { leaf = b; height = h; symmetric = false; list = xs }))) (sym order) (
      record {
        leaf = refl;
        height = refl;
        symmetric = refl;
        listed = record {
          leaf_low = leaf_low;
          leaf_high = leaf_high;
          low = low;
          some = omega (arith, length_moved General es);
          few = omega (arith, length_moved General es);
          rising = moved_rise rows columns 1 1 es from;
          spots = moved_spots General (side_of b h) rows columns 1 1 es tall wide from small;
          upper = λ never. absurd (true≢false (sym never));
        };
      },
      block_of_moved (side_of b h) rows columns es from,
    )
listed_in Symmetric b h rows columns es ss leaf_low leaf_high low tall wide square same some few order small =
    let side = side_of b h in
    let from = entries_from Symmetric rows columns es same in
    let spots = moved_spots Symmetric side rows columns 1 1 es tall wide from small in
    let moved = map mirrored_spot es in
    let all : All (IsSpot side) ss = All-permutation (IsSpot side) moved ss order.0 spots in
    let count = length_permutation moved ss order.0 in (
      record {
        leaf = refl;
        height = refl;
        symmetric = refl;
        listed = record {
          leaf_low = leaf_low;
          leaf_high = leaf_high;
          low = low;
          some = omega (arith, length_moved Symmetric es);
          few = omega (arith, length_moved Symmetric es);
          rising = rise_by_place side ss (side_few b h leaf_high low) all order.1
              (IsDistinct-IsPermutation are_alike alike_flips moved ss order.0 (mirrored_distinct rows columns 1 1 es from));
          spots = all;
          upper = λ really. All-permutation IsUpper moved ss order.0
              (mirrored_upper es (subst (AllByRecursion (λ c. is_low c ≡ true)) (sym same) (all_low (cells_of (matrix_listed Symmetric rows columns es)))));
        };
      },
      block_of_mirrored side rows columns es ss (square refl) from order.0,
    )

pub nothing_listed : (b h : ℕ) (market : Market) → length market.entries ≡ 0 → IsListIn market.form b h (matrix_of_market market) None
nothing_listed b h market none = no_entries market.form market.rows market.columns market.entries none

-- so those of a good market are one of its matrix
pub market_listed : (b h : ℕ) (market : Market) (before list : List Spot) (mirrored : Bool) → IsGoodMarket (most_listed (side_of b h)) market → 1 ≤ b → b ≤ 64 → h ≤ 16 → (length market.entries ≡ 0 → ⊥)
    → before ≡ map (spot_in market.form) market.entries → All HasSmallValue before → ArePutInOrder market.form before list → mirrored ≡ is_symmetric market.form
    → IsListIn market.form b h (matrix_of_market market) (Some (record { leaf = b; height = h; symmetric = mirrored; list = list }))
market_listed b h market before list mirrored good leaf_low leaf_high low some moved small order is =
    subst (λ mirrored. IsListIn market.form b h (matrix_of_market market) (Some (record { leaf = b; height = h; symmetric = mirrored; list = list }))) (sym is)
    (listed_in market.form b h market.rows market.columns market.entries list leaf_low leaf_high low
    (listed_side (side_of b h) market.rows good.rows.1) (listed_side (side_of b h) market.columns good.columns.1)
    good.square good.entries some (market_few (side_of b h) market good)
    (subst (λ (xs : List Spot). ArePutInOrder market.form xs list) moved order) (subst (All HasSmallValue) moved small))

-- ---- The matrix of a market

-- the matrix of a symmetric market is symmetric
listed_symmetric : (n : ℕ) (es : List Entry) → IsSymmetric (matrix_listed Symmetric n n es)
listed_symmetric n es =
    let f : ℕ → ℕ → ℤ = λ i j. value_at es (max (i + 1) (j + 1)) (min (i + 1) (j + 1)) in
    symmetric_by_entries n (made n n f) (IsMatrix-made n n f) (height-made n n f) refl
    (λ i j p q.
    let high : max (j + 1) (i + 1) ≡ max (i + 1) (j + 1) = omega arith in
    let low : min (j + 1) (i + 1) ≡ min (i + 1) (j + 1) = omega arith in
    entry_made n n f j i q p ∙ ap₂ (λ r c. value_at es r c) high low ∙ sym (entry_made n n f i j p q))

pub market_symmetric : (grid : ℕ) (market : Market) → IsGoodMarket grid market → market.form ≡ Symmetric → IsSymmetric (matrix_of_market market)
market_symmetric grid market good symmetric =
    subst (λ form. IsSymmetric (matrix_listed form market.rows market.columns market.entries)) (sym symmetric)
    (subst (λ n. IsSymmetric (matrix_listed Symmetric market.rows n market.entries)) (good.square symmetric) (listed_symmetric market.rows market.entries))
