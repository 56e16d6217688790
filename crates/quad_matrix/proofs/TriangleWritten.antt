-- The upper triangle of a square of numbers into which entries are written one after another.
use Rattle.std.proofs.Common.{◌≡◌, ℕ, ◌+◌, ◌-◌, ◌^◌, ◌<◌, ◌≤◌, min, max, ◌==◌, List, length, get_or, set, take, ℤ, pos, unsigned_abs, IsTrue, ⊎_elim, sym, ap, ap₂, subst, ◌∙◌, arith, length-set, get_or-set_same, get_or-set_other}
use Rattle.std.specs.List.{All}
use Rattle.std.proofs.lemmas.Bool.{eqb-true, eq-eqb, and_parts, and_from, cond_both, both_ways, cases_lt}
use Rattle.std.proofs.lemmas.List.{take_more, take_all}
use Rattle.dense_def.proofs.Entries.{made_ext}
use Rattle.leaf_blocks.specs.Block.{number_at, IsSmall}
use Rattle.leaf_blocks.specs.Symmetric.{triangular, triangle_index, EachUpper, mirrored_place, mirrored}
use Rattle.leaf_blocks.proofs.Triangles.{within_row, row_before, index_within, all_by_triangle}
use Rattle.chunk_codec.specs.declared.plain.Spot.{Spot}
use Rattle.chunk_codec.specs.Spots.{spots_rise, IsSpot, IsUpper}
use Rattle.quad_matrix.specs.Spots.{is_at, spot_value, mirrored_block}
use Rattle.quad_matrix.proofs.Lists.{spot_value_small}
use Rattle.quad_matrix.proofs.Written.{spot_value-push, earlier_elsewhere}

-- each place on and above the diagonal has the value that the entries give it
pub record UpperWritten (numbers : List ℤ) (side : ℕ) (spots : List Spot) : Type 0 where
  pub long : length numbers ≡ triangular side
  pub values : EachUpper side (λ i j. number_at numbers (triangle_index side i j) ≡ spot_value spots i j)

-- a place in an earlier row has a lower index
earlier_row : (side i j r c : ℕ) → i < r → i ≤ j → j < side → r ≤ c → c < side → triangle_index side i j < triangle_index side r c
earlier_row side i j r c before upper within upper' within' =
    let one : triangle_index side i (i + (j - i)) ≡ triangle_index side i i + (j - i) = within_row side i (j - i) (omega arith) in
    let other : triangle_index side r (r + (c - r)) ≡ triangle_index side r r + (c - r) = within_row side r (c - r) (omega arith) in
    let first : triangle_index side i j ≡ triangle_index side i i + (j - i) = ap (triangle_index side i) (let e : j ≡ i + (j - i) = omega arith in e) ∙ one in
    let second : triangle_index side r c ≡ triangle_index side r r + (c - r) = ap (triangle_index side r) (let e : c ≡ r + (c - r) = omega arith in e) ∙ other in
    let rows : triangle_index side i i + (side - i) ≤ triangle_index side r r = row_before side i r before (omega arith) in
    let least : triangle_index side i i + (j - i) < triangle_index side i i + (side - i) = omega arith in
    let done : triangle_index side i i + (j - i) < triangle_index side r r + (c - r) = omega arith in
    subst (λ n. n < triangle_index side r c) (sym first) (subst (λ n. triangle_index side i i + (j - i) < n) (sym second) done)

-- in one row, a place in an earlier column has a lower index
earlier_column : (side i j c : ℕ) → j < c → i ≤ j → c < side → triangle_index side i j < triangle_index side i c
earlier_column side i j c before upper within =
    let first : triangle_index side i j ≡ triangle_index side i i + (j - i) = ap (triangle_index side i) (let e : j ≡ i + (j - i) = omega arith in e) ∙ within_row side i (j - i) (omega arith) in
    let second : triangle_index side i c ≡ triangle_index side i i + (c - i) = ap (triangle_index side i) (let e : c ≡ i + (c - i) = omega arith in e) ∙ within_row side i (c - i) (omega arith) in
    let done : triangle_index side i i + (j - i) < triangle_index side i i + (c - i) = omega arith in
    subst (λ n. n < triangle_index side i c) (sym first) (subst (λ n. triangle_index side i i + (j - i) < n) (sym second) done)

-- so places on and above the diagonal with one index are one
same_upper_place : (side i j r c : ℕ) → i ≤ j → j < side → r ≤ c → c < side → triangle_index side i j ≡ triangle_index side r c → (i ≡ r) × (j ≡ c)
same_upper_place side i j r c upper within upper' within' same =
    let rows : i ≡ r =
    ⊎_elim
    (λ (low : i < r). let less = earlier_row side i j r c low upper within upper' within' in absurd (omega arith))
    (λ (high : r ≤ i).
    ⊎_elim
    (λ (low : r < i). let less = earlier_row side r c i j low upper' within' upper within in absurd (omega arith))
    (λ (even : i ≤ r). let e : i ≡ r = omega arith in e)
    (cases_lt r i))
    (cases_lt i r) in
    let here : triangle_index side i j ≡ triangle_index side i c = same ∙ ap (λ n. triangle_index side n c) (sym rows) in
    let columns : j ≡ c =
    ⊎_elim
    (λ (low : j < c). let less = earlier_column side i j c low upper within' in absurd (omega arith))
    (λ (high : c ≤ j).
    ⊎_elim
    (λ (low : c < j). let less = earlier_column side i c j low (let e : i ≤ c = omega arith in e) within in absurd (omega arith))
    (λ (even : j ≤ c). let e : j ≡ c = omega arith in e)
    (cases_lt c j))
    (cases_lt j c) in
    (rows, columns)

-- the next entry is written at its place
written_at : (numbers : List ℤ) (side : ℕ) (spots : List Spot) (k : ℕ) (d : Spot) (y : ℤ) → UpperWritten numbers side (take k spots) → k < length spots → All (IsSpot side) spots → All IsUpper spots → IsTrue (spots_rise spots) → y ≡ (get_or spots k d).value → UpperWritten (set numbers (triangle_index side (get_or spots k d).row (get_or spots k d).column) y) side (take (k + 1) spots)
written_at numbers side spots k d y w h each uppers rising is =
    let spot = get_or spots k d in
    let inside : IsSpot side spot = each k d h in
    let upper : spot.row ≤ spot.column = uppers k d h in
    let at = triangle_index side spot.row spot.column in
    let below : at < length numbers = rw w.long (index_within side spot.row spot.column upper inside.column) in
    record {
      long = length-set numbers at y ∙ w.long;
      values = λ i j l m.
          cond_both (is_at i j spot) spot.value (spot_value (take k spots) i j) (λ z. number_at (set numbers at y) (triangle_index side i j) ≡ z)
          (λ here. let both = and_parts (spot.row == i) (spot.column == j) here in
          ap₂ (λ p q. number_at (set numbers at y) (triangle_index side p q)) (sym (eqb-true spot.row i both.0)) (sym (eqb-true spot.column j both.1))
          ∙ get_or-set_same numbers at y (pos 0) below ∙ is)
          (λ elsewhere. get_or-set_other numbers at (triangle_index side i j) y (pos 0)
          (λ same. let place_is = same_upper_place side i j spot.row spot.column l m upper inside.column same in
          both_ways (is_at i j spot) elsewhere (and_from (spot.row == i) (spot.column == j) (eq-eqb spot.row i (sym place_is.0)) (eq-eqb spot.column j (sym place_is.1))))
          ∙ w.values i j l m)
          ∙ sym (ap (λ xs. spot_value xs i j) (take_more spots k d h) ∙ spot_value-push (take k spots) spot i j (earlier_elsewhere spots k d rising h));
    }

-- the place of the next entry is in the list
pub upper_within : (numbers : List ℤ) (side : ℕ) (spots : List Spot) (k : ℕ) (d : Spot) (at : ℕ) → UpperWritten numbers side (take k spots) → k < length spots → All (IsSpot side) spots → All IsUpper spots → at ≡ triangle_index side (get_or spots k d).row (get_or spots k d).column → at < length numbers
upper_within numbers side spots k d at w h each uppers placed =
    subst (λ n. n < length numbers) (sym placed) (rw w.long (index_within side (get_or spots k d).row (get_or spots k d).column (uppers k d h) (each k d h).column))

-- the next entry is written
pub UpperWritten-more : (numbers : List ℤ) (side : ℕ) (spots : List Spot) (k : ℕ) (d : Spot) (at : ℕ) (y : ℤ) → UpperWritten numbers side (take k spots) → k < length spots → All (IsSpot side) spots → All IsUpper spots → IsTrue (spots_rise spots) → at ≡ triangle_index side (get_or spots k d).row (get_or spots k d).column → y ≡ (get_or spots k d).value → UpperWritten (set numbers at y) side (take (k + 1) spots)
UpperWritten-more numbers side spots k d place y w h each uppers rising placed is =
    subst (λ at. UpperWritten (set numbers at y) side (take (k + 1) spots)) (sym placed) (written_at numbers side spots k d y w h each uppers rising is)

-- all entries are written: the triangle is that of their symmetric block
module _ (numbers : List ℤ) (side n : ℕ) (spots : List Spot) (w : UpperWritten numbers side (take n spots)) (last : length spots ≤ n) where
  values : EachUpper side (λ i j. number_at numbers (triangle_index side i j) ≡ spot_value spots i j)
  values i j h k = w.values i j h k ∙ ap (λ xs. spot_value xs i j) (take_all n spots last)

  pub upper_written_small : All (IsSpot side) spots → All IsSmall numbers
  upper_written_small each =
      all_by_triangle IsSmall side numbers w.long
      (λ i j h k. let bound : unsigned_abs (spot_value spots i j) ≤ 2 ^ 63 = spot_value_small side spots i j each in
      subst IsSmall (sym (values i j h k)) (omega arith))

  pub upper_written_is : mirrored side numbers ≡ mirrored_block side spots
  upper_written_is =
      made_ext side side (λ i j. mirrored_place side numbers i j) (λ i j. spot_value spots (min i j) (max i j))
      (λ i j p q. values (min i j) (max i j) (let e : min i j ≤ max i j = omega arith in e) (let e : max i j < side = omega arith in e))
