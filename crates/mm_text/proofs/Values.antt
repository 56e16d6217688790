-- The values that entries give at each place.
use Rattle.std.proofs.Common.{◌≡◌, inl, inr, ℕ, zero, suc, true, false, cond, not, eqb, List, [], ◌∷◌, IsPermutation, ℤ, pos, negsuc, refl, sym, ap, ◌∙◌, arith}
use Rattle.std.specs.Prelude.{Contains}
use Rattle.std.specs.List.{list_any, filter}
use Rattle.std.proofs.lemmas.Bool.{cases_Bool, cond-true, cond-false, and_parts, or_parts, or_cases, or_right, or_left, eqb-true, not-true, not-false, both_ways, true≢false}
use Rattle.std.proofs.lemmas.List.Sorted.{list_any-IsPermutation, Contains-permutation}
use Rattle.mm_text.specs.declared.market.Entry.{Entry}
use Rattle.mm_text.specs.Block.{names, value_at}
use Rattle.mm_text.specs.Cells.{is_zero, entry_cells}
use Rattle.mm_text.specs.Places.{have_no_repeats, is_number}
use Rattle.mm_text.proofs.CellsMade.{cell_at}
use Rattle.mm_text.proofs.Order.{apart-IsPermutation}

-- no entry names the place
value_at-none : (i j : ℕ) (es : List Entry) → list_any (names i j) es ≡ false → value_at es i j ≡ pos 0
value_at-none i j [] h = refl
value_at-none i j (e ∷ es) h =
    let p = or_parts (names i j e) (list_any (names i j) es) h in
    cond-false (names i j e) e.value (value_at es i j) p.0 ∙ value_at-none i j es p.1

-- some entry names it
some_named : (i j : ℕ) (es : List Entry) → list_any (names i j) es ≡ true → (e : Entry) × Contains es e × (names i j e ≡ true)
some_named i j [] h = absurd (true≢false (sym h))
some_named i j (e ∷ es) h =
    elim (or_cases (names i j e) (list_any (names i j) es) h) [
      | inl here ↦ (e, (zero, omega arith, refl), here)
      | inr there ↦ let (f, (k, lt, is), named) = some_named i j es there in (f, (suc k, omega arith, is), named)
    ]

named_there : (i j : ℕ) (es : List Entry) (e : Entry) → Contains es e → names i j e ≡ true → list_any (names i j) es ≡ true
named_there i j [] e (k, lt, is) named = absurd (omega arith)
named_there i j (f ∷ es) e (zero, lt, is) named = or_left (names i j f) (list_any (names i j) es) (rw is named)
named_there i j (f ∷ es) e (suc k, lt, is) named = or_right (names i j f) (list_any (names i j) es) (named_there i j es e (k, omega arith, is) named)

-- the names of one place are those of another
names_as : (i j : ℕ) (e f : Entry) → names i j e ≡ true → names e.row e.column f ≡ names i j f
names_as i j e f h =
    let p = and_parts (eqb e.row i) (eqb e.column j) h in
    rw (eqb-true e.row i p.0, eqb-true e.column j p.1) refl

any_named_as : (i j : ℕ) (e : Entry) (es : List Entry) → names i j e ≡ true → list_any (names e.row e.column) es ≡ list_any (names i j) es
any_named_as i j e [] h = refl
any_named_as i j e (f ∷ es) h = rw (names_as i j e f h, any_named_as i j e es h) refl

-- where no two entries name one place, the value is that of the entry that names it
value_at-named : (i j : ℕ) (es : List Entry) (e : Entry) → have_no_repeats es ≡ true → Contains es e → names i j e ≡ true → value_at es i j ≡ e.value
value_at-named i j [] e apart (k, lt, is) named = absurd (omega arith)
value_at-named i j (f ∷ es) e apart (zero, lt, is) named =
    cond-true (names i j f) f.value (value_at es i j) (rw is named) ∙ ap (λ (x : Entry). x.value) is
value_at-named i j (f ∷ es) e apart (suc k, lt, is) named =
    let p = and_parts (not (list_any (names f.row f.column) es)) (have_no_repeats es) apart in
    elim (cases_Bool (names i j f)) [
      | inl twice ↦ absurd (both_ways _ (not-true _ p.0) (named_there f.row f.column es e (k, omega arith, is) (names_as i j f e twice ∙ named)))
      | inr other ↦ cond-false (names i j f) f.value (value_at es i j) other ∙ value_at-named i j es e p.1 (k, omega arith, is) named
    ]

-- entries without repeats give the same values in another order
pub value_at-IsPermutation : (i j : ℕ) (es fs : List Entry) → IsPermutation es fs → have_no_repeats es ≡ true → value_at fs i j ≡ value_at es i j
value_at-IsPermutation i j es fs p apart =
    elim (cases_Bool (list_any (names i j) es)) [
      | inl some ↦
          let (e, there, named) = some_named i j es some in
          value_at-named i j fs e (apart-IsPermutation es fs p ∙ apart) (Contains-permutation es fs e p there) named ∙ sym (value_at-named i j es e apart there named)
      | inr none ↦ value_at-none i j fs (sym (list_any-IsPermutation (names i j) es fs p) ∙ none) ∙ sym (value_at-none i j es none)
    ]

pub zero_is : (z : ℤ) → is_zero z ≡ true → z ≡ pos 0
zero_is (pos n) h = ap pos (eqb-true n 0 h)
zero_is (negsuc n) h = absurd (true≢false (sym h))

-- zeros give the values that no entry gives
pub value_at-numbers : (i j : ℕ) (es : List Entry) → have_no_repeats es ≡ true → value_at (filter is_number es) i j ≡ value_at es i j
value_at-numbers i j [] apart = refl
value_at-numbers i j (e ∷ es) apart =
    let p = and_parts (not (list_any (names e.row e.column) es)) (have_no_repeats es) apart in
    let rest = value_at-numbers i j es p.1 in
    elim (cases_Bool (is_number e)) [
      | inl number ↦
          ap (λ xs. value_at xs i j) (cond-true (is_number e) (e ∷ filter is_number es) (filter is_number es) number) ∙ ap (cond (names i j e) e.value) rest
      | inr none ↦
          ap (λ xs. value_at xs i j) (cond-false (is_number e) (e ∷ filter is_number es) (filter is_number es) none) ∙ rest
          ∙ elim (cases_Bool (names i j e)) [
            | inl named ↦
                value_at-none i j es (sym (any_named_as i j e es named) ∙ not-true _ p.0)
                ∙ sym (cond-true (names i j e) e.value (value_at es i j) named ∙ zero_is e.value (not-false _ none))
            | inr other ↦ sym (cond-false (names i j e) e.value (value_at es i j) other)
          ]
    ]

-- what cells give is what their entries give
pub cell_at-entries : (i j : ℕ) (es : List Entry) → cell_at (entry_cells es) i j ≡ value_at es i j
cell_at-entries i j [] = refl
cell_at-entries i j (e ∷ es) = ap (cond (names i j e) e.value) (cell_at-entries i j es)
