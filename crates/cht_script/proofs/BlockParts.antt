-- The parts of a block that stands in a text: how many lines it takes, and how large it is.
use Rattle.std.proofs.Common.{◌≡◌, ℕ, zero, suc, ◌+◌, ◌*◌, ◌≤◌, Bool, true, false, not, cond, eqb, List, [], ◌∷◌, ◌++◌, length, take, Option, None, Some, Result, Ok, Err, ℤ, pos, negsuc, refl, sym, ap, ◌∙◌, inl, inr, arith}
use Rattle.std.specs.Prelude.{◌&&◌, ◌||◌, option_and_then}
use Rattle.std.specs.List.{filter}
use Rattle.std.proofs.lemmas.Bool.{cases_Bool, cond-true, cond-false, true≢false, and_parts, leb-true, eqb-true}
use Rattle.mm_text.specs.declared.market.Form.{Form}
use Rattle.mm_text.specs.declared.market.Form.TheVariants.{General, Symmetric}
use Rattle.mm_text.specs.declared.market.MarketFault.{MarketFault}
use Rattle.mm_text.specs.Lines.{words_of, is_text}
use Rattle.mm_text.specs.Faults.{first_code, or_else, first_fault, numbered}
use Rattle.mm_text.specs.Block.{Block, Sizes, is_note, is_empty_line, lies_within, natural, three_of, is_shape, sizes_from, sizes_of, are_numerals, at_line, unless, found_or, and_then, fault_at, banner_form, banner_in, from_sizes, sizes_in, entry_code, entry_fault, entry_lines, last_number, block_of, block_of_entries, block_from_sizes, block_in}

-- ---- What was found, step by step

-- what came of something that was found
pub record Found {A B : Type 0} (next : A → Result B MarketFault) (r : Result A MarketFault) (y : B) : Type 0 where
  pub value : A
  pub found : r ≡ Ok value
  pub gives : next value ≡ Ok y

err_not_ok : {A F : Type 0} (fault : F) (x : A) → Err fault ≡ Ok x → ⊥
err_not_ok fault x e = cc

same_ok : {A : Type 0} (x y : A) (r : Result A MarketFault) → r ≡ Ok x → r ≡ Ok y → x ≡ y
same_ok x y r e f = cc

then_found : {A B : Type 0} (next : A → Result B MarketFault) (r : Result A MarketFault) (y : B) → and_then next r ≡ Ok y → Found next r y
then_found next (Ok x) y h = record { value = x; found = refl; gives = h }
then_found next (Err fault) y h = absurd (err_not_ok fault y h)

unless_found : {A : Type 0} (o : Option MarketFault) (r : Result A MarketFault) (y : A) → unless o r ≡ Ok y → r ≡ Ok y
unless_found None r y h = h
unless_found (Some fault) r y h = absurd (err_not_ok fault y h)

or_found : {A : Type 0} (fault : MarketFault) (o : Option A) (y : A) → found_or fault o ≡ Ok y → o ≡ Some y
or_found fault None y h = absurd (err_not_ok fault y h)
or_found fault (Some x) y h = ap Some (same_ok x y (Ok x) refl h)

-- ---- How many lines

-- each line has at most this number
abbrev AreTo : ℕ → List (ℕ × List ℕ) → Type 0
AreTo most [] = Unit {0}
AreTo most (line ∷ lines) = (line.0 ≤ most) × AreTo most lines

numbered_to : (n most : ℕ) (lines : List (List ℕ)) → n + length lines ≤ suc most → AreTo most (numbered n lines)
numbered_to n most [] le = tt
numbered_to n most (line ∷ lines) le = (omega arith, numbered_to (suc n) most lines (omega arith))

from_sizes_to : (most : ℕ) (lines : List (ℕ × List ℕ)) → AreTo most lines → AreTo most (from_sizes lines)
from_sizes_to most [] h = tt
from_sizes_to most (line ∷ lines) h =
    elim (is_note line.1 || is_empty_line line.1) as (λ b. AreTo most (cond b (from_sizes lines) (line ∷ lines))) [
      | true ↦ from_sizes_to most lines h.1
      | false ↦ h
    ]

filter_to : (most : ℕ) (keep : ℕ × List ℕ → Bool) (lines : List (ℕ × List ℕ)) → AreTo most lines → AreTo most (filter keep lines)
filter_to most keep [] h = tt
filter_to most keep (line ∷ lines) h =
    elim (keep line) as (λ b. AreTo most (cond b (line ∷ filter keep lines) (filter keep lines))) [
      | true ↦ (h.0, filter_to most keep lines h.1)
      | false ↦ filter_to most keep lines h.1
    ]

take_to : (most n : ℕ) (lines : List (ℕ × List ℕ)) → AreTo most lines → AreTo most (take n lines)
take_to most zero lines h = tt
take_to most (suc n) [] h = tt
take_to most (suc n) (line ∷ lines) h = (h.0, take_to most n lines h.1)

last_to : (most n : ℕ) (lines : List (ℕ × List ℕ)) → n ≤ most → AreTo most lines → last_number n lines ≤ most
last_to most n [] le h = le
last_to most n (line ∷ lines) le h = last_to most line.0 lines h.0 h.1

-- ---- How large

within : (low high : ℕ) (z : ℤ) → lies_within low high z ≡ true → (low ≤ natural z) × (natural z ≤ high)
within low high (pos n) h = let p = and_parts _ _ h in (leb-true low n p.0, leb-true n high p.1)
within low high (negsuc n) h = absurd (true≢false (sym h))

-- rows and columns lie from 1 to the grid, and are equal in the symmetric form
pub record AreWithin (grid : ℕ) (form : Form) (sizes : Sizes) : Type 0 where
  pub rows : (1 ≤ sizes.rows) × (sizes.rows ≤ grid)
  pub columns : (1 ≤ sizes.columns) × (sizes.columns ≤ grid)
  pub square : form ≡ Symmetric → sizes.rows ≡ sizes.columns

shape_square : (grid : ℕ) (form : Form) (n : ℤ × ℤ × ℤ) → is_shape grid form n ≡ true → form ≡ Symmetric → natural n.0 ≡ natural n.1
shape_square grid General n h is = absurd (let e : General ≡ Symmetric = is in cc)
shape_square grid Symmetric n h is = eqb-true (natural n.0) (natural n.1) (and_parts _ _ h).1

shape_within : (grid : ℕ) (form : Form) (n : ℤ × ℤ × ℤ) → is_shape grid form n ≡ true → (lies_within 1 grid n.0 ≡ true) × (lies_within 1 grid n.1 ≡ true)
shape_within grid General n h = and_parts _ _ h
shape_within grid Symmetric n h = and_parts _ _ (and_parts _ _ h).0

from_within : (grid : ℕ) (form : Form) (n : ℤ × ℤ × ℤ) (sizes : Sizes) → sizes_from grid form n ≡ Some sizes → AreWithin grid form sizes
from_within grid form n sizes h =
    elim (cases_Bool (is_shape grid form n && lies_within 0 (natural n.0 * natural n.1) n.2)) [
      | inl really ↦
          let both = shape_within grid form n (and_parts _ _ really).0 in
          let is : Some (record { rows = natural n.0; columns = natural n.1; entries = natural n.2 }) ≡ Some sizes = sym (cond-true _ _ _ really) ∙ h in
          let same : record { rows = natural n.0; columns = natural n.1; entries = natural n.2 } ≡ sizes = cc in
          let rows : natural n.0 ≡ sizes.rows = ap (λ (s : Sizes). s.rows) same in
          let columns : natural n.1 ≡ sizes.columns = ap (λ (s : Sizes). s.columns) same in
          record {
            rows = rw (← rows) (within 1 grid n.0 both.0);
            columns = rw (← columns) (within 1 grid n.1 both.1);
            square = λ is. sym rows ∙ (shape_square grid form n (and_parts _ _ really).0 is ∙ columns);
          }
      | inr never ↦ absurd (let is : None ≡ Some sizes = sym (cond-false _ _ _ never) ∙ h in cc)
    ]

sizes_within : (grid : ℕ) (form : Form) (o : Option (ℤ × ℤ × ℤ)) (sizes : Sizes) → option_and_then (sizes_from grid form) o ≡ Some sizes → AreWithin grid form sizes
sizes_within grid form None sizes h = absurd (let is : None ≡ Some sizes = h in cc)
sizes_within grid form (Some n) sizes h = from_within grid form n sizes h

-- ---- The block

-- a block takes no more lines than there are, and lies within the grid
pub record IsPlaced (grid most : ℕ) (block : Block) : Type 0 where
  pub lines : block.lines ≤ most
  pub sizes : AreWithin grid block.form block.sizes

entries_placed : (end grid most : ℕ) (form : Form) (sizes : Sizes) (n : ℕ) (lines : List (ℕ × List ℕ)) (block : Block) → n ≤ most → AreTo most lines → AreWithin grid form sizes
    → block_of_entries end form sizes n lines ≡ Ok block → IsPlaced grid most block
entries_placed end grid most form sizes n lines block le to size h =
    let left = unless_found (first_fault (entry_fault form sizes) [] lines) _ block h in
    elim (cases_Bool (eqb (length lines) sizes.entries)) [
      | inl really ↦
          let is : block_of form sizes n lines ≡ block = same_ok _ block _ refl (sym (cond-true _ _ _ really) ∙ left) in
          rw (← is) (record { lines = last_to most n lines le to; sizes = size })
      | inr never ↦ absurd (err_not_ok (fault_at end 13) block (sym (cond-false _ _ _ never) ∙ left))
    ]

sizes_placed : (end grid most : ℕ) (form : Form) (lines : List (ℕ × List ℕ)) (block : Block) → AreTo most lines → block_from_sizes end grid form lines ≡ Ok block → IsPlaced grid most block
sizes_placed end grid most form [] block to h = absurd (err_not_ok (fault_at end 13) block h)
sizes_placed end grid most form (line ∷ lines) block to h =
    let next = then_found (λ (sizes : Sizes). block_of_entries end form sizes line.0 (entry_lines sizes.entries lines)) (sizes_in grid form line) block h in
    let sizes = or_found (fault_at line.0 8) (sizes_of grid form line.1) next.value
    (unless_found (at_line line.0 (first_code ((2, not (is_text line.1)) ∷ (5, not (are_numerals (words_of line.1))) ∷ []))) _ next.value next.found) in
    entries_placed end grid most form next.value line.0 (entry_lines next.value.entries lines) block to.0
    (take_to most next.value.entries _ (filter_to most (λ (line : ℕ × List ℕ). not (is_empty_line line.1)) lines to.1))
    (sizes_within grid form (three_of line.1) next.value sizes) next.gives

pub block_placed : (grid : ℕ) (lines : List (List ℕ)) (block : Block) → block_in grid lines ≡ Ok block → IsPlaced grid (length lines) block
block_placed grid [] block h = absurd (err_not_ok (fault_at 1 13) block h)
block_placed grid (first ∷ lines) block h =
    let next = then_found (λ form. block_from_sizes (2 + length lines) grid form (from_sizes (numbered 2 lines))) (banner_in first) block h in
    sizes_placed (2 + length lines) grid (length (first ∷ lines)) next.value (from_sizes (numbered 2 lines)) block
    (from_sizes_to (length (first ∷ lines)) (numbered 2 lines) (numbered_to 2 (length (first ∷ lines)) lines (omega arith))) next.gives

-- ---- The line of a fault

some_none : {F : Type 0} (fault : F) → None ≡ Some fault → ⊥
some_none fault e = cc

same_fault : (f fault : MarketFault) → Some f ≡ Some fault → f ≡ fault
same_fault f fault e = cc

-- a fault is one of these two
then_faulty : {A B : Type 0} (most : ℕ) (next : A → Result B MarketFault) (r : Result A MarketFault) (fault : MarketFault) → ((f : MarketFault) → r ≡ Err f → f.line ≤ most)
    → ((x : A) → r ≡ Ok x → next x ≡ Err fault → fault.line ≤ most) → and_then next r ≡ Err fault → fault.line ≤ most
then_faulty most next (Ok x) fault first second h = second x refl h
then_faulty most next (Err f) fault first second h = let same : f ≡ fault = cc in rw (← same) (first f refl)

unless_faulty : {A : Type 0} (most : ℕ) (o : Option MarketFault) (r : Result A MarketFault) (fault : MarketFault) → ((f : MarketFault) → o ≡ Some f → f.line ≤ most)
    → (r ≡ Err fault → fault.line ≤ most) → unless o r ≡ Err fault → fault.line ≤ most
unless_faulty most None r fault first second h = second h
unless_faulty most (Some f) r fault first second h = let same : f ≡ fault = cc in rw (← same) (first f refl)

or_faulty : {A : Type 0} (f : MarketFault) (o : Option A) (fault : MarketFault) → found_or f o ≡ Err fault → f ≡ fault
or_faulty f None fault h = cc
or_faulty f (Some x) fault h = absurd (err_not_ok fault x (sym h))

at_line_faulty : (n : ℕ) (code : Option ℕ) (f : MarketFault) → at_line n code ≡ Some f → n ≡ f.line
at_line_faulty n None f h = absurd (some_none f h)
at_line_faulty n (Some code) f h = ap (λ (fault : MarketFault). fault.line) (same_fault (fault_at n code) f h)

-- what is found at a line, unless the line breaks a rule, and else this fault
line_faulty : {A : Type 0} (most n code : ℕ) (broken : Option ℕ) (o : Option A) (fault : MarketFault) → n ≤ most
    → unless (at_line n broken) (found_or (fault_at n code) o) ≡ Err fault → fault.line ≤ most
line_faulty most n code broken o fault le h =
    unless_faulty most (at_line n broken) (found_or (fault_at n code) o) fault
    (λ f is. rw (← at_line_faulty n broken f is) le)
    (λ is. rw (← or_faulty (fault_at n code) o fault is) le) h

entry_case : (most n : ℕ) (code : Option ℕ) (rest : Option MarketFault) (fault : MarketFault) → n ≤ most → (rest ≡ Some fault → fault.line ≤ most)
    → or_else (at_line n code) rest ≡ Some fault → fault.line ≤ most
entry_case most n None rest fault le behind h = behind h
entry_case most n (Some code) rest fault le behind h = rw (← at_line_faulty n (Some code) fault h) le

entries_faulty : (most : ℕ) (form : Form) (sizes : Sizes) (before lines : List (ℕ × List ℕ)) (fault : MarketFault) → AreTo most lines
    → first_fault (entry_fault form sizes) before lines ≡ Some fault → fault.line ≤ most
entries_faulty most form sizes before [] fault to h = absurd (some_none fault h)
entries_faulty most form sizes before (line ∷ lines) fault to h =
    entry_case most line.0 (entry_code form sizes before line.1) (first_fault (entry_fault form sizes) (before ++ line ∷ []) lines) fault to.0
    (λ is. entries_faulty most form sizes (before ++ line ∷ []) lines fault to.1 is) h

count_faulty : (most end : ℕ) (b : Bool) (block : Block) (fault : MarketFault) → end ≤ most → cond b (Ok block) (Err (fault_at end 13)) ≡ Err fault → fault.line ≤ most
count_faulty most end true block fault le h = absurd (err_not_ok fault block (sym h))
count_faulty most end false block fault le h = let same : fault_at end 13 ≡ fault = cc in rw (← same) le

sizes_faulty : (end grid most : ℕ) (form : Form) (lines : List (ℕ × List ℕ)) (fault : MarketFault) → end ≤ most → AreTo most lines
    → block_from_sizes end grid form lines ≡ Err fault → fault.line ≤ most
sizes_faulty end grid most form [] fault le to h = let same : fault_at end 13 ≡ fault = cc in rw (← same) le
sizes_faulty end grid most form (line ∷ lines) fault le to h =
    then_faulty most (λ (sizes : Sizes). block_of_entries end form sizes line.0 (entry_lines sizes.entries lines)) (sizes_in grid form line) fault
    (λ f is. line_faulty most line.0 8 (first_code ((2, not (is_text line.1)) ∷ (5, not (are_numerals (words_of line.1))) ∷ [])) (sizes_of grid form line.1) f to.0 is)
    (λ sizes is gives.
    let few = entry_lines sizes.entries lines in
    unless_faulty most (first_fault (entry_fault form sizes) [] few) _ fault
    (λ f broken. entries_faulty most form sizes [] few f (take_to most sizes.entries _ (filter_to most (λ (line : ℕ × List ℕ). not (is_empty_line line.1)) lines to.1)) broken)
    (λ missing. count_faulty most end (eqb (length few) sizes.entries) (block_of form sizes line.0 few) fault le missing) gives)
    h

-- a fault stands in the lines that are there, or at the line after the last
pub block_faulty : (grid : ℕ) (lines : List (List ℕ)) (fault : MarketFault) → block_in grid lines ≡ Err fault → fault.line ≤ suc (length lines)
block_faulty grid [] fault h = let same : fault_at 1 13 ≡ fault = cc in rw (← same) (omega arith)
block_faulty grid (first ∷ lines) fault h =
    let most : fault.line ≤ 2 + length lines =
    then_faulty (2 + length lines) (λ form. block_from_sizes (2 + length lines) grid form (from_sizes (numbered 2 lines))) (banner_in first) fault
    (λ f is. line_faulty (2 + length lines) 1 7 (first_code ((2, not (is_text first)) ∷ [])) (banner_form (words_of first)) f (omega arith) is)
    (λ form is gives.
    sizes_faulty (2 + length lines) grid (2 + length lines) form (from_sizes (numbered 2 lines)) fault (omega arith)
    (from_sizes_to (2 + length lines) (numbered 2 lines) (numbered_to 2 (2 + length lines) lines (omega arith))) gives)
    h in
    omega (arith, most)
