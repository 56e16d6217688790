-- The line of a fault is one of the text, or the line after its last.
use Rattle.std.proofs.Common.{◌≡◌, ℕ, zero, suc, ◌+◌, ◌≤◌, Bool, cond, eqb, not, List, [], ◌∷◌, ◌++◌, length, take, Option, None, Some, Result, Ok, Err, subst, arith}
use Rattle.std.specs.Prelude.{◌||◌}
use Rattle.std.specs.List.{filter, AllByRecursion}
use Rattle.std.proofs.lemmas.Bool.{cond_both}
use Rattle.mm_text.specs.declared.market.Form.{Form}
use Rattle.mm_text.specs.declared.market.MarketFault.{MarketFault}
use Rattle.mm_text.specs.declared.market.MarketRefused.{MarketRefused}
use Rattle.mm_text.specs.declared.market.MarketRefused.TheVariants.{Fault, Memory}
use Rattle.mm_text.specs.Lines.{lines_of, words_of, is_text}
use Rattle.mm_text.specs.Faults.{first_code, or_else, first_fault, numbered}
use Rattle.mm_text.specs.Block.{Sizes, is_note, is_empty_line, are_numerals, banner_form, fault_at, at_line, unless, found_or, and_then, banner_in, from_sizes, sizes_of, sizes_in, entry_code, entry_fault, entry_lines, block_of, block_of_entries, block_from_sizes, block_in}
use Rattle.mm_text.specs.Reading.{IsBlockRefused, IsPlaced}

-- a number from 1 to the greatest
record IsIn (high n : ℕ) : Type 0 where
  first : 1 ≤ n
  last : n ≤ high

-- if there is a fault, its line is one of these
abbrev Stays : ℕ → Option MarketFault → Type 0
Stays high None = Unit {0}
Stays high (Some fault) = IsIn high fault.line

abbrev Holds : {A : Type 0} → ℕ → Result A MarketFault → Type 0
Holds high (Ok x) = Unit {0}
Holds high (Err fault) = IsIn high fault.line

-- the numbers of lines are among these
abbrev AreIn : ℕ → List (ℕ × List ℕ) → Type 0
AreIn high = AllByRecursion (λ (line : ℕ × List ℕ). IsIn high line.0)

in_numbered : (high n : ℕ) (lines : List (List ℕ)) → 1 ≤ n → n + length lines ≤ suc high → AreIn high (numbered n lines)
in_numbered high n [] low le = tt
in_numbered high n (line ∷ lines) low le = (record { first = low; last = omega (arith, le) }, in_numbered high (suc n) lines (omega arith) (omega (arith, le)))

in_from : (high : ℕ) (lines : List (ℕ × List ℕ)) → AreIn high lines → AreIn high (from_sizes lines)
in_from high [] h = tt
in_from high (line ∷ lines) h =
    cond_both (is_note line.1 || is_empty_line line.1) (from_sizes lines) (line ∷ lines) (AreIn high) (λ _. in_from high lines h.1) (λ _. h)

in_filter : (high : ℕ) (p : ℕ × List ℕ → Bool) (lines : List (ℕ × List ℕ)) → AreIn high lines → AreIn high (filter p lines)
in_filter high p [] h = tt
in_filter high p (line ∷ lines) h =
    let rest = in_filter high p lines h.1 in cond_both (p line) (line ∷ filter p lines) (filter p lines) (AreIn high) (λ _. (h.0, rest)) (λ _. rest)

in_take : (high n : ℕ) (lines : List (ℕ × List ℕ)) → AreIn high lines → AreIn high (take n lines)
in_take high zero lines h = tt
in_take high (suc n) [] h = tt
in_take high (suc n) (line ∷ lines) h = (h.0, in_take high n lines h.1)

at_line-stays : (high n : ℕ) (code : Option ℕ) → IsIn high n → Stays high (at_line n code)
at_line-stays high n None h = tt
at_line-stays high n (Some code) h = h

or_else-stays : (high : ℕ) (first other : Option MarketFault) → Stays high first → Stays high other → Stays high (or_else first other)
or_else-stays high None other h k = k
or_else-stays high (Some fault) other h k = h

first-stays : (high : ℕ) (form : Form) (sizes : Sizes) (before lines : List (ℕ × List ℕ)) → AreIn high lines → Stays high (first_fault (entry_fault form sizes) before lines)
first-stays high form sizes before [] h = tt
first-stays high form sizes before (line ∷ lines) h =
    or_else-stays high (entry_fault form sizes before line) (first_fault (entry_fault form sizes) (before ++ line ∷ []) lines)
    (at_line-stays high line.0 (entry_code form sizes before line.1) h.0) (first-stays high form sizes (before ++ line ∷ []) lines h.1)

unless-holds : {A : Type 0} (high : ℕ) (fault : Option MarketFault) (found : Result A MarketFault) → Stays high fault → Holds high found → Holds high (unless fault found)
unless-holds high None found h k = k
unless-holds high (Some fault) found h k = h

found_or-holds : {A : Type 0} (high n code : ℕ) (o : Option A) → IsIn high n → Holds high (found_or (fault_at n code) o)
found_or-holds high n code None h = h
found_or-holds high n code (Some x) h = tt

and_then-holds : {A B : Type 0} (high : ℕ) (next : A → Result B MarketFault) (found : Result A MarketFault) → Holds high found → ((x : A) → Holds high (next x)) → Holds high (and_then next found)
and_then-holds high next (Ok x) h k = k x
and_then-holds high next (Err fault) h k = h

entries-holds : (high end : ℕ) (form : Form) (sizes : Sizes) (n : ℕ) (lines : List (ℕ × List ℕ)) → IsIn high end → AreIn high lines → Holds high (block_of_entries end form sizes n lines)
entries-holds high end form sizes n lines last h =
    unless-holds high (first_fault (entry_fault form sizes) [] lines) (cond (eqb (length lines) sizes.entries) (Ok (block_of form sizes n lines)) (Err (fault_at end 13)))
    (first-stays high form sizes [] lines h)
    (cond_both (eqb (length lines) sizes.entries) (Ok (block_of form sizes n lines)) (Err (fault_at end 13)) (Holds high) (λ _. tt) (λ _. last))

sizes-holds : (high end grid : ℕ) (form : Form) (lines : List (ℕ × List ℕ)) → IsIn high end → AreIn high lines → Holds high (block_from_sizes end grid form lines)
sizes-holds high end grid form [] last h = last
sizes-holds high end grid form (line ∷ lines) last h =
    and_then-holds high (λ (sizes : Sizes). block_of_entries end form sizes line.0 (entry_lines sizes.entries lines)) (sizes_in grid form line)
    (unless-holds high (at_line line.0 (first_code ((2, not (is_text line.1)) ∷ (5, not (are_numerals (words_of line.1))) ∷ []))) (found_or (fault_at line.0 8) (sizes_of grid form line.1))
    (at_line-stays high line.0 (first_code ((2, not (is_text line.1)) ∷ (5, not (are_numerals (words_of line.1))) ∷ [])) h.0) (found_or-holds high line.0 8 (sizes_of grid form line.1) h.0))
    (λ sizes.
    entries-holds high end form sizes line.0 (entry_lines sizes.entries lines) last
    (in_take high sizes.entries (filter (λ (l : ℕ × List ℕ). not (is_empty_line l.1)) lines) (in_filter high (λ (l : ℕ × List ℕ). not (is_empty_line l.1)) lines h.1)))

block-holds : (grid : ℕ) (lines : List (List ℕ)) → Holds (1 + length lines) (block_in grid lines)
block-holds grid [] = record { first = omega arith; last = omega arith }
block-holds grid (first ∷ lines) =
    let high = 1 + length (first ∷ lines) in
    let one : IsIn high 1 = record { first = omega arith; last = omega arith } in
    and_then-holds high (λ form. block_from_sizes (2 + length lines) grid form (from_sizes (numbered 2 lines))) (banner_in first)
    (unless-holds high (at_line 1 (first_code ((2, not (is_text first)) ∷ []))) (found_or (fault_at 1 7) (banner_form (words_of first)))
    (at_line-stays high 1 (first_code ((2, not (is_text first)) ∷ [])) one) (found_or-holds high 1 7 (banner_form (words_of first)) one))
    (λ form.
    sizes-holds high (2 + length lines) grid form (from_sizes (numbered 2 lines)) (record { first = omega arith; last = omega arith })
    (in_from high (numbered 2 lines) (in_numbered high 2 lines (omega arith) (omega arith))))

-- the line of the fault of a text
pub fault_placed : (grid : ℕ) (lines : List (List ℕ)) (fault : MarketFault) → block_in grid lines ≡ Err fault → (1 ≤ fault.line) × (fault.line ≤ 1 + length lines)
fault_placed grid lines fault h = let p = subst (Holds (1 + length lines)) h (block-holds grid lines) in (p.first, p.last)

pub refusal_placed : (grid : ℕ) (text : List ℕ) (refused : MarketRefused) → IsBlockRefused grid text refused → IsPlaced text refused
refusal_placed grid text Memory h = tt
refusal_placed grid text (Fault fault) h = fault_placed grid (lines_of text) fault h
