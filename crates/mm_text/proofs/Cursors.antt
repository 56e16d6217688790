-- What a reader passes in a text: whole lines, one after the other.
use Rattle.std.proofs.Common.{◌≡◌, ℕ, suc, ◌+◌, ◌-◌, ◌<◌, ◌≤◌, Bool, true, false, eqb, List, [], ◌∷◌, ◌++◌, length, map, take, drop, refl, sym, ap, ◌∙◌, arith, append_assoc, length-append}
use Rattle.std.proofs.lemmas.Bool.{cond-true, cond-false, cond_both}
use Rattle.std.proofs.lemmas.List.{take-append-drop, drop-drop, drop_at, length-drop}
use Rattle.mm_text.specs.Lines.{cut_lines, onto_line, without_return}
use Rattle.mm_text.specs.Faults.{numbered}
use Rattle.mm_text.specs.Steps.{Passes, lines_behind, line_after, is_passed, from_line}

onto_some : (byte : ℕ) (lines : List (List ℕ)) → 0 < length (onto_line byte lines)
onto_some byte [] = omega arith
onto_some byte (line ∷ lines) = omega arith

pub Passes-none : (n : ℕ) (text : List ℕ) → Passes n text n text
Passes-none n text = record {
  lines = 0;
  count = omega arith;
  front = [];
  whole = refl;
  few = omega arith;
  left = refl;
  total = refl;
}

-- a text that is not empty has a line
some_line : (text : List ℕ) → 0 < length text → 0 < length (cut_lines text)
some_line [] h = absurd (omega arith)
some_line (byte ∷ text) h =
    cond_both (eqb byte 10) ([] ∷ cut_lines text) (onto_line byte (cut_lines text)) (λ xs. 0 < length xs) (λ _. omega arith) (λ _. onto_some byte (cut_lines text))

one_less : (n : ℕ) (text rest : List ℕ) → length rest < length text → cut_lines rest ≡ drop 1 (cut_lines text) → n + 1 + length (cut_lines rest) ≡ n + length (cut_lines text)
one_less n text rest shorter left = let some = some_line text (omega arith) in omega (arith, ap length left, length-drop 1 (cut_lines text))

pub Passes-one : (n : ℕ) (text rest : List ℕ) → rest ≡ drop (length text - length rest) text → length rest < length text → cut_lines rest ≡ drop 1 (cut_lines text)
    → Passes n text (n + 1) rest
Passes-one n text rest is shorter left =
    let k = length text - length rest in
    let whole : take k text ++ rest ≡ text = ap (λ xs. take k text ++ xs) is ∙ take-append-drop k text in
    record {
      lines = 1;
      count = refl;
      front = take k text;
      whole = whole;
      few = omega (arith, ap length whole, length-append (take k text) rest);
      left = left;
      total = one_less n text rest shorter left;
    }

pub Passes-then : (n m l : ℕ) (text middle rest : List ℕ) → Passes n text m middle → Passes m middle l rest → Passes n text l rest
Passes-then n m l text middle rest p q = record {
  lines = p.lines + q.lines;
  count = omega (arith, p.count, q.count);
  front = p.front ++ q.front;
  whole = append_assoc p.front q.front rest ∙ ap (λ xs. p.front ++ xs) q.whole ∙ p.whole;
  few = omega (arith, p.few, q.few, length-append p.front q.front);
  left = q.left ∙ ap (drop q.lines) p.left ∙ drop-drop q.lines p.lines (cut_lines text);
  total = q.total ∙ p.total;
}

-- the count of lines and bytes together does not grow
pub Passes-count : (n m : ℕ) (text rest : List ℕ) → Passes n text m rest → m + length rest ≤ n + length text
Passes-count n m text rest p = omega (arith, p.count, p.few, ap length p.whole, length-append p.front rest)

-- one line that is passed over, and one that is not
pub from_line-passed : (comments : Bool) (all lines : List (ℕ × List ℕ)) (n : ℕ) (line : List ℕ) → all ≡ (n, line) ∷ lines → is_passed comments line ≡ true
    → from_line comments all ≡ from_line comments lines
from_line-passed comments all lines n line e passed = ap (from_line comments) e ∙ cond-true _ (from_line comments lines) ((n, line) ∷ lines) passed

pub from_line-here : (comments : Bool) (all lines : List (ℕ × List ℕ)) (n : ℕ) (line : List ℕ) → all ≡ (n, line) ∷ lines → is_passed comments line ≡ false
    → from_line comments all ≡ (n, line) ∷ lines
from_line-here comments all lines n line e here = ap (from_line comments) e ∙ cond-false _ (from_line comments lines) ((n, line) ∷ lines) here

-- the lines that are left of the whole text
pub lines_left : (m : ℕ) (text rest : List ℕ) → Passes 0 text m rest → cut_lines (drop (length text - length rest) text) ≡ drop m (cut_lines text)
lines_left m text rest p =
    let long : length text - length rest ≡ length p.front = omega (arith, ap length p.whole, length-append p.front rest) in
    let same : drop (length text - length rest) text ≡ rest = ap (λ xs. drop (length text - length rest) xs) (sym p.whole) ∙ drop_at p.front rest (length text - length rest) (sym long) in
    let all : p.lines ≡ m = omega (arith, p.count) in
    ap cut_lines same ∙ p.left ∙ ap (λ k. drop k (cut_lines text)) all

-- the line after the last, where no line is left
no_lines : (n : ℕ) (lines : List (List ℕ)) → numbered n (map without_return lines) ≡ [] → length lines ≡ 0
no_lines n [] h = refl
no_lines n (line ∷ lines) h = absurd cc

pub end_line : (n m : ℕ) (text rest : List ℕ) → Passes n text m rest → lines_behind m rest ≡ [] → m + 1 ≡ line_after n text
end_line n m text rest p none = let e = no_lines (suc m) (cut_lines rest) none in omega (arith, p.total, e)
