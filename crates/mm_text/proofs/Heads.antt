-- The first lines of a block: the banner and the size line.
use Rattle.std.proofs.Common.{◌≡◌, ℕ, ◌+◌, true, List, [], ◌∷◌, length, None, Some, Result, Ok, Err, ℤ, refl, sym, ap, ◌∙◌, arith}
use Rattle.std.proofs.lemmas.List.{length-map}
use Rattle.mm_text.specs.declared.market.Form.{Form}
use Rattle.mm_text.specs.declared.market.MarketFault.{MarketFault}
use Rattle.mm_text.specs.Lines.{cut_lines, lines_of, without_return}
use Rattle.mm_text.specs.Faults.{numbered}
use Rattle.mm_text.specs.Block.{Sizes, Block, three_of, found_or, fault_at, and_then, banner_in, from_sizes, sizes_from, sizes_in, entry_lines, block_of_entries, block_from_sizes, block_in}
use Rattle.mm_text.specs.Steps.{Passes, lines_behind, line_after, from_line, IsHead}
use Rattle.mm_text.proofs.LineRules.{three_text, three_numerals}

-- ---- The size line

-- a size line of three numbers
sizes-numbers : (grid : ℕ) (form : Form) (n : ℕ) (line : List ℕ) (m : ℤ × ℤ × ℤ) → three_of line ≡ Some m → sizes_in grid form (n, line) ≡ found_or (fault_at n 8) (sizes_from grid form m)
sizes-numbers grid form n line m three = rw (three_text line m three, three_numerals line m three, three) refl

pub sizes-bad : (grid : ℕ) (form : Form) (n : ℕ) (line : List ℕ) (m : ℤ × ℤ × ℤ) → Some m ≡ three_of line → sizes_from grid form m ≡ None → sizes_in grid form (n, line) ≡ Err (fault_at n 8)
sizes-bad grid form n line m three none = sizes-numbers grid form n line m (sym three) ∙ ap (found_or (fault_at n 8)) none

pub sizes-good : (grid : ℕ) (form : Form) (n : ℕ) (line : List ℕ) (m : ℤ × ℤ × ℤ) (sizes : Sizes) → Some m ≡ three_of line → sizes_from grid form m ≡ Some sizes → sizes_in grid form (n, line) ≡ Ok sizes
sizes-good grid form n line m sizes three some = sizes-numbers grid form n line m (sym three) ∙ ap (found_or (fault_at n 8)) some

-- ---- The banner

from_sizes-line : (lines : List (ℕ × List ℕ)) → from_sizes lines ≡ from_line true lines
from_sizes-line [] = refl
from_sizes-line (line ∷ lines) = rw (from_sizes-line lines) refl

abbrev Behind : ℕ → ℕ → Form → List (ℕ × List ℕ) → Result Block MarketFault
Behind end grid form lines = block_from_sizes end grid form (from_line true lines)

block_behind : (grid : ℕ) (text : List (List ℕ)) (n : ℕ) (first : List ℕ) (lines : List (ℕ × List ℕ)) → numbered 1 text ≡ (n, first) ∷ lines
    → block_in grid text ≡ and_then (λ form. Behind (1 + length text) grid form lines) (banner_in first)
block_behind grid [] n first lines e = absurd cc
block_behind grid (x ∷ xs) n first lines e =
    let head : x ≡ first = ap (λ (p : ℕ × List ℕ). p.1) (let q : (1, x) ≡ (n, first) = cc in q) in
    let tail : numbered 2 xs ≡ lines = cc in
    let end : 2 + length xs ≡ 1 + length (x ∷ xs) = omega arith in
    ap (λ (b : List ℕ). and_then (λ form. block_from_sizes (2 + length xs) grid form (from_sizes (numbered 2 xs))) (banner_in b)) head
    ∙ ap (λ ls. and_then (λ form. block_from_sizes (2 + length xs) grid form ls) (banner_in first)) (from_sizes-line (numbered 2 xs) ∙ ap (from_line true) tail)
    ∙ ap (λ k. and_then (λ form. Behind k grid form lines) (banner_in first)) end

pub banner_fault : (grid : ℕ) (text : List (List ℕ)) (n : ℕ) (first : List ℕ) (lines : List (ℕ × List ℕ)) (fault : MarketFault) → numbered 1 text ≡ (n, first) ∷ lines
    → Err fault ≡ banner_in first → block_in grid text ≡ Err fault
banner_fault grid text n first lines fault e bad =
    block_behind grid text n first lines e ∙ ap (and_then (λ form. Behind (1 + length text) grid form lines)) (sym bad)

form_block : (grid : ℕ) (text : List (List ℕ)) (n : ℕ) (first : List ℕ) (lines : List (ℕ × List ℕ)) (form : Form) → numbered 1 text ≡ (n, first) ∷ lines
    → Ok form ≡ banner_in first → block_in grid text ≡ Behind (1 + length text) grid form lines
form_block grid text n first lines form e good =
    block_behind grid text n first lines e ∙ ap (and_then (λ f. Behind (1 + length text) grid f lines)) (sym good)

-- the line after the last of the text
last_of_text : (text : List ℕ) (m : ℕ) (rest : List ℕ) → Passes 0 text m rest → 1 + length (lines_of text) ≡ line_after m rest
last_of_text text m rest p = omega (arith, p.total, length-map (cut_lines text) without_return)

pub size_line_missing : (grid : ℕ) (text : List ℕ) (n m : ℕ) (first rest : List ℕ) (form : Form) (fault : MarketFault) → lines_behind 0 text ≡ (n, first) ∷ lines_behind m rest → Passes 0 text m rest
    → Ok form ≡ banner_in first → from_line true (lines_behind m rest) ≡ [] → fault ≡ fault_at (line_after m rest) 13 → block_in grid (lines_of text) ≡ Err fault
size_line_missing grid text n m first rest form fault e passes good none is =
    form_block grid (lines_of text) n first (lines_behind m rest) form e good ∙ ap (block_from_sizes (1 + length (lines_of text)) grid form) none
    ∙ ap (λ k. Err (fault_at k 13)) (last_of_text text m rest passes) ∙ ap Err (sym is)

pub size_line_bad : (grid : ℕ) (text : List ℕ) (n m l : ℕ) (first rest line : List ℕ) (behind : List (ℕ × List ℕ)) (form : Form) (fault : MarketFault) → lines_behind 0 text ≡ (n, first) ∷ lines_behind m rest
    → Ok form ≡ banner_in first → from_line true (lines_behind m rest) ≡ (l, line) ∷ behind → sizes_in grid form (l, line) ≡ Err fault → block_in grid (lines_of text) ≡ Err fault
size_line_bad grid text n m l first rest line behind form fault e good at bad =
    form_block grid (lines_of text) n first (lines_behind m rest) form e good ∙ ap (block_from_sizes (1 + length (lines_of text)) grid form) at
    ∙ ap (and_then (λ (s : Sizes). block_of_entries (1 + length (lines_of text)) form s l (entry_lines s.entries behind))) bad

pub head_found : (grid : ℕ) (text : List ℕ) (n m l : ℕ) (first rest line behind : List ℕ) (form : Form) (sizes : Sizes) → lines_behind 0 text ≡ (n, first) ∷ lines_behind m rest
    → Passes 0 text l behind → Ok form ≡ banner_in first → from_line true (lines_behind m rest) ≡ (l, line) ∷ lines_behind l behind → sizes_in grid form (l, line) ≡ Ok sizes
    → IsHead grid (lines_of text) form sizes l behind
head_found grid text n m l first rest line behind form sizes e passes good at told =
    form_block grid (lines_of text) n first (lines_behind m rest) form e good ∙ ap (block_from_sizes (1 + length (lines_of text)) grid form) at
    ∙ ap (and_then (λ (s : Sizes). block_of_entries (1 + length (lines_of text)) form s l (entry_lines s.entries (lines_behind l behind)))) told
    ∙ ap (λ k. block_of_entries k form sizes l (entry_lines sizes.entries (lines_behind l behind))) (last_of_text text l behind passes)
