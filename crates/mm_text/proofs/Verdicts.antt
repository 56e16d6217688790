-- What a block gives, by the entries that were gathered from its lines.
use Rattle.std.proofs.Common.{◌≡◌, ℕ, zero, suc, ◌+◌, ◌≤◌, ◌<◌, ◌^◌, inl, inr, true, false, cond, not, eqb, List, [], ◌∷◌, ◌++◌, length, take, IsPermutation, Option, None, Some, Result, Ok, Err, refl, sym, ap, ◌∙◌, subst, arith}
use Rattle.std.specs.List.{list_any, filter, filter_map, AllByRecursion}
use Rattle.std.proofs.lemmas.Bool.{cases_Bool, cond_both, cond-true, cond-false}
use Rattle.std.proofs.lemmas.Bool.Decides.{nat_tests}
use Rattle.std.proofs.lemmas.List.{length-map}
use Rattle.std.proofs.lemmas.List.Sorted.{IsPermutation-map}
use Rattle.mm_text.specs.declared.market.Entry.{Entry}
use Rattle.mm_text.specs.declared.market.Form.{Form}
use Rattle.mm_text.specs.declared.market.MarketFault.{MarketFault}
use Rattle.mm_text.specs.declared.places.Listed.{Listed}
use Rattle.mm_text.specs.Lines.{cut_lines, onto_line, lines_of, without_return}
use Rattle.mm_text.specs.Faults.{or_else, first_fault, numbered}
use Rattle.mm_text.specs.Block.{Sizes, Block, is_empty_line, is_above, entry_of, fault_at, unless, at_line, entry_code, entry_fault, last_number, block_of, block_in, matrix_of}
use Rattle.mm_text.specs.Cells.{cells_listed, entry_cells}
use Rattle.mm_text.specs.Places.{fault_before, entries_of, AreListed, repeats, first_repeat, rise, is_number}
use Rattle.mm_text.specs.Steps.{IsHead, lines_behind, filled, line_after, told, Found, with_first, gathered, gathered_at, last_line, judged}
use Rattle.mm_text.proofs.Told.{Stands, stands-none, stands-more, told-Ok, code-entry, code-fault, told-inside}
use Rattle.mm_text.proofs.Order.{apart-IsPermutation, apart_rise}
use Rattle.mm_text.proofs.MatrixRead.{IsWithin, AreLow, inside-within, market_cells}

-- ---- The fault, if there is one

-- what stands in a line that was told
told_is : (r : Result Listed MarketFault) → (P : Type 0) → ((one : Listed) → r ≡ Ok one → P) → ((fault : MarketFault) → r ≡ Err fault → P) → P
told_is (Ok one) P good bad = good one refl
told_is (Err fault) P good bad = bad fault refl

-- what lines give, of which n are to be there
abbrev Judge : ℕ → Form → Sizes → ℕ → List (ℕ × List ℕ) → List (ℕ × List ℕ) → Block → Result Block MarketFault
Judge end form sizes n before lines block =
    unless (first_fault (entry_fault form sizes) before (take n lines)) (cond (eqb (length (take n lines)) n) (Ok block) (Err (fault_at end 13)))

eqb-suc : (a b : ℕ) → eqb (suc a) (suc b) ≡ eqb a b
eqb-suc a b = grind (arith, nat_tests)

-- fewer lines than are to be there
none_there : (n : ℕ) → eqb 0 (suc n) ≡ false
none_there n = grind (arith, nat_tests)

-- what is judged of the same entries and the same fault
ap_found : (r : Result Block MarketFault) (prior : List Listed) (block : Block) (a b : Found) → a ≡ b → r ≡ judged (first_repeat prior b.0) b.1 block → r ≡ judged (first_repeat prior a.0) a.1 block
ap_found r prior block a b e h = h ∙ ap (λ (f : Found). judged (first_repeat prior f.0) f.1 block) (sym e)

-- the first line breaks no rule
judge-kept : (end : ℕ) (form : Form) (sizes : Sizes) (n : ℕ) (before : List (ℕ × List ℕ)) (line : ℕ × List ℕ) (lines : List (ℕ × List ℕ)) (block : Block)
    → entry_code form sizes before line.1 ≡ None → Judge end form sizes (suc n) before (line ∷ lines) block ≡ Judge end form sizes n (before ++ line ∷ []) lines block
judge-kept end form sizes n before line lines block kept =
    ap (λ o. unless (or_else (at_line line.0 o) (first_fault (entry_fault form sizes) (before ++ line ∷ []) (take n lines))) (cond (eqb (suc (length (take n lines))) (suc n)) (Ok block) (Err (fault_at end 13)))) kept
    ∙ ap (λ b. unless (first_fault (entry_fault form sizes) (before ++ line ∷ []) (take n lines)) (cond b (Ok block) (Err (fault_at end 13)))) (eqb-suc (length (take n lines)) n)

-- the first line breaks a rule
judge-fault : (end : ℕ) (form : Form) (sizes : Sizes) (n : ℕ) (before : List (ℕ × List ℕ)) (line : ℕ × List ℕ) (lines : List (ℕ × List ℕ)) (block : Block) (fault : MarketFault)
    → at_line line.0 (entry_code form sizes before line.1) ≡ Some fault → Judge end form sizes (suc n) before (line ∷ lines) block ≡ Err fault
judge-fault end form sizes n before line lines block fault broken =
    ap (λ o. unless (or_else o (first_fault (entry_fault form sizes) (before ++ line ∷ []) (take n lines))) (cond (eqb (suc (length (take n lines))) (suc n)) (Ok block) (Err (fault_at end 13)))) broken

pub judge_gathered : (end : ℕ) (form : Form) (sizes : Sizes) (n : ℕ) (before lines : List (ℕ × List ℕ)) (prior : List Listed) (block : Block) → Stands form before prior
    → Judge end form sizes n before lines block ≡ judged (first_repeat prior (gathered form sizes end n lines).0) (gathered form sizes end n lines).1 block
judge_gathered end form sizes zero before lines prior block s = refl
judge_gathered end form sizes (suc n) before [] prior block s = ap (λ b. cond b (Ok block) (Err (fault_at end 13))) (none_there n)
judge_gathered end form sizes (suc n) before (line ∷ lines) prior block s =
    let others = gathered form sizes end n lines in
    let all = gathered form sizes end (suc n) (line ∷ lines) in
    told_is (told form sizes line) (Judge end form sizes (suc n) before (line ∷ lines) block ≡ judged (first_repeat prior all.0) all.1 block)
    (λ one is.
    let code = code-entry form sizes before prior line one s is in
    let number = (told-Ok form sizes line one is).number in
    ap_found (Judge end form sizes (suc n) before (line ∷ lines) block) prior block all (with_first (Ok one) others) (ap (λ r. with_first r others) is)
    (elim (cases_Bool (list_any (repeats one) prior)) [
      | inl again ↦
          judge-fault end form sizes n before line lines block (fault_at line.0 11) (ap (at_line line.0) (code ∙ cond-true _ (Some 11) None again))
          ∙ sym (ap (λ o. judged o others.1 block) (cond-true _ (Some one.line) (first_repeat (prior ++ one ∷ []) others.0) again) ∙ ap (λ m. Err (fault_at m 11)) number)
      | inr fresh ↦
          judge-kept end form sizes n before line lines block (code ∙ cond-false _ (Some 11) None fresh)
          ∙ judge_gathered end form sizes n (before ++ line ∷ []) lines (prior ++ one ∷ []) block (stands-more form sizes before prior line one s is)
          ∙ sym (ap (λ o. judged o others.1 block) (cond-false _ (Some one.line) (first_repeat (prior ++ one ∷ []) others.0) fresh))
    ]))
    (λ fault is.
    ap_found (Judge end form sizes (suc n) before (line ∷ lines) block) prior block all (with_first (Err fault) others) (ap (λ r. with_first r others) is)
    (judge-fault end form sizes n before line lines block fault (code-fault form sizes before prior line fault s is)))

-- ---- What the entries are

-- the numbers of these lines rise, are greater than n, and at most m
abbrev AreNumbered : ℕ → ℕ → List (ℕ × List ℕ) → Type 0
AreNumbered n m [] = Unit {0}
AreNumbered n m (line ∷ lines) = (n < line.0) × (line.0 ≤ m) × AreNumbered line.0 m lines

numbered-from : (n m : ℕ) (lines : List (List ℕ)) → n + length lines ≤ m → AreNumbered n m (numbered (suc n) lines)
numbered-from n m [] le = tt
numbered-from n m (line ∷ lines) le = (omega arith, omega (arith, le), numbered-from (suc n) m lines (omega (arith, le)))

numbered-later : (k n m : ℕ) (lines : List (ℕ × List ℕ)) → k ≤ n → AreNumbered n m lines → AreNumbered k m lines
numbered-later k n m [] le h = tt
numbered-later k n m (line ∷ lines) le h = (omega (arith, le, h.0), h.1, h.2)

numbered-filled : (n m : ℕ) (lines : List (ℕ × List ℕ)) → AreNumbered n m lines → AreNumbered n m (filled lines)
numbered-filled n m [] h = tt
numbered-filled n m (line ∷ lines) h =
    let rest = numbered-filled line.0 m lines h.2 in
    cond_both (not (is_empty_line line.1)) (line ∷ filled lines) (filled lines) (AreNumbered n m) (λ _. (h.0, h.1, rest)) (λ _. numbered-later n line.0 m (filled lines) (omega (arith, h.0)) rest)

-- entries within a matrix that has a form
abbrev pub AreEntries : Form → Sizes → List Listed → Type 0
AreEntries form sizes = AllByRecursion (λ (one : Listed). IsWithin sizes one.entry × (is_above form one.entry ≡ false))

pub record AreGathered (form : Form) (sizes : Sizes) (n : ℕ) (found : Found) : Type 0 where
  pub listed : AreListed n found.0
  pub entries : AreEntries form sizes found.0

gathered-first : (form : Form) (sizes : Sizes) (n m : ℕ) (line : ℕ × List ℕ) (others : Found) → sizes.columns < 2 ^ 32 → m < 2 ^ 64 → n < line.0 → line.0 ≤ m → AreGathered form sizes line.0 others
    → AreGathered form sizes n (with_first (told form sizes line) others)
gathered-first form sizes n m line others narrow few later last h =
    told_is (told form sizes line) (AreGathered form sizes n (with_first (told form sizes line) others))
    (λ one is.
    let t = told-Ok form sizes line one is in
    let (k, entry, inside, low) = told-inside form sizes line one is in
    let within = inside-within sizes k one.entry entry inside in
    let all : AreGathered form sizes n (with_first (Ok one) others) = record {
      listed = (omega (arith, t.number, later), omega (arith, t.number, last, few), omega (arith, within.last_column, narrow), subst (λ j. AreListed j others.0) (sym t.number) h.listed);
      entries = ((within, low), h.entries);
    } in
    subst (λ r. AreGathered form sizes n (with_first r others)) (sym is) all)
    (λ fault is. let none : AreGathered form sizes n ([], Some fault) = record { listed = tt; entries = tt } in subst (λ r. AreGathered form sizes n (with_first r others)) (sym is) none)

gathered-all : (form : Form) (sizes : Sizes) (end n m k : ℕ) (lines : List (ℕ × List ℕ)) → sizes.columns < 2 ^ 32 → m < 2 ^ 64 → AreNumbered n m lines → AreGathered form sizes n (gathered form sizes end k lines)
gathered-all form sizes end n m zero lines narrow few h = record { listed = tt; entries = tt }
gathered-all form sizes end n m (suc k) [] narrow few h = record { listed = tt; entries = tt }
gathered-all form sizes end n m (suc k) (line ∷ lines) narrow few h =
    gathered-first form sizes n m line (gathered form sizes end k lines) narrow few h.0 h.1 (gathered-all form sizes end line.0 m k lines narrow few h.2)

-- lines are no more than bytes
onto_more : (byte n : ℕ) (lines : List (List ℕ)) → length lines ≤ n → length (onto_line byte lines) ≤ suc n
onto_more byte n [] le = omega arith
onto_more byte n (line ∷ lines) le = omega (arith, le)

lines_few : (text : List ℕ) → length (cut_lines text) ≤ length text
lines_few [] = omega arith
lines_few (byte ∷ text) =
    let rest = lines_few text in
    cond_both (eqb byte 10) ([] ∷ cut_lines text) (onto_line byte (cut_lines text)) (λ xs. length xs ≤ suc (length text)) (λ _. omega (arith, rest)) (λ _. onto_more byte (length text) (cut_lines text) rest)

-- the entries of a text, which stands behind n lines
pub gathered_from : (form : Form) (sizes : Sizes) (k n : ℕ) (rest : List ℕ) → sizes.columns < 2 ^ 32 → n + length rest < 2 ^ 64 → AreGathered form sizes n (gathered_at form sizes k n rest)
gathered_from form sizes k n rest narrow few =
    let le = lines_few rest in
    gathered-all form sizes (line_after n rest) n (n + length rest) k (filled (lines_behind n rest)) narrow few
    (numbered-filled n (n + length rest) (lines_behind n rest) (numbered-from n (n + length rest) (lines_of rest) (omega (arith, le, length-map (cut_lines rest) without_return))))

-- ---- The block

-- entries of lines none of which breaks a rule on its own
whole : (form : Form) (sizes : Sizes) (end n k : ℕ) (lines : List (ℕ × List ℕ)) → (gathered form sizes end k lines).1 ≡ None
    → (filter_map (λ (line : ℕ × List ℕ). entry_of line.1) (take k lines) ≡ entries_of (gathered form sizes end k lines).0) × (last_number n (take k lines) ≡ last_line n (gathered form sizes end k lines).0)
whole form sizes end n zero lines h = (refl, refl)
whole form sizes end n (suc k) [] h = absurd cc
whole form sizes end n (suc k) (line ∷ lines) h =
    let others = gathered form sizes end k lines in
    told_is (told form sizes line) ((filter_map (λ (l : ℕ × List ℕ). entry_of l.1) (take (suc k) (line ∷ lines)) ≡ entries_of (with_first (told form sizes line) others).0) × (last_number n (take (suc k) (line ∷ lines)) ≡ last_line n (with_first (told form sizes line) others).0))
    (λ one is.
    let t = told-Ok form sizes line one is in
    let stop : others.1 ≡ None = ap (λ r. (with_first r others).1) (sym is) ∙ h in
    let rest = whole form sizes end line.0 k lines stop in
    let left : filter_map (λ (l : ℕ × List ℕ). entry_of l.1) (line ∷ take k lines) ≡ one.entry ∷ filter_map (λ (l : ℕ × List ℕ). entry_of l.1) (take k lines) = rw t.entry refl in (
      left ∙ ap (λ es. one.entry ∷ es) rest.0 ∙ sym (ap (λ r. entries_of (with_first r others).0) is),
      rest.1 ∙ ap (λ m. last_line m others.0) (sym t.number) ∙ sym (ap (λ r. last_line n (with_first r others).0) is),
    ))
    (λ fault is. absurd (let e : Some fault ≡ None = ap (λ r. (with_first r others).1) (sym is) ∙ h in cc))

-- the block of lines, by what was gathered from them
pub block_judged : (grid : ℕ) (lines : List (List ℕ)) (form : Form) (sizes : Sizes) (n : ℕ) (rest : List ℕ) (listed : List Listed) (stop : Option MarketFault)
    → IsHead grid lines form sizes n rest → gathered_at form sizes sizes.entries n rest ≡ (listed, stop)
    → block_in grid lines ≡ judged (first_repeat [] listed) stop (block_of form sizes n (take sizes.entries (filled (lines_behind n rest))))
block_judged grid lines form sizes n rest listed stop head found =
    let entry_lines = filled (lines_behind n rest) in
    let block = block_of form sizes n (take sizes.entries entry_lines) in
    head ∙ judge_gathered (line_after n rest) form sizes sizes.entries [] entry_lines [] block (stands-none form)
    ∙ ap (λ (f : Found). judged (first_repeat [] f.0) f.1 block) found

pub repeat_told : (grid : ℕ) (lines : List (List ℕ)) (form : Form) (sizes : Sizes) (n : ℕ) (rest : List ℕ) (listed : List Listed) (stop : Option MarketFault) (line : ℕ)
    → IsHead grid lines form sizes n rest → gathered_at form sizes sizes.entries n rest ≡ (listed, stop) → first_repeat [] listed ≡ Some line → block_in grid lines ≡ Err (fault_at line 11)
repeat_told grid lines form sizes n rest listed stop line head found repeat =
    block_judged grid lines form sizes n rest listed stop head found
    ∙ ap (λ o. judged o stop (block_of form sizes n (take sizes.entries (filled (lines_behind n rest))))) repeat

pub stop_told : (grid : ℕ) (lines : List (List ℕ)) (form : Form) (sizes : Sizes) (n : ℕ) (rest : List ℕ) (listed : List Listed) (fault : MarketFault)
    → IsHead grid lines form sizes n rest → gathered_at form sizes sizes.entries n rest ≡ (listed, Some fault) → first_repeat [] listed ≡ None → block_in grid lines ≡ Err fault
stop_told grid lines form sizes n rest listed fault head found repeat =
    block_judged grid lines form sizes n rest listed (Some fault) head found
    ∙ ap (λ o. judged o (Some fault) (block_of form sizes n (take sizes.entries (filled (lines_behind n rest))))) repeat

pub before_told : (grid : ℕ) (lines : List (List ℕ)) (form : Form) (sizes : Sizes) (n : ℕ) (rest : List ℕ) (listed : List Listed) (stop : MarketFault) (repeat : Option ℕ)
    → IsHead grid lines form sizes n rest → gathered_at form sizes sizes.entries n rest ≡ (listed, Some stop) → first_repeat [] listed ≡ repeat → block_in grid lines ≡ Err (fault_before stop repeat)
before_told grid lines form sizes n rest listed stop None head found none = stop_told grid lines form sizes n rest listed stop head found none
before_told grid lines form sizes n rest listed stop (Some line) head found repeat = repeat_told grid lines form sizes n rest listed (Some stop) line head found repeat

-- the block of entries
abbrev pub Listing : Form → Sizes → ℕ → List Listed → Block
Listing form sizes n listed = record { form = form; sizes = sizes; entries = entries_of listed; lines = last_line n listed }

same_block : (form : Form) (sizes : Sizes) (es fs : List Entry) (m k : ℕ) → es ≡ fs → m ≡ k
    → ◌≡◌ {A = Block} (record { form = form; sizes = sizes; entries = es; lines = m }) (record { form = form; sizes = sizes; entries = fs; lines = k })
same_block form sizes es fs m k entries lines = λ i. record { form = form; sizes = sizes; entries = entries i; lines = lines i }

pub block_told : (grid : ℕ) (lines : List (List ℕ)) (form : Form) (sizes : Sizes) (n : ℕ) (rest : List ℕ) (listed : List Listed)
    → IsHead grid lines form sizes n rest → gathered_at form sizes sizes.entries n rest ≡ (listed, None) → first_repeat [] listed ≡ None → block_in grid lines ≡ Ok (Listing form sizes n listed)
block_told grid lines form sizes n rest listed head found repeat =
    let entry_lines = filled (lines_behind n rest) in
    let all = whole form sizes (line_after n rest) n sizes.entries entry_lines (ap (λ (f : Found). f.1) found) in
    let entries = all.0 ∙ ap (λ (f : Found). entries_of f.0) found in
    let last = all.1 ∙ ap (λ (f : Found). last_line n f.0) found in
    block_judged grid lines form sizes n rest listed None head found
    ∙ ap (λ o. judged o None (block_of form sizes n (take sizes.entries entry_lines))) repeat
    ∙ ap Ok (same_block form sizes _ _ _ _ entries last)

-- ---- Its matrix

entries-within : (form : Form) (sizes : Sizes) (listed : List Listed) → AreEntries form sizes listed → AllByRecursion (IsWithin sizes) (entries_of listed)
entries-within form sizes [] h = tt
entries-within form sizes (one ∷ ones) h = (h.0.0, entries-within form sizes ones h.1)

entries-low : (form : Form) (sizes : Sizes) (listed : List Listed) → AreEntries form sizes listed → AreLow form (entries_of listed)
entries-low form sizes [] h = tt
entries-low form sizes (one ∷ ones) h = (h.0.1, entries-low form sizes ones h.1)

-- the entries of a text, for a sort
pub listed_from : (form : Form) (sizes : Sizes) (n : ℕ) (rest : List ℕ) (listed : List Listed) (stop : Option MarketFault) → sizes.columns < 2 ^ 32 → n + length rest < 2 ^ 64
    → gathered_at form sizes sizes.entries n rest ≡ (listed, stop) → AreGathered form sizes n (listed, stop)
listed_from form sizes n rest listed stop narrow few found =
    subst (AreGathered form sizes n) found (gathered_from form sizes sizes.entries n rest narrow few)

listed-before : (n : ℕ) (listed : List Listed) → AreListed n listed → AreListed 0 listed
listed-before n [] h = tt
listed-before n (one ∷ ones) h = (omega (arith, h.0), h.1, h.2, h.3)

pub listed_all : (form : Form) (sizes : Sizes) (n : ℕ) (rest : List ℕ) (listed : List Listed) (stop : Option MarketFault) → sizes.columns < 2 ^ 32 → n + length rest < 2 ^ 64
    → gathered_at form sizes sizes.entries n rest ≡ (listed, stop) → AreListed 0 listed
listed_all form sizes n rest listed stop narrow few found = listed-before n listed (listed_from form sizes n rest listed stop narrow few found).listed

pub block_cells : (form : Form) (sizes : Sizes) (n : ℕ) (rest : List ℕ) (listed sorted : List Listed) → sizes.columns < 2 ^ 32 → n + length rest < 2 ^ 64
    → gathered_at form sizes sizes.entries n rest ≡ (listed, None) → IsPermutation listed sorted → rise (entries_of sorted) ≡ true
    → entry_cells (filter is_number (entries_of sorted)) ≡ cells_listed form (matrix_of (Listing form sizes n listed))
block_cells form sizes n rest listed sorted narrow few found moved rises =
    let all = (listed_from form sizes n rest listed None narrow few found).entries in
    let same = IsPermutation-map (λ (one : Listed). one.entry) listed sorted moved in
    market_cells form sizes (entries_of listed) (entries_of sorted) (last_line n listed) narrow (entries-within form sizes listed all) (entries-low form sizes listed all) same
    (sym (apart-IsPermutation (entries_of listed) (entries_of sorted) same) ∙ apart_rise (entries_of sorted) rises) rises
