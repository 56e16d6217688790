-- The entries of the lines of a block, one after the other.
use Rattle.std.proofs.Common.{◌≡◌, ℕ, suc, ◌+◌, ◌-◌, ◌<◌, false, List, [], ◌∷◌, ◌++◌, None, Some, Ok, Err, inl, inr, refl, sym, ap, ◌∙◌, arith, append_assoc, append-nil}
use Rattle.std.specs.Prelude.{not}
use Rattle.std.proofs.lemmas.Bool.{cases_Bool, cond-true, cond-false, not_from_true, not_from_false}
use Rattle.mm_text.specs.declared.market.Form.{Form}
use Rattle.mm_text.specs.declared.market.MarketFault.{MarketFault}
use Rattle.mm_text.specs.declared.places.Listed.{Listed}
use Rattle.mm_text.specs.Block.{Sizes, is_empty_line, fault_at}
use Rattle.mm_text.specs.Steps.{Passes, lines_behind, line_after, from_line, filled, told, Found, with_first, gathered, gathered_at, last_line}

-- ---- Lines that are not blank

pub filled_none : (lines : List (ℕ × List ℕ)) → from_line false lines ≡ [] → filled lines ≡ []
filled_none [] h = refl
filled_none (x ∷ xs) h =
    elim (cases_Bool (is_empty_line x.1)) [
      | inl blank ↦
          cond-false (not (is_empty_line x.1)) (x ∷ filled xs) (filled xs) (not_from_true _ blank) ∙ filled_none xs (sym (cond-true (is_empty_line x.1) (from_line false xs) (x ∷ xs) blank) ∙ h)
      | inr other ↦ let e : x ∷ xs ≡ [] = sym (cond-false (is_empty_line x.1) (from_line false xs) (x ∷ xs) other) ∙ h in absurd cc
    ]

pub filled_next : (lines : List (ℕ × List ℕ)) (line : ℕ × List ℕ) (rest : List (ℕ × List ℕ)) → from_line false lines ≡ line ∷ rest → filled lines ≡ line ∷ filled rest
filled_next [] line rest h = absurd cc
filled_next (x ∷ xs) line rest h =
    elim (cases_Bool (is_empty_line x.1)) [
      | inl blank ↦
          cond-false (not (is_empty_line x.1)) (x ∷ filled xs) (filled xs) (not_from_true _ blank)
          ∙ filled_next xs line rest (sym (cond-true (is_empty_line x.1) (from_line false xs) (x ∷ xs) blank) ∙ h)
      | inr other ↦
          let e : x ∷ xs ≡ line ∷ rest = sym (cond-false (is_empty_line x.1) (from_line false xs) (x ∷ xs) other) ∙ h in
          let head : x ≡ line = cc in
          let tail : xs ≡ rest = cc in
          cond-true (not (is_empty_line x.1)) (x ∷ filled xs) (filled xs) (not_from_false _ other) ∙ ap (λ y. y ∷ filled xs) head ∙ ap (λ ys. line ∷ filled ys) tail
    ]

-- ---- The next line

pub next_missing : (form : Form) (sizes : Sizes) (n : ℕ) (rest : List ℕ) (fault : MarketFault) → from_line false (lines_behind n rest) ≡ [] → fault ≡ fault_at (line_after n rest) 13
    → (k : ℕ) → gathered_at form sizes (suc k) n rest ≡ ([], Some fault)
next_missing form sizes n rest fault none is k =
    ap (gathered form sizes (line_after n rest) (suc k)) (filled_none (lines_behind n rest) none) ∙ ap (λ (f : MarketFault). ([], Some f)) (sym is)

pub next_bad : (form : Form) (sizes : Sizes) (n m : ℕ) (rest line behind : List ℕ) (fault : MarketFault) → from_line false (lines_behind n rest) ≡ (m, line) ∷ lines_behind m behind
    → Err fault ≡ told form sizes (m, line) → (k : ℕ) → gathered_at form sizes (suc k) n rest ≡ ([], Some fault)
next_bad form sizes n m rest line behind fault at bad k =
    ap (gathered form sizes (line_after n rest) (suc k)) (filled_next (lines_behind n rest) (m, line) (lines_behind m behind) at)
    ∙ ap (λ r. with_first r (gathered form sizes (line_after n rest) k (filled (lines_behind m behind)))) (sym bad)

pub next_good : (form : Form) (sizes : Sizes) (n m : ℕ) (rest line behind : List ℕ) (one : Listed) → Passes n rest m behind → from_line false (lines_behind n rest) ≡ (m, line) ∷ lines_behind m behind
    → Ok one ≡ told form sizes (m, line) → (k : ℕ) → gathered_at form sizes (suc k) n rest ≡ with_first (Ok one) (gathered_at form sizes k m behind)
next_good form sizes n m rest line behind one passes at good k =
    let end : line_after n rest ≡ line_after m behind = ap suc (sym passes.total) in
    ap (gathered form sizes (line_after n rest) (suc k)) (filled_next (lines_behind n rest) (m, line) (lines_behind m behind) at)
    ∙ ap (λ r. with_first r (gathered form sizes (line_after n rest) k (filled (lines_behind m behind)))) (sym good)
    ∙ ap (λ e. with_first (Ok one) (gathered form sizes e k (filled (lines_behind m behind)))) end

-- ---- All of them

-- what is found behind entries that were found before
abbrev pub behind_found : List Listed → Found → Found
behind_found before found = (before ++ found.0, found.1)

less_one : (n k : ℕ) → k < n → n - k ≡ suc (n - (k + 1))
less_one n k lt = omega arith

behind_one : (before : List Listed) (one : Listed) (found : Found) → behind_found before (with_first (Ok one) found) ≡ behind_found (before ++ one ∷ []) found
behind_one before one found = ap (λ (xs : List Listed). (xs, found.1)) (sym (append_assoc before (one ∷ []) found.0))

pub gathered_more : (form : Form) (sizes : Sizes) (n k m l : ℕ) (all : Found) (before : List Listed) (rest behind : List ℕ) (one : Listed) → k < n
    → all ≡ behind_found before (gathered_at form sizes (n - k) m rest)
    → ((j : ℕ) → gathered_at form sizes (suc j) m rest ≡ with_first (Ok one) (gathered_at form sizes j l behind))
    → all ≡ behind_found (before ++ one ∷ []) (gathered_at form sizes (n - (k + 1)) l behind)
gathered_more form sizes n k m l all before rest behind one lt so_far next =
    so_far ∙ ap (λ j. behind_found before (gathered_at form sizes j m rest)) (less_one n k lt) ∙ ap (behind_found before) (next (n - (k + 1)))
    ∙ behind_one before one (gathered_at form sizes (n - (k + 1)) l behind)

pub gathered_stop : (form : Form) (sizes : Sizes) (n k m : ℕ) (all : Found) (before : List Listed) (rest : List ℕ) (fault : MarketFault) → k < n
    → all ≡ behind_found before (gathered_at form sizes (n - k) m rest)
    → ((j : ℕ) → gathered_at form sizes (suc j) m rest ≡ ([], Some fault))
    → all ≡ (before, Some fault)
gathered_stop form sizes n k m all before rest fault lt so_far stop =
    so_far ∙ ap (λ j. behind_found before (gathered_at form sizes j m rest)) (less_one n k lt) ∙ ap (behind_found before) (stop (n - (k + 1)))
    ∙ ap (λ (xs : List Listed). (xs, Some fault)) (append-nil before)

pub gathered_end : (form : Form) (sizes : Sizes) (n k m : ℕ) (all : Found) (before : List Listed) (rest : List ℕ) → n - k ≡ 0
    → all ≡ behind_found before (gathered_at form sizes (n - k) m rest) → all ≡ (before, None)
gathered_end form sizes n k m all before rest none so_far =
    so_far ∙ ap (λ j. behind_found before (gathered_at form sizes j m rest)) none ∙ ap (λ (xs : List Listed). (xs, None)) (append-nil before)

-- the last line goes on with each entry
pub last_line-push : (n : ℕ) (before : List Listed) (one : Listed) → last_line n (before ++ one ∷ []) ≡ one.line
last_line-push n [] one = refl
last_line-push n (first ∷ before) one = last_line-push first.line before one
