-- Lists of cells, one behind the other.
use Rattle.std.proofs.Common.{◌≡◌, ℕ, zero, suc, ◌+◌, ◌*◌, ◌<◌, ◌≤◌, List, [], ◌++◌, length, refl, sym, ap, ◌∙◌, arith, append_assoc, append-nil}
use Rattle.std.proofs.lemmas.List.{length-append}
use Rattle.std.proofs.Math.Nat.{suc-mul}
use Rattle.mm_text.specs.declared.market.Cell.{Cell}
use Rattle.tree_entries.specs.Strips.{lists_below}

-- lists that are the same one by one
pub lists_same : (n : ℕ) (f g : ℕ → List Cell) → ((i : ℕ) → i < n → f i ≡ g i) → lists_below n f ≡ lists_below n g
lists_same zero f g same = refl
lists_same (suc n) f g same =
    ap (λ xs. xs ++ lists_below n (λ i. f (suc i))) (same 0 (omega arith))
    ∙ ap (λ xs. g 0 ++ xs) (lists_same n (λ i. f (suc i)) (λ i. g (suc i)) (λ i lt. same (suc i) (omega arith)))

-- lists without cells
pub lists_none : (n : ℕ) (f : ℕ → List Cell) → ((i : ℕ) → i < n → f i ≡ []) → lists_below n f ≡ []
lists_none zero f none = refl
lists_none (suc n) f none =
    ap (λ xs. xs ++ lists_below n (λ i. f (suc i))) (none 0 (omega arith))
    ∙ lists_none n (λ i. f (suc i)) (λ i lt. none (suc i) (omega arith))

-- the first m lists, and n more behind them
pub lists_add : (m n : ℕ) (f : ℕ → List Cell) → lists_below (m + n) f ≡ lists_below m f ++ lists_below n (λ i. f (m + i))
lists_add zero n f =
    let e : zero + n ≡ n = omega arith in
    ap (λ k. lists_below k f) e ∙ lists_same n f (λ i. f (zero + i)) (λ i lt. let s : i ≡ zero + i = omega arith in ap f s)
lists_add (suc m) n f =
    let e : suc m + n ≡ suc (m + n) = omega arith in
    let front = lists_below m (λ i. f (suc i)) in
    ap (λ k. lists_below k f) e
    ∙ ap (λ xs. f 0 ++ xs)
    (lists_add m n (λ i. f (suc i))
    ∙ ap (λ xs. front ++ xs)
    (lists_same n (λ i. f (suc (m + i))) (λ i. f (suc m + i)) (λ i lt. let s : suc (m + i) ≡ suc m + i = omega arith in ap f s)))
    ∙ sym (append_assoc (f 0) front (lists_below n (λ i. f (suc m + i))))

-- one list more
pub lists_more : (n : ℕ) (f : ℕ → List Cell) → lists_below (n + 1) f ≡ lists_below n f ++ f n
lists_more n f =
    let e : n + 0 ≡ n = omega arith in
    lists_add n 1 f ∙ ap (λ xs. lists_below n f ++ xs) (append-nil (f (n + 0)) ∙ ap f e)

-- one list more at the end
pub list_pushed : (n : ℕ) (f : ℕ → List Cell) (now later : List Cell) → now ≡ lists_below n f → later ≡ now ++ f n → later ≡ lists_below (n + 1) f
list_pushed n f now later so_far pushed = pushed ∙ ap (λ xs. xs ++ f n) so_far ∙ sym (lists_more n f)

-- ---- How many cells

-- lists of at most so many cells each
pub lists_length : (n most : ℕ) (f : ℕ → List Cell) → ((i : ℕ) → i < n → length (f i) ≤ most) → length (lists_below n f) ≤ n * most
lists_length zero most f each = omega arith
lists_length (suc n) most f each =
    let rest = lists_length n most (λ i. f (suc i)) (λ i lt. each (suc i) (omega arith)) in
    omega (arith, each 0 (omega arith), rest, length-append (f 0) (lists_below n (λ i. f (suc i))), suc-mul n most)

-- the first of them have no more cells than all
pub front_length : (k n : ℕ) (f : ℕ → List Cell) → k ≤ n → length (lists_below k f) ≤ length (lists_below n f)
front_length zero n f le = omega arith
front_length (suc k) zero f le = absurd (omega arith)
front_length (suc k) (suc n) f le =
    omega (arith, front_length k n (λ i. f (suc i)) (omega arith), length-append (f 0) (lists_below k (λ i. f (suc i))), length-append (f 0) (lists_below n (λ i. f (suc i))))

-- what was pushed to a list that was cleared
pub pushed_alone : (read now cleared row : List Cell) → read ≡ now → now ≡ cleared ++ row → cleared ≡ [] → read ≡ row
pushed_alone read now cleared row same pushed none = same ∙ pushed ∙ ap (λ cells. cells ++ row) none
