-- The list of a function's values, the entry of a matrix, and the matrix with given entries.
use Rattle.std.proofs.Common.{◌≡◌, ℕ, zero, suc, ◌+◌, ◌<◌, ◌≤◌, List, [], ◌∷◌, length, get_or, ℤ, pos, refl, sym, ap, ap₂, ◌∙◌, subst, ⊎_elim, ◌-◌, arith}
use Rattle.std.proofs.lemmas.Bool.{cases_lt}
use Rattle.dense_def.specs.Matrix.{Matrix, height, entry, IsMatrix, tabulate, made}

-- a list of n values has n elements
pub length-tabulate : {A : Type 0} → (n : ℕ) (f : ℕ → A) → length (tabulate n f) ≡ n
length-tabulate zero f = refl
length-tabulate (suc n) f = ap suc (length-tabulate n (λ i. f (suc i)))

-- and the value f i stands at index i
pub get_or-tabulate : {A : Type 0} → (n i : ℕ) (f : ℕ → A) (d : A) → i < n → get_or (tabulate n f) i d ≡ f i
get_or-tabulate zero i f d h = absurd (omega arith)
get_or-tabulate (suc n) zero f d h = refl
get_or-tabulate (suc n) (suc i) f d h = get_or-tabulate n i (λ k. f (suc k)) d (omega arith)

-- two lists of values are equal where the values are, index by index
pub tabulate_ext : {A : Type 0} → (n : ℕ) (f g : ℕ → A) → ((i : ℕ) → i < n → f i ≡ g i) → tabulate n f ≡ tabulate n g
tabulate_ext zero f g same = refl
tabulate_ext (suc n) f g same =
    ap₂ ◌∷◌ (same 0 (omega arith)) (tabulate_ext n (λ i. f (suc i)) (λ i. g (suc i)) (λ i h. same (suc i) (omega arith)))

-- a list is the list of its elements
pub tabulate-get_or : {A : Type 0} → (n : ℕ) (xs : List A) (d : A) → length xs ≡ n → xs ≡ tabulate n (λ i. get_or xs i d)
tabulate-get_or zero [] d h = refl
tabulate-get_or zero (x ∷ xs) d h = absurd (omega arith)
tabulate-get_or (suc n) [] d h = absurd (omega arith)
tabulate-get_or (suc n) (x ∷ xs) d h = ap (λ r. x ∷ r) (tabulate-get_or n xs d (omega arith))

-- a made matrix has the rows that it was made with
pub height-made : (rows columns : ℕ) (f : ℕ → ℕ → ℤ) → height (made rows columns f) ≡ rows
height-made rows columns f = length-tabulate rows (λ i. tabulate columns (λ j. f i j))

-- and the numbers that it was made with
pub entry_made : (rows columns : ℕ) (f : ℕ → ℕ → ℤ) (i j : ℕ) → i < rows → j < columns → entry (made rows columns f) i j ≡ f i j
entry_made rows columns f i j h k =
    ap (λ row. get_or row j (pos 0)) (get_or-tabulate rows i (λ p. tabulate columns (λ q. f p q)) [] h) ∙ get_or-tabulate columns j (λ q. f i q) (pos 0) k

-- a made matrix is one
pub IsMatrix-made : (rows columns : ℕ) (f : ℕ → ℕ → ℤ) → IsMatrix (made rows columns f)
IsMatrix-made rows columns f = λ i d h.
    ap length (get_or-tabulate rows i (λ p. tabulate columns (λ q. f p q)) d (rw height-made at h)) ∙ length-tabulate columns (λ q. f i q)

-- two matrices of one shape and with equal numbers at each place are equal
pub made_ext : (rows columns : ℕ) (f g : ℕ → ℕ → ℤ) → ((i j : ℕ) → i < rows → j < columns → f i j ≡ g i j) → made rows columns f ≡ made rows columns g
made_ext rows columns f g same =
    ap (λ (r : List (List ℤ)). record { columns = columns; rows = r }) (tabulate_ext rows (λ i. tabulate columns (λ j. f i j)) (λ i. tabulate columns (λ j. g i j)) (λ i h. tabulate_ext columns (λ j. f i j) (λ j. g i j) (λ j k. same i j h k)))

-- the same, where the sizes are equal and not written alike
pub made_same : (r c r' c' : ℕ) (f g : ℕ → ℕ → ℤ) → r ≡ r' → c ≡ c' → ((i j : ℕ) → i < r → j < c → f i j ≡ g i j) → made r c f ≡ made r' c' g
made_same r c r' c' f g e k same = ap₂ (λ x y. made x y f) e k ∙ made_ext r' c' f g (λ i j h l. same i j (omega arith) (omega arith))

-- a matrix is made of its own numbers
pub made_entry : (m : Matrix) → IsMatrix m → m ≡ made (height m) m.columns (λ i j. entry m i j)
made_entry m whole =
    ap (λ (r : List (List ℤ)). record { columns = m.columns; rows = r })
    (tabulate-get_or (height m) m.rows [] refl
    ∙ tabulate_ext (height m) (λ i. get_or m.rows i []) (λ i. tabulate m.columns (λ j. entry m i j))
    (λ i h. tabulate-get_or m.columns (get_or m.rows i []) (pos 0) (whole i [] h)))

-- what holds at each index before a split and at each index from it on holds at each index
split_at : (P : ℕ → Type 0) (front back : ℕ) → ((i : ℕ) → i < front → P i) → ((i : ℕ) → i < back → P (front + i)) → (i : ℕ) → i < front + back → P i
split_at P front back before after i h =
    ⊎_elim (λ (l : i < front). before i l)
    (λ (l : front ≤ i). let same : front + (i - front) ≡ i = omega arith in subst P same (after (i - front) (omega arith)))
    (cases_lt i front)

-- two matrices of one shape are equal where their numbers are, place by place
pub same_matrix : (m n : Matrix) → IsMatrix m → IsMatrix n → height m ≡ height n → m.columns ≡ n.columns → ((i j : ℕ) → i < height m → j < m.columns → entry m i j ≡ entry n i j) → m ≡ n
same_matrix m n whole whole' tall wide same =
    made_entry m whole
    ∙ made_same (height m) m.columns (height n) n.columns (λ i j. entry m i j) (λ i j. entry n i j) tall wide same
    ∙ sym (made_entry n whole')

-- what holds on four quadrants holds at each place
pub by_quadrants : (P : ℕ → ℕ → Type 0) (top bottom left right : ℕ) → ((i j : ℕ) → i < top → j < left → P i j) → ((i j : ℕ) → i < top → j < right → P i (left + j)) → ((i j : ℕ) → i < bottom → j < left → P (top + i) j) → ((i j : ℕ) → i < bottom → j < right → P (top + i) (left + j)) → (i j : ℕ) → i < top + bottom → j < left + right → P i j
by_quadrants P top bottom left right ul ur ll lr i j h k =
    split_at (λ p. P p j) top bottom
    (λ p l. split_at (λ q. P p q) left right (λ q m. ul p q l m) (λ q m. ur p q l m) j k)
    (λ p l. split_at (λ q. P (top + p) q) left right (λ q m. ll p q l m) (λ q m. lr p q l m) j k)
    i h
