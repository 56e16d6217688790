-- A matrix whose numbers stand row by row in one list.
use Rattle.std.proofs.Common.{◌≡◌, ℕ, zero, suc, ◌+◌, ◌*◌, ◌<◌, ◌≤◌, List, [], ◌∷◌, ◌++◌, length, get_or, ℤ, pos, refl, sym, ap, ap₂, subst, ◌∙◌, arith, ⊎_elim, length-append, append_assoc, add-one, suc-mul}
use Rattle.std.proofs.lemmas.List.{get_or_append_left, get_or-append-add}
use Rattle.std.proofs.lemmas.Nat.{mul-add-lt}
use Rattle.std.proofs.lemmas.Bool.{cases_lt}
use Rattle.dense_def.specs.Matrix.{Matrix, height, entry, IsMatrix, tabulate, made, row_by_row}
use Rattle.dense_def.proofs.Entries.{length-tabulate, get_or-tabulate, height-made, entry_made, IsMatrix-made, made_ext}

-- what a list row by row says of the matrix that it gives
pub record Stores (xs : List ℤ) (rows columns : ℕ) (m : Matrix) : Type 0 where
  pub tall : height m ≡ rows
  pub wide : m.columns ≡ columns
  pub whole : IsMatrix m
  pub place : (i j : ℕ) → i < rows → j < columns → entry m i j ≡ get_or xs (i * columns + j) (pos 0)

-- a matrix that a list gives row by row is what that list says
pub stores : (xs : List ℤ) (rows columns : ℕ) (m : Matrix) → row_by_row rows columns xs ≡ m → Stores xs rows columns m
stores xs rows columns m is =
    subst (λ x. Stores xs rows columns x) is
    (record {
      tall = height-made rows columns (λ i j. get_or xs (i * columns + j) (pos 0));
      wide = refl;
      whole = IsMatrix-made rows columns (λ i j. get_or xs (i * columns + j) (pos 0));
      place = λ i j h k. entry_made rows columns (λ p q. get_or xs (p * columns + q) (pos 0)) i j h k;
    })

-- a place of the matrix lies in the list
pub place_below : (rows columns i j n : ℕ) → n ≡ rows * columns → i < rows → j < columns → i * columns + j < n
place_below rows columns i j n is h k = omega (arith, mul-add-lt i columns j rows h k)

-- one value more, at the end
pub tabulate_more : {A : Type 0} → (n : ℕ) (f : ℕ → A) → tabulate (n + 1) f ≡ tabulate n f ++ f n ∷ []
tabulate_more n f = rw add-one (one_more n f)
  where
    one_more : {A : Type 0} → (n : ℕ) (f : ℕ → A) → tabulate (suc n) f ≡ tabulate n f ++ f n ∷ []
    one_more zero f = refl
    one_more (suc n) f = ap (λ xs. f 0 ∷ xs) (one_more n (λ i. f (suc i)))

-- a loop's step: a value pushed behind the values so far
pub tabulate_push : (base xs ys : List ℤ) (n : ℕ) (f : ℕ → ℤ) (x : ℤ) → xs ≡ base ++ tabulate n f → ys ≡ xs ++ x ∷ [] → x ≡ f n → ys ≡ base ++ tabulate (n + 1) f
tabulate_push base xs ys n f x so_far pushed is =
    pushed
    ∙ ap₂ (λ l y. l ++ y ∷ []) so_far is
    ∙ append_assoc base (tabulate n f) (f n ∷ [])
    ∙ ap (λ l. base ++ l) (sym (tabulate_more n f))

-- the lists g 0, g 1, .. g (n - 1), one after another
abbrev pub end_to_end : ℕ → (ℕ → List ℤ) → List ℤ
end_to_end zero g = []
end_to_end (suc n) g = end_to_end n g ++ g n

-- the length of lists of one length, one after another
pub length-end_to_end : (n columns : ℕ) (g : ℕ → List ℤ) → ((i : ℕ) → i < n → length (g i) ≡ columns) → length (end_to_end n g) ≡ n * columns
length-end_to_end zero columns g each = omega arith
length-end_to_end (suc n) columns g each =
    length-append (end_to_end n g) (g n)
    ∙ ap₂ ◌+◌ (length-end_to_end n columns g (λ i h. each i (omega arith))) (each n (omega arith)) ∙ sym (suc-mul n columns)

-- and the element at a place of one of them
pub get_or-end_to_end : (n columns i j : ℕ) (g : ℕ → List ℤ) (d : ℤ) → ((p : ℕ) → p < n → length (g p) ≡ columns) → i < n → j < columns → get_or (end_to_end n g) (i * columns + j) d ≡ get_or (g i) j d
get_or-end_to_end zero columns i j g d each h k = absurd (omega arith)
get_or-end_to_end (suc n) columns i j g d each h k =
    let size : length (end_to_end n g) ≡ n * columns = length-end_to_end n columns g (λ p l. each p (omega arith)) in
    ⊎_elim
    (λ (l : i < n).
    get_or_append_left (end_to_end n g) (g n) d (i * columns + j) (place_below n columns i j (length (end_to_end n g)) size l k)
    ∙ get_or-end_to_end n columns i j g d (λ p m. each p (omega arith)) l k)
    (λ (l : n ≤ i).
    let last : i ≡ n = omega arith in
    ap (λ p. get_or (end_to_end (suc n) g) (p * columns + j) d) last
    ∙ ap (λ p. get_or (end_to_end (suc n) g) (p + j) d) (sym size)
    ∙ get_or-append-add (end_to_end n g) (g n) j d
    ∙ ap (λ p. get_or (g p) j d) (sym last))
    (cases_lt i n)

-- rows of values, one after another, give the matrix of these values
pub row_by_row-end_to_end : (rows columns : ℕ) (f : ℕ → ℕ → ℤ) → row_by_row rows columns (end_to_end rows (λ i. tabulate columns (λ j. f i j))) ≡ made rows columns f
row_by_row-end_to_end rows columns f =
    made_ext rows columns _ f (λ i j h k.
    get_or-end_to_end rows columns i j (λ p. tabulate columns (λ q. f p q)) (pos 0) (λ p l. length-tabulate columns (λ q. f p q)) h k
    ∙ get_or-tabulate columns j (λ q. f i q) (pos 0) k)

-- a list of rows that were all appended gives the matrix of their values, at sizes that are equal and not written alike
pub filled : (xs : List ℤ) (n rows columns tall wide : ℕ) (f : ℕ → ℕ → ℤ) → xs ≡ end_to_end n (λ i. tabulate wide (λ j. f i j)) → n ≡ tall → tall ≡ rows → wide ≡ columns → row_by_row rows columns xs ≡ made tall wide f
filled xs n rows columns tall wide f is all same_tall same_wide =
    ap (row_by_row rows columns) (is ∙ ap (λ t. end_to_end t (λ i. tabulate wide (λ j. f i j))) all)
    ∙ ap₂ (λ r c. row_by_row r c (end_to_end tall (λ i. tabulate wide (λ j. f i j)))) (sym same_tall) (sym same_wide)
    ∙ row_by_row-end_to_end tall wide f

-- and has as many numbers as that matrix
pub filled_length : (xs : List ℤ) (n rows columns tall wide : ℕ) (f : ℕ → ℕ → ℤ) → xs ≡ end_to_end n (λ i. tabulate wide (λ j. f i j)) → n ≡ tall → tall ≡ rows → wide ≡ columns → length xs ≡ rows * columns
filled_length xs n rows columns tall wide f is all same_tall same_wide =
    ap length is
    ∙ length-end_to_end n wide (λ i. tabulate wide (λ j. f i j)) (λ i h. length-tabulate wide (λ j. f i j))
    ∙ ap₂ ◌*◌ (all ∙ same_tall) same_wide
