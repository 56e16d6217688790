-- Lists in pieces of one length.
use Rattle.std.proofs.Common.{◌≡◌, ◌⊎◌, inl, inr, Bool, true, false, ◌==◌, ℕ, zero, suc, ◌+◌, ◌-◌, ◌*◌, ◌<◌, ◌≤◌, List, [], ◌∷◌, ◌++◌, Option, None, Some, length, slice_get, refl, sym, ap, subst, ◌∙◌, arith, length-append}
use Rattle.std.proofs.lemmas.List.{append_assoc, append-nil}
use Rattle.std.proofs.lemmas.Grind.{flat_map-append}
use Rattle.std.specs.List.{flat_map, AllByRecursion}

-- a list begins where the one before it ends
pub get_behind : {A : Type 0} (xs ys : List A) (i : ℕ) → slice_get (xs ++ ys) (length xs + i) ≡ slice_get ys i
get_behind [] ys i = ap (slice_get ys) (omega arith)
get_behind (x ∷ xs) ys i =
    let step : length (x ∷ xs) + i ≡ suc (length xs + i) = omega arith in rw step (get_behind xs ys i)

-- a place in the front of a list
pub get_front : {A : Type 0} (xs ys : List A) (i : ℕ) → i < length xs → slice_get (xs ++ ys) i ≡ slice_get xs i
get_front [] ys i below = absurd (omega (arith, below))
get_front (x ∷ xs) ys zero below = refl
get_front (x ∷ xs) ys (suc i) below = get_front xs ys i (omega (arith, below))

-- a place behind so many in front
pub get_rest : {A : Type 0} (xs ys : List A) (n i : ℕ) → length xs ≡ n → n ≤ i → slice_get (xs ++ ys) i ≡ slice_get ys (i - n)
get_rest xs ys n i e above =
    let split : i ≡ length xs + (i - n) = omega arith in
    ap (slice_get (xs ++ ys)) split ∙ get_behind xs ys (i - n)

module _ {X A : Type 0} (f : X → List A) (n : ℕ) where
  -- how long pieces are together
  pub pieces_length : (xs : List X) → AllByRecursion (λ x. length (f x) ≡ n) xs → length (flat_map f xs) ≡ length xs * n
  pieces_length [] all = omega arith
  pieces_length (x ∷ xs) all = rw (length-append (f x) (flat_map f xs)) (omega (arith, all.0, pieces_length xs all.1))

  -- a place in one of the pieces
  pub in_piece : (xs : List X) (ys : List A) (k j : ℕ) (x : X) → AllByRecursion (λ x. length (f x) ≡ n) xs → j < n → slice_get xs k ≡ Some x
      → slice_get (flat_map f xs ++ ys) (k * n + j) ≡ slice_get (f x) j
  in_piece [] ys k j x all below there = cc
  in_piece (z ∷ xs) ys zero j x all below there =
      let same : z ≡ x = cc in
      let first : j < length (f z) = omega (arith, all.0) in
      ap (slice_get (f z ++ flat_map f xs ++ ys)) (omega arith) ∙ ap (λ list. slice_get list j) (append_assoc (f z) (flat_map f xs) ys) ∙ get_front (f z) (flat_map f xs ++ ys) j first ∙ ap (λ piece. slice_get (f piece) j) same
  in_piece (z ∷ xs) ys (suc k) j x all below there =
      let split : suc k * n + j ≡ length (f z) + (k * n + j) = omega (arith, all.0) in
      ap (slice_get (f z ++ flat_map f xs ++ ys)) split ∙ ap (λ list. slice_get list (length (f z) + (k * n + j))) (append_assoc (f z) (flat_map f xs) ys) ∙ get_behind (f z) (flat_map f xs ++ ys) (k * n + j) ∙ in_piece xs ys k j x all.1 below there

-- what holds of each item holds with one more at the end
pub all_push : {X : Type 0} (P : X → Type 0) (xs : List X) (x : X) → AllByRecursion P xs → P x → AllByRecursion P (xs ++ x ∷ [])
all_push P [] x all one = (one, tt)
all_push P (z ∷ xs) x all one = (all.0, all_push P xs x all.1 one)

-- and without the one at the end
pub all_front : {X : Type 0} (P : X → Type 0) (xs : List X) (x : X) → AllByRecursion P (xs ++ x ∷ []) → AllByRecursion P xs × P x
all_front P [] x all = (tt, all.0)
all_front P (z ∷ xs) x all = let rest = all_front P xs x all.1 in ((all.0, rest.0), rest.1)

-- of two numbers, one that is not 0 is the other
pub first_of_two : (n m : ℕ) → (n ≡ m) ⊎ (n ≡ 0) → 1 ≤ n → n ≡ m
first_of_two n m (inl e) some = e
first_of_two n m (inr e) some = absurd (omega (arith, e, some))

-- nothing stands past the end alone
pub none_past : {X : Type 0} (xs : List X) (i : ℕ) → slice_get xs i ≡ None → length xs ≤ i
none_past [] i none = omega arith
none_past (x ∷ xs) zero none = absurd cc
none_past (x ∷ xs) (suc i) none = omega (arith, none_past xs i none)

-- a list without length has no items
pub nothing_in : {X : Type 0} (xs : List X) → length xs ≡ 0 → xs ≡ []
nothing_in [] e = refl
nothing_in (x ∷ xs) e = absurd (omega (arith, e))

module _ {X A : Type 0} (items : X → List A) (capacity : X → ℕ) where
  -- of empty pieces the last one, and the others
  pub last_empty : (spares rest : List X) (next : X) → spares ≡ rest ++ next ∷ []
      → AllByRecursion (λ x. (length (items x) ≡ 0) × (capacity x ≡ 1024)) spares
      → AllByRecursion (λ x. (length (items x) ≡ 0) × (capacity x ≡ 1024)) rest × ((length (items next) ≡ 0) × (capacity next ≡ 1024))
  last_empty spares rest next e all =
      all_front (λ x. (length (items x) ≡ 0) × (capacity x ≡ 1024)) rest next (subst (λ list. AllByRecursion (λ x. (length (items x) ≡ 0) × (capacity x ≡ 1024)) list) e all)

  -- a piece that is full goes behind the others, and an empty one takes its place
  pub same_events : (full grown : List X) (done next : X) (now : List A) → grown ≡ full ++ done ∷ [] → items done ≡ now → length (items next) ≡ 0
      → flat_map items grown ++ items next ≡ flat_map items full ++ now
  same_events full grown done next now e same empty =
      rw (e, nothing_in (items next) empty, append-nil (flat_map items (full ++ done ∷ [])), flat_map-append items full (done ∷ []), append-nil (items done), same) refl

-- what the test for 0 tells of a number
pub some_there : (n : ℕ) → (n == 0) ≡ false → 1 ≤ n
some_there zero e = absurd cc
some_there (suc n) e = omega arith

pub none_there : (n : ℕ) → (n == 0) ≡ true → n ≡ 0
none_there n e = grind (arith, e)
