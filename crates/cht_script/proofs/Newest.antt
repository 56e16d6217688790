-- The newest of things that came one after another. Crates above may cite this.
use Rattle.std.proofs.Common.{◌≡◌, ℕ, suc, ◌<◌, Bool, true, false, cond, List, [], ◌∷◌, ◌++◌, length, map, Option, None, Some, slice_get, refl, ap, ◌∙◌, inl, inr, arith}
use Rattle.std.specs.Prelude.{◌||◌, not, is_none, option_map}
use Rattle.std.specs.List.{list_any}
use Rattle.std.proofs.lemmas.Bool.{cases_Bool, true≢false}
use Rattle.mm_text.specs.Faults.{or_else}
use Rattle.cht_script.specs.Newest.{newest, newest_number}

-- ---- One more at the end

push_case : (b : Bool) (n : ℕ) (o last : Option ℕ) → or_else (option_map suc (cond b (Some n) o)) last ≡ cond b (Some (suc n)) (or_else (option_map suc o) last)
push_case true n o last = refl
push_case false n o last = refl

pub newest_number-push : {A : Type 0} (fits : A → Bool) (xs : List A) (y : A)
    → newest_number fits (xs ++ y ∷ []) ≡ cond (fits y) (Some (length xs)) (newest_number fits xs)
newest_number-push fits [] y = refl
newest_number-push fits (x ∷ xs) y =
    ap (λ o. or_else (option_map suc o) (cond (fits x) (Some 0) None)) (newest_number-push fits xs y)
    ∙ push_case (fits y) (length xs) (newest_number fits xs) (cond (fits x) (Some 0) None)

-- ---- Where nothing fits

pub number-none : {A : Type 0} (fits : A → Bool) (xs : List A) → list_any fits xs ≡ false → newest_number fits xs ≡ None
number-none fits [] h = refl
number-none fits (x ∷ xs) h =
    elim (cases_Bool (fits x)) [
      | inl really ↦ absurd (true≢false (rw really at h))
      | inr never ↦ rw (never, number-none fits xs (rw never at h)) refl
    ]

none_case : (b : Bool) (o : Option ℕ) → or_else (option_map suc o) (cond b (Some 0) None) ≡ None → (b ≡ false) × (o ≡ None)
none_case true None h = absurd (let e : Some 0 ≡ None = h in cc)
none_case true (Some n) h = absurd (let e : Some (suc n) ≡ None = h in cc)
none_case false None h = (refl, refl)
none_case false (Some n) h = absurd (let e : Some (suc n) ≡ None = h in cc)

pub none-number : {A : Type 0} (fits : A → Bool) (xs : List A) → newest_number fits xs ≡ None → list_any fits xs ≡ false
none-number fits [] h = refl
none-number fits (x ∷ xs) h =
    let both = none_case (fits x) (newest_number fits xs) h in rw both.0 (none-number fits xs both.1)

newest-none : {A : Type 0} (fits : A → Bool) (xs : List A) → newest_number fits xs ≡ None → newest fits xs ≡ None
newest-none fits [] h = refl
newest-none fits (x ∷ xs) h =
    let both = none_case (fits x) (newest_number fits xs) h in rw (both.0, newest-none fits xs both.1) refl

-- ---- Where one does

-- the newest thing that fits stands at its number
pub record IsNewest {A : Type 0} (fits : A → Bool) (xs : List A) (number : ℕ) : Type 0 where
  pub item : A
  pub here : slice_get xs number ≡ Some item
  pub last : newest fits xs ≡ Some item
  pub within : number < length xs

first_case : (b : Bool) (number : ℕ) → cond b (Some 0) None ≡ Some number → (b ≡ true) × (0 ≡ number)
first_case true number h = (refl, cc)
first_case false number h = absurd (let e : None ≡ Some number = h in cc)

same_suc : (k number : ℕ) → Some (suc k) ≡ Some number → suc k ≡ number
same_suc k number h = cc

tail_case : {A : Type 0} (fits : A → Bool) (x : A) (xs : List A) (number : ℕ) (o : Option ℕ) → newest_number fits xs ≡ o
    → or_else (option_map suc o) (cond (fits x) (Some 0) None) ≡ Some number → ((k : ℕ) → newest_number fits xs ≡ Some k → IsNewest fits xs k)
    → IsNewest fits (x ∷ xs) number
tail_case fits x xs number None none h behind =
    let first = first_case (fits x) number h in
    rw (← first.1)
    (record { item = x; here = refl; last = rw (newest-none fits xs none, first.0) refl; within = omega arith })
tail_case fits x xs number (Some k) some h behind =
    let at = behind k some in
    rw (← same_suc k number h)
    (record { item = at.item; here = at.here; last = rw at.last refl; within = omega (arith, at.within) })

pub newest_at : {A : Type 0} (fits : A → Bool) (xs : List A) (number : ℕ) → newest_number fits xs ≡ Some number → IsNewest fits xs number
newest_at fits [] number h = absurd (let e : None ≡ Some number = h in cc)
newest_at fits (x ∷ xs) number h = tail_case fits x xs number (newest_number fits xs) refl h (λ k e. newest_at fits xs k e)

-- ---- Of changed things

pub newest_number-map : {A B : Type 0} (change : A → B) (fits : B → Bool) (xs : List A)
    → newest_number fits (map change xs) ≡ newest_number (λ x. fits (change x)) xs
newest_number-map change fits [] = refl
newest_number-map change fits (x ∷ xs) =
    ap (λ o. or_else (option_map suc o) (cond (fits (change x)) (Some 0) None)) (newest_number-map change fits xs)

-- ---- Whether something fits, and one more at the end

any_case : {A : Type 0} (b : Bool) (x : A) (o : Option A) (any : Bool) → any ≡ not (is_none o) → (b || any) ≡ not (is_none (or_else o (cond b (Some x) None)))
any_case true x None any h = refl
any_case true x (Some y) any h = refl
any_case false x None any h = h
any_case false x (Some y) any h = h

pub any_newest : {A : Type 0} (fits : A → Bool) (xs : List A) → list_any fits xs ≡ not (is_none (newest fits xs))
any_newest fits [] = refl
any_newest fits (x ∷ xs) = any_case (fits x) x (newest fits xs) (list_any fits xs) (any_newest fits xs)

last_case : {A : Type 0} (b : Bool) (y : A) (o last : Option A) → or_else (cond b (Some y) o) last ≡ cond b (Some y) (or_else o last)
last_case true y o last = refl
last_case false y o last = refl

pub newest-push : {A : Type 0} (fits : A → Bool) (xs : List A) (y : A) → newest fits (xs ++ y ∷ []) ≡ cond (fits y) (Some y) (newest fits xs)
newest-push fits [] y = refl
newest-push fits (x ∷ xs) y =
    ap (λ o. or_else o (cond (fits x) (Some x) None)) (newest-push fits xs y) ∙ last_case (fits y) y (newest fits xs) (cond (fits x) (Some x) None)
