-- Seat numbers counted over the entries of one view and of all views, and entries against the parts of a value.
use Rattle.std.proofs.Common.{◌≡◌, ◌≢◌, ℕ, zero, suc, ◌+◌, ◌<◌, ◌≤◌, ◌==◌, if◌then◌else◌, List, [], ◌∷◌, ◌++◌, map, length, take, drop, set, slice_get, refl, sym, ap, ◌∙◌, subst, arith, eq-eqb, ne_eqb}
use Rattle.std.proofs.lemmas.Option.{slice_get-get_or, slice_get_within}
use mathlib.Core.Option.{some, some-injective, some-ne-none}
use mathlib.Core.Logic.{dite}
use native.Mathlib.Decide.{ℕ_discrete}
use lib.ListN.{get_elem?}
use Rattle.seat_lock.specs.declared.rule.View.{View}
use Rattle.seat_lock.specs.Steps.{times, Fits, entries_from, renewed, times_in}

module _ {P : Type 0} where
  pub times_append : (n : ℕ) (xs ys : List (ℕ × P)) → times n (xs ++ ys) ≡ times n xs + times n ys
  times_append n [] ys = omega arith
  times_append n (x ∷ xs) ys = let h = times_append n xs ys in let one : ℕ = if x.0 == n then 1 else 0 in let goal : one + times n (xs ++ ys) ≡ one + times n xs + times n ys = omega (arith, h) in goal

  pub times_renewed : (n : ℕ) (parts : List P) (xs : List (ℕ × P)) → times n (map (renewed parts) xs) ≡ times n xs
  times_renewed n parts [] = refl
  times_renewed n parts (x ∷ xs) = ap (λ k. (if x.0 == n then 1 else 0) + k) (times_renewed n parts xs)

  -- the first entry's number is there
  pub times_first : (x : ℕ × P) (xs : List (ℕ × P)) → 1 ≤ times x.0 (x ∷ xs)
  times_first x xs = rw (eq-eqb x.0 x.0 refl) (omega arith)

  pub times_cut : (n : ℕ) (xs : List (ℕ × P)) → times n (take 1 xs) + times n (drop 1 xs) ≡ times n xs
  times_cut n [] = omega arith
  times_cut n (x ∷ xs) = let one : ℕ = if x.0 == n then 1 else 0 in let goal : (one + 0) + times n xs ≡ one + times n xs = omega arith in goal

  pub Fits_append : (parts : List P) (xs ys : List (ℕ × P)) → Fits parts xs → Fits parts ys → Fits parts (xs ++ ys)
  Fits_append parts [] ys p q = q
  Fits_append parts (x ∷ xs) ys p q = (p.0, Fits_append parts xs ys p.1 q)

  pub Fits_first : (parts : List P) (xs : List (ℕ × P)) → Fits parts xs → Fits parts (take 1 xs)
  Fits_first parts [] p = tt
  Fits_first parts (x ∷ xs) p = (p.0, tt)

  pub Fits_others : (parts : List P) (xs : List (ℕ × P)) → Fits parts xs → Fits parts (drop 1 xs)
  Fits_others parts [] p = tt
  Fits_others parts (x ∷ xs) p = p.1

  -- each entry is of a seat below the count, and it alone has its number
  pub below : (parts : List P) (entries : List (ℕ × P)) (n : ℕ) → Fits parts entries → 1 ≤ times n entries → n < length parts
  below parts [] n p h = absurd (omega (arith, h))
  below parts (x ∷ xs) n p h = dite (ℕ_discrete x.0 n) (λ e. subst (λ k. k < length parts) e (slice_get_within parts x.0 x.1 p.0))
      (λ ne. below parts xs n p.1 (let same : times n (x ∷ xs) ≡ times n xs = rw (ne_eqb x.0 n ne) (omega arith) in omega (arith, h, same)))

  -- parts that differ at one number alone fit where that number is not
  pub Fits_elsewhere : (old new : List P) (n : ℕ) (xs : List (ℕ × P)) → ((i : ℕ) → i ≢ n → slice_get old i ≡ slice_get new i) → times n xs ≡ 0 → Fits old xs → Fits new xs
  Fits_elsewhere old new n [] same none p = tt
  Fits_elsewhere old new n (x ∷ xs) same none p = dite (ℕ_discrete x.0 n)
      (λ e. let one : times n (x ∷ xs) ≡ 1 + times n xs = rw (eq-eqb x.0 n e) refl in absurd (omega (arith, none, one)))
      (λ ne. let rest : times n (x ∷ xs) ≡ times n xs = rw (ne_eqb x.0 n ne) (omega arith) in (sym (same x.0 ne) ∙ p.0, Fits_elsewhere old new n xs same (omega (arith, none, rest)) p.1))

  -- each entry has its part after it was looked up anew
  pub Fits_renewed : (old new : List P) (xs : List (ℕ × P)) → length new ≡ length old → Fits old xs → Fits new (map (renewed new) xs)
  Fits_renewed old new [] e p = tt
  Fits_renewed old new (x ∷ xs) e p = (slice_get-get_or new x.0 x.1 (let h = slice_get_within old x.0 x.1 p.0 in omega (arith, h, e)), Fits_renewed old new xs e p.1)

  pub length_renewed : (parts : List P) (xs : List (ℕ × P)) → length (map (renewed parts) xs) ≡ length xs
  length_renewed parts [] = refl
  length_renewed parts (x ∷ xs) = ap suc (length_renewed parts xs)

  -- all entries at the opening: the part at place i is that of the seat n + i
  pub times_before : (m n : ℕ) (parts : List P) → m < n → times m (entries_from n parts) ≡ 0
  times_before m n [] h = refl
  times_before m n (p ∷ ps) h = rw (ne_eqb n m (λ e. omega (arith, e, h))) (let rest = times_before m (n + 1) ps (omega (arith, h)) in omega (arith, rest))

  pub times_opening : (m n : ℕ) (parts : List P) → times m (entries_from n parts) ≤ 1
  times_opening m n [] = omega arith
  times_opening m n (p ∷ ps) = dite (ℕ_discrete n m)
      (λ e. rw (eq-eqb n m e) (let rest = times_before m (n + 1) ps (omega (arith, e)) in omega (arith, rest)))
      (λ ne. rw (ne_eqb n m ne) (let rest = times_opening m (n + 1) ps in omega (arith, rest)))

  Fits_from : (all : List P) (n : ℕ) (parts : List P) → ((i : ℕ) → slice_get all (n + i) ≡ slice_get parts i) → Fits all (entries_from n parts)
  Fits_from all n [] h = tt
  Fits_from all n (p ∷ ps) h = let at : n ≡ n + 0 = omega arith in (ap (λ k. slice_get all k) at ∙ h 0, Fits_from all (n + 1) ps (λ i. let next : n + 1 + i ≡ n + suc i = omega arith in ap (λ k. slice_get all k) next ∙ h (suc i)))

  pub Fits_opening : (all : List P) → Fits all (entries_from 0 all)
  Fits_opening all = Fits_from all 0 all (λ i. let same : 0 + i ≡ i = omega arith in ap (λ k. slice_get all k) same)

  -- a list with an entry names a seat
  pub some_number : (xs : List (ℕ × P)) → 0 < length xs → (n : ℕ) × (1 ≤ times n xs)
  some_number [] h = absurd (omega (arith, h))
  some_number (x ∷ xs) h = (x.0, times_first x xs)

  pub length_first : (xs : List (ℕ × P)) → 0 < length (take 1 xs) → 0 < length xs
  length_first [] h = h
  length_first (x ∷ xs) h = omega arith

  pub length_others : (xs : List (ℕ × P)) → 0 < length (drop 1 xs) → 0 < length xs
  length_others [] h = h
  length_others (x ∷ xs) h = omega arith

module _ {V P : Type 0} where
  pub times_set : (n : ℕ) (views : List (View V P)) (i : ℕ) (old new : View V P) → get_elem? views i ≡ some old → times_in n (set views i new) + times n old.entries ≡ times_in n views + times n new.entries
  times_set n [] i old new e = absurd (some-ne-none old (sym e))
  times_set n (v ∷ vs) zero old new e = let same : times n v.entries ≡ times n old.entries = ap (λ (u : View V P). times n u.entries) (some-injective v old e) in
      let goal : (times n new.entries + times_in n vs) + times n old.entries ≡ (times n v.entries + times_in n vs) + times n new.entries = omega (arith, same) in goal
  times_set n (v ∷ vs) (suc i) old new e = let rest = times_set n vs i old new e in
      let goal : (times n v.entries + times_in n (set vs i new)) + times n old.entries ≡ (times n v.entries + times_in n vs) + times n new.entries = omega (arith, rest) in goal

  pub times_more : (n : ℕ) (views : List (View V P)) (new : View V P) → times_in n (views ++ new ∷ []) ≡ times_in n views + times n new.entries
  times_more n [] new = omega arith
  times_more n (v ∷ vs) new = let rest = times_more n vs new in let goal : times n v.entries + times_in n (vs ++ new ∷ []) ≡ (times n v.entries + times_in n vs) + times n new.entries = omega (arith, rest) in goal

  pub times_one : (n : ℕ) (views : List (View V P)) (i : ℕ) (v : View V P) → get_elem? views i ≡ some v → times n v.entries ≤ times_in n views
  times_one n [] i v e = absurd (some-ne-none v (sym e))
  times_one n (u ∷ us) zero v e = let same : times n u.entries ≡ times n v.entries = ap (λ (w : View V P). times n w.entries) (some-injective u v e) in
      let goal : times n v.entries ≤ times n u.entries + times_in n us = omega (arith, same) in goal
  times_one n (u ∷ us) (suc i) v e = let rest = times_one n us i v e in let goal : times n v.entries ≤ times n u.entries + times_in n us = omega (arith, rest) in goal

  pub times_two : (n : ℕ) (views : List (View V P)) (i j : ℕ) (v w : View V P) → i ≢ j → get_elem? views i ≡ some v → get_elem? views j ≡ some w → times n v.entries + times n w.entries ≤ times_in n views
  times_two n [] i j v w ne e f = absurd (some-ne-none v (sym e))
  times_two n (u ∷ us) zero zero v w ne e f = absurd (ne refl)
  times_two n (u ∷ us) zero (suc j) v w ne e f = let same : times n u.entries ≡ times n v.entries = ap (λ (x : View V P). times n x.entries) (some-injective u v e) in let rest = times_one n us j w f in
      let goal : times n v.entries + times n w.entries ≤ times n u.entries + times_in n us = omega (arith, same, rest) in goal
  times_two n (u ∷ us) (suc i) zero v w ne e f = let same : times n u.entries ≡ times n w.entries = ap (λ (x : View V P). times n x.entries) (some-injective u w f) in let rest = times_one n us i v e in
      let goal : times n v.entries + times n w.entries ≤ times n u.entries + times_in n us = omega (arith, same, rest) in goal
  times_two n (u ∷ us) (suc i) (suc j) v w ne e f = let rest = times_two n us i j v w (λ h. ne (ap suc h)) e f in
      let goal : times n v.entries + times n w.entries ≤ times n u.entries + times_in n us = omega (arith, rest) in goal

  pub set_there : (views : List (View V P)) (i : ℕ) (old new : View V P) → get_elem? views i ≡ some old → get_elem? (set views i new) i ≡ some new
  set_there [] i old new e = absurd (some-ne-none old (sym e))
  set_there (v ∷ vs) zero old new e = refl
  set_there (v ∷ vs) (suc i) old new e = set_there vs i old new e
