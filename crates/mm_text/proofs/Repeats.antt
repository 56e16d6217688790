-- The first repeat in the order of a text is the least line of those that name the place of their neighbour, where the
-- entries stand in the order of their places and lines.
use Rattle.std.proofs.Common.{◌≡◌, ◌⊎◌, inl, inr, ℕ, zero, suc, ◌+◌, ◌*◌, ◌^◌, ◌%◌, ◌<◌, ◌≤◌, min, Bool, true, false, cond, eqb, ltb, List, [], ◌∷◌, ◌++◌, length, get_or, Option, None, Some, IsPermutation, refl, sym, ap, ◌∙◌, subst, mod-lt, arith}
use Rattle.std.specs.Prelude.{Contains}
use Rattle.std.specs.List.{filter, list_any, AllByRecursion, IsDistinct}
use Rattle.std.specs.List.Sorted.{IsNonDecreasingBy}
use Rattle.std.proofs.lemmas.Bool.{cases_Bool, and_parts, ltb-true, cond_both, cond-true, cond-false, and_from, or_cases, or_left, or_right, both_ways, true≢false, eqb-true, eqb-false, eq-eqb, lt-ltb, false_from_ne_true}
use Rattle.std.proofs.lemmas.Bool.Decides.{nat_tests}
use Rattle.std.proofs.lemmas.List.Folds.{list_any-append}
use Rattle.std.proofs.lemmas.List.Sorted.{Contains-permutation, IsPermutation-sym}
use Rattle.std.proofs.lemmas.Map.Keys.{IsDistinct-IsPermutation}
use Rattle.std.proofs.lemmas.Grind.{get_or-set_at}
use Rattle.std.proofs.lemmas.List.{length-set, get_or-set_other}
use Rattle.mm_text.specs.declared.places.Listed.{Listed}
use Rattle.mm_text.specs.Places.{place_of, places_of, are_rising, slot_of, with_mark, all_marked, is_shared, rise, entries_of, AreListed, repeats, first_repeat, rank_of, sooner, least_repeat}
use Rattle.mm_text.proofs.Order.{same_place, other_place}

-- ---- Among a list

abbrev Among : List Listed → Listed → Type 0
Among [] x = ⊥
Among (y ∷ ys) x = (y ≡ x) ⊎ Among ys x

among-from : (xs : List Listed) (x : Listed) → Contains xs x → Among xs x
among-from [] x (k, lt, is) = absurd (omega arith)
among-from (y ∷ ys) x (zero, lt, is) = inl is
among-from (y ∷ ys) x (suc k, lt, is) = inr (among-from ys x (k, omega arith, is))

contains-from : (xs : List Listed) (x : Listed) → Among xs x → Contains xs x
contains-from [] x h = absurd h
contains-from (y ∷ ys) x (inl is) = (zero, omega arith, is)
contains-from (y ∷ ys) x (inr h) = let (k, lt, is) = contains-from ys x h in (suc k, omega arith, is)

among-permuted : (xs ys : List Listed) (x : Listed) → IsPermutation xs ys → Among xs x → Among ys x
among-permuted xs ys x p h = among-from ys x (Contains-permutation xs ys x p (contains-from xs x h))

-- ---- One entry repeats another

-- an entry of the list names the place of one whose line is earlier
record IsRepeat (xs : List Listed) (x y : Listed) : Type 0 where
  here : Among xs x
  there : Among xs y
  place : place_of y.entry ≡ place_of x.entry
  earlier : y.line < x.line

-- some entry with this line does
record IsRepeatLine (xs : List Listed) (n : ℕ) : Type 0 where
  late : Listed
  early : Listed
  pair : IsRepeat xs late early
  line : late.line ≡ n

later_pair : (z : Listed) (xs : List Listed) (n : ℕ) → IsRepeatLine xs n → IsRepeatLine (z ∷ xs) n
later_pair z xs n p = record {
  late = p.late;
  early = p.early;
  pair = record { here = inr p.pair.here; there = inr p.pair.there; place = p.pair.place; earlier = p.pair.earlier };
  line = p.line;
}

permuted_pair : (xs ys : List Listed) (x y : Listed) → IsPermutation xs ys → IsRepeat xs x y → IsRepeat ys x y
permuted_pair xs ys x y p r = record {
  here = among-permuted xs ys x p r.here;
  there = among-permuted xs ys y p r.there;
  place = r.place;
  earlier = r.earlier;
}

-- ---- The least number

-- there is a number, and it is at most n
abbrev AtMost : Option ℕ → ℕ → Type 0
AtMost None n = ⊥
AtMost (Some m) n = m ≤ n

same_least : (o p : Option ℕ) → ((n : ℕ) → o ≡ Some n → AtMost p n) → ((n : ℕ) → p ≡ Some n → AtMost o n) → o ≡ p
same_least None None h k = refl
same_least None (Some n) h k = absurd (k n refl)
same_least (Some n) None h k = absurd (h n refl)
same_least (Some m) (Some n) h k = let e : m ≡ n = omega (arith, h m refl, k n refl) in ap Some e

sooner-kept : (found : Option ℕ) (line n : ℕ) → AtMost found n → AtMost (sooner found line) n
sooner-kept None line n h = absurd h
sooner-kept (Some m) line n h = omega (arith, h)

sooner-new : (found : Option ℕ) (line n : ℕ) → line ≤ n → AtMost (sooner found line) n
sooner-new None line n le = le
sooner-new (Some m) line n le = omega (arith, le)

sooner-one : (found : Option ℕ) (line n : ℕ) → sooner found line ≡ Some n → (found ≡ Some n) ⊎ (line ≡ n)
sooner-one None line n h = inr cc
sooner-one (Some m) line n h =
    let e : min m line ≡ n = cc in
    elim (cases_Bool (eqb m n)) [ inl same ↦ inl (ap Some (eqb-true m n same)) | inr other ↦ inr (let ne = eqb-false m n other in omega arith) ]

-- ---- Neighbours, in the order of places and lines

-- the ranks do not fall, and none is below k
abbrev pub RanksFrom : ℕ → List Listed → Type 0
RanksFrom k [] = Unit {0}
RanksFrom k (x ∷ xs) = (k ≤ rank_of x) × RanksFrom (rank_of x) xs

-- lines have 64 bits
abbrev AreBounded : List Listed → Type 0
AreBounded = AllByRecursion (λ (x : Listed). x.line < 2 ^ 64)

-- no two have the same line
abbrev SameLine : Listed → Listed → Bool
SameLine x y = eqb x.line y.line

abbrev HaveOwnLines : List Listed → Type 0
HaveOwnLines [] = Unit {0}
HaveOwnLines (x ∷ xs) = AllByRecursion (λ y. SameLine x y ≡ false) xs × HaveOwnLines xs

rank-among : (k : ℕ) (xs : List Listed) (x : Listed) → RanksFrom k xs → Among xs x → k ≤ rank_of x
rank-among k [] x r h = absurd h
rank-among k (y ∷ ys) x r (inl is) = subst (λ (z : Listed). k ≤ rank_of z) is r.0
rank-among k (y ∷ ys) x r (inr h) = let le = rank-among (rank_of y) ys x r.1 h in omega (arith, r.0, le)

bounded-among : (xs : List Listed) (x : Listed) → AreBounded xs → Among xs x → x.line < 2 ^ 64
bounded-among [] x b h = absurd h
bounded-among (y ∷ ys) x b (inl is) = subst (λ (z : Listed). z.line < 2 ^ 64) is b.0
bounded-among (y ∷ ys) x b (inr h) = bounded-among ys x b.1 h

-- numbers that stand between two of one place
between_same : (p q a b c : ℕ) → a < 2 ^ 64 → b < 2 ^ 64 → c < 2 ^ 64 → p * 2 ^ 64 + a ≤ q * 2 ^ 64 + b → q * 2 ^ 64 + b ≤ p * 2 ^ 64 + c → (q ≡ p) × (b ≤ c)
between_same p q a b c la lb lc le me = (omega arith, omega arith)

ordered_same : (p q a b : ℕ) → p ≡ q → p * 2 ^ 64 + a ≤ q * 2 ^ 64 + b → a ≤ b
ordered_same p q a b e le = omega arith

ordered_other : (p q a b : ℕ) → a < 2 ^ 64 → b < 2 ^ 64 → (p ≡ q → ⊥) → p * 2 ^ 64 + a ≤ q * 2 ^ 64 + b → p < q
ordered_other p q a b la lb ne le = elim (cases_Bool (eqb p q)) [ inl same ↦ absurd (ne (eqb-true p q same)) | inr other ↦ (let no = eqb-false p q other in omega arith) ]

-- what was found stays the bound
least-kept : (found : Option ℕ) (xs : List Listed) (n : ℕ) → AtMost found n → AtMost (least_repeat found xs) n
least-kept found [] n h = h
least-kept found (x ∷ []) n h = h
least-kept found (x ∷ y ∷ ys) n h =
    least-kept (cond (eqb (place_of x.entry) (place_of y.entry)) (sooner found y.line) found) (y ∷ ys) n
    (cond_both (eqb (place_of x.entry) (place_of y.entry)) (sooner found y.line) found (λ o. AtMost o n) (λ _. sooner-kept found y.line n h) (λ _. h))

-- no repeat has a lesser line
least-pair : (found : Option ℕ) (xs : List Listed) (k : ℕ) (x y : Listed) → RanksFrom k xs → AreBounded xs → IsRepeat xs x y → AtMost (least_repeat found xs) x.line
least-pair found [] k x y r b p = absurd p.here
least-pair found (z ∷ []) k x y r b p =
    elim p.here [
      | inl is ↦ elim p.there [ inl same ↦ absurd (omega (arith, p.earlier, ap (λ (w : Listed). w.line) is, ap (λ (w : Listed). w.line) same)) | inr none ↦ absurd none ]
      | inr none ↦ absurd none
    ]
least-pair found (z ∷ w ∷ ws) k x y r b p =
    let rest : Among (w ∷ ws) x → Among (w ∷ ws) y → AtMost (least_repeat found (z ∷ w ∷ ws)) x.line = λ here there.
    least-pair (cond (eqb (place_of z.entry) (place_of w.entry)) (sooner found w.line) found) (w ∷ ws) (rank_of z) x y r.1 b.1 (record { here = here; there = there; place = p.place; earlier = p.earlier }) in
    let first : z ≡ y → Among (w ∷ ws) x → AtMost (least_repeat found (z ∷ w ∷ ws)) x.line = λ is here.
    let place : place_of x.entry ≡ place_of z.entry = sym (ap (λ (v : Listed). place_of v.entry) is ∙ p.place) in
    let low = r.1.0 in
    let high = rank-among (rank_of w) (w ∷ ws) x (omega arith, r.1.1) here in
    let s = between_same (place_of z.entry) (place_of w.entry) z.line w.line x.line b.0 b.1.0 (bounded-among (w ∷ ws) x b.1 here) low
    (subst (λ q. place_of w.entry * 2 ^ 64 + w.line ≤ q * 2 ^ 64 + x.line) place high) in
    let test : eqb (place_of z.entry) (place_of w.entry) ≡ true = eq-eqb _ _ (sym s.0) in
    least-kept (cond (eqb (place_of z.entry) (place_of w.entry)) (sooner found w.line) found) (w ∷ ws) x.line
    (subst (λ o. AtMost o x.line) (sym (cond-true _ (sooner found w.line) found test)) (sooner-new found w.line x.line s.1)) in
    elim p.here [
      | inl here ↦ elim p.there [
        | inl there ↦ absurd (omega (arith, p.earlier, ap (λ (v : Listed). v.line) here, ap (λ (v : Listed). v.line) there))
        | inr there ↦
            let le = rank-among (rank_of z) (w ∷ ws) y r.1 there in
            let same : rank_of z ≡ rank_of x = ap rank_of here in
            let place = p.place in
            let early = ordered_same (place_of x.entry) (place_of y.entry) x.line y.line (sym place) (subst (λ q. q ≤ rank_of y) same le) in
            absurd (omega (arith, p.earlier, early))
      ]
      | inr here ↦ elim p.there [ inl there ↦ first there here | inr there ↦ rest here there ]
    ]

-- what is found is one
least-there : (found : Option ℕ) (xs : List Listed) (k n : ℕ) → RanksFrom k xs → HaveOwnLines xs → least_repeat found xs ≡ Some n → (found ≡ Some n) ⊎ IsRepeatLine xs n
least-there found [] k n r own h = inl h
least-there found (x ∷ []) k n r own h = inl h
least-there found (x ∷ y ∷ ys) k n r own h =
    let b = eqb (place_of x.entry) (place_of y.entry) in
    elim (least-there (cond b (sooner found y.line) found) (y ∷ ys) (rank_of x) n r.1 own.1 h) [
      | inr pair ↦ inr (later_pair x (y ∷ ys) n pair)
      | inl e ↦ elim (cases_Bool b) [
        | inr other ↦ inl (sym (cond-false b (sooner found y.line) found other) ∙ e)
        | inl same ↦ elim (sooner-one found y.line n (sym (cond-true b (sooner found y.line) found same) ∙ e)) [
          | inl before ↦ inl before
          | inr line ↦
              let place = eqb-true _ _ same in
              let le = ordered_same (place_of x.entry) (place_of y.entry) x.line y.line place r.1.0 in
              let ne = eqb-false x.line y.line own.0.0 in
              inr (record { late = y; early = x; pair = record { here = inr (inl refl); there = inl refl; place = place; earlier = omega (arith, le, ne) }; line = line })
        ]
      ]
    ]

-- ---- The order of the text

later-among : (n : ℕ) (xs : List Listed) (x : Listed) → AreListed n xs → Among xs x → n < x.line
later-among n [] x r h = absurd h
later-among n (y ∷ ys) x r (inl is) = subst (λ (z : Listed). n < z.line) is r.0
later-among n (y ∷ ys) x r (inr h) = let lt = later-among y.line ys x r.3 h in omega (arith, lt, r.0)

narrow-among : (n : ℕ) (xs : List Listed) (x : Listed) → AreListed n xs → Among xs x → x.entry.column < 2 ^ 32
narrow-among n [] x r h = absurd h
narrow-among n (y ∷ ys) x r (inl is) = subst (λ (z : Listed). z.entry.column < 2 ^ 32) is r.2
narrow-among n (y ∷ ys) x r (inr h) = narrow-among y.line ys x r.3 h

-- a place that one of these names, or that an earlier one of the others names
abbrev IsNamed : List Listed → List Listed → Listed → Type 0
IsNamed before xs x =
    (list_any (repeats x) before ≡ true) ⊎ ((y : Listed) × Among xs y × (place_of y.entry ≡ place_of x.entry) × (y.line < x.line))

any-more : (x z : Listed) (before : List Listed) → (list_any (repeats x) before ≡ true) ⊎ (repeats x z ≡ true) → list_any (repeats x) (before ++ z ∷ []) ≡ true
any-more x z before (inl h) = list_any-append (repeats x) before (z ∷ []) ∙ or_left _ _ h
any-more x z before (inr h) = list_any-append (repeats x) before (z ∷ []) ∙ or_right (list_any (repeats x) before) _ (or_left (repeats x z) false h)

any-less : (x z : Listed) (before : List Listed) → list_any (repeats x) (before ++ z ∷ []) ≡ true → (list_any (repeats x) before ≡ true) ⊎ (repeats x z ≡ true)
any-less x z before h =
    elim (or_cases (list_any (repeats x) before) (list_any (repeats x) (z ∷ [])) (sym (list_any-append (repeats x) before (z ∷ [])) ∙ h)) [
      | inl there ↦ inl there
      | inr here ↦ elim (or_cases (repeats x z) false here) [ inl one ↦ inr one | inr none ↦ absurd (true≢false (sym none)) ]
    ]

-- no repeat has a lesser line
first-pair : (n : ℕ) (before xs : List Listed) (x : Listed) → AreListed n xs → Among xs x → IsNamed before xs x → AtMost (first_repeat before xs) x.line
first-pair n before [] x r h named = absurd h
first-pair n before (z ∷ zs) x r h named =
    cond_both (list_any (repeats z) before) (Some z.line) (first_repeat (before ++ z ∷ []) zs) (λ o. AtMost o x.line)
    (λ _. elim h [ inl is ↦ omega (arith, ap (λ (v : Listed). v.line) is) | inr there ↦ (let lt = later-among z.line zs x r.3 there in omega (arith, lt)) ])
    (λ none. elim h [
      | inl is ↦ elim named [
        | inl any ↦ absurd (both_ways _ none (subst (λ (v : Listed). list_any (repeats v) before ≡ true) (sym is) any))
        | inr (y, there, place, lt) ↦ elim there [
          | inl same ↦ absurd (omega (arith, lt, ap (λ (v : Listed). v.line) is, ap (λ (v : Listed). v.line) same))
          | inr after ↦ absurd (let later = later-among z.line zs y r.3 after in omega (arith, lt, later, ap (λ (v : Listed). v.line) is))
        ]
      ]
      | inr there ↦ first-pair z.line (before ++ z ∷ []) zs x r.3 there (elim named [
        | inl any ↦ inl (any-more x z before (inl any))
        | inr (y, among, place, lt) ↦ elim among [
          | inl same ↦
              inl (any-more x z before (inr (other_place x.entry z.entry (narrow-among z.line zs x r.3 there) r.2 (ap (λ (v : Listed). place_of v.entry) same ∙ place))))
          | inr after ↦ inr (y, after, place, lt)
        ]
      ])
    ])

-- what is found is one
record IsFirstRepeat (before xs : List Listed) (n : ℕ) : Type 0 where
  late : Listed
  here : Among xs late
  named : IsNamed before xs late
  line : late.line ≡ n

first-there : (n : ℕ) (before xs : List Listed) (m : ℕ) → AreListed n xs → first_repeat before xs ≡ Some m → IsFirstRepeat before xs m
first-there n before [] m r h = absurd cc
first-there n before (z ∷ zs) m r h =
    elim (cases_Bool (list_any (repeats z) before)) [
      | inl any ↦
          let e : Some z.line ≡ Some m = sym (cond-true _ (Some z.line) (first_repeat (before ++ z ∷ []) zs) any) ∙ h in
          record { late = z; here = inl refl; named = inl any; line = cc }
      | inr none ↦
          let p = first-there z.line (before ++ z ∷ []) zs m r.3 (sym (cond-false _ (Some z.line) (first_repeat (before ++ z ∷ []) zs) none) ∙ h) in
          record {
            late = p.late;
            here = inr p.here;
            named = elim p.named [
              | inr (y, there, place, lt) ↦ inr (y, inr there, place, lt)
              | inl any ↦ elim (any-less p.late z before any) [
                | inl old ↦ inl old
                | inr one ↦ inr (z, inl refl, same_place p.late.entry z.entry one, later-among z.line zs p.late r.3 p.here)
              ]
            ];
            line = p.line;
          }
    ]

-- ---- Both orders

listed-bounded : (n : ℕ) (xs : List Listed) → AreListed n xs → AreBounded xs
listed-bounded n [] r = tt
listed-bounded n (x ∷ xs) r = (r.1, listed-bounded x.line xs r.3)

later-lines : (m n : ℕ) (xs : List Listed) (x : Listed) → x.line ≡ m → m ≤ n → AreListed n xs → AllByRecursion (λ y. SameLine x y ≡ false) xs
later-lines m n [] x e le r = tt
later-lines m n (y ∷ ys) x e le r =
    (false_from_ne_true _ (λ same. let s = eqb-true x.line y.line same in omega (arith, s, e, le, r.0)), later-lines m y.line ys x e (omega (arith, le, r.0)) r.3)

listed-distinct : (n : ℕ) (xs : List Listed) → AreListed n xs → IsDistinct SameLine xs
unfolding IsDistinct
listed-distinct n [] r = tt
listed-distinct n (x ∷ xs) r = (later-lines x.line x.line xs x refl (omega arith) r.3, listed-distinct x.line xs r.3)

own_from_distinct : (xs : List Listed) → IsDistinct SameLine xs → HaveOwnLines xs
unfolding IsDistinct
own_from_distinct [] h = tt
own_from_distinct (x ∷ xs) h = (h.0, own_from_distinct xs h.1)

eqb_flips : (a b : ℕ) → eqb a b ≡ eqb b a
eqb_flips a b = grind (arith, nat_tests)

SameLine_flips : (x y : Listed) → SameLine x y ≡ SameLine y x
SameLine_flips x y = eqb_flips x.line y.line

all-among : (xs ys : List Listed) → ((x : Listed) → Among ys x → Among xs x) → AreBounded xs → AreBounded ys
all-among xs [] h b = tt
all-among xs (y ∷ ys) h b = (bounded-among xs y b (h y (inl refl)), all-among xs ys (λ x there. h x (inr there)) b)

permuted-bounded : (n : ℕ) (xs ys : List Listed) → IsPermutation xs ys → AreListed n xs → AreBounded ys
permuted-bounded n xs ys p listed = all-among xs ys (λ x there. among-permuted ys xs x (IsPermutation-sym xs ys p) there) (listed-bounded n xs listed)

-- the first repeat of a text, from its entries in the order of their places and lines
pub first_repeat_sorted : (n : ℕ) (xs ys : List Listed) → IsPermutation xs ys → AreListed n xs → RanksFrom 0 ys → least_repeat None ys ≡ first_repeat [] xs
first_repeat_sorted n xs ys p listed ranks =
    let bounded = permuted-bounded n xs ys p listed in
    let own = own_from_distinct ys (IsDistinct-IsPermutation SameLine SameLine_flips xs ys p (listed-distinct n xs listed)) in
    same_least (least_repeat None ys) (first_repeat [] xs)
    (λ m found. elim (least-there None ys 0 m ranks own found) [
      | inl none ↦ absurd cc
      | inr pair ↦
          let back = permuted_pair ys xs pair.late pair.early (IsPermutation-sym xs ys p) pair.pair in
          subst (AtMost (first_repeat [] xs)) pair.line (first-pair n [] xs pair.late listed back.here (inr (pair.early, back.there, back.place, back.earlier)))
    ])
    (λ m found.
    let one = first-there n [] xs m listed found in
    elim one.named [
      | inl none ↦ absurd (true≢false (sym none))
      | inr (y, there, place, lt) ↦
          let pair : IsRepeat xs one.late y = record { here = one.here; there = there; place = place; earlier = lt } in
          subst (AtMost (least_repeat None ys)) one.line (least-pair None ys 0 one.late y ranks bounded (permuted_pair xs ys one.late y p pair))
    ])

-- sorted entries by their ranks
pub ranks_from_sorted : (xs : List Listed) (k : ℕ) → IsNonDecreasingBy rank_of xs → ((d : Listed) → 0 < length xs → k ≤ rank_of (get_or xs 0 d)) → RanksFrom k xs
ranks_from_sorted [] k h low = tt
ranks_from_sorted (x ∷ xs) k h low =
    (low x (omega arith), ranks_from_sorted xs (rank_of x) (λ i j d le lt. h (suc i) (suc j) d (omega arith) (omega arith)) (λ d some. h zero (suc zero) d (omega arith) (omega arith)))

-- ---- Without repeats

least-some : (m : ℕ) (xs : List Listed) → least_repeat (Some m) xs ≡ None → ⊥
least-some m xs h = subst (λ o. AtMost o m) h (least-kept (Some m) xs m (omega arith))

least-sooner : (found : Option ℕ) (line : ℕ) (xs : List Listed) → least_repeat (sooner found line) xs ≡ None → ⊥
least-sooner None line xs h = least-some line xs h
least-sooner (Some m) line xs h = least-some (min m line) xs h

rise-listed : (found : Option ℕ) (xs : List Listed) (k : ℕ) → RanksFrom k xs → AreBounded xs → least_repeat found xs ≡ None → rise (entries_of xs) ≡ true
rise-listed found [] k r b h = refl
rise-listed found (x ∷ []) k r b h = refl
rise-listed found (x ∷ y ∷ ys) k r b h =
    let test = eqb (place_of x.entry) (place_of y.entry) in
    elim (cases_Bool test) [
      | inl same ↦ absurd (least-sooner found y.line (y ∷ ys) (ap (λ o. least_repeat o (y ∷ ys)) (sym (cond-true test (sooner found y.line) found same)) ∙ h))
      | inr other ↦
          let rest = ap (λ o. least_repeat o (y ∷ ys)) (sym (cond-false test (sooner found y.line) found other)) ∙ h in
          and_from _ _ (lt-ltb _ _ (ordered_other (place_of x.entry) (place_of y.entry) x.line y.line b.0 b.1.0 (eqb-false _ _ other) r.1.0)) (rise-listed found (y ∷ ys) (rank_of x) r.1 b.1 rest)
    ]

-- where no line repeats a place, the places rise
pub rise_sorted : (n : ℕ) (xs ys : List Listed) → IsPermutation xs ys → AreListed n xs → RanksFrom 0 ys → least_repeat None ys ≡ None → rise (entries_of ys) ≡ true
rise_sorted n xs ys p listed ranks none = rise-listed None ys 0 ranks (permuted-bounded n xs ys p listed) none

-- fewer than two entries
pub least_short : (found : Option ℕ) (xs : List Listed) → length xs < 2 → least_repeat found xs ≡ found
least_short found [] lt = refl
least_short found (x ∷ []) lt = refl
least_short found (x ∷ y ∷ ys) lt = absurd (omega arith)

-- ---- Places that are apart

rising_above : (k n : ℕ) (ns : List ℕ) → k ≤ n → are_rising (n ∷ ns) ≡ true → AllByRecursion (λ m. eqb k m ≡ false) ns
rising_above k n [] le h = tt
rising_above k n (m ∷ ns) le h =
    let p = and_parts (ltb n m) (are_rising (m ∷ ns)) h in
    let lt = ltb-true n m p.0 in
    (false_from_ne_true _ (λ same. let e = eqb-true k m same in omega (arith, lt, e, le)), rising_above k m ns (omega (arith, lt, le)) p.1)

rising_distinct : (ns : List ℕ) → are_rising ns ≡ true → IsDistinct eqb ns
unfolding IsDistinct
rising_distinct [] h = tt
rising_distinct (n ∷ []) h = (tt, tt)
rising_distinct (n ∷ m ∷ ns) h = (rising_above n n (m ∷ ns) (omega arith) h, rising_distinct (m ∷ ns) (and_parts (ltb n m) (are_rising (m ∷ ns)) h).1)

-- none of these names a place that was named before
abbrev AreNew : List Listed → List Listed → Type 0
AreNew before = AllByRecursion (λ (x : Listed). list_any (repeats x) before ≡ false)

-- none names the place of one before it
abbrev AreApart : List Listed → Type 0
AreApart [] = Unit {0}
AreApart (x ∷ xs) = AllByRecursion (λ (y : Listed). repeats y x ≡ false) xs × AreApart xs

new_more : (before : List Listed) (z : Listed) (xs : List Listed) → AreNew before xs → AllByRecursion (λ (y : Listed). repeats y z ≡ false) xs → AreNew (before ++ z ∷ []) xs
new_more before z [] new apart = tt
new_more before z (x ∷ xs) new apart = (
  false_from_ne_true _ (λ any. elim (any-less x z before any) [
    | inl old ↦ both_ways _ new.0 old
    | inr one ↦ both_ways _ apart.0 one
  ]),
  new_more before z xs new.1 apart.1,
)

apart_from : (before xs : List Listed) → AreNew before xs → AreApart xs → first_repeat before xs ≡ None
apart_from before [] new apart = refl
apart_from before (x ∷ xs) new apart =
    cond-false (list_any (repeats x) before) (Some x.line) (first_repeat (before ++ x ∷ []) xs) new.0
    ∙ apart_from (before ++ x ∷ []) xs (new_more before x xs new.1 apart.0) apart.1

all_new : (xs : List Listed) → AreNew [] xs
all_new [] = tt
all_new (x ∷ xs) = (refl, all_new xs)

-- ---- Entries that share a slot

-- of two entries with one slot both are kept
abbrev ArePaired : (Listed → ℕ) → (Listed → Bool) → List Listed → Type 0
ArePaired slot keep [] = Unit {0}
ArePaired slot keep (x ∷ xs) = AllByRecursion (λ (y : Listed). slot y ≡ slot x → (keep x ≡ true) × (keep y ≡ true)) xs × ArePaired slot keep xs

all_kept : (P : ℕ → Type 0) (keep : Listed → Bool) (xs : List Listed) → AllByRecursion P (places_of (filter keep xs)) → AllByRecursion (λ (y : Listed). keep y ≡ true → P (place_of y.entry)) xs
all_kept P keep [] all = tt
all_kept P keep (x ∷ xs) all =
    elim (cases_Bool (keep x)) [
      | inl kept ↦
          let both = subst (λ ys. AllByRecursion P (places_of ys)) (cond-true (keep x) (x ∷ filter keep xs) (filter keep xs) kept) all in
          (λ _. both.0, all_kept P keep xs both.1)
      | inr dropped ↦ (
        λ kept. absurd (both_ways _ dropped kept),
        all_kept P keep xs (subst (λ ys. AllByRecursion P (places_of ys)) (cond-false (keep x) (x ∷ filter keep xs) (filter keep xs) dropped) all),
      )
    ]

module _ (slot : Listed → ℕ) (alike : (x y : Listed) → repeats y x ≡ true → slot y ≡ slot x) (keep : Listed → Bool) where
  none_repeats : (x : Listed) (xs : List Listed) → AllByRecursion (λ (y : Listed). slot y ≡ slot x → (keep x ≡ true) × (keep y ≡ true)) xs
      → (keep x ≡ true → AllByRecursion (λ (y : Listed). keep y ≡ true → eqb (place_of x.entry) (place_of y.entry) ≡ false) xs) → AllByRecursion (λ (y : Listed). repeats y x ≡ false) xs
  none_repeats x [] paired distinct = tt
  none_repeats x (y ∷ ys) paired distinct = (
    false_from_ne_true _ (λ same.
        let kept = paired.0 (alike x y same) in
        both_ways _ ((distinct kept.0).0 kept.1) (eq-eqb (place_of x.entry) (place_of y.entry) (same_place y.entry x.entry same))),
    none_repeats x ys paired.1 (λ kept. (distinct kept).1),
  )

  apart_kept : (xs : List Listed) → ArePaired slot keep xs → IsDistinct eqb (places_of (filter keep xs)) → AreApart xs
  unfolding IsDistinct
  apart_kept [] paired distinct = tt
  apart_kept (x ∷ xs) paired distinct = (
    none_repeats x xs paired.0 (λ kept.
        let both = subst (λ ys. IsDistinct eqb (places_of ys)) (cond-true (keep x) (x ∷ filter keep xs) (filter keep xs) kept) distinct in
        all_kept (λ m. eqb (place_of x.entry) m ≡ false) keep xs both.0),
    apart_kept xs paired.1 (elim (cases_Bool (keep x)) [
      | inl kept ↦ (subst (λ ys. IsDistinct eqb (places_of ys)) (cond-true (keep x) (x ∷ filter keep xs) (filter keep xs) kept) distinct).1
      | inr dropped ↦ subst (λ ys. IsDistinct eqb (places_of ys)) (cond-false (keep x) (x ∷ filter keep xs) (filter keep xs) dropped) distinct
    ]),
  )

-- ---- Marks

with_mark_length : (marks : List ℕ) (i : ℕ) → length (with_mark marks i) ≡ length marks
with_mark_length marks i = length-set marks i (min 2 (get_or marks i 0 + 1))

-- the mark at a slot does not fall, and is 2 where it is marked again
marks_rise : (marks : List ℕ) (i j : ℕ) → i < length marks → get_or marks j 0 ≤ 2 → get_or marks j 0 ≤ get_or (with_mark marks i) j 0
marks_rise marks i j within few =
    elim (cases_Bool (eqb j i)) [
      | inl same ↦ (let here = get_or-set_at marks i j (min 2 (get_or marks i 0 + 1)) 0 (eqb-true j i same) within in let e = ap (λ k. get_or marks k 0) (eqb-true j i same) in omega (arith, here, e, few))
      | inr other ↦ (let there = get_or-set_other marks i j (min 2 (get_or marks i 0 + 1)) 0 (eqb-false j i other) in omega (arith, there))
    ]

mark_again : (marks : List ℕ) (i : ℕ) → i < length marks → 1 ≤ get_or marks i 0 → get_or (with_mark marks i) i 0 ≡ 2
mark_again marks i within once = let here = get_or-set_at marks i i (min 2 (get_or marks i 0 + 1)) 0 refl within in omega (arith, here, once)

mark_once : (marks : List ℕ) (i : ℕ) → i < length marks → 1 ≤ get_or (with_mark marks i) i 0
mark_once marks i within = let here = get_or-set_at marks i i (min 2 (get_or marks i 0 + 1)) 0 refl within in omega (arith, here)

mark_most : (marks : List ℕ) (i j : ℕ) → i < length marks → get_or marks j 0 ≤ 2 → get_or (with_mark marks i) j 0 ≤ 2
mark_most marks i j within few =
    elim (cases_Bool (eqb j i)) [
      | inl same ↦ (let here = get_or-set_at marks i j (min 2 (get_or marks i 0 + 1)) 0 (eqb-true j i same) within in omega (arith, here))
      | inr other ↦ (let there = get_or-set_other marks i j (min 2 (get_or marks i 0 + 1)) 0 (eqb-false j i other) in omega (arith, there, few))
    ]

module _ (slot : Listed → ℕ) (slots : ℕ) (within : (x : Listed) → slot x < slots) where
  inside : (marks : List ℕ) (x : Listed) → length marks ≡ slots → slot x < length marks
  inside marks x long = let low = within x in omega (arith, low, long)

  longer : (marks : List ℕ) (x : Listed) → length marks ≡ slots → length (with_mark marks (slot x)) ≡ slots
  longer marks x long = with_mark_length marks (slot x) ∙ long

  still_two : (marks : List ℕ) (xs : List Listed) (i : ℕ) → length marks ≡ slots → get_or marks i 0 ≡ 2 → get_or (all_marked slot marks xs) i 0 ≡ 2
  still_two marks [] i long two = two
  still_two marks (x ∷ xs) i long two =
      still_two (with_mark marks (slot x)) xs i (longer marks x long)
      (let up = marks_rise marks (slot x) i (inside marks x long) (omega (arith, two)) in
      let most = mark_most marks (slot x) i (inside marks x long) (omega (arith, two)) in
      omega (arith, up, most, two))

  marked_again : (marks : List ℕ) (xs : List Listed) (i : ℕ) → length marks ≡ slots → 1 ≤ get_or marks i 0 → get_or marks i 0 ≤ 2
      → AllByRecursion (λ (y : Listed). slot y ≡ i → get_or (all_marked slot marks xs) i 0 ≡ 2) xs
  marked_again marks [] i long once most = tt
  marked_again marks (x ∷ xs) i long once most = (
    λ same.
        still_two (with_mark marks (slot x)) xs i (longer marks x long)
        (subst (λ j. get_or (with_mark marks (slot x)) j 0 ≡ 2) same (mark_again marks (slot x) (inside marks x long) (subst (λ j. 1 ≤ get_or marks j 0) (sym same) once))),
    marked_again (with_mark marks (slot x)) xs i (longer marks x long)
        (let up = marks_rise marks (slot x) i (inside marks x long) most in omega (arith, up, once)) (mark_most marks (slot x) i (inside marks x long) most),
  )

  pair_here : (marks : List ℕ) (x : Listed) (xs : List Listed) → AllByRecursion (λ (y : Listed). slot y ≡ slot x → get_or marks (slot x) 0 ≡ 2) xs
      → AllByRecursion (λ (y : Listed). slot y ≡ slot x → (is_shared slot marks x ≡ true) × (is_shared slot marks y ≡ true)) xs
  pair_here marks x [] two = tt
  pair_here marks x (y ∷ ys) two =
      (λ same. (eq-eqb (get_or marks (slot x) 0) 2 (two.0 same), eq-eqb (get_or marks (slot y) 0) 2 (ap (λ i. get_or marks i 0) same ∙ two.0 same)), pair_here marks x ys two.1)

  all_paired : (marks : List ℕ) (xs : List Listed) → length marks ≡ slots → ((i : ℕ) → get_or marks i 0 ≤ 2) → ArePaired slot (is_shared slot (all_marked slot marks xs)) xs
  all_paired marks [] long low = tt
  all_paired marks (x ∷ xs) long low =
      let next = with_mark marks (slot x) in (
        pair_here (all_marked slot next xs) x xs
            (marked_again next xs (slot x) (longer marks x long) (mark_once marks (slot x) (inside marks x long)) (mark_most marks (slot x) (slot x) (inside marks x long) (low (slot x)))),
        all_paired next xs (longer marks x long) (λ i. mark_most marks (slot x) i (inside marks x long) (low i)),
      )

slot_alike : (slots width : ℕ) (x y : Listed) → repeats y x ≡ true → slot_of slots width y ≡ slot_of slots width x
slot_alike slots width x y same =
    let p = and_parts (eqb x.entry.row y.entry.row) (eqb x.entry.column y.entry.column) same in
    let row : x.entry.row ≡ y.entry.row = eqb-true x.entry.row y.entry.row p.0 in
    let column : x.entry.column ≡ y.entry.column = eqb-true x.entry.column y.entry.column p.1 in
    λ i. (sym row i * width + sym column i) % slots

-- where the places of those that share a slot rise in order, no entry names the place of one before it
pub apart_sorted : (slots width : ℕ) (first : List ℕ) (xs : List Listed) (ns : List ℕ) → ((x : Listed) → slot_of slots width x < slots) → length first ≡ slots → ((i : ℕ) → get_or first i 0 ≤ 2)
    → IsPermutation (places_of (filter (is_shared (slot_of slots width) (all_marked (slot_of slots width) first xs)) xs)) ns → are_rising ns ≡ true → first_repeat [] xs ≡ None
apart_sorted slots width first xs ns within long low p rises =
    let slot = slot_of slots width in
    let keep = is_shared slot (all_marked slot first xs) in
    apart_from [] xs (all_new xs)
    (apart_kept slot (slot_alike slots width) keep xs (all_paired slot slots within first xs long low)
    (IsDistinct-IsPermutation eqb eqb_flips ns (places_of (filter keep xs)) (IsPermutation-sym (places_of (filter keep xs)) ns p) (rising_distinct ns rises)))

none_shared : (slot : Listed → ℕ) (marks : List ℕ) (xs : List Listed) → ((i : ℕ) → get_or marks i 0 ≤ 1) → filter (is_shared slot marks) xs ≡ []
none_shared slot marks [] once = refl
none_shared slot marks (x ∷ xs) once =
    cond-false (is_shared slot marks x) (x ∷ filter (is_shared slot marks) xs) (filter (is_shared slot marks) xs)
    (false_from_ne_true _ (λ two. let e = eqb-true (get_or marks (slot x) 0) 2 two in let low = once (slot x) in omega (arith, e, low)))
    ∙ none_shared slot marks xs once

-- where no slot was marked twice, no entry names the place of one before it
pub apart_once : (slots width : ℕ) (first : List ℕ) (xs : List Listed) → ((x : Listed) → slot_of slots width x < slots) → length first ≡ slots → ((i : ℕ) → get_or first i 0 ≤ 2)
    → ((i : ℕ) → get_or (all_marked (slot_of slots width) first xs) i 0 ≤ 1) → first_repeat [] xs ≡ None
unfolding IsDistinct
apart_once slots width first xs within long low once =
    let slot = slot_of slots width in
    let keep = is_shared slot (all_marked slot first xs) in
    apart_from [] xs (all_new xs)
    (apart_kept slot (slot_alike slots width) keep xs (all_paired slot slots within first xs long low)
    (subst (λ ys. IsDistinct eqb (places_of ys)) (sym (none_shared slot (all_marked slot first xs) xs once)) tt))

-- fewer than two numbers rise
pub rising_short : (ns : List ℕ) → length ns < 2 → are_rising ns ≡ true
rising_short [] lt = refl
rising_short (n ∷ []) lt = refl
rising_short (n ∷ m ∷ ns) lt = absurd (omega arith)

pub slot_within : (slots width : ℕ) (x : Listed) → 0 < slots → slot_of slots width x < slots
slot_within slots width x some = mod-lt (x.entry.row * width + x.entry.column) some
