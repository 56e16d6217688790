-- What the items of a list give in order, each from what the items before it gave.
use Rattle.std.proofs.Common.{◌≡◌, ℕ, zero, suc, ◌+◌, Some, List, [], ◌∷◌, ◌++◌, length, min, take, drop, slice_get, refl, sym, ap, ◌∙◌, arith, append_assoc, append-nil}
use Rattle.std.proofs.Math.Seq.{take-append_seam}
use Rattle.std.proofs.lemmas.List.{length-append, length-take, take-append-drop, take_min}
use Rattle.task_types.specs.Reading.{in_order}

-- the item right after a list
slice_get-seam : {Y : Type 0} (xs : List Y) (y : Y) (ys : List Y) → slice_get (xs ++ y ∷ ys) (length xs) ≡ Some y
slice_get-seam [] y ys = refl
slice_get-seam (x ∷ xs) y ys = slice_get-seam xs y ys

-- two lists one after the other
pub in_order-append : {X Y : Type 0} (step : List Y → X → Y) (before : List Y) (xs ys : List X)
    → in_order step before (xs ++ ys) ≡ in_order step (in_order step before xs) ys
in_order-append step before [] ys = refl
in_order-append step before (x ∷ xs) ys = in_order-append step (before ++ step before x ∷ []) xs ys

-- each item gives one
pub length-in_order : {X Y : Type 0} (step : List Y → X → Y) (before : List Y) (xs : List X)
    → length (in_order step before xs) ≡ length before + length xs
length-in_order step before [] = omega arith
length-in_order step before (x ∷ xs) =
    omega (arith, length-in_order step (before ++ step before x ∷ []) xs, length-append before (step before x ∷ []))

-- what was given before stays in front
front : {X Y : Type 0} (step : List Y → X → Y) (before : List Y) (xs : List X)
    → (rest : List Y) × (in_order step before xs ≡ before ++ rest)
front step before [] = ([], sym (append-nil before))
front step before (x ∷ xs) =
    let r = front step (before ++ step before x ∷ []) xs in (step before x ∷ r.0, r.1 ∙ append_assoc before (step before x ∷ []) r.0)

pub take-in_order : {X Y : Type 0} (step : List Y → X → Y) (before : List Y) (xs : List X)
    → take (length before) (in_order step before xs) ≡ before
take-in_order step before xs = let r = front step before xs in rw r.1 (take-append_seam before r.0)

-- the first items give the first results
pub in_order-take : {X Y : Type 0} (step : List Y → X → Y) (xs : List X) (i : ℕ)
    → in_order step [] (take i xs) ≡ take i (in_order step [] xs)
in_order-take {X} {Y} step xs i =
    let first : List Y = in_order step [] (take i xs) in
    let all : List Y = in_order step [] xs in
    let split : all ≡ in_order step first (drop i xs) = ap (in_order step []) (sym (take-append-drop i xs)) ∙ in_order-append step [] (take i xs) (drop i xs) in
    let few : min i (length all) ≡ length first = rw (length-in_order step [] xs, length-in_order step [] (take i xs), length-take i xs) (omega arith) in
    sym (sym (take_min i all) ∙ ap (λ n. take n all) few ∙ ap (take (length first)) split ∙ take-in_order step first (drop i xs))

-- the result of an item comes from the results before it
slice_get-after : {X Y : Type 0} (step : List Y → X → Y) (before : List Y) (xs : List X) (i n : ℕ) (x : X)
    → n ≡ length before + i → slice_get xs i ≡ Some x
    → slice_get (in_order step before xs) n ≡ Some (step (take n (in_order step before xs)) x)
slice_get-after step before [] i n x p at = cc
slice_get-after {X} {Y} step before (y ∷ ys) zero n x p at =
    let all : List Y = in_order step (before ++ step before y ∷ []) ys in
    let r = front step (before ++ step before y ∷ []) ys in
    let same : y ≡ x = cc in
    let here : n ≡ length before = omega arith in
    let split : all ≡ before ++ (step before y ∷ r.0) = r.1 ∙ append_assoc before (step before y ∷ []) r.0 in
    let kept : before ≡ take n all = sym (ap (λ k. take k all) here ∙ take-in_order step before (y ∷ ys)) in
    ap (slice_get all) here ∙ ap (λ l. slice_get l (length before)) split ∙ slice_get-seam before (step before y) r.0 ∙ ap (λ z. Some (step before z)) same ∙ ap (λ b. Some (step b x)) kept
slice_get-after step before (y ∷ ys) (suc i) n x p at =
    slice_get-after step (before ++ step before y ∷ []) ys i n x (omega (arith, length-append before (step before y ∷ []))) at

pub slice_get-in_order : {X Y : Type 0} (step : List Y → X → Y) (xs : List X) (i : ℕ) (x : X)
    → slice_get xs i ≡ Some x → slice_get (in_order step [] xs) i ≡ Some (step (take i (in_order step [] xs)) x)
slice_get-in_order step xs i x at = slice_get-after step [] xs i i x (omega arith) at
