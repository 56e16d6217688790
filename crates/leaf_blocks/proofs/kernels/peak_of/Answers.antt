use Rattle.std.proofs.Common.{◌≡◌, ℕ, ◌≤◌, ◌++◌, [], ◌∷◌, List, ℤ, unsigned_abs, sym, ap, ap₂, ◌∙◌, subst, arith, append_assoc}
use Rattle.std.specs.Prelude.{All}
use Rattle.std.proofs.lemmas.List.{take-append-drop}
use Rattle.std.proofs.lemmas.List.Elements.{All-append, All-nil, All-cons, All-head, All-tail}
use Rattle.leaf_blocks.proofs.kernels.peak_of.Goals as goal

-- numbers within a bound are within a greater one
within_more : (numbers : List ℤ) (bound more : ℕ) → bound ≤ more → All (λ z. unsigned_abs z ≤ bound) numbers → All (λ z. unsigned_abs z ≤ more) numbers
within_more numbers bound more le are k d lt = omega (arith, le, are k d lt)

-- what is within a bound has parts that are
front_within : (front rest : List ℤ) (bound : ℕ) → All (λ z. unsigned_abs z ≤ bound) (front ++ rest) → All (λ z. unsigned_abs z ≤ bound) rest
front_within [] rest bound are = are
front_within (x ∷ front) rest bound are = front_within front rest bound (All-tail (λ z. unsigned_abs z ≤ bound) x (front ++ rest) are)

first_within : (front rest : List ℤ) (bound : ℕ) → All (λ z. unsigned_abs z ≤ bound) (front ++ rest) → All (λ z. unsigned_abs z ≤ bound) front
first_within [] rest bound are = All-nil (λ z. unsigned_abs z ≤ bound)
first_within (x ∷ front) rest bound are =
    All-cons (λ z. unsigned_abs z ≤ bound) x front (All-head (λ z. unsigned_abs z ≤ bound) x (front ++ rest) are)
    (first_within front rest bound (All-tail (λ z. unsigned_abs z ≤ bound) x (front ++ rest) are))

pub loop-rest-preserved : goal.loop-rest-preserved
loop-rest-preserved c =
    let front = c.loop-rest.invariant.0.0 in
    let some = c.split_at.result.0.now in
    let others = c.split_at.result.1.now in
    let old = c.loop-rest.peak in
    let new = c.peak_unless_within-peak.result in
    let parts : c.loop-rest.rest.now ≡ some ++ others = sym (take-append-drop 8 c.loop-rest.rest.now) ∙ ap₂ (λ (xs ys : List ℤ). xs ++ ys) (sym c.split_at.ensures.front) (sym c.split_at.ensures.back) in
    let whole : c.args.numbers.now ≡ (front ++ some) ++ others = c.loop-rest.invariant.0.1 ∙ ap (λ (r : List ℤ). front ++ r) parts ∙ sym (append_assoc front some others) in (
      (front ++ some, whole, All-append (λ z. unsigned_abs z ≤ new) front some (within_more front old new c.peak_unless_within-peak.ensures.more c.loop-rest.invariant.0.2) c.peak_unless_within-peak.ensures.above),
      λ bound are. c.peak_unless_within-peak.ensures.least bound (c.loop-rest.invariant.1 bound are)
          (first_within some others bound (front_within front (some ++ others) bound (subst (λ ns. All (λ z. unsigned_abs z ≤ bound) ns) (whole ∙ append_assoc front some others) are))),
    )

pub returns-clause-least : goal.returns-clause-least
returns-clause-least c = λ bound are.
    c.peak_with.ensures.least bound (c.loop-rest.invariant.1 bound are)
    (front_within c.loop-rest.invariant.0.0 c.loop-rest.rest.now bound (subst (λ ns. All (λ z. unsigned_abs z ≤ bound) ns) c.loop-rest.invariant.0.1 are))
