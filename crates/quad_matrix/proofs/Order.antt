-- Lists of entries whose places rise: what a filter and a shift into a quadrant leave of them.
use Rattle.std.proofs.Common.{◌≡◌, ℕ, suc, ◌<◌, true, ◌&&◌, ◌==◌, nat_lt, List, [], ◌∷◌, get_or, map, ◌⊎◌, inl, inr, ⊎_elim, refl, sym, ap, ◌∙◌, arith, IsTrue, lt-ltb}
use Rattle.std.specs.List.{All, AllPairs, filter}
use Rattle.std.proofs.lemmas.Bool.{ltb-true, eqb-true, eq-eqb, and_parts, and_from, or_cases, or_left, or_right}
use Rattle.std.proofs.lemmas.List.Elements.{All-nil, All-cons, All-head, All-weaker, All-map, filter_passes}
use Rattle.std.proofs.lemmas.List.Kept.{AllPairs-cons, AllPairs-filter}
use Rattle.chunk_codec.specs.declared.plain.Spot.{Spot}
use Rattle.chunk_codec.specs.Spots.{stands_before, spots_rise}
use Rattle.quad_matrix.specs.Spots.{quadrant_of, relative, moved, part_of}
use Rattle.quad_matrix.proofs.QuadrantSides.{sides_of_quadrant, relative_below}

-- one entry stands before another
abbrev pub Before : Spot → Spot → Type 0
Before one other = IsTrue (stands_before one other)

-- in an earlier row, or in the same row and an earlier column
pub before_cases : (x y : Spot) → Before x y → (x.row < y.row) ⊎ ((x.row ≡ y.row) × (x.column < y.column))
before_cases x y h =
    ⊎_elim (λ (l : nat_lt x.row y.row ≡ true). inl (ltb-true x.row y.row l))
    (λ (r : ((x.row == y.row) && nat_lt x.column y.column) ≡ true).
    let both = and_parts (x.row == y.row) (nat_lt x.column y.column) r in
    inr (eqb-true x.row y.row both.0, ltb-true x.column y.column both.1))
    (or_cases (nat_lt x.row y.row) ((x.row == y.row) && nat_lt x.column y.column) h)

pub before_from : (x y : Spot) → (x.row < y.row) ⊎ ((x.row ≡ y.row) × (x.column < y.column)) → Before x y
before_from x y h =
    ⊎_elim (λ (l : x.row < y.row). or_left (nat_lt x.row y.row) _ (lt-ltb x.row y.row l))
    (λ (r : (x.row ≡ y.row) × (x.column < y.column)).
    or_right (nat_lt x.row y.row) _ (and_from _ _ (eq-eqb x.row y.row r.0) (lt-ltb x.column y.column r.1)))
    h

-- what stands before an entry stands before all behind it
pub before_trans : (x y z : Spot) → Before x y → Before y z → Before x z
before_trans x y z h k = before_from x z (joined (before_cases x y h) (before_cases y z k))
  where
    joined : (x.row < y.row) ⊎ ((x.row ≡ y.row) × (x.column < y.column)) → (y.row < z.row) ⊎ ((y.row ≡ z.row) × (y.column < z.column)) → (x.row < z.row) ⊎ ((x.row ≡ z.row) × (x.column < z.column))
    joined (inl a) (inl b) = inl (omega arith)
    joined (inl a) (inr b) = inl (omega arith)
    joined (inr a) (inl b) = inl (omega arith)
    joined (inr a) (inr b) = inr (omega arith, omega arith)

-- where places rise, the first entry stands before all others
first_before : (x : Spot) (xs : List Spot) → IsTrue (spots_rise (x ∷ xs)) → All (Before x) xs
first_before x [] h = All-nil (Before x)
first_before x (y ∷ ys) h =
    let parts = and_parts (stands_before x y) (spots_rise (y ∷ ys)) h in
    All-cons (Before x) y ys parts.0
    (All-weaker (Before y) (Before x) (λ z k. before_trans x y z parts.0 k) ys (first_before y ys parts.1))

-- where places rise, each entry stands before all behind it
pub pairs_from_rise : (xs : List Spot) → IsTrue (spots_rise xs) → AllPairs Before xs
pairs_from_rise [] h = λ i j d k l. absurd (omega arith)
pairs_from_rise (x ∷ []) h = λ i j d k l. absurd (omega arith)
pairs_from_rise (x ∷ y ∷ ys) h =
    AllPairs-cons Before x (y ∷ ys) (first_before x (y ∷ ys) h)
    (pairs_from_rise (y ∷ ys) (and_parts (stands_before x y) (spots_rise (y ∷ ys)) h).1)

pairs-head : (x : Spot) (xs : List Spot) → AllPairs Before (x ∷ xs) → All (Before x) xs
pairs-head x xs pairs = λ k d h. pairs 0 (suc k) d (omega arith) (omega arith)

pairs-tail : (x : Spot) (xs : List Spot) → AllPairs Before (x ∷ xs) → AllPairs Before xs
pairs-tail x xs pairs = λ i j d h k. pairs (suc i) (suc j) d (omega arith) (omega arith)

-- and the other way round
pub rise_from_pairs : (xs : List Spot) → AllPairs Before xs → IsTrue (spots_rise xs)
rise_from_pairs [] pairs = refl
rise_from_pairs (x ∷ []) pairs = refl
rise_from_pairs (x ∷ y ∷ ys) pairs =
    and_from (stands_before x y) (spots_rise (y ∷ ys)) (All-head (Before x) y ys (pairs-head x (y ∷ ys) pairs))
    (rise_from_pairs (y ∷ ys) (pairs-tail x (y ∷ ys) pairs))

-- entries of one quadrant keep their order
moved_before : (half : ℕ) (x y : Spot) → quadrant_of half x ≡ quadrant_of half y → Before x y → Before (moved half x) (moved half y)
moved_before half x y same h =
    let sides = sides_of_quadrant half x.row x.column y.row y.column same in
    before_from (moved half x) (moved half y)
    (⊎_elim (λ (l : x.row < y.row). inl (relative_below half x.row y.row sides.0 l))
    (λ (r : (x.row ≡ y.row) × (x.column < y.column)).
    inr (ap (relative half) r.0, relative_below half x.column y.column sides.1 r.1))
    (before_cases x y h))

-- and so do lists of them
moved_pairs : (half q : ℕ) (xs : List Spot) → All (λ (x : Spot). (quadrant_of half x == q) ≡ true) xs → AllPairs Before xs → AllPairs Before (map (moved half) xs)
moved_pairs half q [] here pairs = λ i j d k l. absurd (omega arith)
moved_pairs half q (x ∷ xs) here pairs =
    AllPairs-cons Before (moved half x) (map (moved half) xs)
    (All-map (Before (moved half x)) (moved half) xs
    (λ k d h. moved_before half x (get_or xs k d)
    (eqb-true (quadrant_of half x) q (here 0 x (omega arith)) ∙ sym (eqb-true (quadrant_of half (get_or xs k d)) q (here (suc k) d (omega arith))))
    (pairs-head x xs pairs k d h)))
    (moved_pairs half q xs (λ k d h. here (suc k) d (omega arith)) (pairs-tail x xs pairs))

-- the places of a part rise where those of the whole do
pub part_rises : (half q : ℕ) (spots : List Spot) → IsTrue (spots_rise spots) → IsTrue (spots_rise (part_of half q spots))
part_rises half q spots h =
    let lies = λ (spot : Spot). quadrant_of half spot == q in
    rise_from_pairs (part_of half q spots)
    (moved_pairs half q (filter lies spots) (filter_passes lies spots) (AllPairs-filter Before lies spots (pairs_from_rise spots h)))
