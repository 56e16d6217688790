-- Lists of entries: their order, and the test of their soundness.
use Rattle.std.proofs.Common.{◌≡◌, ℕ, zero, suc, ◌-◌, ◌*◌, ◌^◌, ◌<◌, ◌≤◌, nat_eq, nat_le, Bool, true, false, not, ◌&&◌, ◌||◌, List, [], ◌∷◌, length, drop, get_or, All, ℤ, pos, negsuc, unsigned_abs, ◌<ℤ◌, FitsSigned, refl, ap, sym, ◌∙◌, arith, lit<}
use Rattle.std.proofs.Math.Nat.{pow-le-pow_right, mul-le-mul_left}
use Rattle.std.proofs.lemmas.Bool.{and_parts, and_from, ltb-true, leb-true, lt-ltb, le-leb, ne_eqb, eq-eqb, false≢true}
use Rattle.std.proofs.lemmas.List.Sums.{AllPass-from_list_all, list_all-from_AllPass}
use Rattle.std.proofs.lemmas.Int.{ints}
use Rattle.std.specs.List.{list_all}
use Rattle.std.specs.Int.{w64}
use Rattle.chunk_codec.specs.declared.plain.Spot.{Spot}
use Rattle.chunk_codec.specs.Spots.{stands_before, spots_rise, side_of, IsSpot, IsUpper, AreSoundSpots}
use Rattle.chunk_codec.specs.Parts.{HasWidths, may_be_listed}

-- a list of one entry, or of none, rises
pub short_rises : (list : List Spot) → length list ≤ 1 → spots_rise list ≡ true
short_rises [] h = refl
short_rises (spot ∷ []) h = refl
short_rises (spot ∷ next ∷ list) h = absurd (omega arith)

-- from two neighbours on
rise_at : (list : List Spot) (i : ℕ) (d : Spot) → suc i < length list → spots_rise (drop i list) ≡ (stands_before (get_or list i d) (get_or list (suc i) d) && spots_rise (drop (suc i) list))
rise_at [] i d h = absurd (omega arith)
rise_at (spot ∷ []) i d h = absurd (omega arith)
rise_at (spot ∷ next ∷ list) zero d h = refl
rise_at (spot ∷ next ∷ list) (suc i) d h = rise_at (next ∷ list) i d (omega arith)

pub rise_step : (list : List Spot) (i : ℕ) (d : Spot) → 1 ≤ i → i < length list → spots_rise (drop (i - 1) list) ≡ (stands_before (get_or list (i - 1) d) (get_or list i d) && spots_rise (drop i list))
rise_step list zero d low h = absurd (omega arith)
rise_step list (suc i) d low h =
    let e : suc i - 1 ≡ i = omega arith in
    rw e (rise_at list i d h)

-- ---- One entry

-- a value of 64 bits
fits_small : (z : ℤ) → FitsSigned w64 z → (unsigned_abs z ≤ 2 ^ 63) × (z <ℤ pos (2 ^ 63))
fits_small (pos n) h = let p : n < 2 ^ 63 = omega (arith, h.sfits) in (omega arith, omega (arith, ints))
fits_small (negsuc n) h = let p : n < 2 ^ 63 = omega (arith, h.sfits) in (omega arith, omega (arith, ints))

small_fits : (z : ℤ) → unsigned_abs z ≤ 2 ^ 63 → z <ℤ pos (2 ^ 63) → FitsSigned w64 z
small_fits (pos n) h k = record { sfits = let p : n < 2 ^ 63 = omega (arith, ints, k) in p }
small_fits (negsuc n) h k = record { sfits = omega arith }

-- the side of a block is at most 2 ^ 22
side_small : (b h : ℕ) → b ≤ 64 → h ≤ 16 → side_of b h ≤ 2 ^ 22
side_small b h low high =
    let power : 2 ^ h ≤ 2 ^ 16 = pow-le-pow_right {n = 2} (lit< tt) {i = h} {j = 16} high in
    let product : b * 2 ^ h ≤ b * 2 ^ 16 = mul-le-mul_left b power in
    omega arith

-- a sound entry has the widths of its bytes
sound_widths : (b h : ℕ) (spot : Spot) → b ≤ 64 → h ≤ 16 → IsSpot (side_of b h) spot → HasWidths spot
sound_widths b h spot low high is =
    let side : side_of b h ≤ 2 ^ 22 = side_small b h low high in
    record { row = omega (arith, is.row); column = omega (arith, is.column); value = small_fits spot.value is.small is.below }

eqb_not : (a b : ℕ) → a ≡ b → not (nat_eq a b) ≡ true → ⊥
eqb_not a b e test = false≢true (sym (ap not (eq-eqb a b e)) ∙ test)

nonzero : (z : ℤ) → (z ≡ pos 0 → ⊥) → unsigned_abs z ≡ 0 → ⊥
nonzero (pos n) h e = h (ap pos e)
nonzero (negsuc n) h e = absurd (omega arith)

zero_fails : (z : ℤ) → z ≡ pos 0 → not (nat_eq (unsigned_abs z) 0) ≡ true → ⊥
zero_fails z e test = eqb_not (unsigned_abs z) 0 (ap unsigned_abs e) test

upper_from : (s : Bool) (spot : Spot) → s ≡ true → (not s || nat_le spot.row spot.column) ≡ true → IsUpper spot
upper_from true spot e test = leb-true _ _ test
upper_from false spot e test = absurd (false≢true e)

-- the test of an entry
test_passes : (side : ℕ) (s : Bool) (spot : Spot) → IsSpot side spot → (s ≡ true → IsUpper spot) → may_be_listed side s spot ≡ true
test_passes side false spot is upper =
    and_from _ _ (and_from _ _ (and_from _ _ (lt-ltb _ _ is.row) (lt-ltb _ _ is.column)) (ap not (ne_eqb _ _ (nonzero spot.value is.value)))) refl
test_passes side true spot is upper =
    and_from _ _ (and_from _ _ (and_from _ _ (lt-ltb _ _ is.row) (lt-ltb _ _ is.column)) (ap not (ne_eqb _ _ (nonzero spot.value is.value)))) (le-leb _ _ (upper refl))

test_means : (side : ℕ) (s : Bool) (spot : Spot) → HasWidths spot → may_be_listed side s spot ≡ true → IsSpot side spot × (s ≡ true → IsUpper spot)
test_means side s spot fits test =
    let all = and_parts _ _ test in
    let three = and_parts _ _ all.0 in
    let two = and_parts _ _ three.0 in
    let bounds = fits_small spot.value fits.value in (
      record {
        row = ltb-true _ _ two.0;
        column = ltb-true _ _ two.1;
        value = λ e. zero_fails spot.value e three.1;
        small = bounds.0;
        below = bounds.1;
      },
      λ e. upper_from s spot e all.1,
    )

-- ---- Lists

-- the test of a list
abbrev pub passes : ℕ → Bool → List Spot → Bool
passes side s list = spots_rise list && list_all (may_be_listed side s) list

pub sound_passes : (b h : ℕ) (s : Bool) (list : List Spot) → AreSoundSpots b h s list → passes (side_of b h) s list ≡ true
sound_passes b h s list sound =
    and_from _ _ sound.rising
    (list_all-from_AllPass (may_be_listed (side_of b h) s) list
    (λ k d below. test_passes (side_of b h) s (get_or list k d) (sound.spots k d below) (λ e. sound.upper e k d below)))

pub sound_fits : (b h : ℕ) (s : Bool) (list : List Spot) → AreSoundSpots b h s list → All HasWidths list
sound_fits b h s list sound k d below = sound_widths b h (get_or list k d) sound.leaf_high sound.low (sound.spots k d below)

pub passes_sound : (b h : ℕ) (s : Bool) (list : List Spot) → 1 ≤ b → b ≤ 64 → h ≤ 16 → 1 ≤ length list → length list < 2 ^ 32
    → All HasWidths list → passes (side_of b h) s list ≡ true → AreSoundSpots b h s list
passes_sound b h s list leaf_low leaf_high low some few fits test =
    let parts = and_parts _ _ test in
    let each = AllPass-from_list_all (may_be_listed (side_of b h) s) list parts.1 in
    record {
      leaf_low = leaf_low;
      leaf_high = leaf_high;
      low = low;
      some = some;
      few = few;
      rising = parts.0;
      spots = λ k d below. (test_means (side_of b h) s (get_or list k d) (fits k d below) (each k d below)).0;
      upper = λ e k d below. (test_means (side_of b h) s (get_or list k d) (fits k d below) (each k d below)).1 e;
    }
