-- The reference and the place with a number in a list, and what at most four places name.
use Rattle.std.proofs.Common.{◌≡◌, ℕ, zero, suc, ◌≤◌, List, [], ◌∷◌, map as each, length, take, slice_get, length-take, length-take-le, None, Some, refl, sym, subst, ◌∙◌, arith}
use Rattle.std.proofs.Math.Nat.{min-le_right}
use Rattle.cht_ids.specs.declared.refs.Ref.{Ref}
use Rattle.cht_ids.specs.declared.refs.Ref.TheVariants.{Null}
use Rattle.task_types.specs.declared.outcome.Place.{Place}
use Rattle.task_types.specs.declared.outcome.Place.TheVariants.{Null as NullPlace}
use Rattle.task_types.specs.declared.outcome.Places.{Places}
use Rattle.task_types.specs.Places.{places_of, place_at}
use Rattle.name_machine.specs.Control.{ref_at}

-- ---- One of a list

pub ref_none : (refs : List Ref) (i : ℕ) → slice_get refs i ≡ None → Null ≡ ref_at refs i
ref_none [] i is = refl
ref_none (r ∷ refs) zero is = absurd (let clash : Some r ≡ None = is in cc)
ref_none (r ∷ refs) (suc i) is = ref_none refs i is

pub ref_some : (refs : List Ref) (i : ℕ) (r : Ref) → slice_get refs i ≡ Some r → r ≡ ref_at refs i
ref_some [] i r is = absurd (let clash : None ≡ Some r = is in cc)
ref_some (x ∷ refs) zero r is = let same : Some x ≡ Some r = is in cc
ref_some (x ∷ refs) (suc i) r is = ref_some refs i r is

pub place_none : (places : List Place) (i : ℕ) → slice_get places i ≡ None → NullPlace ≡ place_at places i
place_none [] i is = refl
place_none (place ∷ places) zero is = absurd (let clash : Some place ≡ None = is in cc)
place_none (place ∷ places) (suc i) is = place_none places i is

pub place_some : (places : List Place) (i : ℕ) (place : Place) → slice_get places i ≡ Some place → place ≡ place_at places i
place_some [] i place is = absurd (let clash : None ≡ Some place = is in cc)
place_some (first ∷ places) zero place is = let same : Some first ≡ Some place = is in cc
place_some (first ∷ places) (suc i) place is = place_some places i place is

-- ---- At most four places

pub few_places : (places : Places) → length (places_of places) ≤ 4
few_places places =
    let four : List Place = places.first ∷ places.second ∷ places.third ∷ places.fourth ∷ [] in
    subst (λ n. n ≤ 4) (sym (length-take places.count four)) (min-le_right places.count 4)

-- there are as many places as are counted
pub all_places : (places : Places) → places.count ≤ 4 → length (places_of places) ≡ places.count
all_places places few = length-take-le places.count (places.first ∷ places.second ∷ places.third ∷ places.fourth ∷ []) few

-- four references, read one after the other, have in front what all places read as
four_read : (f : Place → Ref) (places : List Place) → length places ≤ 4
    → take (length places) (f (place_at places 0) ∷ f (place_at places 1) ∷ f (place_at places 2) ∷ f (place_at places 3) ∷ []) ≡ each f places
four_read f [] few = refl
four_read f (a ∷ []) few = refl
four_read f (a ∷ b ∷ []) few = refl
four_read f (a ∷ b ∷ c ∷ []) few = refl
four_read f (a ∷ b ∷ c ∷ d ∷ []) few = refl
four_read f (a ∷ b ∷ c ∷ d ∷ e ∷ places) few = absurd (omega arith)

pub all_read : (f : Place → Ref) (places : Places) (p q r s : Place) → p ≡ place_at (places_of places) 0 → q ≡ place_at (places_of places) 1
    → r ≡ place_at (places_of places) 2 → s ≡ place_at (places_of places) 3 → (a b c d : Ref) → a ≡ f p → b ≡ f q → c ≡ f r → d ≡ f s
    → take (length (places_of places)) (a ∷ b ∷ c ∷ d ∷ []) ≡ each f (places_of places)
all_read f places p q r s first second third fourth a b c d one two three four =
    (λ i. take (length (places_of places)) (one i ∷ two i ∷ three i ∷ four i ∷ []))
    ∙ (λ i. take (length (places_of places)) (f (first i) ∷ f (second i) ∷ f (third i) ∷ f (fourth i) ∷ []))
    ∙ four_read f (places_of places) (few_places places)
