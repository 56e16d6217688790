-- Copies that new tasks hold of what places name: what stays, and four places one after the other.
use Rattle.std.proofs.Common.{◌≡◌, ℕ, zero, suc, ◌+◌, ◌≤◌, List, [], ◌∷◌, ◌++◌, take, slice_get, get_or, length, Option, None, Some, refl, sym, ap, subst, ◌∙◌, arith}
use Rattle.std.specs.FinMap as map
use Rattle.cht_ids.specs.declared.refs.Ref.{Ref}
use Rattle.cht_ids.specs.declared.refs.Ref.TheVariants.{Null as NullRef, Id as Held}
use Rattle.task_types.specs.declared.outcome.Place.{Place}
use Rattle.task_types.specs.declared.outcome.Place.TheVariants.{Null, Input as AtInput, Child, Chunk, Task}
use Rattle.task_types.specs.declared.outcome.Places.{Places}
use Rattle.task_types.specs.Places.{places_of, place_at}
use Rattle.std.proofs.lemmas.List.{length-take, length-take-le}
use Rattle.name_states.specs.declared.holder.Holder.{Holder}
use Rattle.name_states.specs.States.{NameState, IdRecord, id_at, record_of, IsLiveRef, AreLive, body_named, children_in}
use Rattle.name_states.specs.Steps.{IsOutside}
use Rattle.name_states.proofs.Within.{naming_of-kept, all-live-kept}
use Rattle.task_states.specs.declared.states.Slot.{Slot}
use Rattle.name_machine.specs.Control.{ref_at, child_named, ref_named, copy_of, input_copies}
use Rattle.name_machine.specs.NewTasks.{drawn_for, taken, number_at}
use Rattle.name_machine.proofs.FinishNames.{grow_copy}
use Rattle.name_machine.proofs.FinishNamesRead.{live_at}
use Rattle.core_steps.specs.NewTasks.{slot_for, slots_for, AreKept}

-- ---- Lists

-- the number at a place
pub number_is : (numbers : List ℕ) (i : ℕ) → get_or numbers i 0 ≡ number_at numbers i
number_is [] i = refl
number_is (n ∷ numbers) zero = refl
number_is (n ∷ numbers) (suc i) = number_is numbers i

-- the place at a number
pub place_none : (places : List Place) (i : ℕ) → slice_get places i ≡ None → Null ≡ place_at places i
place_none [] i is = refl
place_none (p ∷ places) zero is = absurd (let clash : Some p ≡ None = is in cc)
place_none (p ∷ places) (suc i) is = place_none places i is

pub place_some : (places : List Place) (i : ℕ) (place : Place) → slice_get places i ≡ Some place → place ≡ place_at places i
place_some [] i place is = absurd (let clash : None ≡ Some place = is in cc)
place_some (p ∷ places) zero place is = let same : Some p ≡ Some place = is in cc
place_some (p ∷ places) (suc i) place is = place_some places i place is

-- there are at most four places
pub few_places : (places : Places) → length (places_of places) ≤ 4
few_places places = omega (arith, length-take places.count (places.first ∷ places.second ∷ places.third ∷ places.fourth ∷ []))

-- and as many as are counted
pub all_places : (places : Places) → places.count ≤ 4 → length (places_of places) ≡ places.count
all_places places few = length-take-le places.count (places.first ∷ places.second ∷ places.third ∷ places.fourth ∷ []) few

-- ---- Null past the last place

abbrev AreNull : List Place → Type 0
AreNull [] = Unit {0}
AreNull (Null ∷ places) = AreNull places
AreNull (AtInput i ∷ places) = ⊥
AreNull (Child i j ∷ places) = ⊥
AreNull (Chunk i ∷ places) = ⊥
AreNull (Task i ∷ places) = ⊥

null_taken : (rest : List Place) → AreNull rest → taken rest ≡ 0
null_taken [] none = refl
null_taken (Null ∷ rest) none = let h = null_taken rest none in omega arith
null_taken (AtInput i ∷ rest) none = absurd none
null_taken (Child i j ∷ rest) none = absurd none
null_taken (Chunk i ∷ rest) none = absurd none
null_taken (Task i ∷ rest) none = absurd none

taken_front : (places rest : List Place) → AreNull rest → taken (places ++ rest) ≡ taken places
taken_front [] rest none = null_taken rest none
taken_front (place ∷ places) rest none = ap (λ k. drawn_for place + k) (taken_front places rest none)

slots_front : (read : Place → Ref) (numbers : List ℕ) (drawn : ℕ) (places rest : List Place) → take (length places) (slots_for read numbers drawn (places ++ rest)) ≡ slots_for read numbers drawn places
slots_front read numbers drawn [] rest = refl
slots_front read numbers drawn (place ∷ places) rest = ap (λ more. slot_for read numbers drawn place ∷ more) (slots_front read numbers (drawn + drawn_for place) places rest)

module _ {C : Type 0} where
  -- ---- What stays

  pub kept_none : (names : NameState C) → AreKept names names
  kept_none names = record { ids = λ q entry is. is; bodies = refl }

  pub kept_twice : (before between after : NameState C) → AreKept before between → AreKept between after → AreKept before after
  kept_twice before between after one two = record { ids = λ q entry is. two.ids q entry (one.ids q entry is); bodies = two.bodies ∙ one.bodies }

  -- one copy under a free number
  pub copy_kept : (names after : NameState C) (r : Ref) (number : ℕ) (holder : Holder) → IsLiveRef names r → id_at names number ≡ None → IsOutside holder → after ≡ copy_of names r number holder → AreKept names after
  copy_kept names after r number holder live free outside is =
      let one = grow_copy names r number holder live free outside in
      record {
        ids = λ q entry at. ap (λ n. id_at n q) is ∙ one.keeps q entry at;
        bodies = ap (λ (n : NameState C). n.bodies) is ∙ one.bodies;
      }

  -- live references stay live
  pub live_kept : (before after : NameState C) (refs : List Ref) → AreKept before after → AreLive before refs → AreLive after refs
  live_kept before after refs kept live = all-live-kept before after refs kept.ids live

  named_kept : (before after : NameState C) → AreKept before after → (o : Option IdRecord) → body_named after o ≡ body_named before o
  named_kept before after kept None = refl
  named_kept before after kept (Some entry) = ap (λ bodies. map.get bodies entry.body) kept.bodies

  child_kept : (before after : NameState C) → AreKept before after → (r : Ref) (j : ℕ) → IsLiveRef before r → child_named after r j ≡ child_named before r j
  child_kept before after kept NullRef j live = refl
  child_kept before after kept (Held id) j live =
      ap (λ o. ref_at (children_in (body_named after o)) j) (naming_of-kept before after id kept.ids live)
      ∙ ap (λ o. ref_at (children_in o) j) (named_kept before after kept (record_of before id))

  read_kept : (before after : NameState C) (inputs made : List Ref) → AreKept before after → AreLive before inputs → (place : Place) → ref_named after inputs made place ≡ ref_named before inputs made place
  read_kept before after inputs made kept live Null = refl
  read_kept before after inputs made kept live (AtInput i) = refl
  read_kept before after inputs made kept live (Child i j) = child_kept before after kept (ref_at inputs i) j (live_at before inputs i live)
  read_kept before after inputs made kept live (Chunk i) = refl
  read_kept before after inputs made kept live (Task i) = refl

  -- places name what they named
  pub reads_kept : (before after : NameState C) (inputs made : List Ref) → AreKept before after → AreLive before inputs → ref_named after inputs made ≡ ref_named before inputs made
  reads_kept before after inputs made kept live = λ i. λ place. read_kept before after inputs made kept live place i

  -- ---- One place after another

  copies_step : (read : Place → Ref) (task drawn : ℕ) (place : Place) (places : List Place) (names : NameState C)
      → input_copies read task drawn (place ∷ places) names ≡ input_copies read task (drawn + drawn_for place) places (input_copies read task drawn (place ∷ []) names)
  copies_step read task drawn Null places names = let same : drawn ≡ drawn + 0 = omega arith in ap (λ d. input_copies read task d places names) same
  copies_step read task drawn (AtInput i) places names = refl
  copies_step read task drawn (Child i j) places names = refl
  copies_step read task drawn (Chunk i) places names = refl
  copies_step read task drawn (Task i) places names = refl

  -- what a task gets for places, from some names to others
  pub record IsHeld (inputs made : List Ref) (numbers : List ℕ) (task : ℕ) (before : NameState C) (drawn : ℕ) (after : NameState C) (upto : ℕ) (places : List Place) (slots : List Slot) : Type 0 where
    pub names : after ≡ input_copies (ref_named before inputs made) task drawn places before
    pub draws : upto ≡ drawn + taken places
    pub given : slots ≡ slots_for (ref_named before inputs made) numbers drawn places

  module _ (inputs made : List Ref) (numbers : List ℕ) (task : ℕ) where
    held_more : (n0 n1 n2 : NameState C) (d0 d1 d2 : ℕ) (place : Place) (places : List Place) (slot : Slot) (slots : List Slot) → AreLive n0 inputs → AreKept n0 n1
        → IsHeld inputs made numbers task n0 d0 n1 d1 (place ∷ []) (slot ∷ []) → IsHeld inputs made numbers task n1 d1 n2 d2 places slots
        → IsHeld inputs made numbers task n0 d0 n2 d2 (place ∷ places) (slot ∷ slots)
    held_more n0 n1 n2 d0 d1 d2 place places slot slots live kept one two =
        let reads : ref_named n1 inputs made ≡ ref_named n0 inputs made = reads_kept n0 n1 inputs made kept live in
        let up : d1 ≡ d0 + drawn_for place = (let h = one.draws in omega arith) in
        let its = one.names in
        let first = one.given in
        record {
          names = two.names ∙ (λ i. input_copies (reads i) task (up i) places (its i)) ∙ sym (copies_step (ref_named n0 inputs made) task d0 place places n0);
          draws = two.draws ∙ (let h = one.draws in omega arith);
          given = (let rest : slots ≡ slots_for (ref_named n0 inputs made) numbers (d0 + drawn_for place) places = two.given ∙ (λ i. slots_for (reads i) numbers (up i) places) in cc);
        }

    null_copies : (read : Place → Ref) (drawn : ℕ) (rest : List Place) (names : NameState C) → AreNull rest → input_copies read task drawn rest names ≡ names
    null_copies read drawn [] names none = refl
    null_copies read drawn (Null ∷ rest) names none = null_copies read drawn rest names none
    null_copies read drawn (AtInput i ∷ rest) names none = absurd none
    null_copies read drawn (Child i j ∷ rest) names none = absurd none
    null_copies read drawn (Chunk i ∷ rest) names none = absurd none
    null_copies read drawn (Task i ∷ rest) names none = absurd none

    copies_front : (read : Place → Ref) (drawn : ℕ) (places rest : List Place) (names : NameState C) → AreNull rest → input_copies read task drawn (places ++ rest) names ≡ input_copies read task drawn places names
    copies_front read drawn [] rest names none = null_copies read drawn rest names none
    copies_front read drawn (place ∷ places) rest names none =
        copies_step read task drawn place (places ++ rest) names
        ∙ copies_front read (drawn + drawn_for place) places rest (input_copies read task drawn (place ∷ []) names) none
        ∙ sym (copies_step read task drawn place places names)

    held_front : (before after : NameState C) (drawn upto : ℕ) (places rest : List Place) (slots : List Slot) → AreNull rest → IsHeld inputs made numbers task before drawn after upto (places ++ rest) slots
        → IsHeld inputs made numbers task before drawn after upto places (take (length places) slots)
    held_front before after drawn upto places rest slots none all = record {
      names = all.names ∙ copies_front (ref_named before inputs made) drawn places rest before none;
      draws = all.draws ∙ ap (λ k. drawn + k) (taken_front places rest none);
      given = ap (take (length places)) all.given ∙ slots_front (ref_named before inputs made) numbers drawn places rest;
    }

    -- one place
    pub one_held : (n0 n1 : NameState C) (d0 d1 : ℕ) (place : Place) (slot : Slot) → n1 ≡ input_copies (ref_named n0 inputs made) task d0 (place ∷ []) n0 → d1 ≡ d0 + drawn_for place
        → slot ≡ slot_for (ref_named n0 inputs made) numbers d0 place → IsHeld inputs made numbers task n0 d0 n1 d1 (place ∷ []) (slot ∷ [])
    one_held n0 n1 d0 d1 place slot names_is drawn_is slot_is = record { names = names_is; draws = omega arith; given = ap (λ s. s ∷ []) slot_is }

    -- at most four places, one after the other
    pub four_held : (places : List Place) → length places ≤ 4 → (p0 p1 p2 p3 : Place) → p0 ≡ place_at places 0 → p1 ≡ place_at places 1 → p2 ≡ place_at places 2 → p3 ≡ place_at places 3
        → (n0 n1 n2 n3 n4 : NameState C) (d0 d1 d2 d3 d4 : ℕ) (s0 s1 s2 s3 : Slot)
        → AreLive n0 inputs → AreKept n0 n1 → AreKept n1 n2 → AreKept n2 n3
        → IsHeld inputs made numbers task n0 d0 n1 d1 (p0 ∷ []) (s0 ∷ [])
        → IsHeld inputs made numbers task n1 d1 n2 d2 (p1 ∷ []) (s1 ∷ [])
        → IsHeld inputs made numbers task n2 d2 n3 d3 (p2 ∷ []) (s2 ∷ [])
        → IsHeld inputs made numbers task n3 d3 n4 d4 (p3 ∷ []) (s3 ∷ [])
        → IsHeld inputs made numbers task n0 d0 n4 d4 places (take (length places) (s0 ∷ s1 ∷ s2 ∷ s3 ∷ []))
    four_held places few p0 p1 p2 p3 e0 e1 e2 e3 n0 n1 n2 n3 n4 d0 d1 d2 d3 d4 s0 s1 s2 s3 live kept one_kept two_kept first second third fourth =
        let live1 = live_kept n0 n1 inputs kept live in
        let live2 = live_kept n1 n2 inputs one_kept live1 in
        let all : IsHeld inputs made numbers task n0 d0 n4 d4 (p0 ∷ p1 ∷ p2 ∷ p3 ∷ []) (s0 ∷ s1 ∷ s2 ∷ s3 ∷ []) =
        held_more n0 n1 n4 d0 d1 d4 p0 (p1 ∷ p2 ∷ p3 ∷ []) s0 (s1 ∷ s2 ∷ s3 ∷ []) live kept first
        (held_more n1 n2 n4 d1 d2 d4 p1 (p2 ∷ p3 ∷ []) s1 (s2 ∷ s3 ∷ []) live1 one_kept second
        (held_more n2 n3 n4 d2 d3 d4 p2 (p3 ∷ []) s2 (s3 ∷ []) live2 two_kept third fourth)) in
        go places few (subst (λ ps. IsHeld inputs made numbers task n0 d0 n4 d4 ps (s0 ∷ s1 ∷ s2 ∷ s3 ∷ [])) (λ i. e0 i ∷ e1 i ∷ e2 i ∷ e3 i ∷ []) all)
      where
        go : (ps : List Place) → length ps ≤ 4 → IsHeld inputs made numbers task n0 d0 n4 d4 (place_at ps 0 ∷ place_at ps 1 ∷ place_at ps 2 ∷ place_at ps 3 ∷ []) (s0 ∷ s1 ∷ s2 ∷ s3 ∷ [])
            → IsHeld inputs made numbers task n0 d0 n4 d4 ps (take (length ps) (s0 ∷ s1 ∷ s2 ∷ s3 ∷ []))
        go [] low held = held_front n0 n4 d0 d4 [] (Null ∷ Null ∷ Null ∷ Null ∷ []) (s0 ∷ s1 ∷ s2 ∷ s3 ∷ []) tt held
        go (a ∷ []) low held = held_front n0 n4 d0 d4 (a ∷ []) (Null ∷ Null ∷ Null ∷ []) (s0 ∷ s1 ∷ s2 ∷ s3 ∷ []) tt held
        go (a ∷ b ∷ []) low held = held_front n0 n4 d0 d4 (a ∷ b ∷ []) (Null ∷ Null ∷ []) (s0 ∷ s1 ∷ s2 ∷ s3 ∷ []) tt held
        go (a ∷ b ∷ c ∷ []) low held = held_front n0 n4 d0 d4 (a ∷ b ∷ c ∷ []) (Null ∷ []) (s0 ∷ s1 ∷ s2 ∷ s3 ∷ []) tt held
        go (a ∷ b ∷ c ∷ e ∷ []) low held = held_front n0 n4 d0 d4 (a ∷ b ∷ c ∷ e ∷ []) [] (s0 ∷ s1 ∷ s2 ∷ s3 ∷ []) tt held
        go (a ∷ b ∷ c ∷ e ∷ f ∷ more) low held = absurd (omega arith)
