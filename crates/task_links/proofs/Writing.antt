-- What the writes of entries make of places, heads, stations and of what contracts see.
use Rattle.std.proofs.Common.{◌≡◌, ℕ, zero, suc, true, false, cond, ◌&&◌, List, [], ◌∷◌, Option, Some, None, IsSome, nat_eq, refl, sym, ap, subst, ◌∙◌, inl, inr, set, take, arith}
use Rattle.std.specs.Prelude.{slice_get, map as each}
use Rattle.std.specs.Option.{option_map}
use Rattle.cht_ids.specs.declared.refs.Ref.{Ref}
use Rattle.std.proofs.lemmas.Bool.Decides.{nat_tests}
use Rattle.task_states.specs.States.{Input, Awaits as AwaitsTask, Unfinished}
use Rattle.task_states.proofs.Maps.{same_or_not, test_same, test_apart}
use Rattle.task_links.specs.declared.entries.Entry.{Entry}
use Rattle.task_links.specs.declared.entries.Place.{Place}
use Rattle.task_links.specs.declared.entries.Place.TheVariants.{Known, Awaits}
use Rattle.task_links.specs.declared.entries.Spot.{Spot}
use Rattle.task_links.specs.declared.entries.Link.{Link}
use Rattle.task_links.specs.declared.kept.Kept.{Kept}
use Rattle.task_links.specs.declared.kept.KeptPlace.{KeptPlace}
use Rattle.task_links.specs.Kept.{opened, opened_place}
use Rattle.task_links.specs.Inside.{put_in, inputs_of, shown_place, shown_entry, place_in, place_at, is_spot, with_input, shown_at, with_place_at}
use Rattle.task_links.specs.Weave.{link_of, link_at}

suc_zero : (k : ℕ) → nat_eq (suc k) 0 ≡ false
suc_zero k = grind (arith, nat_tests)

zero_suc : (j : ℕ) → nat_eq 0 (suc j) ≡ false
zero_suc j = grind (arith, nat_tests)

suc_suc : (k j : ℕ) → nat_eq (suc k) (suc j) ≡ nat_eq k j
suc_suc k j = grind (arith, nat_tests)

get_set : {X : Type 0} (n : ℕ) (xs : List X) (j : ℕ) (v : X) (k : ℕ) → IsSome (slice_get (take n xs) j) → slice_get (take n (set xs j v)) k ≡ cond (nat_eq k j) (Some v) (slice_get (take n xs) k)
get_set zero xs j v k some = absurd (cc)
get_set (suc n) [] j v k some = absurd (cc)
get_set (suc n) (x ∷ xs) zero v zero some = refl
get_set (suc n) (x ∷ xs) zero v (suc k) some = ap (λ b. cond b (Some v) (slice_get (take n xs) k)) (sym (suc_zero k))
get_set (suc n) (x ∷ xs) (suc j) v zero some = ap (λ b. cond b (Some v) (Some x)) (sym (zero_suc j))
get_set (suc n) (x ∷ xs) (suc j) v (suc k) some = get_set n xs j v k some ∙ ap (λ b. cond b (Some v) (slice_get (take n xs) k)) (sym (suc_suc k j))

map_set : {X Y : Type 0} (f : X → Y) (n : ℕ) (xs : List X) (j : ℕ) (v : X) → each f (take n (set xs j v)) ≡ set (each f (take n xs)) j (f v)
map_set f zero xs j v = refl
map_set f (suc n) [] j v = refl
map_set f (suc n) (x ∷ xs) zero v = refl
map_set f (suc n) (x ∷ xs) (suc j) v = ap (λ ys. f x ∷ ys) (map_set f n xs j v)

unchanged_inputs : {K : Type 0} (q : ℕ) (spot : Spot) (place : Place) (o : Option (Unfinished Ref K)) → nat_eq q spot.task ≡ false → o ≡ option_map (with_input q spot (shown_place place)) o
unchanged_inputs q spot place None test = refl
unchanged_inputs q spot place (Some u) test = ap (λ b. Some (record u { inputs = cond b (set u.inputs spot.place (shown_place place)) u.inputs })) (sym test)

module _ {K : Type 0} (old new : ℕ → Option (Entry K)) (spot : Spot) (entry : Entry K) (place : Place)
    (is : old spot.task ≡ Some entry) (there : IsSome (place_at old spot)) (puts : (q : ℕ) → new q ≡ put_in spot.task (record entry { places = set entry.places spot.place place }) old q) where
  changed : Entry K
  changed = record entry { places = set entry.places spot.place place }

  inside : IsSome (slice_get (inputs_of entry) spot.place)
  inside = subst (λ o. IsSome (place_in o spot.place)) is there

  pub placed : (p : Spot) → place_at new p ≡ cond (is_spot p spot) (Some place) (place_at old p)
  unfolding changed
  placed p =
      elim (same_or_not p.task spot.task) [
        | inl same ↦
            let test : nat_eq p.task spot.task ≡ true = ap (λ t. nat_eq t spot.task) same ∙ test_same spot.task in
            ap (λ o. place_in o p.place) (puts p.task ∙ ap (λ b. cond b (Some changed) (old p.task)) test)
            ∙ get_set entry.count entry.places spot.place place p.place inside
            ∙ ap (λ o. cond (nat_eq p.place spot.place) (Some place) (place_in o p.place)) (sym (ap old same ∙ is))
            ∙ ap (λ b. cond (b && nat_eq p.place spot.place) (Some place) (place_at old p)) (sym test)
        | inr apart ↦
            let test : nat_eq p.task spot.task ≡ false = test_apart p.task spot.task apart in
            ap (λ o. place_in o p.place) (puts p.task ∙ ap (λ b. cond b (Some changed) (old p.task)) test)
            ∙ ap (λ b. cond (b && nat_eq p.place spot.place) (Some place) (place_at old p)) (sym test)
      ]

  pub shown_placed : (q : ℕ) → shown_at new q ≡ option_map (with_input q spot (shown_place place)) (shown_at old q)
  unfolding changed
  shown_placed q =
      elim (same_or_not q spot.task) [
        | inl same ↦
            let test : nat_eq q spot.task ≡ true = ap (λ t. nat_eq t spot.task) same ∙ test_same spot.task in
            ap (option_map shown_entry) (puts q ∙ ap (λ b. cond b (Some changed) (old q)) test)
            ∙ ap (λ inputs. Some (record (shown_entry entry) { inputs = inputs })) (map_set shown_place entry.count entry.places spot.place place)
            ∙ ap (λ b. Some (record (shown_entry entry) { inputs = cond b (set (each shown_place (inputs_of entry)) spot.place (shown_place place)) (each shown_place (inputs_of entry)) })) (sym test)
            ∙ ap (λ o. option_map (with_input q spot (shown_place place)) (option_map shown_entry o)) (sym (ap old same ∙ is))
        | inr apart ↦
            let test : nat_eq q spot.task ≡ false = test_apart q spot.task apart in
            ap (option_map shown_entry) (puts q ∙ ap (λ b. cond b (Some changed) (old q)) test) ∙ unchanged_inputs q spot place (shown_at old q) test
      ]

unchanged_places : {K : Type 0} (q : ℕ) (spot : Spot) (place : Place) (o : Option (Entry K)) → nat_eq q spot.task ≡ false → option_map (with_place_at q spot place) o ≡ o
unchanged_places q spot place None test = refl
unchanged_places q spot place (Some entry) test = ap (λ b. Some (record entry { places = cond b (set entry.places spot.place place) entry.places })) test

-- a task with another input at a place, as one put in
pub put_place : {K : Type 0} (old new : ℕ → Option (Entry K)) (spot : Spot) (place : Place) (entry : Entry K) → old spot.task ≡ Some entry → ((q : ℕ) → new q ≡ option_map (with_place_at q spot place) (old q))
    → (q : ℕ) → new q ≡ put_in spot.task (record entry { places = set entry.places spot.place place }) old q
put_place old new spot place entry is writes q =
    elim (same_or_not q spot.task) [
      | inl same ↦
          let test : nat_eq q spot.task ≡ true = ap (λ t. nat_eq t spot.task) same ∙ test_same spot.task in
          writes q
          ∙ ap (option_map (with_place_at q spot place)) (ap old same ∙ is)
          ∙ ap (λ b. Some (record entry { places = cond b (set entry.places spot.place place) entry.places })) test
          ∙ ap (λ b. cond b (Some (record entry { places = set entry.places spot.place place })) (old q)) (sym test)
      | inr apart ↦
          let test : nat_eq q spot.task ≡ false = test_apart q spot.task apart in
          writes q
          ∙ unchanged_places q spot place (old q) test
          ∙ ap (λ b. cond b (Some (record entry { places = set entry.places spot.place place })) (old q)) (sym test)
    ]

-- the task of an input
pub entry_there : {K : Type 0} (o : Option (Entry K)) (place : ℕ) → IsSome (place_in o place) → (entry : Entry K) × (o ≡ Some entry)
entry_there None place there = absurd (cc)
entry_there (Some entry) place there = (entry, refl)

-- an awaiting input behind its link
pub awaits_behind : (o : Option Place) (link : Link) → link_of o ≡ Some link → o ≡ Some (Awaits link)
awaits_behind None link is = absurd (let clash : None ≡ Some link = is in cc)
awaits_behind (Some (Known r)) link is = absurd (let clash : None ≡ Some link = is in cc)
awaits_behind (Some (Awaits l)) link is = ap (λ o. option_map Awaits o) is

set_same : {X : Type 0} (xs : List X) (j : ℕ) (v : X) → slice_get xs j ≡ Some v → set xs j v ≡ xs
set_same [] j v is = refl
set_same (x ∷ xs) zero v is = ap (λ y. y ∷ xs) (let one : x ≡ v = (let e : Some x ≡ Some v = is in cc) in sym one)
set_same (x ∷ xs) (suc j) v is = ap (λ ys. x ∷ ys) (set_same xs j v is)

get_each : {X Y : Type 0} (f : X → Y) (xs : List X) (j : ℕ) (v : X) → slice_get xs j ≡ Some v → slice_get (each f xs) j ≡ Some (f v)
get_each f [] j v is = absurd (let clash : None ≡ Some v = is in cc)
get_each f (x ∷ xs) zero v is = ap (option_map f) is
get_each f (x ∷ xs) (suc j) v is = get_each f xs j v is

inputs_same : {K : Type 0} (q : ℕ) (spot : Spot) (input : Input Ref) (u : Unfinished Ref K) → (nat_eq q spot.task ≡ true → slice_get u.inputs spot.place ≡ Some input) → with_input q spot input u ≡ u
inputs_same q spot input u is =
    elim (nat_eq q spot.task) as (λ b. (b ≡ true → slice_get u.inputs spot.place ≡ Some input) → record u { inputs = cond b (set u.inputs spot.place input) u.inputs } ≡ u) [
      | true ↦ λ is. ap (λ inputs. record u { inputs = inputs }) (set_same u.inputs spot.place input (is refl))
      | false ↦ λ is. refl
    ] is

input_behind : {K : Type 0} (o : Option (Entry K)) (place : ℕ) (link : Link) → place_in o place ≡ Some (Awaits link) → (entry : Entry K) × (o ≡ Some entry) × (slice_get (inputs_of entry) place ≡ Some (Awaits link))
input_behind None place link is = absurd (let clash : None ≡ Some (Awaits link) = is in cc)
input_behind (Some entry) place link is = (entry, refl, is)

-- a link with another next one shows the same input
pub shown_same : {K : Type 0} (entries : ℕ → Option (Entry K)) (spot : Spot) (link : Link) (next : Option Spot) → link_at entries spot ≡ Some link
    → (q : ℕ) → option_map (with_input q spot (shown_place (Awaits (record link { next = next })))) (shown_at entries q) ≡ shown_at entries q
shown_same {K} entries spot link next is q =
    let place = awaits_behind (place_at entries spot) link is in
    let behind = input_behind (entries spot.task) spot.place link place in
    elim (entries q) as (λ o. entries q ≡ o → option_map (with_input q spot (shown_place (Awaits (record link { next = next })))) (option_map shown_entry o) ≡ option_map shown_entry o) [
      | None ↦ λ _. refl
      | Some entry ↦ λ at. ap Some (inputs_same q spot (AwaitsTask link.task link.number) (shown_entry entry) (λ test.
          let same : q ≡ spot.task = grind (arith, nat_tests) in
          let one : behind.0 ≡ entry = (let e : Some behind.0 ≡ Some entry = sym behind.1 ∙ sym (ap entries same) ∙ at in cc) in
          get_each shown_place (inputs_of entry) spot.place (Awaits link) (subst (λ (e : Entry K). slice_get (inputs_of e) spot.place ≡ Some (Awaits link)) one behind.2)))
    ] refl

-- the links once an input awaits
pub link_placed : {K : Type 0} (old new : ℕ → Option (Entry K)) (spot : Spot) (place : Place) → ((p : Spot) → place_at new p ≡ cond (is_spot p spot) (Some place) (place_at old p))
    → (p : Spot) → link_at new p ≡ cond (is_spot p spot) (link_of (Some place)) (link_at old p)
link_placed old new spot place places p = ap link_of (places p) ∙ elim (is_spot p spot) as (λ b. link_of (cond b (Some place) (place_at old p)) ≡ cond b (link_of (Some place)) (link_at old p)) [ true ↦ refl | false ↦ refl ]

each_set : {X Y : Type 0} (f : X → Y) (xs : List X) (j : ℕ) (v : X) → each f (set xs j v) ≡ set (each f xs) j (f v)
each_set f [] j v = refl
each_set f (x ∷ xs) zero v = refl
each_set f (x ∷ xs) (suc j) v = ap (λ ys. f x ∷ ys) (each_set f xs j v)

-- what is kept of an entry with another input at a place
pub kept_placed : {K : Type 0} (kept : Kept K) (j : ℕ) (k : KeptPlace) (place : Place) → opened_place k ≡ place
    → opened (record kept { places = set kept.places j k }) ≡ record (opened kept) { places = set (each opened_place kept.places) j place }
kept_placed kept j k place is =
    ap (λ (places : List Place). record (opened kept) { places = places }) (each_set opened_place kept.places j k ∙ ap (set (each opened_place kept.places) j) is)
