-- The inputs of a new task.
use Rattle.std.proofs.Common.{◌≡◌, ℕ, zero, suc, ◌+◌, ◌<◌, Bool, true, false, cond, Option, Some, None, IsSome, nat_eq, refl, sym, ap, subst, ◌∙◌, ◌⊎◌, inl, inr, arith, List, [], ◌∷◌, length, take, set, get_or}
use Rattle.std.specs.Prelude.{slice_get, map as each}
use Rattle.std.specs.Option.{option_map}
use Rattle.cht_ids.specs.declared.refs.Ref.{Ref}
use Rattle.cht_ids.specs.declared.refs.Ref.TheVariants.{Null}
use Rattle.task_states.specs.declared.states.Slot.{Slot}
use Rattle.task_states.specs.declared.states.Slot.TheVariants.{Known, Awaits}
use Rattle.std.specs.FinMap as map
use Rattle.task_states.specs.declared.states.Awaiter.TheVariants.{Asked}
use Rattle.task_states.specs.States.{Input, Known as KnownInput, Awaits as AwaitsTask, Unfinished, Graph, task_at, caller_of}
use Rattle.task_states.specs.Steps.{with_task, added}
use Rattle.task_states.specs.Awaiters.{IsFree}
use Rattle.task_states.proofs.Maps.{same_or_not, test_same, test_apart, same_maps, get_inserted}
use Rattle.task_states.proofs.Options.{map_behind, not_none, same_some}
use Rattle.task_states.proofs.Changes.{get_changed}
use Rattle.task_links.specs.declared.entries.Entry.{Entry}
use Rattle.task_links.specs.declared.entries.Spot.{Spot}
use Rattle.task_graph.specs.declared.parts.Parts.{Parts}
use Rattle.task_graph.specs.Graphs.{graph_of, IsWhole}
use Rattle.task_graph.proofs.Marking.{unused_of}
use Rattle.task_graph.proofs.Runs.{task_is}
use Rattle.task_links.specs.declared.entries.Link.{Link}
use Rattle.task_links.specs.declared.entries.Place.{Place}
use Rattle.task_links.specs.declared.entries.Place.TheVariants.{Known as KnownPlace, Awaits as AwaitsPlace}
use Rattle.task_links.specs.Inside.{shown_place, shown_entry, entries_at, inputs_of, place_in, place_at}
use Rattle.task_links.specs.Weave.{Head, link_of, link_at, head_at, head_of, IsAtHome, IsUnused, IsUnasked, IsTied}
use Rattle.task_graph.specs.Contents.{input_of, AreOf, AreFree, IsNumberOfNone}
use Rattle.task_graph.specs.Adding.{known_place, bare_input, mixed, IsAdding}
use Rattle.task_links.proofs.Weaving.{same_spot}

abbrev tail_of : {X : Type 0} → List X → List X
tail_of [] = []
tail_of (x ∷ xs) = xs

abbrev head_or : {X : Type 0} → X → List X → X
head_or d [] = d
head_or d (x ∷ xs) = x

step_suc : (i : ℕ) (ps : List Place) (xs : List Slot) (d : Slot) → i < length ps → i < length xs → take i ps ≡ take i (each known_place xs) → take (suc i) (set ps i (known_place (get_or xs i d))) ≡ take (suc i) (each known_place xs)
step_suc i [] xs d low _ same = absurd (omega arith)
step_suc i (p ∷ ps) [] d _ low same = absurd (omega arith)
step_suc zero (p ∷ ps) (x ∷ xs) d _ _ same = refl
step_suc (suc i) (p ∷ ps) (x ∷ xs) d low less same =
    let tails : take i ps ≡ take i (each known_place xs) = ap tail_of same in
    let heads : p ≡ known_place x = ap (head_or p) same in
    λ j. heads j ∷ step_suc i ps xs d (omega arith) (omega arith) tails j

-- one more place
pub step_places : (i : ℕ) (ps : List Place) (xs : List Slot) (d : Slot) → i < length ps → i < length xs → take i ps ≡ take i (each known_place xs) → take (i + 1) (set ps i (known_place (get_or xs i d))) ≡ take (i + 1) (each known_place xs)
step_places i ps xs d one two same =
    let next : suc i ≡ i + 1 = omega arith in
    subst (λ n. take n (set ps i (known_place (get_or xs i d))) ≡ take n (each known_place xs)) next (step_suc i ps xs d one two same)

pub take_each : (xs : List Slot) → take (length xs) (each known_place xs) ≡ each known_place xs
take_each [] = refl
take_each (x ∷ xs) = ap (λ ys. known_place x ∷ ys) (take_each xs)

-- no input awaits yet
pub no_link : (xs : List Slot) (j : ℕ) → link_of (slice_get (each known_place xs) j) ≡ None
no_link [] j = refl
no_link (Known r ∷ xs) zero = refl
no_link (Awaits task number ∷ xs) zero = refl
no_link (x ∷ xs) (suc j) = no_link xs j

pub shown_bare : (xs : List Slot) → each shown_place (each known_place xs) ≡ each bare_input xs
shown_bare [] = refl
shown_bare (Known r ∷ xs) = ap (λ ys. KnownInput r ∷ ys) (shown_bare xs)
shown_bare (Awaits task number ∷ xs) = ap (λ ys. KnownInput Null ∷ ys) (shown_bare xs)

-- one more input
pub mixed_set : (i : ℕ) (xs : List Slot) (x : Slot) → slice_get xs i ≡ Some x → set (mixed i xs) i (input_of x) ≡ mixed (suc i) xs
mixed_set i [] x is = absurd (not_none None x refl is)
mixed_set zero (y ∷ xs) x is = ap (λ (z : Slot). input_of z ∷ each bare_input xs) (sym (same_some y x is))
mixed_set (suc i) (y ∷ xs) x is = ap (λ ys. input_of y ∷ ys) (mixed_set i xs x is)

pub mixed_known : (i : ℕ) (xs : List Slot) (r : Ref) → slice_get xs i ≡ Some (Known r) → mixed (suc i) xs ≡ mixed i xs
mixed_known i [] r is = absurd (not_none None (Known r) refl is)
mixed_known zero (y ∷ xs) r is = ap (λ (z : Slot). input_of z ∷ each bare_input xs) (same_some y (Known r) is) ∙ sym (ap (λ (z : Slot). bare_input z ∷ each bare_input xs) (same_some y (Known r) is))
mixed_known (suc i) (y ∷ xs) r is = ap (λ ys. input_of y ∷ ys) (mixed_known i xs r is)

pub mixed_all : (xs : List Slot) → mixed (length xs) xs ≡ each input_of xs
mixed_all [] = refl
mixed_all (x ∷ xs) = ap (λ ys. input_of x ∷ ys) (mixed_all xs)

pub mixed_at : (i : ℕ) (xs : List Slot) (task number : ℕ) → slice_get xs i ≡ Some (Awaits task number) → slice_get (mixed i xs) i ≡ Some (KnownInput Null)
mixed_at i [] task number is = absurd (not_none None (Awaits task number) refl is)
mixed_at zero (y ∷ xs) task number is = ap (λ (z : Slot). Some (bare_input z)) (same_some y (Awaits task number) is)
mixed_at (suc i) (y ∷ xs) task number is = mixed_at i xs task number is

-- a known input is no link
pub shown_known : (places : List Place) (j : ℕ) (r : Ref) → slice_get (each shown_place places) j ≡ Some (KnownInput r) → IsSome (slice_get places j) × (link_of (slice_get places j) ≡ None)
shown_known [] j r is = absurd (not_none None (KnownInput r) refl is)
shown_known (KnownPlace s ∷ places) zero r is = (refl, refl)
shown_known (AwaitsPlace link ∷ places) zero r is = absurd (let clash = same_some (shown_place (AwaitsPlace link)) (KnownInput r) is in cc)
shown_known (p ∷ places) (suc j) r is = shown_known places j r is

suc_one : (i : ℕ) → suc i ≡ i + 1
suc_one i = omega arith

abbrev task_in : Slot → ℕ
task_in (Known r) = 0
task_in (Awaits task number) = task

abbrev number_in : Slot → ℕ
number_in (Known r) = 0
number_in (Awaits task number) = number

abbrev waiting : ℕ → ℕ → Slot
waiting task number = Awaits task number

slot_task : {a b m n : ℕ} → waiting a m ≡ waiting b n → a ≡ b
slot_task is = ap task_in is

slot_number : {a b m n : ℕ} → waiting a m ≡ waiting b n → m ≡ n
slot_number is = ap number_in is

shadowed : {X : Type 0} (b : Bool) (x y z : X) → cond b x (cond b y z) ≡ cond b x z
shadowed true x y z = refl
shadowed false x y z = refl

-- an added task with another input
added_set : {K : Type 0} (graph : Graph Ref K) (task caller : ℕ) (kind : K) (xs : List (Input Ref)) (i : ℕ) (x : Input Ref)
    → with_task (added graph task caller kind xs) task (λ u. record u { inputs = set u.inputs i x }) ≡ added graph task caller kind (set xs i x)
added_set {K} graph task caller kind xs i x =
    ap (λ tasks. record graph { tasks = tasks }) (same_maps (with_task (added graph task caller kind xs) task (λ u. record u { inputs = set u.inputs i x })).tasks (added graph task caller kind (set xs i x)).tasks (λ q.
    get_changed (added graph task caller kind xs).tasks task q (λ u. record u { inputs = set u.inputs i x })
    ∙ ap (λ o. cond (nat_eq q task) (option_map (λ (u : Unfinished Ref K). record u { inputs = set u.inputs i x }) o) (map.get (added graph task caller kind xs).tasks q)) (get_inserted graph.tasks task (record { caller = caller; kind = kind; inputs = xs; runner = None; asked = None }) task ∙ ap (λ b. cond b (Some (record { caller = caller; kind = kind; inputs = xs; runner = None; asked = None })) (map.get graph.tasks task)) (test_same task))
    ∙ ap (λ o. cond (nat_eq q task) (Some (record { caller = caller; kind = kind; inputs = set xs i x; runner = None; asked = None })) o) (get_inserted graph.tasks task (record { caller = caller; kind = kind; inputs = xs; runner = None; asked = None }) q)
    ∙ shadowed (nat_eq q task) (Some (record { caller = caller; kind = kind; inputs = set xs i x; runner = None; asked = None })) (Some (record { caller = caller; kind = kind; inputs = xs; runner = None; asked = None })) (map.get graph.tasks q)
    ∙ sym (get_inserted graph.tasks task (record { caller = caller; kind = kind; inputs = set xs i x; runner = None; asked = None }) q)))

-- what the invariant says of the new task
module _ {K : Type 0} (old now : Parts K) (task caller : ℕ) (kind : K) (inputs : List Slot) (i : ℕ) (new : entries_at old.entries task ≡ None) (adding : IsAdding old now task caller kind inputs i) where
  task_new : task_at (graph_of now) task ≡ Some (record { caller = caller; kind = kind; inputs = mixed i inputs; runner = None; asked = None })
  task_new = ap (λ (g : Graph Ref K). task_at g task) adding.graph ∙ get_inserted (graph_of old).tasks task (record { caller = caller; kind = kind; inputs = mixed i inputs; runner = None; asked = None }) task
      ∙ ap (λ b. cond b (Some (record { caller = caller; kind = kind; inputs = mixed i inputs; runner = None; asked = None })) (task_at (graph_of old) task)) (test_same task)

  task_old : (q : ℕ) → (q ≡ task → ⊥) → task_at (graph_of now) q ≡ task_at (graph_of old) q
  task_old q apart = ap (λ (g : Graph Ref K). task_at g q) adding.graph ∙ get_inserted (graph_of old).tasks task (record { caller = caller; kind = kind; inputs = mixed i inputs; runner = None; asked = None }) q
      ∙ ap (λ b. cond b (Some (record { caller = caller; kind = kind; inputs = mixed i inputs; runner = None; asked = None })) (task_at (graph_of old) q)) (test_apart q task apart)

  pub entry_new : (e : Entry K) × (entries_at now.entries task ≡ Some e) × (shown_entry e ≡ record { caller = caller; kind = kind; inputs = mixed i inputs; runner = None; asked = None })
  entry_new = map_behind shown_entry (entries_at now.entries task) _ (sym (task_is now task) ∙ task_new)

  none_old : task_at (graph_of old) task ≡ None
  none_old = task_is old task ∙ ap (option_map shown_entry) new

  module _ (awaited number : ℕ) (at : slice_get inputs i ≡ Some (Awaits awaited number)) where
    place_known : IsSome (slice_get (inputs_of entry_new.0) i) × (link_of (slice_get (inputs_of entry_new.0) i) ≡ None)
    place_known = shown_known (inputs_of entry_new.0) i Null (ap (λ (u : Unfinished Ref K). slice_get u.inputs i) entry_new.2 ∙ mixed_at i inputs awaited number at)

    pub spot_there : IsSome (place_at (entries_at now.entries) (record { task = task; place = i }))
    spot_there = subst (λ o. IsSome (place_in o i)) (sym entry_new.1) place_known.0

    pub spot_free : link_at (entries_at now.entries) (record { task = task; place = i }) ≡ None
    spot_free = ap (λ o. link_of (place_in o i)) entry_new.1 ∙ place_known.1

    pub spot_home : caller_of (graph_of old) awaited ≡ Some caller → IsAtHome (head_at (entries_at now.entries)) task awaited
    spot_home of =
        let u = map_behind (λ (u : Unfinished Ref K). u.caller) (task_at (graph_of old) awaited) caller of in
        let apart : awaited ≡ task → ⊥ = λ same. not_none (task_at (graph_of old) awaited) u.0 (ap (task_at (graph_of old)) same ∙ none_old) u.1 in
        let e = map_behind shown_entry (entries_at now.entries awaited) u.0 (sym (task_is now awaited) ∙ task_old awaited apart ∙ u.1) in (
          head_of entry_new.0,
          head_of e.0,
          ap (option_map head_of) entry_new.1,
          ap (option_map head_of) e.1,
          ap (λ (x : Unfinished Ref K). x.caller) e.2 ∙ u.2 ∙ sym (ap (λ (x : Unfinished Ref K). x.caller) entry_new.2),
          ap (λ (x : Unfinished Ref K). x.runner) entry_new.2,
        )

    pub spot_unused : IsFree (graph_of old) number → ((k t : ℕ) → k < i → slice_get inputs k ≡ Some (Awaits t number) → ⊥) → IsUnused (link_at (entries_at now.entries)) number
    spot_unused free earlier p l there same =
        elim (adding.numbers p l there) [
          | inl before ↦ unused_of old number free before.0 before.1 before.2 (before.3 ∙ same)
          | inr one ↦ earlier one.0 one.1 one.2 (one.3 ∙ ap (λ n. Some (Awaits one.1 n)) same)
        ]

    pub spot_unasked : IsFree (graph_of old) number → IsUnasked (head_at (entries_at now.entries)) number
    spot_unasked free q h n there asked same =
        let e = map_behind head_of (entries_at now.entries q) h there in
        elim (same_or_not q task) [
          | inl here ↦
              let one = same_some entry_new.0 e.0 (sym entry_new.1 ∙ ap (entries_at now.entries) (sym here) ∙ e.1) in
              not_none h.asked n (ap (λ (x : Head). x.asked) (sym e.2) ∙ ap (λ (x : Entry K). x.asked) (sym one) ∙ ap (λ (x : Unfinished Ref K). x.asked) entry_new.2) asked
          | inr apart ↦
              let u : task_at (graph_of old) q ≡ Some (shown_entry e.0) = sym (task_old q apart) ∙ task_is now q ∙ ap (option_map shown_entry) e.1 in
              free q (Asked e.0.caller n) (record { unfinished = shown_entry e.0; there = u; caller_is = refl; number_is = ap (λ (x : Head). x.asked) e.2 ∙ asked }) same
        ]

    -- one input more
    pub adding_more : (next : Parts K) → IsWhole next → ((before : Option Spot) × (after : Option Spot) × IsTied (head_at (entries_at now.entries)) (head_at (entries_at next.entries)) (link_at (entries_at now.entries)) (link_at (entries_at next.entries)) (record { task = task; place = i }) awaited number before after)
        → graph_of next ≡ with_task (graph_of now) task (λ u. record u { inputs = set u.inputs i (AwaitsTask awaited number) }) → IsAdding old next task caller kind inputs (i + 1)
    adding_more next whole tied graph = record {
      whole = whole;
      graph = graph ∙ ap (λ (g : Graph Ref K). with_task g task (λ u. record u { inputs = set u.inputs i (AwaitsTask awaited number) })) adding.graph
          ∙ added_set (graph_of old) task caller kind (mixed i inputs) i (AwaitsTask awaited number)
          ∙ ap (λ xs. added (graph_of old) task caller kind xs) (mixed_set i inputs (Awaits awaited number) at)
          ∙ ap (λ n. added (graph_of old) task caller kind (mixed n inputs)) (suc_one i);
      numbers = λ p l there. elim (same_spot p (record { task = task; place = i })) [
        | inl same ↦
            let one = same_some l _ (sym there ∙ ap (link_at (entries_at next.entries)) same ∙ tied.2.here) in
            inr (i, awaited, omega arith, at ∙ ap (λ (x : Link). Some (Awaits awaited x.number)) (sym one))
        | inr other ↦
            let t = tied.2.nexts p l other there in
            let r = t.2 in
            elim (adding.numbers p t.0 t.1) [
              | inl before ↦ inl (before.0, before.1, before.2, before.3 ∙ sym r.number)
              | inr one ↦ let low = one.2 in inr (one.0, one.1, omega arith, one.3 ∙ ap (λ n. Some (Awaits one.1 n)) (sym r.number))
            ]
      ];
    }

  -- an input that is known
  pub adding_known : (r : Ref) → slice_get inputs i ≡ Some (Known r) → IsAdding old now task caller kind inputs (i + 1)
  adding_known r at = record {
    whole = adding.whole;
    graph = adding.graph ∙ ap (λ xs. added (graph_of old) task caller kind xs) (sym (mixed_known i inputs r at)) ∙ ap (λ n. added (graph_of old) task caller kind (mixed n inputs)) (suc_one i);
    numbers = λ p l there. elim (adding.numbers p l there) [
      | inl before ↦ inl before
      | inr one ↦ let low = one.2 in inr (one.0, one.1, omega arith, one.3)
    ];
  }

-- at first
pub adding_none : {K : Type 0} (old now : Parts K) (task caller : ℕ) (kind : K) (inputs : List Slot) → IsWhole now → graph_of now ≡ added (graph_of old) task caller kind (each bare_input inputs)
    → ((p : Spot) (l : Link) → link_at (entries_at now.entries) p ≡ Some l → link_at (entries_at old.entries) p ≡ Some l) → IsAdding old now task caller kind inputs 0
adding_none old now task caller kind inputs whole graph was = record { whole = whole; graph = graph; numbers = λ p l there. inl (p, l, was p l there, refl) }

-- what the conditions say of each input
pub of_at : {K : Type 0} (graph : Graph Ref K) (caller : ℕ) (inputs : List Slot) (i task number : ℕ) → AreOf graph caller inputs → slice_get inputs i ≡ Some (Awaits task number) → caller_of graph task ≡ Some caller
of_at graph caller [] i task number of is = absurd (not_none None (Awaits task number) refl is)
of_at graph caller (Known r ∷ inputs) zero task number of is = absurd (let clash = same_some (Known r) (Awaits task number) is in cc)
of_at graph caller (Awaits t n ∷ inputs) zero task number of is = ap (λ x. caller_of graph x) (sym (slot_task (same_some (Awaits t n) (Awaits task number) is))) ∙ of.0
of_at graph caller (Known r ∷ inputs) (suc i) task number of is = of_at graph caller inputs i task number of is
of_at graph caller (Awaits t n ∷ inputs) (suc i) task number of is = of_at graph caller inputs i task number of.1 is

pub free_at : {K : Type 0} (graph : Graph Ref K) (inputs : List Slot) (i task number : ℕ) → AreFree graph inputs → slice_get inputs i ≡ Some (Awaits task number) → IsFree graph number
free_at graph [] i task number free is = absurd (not_none None (Awaits task number) refl is)
free_at graph (Known r ∷ inputs) zero task number free is = absurd (let clash = same_some (Known r) (Awaits task number) is in cc)
free_at graph (Awaits t n ∷ inputs) zero task number free is = subst (IsFree graph) (slot_number (same_some (Awaits t n) (Awaits task number) is)) free.0
free_at graph (Known r ∷ inputs) (suc i) task number free is = free_at graph inputs i task number free is
free_at graph (Awaits t n ∷ inputs) (suc i) task number free is = free_at graph inputs i task number free.2 is

none_at : (number : ℕ) (inputs : List Slot) (i task : ℕ) → IsNumberOfNone number inputs → slice_get inputs i ≡ Some (Awaits task number) → ⊥
none_at number [] i task none is = not_none None (Awaits task number) refl is
none_at number (Known r ∷ inputs) zero task none is = let clash = same_some (Known r) (Awaits task number) is in cc
none_at number (Awaits t n ∷ inputs) zero task none is = none.0 (slot_number (same_some (Awaits t n) (Awaits task number) is))
none_at number (Known r ∷ inputs) (suc i) task none is = none_at number inputs i task none is
none_at number (Awaits t n ∷ inputs) (suc i) task none is = none_at number inputs i task none.1 is

pub earlier_at : {K : Type 0} (graph : Graph Ref K) (inputs : List Slot) (i k task other number : ℕ) → AreFree graph inputs → slice_get inputs i ≡ Some (Awaits task number) → k < i → slice_get inputs k ≡ Some (Awaits other number) → ⊥
earlier_at graph [] i k task other number free is low was = not_none None (Awaits task number) refl is
earlier_at graph (x ∷ inputs) zero k task other number free is low was = omega arith
earlier_at graph (Known r ∷ inputs) (suc i) zero task other number free is low was = let clash = same_some (Known r) (Awaits other number) was in cc
earlier_at graph (Awaits t n ∷ inputs) (suc i) zero task other number free is low was = none_at n inputs i task free.1 (is ∙ ap (λ m. Some (Awaits task m)) (sym (slot_number (same_some (Awaits t n) (Awaits other number) was))))
earlier_at graph (Known r ∷ inputs) (suc i) (suc k) task other number free is low was = earlier_at graph inputs i k task other number free is (omega arith) was
earlier_at graph (Awaits t n ∷ inputs) (suc i) (suc k) task other number free is low was = earlier_at graph inputs i k task other number free.2 is (omega arith) was

pub get_at : {X : Type 0} (xs : List X) (i : ℕ) (d : X) → i < length xs → slice_get xs i ≡ Some (get_or xs i d)
get_at [] i d low = absurd (omega arith)
get_at (x ∷ xs) zero d low = refl
get_at (x ∷ xs) (suc i) d low = get_at xs i d (omega arith)

pub slot_cases : (x : Slot) → ((r : Ref) × (x ≡ Known r)) ⊎ ((task : ℕ) × (number : ℕ) × (x ≡ Awaits task number))
slot_cases (Known r) = inl (r, refl)
slot_cases (Awaits task number) = inr (task, number, refl)

none_back : {K : Type 0} (o : Option (Entry K)) → option_map shown_entry o ≡ None → o ≡ None
none_back None is = refl
none_back (Some e) is = absurd (not_none (Some (shown_entry e)) (shown_entry e) is refl)

pub none_entry : {K : Type 0} (parts : Parts K) (q : ℕ) → task_at (graph_of parts) q ≡ None → entries_at parts.entries q ≡ None
none_entry parts q is = none_back (entries_at parts.entries q) (sym (task_is parts q) ∙ is)
