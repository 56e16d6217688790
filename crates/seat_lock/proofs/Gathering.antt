-- All seats of a lock gathered into one, and what that one then knows of the value.
use Rattle.std.proofs.Common.{◌≡◌, ℕ, zero, suc, ◌<◌, ◌≤◌, List, [], ◌∷◌, ◌++◌, map, length, slice_get, slice_index_or, Option, None, Some, refl, sym, ap, ◌∙◌, subst, arith, append_assoc, append-nil, length-append}
use Rattle.std.specs.Option.{unwrap_or}
use Rattle.std.proofs.lemmas.List.Elements.{All-nil, All-cons, All-head, All-tail}
use Rattle.std.specs.List.{All}
use Rattle.seat_lock.specs.declared.rule.View.{View}
use Rattle.seat_lock.specs.declared.seat.Seat.{Seat}
use Rattle.seat_lock.specs.declared.lock.SeatLock.{SeatLock}
use Rattle.seat_lock.specs.Steps.{times, Fits, joined}
use Rattle.seat_lock.specs.Seats.{IsSeatOf, AreAllSeats, RememberAll, GathersAll, entries_of, view_of, turn_of, number_of, remembered, seats_of}
use Rattle.seat_lock.proofs.Entries
use Rattle.seat_lock.proofs.Calls
use Rattle.seat_lock.proofs.Steps
use Rattle.atomic_table.specs.Table.{Final, Seen}
use Rattle.seat_lock.specs.Steps.{Kept}
use mathlib.Core.Option.{some, some-injective}
use lib.ListN.{get_elem?}

all_front : {X : Type 0} (F : X → Type 0) (xs : List X) (x : X) → All F (xs ++ x ∷ []) → All F xs
all_front F [] x a = All-nil F
all_front F (z ∷ zs) x a = All-cons F z zs (All-head F z (zs ++ x ∷ []) a) (all_front F zs x (All-tail F z (zs ++ x ∷ []) a))

all_last : {X : Type 0} (F : X → Type 0) (xs : List X) (x : X) → All F (xs ++ x ∷ []) → F x
all_last F [] x a = All-head F x [] a
all_last F (z ∷ zs) x a = all_last F zs x (All-tail F z (zs ++ x ∷ []) a)

Fits_front : {P : Type 0} (parts : List P) (xs ys : List (ℕ × P)) → Fits parts (xs ++ ys) → Fits parts xs
Fits_front parts [] ys f = tt
Fits_front parts (x ∷ xs) ys f = (f.0, Fits_front parts xs ys f.1)

Fits_back : {P : Type 0} (parts : List P) (xs ys : List (ℕ × P)) → Fits parts (xs ++ ys) → Fits parts ys
Fits_back parts [] ys f = f
Fits_back parts (x ∷ xs) ys f = Fits_back parts xs ys f.1

some_is : {X : Type 0} (x y : X) → Some x ≡ Some y → x ≡ y
some_is {X = X} x y e = ap (λ (o : Option X). unwrap_or o x) e

none_is_some : {X : Type 0} (y : X) → None ≡ Some y → ⊥
none_is_some y e = cc

module _ {V P : Type 0} where
  entries_append : (xs ys : List (Seat V P)) → entries_of (xs ++ ys) ≡ entries_of xs ++ entries_of ys
  entries_append [] ys = refl
  entries_append (x ∷ xs) ys = ap (λ l. (view_of x).entries ++ l) (entries_append xs ys) ∙ sym (append_assoc (view_of x).entries (entries_of xs) (entries_of ys))

  -- some seats are still to be joined into one that has the entries of all behind them
  pub record IsGathering (lock : SeatLock V P) (all rest : List (Seat V P)) (first : Seat V P) : Type 0 where
    pub table : first.pass.table_id ≡ lock.table.shared.table_id
    pub count : (view_of first).count ≡ seats_of lock
    pub rests : turn_of first ≡ None
    pub seated : 0 < length (view_of first).entries
    pub entries : entries_of rest ++ (view_of first).entries ≡ entries_of all
    pub known : All (IsSeatOf lock) rest
    pub resting : All (λ seat. turn_of seat ≡ None) rest

  pub gathers : (lock : SeatLock V P) (all rest : List (Seat V P)) (first : Seat V P) → AreAllSeats lock all → all ≡ rest ++ first ∷ [] → IsGathering lock all rest first
  gathers lock all rest first given e =
      let known : All (IsSeatOf lock) (rest ++ first ∷ []) = subst (λ l. All (IsSeatOf lock) l) e given.known in
      let resting : All (λ seat. turn_of seat ≡ None) (rest ++ first ∷ []) = subst (λ l. All (λ seat. turn_of seat ≡ None) l) e given.resting in
      let mine = all_last (IsSeatOf lock) rest first known in record {
        table = mine.table;
        count = mine.count;
        rests = all_last (λ seat. turn_of seat ≡ None) rest first resting;
        seated = Calls.some_entry (view_of first).entries (number_of first) mine.number;
        entries = ap (λ l. entries_of rest ++ l) (sym (append-nil (view_of first).entries)) ∙ sym (entries_append rest (first ∷ [])) ∙ ap entries_of (sym e);
        known = all_front (IsSeatOf lock) rest first known;
        resting = all_front (λ seat. turn_of seat ≡ None) rest first resting;
      }

  -- the lock has a seat, so there are seats
  pub some_seat : (lock : SeatLock V P) (all : List (Seat V P)) → AreAllSeats lock all → 1 ≤ seats_of lock → all ≡ [] → ⊥
  some_seat lock all given some_ e = let one = given.given 0 some_ in let here = one.1 in let n : length (map number_of all) ≡ 0 = ap (λ l. length (map number_of l)) e in omega (arith, here, n)

  -- another seat was joined
  pub gathers_one : (lock : SeatLock V P) (all rest less : List (Seat V P)) (first other later : Seat V P) → IsGathering lock all rest first → rest ≡ less ++ other ∷ [] → later.pass.table_id ≡ first.pass.table_id
      → later.pass.me.0 ≡ joined first.pass.me.0 other.pass.me.0 → IsGathering lock all less later
  gathers_one lock all rest less first other later is e table me =
      let known : All (IsSeatOf lock) (less ++ other ∷ []) = subst (λ l. All (IsSeatOf lock) l) e is.known in
      let resting : All (λ seat. turn_of seat ≡ None) (less ++ other ∷ []) = subst (λ l. All (λ seat. turn_of seat ≡ None) l) e is.resting in
      let more : (view_of later).entries ≡ (view_of other).entries ++ (view_of first).entries = ap (λ (v : View V P). v.entries) me in record {
        table = table ∙ is.table;
        count = ap (λ (v : View V P). v.count) me ∙ is.count;
        rests = ap (λ (v : View V P). v.claimed) me ∙ is.rests;
        seated = let n = ap length more in let m = length-append (view_of other).entries (view_of first).entries in let s = is.seated in omega (arith, n, m, s);
        entries = ap (λ l. entries_of less ++ l) more ∙ sym (append_assoc (entries_of less) (view_of other).entries (view_of first).entries) ∙ ap (λ l. (entries_of less ++ l) ++ (view_of first).entries) (sym (append-nil (view_of other).entries))
            ∙ ap (λ l. l ++ (view_of first).entries) (sym (entries_append less (other ∷ []))) ∙ ap (λ l. entries_of l ++ (view_of first).entries) (sym e) ∙ is.entries;
        known = all_front (IsSeatOf lock) less other known;
        resting = all_front (λ seat. turn_of seat ≡ None) less other resting;
      }

  pub last_known : (lock : SeatLock V P) (all rest less : List (Seat V P)) (first other : Seat V P) → IsGathering lock all rest first → rest ≡ less ++ other ∷ [] → IsSeatOf lock other × (turn_of other ≡ None)
  last_known lock all rest less first other is e = (all_last (IsSeatOf lock) less other (subst (λ l. All (IsSeatOf lock) l) e is.known), all_last (λ seat. turn_of seat ≡ None) less other (subst (λ l. All (λ seat. turn_of seat ≡ None) l) e is.resting))

  pub gathered : (lock : SeatLock V P) (all rest : List (Seat V P)) (first : Seat V P) → IsGathering lock all rest first → rest ≡ [] → GathersAll lock all first
  gathered lock all rest first is e = record { table = is.table; count = is.count; rests = is.rests; seated = is.seated; entries = ap (λ l. entries_of l ++ (view_of first).entries) (sym e) ∙ is.entries }

  -- each number of a given seat stands among the entries
  times_given : (lock : SeatLock V P) (seats : List (Seat V P)) (k i : ℕ) → All (IsSeatOf lock) seats → k < length (map number_of seats) → slice_index_or (map number_of seats) k i ≡ i → 1 ≤ times i (entries_of seats)
  times_given lock [] k i known h e = absurd (omega (arith, h))
  times_given lock (x ∷ xs) zero i known h e = let all = Entries.times_append i (view_of x).entries (entries_of xs) in
      let own = Calls.own_entry (view_of x).entries i ((All-head (IsSeatOf lock) x xs known).number ∙ ap (λ n. n ∷ []) e) in omega (arith, all, own)
  times_given lock (x ∷ xs) (suc k) i known h e = let all = Entries.times_append i (view_of x).entries (entries_of xs) in
      let rest = times_given lock xs k i (All-tail (IsSeatOf lock) x xs known) (omega (arith, h)) e in omega (arith, all, rest)

  pub all_numbers : (lock : SeatLock V P) (seats : List (Seat V P)) (seat : Seat V P) → AreAllSeats lock seats → GathersAll lock seats seat → (i : ℕ) → i < (view_of seat).count → 1 ≤ times i (view_of seat).entries
  all_numbers lock seats seat given is i h = let c = is.count in let has = given.given i (omega (arith, h, c)) in subst (λ l. 1 ≤ times i l) (sym is.entries) (times_given lock seats has.0 i given.known has.1 has.2)

  pub remember_all : (lock : SeatLock V P) (seats : List (Seat V P)) (parts : List P) → All (IsSeatOf lock) seats → Fits parts (entries_of seats) → RememberAll seats parts
  remember_all lock [] parts known fits k seat e = absurd (none_is_some seat e)
  remember_all lock (x ∷ xs) parts known fits zero seat e = subst (λ (s : Seat V P). slice_get parts (number_of s) ≡ remembered s) (some_is x seat e)
      (Calls.first_fits parts (view_of x).entries (number_of x) (Fits_front parts (view_of x).entries (entries_of xs) fits) (All-head (IsSeatOf lock) x xs known).number)
  remember_all lock (x ∷ xs) parts known fits (suc k) seat e = remember_all lock xs parts (All-tail (IsSeatOf lock) x xs known) (Fits_back parts (view_of x).entries (entries_of xs) fits) k seat e

  -- what the slot of the closed table has
  pub closed_with : (parts : V → List P) (lock : SeatLock V P) (seats : List (Seat V P)) (seat : Seat V P) (opened : V) (ws : List ℕ) (xs : List (Option V)) (last : Option V) → AreAllSeats lock seats → GathersAll lock seats seat
      → Final (Seen (Kept parts opened) seat.pass.id seat.pass.me.0) ws xs → get_elem? xs 0 ≡ some last → (value : V) × (last ≡ Some value) × (length (parts value) ≡ seats_of lock) × RememberAll seats (parts value)
  closed_with parts lock seats seat opened ws xs last given is final at =
      let end = Steps.closes parts opened seat.pass.id seat.pass.me.0 ws xs is.rests is.seated (all_numbers lock seats seat given is) final in (
        end.0,
        some-injective last (Some end.0) (sym at ∙ end.1),
        end.2 ∙ is.count,
        remember_all lock seats (parts end.0) given.known (subst (λ l. Fits (parts end.0) l) is.entries end.3),
      )

  -- the same of the value that is taken out
  pub closed_as : (parts : V → List P) (lock : SeatLock V P) (seats : List (Seat V P)) (last : Option V) (value : V) → (v : V) × (last ≡ Some v) × (length (parts v) ≡ seats_of lock) × RememberAll seats (parts v) → last ≡ Some value
      → (length (parts value) ≡ seats_of lock) × RememberAll seats (parts value)
  closed_as parts lock seats last value told e = subst (λ (v : V). (length (parts v) ≡ seats_of lock) × RememberAll seats (parts v)) (some_is told.0 value (sym told.1 ∙ e)) (told.2, told.3)
