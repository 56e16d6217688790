-- The seats of a new lock, made one after another of a first one that has all entries.
use Rattle.std.proofs.Common.{◌≡◌, ℕ, zero, suc, ◌+◌, ◌<◌, List, [], ◌∷◌, ◌++◌, map, length, slice_get, Option, None, Some, refl, sym, ap, ◌∙◌, subst, arith, append_assoc, length-append}
use Rattle.atomic_table.specs.Table.{Me}
use Rattle.atomic_table.specs.declared.shared.Seat.{Seat as Pass}
use Rattle.seat_lock.specs.declared.rule.View.{View}
use Rattle.seat_lock.specs.declared.seat.Seat.{Seat}
use Rattle.seat_lock.specs.declared.lock.SeatLock.{SeatLock}
use Rattle.seat_lock.specs.Steps.{entries_from, first_view, without_first, first_alone}
use Rattle.seat_lock.specs.Seats.{first_part, in_hand, IsSeatOf, IsFresh, AreSeated, view_of, number_of, remembered, seats_of}

abbrev some_or : {X : Type 0} → X → Option X → X
some_or d None = d
some_or d (Some x) = x

none_is_some : {X : Type 0} (y : X) → None ≡ Some y → ⊥
none_is_some y e = cc

-- a fact on each item with its number is kept by one more
facts_more : {X : Type 0} (F : ℕ → X → Type 0) (xs : List X) (x : X) → ((k : ℕ) (y : X) → slice_get xs k ≡ Some y → F k y) → F (length xs) x → (k : ℕ) (y : X) → slice_get (xs ++ x ∷ []) k ≡ Some y → F k y
facts_more F [] x old new zero y e = subst (λ z. F 0 z) (ap (λ o. some_or x o) e) new
facts_more F [] x old new (suc k) y e = absurd (none_is_some y e)
facts_more F (z ∷ zs) x old new zero y e = old 0 y e
facts_more F (z ∷ zs) x old new (suc k) y e = facts_more (λ j w. F (suc j) w) zs x (λ j w f. old (suc j) w f) new k y e

slice_middle : {X : Type 0} (xs : List X) (x : X) (ys : List X) → slice_get (xs ++ x ∷ ys) (length xs) ≡ Some x
slice_middle [] x ys = refl
slice_middle (z ∷ zs) x ys = slice_middle zs x ys

module _ {V P : Type 0} where
  -- the view of the first seat with the entries that are left to it
  abbrev pub left_over : ℕ → ℕ → List P → View V P
  left_over count number parts = record { entries = entries_from number parts; count = count; claimed = None; turns = 0; found = None; left = None }

  abbrev pub Stands : SeatLock V P → List P → ℕ → Seat V P → Type 0
  Stands lock parts i seat = IsSeatOf lock seat × IsFresh seat × (number_of seat ≡ i) × (remembered seat ≡ slice_get parts i)

  -- so many seats are made, and the first seat has the entries of the others
  pub record IsDealt (lock : SeatLock V P) (parts : List P) (i : ℕ) (first : Pass (Option V) (View V P)) (made : List (Seat V P)) : Type 0 where
    pub front : List P
    pub rest : List P
    pub whole : parts ≡ front ++ rest
    pub dealt : length front ≡ i
    pub table : first.table_id ≡ lock.table.shared.table_id
    pub me : first.me ≡ (left_over (length parts) i rest, [])
    pub seats : length made ≡ i
    pub each : (k : ℕ) (seat : Seat V P) → slice_get made k ≡ Some seat → Stands lock parts k seat

  pub deals : (lock : SeatLock V P) (parts : List P) (first : Pass (Option V) (View V P)) → first.table_id ≡ lock.table.shared.table_id → first.me ≡ (first_view parts, []) → IsDealt lock parts 0 first []
  deals lock parts first table me = record { front = []; rest = parts; whole = refl; dealt = refl; table = table; me = me; seats = refl; each = λ k seat e. absurd (none_is_some seat e) }

  next : (lock : SeatLock V P) (parts : List P) (i : ℕ) (first later : Pass (Option V) (View V P)) (made : List (Seat V P)) (seat : Seat V P) (front rest : List P) → parts ≡ front ++ rest → length front ≡ i → first.me ≡ (left_over (length parts) i rest, [])
      → IsDealt lock parts i first made → i < length parts → length parts ≡ seats_of lock → later.table_id ≡ first.table_id → later.me ≡ (without_first first.me.0, first.me.1)
      → number_of seat ≡ i → seat.pass.table_id ≡ first.table_id → seat.pass.me ≡ (first_alone first.me.0, []) → IsDealt lock parts (i + 1) later (made ++ seat ∷ [])
  next lock parts i first later made seat front [] whole dealt me d inside count table left number place own =
      let all : length parts ≡ length front + 0 = ap length whole ∙ length-append front [] in absurd (omega (arith, all, dealt, inside))
  next lock parts i first later made seat front (p ∷ ps) whole dealt me d inside count table left number place own =
      let view : view_of seat ≡ first_alone (left_over (length parts) i (p ∷ ps)) = ap (λ (m : Me (Option V) (View V P)). m.0) own ∙ ap (λ (m : Me (Option V) (View V P)). first_alone m.0) me in
      let here : slice_get parts i ≡ Some p = ap (λ (l : List P). slice_get l i) whole ∙ ap (λ k. slice_get (front ++ p ∷ ps) k) (sym dealt) ∙ slice_middle front p ps in
      let known : IsSeatOf lock seat = record {
        table = place ∙ d.table;
        number = ap (λ (v : View V P). map (λ (entry : ℕ × P). entry.0) v.entries) view ∙ ap (λ k. k ∷ []) (sym number);
        count = ap (λ (v : View V P). v.count) view ∙ count;
        hand = ap (λ (m : Me (Option V) (View V P)). m.1) own ∙ ap (λ (v : View V P). in_hand v.claimed) (sym view);
      } in
      let stands : Stands lock parts i seat = (
        known,
        (ap (λ (v : View V P). v.claimed) view, ap (λ (v : View V P). v.turns) view, ap (λ (v : View V P). v.found) view, ap (λ (v : View V P). v.left) view),
        number,
        ap (λ (v : View V P). first_part v.entries) view ∙ sym here,
      ) in record {
        front = front ++ p ∷ [];
        rest = ps;
        whole = whole ∙ sym (append_assoc front (p ∷ []) ps);
        dealt = let l = length-append front (p ∷ []) in omega (arith, l, dealt);
        table = table ∙ d.table;
        me = left ∙ ap (λ (m : Me (Option V) (View V P)). (without_first m.0, m.1)) me;
        seats = let l = length-append made (seat ∷ []) in let s = d.seats in omega (arith, l, s);
        each = facts_more (Stands lock parts) made seat d.each (subst (λ k. Stands lock parts k seat) (sym d.seats) stands);
      }

  pub dealt_next : (lock : SeatLock V P) (parts : List P) (i : ℕ) (first later : Pass (Option V) (View V P)) (made : List (Seat V P)) (seat : Seat V P)
      → IsDealt lock parts i first made → i < length parts → length parts ≡ seats_of lock → later.table_id ≡ first.table_id → later.me ≡ (without_first first.me.0, first.me.1)
      → number_of seat ≡ i → seat.pass.table_id ≡ first.table_id → seat.pass.me ≡ (first_alone first.me.0, []) → IsDealt lock parts (i + 1) later (made ++ seat ∷ [])
  dealt_next lock parts i first later made seat d = next lock parts i first later made seat d.front d.rest d.whole d.dealt d.me d

  pub all_dealt : (lock : SeatLock V P) (parts : List P) (i : ℕ) (first : Pass (Option V) (View V P)) (made : List (Seat V P)) → IsDealt lock parts i first made → i ≡ seats_of lock → AreSeated lock parts made
  all_dealt lock parts i first made d e = (d.seats ∙ e, d.each)
