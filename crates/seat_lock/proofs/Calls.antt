-- From what a step told to what a call says of its seat.
use Rattle.std.proofs.Common.{◌≡◌, ◌≢◌, ℕ, ◌<◌, ◌≤◌, List, [], ◌∷◌, map, length, slice_get, slice_index, Option, None, Some, refl, sym, ap, ◌∙◌, subst, arith, ⊎_elim}
use Rattle.std.specs.Option.{unwrap_or}
use Rattle.atomic_table.specs.Table.{Me, rest}
use Rattle.seat_lock.specs.declared.rule.View.{View}
use Rattle.seat_lock.specs.declared.seat.Seat.{Seat}
use Rattle.seat_lock.specs.declared.lock.SeatLock.{SeatLock}
use Rattle.seat_lock.specs.Steps.{times, Fits, renewed, claiming, released, Claims, Releases}
use Rattle.seat_lock.specs.Seats.{first_part, in_hand, IsSeatOf, SameSeat, IsClaimed, IsUntouched, view_of, turn_of, number_of, remembered}
use Rattle.seat_lock.proofs.Entries

module _ {P : Type 0} where
  abbrev numbers : List (ℕ × P) → List ℕ
  numbers entries = map (λ entry. entry.0) entries

  pub some_entry : (entries : List (ℕ × P)) (n : ℕ) → numbers entries ≡ n ∷ [] → 0 < length entries
  some_entry [] n e = let h : 0 ≡ 1 = ap length e in absurd (omega (arith, h))
  some_entry (x ∷ xs) n e = omega arith

  pub own_entry : (entries : List (ℕ × P)) (n : ℕ) → numbers entries ≡ n ∷ [] → 1 ≤ times n entries
  own_entry [] n e = let h : 0 ≡ 1 = ap length e in absurd (omega (arith, h))
  own_entry (x ∷ xs) n e = let h : x.0 ≡ n = ap (λ l. slice_index l 0) e in subst (λ k. 1 ≤ times k (x ∷ xs)) h (Entries.times_first x xs)

  pub first_fits : (parts : List P) (entries : List (ℕ × P)) (n : ℕ) → Fits parts entries → numbers entries ≡ n ∷ [] → slice_get parts n ≡ first_part entries
  first_fits parts [] n f e = let h : 0 ≡ 1 = ap length e in absurd (omega (arith, h))
  first_fits parts (x ∷ xs) n f e = let h : x.0 ≡ n = ap (λ l. slice_index l 0) e in ap (λ k. slice_get parts k) (sym h) ∙ f.0

  pub numbers_renewed : (parts : List P) (entries : List (ℕ × P)) → numbers (map (renewed parts) entries) ≡ numbers entries
  numbers_renewed parts [] = refl
  numbers_renewed parts (x ∷ xs) = ap (λ l. x.0 ∷ l) (numbers_renewed parts xs)

module _ {V P : Type 0} where
  pub claimed : (parts : V → List P) (lock : SeatLock V P) (old new : Seat V P) (found : ℕ) → IsSeatOf lock old → turn_of old ≡ None → SameSeat old new → Claims parts old.pass.me found new.pass.me → found ≡ 0 → IsClaimed parts lock old new
  claimed parts lock old new found is rests same told zero_ = ⊎_elim
      (λ hit. let value = hit.1.0 in record {
        value = value;
        same = same;
        sized = hit.1.1 ∙ is.count;
        part = first_fits (parts value) (view_of old).entries (number_of old) hit.1.2 is.number;
        view = ap (λ m. m.0) hit.1.3;
        hand = ap (λ m. m.1) hit.1.3 ∙ ap (λ c. (0, Some value) ∷ c) (is.hand ∙ ap in_hand rests);
      })
      (λ miss. absurd (miss.0 zero_))
      told

  pub missed : (parts : V → List P) (old new : Me (Option V) (View V P)) (found : ℕ) → Claims parts old found new → found ≢ 0 → new ≡ old
  missed parts old new found told ne = ⊎_elim (λ hit. absurd (ne hit.0)) (λ miss. miss.1) told

  -- the value that a release gave back is the one that the seat held
  pub released_as : (parts : V → List P) (old new : Me (Option V) (View V P)) (found : ℕ) (v : View V P) (value : V) → Releases parts old found new → old ≡ (v, (0, Some value) ∷ [])
      → (new ≡ (released parts value v, [])) × Fits (parts value) new.0.entries
  released_as parts old new found v value told is =
      let same : told.0 ≡ value = ap (λ (c : List (ℕ × Option V)). first_value told.0 c) (sym told.1 ∙ ap (λ m. m.1) is) in
      let whose : old.0 ≡ v = ap (λ m. m.0) is in
      (told.2 ∙ ap (λ (x : V). (released parts x old.0, [])) same ∙ ap (λ (y : View V P). (released parts value y, [])) whose, subst (λ (x : V). Fits (parts x) new.0.entries) same told.3)
    where
      first_value : V → List (ℕ × Option V) → V
      first_value d [] = d
      first_value d (x ∷ xs) = unwrap_or x.1 d

  pub still : (lock : SeatLock V P) (old new : Seat V P) → IsSeatOf lock old → IsUntouched old new → IsSeatOf lock new
  still lock old new is same = record {
    table = same.0.0 ∙ is.table;
    number = ap (λ (m : Me (Option V) (View V P)). numbers m.0.entries) same.1 ∙ is.number ∙ ap (λ k. k ∷ []) (sym same.0.1);
    count = ap (λ (m : Me (Option V) (View V P)). m.0.count) same.1 ∙ is.count;
    hand = ap (λ (m : Me (Option V) (View V P)). m.1) same.1 ∙ is.hand ∙ ap (λ (m : Me (Option V) (View V P)). in_hand m.0.claimed) (sym same.1);
  }

  pub still_rests : (old new : Seat V P) → turn_of old ≡ None → IsUntouched old new → turn_of new ≡ None
  still_rests old new rests same = ap (λ (m : Me (Option V) (View V P)). m.0.claimed) same.1 ∙ rests

  pub claimed_later : (parts : V → List P) (lock : SeatLock V P) (old mid new : Seat V P) → IsUntouched old mid → IsClaimed parts lock mid new → IsClaimed parts lock old new
  claimed_later parts lock old mid new same is = record {
    value = is.value;
    same = (is.same.0 ∙ same.0.0, is.same.1 ∙ same.0.1);
    sized = is.sized;
    part = ap (λ k. slice_get (parts is.value) k) (sym same.0.1) ∙ is.part ∙ ap (λ (m : Me (Option V) (View V P)). first_part m.0.entries) same.1;
    view = is.view ∙ ap (λ (m : Me (Option V) (View V P)). claiming parts is.value m.0) same.1;
    hand = is.hand;
  }

  -- the seat after a release
  pub rests_again : (parts : V → List P) (lock : SeatLock V P) (old new : Seat V P) (v : View V P) (value : V) → IsSeatOf lock old → SameSeat old new → v ≡ view_of old
      → new.pass.me ≡ (released parts value v, []) → IsSeatOf lock new
  rests_again parts lock old new v value is same whose me = record {
    table = same.0 ∙ is.table;
    number = ap (λ (m : Me (Option V) (View V P)). numbers m.0.entries) me ∙ numbers_renewed (parts value) v.entries ∙ ap (λ (y : View V P). numbers y.entries) whose ∙ is.number ∙ ap (λ k. k ∷ []) (sym same.1);
    count = ap (λ (m : Me (Option V) (View V P)). m.0.count) me ∙ ap (λ (y : View V P). y.count) whose ∙ is.count;
    hand = ap (λ (m : Me (Option V) (View V P)). m.1) me ∙ ap (λ (m : Me (Option V) (View V P)). in_hand m.0.claimed) (sym me);
  }

  pub after_put : (parts : V → List P) (lock : SeatLock V P) (old new : Seat V P) (mid : Me (Option V) (View V P)) (found : ℕ) (value : V) → IsSeatOf lock old → SameSeat old new → mid ≡ (view_of old, (0, Some value) ∷ [])
      → Releases parts mid found new.pass.me → IsSeatOf lock new × (remembered new ≡ slice_get (parts value) (number_of old))
  after_put parts lock old new mid found value is same held told =
      let done = released_as parts mid new.pass.me found (view_of old) value told held in
      let known = rests_again parts lock old new (view_of old) value is same refl done.0 in
      (known, sym (first_fits (parts value) (view_of new).entries (number_of new) done.1 known.number) ∙ ap (λ k. slice_get (parts value) k) same.1)

-- one thing in hand, with nothing behind it
pub in_front : {X : Type 0} (c : List (ℕ × X)) (x : ℕ × X) → c ≡ x ∷ [] → c ≡ x ∷ rest c
in_front c x e = e ∙ ap (λ l. x ∷ l) (sym (ap rest e))
