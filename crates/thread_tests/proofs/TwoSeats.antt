-- A lock with two seats.
use Rattle.std.proofs.Common.{◌≡◌, ℕ, zero, suc, ◌+◌, List, [], ◌∷◌, ◌++◌, length, slice_get, None, sym, ap, ◌∙◌, arith, length-append}
use Rattle.std.proofs.lemmas.List.Elements.{All-nil, All-cons}
use Rattle.seat_lock.specs.declared.seat.Seat.{Seat}
use Rattle.seat_lock.specs.declared.lock.SeatLock.{SeatLock}
use Rattle.seat_lock.specs.Seats.{IsSeatOf, AreSeated, AreAllSeats, number_of, turn_of, seats_of}

module _ {V P : Type 0} where
  abbrev pub Rests : SeatLock V P → ℕ → Seat V P → Type 0
  Rests lock n seat = IsSeatOf lock seat × (number_of seat ≡ n) × (turn_of seat ≡ None)

  pub two_seats : (lock : SeatLock V P) (parts : List P) (seats mid rest : List (Seat V P)) (first second : Seat V P) → AreSeated lock parts seats → seats_of lock ≡ 2 → seats ≡ mid ++ second ∷ [] → mid ≡ rest ++ first ∷ [] → Rests lock 0 first × Rests lock 1 second
  two_seats lock parts seats mid [] first second are two whole front = let e : seats ≡ first ∷ second ∷ [] = whole ∙ ap (λ l. l ++ second ∷ []) front in
      let a = are.1 0 first (ap (λ l. slice_get l 0) e) in let b = are.1 1 second (ap (λ l. slice_get l 1) e) in ((a.0, a.2, a.1.0), (b.0, b.2, b.1.0))
  two_seats lock parts seats mid (r ∷ rs) first second are two whole front = let a : length seats ≡ length mid + 1 = ap length whole ∙ length-append mid (second ∷ []) in let b : length mid ≡ suc (length rs) + 1 = ap length front ∙ length-append (r ∷ rs) (first ∷ []) in
      let n = are.0 in absurd (omega (arith, a, b, n, two))

  pub all_seats : (lock : SeatLock V P) (first second : Seat V P) → Rests lock 0 first → Rests lock 1 second → seats_of lock ≡ 2 → AreAllSeats lock (first ∷ second ∷ [])
  all_seats lock first second a b two = record {
    given = elim [ zero ↦ λ h. (0, omega arith, a.1) | suc j ↦ λ h. let e : j ≡ 0 = omega (arith, h, two) in (1, omega arith, b.1 ∙ ap suc (sym e)) ];
    known = All-cons (IsSeatOf lock) first (second ∷ []) a.0 (All-cons (IsSeatOf lock) second [] b.0 (All-nil (IsSeatOf lock)));
    resting = All-cons (λ seat. turn_of seat ≡ None) first (second ∷ []) a.2 (All-cons (λ seat. turn_of seat ≡ None) second [] b.2 (All-nil (λ seat. turn_of seat ≡ None)));
  }
