-- What a clause says of a seat, of its lock and of a turn.
use Rattle.std.specs.Prelude.{◌≡◌, ◌≢◌, ℕ, ◌<◌, List, [], ◌∷◌, ◌++◌, map, length, slice_get, Option, None, Some}
use Rattle.std.specs.List.{All, Contains}
use Rattle.seat_lock.specs.Steps.{claiming}
use Rattle.seat_lock.specs.declared.rule.View.{View}
use Rattle.seat_lock.specs.declared.seat.Seat.{Seat}
use Rattle.seat_lock.specs.declared.turn.Turn.{Turn}
use Rattle.seat_lock.specs.declared.lock.SeatLock.{SeatLock}

module _ {P : Type 0} where
  -- the part of the first entry
  abbrev pub first_part : List (ℕ × P) → Option P
  first_part [] = None
  first_part (entry ∷ entries) = Some entry.1

  -- two lists of parts that differ at one seat number at most
  abbrev pub AgreeElsewhere : ℕ → List P → List P → Type 0
  AgreeElsewhere number old new = (length new ≡ length old) × ((i : ℕ) → i ≢ number → slice_get old i ≡ slice_get new i)

  -- the turn was taken by the seat with this number, from parts that the value still has, but for the seat's own
  abbrev pub HasTurn : ℕ → Option (List P) → List P → Type 0
  HasTurn number None new = ⊥
  HasTurn number (Some old) new = AgreeElsewhere number old new

-- the value in a turn
abbrev pub value_of : {V : Type 0} → Turn V → V
value_of turn = turn.value

-- the turn with another value
abbrev pub turn_with : {V : Type 0} → Turn V → V → Turn V
turn_with turn value = record turn { value = value }

module _ {V P : Type 0} where
  -- what a seat out of a turn holds of the slot, and in a turn, after it moved the value out
  abbrev pub in_hand : Option (List P) → List (ℕ × Option V)
  in_hand None = []
  in_hand (Some parts) = (0, None) ∷ []

  -- what a seat knows
  abbrev pub view_of : Seat V P → View V P
  view_of seat = seat.pass.me.0

  -- the number of a seat
  abbrev pub number_of : Seat V P → ℕ
  number_of seat = seat.number

  -- the part of the value that a seat remembers
  abbrev pub remembered : Seat V P → Option P
  remembered seat = first_part (view_of seat).entries

  -- in a turn, the parts of the value as the seat took it; otherwise nothing
  abbrev pub turn_of : Seat V P → Option (List P)
  turn_of seat = (view_of seat).claimed

  -- how many turns of a seat began
  abbrev pub turns_of : Seat V P → ℕ
  turns_of seat = (view_of seat).turns

  -- the value that the last turn found
  abbrev pub found_by : Seat V P → Option V
  found_by seat = (view_of seat).found

  -- the value that the last turn left, of those that ended
  abbrev pub left_by : Seat V P → Option V
  left_by seat = (view_of seat).left

  -- how many seats a lock has
  abbrev pub seats_of : SeatLock V P → ℕ
  seats_of lock = lock.seats

  -- it is a seat of this lock
  pub record IsSeatOf (lock : SeatLock V P) (seat : Seat V P) : Type 0 where
    pub table : seat.pass.table_id ≡ lock.table.shared.table_id
    pub number : map (λ entry. entry.0) (view_of seat).entries ≡ number_of seat ∷ []
    pub count : (view_of seat).count ≡ seats_of lock
    pub hand : seat.pass.me.1 ≡ in_hand (turn_of seat)

  -- it is the same seat, perhaps after a turn
  abbrev pub SameSeat : Seat V P → Seat V P → Type 0
  SameSeat old new = (new.pass.table_id ≡ old.pass.table_id) × (number_of new ≡ number_of old)

  -- it is the same seat, and knows and holds what it did
  abbrev pub IsUntouched : Seat V P → Seat V P → Type 0
  IsUntouched old new = SameSeat old new × (new.pass.me ≡ old.pass.me)

  -- a seat that had no turn yet
  abbrev pub IsFresh : Seat V P → Type 0
  IsFresh seat = (turn_of seat ≡ None) × (turns_of seat ≡ 0) × (found_by seat ≡ None) × (left_by seat ≡ None)

  -- the seats by number, each with its part of the value, none with a turn
  abbrev pub AreSeated : SeatLock V P → List P → List (Seat V P) → Type 0
  AreSeated lock parts seats = (length seats ≡ seats_of lock)
      × ((i : ℕ) (seat : Seat V P) → slice_get seats i ≡ Some seat → IsSeatOf lock seat × IsFresh seat × (number_of seat ≡ i) × (remembered seat ≡ slice_get parts i))

  -- every seat number of the lock is that of one of the seats, which are of the lock and have no turn
  pub record AreAllSeats (lock : SeatLock V P) (seats : List (Seat V P)) : Type 0 where
    pub given : (i : ℕ) → i < seats_of lock → Contains (map number_of seats) i
    pub known : All (IsSeatOf lock) seats
    pub resting : All (λ seat. turn_of seat ≡ None) seats

  -- the seat has claimed the value, which it has yet to move out of the slot
  pub record IsClaimed (parts : V → List P) (lock : SeatLock V P) (old new : Seat V P) : Type 0 where
    pub value : V
    pub same : SameSeat old new
    pub sized : length (parts value) ≡ seats_of lock
    pub part : slice_get (parts value) (number_of old) ≡ remembered old
    pub view : view_of new ≡ claiming parts value (view_of old)
    pub hand : new.pass.me.1 ≡ (0, Some value) ∷ []

  -- the value with which the lock was made
  abbrev pub opened_with : SeatLock V P → V
  opened_with lock = lock.table.shared.key.value

  -- the entries of seats, one after another
  abbrev pub entries_of : List (Seat V P) → List (ℕ × P)
  entries_of [] = []
  entries_of (seat ∷ seats) = (view_of seat).entries ++ entries_of seats

  -- each part is as its seat remembers it
  abbrev pub RememberAll : List (Seat V P) → List P → Type 0
  RememberAll seats parts = (k : ℕ) (seat : Seat V P) → slice_get seats k ≡ Some seat → slice_get parts (number_of seat) ≡ remembered seat

  -- a seat that rests has all the entries of these seats
  pub record GathersAll (lock : SeatLock V P) (seats : List (Seat V P)) (seat : Seat V P) : Type 0 where
    pub table : seat.pass.table_id ≡ lock.table.shared.table_id
    pub count : (view_of seat).count ≡ seats_of lock
    pub rests : turn_of seat ≡ None
    pub seated : 0 < length (view_of seat).entries
    pub entries : (view_of seat).entries ≡ entries_of seats
