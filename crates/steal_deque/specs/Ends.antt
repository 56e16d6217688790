-- What a clause says of an owner's end and of a thief's.
use Rattle.std.specs.Prelude.{◌≡◌, ℕ, List}
use Rattle.std.specs.declared.alloc.Global.{Global}
use Rattle.atomic_blocks.specs.Lent.{RowsId}
use Rattle.crossbeam_deque.specs.Handles.{worker_view, worker_deque, stealer_deque, view}
use Rattle.steal_deque.specs.declared.rule.View.{View}
use Rattle.steal_deque.specs.declared.own.Own.{Own}
use Rattle.steal_deque.specs.declared.victim.Victim.{Victim}

-- all numbers that the owner exposed, in order
abbrev pub exposed_by : Own → List ℕ
exposed_by own = (worker_view own.worker).exposed

-- the numbers that the owner exposed and did not take back, oldest first
abbrev pub pending_of : Own → List ℕ
pending_of own = (worker_view own.worker).pending

-- what the owner took back, in order
abbrev pub taken_by : Own → List ℕ
taken_by own = (worker_view own.worker).taken

-- what the owner knows
abbrev pub own_view : Own → View
own_view own = worker_view own.worker

-- it is the end of the same deque, with as many thieves
abbrev pub SameOwn : Own → Own → Type 0
SameOwn old new = (worker_deque new.worker ≡ worker_deque old.worker) × ((own_view new).made ≡ (own_view old).made) × ((own_view new).joined ≡ (own_view old).joined)

-- what a thief knows of one deque
abbrev pub victim_view : Victim → View
victim_view victim = view victim.pass

-- it is a thief's end of the same deque
abbrev pub SameVictim : Victim → Victim → Type 0
SameVictim old new = (stealer_deque new.stealer ≡ stealer_deque old.stealer) × ((victim_view new).port ≡ (victim_view old).port)

-- which deque it is
abbrev pub Deque : Type 0
Deque = RowsId × Global

abbrev pub own_deque : Own → Deque
own_deque own = worker_deque own.worker

abbrev pub victim_deque : Victim → Deque
victim_deque victim = stealer_deque victim.stealer
