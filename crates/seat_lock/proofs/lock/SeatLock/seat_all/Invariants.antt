use Rattle.seat_lock.proofs.Opening.{IsDealt}
use Rattle.seat_lock.proofs.lock.SeatLock.seat_all.Given as goal

abbrev pub invariant-loop-number : goal.invariant-loop-number
invariant-loop-number g l = IsDealt l.self (g.V.Parted.parts l.self.table.shared.key.value) l.number l.first l.made
