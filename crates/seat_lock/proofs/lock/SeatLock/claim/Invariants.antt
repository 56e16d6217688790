use Rattle.seat_lock.specs.Seats.{IsUntouched}
use Rattle.seat_lock.proofs.lock.SeatLock.claim.Given as goal

abbrev pub invariant-loop : goal.invariant-loop
invariant-loop g l = IsUntouched l.initial.seat l.seat
