use Rattle.std.proofs.Common.{vec_len}
use Rattle.seat_lock.proofs.Gathering.{IsGathering}
use Rattle.seat_lock.proofs.lock.SeatLock.gather.Given as goal

abbrev pub invariant-loop-other : goal.invariant-loop-other
invariant-loop-other g l = IsGathering l.self l.fn.seats l.rest.items l.first

abbrev pub decreases-loop-other : goal.decreases-loop-other
decreases-loop-other g l = vec_len l.rest
