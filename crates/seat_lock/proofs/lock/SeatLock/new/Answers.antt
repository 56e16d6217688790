use Rattle.std.proofs.Common.{subst}
use Rattle.seat_lock.specs.Seats.{AreSeated}
use Rattle.seat_lock.proofs.lock.SeatLock.new.Goals as goal

pub returns-clause-seated : goal.returns-clause-seated
returns-clause-seated g c = subst (λ (v : g.row.V.Denot). AreSeated c.in_ok-lock.lock (g.V.Parted.parts v) c.in_ok-made.made) c.in_ok-lock.ensures.lock.1 c.in_ok-made.ensures
