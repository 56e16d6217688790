use Rattle.std.proofs.Common.{◌∙◌, Some}
use Rattle.seat_lock.proofs.Calls
use Rattle.seat_lock.proofs.lock.SeatLock.take.Goals as goal

pub exchange-present-requires : goal.exchange-present-requires
exchange-present-requires g c = (c.claim.ensures.same.0 ∙ c.requires.seat.table, (Some c.claim.ensures.value, Calls.in_front c.claim.new.seat.pass.me.1 (0, Some c.claim.ensures.value) c.claim.ensures.hand))
