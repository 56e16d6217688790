use Rattle.std.proofs.Common.{arith}
use Rattle.seat_lock.proofs.Calls
use Rattle.seat_lock.proofs.Steps
use Rattle.seat_lock.proofs.lock.SeatLock.try_claim.Goals as goal

pub compare_exchange-found-requires : goal.compare_exchange-found-requires
compare_exchange-found-requires g c =
    let words = c.args.self.now.shaped.0 in
    let seat = c.args.seat.now in (
      c.requires.seat.table,
      omega (arith, words),
      Steps.claims g.V.Parted.parts c.args.self.now.table.shared.key.value c.args.self.now.table.shared.table_id.slots seat.pass.id seat.pass.me (Calls.some_entry seat.pass.me.0.entries seat.number c.requires.seat.number),
    )
