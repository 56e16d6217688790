use Rattle.std.proofs.Common.{arith, rules, refl}
use Rattle.seat_lock.proofs.Calls
use Rattle.seat_lock.proofs.Steps
use Rattle.seat_lock.proofs.lock.SeatLock.put.Goals as goal

pub swap-requires : goal.swap-requires
swap-requires g c =
    let words = c.args.self.now.shaped.0 in
    let seat = c.args.seat.now in (
      search rules,
      omega (arith, words),
      Steps.releases g.V.Parted.parts c.args.self.now.table.shared.key.value c.args.self.now.table.shared.table_id.slots c.exchange-absent.new.seat.id c.exchange-absent.new.seat.me
          seat.pass.me.0 c.args.turn.value seat.pass.me.0.claimed seat.number (search rules) refl c.requires.taken (Calls.own_entry seat.pass.me.0.entries seat.number c.requires.seat.number),
    )

pub returns-clause-seat : goal.returns-clause-seat
returns-clause-seat g c = ((Calls.after_put g.V.Parted.parts c.args.self.now c.args.seat.now (record { number = c.args.seat.now.number; pass = c.swap.new.seat }) c.exchange-absent.new.seat.me c.swap.result c.args.turn.value c.requires.seat (search rules) (search rules) c.swap.ensures.2).0, search rules)

pub returns-clause-part : goal.returns-clause-part
returns-clause-part g c = (Calls.after_put g.V.Parted.parts c.args.self.now c.args.seat.now (record { number = c.args.seat.now.number; pass = c.swap.new.seat }) c.exchange-absent.new.seat.me c.swap.result c.args.turn.value c.requires.seat (search rules) (search rules) c.swap.ensures.2).1
