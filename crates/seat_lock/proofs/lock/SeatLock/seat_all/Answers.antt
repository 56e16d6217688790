use Rattle.std.proofs.Common.{arith, rules, ap, ◌≡◌, ◌<◌, length, ◌++◌, ◌∷◌, [], refl}
use Rattle.seat_lock.specs.declared.seat.Seat.{Seat}
use Rattle.seat_lock.proofs.Opening
use Rattle.seat_lock.proofs.Steps
use Rattle.seat_lock.proofs.lock.SeatLock.seat_all.Goals as goal

pub loop-number-init : goal.loop-number-init
loop-number-init g c = rw c.new-made.ensures (Opening.deals c.args.self.now (g.V.Parted.parts c.args.self.now.table.shared.key.value) c.args.first c.requires.table c.requires.first)

pub split_seat-pass-requires : goal.split_seat-pass-requires
split_seat-pass-requires g c =
    let words = c.args.self.now.shaped.0 in
    let d = c.loop-number.invariant in
    (d.table, omega (arith, words), Steps.splits g.V.Parted.parts c.args.self.now.table.shared.key.value c.loop-number.first.id c.loop-number.first.me.0 (ap (λ m. m.0.claimed) d.me))

pub loop-number-preserved : goal.loop-number-preserved
loop-number-preserved g c =
    let split = c.split_seat-pass.ensures in
    let parts = g.V.Parted.parts c.args.self.now.table.shared.key.value in
    let count = c.requires.count in
    let seat : Seat g.row.V.Denot g.row.V-Part.Denot = record { number = c.loop-number.number; pass = c.split_seat-pass.result } in
    let pushed : c.push.new.self ≡ c.loop-number.made ++ seat ∷ [] = search rules in
    let inside : c.loop-number.number < length parts = search rules in
    rw pushed (Opening.dealt_next c.args.self.now parts c.loop-number.number c.loop-number.first c.split_seat-pass.new.seat c.loop-number.made seat c.loop-number.invariant inside count split.0 split.2 refl split.3 split.4)
