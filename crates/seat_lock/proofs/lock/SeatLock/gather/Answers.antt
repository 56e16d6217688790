use Rattle.std.proofs.Common.{arith, rules, ap, ◌≡◌, ◌∙◌, ◌++◌, ◌∷◌, []}
use Rattle.seat_lock.specs.Seats.{in_hand}
use Rattle.seat_lock.proofs.Gathering
use Rattle.seat_lock.proofs.Steps
use Rattle.seat_lock.proofs.lock.SeatLock.gather.Goals as goal

pub loop-other-init : goal.loop-other-init
loop-other-init g c = Gathering.gathers c.args.self.now c.args.seats c.pop.new.self.items c.in-Some.first c.requires (search rules)

pub join_seat-requires : goal.join_seat-requires
join_seat-requires g c =
    let words = c.args.self.now.shaped.0 in
    let is = c.loop-other.invariant in
    let other = c.in-Some-pop.other in
    let popped : c.loop-other.rest.items ≡ c.pop-in-loop-other.new.self.items ++ other ∷ [] = search rules in
    let known = Gathering.last_known c.args.self.now c.args.seats c.loop-other.rest.items c.pop-in-loop-other.new.self.items c.loop-other.first other is popped in (
      is.table,
      known.0.table,
      known.0.hand ∙ ap in_hand known.1,
      omega (arith, words),
      Steps.joins g.V.Parted.parts c.args.self.now.table.shared.key.value c.loop-other.first.pass.id c.loop-other.first.pass.me.0 other.pass.id other.pass.me.0 is.rests known.1 is.seated,
    )

pub loop-other-preserved : goal.loop-other-preserved
loop-other-preserved g c =
    let joined = c.join_seat.ensures in
    Gathering.gathers_one c.args.self.now c.args.seats c.loop-other.rest.items c.pop-in-loop-other.new.self.items c.loop-other.first c.in-Some-pop.other (record { number = c.loop-other.first.number; pass = c.join_seat.new.seat })
    c.loop-other.invariant (search rules) joined.0 (ap (λ m. m.0) joined.2)
