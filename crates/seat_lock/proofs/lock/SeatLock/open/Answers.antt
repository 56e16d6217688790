use Rattle.std.proofs.Common.{rules, ◌≡◌, [], ◌∷◌, Some}
use Rattle.seat_lock.proofs.Steps
use Rattle.seat_lock.proofs.lock.SeatLock.open.Goals as goal

pub new-requires : goal.new-requires
new-requires g c = let items : c.push.new.self.items ≡ Some c.args.value ∷ [] = search rules in rw (items, c.of-opened.ensures) (Steps.opens g.V.Parted.parts c.args.value)
