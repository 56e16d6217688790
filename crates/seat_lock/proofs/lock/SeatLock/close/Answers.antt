use Rattle.seat_lock.proofs.Gathering
use Rattle.seat_lock.proofs.lock.SeatLock.close.Goals as goal

pub unreachable-requires : goal.unreachable-requires
unreachable-requires g c = let told = Gathering.closed_with g.V.Parted.parts c.args.self c.args.seats c.gather-first.result c.args.self.table.shared.key.value _ _ c.take-last.result c.requires c.gather-first.ensures c.close_with-closed.ensures.values.2 c.take-last.ensures.value in
    c.in_default.not-Some told.0 told.1

pub returns-clause-count : goal.returns-clause-count
returns-clause-count g c = (Gathering.closed_as g.V.Parted.parts c.args.self c.args.seats c.take-last.result c.in-Some.value
    (Gathering.closed_with g.V.Parted.parts c.args.self c.args.seats c.gather-first.result c.args.self.table.shared.key.value _ _ c.take-last.result c.requires c.gather-first.ensures c.close_with-closed.ensures.values.2 c.take-last.ensures.value)
    c.in-Some.is).0

pub returns-clause-parts : goal.returns-clause-parts
returns-clause-parts g c = (Gathering.closed_as g.V.Parted.parts c.args.self c.args.seats c.take-last.result c.in-Some.value
    (Gathering.closed_with g.V.Parted.parts c.args.self c.args.seats c.gather-first.result c.args.self.table.shared.key.value _ _ c.take-last.result c.requires c.gather-first.ensures c.close_with-closed.ensures.values.2 c.take-last.ensures.value)
    c.in-Some.is).1
