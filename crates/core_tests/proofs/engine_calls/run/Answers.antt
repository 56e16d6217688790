use Rattle.std.proofs.Common.{sym, subst}
use Rattle.core_tests.specs.Holdings.{HoldsTwo}
use Rattle.core_tests.proofs.HeldAfter.{may_mention, first_left, nothing_left}
use Rattle.core_tests.proofs.engine_calls.run.Goals as goal

pub delete-requires-2 : goal.delete-requires-2
delete-requires-2 g c =
    may_mention (g.E.Engine.seen c.delete.new.self) c.in_ok-a.a
    (first_left (g.E.Engine.seen c.number_on-number.new.engine) (g.E.Engine.seen c.delete.new.self) c.in_ok-a.a c.in_ok-t.t
    (subst (λ seen. HoldsTwo seen c.in_ok-a.a c.in_ok-t.t) (sym c.number_on-number.ensures) c.in_ok-t.ensures) c.delete.ensures)

pub returns : goal.returns
returns g c =
    nothing_left (g.E.Engine.seen c.delete.new.self) (g.E.Engine.seen c.delete-2.new.self) c.in_ok-a.a
    (first_left (g.E.Engine.seen c.number_on-number.new.engine) (g.E.Engine.seen c.delete.new.self) c.in_ok-a.a c.in_ok-t.t
    (subst (λ seen. HoldsTwo seen c.in_ok-a.a c.in_ok-t.t) (sym c.number_on-number.ensures) c.in_ok-t.ensures) c.delete.ensures) c.delete-2.ensures
