use Rattle.cht_ids.specs.declared.refs.Ref.TheVariants.{Id as Held}
use Rattle.core_tests.proofs.HeldAfter.{may_mention, list_registered, assign_defined, list_still, matrix_assigned}
use Rattle.core_tests.proofs.engine_calls.matrix_on.Goals as goal

pub ask-requires-clause-held : goal.ask-requires-clause-held
ask-requires-clause-held g c =
    let holds = list_registered (g.E.Engine.seen c.args.engine.now) (g.E.Engine.seen c.register.new.self) c.in_ok-entries.entries c.in_ok-id.id c.requires c.in_ok-entries.ensures c.in_ok-id.ensures in
    (may_mention (g.E.Engine.seen c.register.new.self) (Held c.in_ok-id.id) holds.one, tt)

pub ask-requires-clause-defined : goal.ask-requires-clause-defined
ask-requires-clause-defined g c =
    assign_defined (g.E.Engine.seen c.register.new.self) (g.E.Engine.seen c.register.new.self) c.in_ok-id.id
    (list_registered (g.E.Engine.seen c.args.engine.now) (g.E.Engine.seen c.register.new.self) c.in_ok-entries.entries c.in_ok-id.id c.requires c.in_ok-entries.ensures c.in_ok-id.ensures)

pub delete-requires : goal.delete-requires
delete-requires g c =
    list_still (g.E.Engine.seen c.register.new.self) (g.E.Engine.seen c.ask.new.self) c.in_ok-id.id c.in_ok-a.a
    (list_registered (g.E.Engine.seen c.args.engine.now) (g.E.Engine.seen c.register.new.self) c.in_ok-entries.entries c.in_ok-id.id c.requires c.in_ok-entries.ensures c.in_ok-id.ensures) c.in_ok-a.ensures

pub returns : goal.returns
returns g c =
    matrix_assigned (g.E.Engine.seen c.register.new.self) (g.E.Engine.seen c.ask.new.self) (g.E.Engine.seen c.delete.new.self) c.in_ok-id.id c.in_ok-a.a
    (list_registered (g.E.Engine.seen c.args.engine.now) (g.E.Engine.seen c.register.new.self) c.in_ok-entries.entries c.in_ok-id.id c.requires c.in_ok-entries.ensures c.in_ok-id.ensures) c.in_ok-a.ensures c.delete.ensures
