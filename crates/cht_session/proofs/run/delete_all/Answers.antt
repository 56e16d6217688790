use Rattle.std.proofs.Common.{subst}
use Rattle.std.proofs.lemmas.List.{drop_more, drop_all}
use Rattle.cht_ids.specs.declared.refs.Ref.TheVariants.{Null}
use Rattle.cht_session.proofs.Turning.{IsEmptying, emptying_begins, emptying_ready, emptying_next, emptying_ends}
use Rattle.cht_session.proofs.run.delete_all.Goals as goal

pub loop-r-init : goal.loop-r-init
loop-r-init g c = emptying_begins (g.E.Engine.seen c.args.engine.now) c.args.order.now c.requires

pub delete-requires : goal.delete-requires
delete-requires g c =
    let order = c.args.order.now in
    let i = c.loop-r.r-index in
    emptying_ready (g.E.Engine.seen c.args.engine.now) (g.E.Engine.seen c.loop-r.engine) order _ _
    (subst (IsEmptying (g.E.Engine.seen c.args.engine.now) (g.E.Engine.seen c.loop-r.engine) order) (drop_more order i Null c.loop-r-test.true) c.loop-r.invariant)

pub loop-r-preserved : goal.loop-r-preserved
loop-r-preserved g c =
    let order = c.args.order.now in
    let i = c.loop-r.r-index in
    emptying_next (g.E.Engine.seen c.args.engine.now) (g.E.Engine.seen c.loop-r.engine) (g.E.Engine.seen c.delete.new.self) order _ _
    (subst (IsEmptying (g.E.Engine.seen c.args.engine.now) (g.E.Engine.seen c.loop-r.engine) order) (drop_more order i Null c.loop-r-test.true) c.loop-r.invariant)
    c.delete.ensures

pub returns : goal.returns
returns g c =
    let order = c.args.order.now in
    emptying_ends (g.E.Engine.seen c.args.engine.now) (g.E.Engine.seen c.loop-r.engine) order
    (subst (IsEmptying (g.E.Engine.seen c.args.engine.now) (g.E.Engine.seen c.loop-r.engine) order) (drop_all c.loop-r.r-index order c.loop-r-test.false) c.loop-r.invariant)
