use Rattle.std.proofs.Common.{refl, sym, subst}
use Rattle.cht_script.specs.declared.script.Statement.{Statement}
use Rattle.cht_script.specs.declared.script.Statement.TheVariants.{Market}
use Rattle.cht_script.specs.Reading.{deed_of}
use Rattle.cht_session.specs.Running.{ActsOn}
use Rattle.cht_session.proofs.Turning.{binds_acts, no_fault}
use Rattle.cht_session.proofs.run.act.Goals as goal

pub returns-in-Market-clause-acts : goal.returns-in-Market-clause-acts
returns-in-Market-clause-acts g c =
    let seen = g.E.Engine.seen c.args.engine.now in
    let now = g.E.Engine.seen c.market.new.engine in
    let took = g.K.Sink.took c.args.out.now in
    subst (λ (one : Statement). ActsOn (deed_of one) c.market.result seen c.args.held.now now c.market.new.held took took) (sym c.in-Market.is)
    (binds_acts (deed_of (Market c.in-Market.line c.in-Market.to c.in-Market.listed)) c.market.result seen now c.args.held.now c.market.new.held took (λ known. refl) (c.market.ensures.acts c.in-Market.line))

pub returns-in-Market-clause-cause : goal.returns-in-Market-clause-cause
returns-in-Market-clause-cause g c =
    no_fault (deed_of (Market c.in-Market.line c.in-Market.to c.in-Market.listed)) c.market.result (g.E.Engine.seen c.args.engine.now) (g.E.Engine.seen c.market.new.engine) c.args.held.now c.market.new.held c.requires.well (c.market.ensures.acts c.in-Market.line)
