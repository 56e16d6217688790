use Rattle.std.proofs.Common.{refl, sym, subst}
use Rattle.cht_script.specs.declared.script.Verb.{Verb}
use Rattle.cht_script.specs.declared.script.Verb.TheVariants.{Copy as copying}
use Rattle.cht_script.specs.Meaning.{Acts as Does}
use Rattle.cht_script.specs.Reading.{names_of}
use Rattle.cht_session.specs.declared.operation.Operation.TheVariants.{Add, Mul, TMul, MulT, Square, Full}
use Rattle.cht_session.specs.Operations.{verb_of}
use Rattle.cht_session.specs.Running.{ActsOn}
use Rattle.cht_session.proofs.Turning.{binds_acts, no_text, no_fault}
use Rattle.cht_session.proofs.run.act_on.Goals as goal

pub returns-in-Copy-clause-acts : goal.returns-in-Copy-clause-acts
returns-in-Copy-clause-acts g c = λ line.
    let seen = g.E.Engine.seen c.args.engine.now in
    let now = g.E.Engine.seen c.copy.new.engine in
    let took = g.K.Sink.took c.args.out.now in
    subst (λ (v : Verb). ActsOn (Does line v (names_of c.args.names.now)) c.copy.result seen c.args.held.now now c.copy.new.held took took) (sym c.in-Copy.is)
    (binds_acts (Does line copying (names_of c.args.names.now)) c.copy.result seen now c.args.held.now c.copy.new.held took (λ known. refl) (c.copy.ensures.acts line))

pub returns-in-Copy-clause-cause : goal.returns-in-Copy-clause-cause
returns-in-Copy-clause-cause g c =
    no_fault (Does 0 copying (names_of c.args.names.now)) c.copy.result (g.E.Engine.seen c.args.engine.now) (g.E.Engine.seen c.copy.new.engine) c.args.held.now c.copy.new.held c.requires.well (c.copy.ensures.acts 0)

pub returns-in-Add-clause-acts : goal.returns-in-Add-clause-acts
returns-in-Add-clause-acts g c = λ line.
    let seen = g.E.Engine.seen c.args.engine.now in
    let now = g.E.Engine.seen c.combine.new.engine in
    let took = g.K.Sink.took c.args.out.now in
    subst (λ (v : Verb). ActsOn (Does line v (names_of c.args.names.now)) c.combine.result seen c.args.held.now now c.combine.new.held took took) (sym c.in-Add.is)
    (binds_acts (Does line (verb_of Add) (names_of c.args.names.now)) c.combine.result seen now c.args.held.now c.combine.new.held took (no_text Add line (names_of c.args.names.now)) (c.combine.ensures.acts line))

pub returns-in-Add-clause-cause : goal.returns-in-Add-clause-cause
returns-in-Add-clause-cause g c =
    no_fault (Does 0 (verb_of Add) (names_of c.args.names.now)) c.combine.result (g.E.Engine.seen c.args.engine.now) (g.E.Engine.seen c.combine.new.engine) c.args.held.now c.combine.new.held c.requires.well (c.combine.ensures.acts 0)

pub returns-in-Mul-clause-acts : goal.returns-in-Mul-clause-acts
returns-in-Mul-clause-acts g c = λ line.
    let seen = g.E.Engine.seen c.args.engine.now in
    let now = g.E.Engine.seen c.combine-in-Mul.new.engine in
    let took = g.K.Sink.took c.args.out.now in
    subst (λ (v : Verb). ActsOn (Does line v (names_of c.args.names.now)) c.combine-in-Mul.result seen c.args.held.now now c.combine-in-Mul.new.held took took) (sym c.in-Mul.is)
    (binds_acts (Does line (verb_of Mul) (names_of c.args.names.now)) c.combine-in-Mul.result seen now c.args.held.now c.combine-in-Mul.new.held took (no_text Mul line (names_of c.args.names.now)) (c.combine-in-Mul.ensures.acts line))

pub returns-in-Mul-clause-cause : goal.returns-in-Mul-clause-cause
returns-in-Mul-clause-cause g c =
    no_fault (Does 0 (verb_of Mul) (names_of c.args.names.now)) c.combine-in-Mul.result (g.E.Engine.seen c.args.engine.now) (g.E.Engine.seen c.combine-in-Mul.new.engine) c.args.held.now c.combine-in-Mul.new.held c.requires.well (c.combine-in-Mul.ensures.acts 0)

pub returns-in-TMul-clause-acts : goal.returns-in-TMul-clause-acts
returns-in-TMul-clause-acts g c = λ line.
    let seen = g.E.Engine.seen c.args.engine.now in
    let now = g.E.Engine.seen c.combine-in-TMul.new.engine in
    let took = g.K.Sink.took c.args.out.now in
    subst (λ (v : Verb). ActsOn (Does line v (names_of c.args.names.now)) c.combine-in-TMul.result seen c.args.held.now now c.combine-in-TMul.new.held took took) (sym c.in-TMul.is)
    (binds_acts (Does line (verb_of TMul) (names_of c.args.names.now)) c.combine-in-TMul.result seen now c.args.held.now c.combine-in-TMul.new.held took (no_text TMul line (names_of c.args.names.now)) (c.combine-in-TMul.ensures.acts line))

pub returns-in-TMul-clause-cause : goal.returns-in-TMul-clause-cause
returns-in-TMul-clause-cause g c =
    no_fault (Does 0 (verb_of TMul) (names_of c.args.names.now)) c.combine-in-TMul.result (g.E.Engine.seen c.args.engine.now) (g.E.Engine.seen c.combine-in-TMul.new.engine) c.args.held.now c.combine-in-TMul.new.held c.requires.well (c.combine-in-TMul.ensures.acts 0)

pub returns-in-MulT-clause-acts : goal.returns-in-MulT-clause-acts
returns-in-MulT-clause-acts g c = λ line.
    let seen = g.E.Engine.seen c.args.engine.now in
    let now = g.E.Engine.seen c.combine-in-MulT.new.engine in
    let took = g.K.Sink.took c.args.out.now in
    subst (λ (v : Verb). ActsOn (Does line v (names_of c.args.names.now)) c.combine-in-MulT.result seen c.args.held.now now c.combine-in-MulT.new.held took took) (sym c.in-MulT.is)
    (binds_acts (Does line (verb_of MulT) (names_of c.args.names.now)) c.combine-in-MulT.result seen now c.args.held.now c.combine-in-MulT.new.held took (no_text MulT line (names_of c.args.names.now)) (c.combine-in-MulT.ensures.acts line))

pub returns-in-MulT-clause-cause : goal.returns-in-MulT-clause-cause
returns-in-MulT-clause-cause g c =
    no_fault (Does 0 (verb_of MulT) (names_of c.args.names.now)) c.combine-in-MulT.result (g.E.Engine.seen c.args.engine.now) (g.E.Engine.seen c.combine-in-MulT.new.engine) c.args.held.now c.combine-in-MulT.new.held c.requires.well (c.combine-in-MulT.ensures.acts 0)

pub returns-in-Square-clause-acts : goal.returns-in-Square-clause-acts
returns-in-Square-clause-acts g c = λ line.
    let seen = g.E.Engine.seen c.args.engine.now in
    let now = g.E.Engine.seen c.combine-in-Square.new.engine in
    let took = g.K.Sink.took c.args.out.now in
    subst (λ (v : Verb). ActsOn (Does line v (names_of c.args.names.now)) c.combine-in-Square.result seen c.args.held.now now c.combine-in-Square.new.held took took) (sym c.in-Square.is)
    (binds_acts (Does line (verb_of Square) (names_of c.args.names.now)) c.combine-in-Square.result seen now c.args.held.now c.combine-in-Square.new.held took (no_text Square line (names_of c.args.names.now)) (c.combine-in-Square.ensures.acts line))

pub returns-in-Square-clause-cause : goal.returns-in-Square-clause-cause
returns-in-Square-clause-cause g c =
    no_fault (Does 0 (verb_of Square) (names_of c.args.names.now)) c.combine-in-Square.result (g.E.Engine.seen c.args.engine.now) (g.E.Engine.seen c.combine-in-Square.new.engine) c.args.held.now c.combine-in-Square.new.held c.requires.well (c.combine-in-Square.ensures.acts 0)

pub returns-in-Full-clause-acts : goal.returns-in-Full-clause-acts
returns-in-Full-clause-acts g c = λ line.
    let seen = g.E.Engine.seen c.args.engine.now in
    let now = g.E.Engine.seen c.combine-in-Full.new.engine in
    let took = g.K.Sink.took c.args.out.now in
    subst (λ (v : Verb). ActsOn (Does line v (names_of c.args.names.now)) c.combine-in-Full.result seen c.args.held.now now c.combine-in-Full.new.held took took) (sym c.in-Full.is)
    (binds_acts (Does line (verb_of Full) (names_of c.args.names.now)) c.combine-in-Full.result seen now c.args.held.now c.combine-in-Full.new.held took (no_text Full line (names_of c.args.names.now)) (c.combine-in-Full.ensures.acts line))

pub returns-in-Full-clause-cause : goal.returns-in-Full-clause-cause
returns-in-Full-clause-cause g c =
    no_fault (Does 0 (verb_of Full) (names_of c.args.names.now)) c.combine-in-Full.result (g.E.Engine.seen c.args.engine.now) (g.E.Engine.seen c.combine-in-Full.new.engine) c.args.held.now c.combine-in-Full.new.held c.requires.well (c.combine-in-Full.ensures.acts 0)
