use Rattle.std.proofs.Common.{rules, ◌≡◌, Some, true, [], ◌∷◌, ◌++◌, refl, sym, subst, FitsSigned}
use Rattle.std.specs.Int.{w128}
use Rattle.std.proofs.lemmas.Int.{to_z-of_z}
use Rattle.cht_engine.specs.Seen.{MayMention, tree_named}
use Rattle.quad_matrix.specs.Goals.{IsDefined}
use Rattle.cht_session.specs.Bindings.{found_in}
use Rattle.cht_ids.specs.Numeral.{number_text}
use Rattle.cht_session.specs.Running.{IsWritten}
use Rattle.cht_session.specs.Given.{kind_traced, IsTraced, IsUndone}
use Rattle.cht_session.proofs.Doing.{stays, stays_still, traced_undone}
use Rattle.cht_session.proofs.Writing.{name_mentioned, trace_refusal, trace_stated, trace_defined}
use Rattle.cht_session.proofs.texts.write_trace.Goals as goal

pub returns-in_default-clause-going : goal.returns-in_default-clause-going
returns-in_default-clause-going g c = let seen = g.E.Engine.seen c.args.engine.now in stays_still seen seen c.args.held.now c.requires.well refl

pub peak_at-requires : goal.peak_at-requires
peak_at-requires g c =
    let seen = g.E.Engine.seen c.args.engine.now in
    name_mentioned seen seen c.args.held.now c.requires.well.0 _ c.in-Some.a c.requires.well.1 (sym c.in-Some.ensures)

pub returns-in_err-peak-clause-going : goal.returns-in_err-peak-clause-going
returns-in_err-peak-clause-going g c = stays_still (g.E.Engine.seen c.args.engine.now) (g.E.Engine.seen c.peak_at.new.engine) c.args.held.now c.requires.well c.peak_at.ensures.unchanged

pub returns-then-not-fits_product-clause-acts : goal.returns-then-not-fits_product-clause-acts
returns-then-not-fits_product-clause-acts g c = λ line env shown.
    let found = subst (λ n. found_in c.args.held.now n ≡ Some c.in-Some.a) c.as_bytes.ensures (sym c.in-Some.ensures) in
    trace_refusal c.args.names.now (g.E.Engine.seen c.args.engine.now) (g.E.Engine.seen c.peak_at.new.engine) c.args.held.now env c.in-Some.a c.requires.count shown found c.requires.square
    c.in_ok-peak.peak c.fits_product.result c.in_ok-peak.ensures.peak c.fits_product.ensures line (g.K.Sink.took c.args.out.now) c.if-not-fits_product.true c.peak_at.ensures.unchanged

pub returns-then-not-fits_product-clause-going : goal.returns-then-not-fits_product-clause-going
returns-then-not-fits_product-clause-going g c =
    stays_still (g.E.Engine.seen c.args.engine.now) (g.E.Engine.seen c.peak_at.new.engine) c.args.held.now c.requires.well c.peak_at.ensures.unchanged

pub traced-requires-clause-held : goal.traced-requires-clause-held
traced-requires-clause-held g c =
    let seen = g.E.Engine.seen c.args.engine.now in
    subst (λ s. MayMention s c.in-Some.a.at) (sym c.peak_at.ensures.unchanged)
    (name_mentioned seen seen c.args.held.now c.requires.well.0 _ c.in-Some.a c.requires.well.1 (sym c.in-Some.ensures))

pub traced-requires-clause-defined : goal.traced-requires-clause-defined
traced-requires-clause-defined g c =
    let seen = g.E.Engine.seen c.args.engine.now in
    let found = subst (λ n. found_in c.args.held.now n ≡ Some c.in-Some.a) c.as_bytes.ensures (sym c.in-Some.ensures) in
    let defined = trace_defined c.args.names.now seen seen c.args.held.now c.requires.well.0 c.in-Some.a c.requires.count c.requires.well.1 found c.requires.square
    c.in_ok-peak.peak c.fits_product.result c.in_ok-peak.ensures.peak c.fits_product.ensures c.if-not-fits_product.false in
    subst (λ h. IsDefined (kind_traced c.in-Some.a.shape.form h) (tree_named (g.E.Engine.seen c.peak_at.new.engine) c.in-Some.a.at ∷ [])) (sym c.height.ensures)
    (subst (λ s. IsDefined (kind_traced c.in-Some.a.shape.form c.args.held.now.height) (tree_named s c.in-Some.a.at ∷ [])) (sym c.peak_at.ensures.unchanged) defined)

pub returns-in_err-number-clause-going : goal.returns-in_err-number-clause-going
returns-in_err-number-clause-going g c =
    let seen = g.E.Engine.seen c.args.engine.now in
    let now = g.E.Engine.seen c.traced.new.engine in
    let undone = subst (λ s. IsUndone s now) c.peak_at.ensures.unchanged c.in_err-number.ensures in
    stays seen now c.args.held.now c.requires.well undone

pub returns-clause-acts : goal.returns-clause-acts
returns-clause-acts g c = λ line env shown.
    let seen = g.E.Engine.seen c.args.engine.now in
    let now = g.E.Engine.seen c.traced.new.engine in
    let at = c.in-Some.a.at in
    let found = subst (λ n. found_in c.args.held.now n ≡ Some c.in-Some.a) c.as_bytes.ensures (sym c.in-Some.ensures) in
    let got = subst (λ h. IsTraced (g.E.Engine.seen c.peak_at.new.engine) now (kind_traced c.in-Some.a.shape.form h) at c.in_ok-number.number) c.height.ensures c.in_ok-number.ensures in
    let traced = subst (λ s. IsTraced s now (kind_traced c.in-Some.a.shape.form c.args.held.now.height) at c.in_ok-number.number) c.peak_at.ensures.unchanged got in
    let wide : FitsSigned w128 c.in_ok-number.number = search rules in
    let written = subst (λ n. IsWritten c.write_line.result true (number_text n ++ 10 ∷ []) (g.K.Sink.took c.args.out.now) (g.K.Sink.took c.write_line.new.out)) (to_z-of_z w128 c.in_ok-number.number wide) c.write_line.ensures.written in
    trace_stated c.args.names.now seen now c.args.held.now env c.in-Some.a c.requires.count shown found c.requires.square
    c.in_ok-peak.peak c.fits_product.result c.in_ok-peak.ensures.peak c.fits_product.ensures line c.in_ok-number.number c.write_line.result
    (g.K.Sink.took c.args.out.now) (g.K.Sink.took c.write_line.new.out) c.if-not-fits_product.false traced written

pub returns-clause-going : goal.returns-clause-going
returns-clause-going g c =
    let seen = g.E.Engine.seen c.args.engine.now in
    let now = g.E.Engine.seen c.traced.new.engine in
    let at = c.in-Some.a.at in
    let traced = subst (λ s. IsTraced s now (kind_traced c.in-Some.a.shape.form c.height.result) at c.in_ok-number.number) c.peak_at.ensures.unchanged c.in_ok-number.ensures in
    stays seen now c.args.held.now c.requires.well (traced_undone seen now (kind_traced c.in-Some.a.shape.form c.height.result) at c.in_ok-number.number c.requires.well.1.idle traced)
