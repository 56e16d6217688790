use Rattle.std.proofs.Common.{[], ◌∷◌, refl, sym, subst}
use Rattle.cht_engine.specs.Seen.{MayMention}
use Rattle.cht_engine.specs.Calls.{trees_named}
use Rattle.quad_matrix.specs.declared.kind.What.TheVariants.{Trace}
use Rattle.quad_matrix.specs.Goals.{kind_of, IsDefined}
use Rattle.core_tests.specs.Holdings.{HoldsOne}
use Rattle.core_tests.proofs.HeldAfter.{may_mention, trace_defined, asked_beside}
use Rattle.core_tests.proofs.engine_calls.trace_on.Goals as goal

pub ask-requires-clause-held : goal.ask-requires-clause-held
ask-requires-clause-held g c =
    (subst (λ seen. MayMention seen c.args.a) (sym c.has_small_peak_on.ensures.unchanged) (may_mention (g.E.Engine.seen c.args.engine.now) c.args.a c.requires.one), tt)

pub ask-requires-clause-defined : goal.ask-requires-clause-defined
ask-requires-clause-defined g c =
    subst (λ seen. IsDefined (kind_of Trace 1) (trees_named seen (c.args.a ∷ []))) (sym c.has_small_peak_on.ensures.unchanged)
    (trace_defined (g.E.Engine.seen c.args.engine.now) c.args.a c.requires (c.if-not-has_small_peak_on.ensures.small refl))

pub returns : goal.returns
returns g c =
    asked_beside (g.E.Engine.seen c.has_small_peak_on.new.engine) (g.E.Engine.seen c.ask.new.self) (kind_of Trace 1) (c.args.a ∷ []) c.in_ok-t.t c.in_ok-t.ensures c.args.a
    (subst (λ seen. HoldsOne seen c.args.a) (sym c.has_small_peak_on.ensures.unchanged) c.requires.one)
