use Rattle.cht_plain.specs.Alone.{seen_of}
use Rattle.quad_matrix.specs.Goals.{kind_of}
use Rattle.quad_matrix.specs.declared.kind.What.TheVariants.{Trace}
use Rattle.std.proofs.Common.{[], ◌∷◌, refl}
use Rattle.quad_matrix.specs.Matrices.{matrices}
use Rattle.core_tests.proofs.HeldAfter.{may_mention, trace_defined, asked_beside}
use Rattle.core_tests.proofs.engine_calls.trace.Goals as goal

pub has_small_peak-requires : goal.has_small_peak-requires
has_small_peak-requires c = may_mention (seen_of matrices c.args.engine.now) c.args.a c.requires.one

pub ask-requires-clause-held : goal.ask-requires-clause-held
ask-requires-clause-held c κs = (may_mention (seen_of matrices c.args.engine.now) c.args.a c.requires.one, tt)

pub ask-requires-clause-defined : goal.ask-requires-clause-defined
ask-requires-clause-defined c κs = trace_defined (seen_of matrices c.args.engine.now) c.args.a c.requires (c.if-not-has_small_peak.ensures refl)

pub returns : goal.returns
returns c =
    asked_beside (seen_of matrices c.args.engine.now) (seen_of matrices c.ask.new.self) (kind_of Trace 1) (c.args.a ∷ []) c.in_ok-t.t c.in_ok-t.ensures c.args.a c.requires.one
