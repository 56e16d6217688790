use Rattle.std.proofs.Common.{subst}
use Rattle.cht_engine.specs.Seen.{MayMention}
use Rattle.core_tests.proofs.HeldAfter.{may_mention}
use Rattle.core_tests.proofs.engine_calls.has_small_peak_on.Goals as goal

pub look-requires : goal.look-requires
look-requires g c =
    subst (MayMention (g.E.Engine.seen c.args.engine.now)) c.in-Id.is (may_mention (g.E.Engine.seen c.args.engine.now) c.args.a c.requires.one)
