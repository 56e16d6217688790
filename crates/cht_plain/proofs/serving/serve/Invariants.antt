use Rattle.std.proofs.Common.{◌≡◌}
use Rattle.cht_plain.specs.Alone.{seen_of, left, IsWaiting}
use Rattle.cht_plain.proofs.serving.serve.Given as goal

abbrev pub invariant-loop-r : goal.invariant-loop-r
invariant-loop-r g l =
    record {
      waiting : IsWaiting g.L.Library.meanings l.core;
      seen : seen_of g.L.Library.meanings l.core ≡ seen_of g.L.Library.meanings l.initial.core;
    }

abbrev pub decreases-loop-r : goal.decreases-loop-r
decreases-loop-r g l = left g.L.Library.meanings l.core
