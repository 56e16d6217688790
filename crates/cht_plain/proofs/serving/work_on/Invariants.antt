use Rattle.std.proofs.Common.{◌≡◌, ◌≤◌}
use Rattle.cht_plain.specs.Alone.{seen_of, left, IsWaiting}
use Rattle.cht_plain.proofs.serving.work_on.Given as goal

abbrev pub invariant-loop-started : goal.invariant-loop-started
invariant-loop-started g l =
    record {
      waiting : IsWaiting g.L.Library.meanings l.core;
      seen : seen_of g.L.Library.meanings l.core ≡ seen_of g.L.Library.meanings l.initial.core;
      most : left g.L.Library.meanings l.core ≤ left g.L.Library.meanings l.initial.core;
    }

abbrev pub decreases-loop-started : goal.decreases-loop-started
decreases-loop-started g l = left g.L.Library.meanings l.core
