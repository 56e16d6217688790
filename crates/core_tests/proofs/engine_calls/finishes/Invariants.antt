use Rattle.std.proofs.Common.{◌≤◌}
use Rattle.core_tests.proofs.engine_calls.finishes.Given as goal

abbrev pub invariant-loop-i : goal.invariant-loop-i
invariant-loop-i l = l.finishes ≤ l.i
