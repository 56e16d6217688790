use Rattle.std.proofs.Common.{◌≤◌}
use Rattle.core_tests.proofs.journal_calls.front_of.Given as goal

abbrev pub invariant-loop-byte : goal.invariant-loop-byte
invariant-loop-byte l = l.at ≤ l.byte-index
