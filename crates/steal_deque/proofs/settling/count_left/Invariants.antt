use Rattle.std.proofs.Common.{vec_len}
use Rattle.steal_deque.proofs.Groups.{IsCounting}
use Rattle.steal_deque.proofs.settling.count_left.Given as goal

abbrev pub invariant-loop-own : goal.invariant-loop-own
invariant-loop-own l = IsCounting l.initial.owns.items l.owns.items l.numbers

abbrev pub decreases-loop-own : goal.decreases-loop-own
decreases-loop-own l = vec_len l.owns
