use Rattle.std.proofs.Common.{vec_len}
use Rattle.steal_deque.proofs.Groups.{IsSettling}
use Rattle.steal_deque.proofs.settling.settle.Given as goal

abbrev pub invariant-loop-thief : goal.invariant-loop-thief
invariant-loop-thief l = IsSettling l.initial.owns.items l.owns.items l.initial.thieves.items l.thieves.items

abbrev pub decreases-loop-thief : goal.decreases-loop-thief
decreases-loop-thief l = vec_len l.thieves
