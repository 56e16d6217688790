use Rattle.std.proofs.Common.{vec_len}
use Rattle.steal_deque.proofs.Groups.{IsReturning}
use Rattle.steal_deque.proofs.settling.give_back.Given as goal

abbrev pub invariant-loop-victim : goal.invariant-loop-victim
invariant-loop-victim l = IsReturning l.initial.owns.items l.owns.items l.initial.victims.items l.victims.items

abbrev pub decreases-loop-victim : goal.decreases-loop-victim
decreases-loop-victim l = vec_len l.victims
