use Rattle.std.proofs.Common.{◌-◌, length}
use Rattle.steal_deque.proofs.Groups.{IsHiring}
use Rattle.steal_deque.proofs.opening.hire.Given as goal

abbrev pub invariant-loop-worker : goal.invariant-loop-worker
invariant-loop-worker l = IsHiring l.initial.owns.items l.owns.items l.victims.items l.number l.worker

abbrev pub decreases-loop-worker : goal.decreases-loop-worker
decreases-loop-worker l = length l.initial.owns.items - l.worker
