use Rattle.std.proofs.Common.{◌≡◌, map, replicate}
use Rattle.steal_deque.specs.Ends.{own_view}
use Rattle.steal_deque.specs.Groups.{owner_with}
use Rattle.steal_deque.proofs.opening.open_all.Given as goal

abbrev pub invariant-loop-worker : goal.invariant-loop-worker
invariant-loop-worker l = map own_view l.owns.items ≡ replicate l._worker (owner_with 0)
