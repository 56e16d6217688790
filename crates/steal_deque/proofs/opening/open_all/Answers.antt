use Rattle.std.proofs.Common.{rules, ◌≡◌, ◌++◌, ◌∷◌, []}
use Rattle.steal_deque.proofs.Groups
use Rattle.steal_deque.proofs.opening.open_all.Goals as goal

pub loop-worker-preserved : goal.loop-worker-preserved
loop-worker-preserved c = let pushed : c.push.new.self.items ≡ c.loop-worker.owns.items ++ c.in_ok-open.field-0 ∷ [] = search rules in
    rw pushed (Groups.opens_one c.loop-worker.owns.items c.in_ok-open.field-0 c.loop-worker._worker c.loop-worker.invariant c.in_ok-open.ensures)
