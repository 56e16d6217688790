use Rattle.std.proofs.Common.{rules, ◌≡◌, [], ◌∷◌, ◌++◌}
use Rattle.thread_tests.specs.declared.deque_tests.Worker.{Worker}
use Rattle.thread_tests.specs.Crew.{last_first}
use Rattle.thread_tests.proofs.Crew
use Rattle.thread_tests.proofs.deque_tests.settled.Goals as goal

pub loop-worker-preserved : goal.loop-worker-preserved
loop-worker-preserved c =
    let popped : c.loop-worker.workers.items ≡ c.pop.new.self.items ++ c.in-Some.worker ∷ [] = search rules in
    Crew.parts_one (λ (worker : Worker). worker.own) (λ (worker : Worker). worker.thief) (last_first (λ (worker : Worker). worker.own) c.args.workers.items) (last_first (λ (worker : Worker). worker.thief) c.args.workers.items)
    c.loop-worker.owns.items c.push.new.self.items c.loop-worker.thieves.items c.push-in-Some.new.self.items c.loop-worker.workers.items c.pop.new.self.items c.in-Some.worker c.loop-worker.invariant popped c.in_ok-push.ensures.items c.in_ok-push-2.ensures.items
