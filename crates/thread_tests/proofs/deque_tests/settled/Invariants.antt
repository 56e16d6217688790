use Rattle.std.proofs.Common.{vec_len}
use Rattle.thread_tests.specs.declared.deque_tests.Worker.{Worker}
use Rattle.thread_tests.specs.Crew.{last_first}
use Rattle.thread_tests.proofs.Crew.{IsForming}
use Rattle.thread_tests.proofs.deque_tests.settled.Given as goal

abbrev pub invariant-loop-worker : goal.invariant-loop-worker
invariant-loop-worker l = IsForming (λ (worker : Worker). worker.own) (λ (worker : Worker). worker.thief) (last_first (λ (worker : Worker). worker.own) l.initial.workers.items) (last_first (λ (worker : Worker). worker.thief) l.initial.workers.items) l.owns.items l.thieves.items l.workers.items

abbrev pub decreases-loop-worker : goal.decreases-loop-worker
decreases-loop-worker l = vec_len l.workers
