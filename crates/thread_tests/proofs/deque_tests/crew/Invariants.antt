use Rattle.std.proofs.Common.{vec_len}
use Rattle.thread_tests.specs.declared.deque_tests.Worker.{Worker}
use Rattle.thread_tests.proofs.Crew.{IsForming}
use Rattle.thread_tests.proofs.deque_tests.crew.Given as goal

abbrev pub invariant-loop-own : goal.invariant-loop-own
invariant-loop-own l = IsForming (λ (worker : Worker). worker.own) (λ (worker : Worker). worker.thief) l.initial.owns.items l.initial.thieves.items l.owns.items l.thieves.items l.workers.items

abbrev pub decreases-loop-own : goal.decreases-loop-own
decreases-loop-own l = vec_len l.owns
