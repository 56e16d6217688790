use Rattle.steal_deque.specs.Ends.{SameOwn}
use Rattle.steal_deque.specs.Groups.{SameThief}
use Rattle.thread_tests.proofs.deque_tests.Worker.work.Given as goal

abbrev pub invariant-loop-k : goal.invariant-loop-k
invariant-loop-k g l = SameOwn l.initial.self.own l.self.own × SameThief l.initial.self.thief l.self.thief

abbrev pub invariant-loop : goal.invariant-loop
invariant-loop g l = SameOwn l.fn.self.own l.self.own × SameThief l.fn.self.thief l.self.thief
