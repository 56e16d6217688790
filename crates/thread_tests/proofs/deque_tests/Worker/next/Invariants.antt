use Rattle.steal_deque.specs.Ends.{SameOwn}
use Rattle.steal_deque.specs.Groups.{SameThief}
use Rattle.thread_tests.proofs.deque_tests.Worker.next.Given as goal

abbrev pub invariant-loop-victim : goal.invariant-loop-victim
invariant-loop-victim g l = SameOwn l.initial.self.own l.self.own × SameThief l.initial.self.thief l.self.thief
