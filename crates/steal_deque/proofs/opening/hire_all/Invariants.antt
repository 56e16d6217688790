use Rattle.steal_deque.proofs.Groups.{IsStaffed}
use Rattle.steal_deque.proofs.opening.hire_all.Given as goal

abbrev pub invariant-loop-number : goal.invariant-loop-number
invariant-loop-number l = IsStaffed l.initial.owns.items l.owns.items l.workers l.number l.thieves.items
