use Rattle.task_links.specs.Inside.{entries_at}
use Rattle.task_links.specs.Weave.{head_at, link_at, IsBelow, rest_from}
use Rattle.task_links.proofs.entries.Entries.walk.Given as goal

abbrev pub invariant-loop-next : goal.invariant-loop-next
invariant-loop-next g l = IsBelow (head_at (entries_at l.self)) (link_at (entries_at l.self)) l.task l.number l.before l.next

abbrev pub decreases-loop-next : goal.decreases-loop-next
decreases-loop-next g l = rest_from (link_at (entries_at l.self)) l.next
