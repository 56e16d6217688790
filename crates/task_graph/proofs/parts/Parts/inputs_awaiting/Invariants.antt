use Rattle.task_links.specs.Inside.{entries_at}
use Rattle.task_links.specs.Weave.{link_at, rest_from}
use Rattle.task_graph.specs.Counted.{IsCounted}
use Rattle.task_graph.proofs.parts.Parts.inputs_awaiting.Given as goal

abbrev pub invariant-loop-next : goal.invariant-loop-next
invariant-loop-next g l = IsCounted l.self l.task l.next l.count

abbrev pub decreases-loop-next : goal.decreases-loop-next
decreases-loop-next g l = rest_from (link_at (entries_at l.self.entries)) l.next
