use Rattle.std.proofs.Common.{◌≡◌, Some}
use Rattle.task_links.specs.Inside.{entries_at, IsSameSize}
use Rattle.task_links.specs.Weave.{Head, head_at, rest_first}
use Rattle.task_graph.specs.Graphs.{graph_of, IsWhole}
use Rattle.task_graph.specs.Contents.{AreOfOneCaller}
use Rattle.task_graph.specs.Moving.{AreMoved}
use Rattle.task_graph.proofs.parts.Parts.move_all.Given as goal

abbrev pub invariant-loop-next : goal.invariant-loop-next
invariant-loop-next g l = IsWhole l.self × AreMoved l.task l.to (graph_of l.fn.self) (graph_of l.self) × AreOfOneCaller (graph_of l.self) l.task l.to × IsSameSize l.fn.self.entries l.self.entries
    × ((head : Head) → head_at (entries_at l.self.entries) l.task ≡ Some head → l.next ≡ head.first)

abbrev pub decreases-loop-next : goal.decreases-loop-next
decreases-loop-next g l = rest_first (entries_at l.self.entries) l.task
