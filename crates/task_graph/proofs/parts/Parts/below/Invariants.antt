use Rattle.task_links.specs.Inside.{entries_at, station_at}
use Rattle.task_links.specs.Order.{IsFloor, height_of}
use Rattle.task_graph.proofs.parts.Parts.below.Given as goal

abbrev pub invariant-loop-at : goal.invariant-loop-at
invariant-loop-at g l = IsFloor (station_at (entries_at l.self.entries)) l.caller l.task l.at

abbrev pub decreases-loop-at : goal.decreases-loop-at
decreases-loop-at g l = height_of l.at
