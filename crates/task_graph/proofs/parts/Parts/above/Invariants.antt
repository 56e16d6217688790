use Rattle.task_graph.specs.Graphs.{graph_of}
use Rattle.task_graph.specs.Reading.{IsCeiling, rest_to}
use Rattle.task_graph.proofs.parts.Parts.above.Given as goal

abbrev pub invariant-loop-at : goal.invariant-loop-at
invariant-loop-at g l = IsCeiling (graph_of l.self) l.caller l.after l.at

abbrev pub decreases-loop-at : goal.decreases-loop-at
decreases-loop-at g l = rest_to l.last l.at
