use Rattle.std.proofs.Common.{◌≡◌}
use Rattle.task_graph.specs.Graphs.{AreQueued, HasRoom}
use Rattle.task_links.specs.Queue.{IsQueue, queue_len}
use Rattle.task_graph.proofs.held.Held.clean.Given as goal

abbrev pub invariant-loop-least : goal.invariant-loop-least
invariant-loop-least g l = (l.self.parts ≡ l.fn.self.parts) × (l.self.spare ≡ l.fn.self.spare) × IsQueue l.self.ready × AreQueued l.self × HasRoom l.self

abbrev pub decreases-loop-least : goal.decreases-loop-least
decreases-loop-least g l = queue_len l.self.ready
