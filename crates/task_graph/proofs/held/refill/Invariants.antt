use Rattle.std.proofs.Common.{◌≤◌}
use Rattle.task_graph.specs.Graphs.{IsRefilled}
use Rattle.task_links.specs.Queue.{IsQueue, queue_capacity}
use Rattle.task_graph.proofs.held.refill.Given as goal

abbrev pub invariant-loop-number : goal.invariant-loop-number
invariant-loop-number g l =
    IsQueue l.ready × (queue_capacity l.fn.ready ≤ queue_capacity l.ready) × IsRefilled l.entries.tasks.entries l.number-iterator l.ready
