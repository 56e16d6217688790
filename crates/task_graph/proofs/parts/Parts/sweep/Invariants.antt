use Rattle.std.proofs.Common.{◌≡◌, ◌≤◌}
use Rattle.std.specs.HashMap.{hash_map_len}
use Rattle.task_links.specs.Inside.{room_of}
use Rattle.task_graph.specs.Sweeping.{IsSwept}
use Rattle.task_graph.proofs.parts.Parts.sweep.Given as goal

abbrev pub invariant-loop-next : goal.invariant-loop-next
invariant-loop-next g l =
    IsSwept l.fn.self l.self l.caller l.next × (l.self.callers ≡ l.fn.self.callers)
    × (hash_map_len l.self.entries.tasks ≤ hash_map_len l.fn.self.entries.tasks) × (room_of l.fn.self.entries ≤ room_of l.self.entries)

abbrev pub decreases-loop-next : goal.decreases-loop-next
decreases-loop-next g l = hash_map_len l.self.entries.tasks
