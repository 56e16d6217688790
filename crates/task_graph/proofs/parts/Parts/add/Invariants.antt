use Rattle.std.proofs.Common.{◌≡◌, ◌+◌, ◌≤◌}
use Rattle.std.specs.HashMap.{hash_map_len}
use Rattle.task_links.specs.Inside.{room_of}
use Rattle.task_graph.specs.Adding.{IsAdding}
use Rattle.task_graph.proofs.parts.Parts.add.Given as goal

abbrev pub invariant-loop-place : goal.invariant-loop-place
invariant-loop-place g l =
    IsAdding l.fn.self l.self l.task l.caller l.fn.kind l.inputs l.place
    × (hash_map_len l.self.entries.tasks ≡ hash_map_len l.fn.self.entries.tasks + 1)
    × (room_of l.fn.self.entries ≤ room_of l.self.entries + 1)
