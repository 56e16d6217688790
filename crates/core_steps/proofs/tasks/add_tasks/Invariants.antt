use Rattle.std.proofs.Common.{length, vec_capacity}
use Rattle.core_steps.proofs.Adding.{IsAdded, IsRoomLeft}
use Rattle.core_steps.proofs.tasks.add_tasks.Given as goal

abbrev pub invariant-loop-task : goal.invariant-loop-task
invariant-loop-task g l =
    IsAdded l.inputs l.made l.caller l.tasks l.fn.names.names l.fn.counter l.fn.graph.graph l.task-index l.names.names l.counter l.graph.graph l.numbers.items
    × IsRoomLeft l.task-index l.fn.counter l.counter l.fn.names.room.ids l.names.room.ids (length l.fn.names.room.bodies) (length l.names.room.bodies) l.fn.graph.spare l.graph.spare (vec_capacity l.fn.numbers) (vec_capacity l.numbers)
