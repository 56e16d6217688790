use Rattle.std.proofs.Common.{◌∙◌, take}
use Rattle.task_types.specs.Shown.{presences_in}
use Rattle.task_plans.proofs.Growth.{sketched_more, room_for_tasks, room_for_chunks, sound_after}
use Rattle.task_plans.proofs.engine.all_parts.Goals as goal

pub part-requires-clause-tasks : goal.part-requires-clause-tasks
part-requires-clause-tasks g c κs within =
    room_for_tasks (g.O.Operation.kind_at c.args.low) (presences_in c.args.inputs.now) c.args.sketch c.loop-part.sketch c.args.parts.now c.loop-part.part-index c.requires.few c.loop-part-test.true c.requires.no_tasks c.loop-part.invariant

pub part-requires-clause-chunks : goal.part-requires-clause-chunks
part-requires-clause-chunks g c κs within =
    room_for_chunks (g.O.Operation.kind_at c.args.low) (presences_in c.args.inputs.now) c.args.sketch c.loop-part.sketch c.args.parts.now c.loop-part.part-index c.requires.few c.loop-part-test.true c.requires.no_chunks c.loop-part.invariant

pub part-requires-clause-sound : goal.part-requires-clause-sound
part-requires-clause-sound g c κs within =
    sound_after g.C.Payload.sound (g.O.Operation.kind_at c.args.low) (presences_in c.args.inputs.now) c.args.sketch c.loop-part.sketch (take c.loop-part.part-index c.args.parts.now) c.requires.sound c.loop-part.invariant

pub loop-part-preserved : goal.loop-part-preserved
loop-part-preserved g c =
    c.in_ok-part.ensures ∙ sketched_more (g.O.Operation.kind_at c.args.low) (presences_in c.args.inputs.now) c.args.sketch c.loop-part.sketch c.args.parts.now c.loop-part.part-index c.part-item.result c.loop-part-test.true c.part-item.is c.loop-part.invariant
