use Rattle.task_types.specs.Shown.{presences_in}
use Rattle.task_plans.proofs.Growth.{drawn_tasks, drawn_places}
use Rattle.task_plans.proofs.engine.planned.Goals as goal

pub outcome-requires-clause-tasks : goal.outcome-requires-clause-tasks
outcome-requires-clause-tasks g c κs within =
    drawn_tasks (g.O.Operation.kind_at c.saturating_sub-low.result) (presences_in c.args.inputs.now) c.args.portions c.args.parts.now c.blank.result c.in_ok-sketch.sketch c.requires.few c.in_ok-sketch.ensures c.blank.ensures

pub outcome-requires-clause-places : goal.outcome-requires-clause-places
outcome-requires-clause-places g c κs within =
    drawn_places (g.O.Operation.kind_at c.saturating_sub-low.result) (presences_in c.args.inputs.now) c.args.portions c.args.parts.now c.blank.result c.in_ok-sketch.sketch c.requires.few c.in_ok-sketch.ensures c.blank.ensures
