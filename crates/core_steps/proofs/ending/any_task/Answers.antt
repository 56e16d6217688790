use Rattle.std.proofs.Common.{ap, ◌∙◌}
use Rattle.core_steps.specs.Ending.{names_task}
use Rattle.core_steps.proofs.Idle.{any_listed}
use Rattle.core_steps.proofs.ending.any_task.Goals as goal

pub returns : goal.returns
returns c =
    c.any_of_four.ensures
    ∙ any_listed c.args.inputs.now c.is_task-first.result c.is_task-second.result c.is_task-third.result c.is_task-fourth.result
    (c.is_task-first.ensures ∙ ap names_task c.nth_place.ensures) (c.is_task-second.ensures ∙ ap names_task c.nth_place-2.ensures)
    (c.is_task-third.ensures ∙ ap names_task c.nth_place-3.ensures) (c.is_task-fourth.ensures ∙ ap names_task c.nth_place-4.ensures)
