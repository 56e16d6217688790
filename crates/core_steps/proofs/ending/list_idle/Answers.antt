use Rattle.std.proofs.Common.{refl, ap, ◌∙◌, ◌++◌}
use Rattle.name_machine.specs.NewTasks.{with_tasks}
use Rattle.core_steps.proofs.Idle.{idle_listed}
use Rattle.core_steps.proofs.ending.list_idle.Goals as goal

pub returns-clause-ready : goal.returns-clause-ready
returns-clause-ready g c = λ value caller drawn graph numbers_are.
    c.list_each.ensures.ready
    ∙ ap (λ found. c.args.ready.now.items ++ found)
    (idle_listed value c.args.numbers.now caller drawn c.args.tasks.now graph (with_tasks value c.args.numbers.now caller drawn c.args.tasks.now graph)
    c.args.numbers.now c.args.numbers.now refl numbers_are refl)
