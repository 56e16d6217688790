use Rattle.std.proofs.Common.{arith, rules, refl}
use Rattle.task_types.specs.Shown.{presences_in}
use Rattle.task_types.specs.Formed.{MayStand}
use Rattle.task_types.proofs.Facts.{facts_more, facts_all}
use Rattle.task_types.proofs.formed.are_tasks.Goals as goal

pub loop-i-preserved : goal.loop-i-preserved
loop-i-preserved g c =
    facts_more (λ k task. MayStand (presences_in c.args.inputs.now) c.args.chunks k task.inputs) c.args.tasks.now c.loop-i.i c.index-tasks-i.result c.loop-i.invariant c.index-tasks-i.is (c.all_may_stand.ensures.0 (search rules))

pub returns : goal.returns
returns g c =
    (λ _. facts_all (λ k task. MayStand (presences_in c.args.inputs.now) c.args.chunks k task.inputs) c.args.tasks.now c.loop-i.i (omega arith) c.loop-i.invariant, λ _. refl)
