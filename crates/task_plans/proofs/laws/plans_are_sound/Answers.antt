use Rattle.task_plans.proofs.SoundPlans.{plan_is_sound}
use Rattle.task_plans.proofs.laws.plans_are_sound.Goals as goal

pub returns : goal.returns
returns g c = plan_is_sound g.L.Chunk.Payload.arity g.L.Library.meanings g.O.Operation.kind_at
