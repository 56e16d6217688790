use Rattle.task_types.proofs.Deciding.{kinds_decided, shapes_decided, one_of_decided}
use Rattle.task_types.specs.Deciding.{same_kind}
use Rattle.task_types.proofs.laws.plans_decided.Goals as goal

pub returns : goal.returns
returns g c =
    let apart = (g.met.K.Kinds g.world.𝓛 g.world.𝓜 g.world.𝓡 ((λ s x. x), (λ x. x), (λ x. x), λ x. x)).told_apart in
    let kinds = kinds_decided g.K.Kinds.name_of g.K.Kinds.height_of apart in
    record {
      kinds = kinds;
      shapes = shapes_decided (same_kind g.K.Kinds.name_of g.K.Kinds.height_of) kinds;
      one_of = one_of_decided (same_kind g.K.Kinds.name_of g.K.Kinds.height_of) kinds;
    }
