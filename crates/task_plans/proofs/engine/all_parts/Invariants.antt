use Rattle.std.proofs.Common.{◌≡◌, take}
use Rattle.task_types.specs.Shown.{presences_in}
use Rattle.task_plans.specs.Sketches.{all_sketched}
use Rattle.task_plans.proofs.engine.all_parts.Given as goal

-- the parts so far, in order
abbrev pub invariant-loop-part : goal.invariant-loop-part
invariant-loop-part g l =
    l.sketch ≡ all_sketched (g.O.Operation.kind_at l.low) (presences_in l.inputs) l.fn.sketch (take l.part-index l.parts)
