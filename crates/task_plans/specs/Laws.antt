-- The law of the engine.
use Rattle.std.specs.Prelude.{ℕ, List, map}
use Rattle.task_types.specs.Tree.{Tree}
use Rattle.task_types.specs.Presence.{presence_of}
use Rattle.task_types.specs.Meanings.{Meanings}
use Rattle.task_types.specs.Sound.{IsSound}
use Rattle.task_plans.specs.declared.portions.Portions.{Portions}
use Rattle.task_plans.specs.Plans.{Plan}
use Rattle.task_plans.specs.Sketches.{planned_outcome}
use Rattle.task_plans.specs.Steps.{PlanGives}

-- What the engine makes of a plan is sound, for each kind, plan, portions and inputs that give what they must.
abbrev pub PlanIsSound : {C O K : Type 0} → (C → ℕ) → Meanings C K → (ℕ → O → K) → Type 0
PlanIsSound {C} {O} {K} arity lib kind_at =
    (height : ℕ) (kind : K) (plan : Plan O) (portions : Portions C) (inputs : List (Tree C))
    → PlanGives arity lib kind_at height kind plan portions inputs
    → IsSound arity lib kind inputs (planned_outcome kind_at height plan portions (map presence_of inputs))
