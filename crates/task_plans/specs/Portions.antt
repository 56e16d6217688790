-- The contents that wait for the parts of a plan.
use Rattle.std.specs.Prelude.{ℕ, zero, suc, Option, None, IfSome}
use Rattle.std.specs.Option.{is_some}
use Rattle.task_types.specs.Presence.{Presence, Present}
use Rattle.task_plans.specs.declared.portions.Portions.{Portions}

-- no portion has an entry
abbrev pub no_portions : {C : Type 0} → Portions C
no_portions = record { first = None; second = None; third = None; fourth = None }

-- the content of the portion with a number, if it has an entry
abbrev pub portion_in : {C : Type 0} → Portions C → ℕ → Option C
portion_in portions zero = portions.first
portion_in portions (suc zero) = portions.second
portion_in portions (suc (suc zero)) = portions.third
portion_in portions (suc (suc (suc zero))) = portions.fourth
portion_in portions (suc (suc (suc (suc q)))) = None

-- the portions without the one with a number
abbrev pub without : {C : Type 0} → Portions C → ℕ → Portions C
without portions zero = record portions { first = None }
without portions (suc zero) = record portions { second = None }
without portions (suc (suc zero)) = record portions { third = None }
without portions (suc (suc (suc zero))) = record portions { fourth = None }
without portions (suc (suc (suc (suc q)))) = portions

-- which portions have an entry
abbrev pub chosen_in : {C : Type 0} → Portions C → Presence
chosen_in portions =
    Present (is_some portions.first) (is_some portions.second) (is_some portions.third) (is_some portions.fourth)

-- the contents that wait are sound
pub record AreSound {C : Type 0} (sound : C → Type 0) (portions : Portions C) : Type 0 where
  pub first : IfSome portions.first sound
  pub second : IfSome portions.second sound
  pub third : IfSome portions.third sound
  pub fourth : IfSome portions.fourth sound
