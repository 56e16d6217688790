-- Where a finish begins.
use Rattle.std.specs.Prelude.{◌≡◌, ℕ, Some}
use Rattle.cht_ids.specs.declared.refs.Ref.{Ref}
use Rattle.task_types.specs.declared.outcome.Outcome.{Outcome}
use Rattle.task_types.specs.Formed.{IsFormed}
use Rattle.task_states.specs.States.{Unfinished, task_at}
use Rattle.name_machine.specs.Control.{Control}
use Rattle.name_machine.specs.Standing.{IsOrderly}
use Rattle.core_steps.specs.Conditions.{HangsTogether, presences}

-- In a control state in order a worker runs a task, and an outcome is formed for what is known of the task's inputs.
pub record CanFinish {C K : Type 0} (arity : C → ℕ) (control : Control C (Unit {0}) K) (worker task : ℕ) (ran : Unfinished Ref K) (outcome : Outcome C K) : Type 0 where
  pub orderly : IsOrderly arity control
  pub together : HangsTogether control
  pub there : task_at control.graph task ≡ Some ran
  pub runner : ran.runner ≡ Some worker
  pub formed : IsFormed arity (presences arity control ran) outcome
