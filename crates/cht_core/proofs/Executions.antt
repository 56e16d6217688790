-- What a worker may do that began a task: give it back, or finish it with an outcome that is sound on what was granted.
use Rattle.std.proofs.Common.{◌≡◌, ℕ, Some, refl, sym, ap, subst, ◌∙◌}
use Rattle.std.specs.Option.{option_map}
use Rattle.task_types.specs.declared.outcome.Outcome.{Outcome}
use Rattle.task_types.specs.Tree.{Tree}
use Rattle.task_types.specs.Meanings.{Meanings}
use Rattle.task_types.specs.Sound.{IsSound, IsSoundFor}
use Rattle.task_states.specs.States.{Unfinished, task_at}
use Rattle.task_states.proofs.Changes.{changed_here}
use Rattle.name_machine.specs.States.{Runs}
use Rattle.name_machine.specs.Steps.{input_trees}
use Rattle.core_state.specs.Contents.{Contents}
use Rattle.cht_core.specs.Events.{state}
use Rattle.cht_core.specs.Granted.{inputs_granted}
use Rattle.cht_core.specs.Started.{IsBegun}
use Rattle.cht_core.specs.declared.answers.Started.{Started}
use Rattle.cht_core.proofs.FinishCalls.{HasRun}

module _ {L C K : Type 0} (lib : Meanings C K) (arity : C → ℕ) (before after : Contents C K) (worker task : ℕ) (started : Started L C K) (begun : IsBegun lib arity before after worker task started) where
  -- the task, now that the worker runs it
  abbrev then : Unfinished (Tree C) K
  then = record begun.unfinished { runner = Some worker }

  there_then : task_at (state lib after).graph task ≡ Some then
  there_then =
      ap (λ machine. task_at machine.graph task) begun.happens.step.after_is
      ∙ changed_here (state lib before).graph task task (λ (t : Unfinished (Tree C) K). record t { runner = Some worker }) refl
      ∙ ap (option_map (λ (t : Unfinished (Tree C) K). record t { runner = Some worker })) begun.there

  pub runs_it : Runs (state lib after) worker task
  runs_it = (then, there_then, refl)

  -- an outcome that is sound on what was granted may be finished
  pub may_finish : (outcome : Outcome C K) → IsSoundFor arity lib started.kind (inputs_granted started.inputs) outcome → HasRun lib arity after worker outcome
  may_finish outcome sound = (
    task,
    then,
    runs_it,
    there_then,
    subst (λ kind. IsSound arity lib kind (input_trees begun.unfinished) outcome) begun.kind
        (sound (input_trees begun.unfinished) begun.shown (subst (λ kind. lib.defined kind (input_trees begun.unfinished)) (sym begun.kind) begun.defined)),
  )
