-- What a finish answers.
use Rattle.std.proofs.Common.{◌≡◌, ℕ, List, Some, Result, Ok, Err, IfOk, OnOk, OnErr, sym, ap, subst, ◌∙◌}
use Rattle.cht_ids.specs.declared.refs.Ref.{Ref}
use Rattle.task_types.specs.declared.outcome.Outcome.{Outcome}
use Rattle.task_types.specs.Tree.{Tree}
use Rattle.task_types.specs.Meanings.{Meanings}
use Rattle.task_types.specs.Sound.{IsSound, AddsUp}
use Rattle.task_types.specs.Deciding.{same_kind, DecidesOneOf}
use Rattle.name_states.proofs.Basics.{same_some}
use Rattle.task_states.specs.States.{Unfinished, Graph, task_at, status}
use Rattle.name_machine.specs.States.{Runs}
use Rattle.name_machine.specs.Steps.{input_trees}
use Rattle.name_machine.proofs.Stand.{status_shown}
use Rattle.core_steps.specs.Begin.{CanFinish}
use Rattle.core_steps.specs.Conditions.{RunsTask, bodies_of, finish_of}
use Rattle.core_steps.specs.NewlyReady.{AreNewlyReady}
use Rattle.core_state.specs.Contents.{Contents, after_event}
use Rattle.cht_core.specs.Events.{state, Happens}
use Rattle.cht_core.proofs.Calls.{ok_to, IsCore, Called, finish_fits, finish_called}
use Rattle.cht_core.proofs.FinishAllowed.{runs_task}
use Rattle.cht_core.proofs.ToDo.{same_run}
use Rattle.cht_core.proofs.Together.{hangs_together}

-- an answer for each task that is run is one for the task that is run
at_run : {A E : Type 0} (R Q : ℕ → Type 0) (result : Result A E) (task : ℕ) → R task → IfOk result (λ x. (task : ℕ) → R task → Q task) → OnOk result (Q task)
at_run R Q (Ok x) task runs each = each task runs
at_run R Q (Err e) task runs each = tt

module _ {C K : Type 0} (lib : Meanings C K) (arity : C → ℕ) where
  -- a worker runs a task, and an outcome is sound for it
  abbrev pub HasRun : Contents C K → ℕ → Outcome C K → Type 0
  HasRun core worker outcome =
      (task : ℕ) × (t : Unfinished (Tree C) K) × Runs (state lib core) worker task × (task_at (state lib core).graph task ≡ Some t) × IsSound arity lib t.kind (input_trees t) outcome

  module _ (name : K → List ℕ) (height : K → ℕ) (adds_up : AddsUp arity lib) (before now after : Contents C K) (view : before ≡ now)
      (stands : IsCore lib arity name height adds_up before) (decided : DecidesOneOf (same_kind name height)) (worker : ℕ) (outcome : Outcome C K) (run : HasRun now worker outcome) where
    runner : run.1.runner ≡ Some worker
    runner = ap (λ (t : Unfinished (Tree C) K). t.runner) (same_some run.1 run.2.0 (sym run.3 ∙ run.2.1)) ∙ run.2.2

    runs_before : RunsTask before.control worker run.0
    runs_before = runs_task lib arity before.control worker run.0 (subst (λ (core : Contents C K). Runs (state lib core) worker run.0) (sym view) run.2)

    -- what the control state wants of a finish
    pub can_finish : (task : ℕ) × (ran : Unfinished Ref K) × CanFinish arity before.control worker task ran outcome
    can_finish =
        let fit = finish_fits lib arity name height adds_up before now after view stands decided worker run.0 outcome run.1 run.3 runner run.4 in (
          run.0,
          fit.formed.unfinished,
          record {
            orderly = stands.comes.ordered;
            together = hangs_together lib before.control stands.facts;
            there = fit.formed.there;
            runner = fit.formed.runner;
            formed = fit.formed.formed;
          },
        )

    -- what it makes of the core
    pub finish_made : {A E : Type 0} (result : Result A E)
        → IfOk result (λ x. (task : ℕ) → RunsTask before.control worker task → after ≡ after_event before (bodies_of outcome) (finish_of worker task outcome))
        → OnErr result (after ≡ before) → Called lib arity name height adds_up result (λ x. finish_of worker run.0 outcome) now after
    finish_made result event unchanged =
        finish_called lib arity name height adds_up before now after view stands result decided worker run.0 outcome run.1 run.3 runner run.4
        (at_run (λ task. RunsTask before.control worker task) (λ task. after ≡ after_event before (bodies_of outcome) (finish_of worker task outcome)) result run.0 runs_before event) unchanged

    pub finish_happens : {A E : Type 0} (result : Result A E)
        → IfOk result (λ x. (task : ℕ) → RunsTask before.control worker task → after ≡ after_event before (bodies_of outcome) (finish_of worker task outcome))
        → OnErr result (after ≡ before)
        → IfOk result (λ x. (task : ℕ) → Runs (state lib now) worker task → Happens lib arity now after (finish_of worker task outcome))
    finish_happens {A} result event unchanged =
        ok_to (λ (x : A). Happens lib arity now after (finish_of worker run.0 outcome)) (λ x. (task : ℕ) → Runs (state lib now) worker task → Happens lib arity now after (finish_of worker task outcome))
        result
        (λ x happens task runs.
        subst (λ task. Happens lib arity now after (finish_of worker task outcome))
        (same_run lib arity before.control stands.facts worker run.0 task runs_before (subst (λ (core : Contents C K). Runs (state lib core) worker task) (sym view) runs))
        happens)
        (finish_made result event unchanged).happens

-- what became ready in a control state became ready in the state that it stands for
newly_shown : {X Y K : Type 0} (before after : Graph X K) (one other : Graph Y K) → ((q : ℕ) → status one q ≡ status before q) → ((q : ℕ) → status other q ≡ status after q)
    → (ready : List ℕ) → AreNewlyReady before after ready → AreNewlyReady one other ready
newly_shown before after one other first second ready newly = record {
  rise = newly.rise;
  exactly = λ task. (
    (λ among. let told = (newly.exactly task).0 among in (second task ∙ told.0, λ was. told.1 (sym (first task) ∙ was))),
    λ told. (newly.exactly task).1 (sym (second task) ∙ told.0, λ was. told.1 (first task ∙ was)),
  );
}

pub newly_ready : {C K E : Type 0} (lib : Meanings C K) (before now after : Contents C K) → before ≡ now → (result : Result (List ℕ) E)
    → IfOk result (AreNewlyReady before.control.graph after.control.graph) → IfOk result (AreNewlyReady (state lib now).graph (state lib after).graph)
newly_ready {C} {K} lib before now after view result =
    ok_to (AreNewlyReady before.control.graph after.control.graph) (AreNewlyReady (state lib now).graph (state lib after).graph) result
    (newly_shown before.control.graph after.control.graph (state lib now).graph (state lib after).graph
    (λ q. ap (λ (core : Contents C K). status (state lib core).graph q) (sym view) ∙ status_shown before.control.names before.control.graph q)
    (status_shown after.control.names after.control.graph))
