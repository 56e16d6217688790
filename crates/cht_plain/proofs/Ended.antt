-- What is left after the worker finished a task, or gave it back.
use Rattle.std.proofs.Common.{◌≡◌, ℕ, ◌+◌, cond, None, Some, inl, inr, refl, sym, ap, subst, ◌∙◌, arith}
use Rattle.task_types.specs.declared.outcome.Outcome.{Outcome}
use Rattle.task_types.specs.Tree.{Tree}
use Rattle.task_types.specs.Meanings.{Meanings}
use Rattle.task_types.specs.Sound.{IsSound, IsSoundFor, HasGoal}
use Rattle.task_states.specs.States.{Unfinished, task_at, is_stopped}
use Rattle.name_states.proofs.Basics.{none_not_some}
use Rattle.cht_history.specs.declared.event.Event.TheVariants.{GiveBack}
use Rattle.name_machine.specs.States.{Machine, Runs, opening}
use Rattle.name_machine.specs.Machine.{IsLegalRun}
use Rattle.name_machine.specs.Facts.{HoldsTogether}
use Rattle.name_machine.specs.Steps.{input_trees}
use Rattle.name_machine.specs.Parts.{untold, told_after, is_whose, finishes_by}
use Rattle.name_machine.proofs.Accounts.{tells_run, tells_opening}
use Rattle.name_machine.proofs.Finished.{finished_graph}
use Rattle.name_machine.proofs.Finishing.{from_final, stopped_final}
use Rattle.name_machine.proofs.Runs.{Kept, run_keeps}
use Rattle.name_machine.proofs.Small.{kept_at_opening}
use Rattle.name_machine.proofs.Tasks.{changed_from}
use Rattle.core_steps.specs.Conditions.{finish_of}
use Rattle.core_state.specs.Contents.{Contents}
use Rattle.cht_core.specs.Events.{state, Happens}
use Rattle.cht_core.specs.declared.answers.Execution.{Execution}
use Rattle.cht_plain.specs.Alone.{seen_of, left, IsWaiting, IsBusy, Executes}
use Rattle.cht_plain.proofs.Absent.{task_by}
use Rattle.cht_plain.proofs.Kept.{alone_then}
use Rattle.cht_plain.proofs.Started.{seen_same, left_then}

module _ {C K : Type 0} (lib : Meanings C K) (arity : C → ℕ) (before after : Contents C K) (task : ℕ) (kind : K) (unfinished : Unfinished (Tree C) K)
    (busy : IsBusy lib before task kind unfinished) where
  -- the worker gave the task back
  pub back_waits : Happens lib arity before after (GiveBack 0 task) → IsWaiting lib after
  back_waits happens =
      let change : Unfinished (Tree C) K → Unfinished (Tree C) K = λ t. record t { runner = None } in
      record {
        alone = alone_then lib arity before after (GiveBack 0 task) happens busy.alone (λ caller apart. refl) refl;
        going = ap (λ (m : Machine C K). is_stopped m.graph 0) happens.step.after_is ∙ busy.going;
        idle = λ worker q runs.
            let from = changed_from (state lib before).graph task q change runs.0 (ap (λ (m : Machine C K). task_at m.graph q) (sym happens.step.after_is) ∙ runs.1) in
            elim from.2 [
              | inl here ↦ none_not_some (ap (λ v. v.runner) here.1) runs.2
              | inr old ↦ old.0 (busy.only worker q (from.0, from.1, ap (λ v. v.runner) (sym old.1) ∙ runs.2))
            ];
      }

  pub back_seen : Happens lib arity before after (GiveBack 0 task) → seen_of lib after ≡ seen_of lib before
  back_seen happens = seen_same lib arity before after (GiveBack 0 task) happens refl

  pub runs_it : Runs (state lib before) 0 task
  runs_it = (unfinished, busy.there, busy.runs)

  module _ (run : IsLegalRun lib arity before.events (state lib before)) (facts : HoldsTogether lib (state lib before)) (outcome : Outcome C K)
      (happens : Happens lib arity before after (finish_of 0 task outcome)) where
    keeps : Kept lib (state lib before)
    keeps = run_keeps lib arity opening (state lib before) before.events (kept_at_opening lib) run

    -- the event finishes one task of the caller
    one_finished : finishes_by (told_after untold before.events) 0 (finish_of 0 task outcome) ≡ 1
    one_finished =
        let told = (tells_run lib arity untold opening (state lib before) before.events (kept_at_opening lib) (tells_opening lib) run).callers task unfinished busy.there in
        ap (λ o. cond (is_whose 0 o) 1 0) (told ∙ ap Some (task_by lib before busy.alone facts task unfinished busy.there))

    pub finish_waits : IsWaiting lib after
    finish_waits =
        let step = happens.step in
        let ran = step.unfinished in
        let graph = finished_graph lib arity (state lib before) keeps task ran step.there 0 step.runs step.outcome step.sound in
        record {
          alone = alone_then lib arity before after (finish_of 0 task outcome) happens busy.alone (λ caller apart. refl) (sym one_finished);
          going = ap (λ (m : Machine C K). is_stopped m.graph 0) step.after_is
              ∙ ap (λ g. is_stopped g 0) graph
              ∙ stopped_final lib arity (state lib before).drawn (state lib before).graph (state lib before).asks keeps task ran step.there 0 step.runs step.outcome step.sound 0
              ∙ busy.going;
          idle = λ worker q runs.
              elim (from_final lib arity (state lib before).drawn (state lib before).graph (state lib before).asks keeps task ran step.there 0 step.runs step.outcome step.sound q runs.0
              (sym (ap (λ (m : Machine C K). task_at m.graph q) step.after_is ∙ ap (λ g. task_at g q) graph) ∙ runs.1)) [
                | inl old ↦ old.apart (busy.only worker q (old.before, old.was, sym old.run_by ∙ runs.2))
                | inr new ↦ none_not_some new.run_by runs.2
              ];
        }

    pub finish_seen : seen_of lib after ≡ seen_of lib before
    finish_seen = seen_same lib arity before after (finish_of 0 task outcome) happens refl

    pub finish_less : left lib after + 1 ≡ left lib before
    finish_less = let less = left_then lib arity before after (finish_of 0 task outcome) happens refl in let one = one_finished in omega arith

module _ {L C K : Type 0} (lib : Meanings C K) (arity : C → ℕ) (core : Contents C K) (started : Execution L C K) (executes : Executes lib core started) where
  -- what the inputs that were granted show, the outcome is sound for
  pub sound_so : (outcome : Outcome C K) → IsSoundFor arity lib started.kind started.inputs outcome
      → IsSound arity lib executes.unfinished.kind (input_trees executes.unfinished) outcome
  sound_so outcome sound =
      let kind = executes.busy.kind_is in
      subst (λ (k : K). IsSound arity lib k (input_trees executes.unfinished) outcome) kind
      (sound (input_trees executes.unfinished) executes.shown (subst (λ (k : K). lib.defined k (input_trees executes.unfinished)) (sym kind) executes.busy.defined))

  -- the goal of what was begun is defined
  pub goal_so : HasGoal lib started.kind started.inputs
  goal_so =
      (input_trees executes.unfinished, executes.shown, subst (λ (k : K). lib.defined k (input_trees executes.unfinished)) (sym executes.busy.kind_is) executes.busy.defined)

module _ {L C K : Type 0} (lib : Meanings C K) (arity : C → ℕ) (before now after : Contents C K) (same : now ≡ before) (started : Execution L C K) (executes : Executes lib before started) where
  pub busy_now : IsBusy lib now started.task started.kind executes.unfinished
  busy_now = subst (λ core. IsBusy lib core started.task started.kind executes.unfinished) (sym same) executes.busy

  -- the worker runs what it began, until it gives it back
  abbrev pub runs_now : (task : ℕ) × Runs (state lib now) 0 task
  runs_now = (started.task, runs_it lib arity now now started.task started.kind executes.unfinished busy_now)

  module _ (happens : (task : ℕ) → Runs (state lib now) 0 task → Happens lib arity now after (GiveBack 0 task)) where
    pub given_back_waits : IsWaiting lib after
    given_back_waits = back_waits lib arity now after started.task started.kind executes.unfinished busy_now (happens started.task runs_now.1)

    pub given_back_seen : seen_of lib after ≡ seen_of lib before
    given_back_seen = back_seen lib arity now after started.task started.kind executes.unfinished busy_now (happens started.task runs_now.1) ∙ ap (seen_of lib) same

module _ {L C K : Type 0} (lib : Meanings C K) (arity : C → ℕ) (before after : Contents C K) (started : Execution L C K) (executes : Executes lib before started)
    (run : IsLegalRun lib arity before.events (state lib before)) (facts : HoldsTogether lib (state lib before)) (outcome : Outcome C K)
    (happens : (task : ℕ) → Runs (state lib before) 0 task → Happens lib arity before after (finish_of 0 task outcome)) where
  it_happens : Happens lib arity before after (finish_of 0 started.task outcome)
  it_happens = happens started.task (runs_it lib arity before after started.task started.kind executes.unfinished executes.busy)

  pub done_waits : IsWaiting lib after
  done_waits = finish_waits lib arity before after started.task started.kind executes.unfinished executes.busy run facts outcome it_happens

  pub done_seen : seen_of lib after ≡ seen_of lib before
  done_seen = finish_seen lib arity before after started.task started.kind executes.unfinished executes.busy run facts outcome it_happens

  pub done_less : left lib after + 1 ≡ left lib before
  done_less = finish_less lib arity before after started.task started.kind executes.unfinished executes.busy run facts outcome it_happens
