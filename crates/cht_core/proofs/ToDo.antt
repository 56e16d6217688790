-- What there is to do in the state that a core stands for, and in its control state.
use Rattle.std.proofs.Common.{◌≡◌, ℕ, true, false, Option, None, Some, IfSome, IfNone, sym, ap, ◌∙◌}
use Rattle.std.specs.Option.{option_map}
use Rattle.std.specs.List.{list_any}
use Rattle.std.specs.FinMap as map
use Rattle.cht_ids.specs.declared.refs.Ref.{Ref}
use Rattle.task_types.specs.Tree.{Tree}
use Rattle.task_types.specs.Meanings.{Meanings}
use Rattle.task_states.specs.States.{Unfinished, task_at, is_stopped}
use Rattle.task_states.specs.Awaiters.{IsLeastOf, IsRunnable, IsWanted}
use Rattle.name_machine.specs.States.{Machine, Runs, IsIdle}
use Rattle.name_machine.specs.Control.{Control}
use Rattle.name_machine.specs.Facts.{HoldsTogether}
use Rattle.name_machine.specs.Replay.{is_runner, runs_nothing}
use Rattle.name_machine.specs.Forgetting.{forgotten}
use Rattle.name_machine.specs.Standing.{task_shown, machine_of}
use Rattle.name_machine.proofs.Stand.{shown_at, status_shown, not_true}
use Rattle.name_machine.proofs.Values.{any_from}
use Rattle.core_steps.specs.Conditions.{RunsTask}
use Rattle.cht_core.proofs.FinishAllowed.{there_from, runner_to, task_runs}

module _ {C K : Type 0} (lib : Meanings C K) (arity : C → ℕ) (control : Control C (Unit {0}) K) where
  abbrev shown : Machine C K
  shown = machine_of lib control

  -- a worker that runs no task in the control state is idle
  pub idle_from : (worker : ℕ) → runs_nothing (forgotten arity control) worker ≡ true → IsIdle shown worker
  idle_from worker nothing task runs =
      let from = there_from lib arity control task runs.0 runs.1 in
      let some : list_any (λ (t : Unfinished Ref K). is_runner worker t.runner) (map.values control.graph.tasks) ≡ true =
      any_from (λ (t : Unfinished Ref K). is_runner worker t.runner) control.graph.tasks task from.0 from.1
      (runner_to worker from.0.runner (ap (λ (t : Unfinished (Tree C) K). t.runner) (sym from.2) ∙ runs.2)) in
      let none = not_true (list_any (λ (t : Unfinished Ref K). is_runner worker t.runner) (map.values control.graph.tasks)) nothing in
      let clash : true ≡ false = sym some ∙ none in
      cc

  shown_there : (task : ℕ) (t : Unfinished Ref K) → task_at control.graph task ≡ Some t → task_at shown.graph task ≡ Some (task_shown control.names t)
  shown_there task t is = shown_at control.names control.graph task ∙ ap (option_map (task_shown control.names)) is

  pub wanted_to : (task : ℕ) → IsWanted control.graph task → IsWanted shown.graph task
  wanted_to task wanted = (task_shown control.names wanted.0, shown_there task wanted.0 wanted.1, wanted.2)

  pub wanted_from : (task : ℕ) → IsWanted shown.graph task → IsWanted control.graph task
  wanted_from task wanted =
      let from = there_from lib arity control task wanted.0 wanted.1 in
      (from.0, from.1, ap (λ (t : Unfinished (Tree C) K). is_stopped control.graph t.caller) (sym from.2) ∙ wanted.2)

  runnable_to : (task : ℕ) → IsRunnable control.graph task → IsRunnable shown.graph task
  runnable_to task r = record {
    unfinished = task_shown control.names r.unfinished;
    there = shown_there task r.unfinished r.there;
    ready = status_shown control.names control.graph task ∙ r.ready;
    not_stopped = r.not_stopped;
  }

  runnable_from : (task : ℕ) → IsRunnable shown.graph task → IsRunnable control.graph task
  runnable_from task r =
      let from = there_from lib arity control task r.unfinished r.there in
      record {
        unfinished = from.0;
        there = from.1;
        ready = sym (status_shown control.names control.graph task) ∙ r.ready;
        not_stopped = ap (λ (t : Unfinished (Tree C) K). is_stopped control.graph t.caller) (sym from.2) ∙ r.not_stopped;
      }

  pub least_to : (least : Option ℕ) → IsLeastOf (IsRunnable control.graph) least → IsLeastOf (IsRunnable shown.graph) least
  least_to None none = λ task r. none task (runnable_from task r)
  least_to (Some task) least = (runnable_to task least.0, λ other r. least.1 other (runnable_from other r))

  -- a worker runs one task
  pub same_run : (facts : HoldsTogether lib shown) (worker one other : ℕ) → RunsTask control worker one → Runs shown worker other → one ≡ other
  same_run facts worker one other runs other_runs = facts.one worker one other (task_runs lib arity control worker one runs) other_runs

-- what holds of an answer, if there is one, and where there is none
pub some_to : {X : Type 0} (P Q : X → Type 0) (o : Option X) → ((x : X) → P x → Q x) → IfSome o P → IfSome o Q
some_to P Q None to is = tt
some_to P Q (Some x) to is = to x is

pub none_to : {X : Type 0} (P Q : Type 0) (o : Option X) → (P → Q) → IfNone o P → IfNone o Q
none_to P Q None to is = to is
none_to P Q (Some x) to is = tt
