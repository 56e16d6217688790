-- What a start answers.
use Rattle.std.proofs.Common.{◌≡◌, ℕ, Option, None, Some, refl, sym, ap, subst, ◌∙◌}
use Rattle.std.specs.Option.{option_map}
use Rattle.cht_ids.specs.declared.refs.Ref.{Ref}
use Rattle.task_types.specs.Tree.{Tree}
use Rattle.task_types.specs.declared.inputs.Inputs.{Inputs}
use Rattle.task_types.specs.Shown.{Shows}
use Rattle.task_types.specs.Meanings.{Meanings}
use Rattle.task_states.specs.declared.states.TaskStatus.{TaskStatus}
use Rattle.task_states.specs.declared.states.TaskStatus.TheVariants.{Unknown, Ready, Waiting}
use Rattle.task_states.specs.States.{Graph, Unfinished, task_at, status, status_of}
use Rattle.task_states.proofs.Awaited.{awaits_nothing}
use Rattle.cht_history.specs.declared.event.Event.TheVariants.{Start}
use Rattle.name_machine.specs.States.{Machine}
use Rattle.name_machine.specs.Steps.{input_trees}
use Rattle.name_machine.specs.Goals.{goal_of}
use Rattle.name_machine.specs.Facts.{HoldsTogether}
use Rattle.name_machine.specs.Standing.{task_shown}
use Rattle.name_machine.proofs.Ends.{inputs_at}
use Rattle.name_machine.proofs.Invariant.{known_trees}
use Rattle.name_machine.proofs.Stand.{shown_at, status_shown}
use Rattle.core_state.specs.Contents.{Contents}
use Rattle.cht_core.specs.Events.{state, Happens}
use Rattle.cht_core.specs.Granted.{AreOwn, inputs_granted}
use Rattle.cht_core.specs.Started.{IsBegun}
use Rattle.cht_core.specs.Entered.{IsOn}
use Rattle.cht_core.specs.declared.answers.Started.{Started}
use Rattle.cht_core.specs.declared.answers.Execution.{Execution}

-- the goal of a task that is ready is defined on the trees of its inputs
ready_defined : {C K : Type 0} (lib : Meanings C K) (machine : Machine C K) → HoldsTogether lib machine → (task : ℕ) (t : Unfinished (Tree C) K)
    → task_at machine.graph task ≡ Some t → status machine.graph task ≡ Ready → lib.defined t.kind (input_trees t)
ready_defined lib machine facts task t there ready =
    let none = awaits_nothing machine.graph task (λ waiting. let clash : Ready ≡ Waiting = sym ready ∙ waiting in cc) in
    subst (lib.defined t.kind) (known_trees (goal_of lib machine) t.inputs (λ p a n at. none p a n (inputs_at machine.graph task p t there ∙ at))) (facts.defined task t there)

-- how far a task is
pub status_now : {C K : Type 0} (lib : Meanings C K) (before now : Contents C K) → before ≡ now → (task : ℕ) → status before.control.graph task ≡ status (state lib now).graph task
status_now {C} {K} lib before now view task =
    sym (status_shown before.control.names before.control.graph task) ∙ ap (λ (core : Contents C K). status (state lib core).graph task) view

module _ {C K : Type 0} (lib : Meanings C K) (arity : C → ℕ) (before now after : Contents C K) (view : before ≡ now) where
  -- a worker that begins a task is told of it
  pub begun : {L : Type 0} → HoldsTogether lib (state lib before) → (worker task : ℕ) (u : Unfinished Ref K) (inputs : Inputs C)
      → task_at now.control.graph task ≡ Some u → status now.control.graph task ≡ Ready → Shows inputs (input_trees (task_shown now.control.names u))
      → Happens lib arity now after (Start worker task) → IsOn {L = L} lib arity now after worker task (record { task = task; kind = u.kind; inputs = inputs })
  begun facts worker task u inputs row ready shown happens =
      let t : Unfinished (Tree C) K = task_shown now.control.names u in
      let there : task_at (state lib now).graph task ≡ Some t = shown_at now.control.names now.control.graph task ∙ ap (option_map (task_shown now.control.names)) row in
      record {
        happens = happens;
        task_is = refl;
        unfinished = t;
        there = there;
        kind = refl;
        shown = shown;
        defined =
            ready_defined lib (state lib now) (subst (λ (core : Contents C K). HoldsTogether lib (state lib core)) view facts) task t there (status_shown now.control.names now.control.graph task ∙ ready);
      }

-- what was begun, granted as the owners' objects
pub begun_granted : {L C K : Type 0} (lib : Meanings C K) (arity : C → ℕ) (before after : Contents C K) (worker task : ℕ) (execution : Execution L C K) (started : Started L C K)
    → started.task ≡ execution.task → started.kind ≡ execution.kind → AreOwn started.inputs → inputs_granted started.inputs ≡ execution.inputs
    → IsOn lib arity before after worker task execution → IsBegun lib arity before after worker task started
begun_granted lib arity before after worker task execution started task_is kind own shows on = record {
  happens = on.happens;
  task_is = task_is ∙ on.task_is;
  unfinished = on.unfinished;
  there = on.there;
  kind = kind ∙ on.kind;
  own = own;
  shown = subst (λ inputs. Shows inputs (input_trees on.unfinished)) (sym shows) on.shown;
  defined = on.defined;
}

-- how far a task is of which this is known
pub row_status : {K : Type 0} (graph : Graph Ref K) (task : ℕ) (o : Option (Unfinished Ref K)) → o ≡ task_at graph task
    → elim o as (λ x. TaskStatus) [ None ↦ Unknown | Some t ↦ status_of t ] ≡ status graph task
row_status {K} graph task o is = ap (λ (o : Option (Unfinished Ref K)). elim o as (λ x. TaskStatus) [ None ↦ Unknown | Some t ↦ status_of t ]) is
