-- Where a finish ends its task: what is awaited is settled, or awaits a new task.
use Rattle.std.proofs.Common.{◌≡◌, ℕ, List, ◌++◌, slice_get, Some, IsSome, sym, ◌∙◌}
use Rattle.cht_ids.specs.declared.refs.Ref.{Ref}
use Rattle.task_types.specs.declared.outcome.Outcome.{Outcome}
use Rattle.name_states.specs.States.{NameState, IsLiveRef}
use Rattle.task_states.specs.States.{Awaits, Unfinished, Graph, task_at, input_at, AwaitsNothing}
use Rattle.task_states.specs.Awaiters.{IsNotAwaited}
use Rattle.task_states.specs.Steps.{settled, redirected, all_delivered, forwarded}
use Rattle.name_machine.specs.Control.{Control, with_number, copies_of, awaiting}
use Rattle.name_machine.proofs.Ends.{inputs_at}
use Rattle.name_machine.proofs.FinishSettled.{settled_more, settled_own}
use Rattle.core_steps.specs.Begin.{CanFinish}
use Rattle.core_steps.specs.Ending.{HoldsExactly}
use Rattle.core_steps.proofs.Course as course
use Rattle.core_steps.proofs.Exact.{exact}
use Rattle.core_steps.proofs.Handed.{settles, redirects, settled_hands, forwarded_hands, still_there, awaits_nothing, not_awaited}

-- what ending a task wants of the names and of the unfinished tasks
pub record MayEnd {C K : Type 0} (names : NameState C) (graph : Graph Ref K) (task : ℕ) (refs : List Ref) : Type 0 where
  pub held : HoldsExactly names task refs
  pub there : IsSome (task_at graph task)
  pub waits : AwaitsNothing graph task
  pub awaited : IsNotAwaited graph task

module _ {C K : Type 0} (arity : C → ℕ) (control : Control C (Unit {0}) K) (worker task : ℕ) (ran : Unfinished Ref K) (outcome : Outcome C K)
    (can : CanFinish arity control worker task ran outcome) where
  abbrev pub refs : List Ref
  refs = course.inputs arity control worker task ran outcome can ++ (course.grown arity control worker task ran outcome can).chunks

  abbrev second : Control C (Unit {0}) K
  second = course.second arity control worker task ran outcome can

  idle : (p a n : ℕ) → slice_get ran.inputs p ≡ Some (Awaits a n) → ⊥
  idle p a n is = can.together.runs worker task a ran can.there can.runner (p, n, inputs_at control.graph task p ran can.there ∙ is)

  -- it awaits nothing once its tasks are there
  idle_then : (place a n : ℕ) → input_at second.graph task place ≡ Some (Awaits a n) → ⊥
  idle_then place a n is = idle place a n (sym (inputs_at second.graph task place ran (course.second_there arity control worker task ran outcome can)) ∙ is)

  -- once all that awaited got its copy
  pub settled_may_end : (r : Ref) → IsLiveRef second.names r
      → MayEnd (copies_of second.names r (awaiting second.graph task)) (all_delivered second.graph task (with_number r)) task refs
  settled_may_end r live =
      let middle = course.second_middle arity control worker task ran outcome can in
      let there = course.second_there arity control worker task ran outcome can in
      let own_ask = λ (n : ℕ) (asked : ran.asked ≡ Some n). can.together.asked task n ran can.there asked in
      let hands = settled_hands second.graph task (with_number r) in
      let on = settles task (with_number r) in
      record {
        held =
            exact arity control worker task ran outcome can (copies_of second.names r (awaiting second.graph task))
            (settled_more arity task second middle ran there own_ask can.together.outputs_differ r live)
            (λ q entry is held. settled_own arity task second middle ran there own_ask can.together.outputs_differ r live idle_then q entry is held);
        there = still_there second.graph (all_delivered second.graph task (with_number r)) task (settled task (with_number r)) hands on ran there;
        waits = awaits_nothing second.graph (all_delivered second.graph task (with_number r)) task (settled task (with_number r)) hands on ran there idle;
        awaited = not_awaited second.graph (all_delivered second.graph task (with_number r)) task (settled task (with_number r)) hands on ran there;
      }

  -- once all that awaited awaits a new task
  pub forwarded_may_end : (to : ℕ) → (to ≡ task → ⊥) → MayEnd second.names (forwarded second.graph task to) task refs
  forwarded_may_end to apart =
      let there = course.second_there arity control worker task ran outcome can in
      let hands = forwarded_hands second.graph task to apart in
      let on = redirects task to apart in
      record {
        held = exact arity control worker task ran outcome can second.names (record { ids = λ q e is. is; bodies = λ q b is. is }) (λ q entry is held. is);
        there = still_there second.graph (forwarded second.graph task to) task (redirected task to) hands on ran there;
        waits = awaits_nothing second.graph (forwarded second.graph task to) task (redirected task to) hands on ran there idle;
        awaited = not_awaited second.graph (forwarded second.graph task to) task (redirected task to) hands on ran there;
      }
