-- Where nobody runs a task and one is unfinished, one is ready.
use Rattle.std.proofs.Common.{◌≡◌, ℕ, zero, suc, ◌+◌, ◌<◌, false, cond, List, [], ◌∷◌, slice_get, Option, None, Some, ◌⊎◌, inl, inr, refl, sym, ap, ◌∙◌, arith}
use Rattle.std.specs.List.{list_any}
use Rattle.std.specs.Option.{is_some}
use Rattle.std.specs.FinMap as map
use Rattle.task_types.specs.Tree.{Tree}
use Rattle.task_types.specs.Meanings.{Meanings}
use Rattle.task_states.specs.declared.states.TaskStatus.{TaskStatus}
use Rattle.task_states.specs.declared.states.TaskStatus.TheVariants.{Unknown, Waiting, Ready, Running}
use Rattle.task_states.specs.States.{Input, Known, Awaits, Unfinished, Graph, task_at, status, status_of, is_awaiting, is_stopped}
use Rattle.task_states.specs.Awaiters.{IsRunnable, IsWanted}
use Rattle.name_states.proofs.Basics.{none_not_some, inserted_here}
use Rattle.name_machine.specs.States.{Machine, Ask, IsIdle}
use Rattle.name_machine.specs.Facts.{HoldsTogether, AwaitsTask}
use Rattle.name_machine.specs.Parts.{goal_for}
use Rattle.name_machine.proofs.Ends.{inputs_at}
use Rattle.name_machine.proofs.Works.{chosen_from, let_through}
use Rattle.core_state.specs.Contents.{Contents}
use Rattle.cht_core.specs.Events.{state}
use Rattle.cht_core.specs.Answers.{HasAsked, IsNotDelivered}
use Rattle.cht_plain.specs.Alone.{seen_of, IsWaiting}
use Rattle.cht_plain.specs.Serving.{AwaitsOne}

module _ {X : Type 0} where
  -- an input awaits a task, or none does
  awaiting_or_not : (inputs : List (Input X)) → ((p : ℕ) × (a : ℕ) × (n : ℕ) × (slice_get inputs p ≡ Some (Awaits a n))) ⊎ (list_any is_awaiting inputs ≡ false)
  awaiting_or_not [] = inr refl
  awaiting_or_not (Known x ∷ inputs) = elim (awaiting_or_not inputs) [
    | inl some ↦ inl (suc some.0, some.1, some.2, some.3)
    | inr none ↦ inr none
  ]
  awaiting_or_not (Awaits a n ∷ inputs) = inl (0, a, n, refl)

pub status_is : {X K : Type 0} (graph : Graph X K) (q : ℕ) (t : Unfinished X K) → task_at graph q ≡ Some t → status graph q ≡ status_of t
status_is {X} {K} graph q t is = ap (λ (o : Option (Unfinished X K)). elim o as (λ x. TaskStatus) [ None ↦ Unknown | Some task ↦ status_of task ]) is

ready_so : {X K : Type 0} (t : Unfinished X K) → list_any is_awaiting t.inputs ≡ false → t.runner ≡ None → status_of t ≡ Ready
ready_so t none runs = ap (λ b. cond b Waiting (cond (is_some t.runner) Running Ready)) none ∙ ap (λ (o : Option ℕ). cond (is_some o) Running Ready) runs

module _ {C K : Type 0} (lib : Meanings C K) (machine : Machine C K) (facts : HoldsTogether lib machine) (idle : (worker : ℕ) → IsIdle machine worker) where
  not_run : (q : ℕ) (t : Unfinished (Tree C) K) → task_at machine.graph q ≡ Some t → (o : Option ℕ) → t.runner ≡ o → t.runner ≡ None
  not_run q t is None runs = runs
  not_run q t is (Some w) runs = absurd (idle w q (t, is, runs))

  -- going down what is awaited comes to a task that is ready, of the same caller
  ready_below : (fuel q : ℕ) (t : Unfinished (Tree C) K) → facts.levels.level q < fuel → task_at machine.graph q ≡ Some t
      → (r : ℕ) × (u : Unfinished (Tree C) K) × (task_at machine.graph r ≡ Some u) × (status_of u ≡ Ready) × (u.caller ≡ t.caller)
  ready_below zero q t low is = absurd (omega arith)
  ready_below (suc fuel) q t low is =
      elim (awaiting_or_not t.inputs) [
        | inl some ↦
            let awaits : AwaitsTask machine.graph q some.1 = (some.0, some.2, inputs_at machine.graph q some.0 t is ∙ some.3) in
            let other = facts.own q some.1 t is awaits in
            let down = facts.levels.falls q some.1 awaits in
            let found = ready_below fuel some.1 other.0 (omega arith) other.1 in
            (found.0, found.1, found.2, found.3, found.4 ∙ other.2)
        | inr none ↦ (q, t, is, ready_so t none (not_run q t is t.runner refl), refl)
      ]

  pub runnable_of : (q : ℕ) (t : Unfinished (Tree C) K) → task_at machine.graph q ≡ Some t → is_stopped machine.graph t.caller ≡ false → (r : ℕ) × IsRunnable machine.graph r
  runnable_of q t is going =
      let found = ready_below (facts.levels.level q + 1) q t (omega arith) is in (
        found.0,
        record {
          unfinished = found.1;
          there = found.2;
          ready = status_is machine.graph found.0 found.1 found.2 ∙ found.3;
          not_stopped = ap (is_stopped machine.graph) found.4 ∙ going;
        },
      )

module _ {C K : Type 0} (lib : Meanings C K) (core : Contents C K) (task : ℕ) (goal : Tree C) (awaits : AwaitsOne (seen_of lib core) task goal) where
  -- the ask that the caller awaits
  pub ask_awaited : (a : Ask (Tree C) (Tree C)) × (map.get (state lib core).asks task ≡ Some a) × (a.caller ≡ 0) × (a.goal ≡ goal)
  ask_awaited =
      let from = chosen_from (goal_for 0) (state lib core).asks task goal (ap (λ m. map.get m task) awaits ∙ inserted_here map.empty task task goal goal refl refl) in
      let through = let_through from.0.caller 0 from.0.goal goal from.2 in
      (from.0, from.1, through.0, sym through.1)

  pub has_asked : HasAsked (state lib core) 0 task
  has_asked = let a = ask_awaited in record { ask = a.0; there = a.1; own = a.2 }

  -- while its output is not there, a task is ready
  pub runnable : IsWaiting lib core → HoldsTogether lib (state lib core) → IsNotDelivered (state lib core) task → (r : ℕ) × IsRunnable (state lib core).graph r
  runnable waiting facts undelivered =
      let a = ask_awaited in
      elim (facts.served task a.0 a.1) [
        | inl delivered ↦ absurd (none_not_some (undelivered a.0 a.1) delivered)
        | inr open_ask ↦
            runnable_of lib (state lib core) facts waiting.idle open_ask.1 open_ask.2 open_ask.3
            (ap (is_stopped (state lib core).graph) (open_ask.5 ∙ a.2) ∙ waiting.going)
      ]

-- what can be begun is wanted
pub wanted : {X K : Type 0} (graph : Graph X K) (task : ℕ) → IsRunnable graph task → IsWanted graph task
wanted graph task runs = (runs.unfinished, runs.there, runs.not_stopped)
