-- What holds of a control state between two events, as far as it does not hang on trees, and the conditions of calls.
use Rattle.std.specs.Prelude.{◌≡◌, ℕ, ◌≤◌, true, List, map as each, None, Some, IsSome}
use Rattle.std.specs.FinMap as map
use Rattle.cht_ids.specs.declared.refs.Ref.{Ref}
use Rattle.task_types.specs.declared.outcome.NewChunk.{NewChunk}
use Rattle.task_types.specs.declared.outcome.Outcome.{Outcome}
use Rattle.task_types.specs.Presence.{Presence}
use Rattle.task_types.specs.Formed.{IsFormed}
use Rattle.task_states.specs.States.{Unfinished, task_at, is_stopped}
use Rattle.cht_history.specs.declared.event.Event.{Event}
use Rattle.cht_history.specs.declared.event.Event.TheVariants.{Finish}
use Rattle.name_machine.specs.States.{Ask, has_ask}
use Rattle.name_machine.specs.Control.{Control, ref_known}
use Rattle.name_machine.specs.Forgetting.{forgotten}
use Rattle.name_machine.specs.Replay.{presence_of_ref, is_run_by}
use Rattle.name_machine.specs.Facts.{AwaitsOwn, AwaitsTask}

module _ {C K : Type 0} where
  -- What hangs together in every state that is reached: numbers were drawn, and the outputs of no two asks have one number; what is
  -- asked of a task is an ask of its caller that was not delivered, and no two tasks are asked for under one number; what a task awaits
  -- is its caller's, and what is run awaits nothing; each unfinished task and each stopped caller has an ask.
  pub record HangsTogether (control : Control C (Unit {0}) K) : Type 0 where
    pub tasks_drawn : (number : ℕ) (task : Unfinished Ref K) → task_at control.graph number ≡ Some task → number ≤ control.drawn
    pub asks_drawn : (key : ℕ) (ask : Ask (Unit {0}) Ref) → map.get control.asks key ≡ Some ask → key ≤ control.drawn
    pub outputs_differ : (key other : ℕ) (one two : Ask (Unit {0}) Ref) → map.get control.asks key ≡ Some one → map.get control.asks other ≡ Some two
        → one.number ≡ two.number → key ≡ other
    pub asked : (task number : ℕ) (unfinished : Unfinished Ref K) → task_at control.graph task ≡ Some unfinished → unfinished.asked ≡ Some number
        → (key : ℕ) × (ask : Ask (Unit {0}) Ref) × (map.get control.asks key ≡ Some ask) × (ask.caller ≡ unfinished.caller)
        × (ask.number ≡ number) × (ask.delivered ≡ None)
    pub asked_differ : (task other number : ℕ) (one two : Unfinished Ref K) → task_at control.graph task ≡ Some one → task_at control.graph other ≡ Some two
        → one.asked ≡ Some number → two.asked ≡ Some number → task ≡ other
    pub own : AwaitsOwn control.graph
    pub runs : (worker task awaited : ℕ) (unfinished : Unfinished Ref K) → task_at control.graph task ≡ Some unfinished → unfinished.runner ≡ Some worker
        → AwaitsTask control.graph task awaited → ⊥
    pub tasks_asked : (number : ℕ) (task : Unfinished Ref K) → task_at control.graph number ≡ Some task → has_ask control.asks task.caller ≡ true
    pub stopped_asked : (caller : ℕ) → is_stopped control.graph caller ≡ true → has_ask control.asks caller ≡ true

  -- a caller asked a task, and its output was delivered and is not collected yet
  pub record IsDelivered (control : Control C (Unit {0}) K) (caller task : ℕ) : Type 0 where
    pub ask : Ask (Unit {0}) Ref
    pub there : map.get control.asks task ≡ Some ask
    pub own : ask.caller ≡ caller
    pub delivered : IsSome ask.delivered

  -- a worker runs a task
  abbrev pub RunsTask : Control C (Unit {0}) K → ℕ → ℕ → Type 0
  RunsTask control worker task = is_run_by worker (task_at control.graph task) ≡ true

  -- what is known of the inputs of a task: which of them are not null, and which of their children
  abbrev pub presences : (C → ℕ) → Control C (Unit {0}) K → Unfinished Ref K → List Presence
  presences arity control task = each (λ input. presence_of_ref (forgotten arity control).names (ref_known input)) task.inputs

  -- an outcome is formed for the task that a worker runs, whose number this is
  pub record IsFormedFor (arity : C → ℕ) (control : Control C (Unit {0}) K) (worker task : ℕ) (outcome : Outcome C K) : Type 0 where
    pub unfinished : Unfinished Ref K
    pub there : task_at control.graph task ≡ Some unfinished
    pub runner : unfinished.runner ≡ Some worker
    pub formed : IsFormed arity (presences arity control unfinished) outcome

  -- the contents of new chunks
  abbrev pub bodies_of : Outcome C K → List C
  bodies_of outcome = each (λ (chunk : NewChunk C). chunk.body) outcome.chunks

  -- the event of a finish
  abbrev pub finish_of : ℕ → ℕ → Outcome C K → Event K
  finish_of worker task outcome =
      Finish worker task (each (λ (chunk : NewChunk C). chunk.children) outcome.chunks) outcome.tasks outcome.result
