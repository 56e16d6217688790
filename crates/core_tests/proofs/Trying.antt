-- What the calls of the tests leave known.
use Rattle.std.proofs.Common.{◌≡◌, ℕ, ◌+◌, false, List, map as each, None, Result, Ok, Err, IfOk, refl, ap, ◌∙◌}
use Rattle.std.specs.Ordering.{nat_cmp}
use Rattle.std.specs.FinMap as map
use Rattle.std.specs.FinSet as numbers
use Rattle.cht_ids.specs.declared.refs.Ref.{Ref}
use Rattle.task_types.specs.declared.outcome.Outcome.{Outcome}
use Rattle.task_types.specs.Tree.{Tree}
use Rattle.task_types.specs.Sound.{IsSoundFor}
use Rattle.task_states.specs.States.{is_stopped}
use Rattle.name_states.specs.Steps.{present}
use Rattle.name_states.proofs.Basics.{inserted_here}
use Rattle.cht_history.specs.declared.event.Event.{Event}
use Rattle.cht_history.specs.declared.event.Event.TheVariants.{Ask as AskEvent}
use Rattle.name_machine.specs.States.{Machine, Ask, opening, tree_named, Runs}
use Rattle.name_machine.specs.Parts.{goal_for, asks_of, is_callers_own}
use Rattle.name_machine.proofs.Works.{chosen_from, chosen_to, let_through, lets_through}
use Rattle.core_steps.specs.Conditions.{finish_of}
use Rattle.core_state.specs.Contents.{Contents}
use Rattle.cht_core.specs.Answers.{HasAsked}
use Rattle.cht_core.specs.Events.{Happens}
use Rattle.cht_core.specs.Granted.{inputs_granted}
use Rattle.cht_core.specs.Started.{IsBegun}
use Rattle.cht_core.specs.declared.answers.Started.{Started}
use Rattle.cht_core.proofs.Executions.{may_finish}
use Rattle.quad_matrix.specs.declared.chunk.MatChunk.{MatChunk}
use Rattle.quad_matrix.specs.declared.kind.MatKind.{MatKind}
use Rattle.quad_matrix.specs.Chunks.{arity_of}
use Rattle.quad_matrix.specs.Matrices.{matrices}
use Rattle.core_tests.specs.Tried.{state_of, IsTried, GoesOn, Awaits, MayFinish}

-- nobody is stopped as a core is made
pub opened : (core : Contents MatChunk MatKind) → state_of core ≡ opening → core.callers ≡ 1 → core.workers ≡ 3 → GoesOn core
opened core is callers workers = record {
  tried = record { callers = callers; workers = workers };
  going = ap (λ (m : Machine MatChunk MatKind). is_stopped m.graph 0) is ∙ numbers.contains-empty nat_cmp 0;
}

-- the caller that awaits a task asked it
pub has_asked : (core : Contents MatChunk MatKind) (task : ℕ) → Awaits task core → HasAsked (state_of core) 0 task
has_asked core task awaits =
    let found = chosen_from (goal_for 0) (state_of core).asks task awaits.goal awaits.there in
    let through = let_through found.0.caller 0 found.0.goal awaits.goal found.2 in
    record { ask = found.0; there = found.1; own = through.0 }

module _ (before after : Contents MatChunk MatKind) where
  -- the caller awaits what it asked
  pub awaits_asked : (task : ℕ) (kind : MatKind) (inputs : List Ref) → IsTried before → Happens matrices arity_of before after (AskEvent 0 task kind inputs) → Awaits task after
  awaits_asked task kind inputs tried happens =
      let now : Machine MatChunk MatKind = state_of before in
      let new : Ask (Tree MatChunk) (Tree MatChunk) =
      record {
        caller = 0;
        number = now.drawn + 2 + present inputs;
        goal = matrices.goal kind (each (tree_named now) inputs);
        delivered = None;
      } in
      record {
        tried = record { callers = happens.callers ∙ tried.callers; workers = happens.workers ∙ tried.workers };
        goal = new.goal;
        there = ap (λ (m : Machine MatChunk MatKind). map.get (asks_of m.asks 0) task) happens.step.after_is
            ∙ chosen_to (goal_for 0) (map.insert now.asks (now.drawn + 1) new) task new new.goal
            (inserted_here now.asks (now.drawn + 1) task new new happens.step.number refl) (lets_through 0 0 new.goal refl);
      }

  -- it does so after each event that is not its own
  pub awaits_on : (task : ℕ) (event : Event MatKind) → is_callers_own 0 event ≡ false → Awaits task before → Happens matrices arity_of before after event → Awaits task after
  awaits_on task event other awaits happens = record {
    tried = record { callers = happens.callers ∙ awaits.tried.callers; workers = happens.workers ∙ awaits.tried.workers };
    goal = awaits.goal;
    there = ap (λ part. map.get part.asks task) (happens.other_callers 0 other) ∙ awaits.there;
  }

  -- an outcome that was made of what was granted may be finished
  pub may_finish_it : {L E : Type 0} (worker task : ℕ) (started : Started L MatChunk MatKind) (result : Result (Outcome MatChunk MatKind) E)
      → IsBegun matrices arity_of before after worker task started → IfOk result (IsSoundFor arity_of matrices started.kind (inputs_granted started.inputs)) → IfOk result (MayFinish after worker)
  may_finish_it worker task started (Ok outcome) begun sound = may_finish matrices arity_of before after worker task started begun outcome sound
  may_finish_it worker task started (Err e) begun sound = tt

  -- after a finish the caller awaits what it awaited
  pub awaits_finished : (worker task : ℕ) (outcome : Outcome MatChunk MatKind) → MayFinish before worker outcome → Awaits task before
      → ((ran : ℕ) → Runs (state_of before) worker ran → Happens matrices arity_of before after (finish_of worker ran outcome)) → Awaits task after
  awaits_finished worker task outcome may awaits happens = awaits_on task (finish_of worker may.0 outcome) refl awaits (happens may.0 may.2)
