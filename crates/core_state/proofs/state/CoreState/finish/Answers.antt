use Rattle.std.proofs.Common.{◌≡◌, ◌-◌, ◌<◌, length, is_some, sym, ap, subst, ◌∙◌, arith}
use Rattle.std.specs.Prelude.{map as each, slice_get, Some}
use Rattle.cht_history.specs.declared.event.Event.TheVariants.{Finish}
use Rattle.task_types.specs.declared.outcome.NewChunk.{NewChunk}
use Rattle.task_states.specs.States.{task_at}
use Rattle.name_machine.specs.Control.{tidied, after_finish}
use Rattle.core_steps.specs.Begin.{CanFinish}
use Rattle.core_steps.specs.Conditions.{RunsTask, bodies_of, finish_of}
use Rattle.core_state.specs.Contents.{Contents, after_event}
use Rattle.core_state.specs.Effect.{control_of}
use Rattle.core_state.proofs.Working.{owed_for_run}
use Rattle.core_state.proofs.Finished.{run_here, runs_it, can_here, can_then, found_is, run_one, finished_kept, finished_is}
use Rattle.core_state.proofs.state.CoreState.finish.Goals as goal

pub unwrap-task-requires : goal.unwrap-task-requires
unwrap-task-requires g c =
    let state = c.self.inside in
    let within : c.args.w < length state.running.items = rw (← c.self.view_is) at c.requires.worker in
    let can = subst (λ (v : Contents g.row.C.Denot g.row.K.Denot). CanFinish g.C.Payload.arity v.control c.args.w c.requires.formed.0 c.requires.formed.1 c.args.outcome) (sym c.self.view_is) c.requires.formed.2 in
    ap is_some (run_here state.running.items c.args.w c.requires.formed.0 c.index.result.now within c.index.ensures
    (runs_it g.C.Payload.arity state.counter state.names.names state.asks.asks state.graph.graph state.running.items c.self.invariant.run c.args.w c.requires.formed.0 c.requires.formed.1 c.args.outcome can))

pub prepare-requires-clause-there : goal.prepare-requires-clause-there
prepare-requires-clause-there g c κs inside =
    let state = c.self.inside in
    let within : c.args.w < length state.running.items = rw (← c.self.view_is) at c.requires.worker in
    let can = subst (λ (v : Contents g.row.C.Denot g.row.K.Denot). CanFinish g.C.Payload.arity v.control c.args.w c.requires.formed.0 c.requires.formed.1 c.args.outcome) (sym c.self.view_is) c.requires.formed.2 in
    ap is_some (can_here g.C.Payload.arity state.counter state.names.names state.asks.asks state.graph.graph state.running.items c.self.invariant.run c.args.w c.requires.formed.0 c.requires.formed.1 c.args.outcome can
    c.unwrap-task.result c.index.result.now within c.index.ensures c.unwrap-task.ensures).there

pub take_effect-ready-requires-clause-can : goal.take_effect-ready-requires-clause-can
take_effect-ready-requires-clause-can g c κs inside =
    let state = c.self.inside in
    let within : c.args.w < length state.running.items = rw (← c.self.view_is) at c.requires.worker in
    let can = subst (λ (v : Contents g.row.C.Denot g.row.K.Denot). CanFinish g.C.Payload.arity v.control c.args.w c.requires.formed.0 c.requires.formed.1 c.args.outcome) (sym c.self.view_is) c.requires.formed.2 in (
      c.requires.formed.1,
      can_then g.C.Payload.arity state.counter state.names.names state.asks.asks state.graph.graph state.running.items c.self.invariant.run c.args.w c.requires.formed.0 c.requires.formed.1 c.args.outcome can
          c.unwrap-task.result c.index.result.now within c.index.ensures c.unwrap-task.ensures
          c.prepare.new.names.names c.prepare.new.graph.graph c.as_slice-2.result.now c.prepare.ensures.names c.prepare.ensures.graph c.as_slice-2.ensures,
    )

pub invariant_of-self-2 : goal.invariant_of-self-2
invariant_of-self-2 g c =
    let state = c.self.inside in
    let within : c.args.w < length state.running.items = rw (← c.self.view_is) at c.requires.worker in
    let can = subst (λ (v : Contents g.row.C.Denot g.row.K.Denot). CanFinish g.C.Payload.arity v.control c.args.w c.requires.formed.0 c.requires.formed.1 c.args.outcome) (sym c.self.view_is) c.requires.formed.2 in
    let now = can_here g.C.Payload.arity state.counter state.names.names state.asks.asks state.graph.graph state.running.items c.self.invariant.run c.args.w c.requires.formed.0 c.requires.formed.1 c.args.outcome can
    c.unwrap-task.result c.index.result.now within c.index.ensures c.unwrap-task.ensures in
    let runs = subst (λ k. slice_get state.running.items c.args.w ≡ Some (Some k)) (found_is g.C.Payload.arity state.counter state.names.names state.asks.asks state.graph.graph state.running.items c.self.invariant.run c.args.w c.requires.formed.0 c.requires.formed.1 c.args.outcome can
    c.unwrap-task.result c.index.result.now within c.index.ensures c.unwrap-task.ensures) (runs_it g.C.Payload.arity state.counter state.names.names state.asks.asks state.graph.graph state.running.items c.self.invariant.run c.args.w c.requires.formed.0 c.requires.formed.1 c.args.outcome can) in
    let effect =
    c.take_effect-ready.ensures.effect
    ∙ (λ i. tidied (after_finish (control_of state.counter (c.prepare.ensures.names i) state.asks.asks (c.prepare.ensures.graph i)) c.args.w c.unwrap-task.result
    (bodies_of c.args.outcome) (each (λ (chunk : NewChunk g.row.C.Denot). chunk.children) c.args.outcome.chunks) (c.as_slice-2.ensures i) c.args.outcome.result
    (task_at (c.prepare.ensures.graph i) c.unwrap-task.result))) in
    let some = owed_for_run state.counter state.names state.asks state.graph.graph state.journal state.callers state.running.items state.owed c.self.invariant c.args.w c.unwrap-task.result runs in
    finished_kept state.counter state.names state.asks state.graph.graph state.journal state.callers state.running.items state.owed c.self.invariant
    g.C.Payload.arity c.args.w c.unwrap-task.result c.requires.formed.1 c.args.outcome now runs
    c.take_effect-ready.new.counter c.take_effect-ready.new.names c.take_effect-ready.new.asks c.take_effect-ready.new.graph.graph c.push_reserved.new.self
    (Finish c.args.w c.unwrap-task.result c.in_ok-places.places c.args.outcome.tasks c.args.outcome.result) effect c.push_reserved.ensures.events
    (state.owed - 1) (c.take_effect-ready.ensures.stores ∙ c.prepare.ensures.stores) c.take_effect-ready.ensures.callers (omega arith) c.push_reserved.ensures.spare

pub returns-clause-event : goal.returns-clause-event
returns-clause-event g c = λ other runs_other.
    let state = c.self.inside in
    let within : c.args.w < length state.running.items = rw (← c.self.view_is) at c.requires.worker in
    let can = subst (λ (v : Contents g.row.C.Denot g.row.K.Denot). CanFinish g.C.Payload.arity v.control c.args.w c.requires.formed.0 c.requires.formed.1 c.args.outcome) (sym c.self.view_is) c.requires.formed.2 in
    let now = can_here g.C.Payload.arity state.counter state.names.names state.asks.asks state.graph.graph state.running.items c.self.invariant.run c.args.w c.requires.formed.0 c.requires.formed.1 c.args.outcome can
    c.unwrap-task.result c.index.result.now within c.index.ensures c.unwrap-task.ensures in
    let runs = subst (λ k. slice_get state.running.items c.args.w ≡ Some (Some k)) (found_is g.C.Payload.arity state.counter state.names.names state.asks.asks state.graph.graph state.running.items c.self.invariant.run c.args.w c.requires.formed.0 c.requires.formed.1 c.args.outcome can
    c.unwrap-task.result c.index.result.now within c.index.ensures c.unwrap-task.ensures) (runs_it g.C.Payload.arity state.counter state.names.names state.asks.asks state.graph.graph state.running.items c.self.invariant.run c.args.w c.requires.formed.0 c.requires.formed.1 c.args.outcome can) in
    let effect =
    c.take_effect-ready.ensures.effect
    ∙ (λ i. tidied (after_finish (control_of state.counter (c.prepare.ensures.names i) state.asks.asks (c.prepare.ensures.graph i)) c.args.w c.unwrap-task.result
    (bodies_of c.args.outcome) (each (λ (chunk : NewChunk g.row.C.Denot). chunk.children) c.args.outcome.chunks) (c.as_slice-2.ensures i) c.args.outcome.result
    (task_at (c.prepare.ensures.graph i) c.unwrap-task.result))) in
    let places : c.in_ok-places.places ≡ each (λ (chunk : NewChunk g.row.C.Denot). chunk.children) c.args.outcome.chunks =
    c.in_ok-places.ensures.places ∙ ap (each (λ (chunk : NewChunk g.row.C.Denot). chunk.children)) c.as_slice.ensures in
    let same : other ≡ c.requires.formed.0 = run_one g.C.Payload.arity state.counter state.names.names state.asks.asks state.graph.graph state.running.items c.self.invariant.run c.args.w c.requires.formed.0 c.requires.formed.1 c.args.outcome can
    other (subst (λ (v : Contents g.row.C.Denot g.row.K.Denot). RunsTask v.control c.args.w other) (sym c.self.view_is) runs_other) in
    finished_is state.counter state.names state.asks state.graph.graph state.journal state.callers state.running.items state.owed c.self.invariant
    g.C.Payload.arity c.args.w c.unwrap-task.result c.requires.formed.1 c.args.outcome now runs
    c.take_effect-ready.new.counter c.take_effect-ready.new.names c.take_effect-ready.new.asks c.take_effect-ready.new.graph.graph c.push_reserved.new.self
    (Finish c.args.w c.unwrap-task.result c.in_ok-places.places c.args.outcome.tasks c.args.outcome.result) effect c.push_reserved.ensures.events
    (ap (λ ps. Finish c.args.w c.unwrap-task.result ps c.args.outcome.tasks c.args.outcome.result) places)
    ∙ ap (λ v. after_event v (bodies_of c.args.outcome) (finish_of c.args.w c.unwrap-task.result c.args.outcome)) c.self.view_is
    ∙ ap (λ k. after_event c.args.self.now (bodies_of c.args.outcome) (finish_of c.args.w k c.args.outcome)) (sym (same ∙ found_is g.C.Payload.arity state.counter state.names.names state.asks.asks state.graph.graph state.running.items c.self.invariant.run c.args.w c.requires.formed.0 c.requires.formed.1 c.args.outcome can
    c.unwrap-task.result c.index.result.now within c.index.ensures c.unwrap-task.ensures))
