use Rattle.std.proofs.Common.{◌-◌, ◌<◌, sym, ap, subst, refl, arith, length, is_some, slice_set, None}
use Rattle.std.proofs.Math.ListN.{length-set}
use Rattle.cht_history.specs.declared.event.Event.TheVariants.{GiveBack}
use Rattle.task_states.specs.States.{task_at}
use Rattle.task_states.specs.Steps.{given_back}
use Rattle.core_state.specs.Contents.{Contents}
use Rattle.core_steps.specs.Conditions.{HangsTogether, RunsTask}
use Rattle.core_state.proofs.Working.{ended_kept, owed_for_run, running_is, ran_is, run_is, run_test, still_is}
use Rattle.core_state.proofs.Finished.{run_here}
use Rattle.core_state.proofs.state.CoreState.give_back.Goals as goal

pub unwrap-task-requires : goal.unwrap-task-requires
unwrap-task-requires g c =
    let state = c.self.inside in
    let within : c.args.w < length state.running.items = rw (← c.self.view_is) at c.requires.worker in
    let runs = subst (λ (v : Contents g.row.C.Denot g.row.K.Denot). RunsTask v.control c.args.w c.requires.runs.0) (sym c.self.view_is) c.requires.runs.1 in
    let there = run_is c.args.w (task_at state.graph.graph c.requires.runs.0) runs in
    ap is_some (run_here state.running.items c.args.w c.requires.runs.0 c.index.result.now within c.index.ensures
    (c.self.invariant.run.runner c.requires.runs.0 c.args.w there.0 there.1 there.2))

pub give_back-requires : goal.give_back-requires
give_back-requires g c =
    let state = c.self.inside in
    let within : c.args.w < length state.running.items = rw (← c.self.view_is) at c.requires.worker in
    let there = c.self.invariant.run.task c.args.w c.unwrap-task.result (ran_is state.running.items c.args.w c.unwrap-task.result c.index.result.now within c.index.ensures c.unwrap-task.ensures) in
    let together = subst (λ (v : Contents g.row.C.Denot g.row.K.Denot). HangsTogether v.control) (sym c.self.view_is) c.requires.together in
    running_is state.graph.graph c.unwrap-task.result c.args.w there.0 there.1 there.2 (λ awaited awaits. together.runs c.args.w c.unwrap-task.result awaited there.0 there.1 there.2 awaits)

pub invariant_of-self : goal.invariant_of-self
invariant_of-self g c =
    let state = c.self.inside in
    let within : c.args.w < length state.running.items = rw (← c.self.view_is) at c.requires.worker in
    let ran = ran_is state.running.items c.args.w c.unwrap-task.result c.index.result.now within c.index.ensures c.unwrap-task.ensures in
    let some = owed_for_run state.counter state.names state.asks state.graph.graph state.journal state.callers state.running.items state.owed c.self.invariant c.args.w c.unwrap-task.result ran in
    ended_kept state.counter state.names state.asks state.graph.graph state.journal state.callers state.running.items state.owed c.self.invariant
    c.give_back.new.self.graph (slice_set state.running.items c.args.w None) c.push_reserved.new.self (state.owed - 1) c.args.w c.unwrap-task.result (GiveBack c.args.w c.unwrap-task.result)
    c.give_back.ensures.graph refl ran (omega arith) c.push_reserved.ensures.spare c.push_reserved.ensures.events

pub returns-clause-task : goal.returns-clause-task
returns-clause-task g c =
    let state = c.self.inside in
    let within : c.args.w < length state.running.items = rw (← c.self.view_is) at c.requires.worker in
    let there = c.self.invariant.run.task c.args.w c.unwrap-task.result (ran_is state.running.items c.args.w c.unwrap-task.result c.index.result.now within c.index.ensures c.unwrap-task.ensures) in
    rw (← c.self.view_is) (run_test c.args.w (task_at state.graph.graph c.unwrap-task.result) there.0 there.1 there.2)

pub returns-clause-event : goal.returns-clause-event
returns-clause-event g c =
    let state = c.self.inside in
    rw (← c.self.view_is)
    (still_is state.counter state.names state.asks state.asks state.graph.graph c.give_back.new.self.graph state.journal c.push_reserved.new.self state.callers state.running.items (slice_set state.running.items c.args.w None)
    g.C.Payload.arity state.asks.asks (given_back state.graph.graph c.unwrap-task.result) (GiveBack c.args.w c.unwrap-task.result) c.rules.ensures.sound c.rules.ensures.reached refl c.give_back.ensures.graph
    (length-set state.running.items c.args.w None) c.push_reserved.ensures.events)
