use Rattle.std.proofs.Common.{◌≡◌, ◌≤◌, ◌<◌, ◌-◌, cond, sym, subst, refl, ◌∙◌, arith, true}
use Rattle.task_states.specs.States.{running}
use Rattle.name_machine.specs.States.{has_ask}
use Rattle.name_machine.specs.Standing.{IsOrderly}
use Rattle.core_steps.specs.Conditions.{HangsTogether}
use Rattle.core_state.specs.Contents.{Contents}
use Rattle.core_state.proofs.GivenUp.{tasks_hold, outputs_hold, names_left, owed_for_rest, owed_for_abandon, one_owed, abandoned_kept, abandoned_is}
use Rattle.core_state.proofs.state.CoreState.abandon.Goals as goal

pub end_tasks-requires-clause-held : goal.end_tasks-requires-clause-held
end_tasks-requires-clause-held g c κs within =
    let state = c.self.inside in
    let orderly = subst (λ (v : Contents g.row.C.Denot g.row.K.Denot). IsOrderly g.C.Payload.arity v.control) (sym c.self.view_is) c.requires.orderly in
    λ task own. tasks_hold g.C.Payload.arity (record { drawn = state.counter; names = state.names.names; asks = state.asks.asks; graph = state.graph.graph }) orderly c.args.c task

pub end_asks-left-requires-clause-held : goal.end_asks-left-requires-clause-held
end_asks-left-requires-clause-held g c κs within =
    let state = c.self.inside in
    let orderly = subst (λ (v : Contents g.row.C.Denot g.row.K.Denot). IsOrderly g.C.Payload.arity v.control) (sym c.self.view_is) c.requires.orderly in
    let together = subst (λ (v : Contents g.row.C.Denot g.row.K.Denot). HangsTogether v.control) (sym c.self.view_is) c.requires.together in
    outputs_hold g.C.Payload.arity (record { drawn = state.counter; names = state.names.names; asks = state.asks.asks; graph = state.graph.graph }) orderly c.args.c
    c.end_tasks.new.names.names together c.end_tasks.ensures.names

pub end_asks-left-requires-clause-owed : goal.end_asks-left-requires-clause-owed
end_asks-left-requires-clause-owed g c κs within =
    let state = c.self.inside in
    owed_for_rest state.counter state.names state.asks state.graph.graph state.journal state.callers state.running.items state.owed c.self.invariant c.args.c
    c.end_tasks.new.names.names c.end_tasks.ensures.names

pub overflow_sub-self : goal.overflow_sub-self
overflow_sub-self g c =
    let state = c.self.inside in
    let within : c.args.c < state.callers = rw (← c.self.view_is) at c.requires.caller in
    let has : has_ask state.asks.asks c.args.c ≡ true = rw (← c.self.view_is) at c.requires.asked in
    subst (λ n. n ≤ c.end_asks-left.result) (sym c.due_for_abandon-due.ensures)
    (owed_for_abandon state.counter state.names state.asks state.graph.graph state.journal state.callers state.running.items state.owed c.self.invariant c.args.c within has
    c.is_stopped.result (sym c.is_stopped.ensures) c.end_tasks.new.names.names c.end_asks-left.new.names.names c.end_asks-left.new.asks.asks c.end_asks-left.result
    c.end_tasks.ensures.names c.end_asks-left.ensures.asks c.end_asks-left.ensures.owed)

pub push_reserved-requires : goal.push_reserved-requires
push_reserved-requires g c =
    let state = c.self.inside in
    let within : c.args.c < state.callers = rw (← c.self.view_is) at c.requires.caller in
    let has : has_ask state.asks.asks c.args.c ≡ true = rw (← c.self.view_is) at c.requires.asked in
    let one = one_owed state.counter state.names state.asks state.graph.graph state.journal state.callers state.running.items state.owed c.self.invariant c.args.c within has
    c.is_stopped.result (sym c.is_stopped.ensures) c.end_tasks.new.names.names c.end_asks-left.new.names.names c.end_asks-left.new.asks.asks c.end_asks-left.result
    c.end_tasks.ensures.names c.end_asks-left.ensures.asks c.end_asks-left.ensures.owed in
    let room = c.self.invariant.room in
    omega arith

pub invariant_of-self : goal.invariant_of-self
invariant_of-self g c =
    let state = c.self.inside in
    let within : c.args.c < state.callers = rw (← c.self.view_is) at c.requires.caller in
    let has : has_ask state.asks.asks c.args.c ≡ true = rw (← c.self.view_is) at c.requires.asked in
    let idle : running state.graph.graph c.args.c ≡ 0 = rw (← c.self.view_is) at c.requires.idle in
    let together = subst (λ (v : Contents g.row.C.Denot g.row.K.Denot). HangsTogether v.control) (sym c.self.view_is) c.requires.together in
    let low = owed_for_abandon state.counter state.names state.asks state.graph.graph state.journal state.callers state.running.items state.owed c.self.invariant c.args.c within has
    c.is_stopped.result (sym c.is_stopped.ensures) c.end_tasks.new.names.names c.end_asks-left.new.names.names c.end_asks-left.new.asks.asks c.end_asks-left.result
    c.end_tasks.ensures.names c.end_asks-left.ensures.asks c.end_asks-left.ensures.owed in
    let due : c.due_for_abandon-due.result ≡ cond c.is_stopped.result 1 2 = c.due_for_abandon-due.ensures in
    abandoned_kept state.counter state.names state.asks state.graph.graph state.journal state.callers state.running.items state.owed c.self.invariant c.args.c within has
    c.is_stopped.result (sym c.is_stopped.ensures) c.end_tasks.new.names.names c.end_asks-left.new.names.names c.end_asks-left.new.asks.asks c.end_asks-left.result
    c.end_tasks.ensures.names c.end_asks-left.ensures.asks c.end_asks-left.ensures.owed
    c.end_asks-left.new.names c.end_asks-left.new.asks c.abandon.new.self.graph c.push_reserved.new.self (c.end_asks-left.result - c.due_for_abandon-due.result)
    idle together refl (c.end_asks-left.ensures.stores ∙ c.end_tasks.ensures.stores) refl c.end_asks-left.ensures.callers
    c.abandon.ensures.graph c.end_asks-left.ensures.less (omega arith) c.push_reserved.ensures.spare c.push_reserved.ensures.events

pub returns : goal.returns
returns g c =
    let state = c.self.inside in
    let orderly = subst (λ (v : Contents g.row.C.Denot g.row.K.Denot). IsOrderly g.C.Payload.arity v.control) (sym c.self.view_is) c.requires.orderly in
    rw (← c.self.view_is)
    (abandoned_is state.counter state.names c.end_asks-left.new.names state.asks c.end_asks-left.new.asks state.graph.graph c.abandon.new.self.graph state.journal c.push_reserved.new.self state.callers state.running.items
    c.args.c
    (names_left g.C.Payload.arity (record { drawn = state.counter; names = state.names.names; asks = state.asks.asks; graph = state.graph.graph }) orderly c.args.c
    c.end_tasks.new.names.names c.end_asks-left.new.names.names c.end_tasks.ensures.names c.end_asks-left.ensures.names)
    c.end_asks-left.ensures.asks c.abandon.ensures.graph c.push_reserved.ensures.events)
