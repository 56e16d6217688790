use Rattle.std.proofs.Common.{◌≡◌, ◌≤◌, ◌<◌, ◌-◌, cond, false, ap, sym, subst, ◌∙◌, refl, arith, length, is_some, Some}
use Rattle.std.specs.FinMap as map
use Rattle.cht_history.specs.declared.event.Event.TheVariants.{Collect}
use Rattle.task_states.specs.States.{is_stopped}
use Rattle.name_machine.specs.States.{has_ask}
use Rattle.core_state.specs.Contents.{Contents}
use Rattle.core_steps.specs.Conditions.{IsDelivered}
use Rattle.core_state.proofs.Working.{still_is}
use Rattle.core_state.proofs.Collected.{output_is, owed_for_collect, one_owed, collected_kept}
use Rattle.core_state.proofs.state.CoreState.collect.Goals as goal

pub take-requires : goal.take-requires
take-requires g c =
    let state = c.self.inside in
    let d = subst (λ (v : Contents g.row.C.Denot g.row.K.Denot). IsDelivered v.control c.args.c c.args.task) (sym c.self.view_is) c.requires.delivered in
    ap is_some d.there

pub unwrap-got-requires : goal.unwrap-got-requires
unwrap-got-requires g c =
    let state = c.self.inside in
    let d = subst (λ (v : Contents g.row.C.Denot g.row.K.Denot). IsDelivered v.control c.args.c c.args.task) (sym c.self.view_is) c.requires.delivered in
    ap is_some (c.take.ensures.delivered d.ask d.there) ∙ d.delivered

pub has-requires : goal.has-requires
has-requires g c =
    let within : c.args.c < c.self.inside.callers = rw (← c.self.view_is) at c.requires.caller in
    let long : length c.take.new.self.rooms ≡ c.self.inside.callers = c.take.ensures.callers ∙ c.self.invariant.lists in
    omega arith

pub overflow_sub-self : goal.overflow_sub-self
overflow_sub-self g c =
    let state = c.self.inside in
    let d = subst (λ (v : Contents g.row.C.Denot g.row.K.Denot). IsDelivered v.control c.args.c c.args.task) (sym c.self.view_is) c.requires.delivered in
    let got : d.ask.delivered ≡ Some c.unwrap-got.result = sym (c.take.ensures.delivered d.ask d.there) ∙ c.unwrap-got.ensures in
    let within : c.args.c < state.callers = rw (← c.self.view_is) at c.requires.caller in
    let goes : is_stopped state.graph.graph c.args.c ≡ false = rw (← c.self.view_is) at c.requires.goes_on in
    let has : has_ask (map.remove state.asks.asks c.args.task) c.args.c ≡ c.has.result = sym (c.has.ensures ∙ ap (λ m. has_ask m c.args.c) c.take.ensures.asks) in
    let low : cond c.has.result 1 3 ≤ state.owed = owed_for_collect state.counter state.names state.asks state.graph.graph state.journal state.callers state.running.items state.owed c.self.invariant c.args.c c.args.task d.ask c.unwrap-got.result within goes d.there d.own got c.has.result has in
    subst (λ n. n ≤ state.owed) (sym c.due_for_collect.ensures) low

pub push_reserved-requires : goal.push_reserved-requires
push_reserved-requires g c =
    let state = c.self.inside in
    let d = subst (λ (v : Contents g.row.C.Denot g.row.K.Denot). IsDelivered v.control c.args.c c.args.task) (sym c.self.view_is) c.requires.delivered in
    let got : d.ask.delivered ≡ Some c.unwrap-got.result = sym (c.take.ensures.delivered d.ask d.there) ∙ c.unwrap-got.ensures in
    let within : c.args.c < state.callers = rw (← c.self.view_is) at c.requires.caller in
    let goes : is_stopped state.graph.graph c.args.c ≡ false = rw (← c.self.view_is) at c.requires.goes_on in
    let has : has_ask (map.remove state.asks.asks c.args.task) c.args.c ≡ c.has.result = sym (c.has.ensures ∙ ap (λ m. has_ask m c.args.c) c.take.ensures.asks) in
    let one = one_owed state.counter state.names state.asks state.graph.graph state.journal state.callers state.running.items state.owed c.self.invariant c.args.c c.args.task d.ask c.unwrap-got.result within goes d.there d.own got c.has.result has in
    let room = c.self.invariant.room in
    omega arith

pub invariant_of-self : goal.invariant_of-self
invariant_of-self g c =
    let state = c.self.inside in
    let d = subst (λ (v : Contents g.row.C.Denot g.row.K.Denot). IsDelivered v.control c.args.c c.args.task) (sym c.self.view_is) c.requires.delivered in
    let got : d.ask.delivered ≡ Some c.unwrap-got.result = sym (c.take.ensures.delivered d.ask d.there) ∙ c.unwrap-got.ensures in
    let within : c.args.c < state.callers = rw (← c.self.view_is) at c.requires.caller in
    let goes : is_stopped state.graph.graph c.args.c ≡ false = rw (← c.self.view_is) at c.requires.goes_on in
    let has : has_ask (map.remove state.asks.asks c.args.task) c.args.c ≡ c.has.result = sym (c.has.ensures ∙ ap (λ m. has_ask m c.args.c) c.take.ensures.asks) in
    let low : cond c.has.result 1 3 ≤ state.owed = owed_for_collect state.counter state.names state.asks state.graph.graph state.journal state.callers state.running.items state.owed c.self.invariant c.args.c c.args.task d.ask c.unwrap-got.result within goes d.there d.own got c.has.result has in
    let due : c.due_for_collect.result ≡ cond c.has.result 1 3 = c.due_for_collect.ensures in
    collected_kept state.counter state.names state.asks state.graph.graph state.journal state.callers state.running.items state.owed c.self.invariant c.args.c c.args.task d.ask c.unwrap-got.result within goes d.there d.own got
    c.has.result c.take.new.self c.push_reserved.new.self (state.owed - c.due_for_collect.result) (Collect c.args.c c.args.task c.unwrap-got.result) has c.take.ensures.asks c.take.ensures.callers
    (omega arith) c.push_reserved.ensures.spare c.push_reserved.ensures.events

pub returns-clause-output : goal.returns-clause-output
returns-clause-output g c =
    let state = c.self.inside in
    let d = subst (λ (v : Contents g.row.C.Denot g.row.K.Denot). IsDelivered v.control c.args.c c.args.task) (sym c.self.view_is) c.requires.delivered in
    let got : d.ask.delivered ≡ Some c.unwrap-got.result = sym (c.take.ensures.delivered d.ask d.there) ∙ c.unwrap-got.ensures in
    rw (← c.self.view_is) (output_is c.args.c c.unwrap-got.result (map.get state.asks.asks c.args.task) d.ask d.there d.own got)

pub returns-clause-event : goal.returns-clause-event
returns-clause-event g c =
    let state = c.self.inside in
    rw (← c.self.view_is)
    (still_is state.counter state.names state.asks c.take.new.self state.graph.graph state.graph.graph state.journal c.push_reserved.new.self state.callers state.running.items state.running.items
    g.C.Payload.arity (map.remove state.asks.asks c.args.task) state.graph.graph (Collect c.args.c c.args.task c.unwrap-got.result) c.rules.ensures.sound c.rules.ensures.reached c.take.ensures.asks refl refl c.push_reserved.ensures.events)
