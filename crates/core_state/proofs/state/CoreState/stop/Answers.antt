use Rattle.std.proofs.Common.{◌≡◌, ◌-◌, ◌<◌, refl, arith, true, false}
use Rattle.cht_history.specs.declared.event.Event.TheVariants.{Stop}
use Rattle.task_states.specs.States.{is_stopped}
use Rattle.task_states.specs.Steps.{with_stopped}
use Rattle.name_machine.specs.States.{has_ask}
use Rattle.core_state.proofs.Working.{still_is}
use Rattle.core_state.proofs.Stopped.{stopped_kept, owed_for_stop}
use Rattle.core_state.proofs.state.CoreState.stop.Goals as goal

pub overflow_sub-self : goal.overflow_sub-self
overflow_sub-self g c =
    let state = c.self.inside in
    let within : c.args.c < state.callers = rw (← c.self.view_is) at c.requires.caller in
    let has : has_ask state.asks.asks c.args.c ≡ true = rw (← c.self.view_is) at c.requires.asked in
    let goes : is_stopped state.graph.graph c.args.c ≡ false = rw (← c.self.view_is) at c.requires.goes_on in
    let some = owed_for_stop state.counter state.names state.asks state.graph.graph state.journal state.callers state.running.items state.owed c.self.invariant c.args.c within has goes in
    omega arith

pub push_reserved-requires : goal.push_reserved-requires
push_reserved-requires g c =
    let state = c.self.inside in
    let within : c.args.c < state.callers = rw (← c.self.view_is) at c.requires.caller in
    let has : has_ask state.asks.asks c.args.c ≡ true = rw (← c.self.view_is) at c.requires.asked in
    let goes : is_stopped state.graph.graph c.args.c ≡ false = rw (← c.self.view_is) at c.requires.goes_on in
    let some = owed_for_stop state.counter state.names state.asks state.graph.graph state.journal state.callers state.running.items state.owed c.self.invariant c.args.c within has goes in
    let room = c.self.invariant.room in
    omega arith

pub invariant_of-self : goal.invariant_of-self
invariant_of-self g c =
    let state = c.self.inside in
    let within : c.args.c < state.callers = rw (← c.self.view_is) at c.requires.caller in
    let has : has_ask state.asks.asks c.args.c ≡ true = rw (← c.self.view_is) at c.requires.asked in
    let goes : is_stopped state.graph.graph c.args.c ≡ false = rw (← c.self.view_is) at c.requires.goes_on in
    let some = owed_for_stop state.counter state.names state.asks state.graph.graph state.journal state.callers state.running.items state.owed c.self.invariant c.args.c within has goes in
    stopped_kept state.counter state.names state.asks state.graph.graph state.journal state.callers state.running.items state.owed c.self.invariant c.args.c within has goes
    c.stop.new.self.graph c.push_reserved.new.self (state.owed - 1) (Stop c.args.c) c.stop.ensures.graph (omega arith) c.push_reserved.ensures.spare c.push_reserved.ensures.events

pub returns : goal.returns
returns g c =
    let state = c.self.inside in
    rw (← c.self.view_is)
    (still_is state.counter state.names state.asks state.asks state.graph.graph c.stop.new.self.graph state.journal c.push_reserved.new.self state.callers state.running.items state.running.items
    g.C.Payload.arity state.asks.asks (with_stopped state.graph.graph c.args.c) (Stop c.args.c) c.rules.ensures.sound c.rules.ensures.reached refl c.stop.ensures.graph refl c.push_reserved.ensures.events)
