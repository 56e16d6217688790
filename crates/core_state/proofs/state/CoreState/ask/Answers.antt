use Rattle.std.proofs.Common.{◌≡◌, ◌<◌, ◌++◌, ◌∷◌, [], false, ap, sym, subst, ◌∙◌, arith, None}
use Rattle.std.specs.Prelude.{map as each}
use Rattle.std.specs.FinMap as map
use Rattle.cht_ids.specs.declared.refs.Ref.{Ref}
use Rattle.cht_history.specs.declared.event.Event.TheVariants.{Ask as AskEvent}
use Rattle.name_states.specs.declared.holder.Holder.TheVariants.{Task as ByTask}
use Rattle.name_states.specs.States.{AreLive}
use Rattle.name_states.specs.Steps.{numbered, linked}
use Rattle.task_states.specs.States.{Input, Known, is_stopped}
use Rattle.task_states.specs.Steps.{added, with_asked}
use Rattle.task_graph.specs.Contents.{inputs_given}
use Rattle.name_machine.specs.States.{has_ask}
use Rattle.name_machine.specs.Standing.{IsOrderly}
use Rattle.core_state.specs.Contents.{Contents}
use Rattle.core_steps.specs.Conditions.{HangsTogether}
use Rattle.core_state.proofs.Naming.{all_live}
use Rattle.core_state.proofs.NewAsk.{known_of, there_now, not_awaited, free_number, no_task, no_ask_yet, asked_kept, asked_is}
use Rattle.core_state.proofs.state.CoreState.ask.Goals as goal

pub hold_inputs-held-requires-clause-live : goal.hold_inputs-held-requires-clause-live
hold_inputs-held-requires-clause-live g c κs inside =
    let same = ap (λ (v : Contents g.row.C.Denot g.row.K.Denot). v.control.names) c.self.view_is in
    subst (λ names. AreLive names c.args.inputs.now) (sym (c.make_ask_room.ensures.names ∙ same))
    (all_live g.C.Payload.arity c.args.self.now.control c.args.c c.args.inputs.now c.requires.mentioned)

pub add-requires-clause-callers : goal.add-requires-clause-callers
add-requires-clause-callers g c =
    (known_of c.make_ask_room.new.graph.graph c.args.c c.given.result.now (numbered c.next-task.new.self c.args.inputs.now) (ap inputs_given c.given.ensures ∙ c.hold_inputs-held.ensures.slots)).0

pub add-requires-clause-numbers : goal.add-requires-clause-numbers
add-requires-clause-numbers g c =
    (known_of c.make_ask_room.new.graph.graph c.args.c c.given.result.now (numbered c.next-task.new.self c.args.inputs.now) (ap inputs_given c.given.ensures ∙ c.hold_inputs-held.ensures.slots)).1

pub asked-requires-clause-there : goal.asked-requires-clause-there
asked-requires-clause-there g c =
    there_now c.make_ask_room.new.graph.graph c.add.new.self.graph c.next-task.result c.args.c c.args.kind (inputs_given c.given.result.now) c.add.ensures.graph

pub asked-requires-clause-awaited : goal.asked-requires-clause-awaited
asked-requires-clause-awaited g c =
    let state = c.self.inside in
    let orderly = subst (λ (v : Contents g.row.C.Denot g.row.K.Denot). IsOrderly g.C.Payload.arity v.control) (sym c.self.view_is) c.requires.orderly in
    let together = subst (λ (v : Contents g.row.C.Denot g.row.K.Denot). HangsTogether v.control) (sym c.self.view_is) c.requires.together in
    let added_is = c.add.ensures.graph
    ∙ ap (λ gr. added gr c.next-task.result c.args.c c.args.kind (inputs_given c.given.result.now)) c.make_ask_room.ensures.graph
    ∙ ap (added state.graph.graph c.next-task.result c.args.c c.args.kind) (ap inputs_given c.given.ensures ∙ c.hold_inputs-held.ensures.slots) in
    not_awaited g.C.Payload.arity (record { drawn = state.counter; names = state.names.names; asks = state.asks.asks; graph = state.graph.graph }) orderly together c.args.c c.args.kind (numbered c.next-task.new.self c.args.inputs.now) c.next-task.result c.next-task.ensures.value
    c.add.new.self.graph added_is

pub asked-requires-clause-free : goal.asked-requires-clause-free
asked-requires-clause-free g c =
    let state = c.self.inside in
    let orderly = subst (λ (v : Contents g.row.C.Denot g.row.K.Denot). IsOrderly g.C.Payload.arity v.control) (sym c.self.view_is) c.requires.orderly in
    let together = subst (λ (v : Contents g.row.C.Denot g.row.K.Denot). HangsTogether v.control) (sym c.self.view_is) c.requires.together in
    let added_is = c.add.ensures.graph
    ∙ ap (λ gr. added gr c.next-task.result c.args.c c.args.kind (inputs_given c.given.result.now)) c.make_ask_room.ensures.graph
    ∙ ap (added state.graph.graph c.next-task.result c.args.c c.args.kind) (ap inputs_given c.given.ensures ∙ c.hold_inputs-held.ensures.slots) in
    let value = c.next-number.ensures.value in
    let drawn = c.hold_inputs-held.ensures.drawn in
    let first = c.next-task.ensures.drawn in
    free_number g.C.Payload.arity (record { drawn = state.counter; names = state.names.names; asks = state.asks.asks; graph = state.graph.graph }) orderly together c.args.c c.args.kind (numbered c.next-task.new.self c.args.inputs.now) c.next-task.result c.next-task.ensures.value
    c.add.new.self.graph c.next-number.result added_is (omega arith)

-- what is written
written : (g : _) (c : goal.After-push_reserved g)
    → c.push_reserved.new.self.events ≡ c.self.inside.journal.events ++ AskEvent c.args.c c.next-task.result c.args.kind c.args.inputs.now ∷ []
written g c =
    c.push_reserved.ensures.events
    ∙ ap (λ events. events ++ AskEvent c.args.c c.next-task.result c.args.kind c.extend.new.self ∷ []) c.make_ask_room.ensures.events
    ∙ ap (λ mentioned. c.self.inside.journal.events ++ AskEvent c.args.c c.next-task.result c.args.kind mentioned ∷ []) (c.in_ok-extend.ensures.ok ∙ ap (λ first. first ++ c.args.inputs.now) c.new-mentioned.ensures)

pub invariant_of-self-2 : goal.invariant_of-self-2
invariant_of-self-2 g c =
    let state = c.self.inside in
    let orderly = subst (λ (v : Contents g.row.C.Denot g.row.K.Denot). IsOrderly g.C.Payload.arity v.control) (sym c.self.view_is) c.requires.orderly in
    let together = subst (λ (v : Contents g.row.C.Denot g.row.K.Denot). HangsTogether v.control) (sym c.self.view_is) c.requires.together in
    let within : c.args.c < state.callers = rw (← c.self.view_is) at c.requires.caller in
    let goes : is_stopped state.graph.graph c.args.c ≡ false = rw (← c.self.view_is) at c.requires.goes_on in
    let task_here : c.next-task.new.self ≡ c.next-task.result = c.next-task.ensures.drawn ∙ sym c.next-task.ensures.value in
    let names_is = c.hold_inputs-held.ensures.names
    ∙ ap (λ n. linked n c.next-task.new.self (ByTask c.next-task.result) c.args.inputs.now) c.make_ask_room.ensures.names
    ∙ ap (λ d. linked state.names.names d (ByTask c.next-task.result) c.args.inputs.now) task_here in
    let asks_is = c.add-2.ensures.asks
    ∙ ap (λ m. map.insert m c.next-task.result (record { caller = c.args.c; number = c.next-number.result; goal = tt; delivered = None })) c.make_ask_room.ensures.asks in
    let graph_is = c.asked.ensures.graph
    ∙ ap (λ gr. with_asked gr c.next-task.result c.next-number.result) (c.add.ensures.graph
    ∙ ap (λ gr. added gr c.next-task.result c.args.c c.args.kind (inputs_given c.given.result.now)) c.make_ask_room.ensures.graph) in
    let value = c.next-number.ensures.value in
    let drawn_then = c.next-number.ensures.drawn in
    let drawn = c.hold_inputs-held.ensures.drawn in
    let first = c.next-task.ensures.drawn in
    let has : has_ask state.asks.asks c.args.c ≡ c.has.result = sym (c.has.ensures ∙ ap (λ m. has_ask m c.args.c) c.make_ask_room.ensures.asks) in
    asked_kept state.counter state.names state.asks state.graph.graph state.journal state.callers state.running.items state.owed c.self.invariant
    c.args.c c.next-task.result c.next-number.result c.args.kind (inputs_given c.given.result.now) within goes
    (no_task g.C.Payload.arity (record { drawn = state.counter; names = state.names.names; asks = state.asks.asks; graph = state.graph.graph }) orderly together c.args.c c.args.kind [] c.next-task.result c.next-task.ensures.value)
    (no_ask_yet g.C.Payload.arity (record { drawn = state.counter; names = state.names.names; asks = state.asks.asks; graph = state.graph.graph }) orderly together c.args.c c.args.kind [] c.next-task.result c.next-task.ensures.value)
    c.has.result c.next-number.new.self c.hold_inputs-held.new.names c.add-2.new.self c.asked.new.self.graph c.push_reserved.new.self c.make_ask_room.new.journal.spare c.due_for_ask-more.result c.args.inputs.now
    (AskEvent c.args.c c.next-task.result c.args.kind c.args.inputs.now) has c.due_for_ask-more.ensures c.requires.few (omega arith) names_is
    (c.hold_inputs-held.ensures.stores ∙ c.make_ask_room.ensures.stores) asks_is (c.add-2.ensures.callers ∙ c.make_ask_room.ensures.callers) graph_is
    c.in_ok-make_ask_room.ensures.journal c.push_reserved.ensures.spare (written g c)

pub returns-clause-event : goal.returns-clause-event
returns-clause-event g c =
    let state = c.self.inside in
    let task_here : c.next-task.new.self ≡ c.next-task.result = c.next-task.ensures.drawn ∙ sym c.next-task.ensures.value in
    let names_is = c.hold_inputs-held.ensures.names
    ∙ ap (λ n. linked n c.next-task.new.self (ByTask c.next-task.result) c.args.inputs.now) c.make_ask_room.ensures.names
    ∙ ap (λ d. linked state.names.names d (ByTask c.next-task.result) c.args.inputs.now) task_here in
    let asks_is = c.add-2.ensures.asks
    ∙ ap (λ m. map.insert m c.next-task.result (record { caller = c.args.c; number = c.next-number.result; goal = tt; delivered = None })) c.make_ask_room.ensures.asks in
    let graph_is = c.asked.ensures.graph
    ∙ ap (λ gr. with_asked gr c.next-task.result c.next-number.result) (c.add.ensures.graph
    ∙ ap (λ gr. added gr c.next-task.result c.args.c c.args.kind (inputs_given c.given.result.now)) c.make_ask_room.ensures.graph) in
    let value = c.next-number.ensures.value in
    let drawn_then = c.next-number.ensures.drawn in
    let drawn = c.hold_inputs-held.ensures.drawn in
    let first = c.next-task.ensures.drawn in
    rw (← c.self.view_is)
    (asked_is state.counter c.next-number.new.self state.names c.hold_inputs-held.new.names state.asks c.add-2.new.self state.graph.graph c.asked.new.self.graph state.journal c.push_reserved.new.self state.callers state.running.items
    g.C.Payload.arity c.args.c c.next-task.result c.next-number.result c.args.kind c.args.inputs.now (inputs_given c.given.result.now) c.next-task.ensures.value (omega arith) (omega arith)
    names_is c.rules.ensures.sound c.rules.ensures.reached asks_is
    (ap inputs_given c.given.ensures ∙ c.hold_inputs-held.ensures.slots ∙ ap (λ d. each {A = Ref} {B = Input Ref} Known (numbered d c.args.inputs.now)) task_here) graph_is (written g c))
