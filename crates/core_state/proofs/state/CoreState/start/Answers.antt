use Rattle.std.proofs.Common.{◌≡◌, ◌<◌, ap, ◌∙◌, refl, length, get_or, slice_set, ◌∷◌, [], ◌++◌, None, Some}
use Rattle.std.specs.Prelude.{slice_get}
use Rattle.std.proofs.lemmas.Option.{slice_get-get_or}
use Rattle.std.proofs.Math.ListN.{length-set}
use Rattle.cht_history.specs.declared.event.Event.TheVariants.{Start}
use Rattle.task_states.specs.Steps.{started}
use Rattle.core_state.proofs.Working.{started_kept, idle_to, still_is}
use Rattle.core_state.proofs.state.CoreState.start.Goals as goal

pub invariant_of-self-2 : goal.invariant_of-self-2
invariant_of-self-2 g c =
    let state = c.self.inside in
    let within : c.args.w < length state.running.items = rw (← c.self.view_is) at c.requires.worker in
    let at : slice_get state.running.items c.args.w ≡ Some (get_or state.running.items c.args.w None) = slice_get-get_or state.running.items c.args.w None within in
    let none : get_or state.running.items c.args.w None ≡ None =
    idle_to g.C.Payload.arity (record { drawn = state.counter; names = state.names.names; asks = state.asks.asks; graph = state.graph.graph }) state.running.items c.self.invariant.run c.args.w _ at
    (rw (← c.self.view_is) at c.requires.idle) in
    started_kept state.counter state.names state.asks state.graph.graph state.journal state.callers state.running.items state.owed c.self.invariant
    c.start.new.self.graph (slice_set state.running.items c.args.w (Some c.args.task)) c.push_reserved.new.self c.make_room.new.journal.spare c.args.w c.args.task (Start c.args.w c.args.task)
    c.start.ensures.graph refl (rw (← c.self.view_is) at c.requires.ready) (at ∙ ap Some none) c.in_ok-make_room.ensures.room c.push_reserved.ensures.spare
    (c.push_reserved.ensures.events ∙ ap (λ events. events ++ Start c.args.w c.args.task ∷ []) c.make_room.ensures.events)

pub returns-clause-event : goal.returns-clause-event
returns-clause-event g c =
    let state = c.self.inside in
    rw (← c.self.view_is)
    (still_is state.counter state.names state.asks state.asks state.graph.graph c.start.new.self.graph state.journal c.push_reserved.new.self state.callers state.running.items (slice_set state.running.items c.args.w (Some c.args.task))
    g.C.Payload.arity state.asks.asks (started state.graph.graph c.args.task c.args.w) (Start c.args.w c.args.task) c.rules.ensures.sound c.rules.ensures.reached refl c.start.ensures.graph
    (length-set state.running.items c.args.w (Some c.args.task)) (c.push_reserved.ensures.events ∙ ap (λ events. events ++ Start c.args.w c.args.task ∷ []) c.make_room.ensures.events))
