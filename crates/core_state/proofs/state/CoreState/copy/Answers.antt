use Rattle.std.proofs.Common.{◌≡◌, ◌+◌, ap, ◌∙◌, length, ◌∷◌, [], ◌++◌}
use Rattle.cht_history.specs.declared.event.Event.TheVariants.{Copy}
use Rattle.name_states.specs.Steps.{copied}
use Rattle.name_states.specs.States.{NameState}
use Rattle.name_states.specs.declared.holder.Holder.TheVariants.{Caller as ByCaller}
use Rattle.core_state.proofs.Naming.{copy_is}
use Rattle.core_state.proofs.Needs.{copied_kept}
use Rattle.core_state.proofs.state.CoreState.copy.Goals as goal

-- what is written
written : (g : _) (c : goal.After-push_reserved g)
    → c.push_reserved.new.self.events ≡ c.self.inside.journal.events ++ Copy c.args.c c.args.id c.unwrap-new.result ∷ []
written g c =
    c.push_reserved.ensures.events ∙ ap (λ events. events ++ Copy c.args.c c.args.id c.unwrap-new.result ∷ []) c.make_room.ensures.events

-- what the call makes of the names
made : (g : _) (c : goal.After-push_reserved g)
    → c.copy-made.new.self.names ≡ copied c.self.inside.names.names c.args.id.number (c.self.inside.counter + 1) (ByCaller c.args.c)
made g c = rw c.unwrap-new.ensures at c.copy-made.ensures.names
    ∙ ap (λ (names : NameState g.row.C.Denot). copied names c.args.id.number c.next-number.result (ByCaller c.args.c)) c.reserve.ensures.names
    ∙ ap (λ n. copied c.self.inside.names.names c.args.id.number n (ByCaller c.args.c)) c.next-number.ensures.value

pub invariant_of-self-2 : goal.invariant_of-self-2
invariant_of-self-2 g c =
    copied_kept c.self.inside.counter c.self.inside.names c.self.inside.asks c.self.inside.graph.graph c.self.inside.journal c.self.inside.callers c.self.inside.running.items c.self.inside.owed c.self.invariant
    c.next-number.new.self c.copy-made.new.self c.push_reserved.new.self c.make_room.new.journal.spare c.args.c c.args.id.number (Copy c.args.c c.args.id c.unwrap-new.result)
    c.next-number.ensures.drawn (made g c) (ap (λ (bodies : _). length bodies) c.copy-made.ensures.bodies ∙ c.reserve.ensures.room.workers) c.in_ok-make_room.ensures.room c.push_reserved.ensures.spare (written g c)

pub returns-clause-event : goal.returns-clause-event
returns-clause-event g c =
    rw (← c.self.view_is)
    (copy_is c.self.inside.counter c.next-number.new.self c.self.inside.names c.copy-made.new.self c.self.inside.asks c.self.inside.graph.graph c.self.inside.journal c.push_reserved.new.self c.self.inside.callers c.self.inside.running.items
    g.C.Payload.arity c.args.c c.args.id c.unwrap-new.result c.next-number.ensures.drawn (made g c) c.rules.ensures.sound c.rules.ensures.reached (written g c))
