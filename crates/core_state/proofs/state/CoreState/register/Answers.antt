use Rattle.std.proofs.Common.{◌≡◌, ◌≤◌, sym, ap, subst, ◌∙◌, arith, length, ◌∷◌, [], ◌++◌}
use Rattle.name_states.specs.States.{AreLive}
use Rattle.cht_history.specs.declared.event.Event.TheVariants.{Register}
use Rattle.core_state.specs.Contents.{Contents}
use Rattle.core_state.proofs.Naming.{all_live, register_is}
use Rattle.core_state.proofs.Needs.{registered_kept}
use Rattle.core_state.proofs.state.CoreState.register.Goals as goal

pub register-requires-clause-live : goal.register-requires-clause-live
register-requires-clause-live g c κs within =
    let same = ap (λ (v : Contents g.row.C.Denot g.row.K.Denot). v.control.names) c.self.view_is in
    subst (λ names. AreLive names c.args.children.now) (sym same) (all_live g.C.Payload.arity c.args.self.now.control c.args.c c.args.children.now c.requires.mentioned)

-- what is written
written : (g : _) (c : goal.After-push_reserved g)
    → c.push_reserved.new.self.events ≡ c.self.inside.journal.events ++ Register c.args.c c.in_ok-id.id c.args.children.now ∷ []
written g c =
    c.push_reserved.ensures.events
    ∙ ap (λ events. events ++ Register c.args.c c.in_ok-id.id c.extend.new.self ∷ []) c.make_room.ensures.events
    ∙ ap (λ mentioned. c.self.inside.journal.events ++ Register c.args.c c.in_ok-id.id mentioned ∷ []) (c.in_ok-extend.ensures.ok ∙ ap (λ first. first ++ c.args.children.now) c.new-mentioned.ensures)

pub invariant_of-self-2 : goal.invariant_of-self-2
invariant_of-self-2 g c =
    let few : length c.args.children.now ≤ 4 = omega (arith, c.requires.arity, c.few_children.ensures) in
    registered_kept c.self.inside.counter c.self.inside.names c.self.inside.asks c.self.inside.graph.graph c.self.inside.journal c.self.inside.callers c.self.inside.running.items c.self.inside.owed c.self.invariant
    c.register.new.counter c.register.new.self c.push_reserved.new.self c.make_room.new.journal.spare c.args.c 0 c.args.body c.args.children.now (Register c.args.c c.in_ok-id.id c.args.children.now)
    few c.in_ok-id.ensures.drawn c.in_ok-id.ensures.names c.register.ensures.room.workers c.in_ok-make_room.ensures.room c.push_reserved.ensures.spare (written g c)

pub returns-clause-event : goal.returns-clause-event
returns-clause-event g c =
    rw (← c.self.view_is)
    (register_is c.self.inside.counter c.register.new.counter c.self.inside.names c.register.new.self c.self.inside.asks c.self.inside.graph.graph c.self.inside.journal c.push_reserved.new.self c.self.inside.callers c.self.inside.running.items
    g.C.Payload.arity c.args.c c.args.body c.in_ok-id.id c.args.children.now c.in_ok-id.ensures.drawn c.in_ok-id.ensures.names c.rules.ensures.sound c.rules.ensures.reached (written g c))
