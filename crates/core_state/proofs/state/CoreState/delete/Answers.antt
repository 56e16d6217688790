use Rattle.std.proofs.Common.{◌≡◌, ◌-◌, ◌≤◌, ap, ◌∙◌, arith, Some}
use Rattle.cht_history.specs.declared.event.Event.TheVariants.{Delete}
use Rattle.name_states.specs.States.{IdRecord, id_at}
use Rattle.name_states.specs.declared.holder.Holder.TheVariants.{Caller as ByCaller}
use Rattle.core_state.specs.Contents.{Contents}
use Rattle.core_state.proofs.Naming.{mine_at}
use Rattle.core_state.proofs.Needs.{deleted_kept, owed_for_id}
use Rattle.core_state.proofs.state.CoreState.delete.Goals as goal
use Rattle.core_state.proofs.state.CoreState.delete.Goals.{After-delete}

-- what the identifier is
found : (g : _) (c : After-delete g)
    → (entry : IdRecord) × (id_at c.self.inside.names.names c.args.id.number ≡ Some entry) × (entry.holder ≡ ByCaller c.args.c)
found g c =
    let mine = mine_at g.C.Payload.arity c.args.self.now.control c.args.c c.args.id c.requires.mine in
    (mine.0, ap (λ (v : Contents g.row.C.Denot g.row.K.Denot). id_at v.control.names c.args.id.number) c.self.view_is ∙ mine.1, mine.2)

-- its delete is owed
owed : (g : _) (c : After-delete g) → 1 ≤ c.self.inside.owed
owed g c =
    let one = found g c in
    owed_for_id c.self.inside.counter c.self.inside.names c.self.inside.asks c.self.inside.graph.graph c.self.inside.journal c.self.inside.callers c.self.inside.running.items c.self.inside.owed c.self.invariant
    c.args.id.number c.args.c one.0 one.1 one.2

pub overflow_sub-self : goal.overflow_sub-self
overflow_sub-self g c = let one = owed g c in omega arith

pub push_reserved-requires : goal.push_reserved-requires
push_reserved-requires g c = let one = owed g (goal.at.push_reserved-requires g c).After-delete in let room = c.self.invariant.room in omega arith

pub invariant_of-self : goal.invariant_of-self
invariant_of-self g c =
    let at = (goal.at.invariant_of-self g c).After-delete in
    let one = found g at in
    let some = owed g at in
    deleted_kept c.self.inside.counter c.self.inside.names c.self.inside.asks c.self.inside.graph.graph c.self.inside.journal c.self.inside.callers c.self.inside.running.items c.self.inside.owed c.self.invariant
    c.delete.new.self c.push_reserved.new.self (c.self.inside.owed - 1) c.args.id.number c.args.c one.0 (Delete c.args.c c.args.id) one.1 one.2 c.delete.ensures.names c.delete.ensures.room.workers
    (omega arith) c.push_reserved.ensures.spare c.push_reserved.ensures.events
