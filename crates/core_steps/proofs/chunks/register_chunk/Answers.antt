use Rattle.std.proofs.Common.{sym, subst, arith}
use Rattle.cht_ids.specs.declared.refs.Ref.TheVariants.{Id as Held}
use Rattle.name_states.specs.declared.holder.Holder.TheVariants.{Task as ByTask}
use Rattle.name_states.specs.States.{AreLive}
use Rattle.name_machine.proofs.Orderly.{ref_is_live}
use Rattle.name_machine.proofs.FinishNamesRead.{live_more}
use Rattle.core_steps.proofs.Registering.{present_few, live_taken, live_registered}
use Rattle.core_steps.proofs.chunks.register_chunk.Goals as goal

pub register-id-requires-clause-live : goal.register-id-requires-clause-live
register-id-requires-clause-live g c κs within =
    subst (AreLive c.args.names.now.names) (sym c.leading-children.ensures.value) (live_taken c.args.names.now.names c.args.chunk.children.count c.read_places-held.result c.read_places-held.ensures.live)

pub unwrap-requires : goal.unwrap-requires
unwrap-requires g c =
    let drawn = present_few c.leading-children.result.now in
    let many = c.leading-children.ensures.count in
    let few = c.requires.formed.few in
    let room = c.requires.ids in
    c.register-id.ensures.succeeds c.requires.bodies (omega arith)

pub returns-clause-inputs : goal.returns-clause-inputs
returns-clause-inputs g c =
    live_registered c.args.names.now.names c.register-id.new.self.names c.args.counter.now (ByTask c.args.task) c.args.worker c.args.chunk.body c.leading-children.result.now c.requires.within
    (rw (c.unwrap.ensures) at c.register-id.ensures.names) c.args.inputs.now c.requires.inputs

pub returns-clause-made : goal.returns-clause-made
returns-clause-made g c =
    subst (AreLive c.register-id.new.self.names) (sym c.push_reserved.ensures.items)
    (live_more c.register-id.new.self.names c.args.made.now.items (Held c.unwrap.result)
    (live_registered c.args.names.now.names c.register-id.new.self.names c.args.counter.now (ByTask c.args.task) c.args.worker c.args.chunk.body c.leading-children.result.now c.requires.within
    (rw (c.unwrap.ensures) at c.register-id.ensures.names) c.args.made.now.items c.requires.made)
    (ref_is_live c.register-id.new.self.names (ByTask c.args.task) (Held c.unwrap.result) (rw (c.unwrap.ensures) at c.register-id.ensures.held)))

pub returns-clause-at_most : goal.returns-clause-at_most
returns-clause-at_most g c =
    let drawn = present_few c.leading-children.result.now in
    let many = c.leading-children.ensures.count in
    let few = c.requires.formed.few in
    let now = rw (c.unwrap.ensures) at c.register-id.ensures.drawn in
    omega arith

pub returns-clause-ids : goal.returns-clause-ids
returns-clause-ids g c =
    let drawn = present_few c.leading-children.result.now in
    let many = c.leading-children.ensures.count in
    let few = c.requires.formed.few in
    let room = c.register-id.ensures.room.ids in
    omega arith
