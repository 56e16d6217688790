use Rattle.std.proofs.Common.{◌≡◌, IfOk, subst, sym}
use Rattle.cht_ids.specs.declared.refs.Ref.TheVariants.{Id as Held}
use Rattle.name_states.specs.States.{IsLive}
use Rattle.name_states.specs.Trees.{tree_of}
use Rattle.name_machine.specs.States.{Holds, tree_named}
use Rattle.core_state.specs.Contents.{Contents}
use Rattle.cht_core.specs.Events.{state}
use Rattle.name_machine.specs.Paths.{content_at}
use Rattle.cht_core.proofs.Found.{held_live, held_tree}
use Rattle.cht_core.proofs.cores.Core.look.Goals as goal

pub look_from-requires-after_bounds : goal.look_from-requires-after_bounds
look_from-requires-after_bounds g c κs within =
    subst (λ (core : Contents g.row.L-Chunk.Denot g.row.L-Kind.Denot). IsLive core.control.names c.args.id) c.self.view_is
    (held_live g.L.Library.meanings g.L.Chunk.Payload.arity c.self.inside.kept.control c.self.invariant.comes.ordered c.args.c c.args.id
    (subst (λ (core : Contents g.row.L-Chunk.Denot g.row.L-Kind.Denot). Holds (state g.L.Library.meanings core) c.args.c c.args.id) (sym c.self.view_is) c.requires.held))

pub returns : goal.returns
returns g c =
    subst (λ tree. IfOk c.look_from.result (λ found. found ≡ content_at tree c.args.path.now))
    (sym (subst (λ (core : Contents g.row.L-Chunk.Denot g.row.L-Kind.Denot). tree_named (state g.L.Library.meanings core) (Held c.args.id) ≡ tree_of core.control.names (Held c.args.id)) c.self.view_is
    (held_tree g.L.Library.meanings g.L.Chunk.Payload.arity c.self.inside.kept.control c.self.invariant.comes.ordered c.args.c c.args.id
    (subst (λ (core : Contents g.row.L-Chunk.Denot g.row.L-Kind.Denot). Holds (state g.L.Library.meanings core) c.args.c c.args.id) (sym c.self.view_is) c.requires.held))))
    c.look_from.ensures
