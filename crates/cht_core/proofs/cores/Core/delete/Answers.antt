use Rattle.cht_core.proofs.Calls.{mine_of, delete_made}
use Rattle.cht_core.proofs.cores.Core.delete.Goals as goal

pub delete-requires-clause-mine : goal.delete-requires-clause-mine
delete-requires-clause-mine g c κs within =
    mine_of g.L.Library.meanings g.L.Chunk.Payload.arity g.L.Kind.Kinds.name_of g.L.Kind.Kinds.height_of g.met.L.Library.adds_up
    c.self.inside.kept c.args.self.now c.self.inside.kept c.self.view_is c.self.invariant c.args.c c.args.id c.requires.held

pub invariant_of-self : goal.invariant_of-self
invariant_of-self g c =
    (delete_made g.L.Library.meanings g.L.Chunk.Payload.arity g.L.Kind.Kinds.name_of g.L.Kind.Kinds.height_of g.met.L.Library.adds_up
    c.self.inside.kept c.args.self.now c.delete.new.self c.self.view_is c.self.invariant c.args.c c.args.id c.requires.held c.delete.ensures).stands

pub returns : goal.returns
returns g c =
    (delete_made g.L.Library.meanings g.L.Chunk.Payload.arity g.L.Kind.Kinds.name_of g.L.Kind.Kinds.height_of g.met.L.Library.adds_up
    c.self.inside.kept c.args.self.now c.delete.new.self c.self.view_is c.self.invariant c.args.c c.args.id c.requires.held c.delete.ensures).happens
