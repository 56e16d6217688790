use Rattle.cht_core.proofs.Calls.{mine_of, copy_called}
use Rattle.cht_core.proofs.cores.Core.copy.Goals as goal

pub copy-requires-clause-mine : goal.copy-requires-clause-mine
copy-requires-clause-mine g c κs within =
    mine_of g.L.Library.meanings g.L.Chunk.Payload.arity g.L.Kind.Kinds.name_of g.L.Kind.Kinds.height_of g.met.L.Library.adds_up
    c.self.inside.kept c.args.self.now c.self.inside.kept c.self.view_is c.self.invariant c.args.c c.args.id c.requires.held

pub invariant_of-self : goal.invariant_of-self
invariant_of-self g c =
    (copy_called g.L.Library.meanings g.L.Chunk.Payload.arity g.L.Kind.Kinds.name_of g.L.Kind.Kinds.height_of g.met.L.Library.adds_up
    c.self.inside.kept c.args.self.now c.copy.new.self c.self.view_is c.self.invariant c.copy.result c.args.c c.args.id c.requires.held c.copy.ensures.id c.copy.ensures.event c.copy.ensures.unchanged).stands

pub returns-clause-event : goal.returns-clause-event
returns-clause-event g c =
    (copy_called g.L.Library.meanings g.L.Chunk.Payload.arity g.L.Kind.Kinds.name_of g.L.Kind.Kinds.height_of g.met.L.Library.adds_up
    c.self.inside.kept c.args.self.now c.copy.new.self c.self.view_is c.self.invariant c.copy.result c.args.c c.args.id c.requires.held c.copy.ensures.id c.copy.ensures.event c.copy.ensures.unchanged).happens
