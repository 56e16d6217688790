use Rattle.cht_core.proofs.Calls.{holds_both}
use Rattle.cht_core.proofs.cores.Core.holds.Goals as goal

pub returns : goal.returns
returns g c =
    holds_both g.L.Library.meanings g.L.Chunk.Payload.arity g.L.Kind.Kinds.name_of g.L.Kind.Kinds.height_of g.met.L.Library.adds_up
    c.self.inside.kept c.args.self.now c.self.inside.kept c.self.view_is c.self.invariant c.holds.result c.args.c c.args.id c.holds.ensures
