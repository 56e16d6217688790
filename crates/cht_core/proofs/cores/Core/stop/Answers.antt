use Rattle.std.proofs.Common.{sym}
use Rattle.cht_core.proofs.AskCalls.{stop_answer, stop_none}
use Rattle.cht_core.proofs.Calls.{stop_made}
use Rattle.cht_core.proofs.cores.Core.stop.Goals as goal

pub invariant_of-self : goal.invariant_of-self
invariant_of-self g c =
    (stop_made g.L.Library.meanings g.L.Chunk.Payload.arity g.L.Kind.Kinds.name_of g.L.Kind.Kinds.height_of g.met.L.Library.adds_up
    c.self.inside.kept c.args.self.now c.stop.new.self c.self.view_is c.self.invariant c.args.c (sym c.if-asked.ensures) (sym c.if-stopped.ensures) c.stop.ensures).stands

pub returns-then-asked : goal.returns-then-asked
returns-then-asked g c =
    stop_answer g.L.Library.meanings g.L.Chunk.Payload.arity g.L.Kind.Kinds.name_of g.L.Kind.Kinds.height_of g.met.L.Library.adds_up
    c.self.inside.kept c.args.self.now c.stop.new.self c.self.view_is c.self.invariant c.args.c (sym c.if-asked.ensures) (sym c.if-stopped.ensures) c.stop.ensures

pub returns-else-asked : goal.returns-else-asked
returns-else-asked g c =
    stop_none g.L.Library.meanings g.L.Chunk.Payload.arity g.L.Kind.Kinds.name_of g.L.Kind.Kinds.height_of g.met.L.Library.adds_up
    c.self.inside.kept c.args.self.now c.self.inside.kept c.self.view_is c.self.invariant c.args.c (sym c.if-asked.ensures)
