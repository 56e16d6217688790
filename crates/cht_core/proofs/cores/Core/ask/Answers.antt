use Rattle.cht_core.proofs.Calls.{mentioned, ask_called}
use Rattle.cht_core.proofs.Together.{hangs_together}
use Rattle.cht_core.proofs.cores.Core.ask.Goals as goal

pub ask-requires-clause-mentioned : goal.ask-requires-clause-mentioned
ask-requires-clause-mentioned g c κs within =
    mentioned g.L.Library.meanings g.L.Chunk.Payload.arity g.L.Kind.Kinds.name_of g.L.Kind.Kinds.height_of g.met.L.Library.adds_up
    c.self.inside.kept c.args.self.now c.self.inside.kept c.self.view_is c.self.invariant c.args.c c.args.inputs.now c.requires.held

pub ask-requires-clause-together : goal.ask-requires-clause-together
ask-requires-clause-together g c κs within = hangs_together g.L.Library.meanings c.self.inside.kept.control c.self.invariant.facts

pub invariant_of-self : goal.invariant_of-self
invariant_of-self g c =
    (ask_called g.L.Library.meanings g.L.Chunk.Payload.arity g.L.Kind.Kinds.name_of g.L.Kind.Kinds.height_of g.met.L.Library.adds_up
    c.self.inside.kept c.args.self.now c.ask.new.self c.self.view_is c.self.invariant c.ask.result c.args.c c.args.kind c.args.inputs.now c.requires.goes_on c.requires.held
    c.requires.defined c.ask.ensures.task c.ask.ensures.event c.ask.ensures.unchanged).stands

pub returns-clause-event : goal.returns-clause-event
returns-clause-event g c =
    (ask_called g.L.Library.meanings g.L.Chunk.Payload.arity g.L.Kind.Kinds.name_of g.L.Kind.Kinds.height_of g.met.L.Library.adds_up
    c.self.inside.kept c.args.self.now c.ask.new.self c.self.view_is c.self.invariant c.ask.result c.args.c c.args.kind c.args.inputs.now c.requires.goes_on c.requires.held
    c.requires.defined c.ask.ensures.task c.ask.ensures.event c.ask.ensures.unchanged).happens
