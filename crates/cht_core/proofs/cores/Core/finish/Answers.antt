use Rattle.cht_core.proofs.FinishCalls.{can_finish, finish_made, finish_happens, newly_ready}
use Rattle.cht_core.proofs.cores.Core.finish.Goals as goal

pub finish-requires-clause-formed : goal.finish-requires-clause-formed
finish-requires-clause-formed g c κs within =
    can_finish g.L.Library.meanings g.L.Chunk.Payload.arity g.L.Kind.Kinds.name_of g.L.Kind.Kinds.height_of g.met.L.Library.adds_up
    c.self.inside.kept c.args.self.now c.self.inside.kept c.self.view_is c.self.invariant c.plans_decided.ensures.one_of c.args.w c.args.outcome c.requires.sound

pub invariant_of-self : goal.invariant_of-self
invariant_of-self g c =
    (finish_made g.L.Library.meanings g.L.Chunk.Payload.arity g.L.Kind.Kinds.name_of g.L.Kind.Kinds.height_of g.met.L.Library.adds_up
    c.self.inside.kept c.args.self.now c.finish.new.self c.self.view_is c.self.invariant c.plans_decided.ensures.one_of c.args.w c.args.outcome c.requires.sound
    c.finish.result c.finish.ensures.event c.finish.ensures.unchanged).stands

pub returns-clause-event : goal.returns-clause-event
returns-clause-event g c =
    finish_happens g.L.Library.meanings g.L.Chunk.Payload.arity g.L.Kind.Kinds.name_of g.L.Kind.Kinds.height_of g.met.L.Library.adds_up
    c.self.inside.kept c.args.self.now c.finish.new.self c.self.view_is c.self.invariant c.plans_decided.ensures.one_of c.args.w c.args.outcome c.requires.sound
    c.finish.result c.finish.ensures.event c.finish.ensures.unchanged

pub returns-clause-ready : goal.returns-clause-ready
returns-clause-ready g c = newly_ready g.L.Library.meanings c.self.inside.kept c.args.self.now c.finish.new.self c.self.view_is c.finish.result c.finish.ensures.ready
