use Rattle.std.proofs.Common.{◌≤◌, subst, sym, ap, ◌∙◌}
use Rattle.cht_core.proofs.Calls.{mentioned, register_called, register_state}
use Rattle.cht_core.proofs.cores.Core.register.Goals as goal

pub register-requires-clause-mentioned : goal.register-requires-clause-mentioned
register-requires-clause-mentioned g c κs within =
    mentioned g.L.Library.meanings g.L.Chunk.Payload.arity g.L.Kind.Kinds.name_of g.L.Kind.Kinds.height_of g.met.L.Library.adds_up
    c.self.inside.kept c.args.self.now c.self.inside.kept c.self.view_is c.self.invariant c.args.c c.args.children.now c.requires.held

pub invariant_of-self : goal.invariant_of-self
invariant_of-self g c =
    (register_called g.L.Library.meanings g.L.Chunk.Payload.arity g.L.Kind.Kinds.name_of g.L.Kind.Kinds.height_of g.met.L.Library.adds_up
    c.self.inside.kept c.args.self.now c.register.new.self c.self.view_is c.self.invariant c.register.result c.args.c c.args.body c.args.children.now c.requires.held
    c.requires.all_children (subst (λ n. n ≤ 4) (c.arity-arity.ensures.value ∙ ap g.L.Chunk.Payload.arity c.content.ensures.whole ∙ sym c.requires.all_children) c.arity-arity.ensures.few) c.register.ensures.id c.register.ensures.event c.register.ensures.unchanged).stands

pub returns-clause-event : goal.returns-clause-event
returns-clause-event g c =
    (register_called g.L.Library.meanings g.L.Chunk.Payload.arity g.L.Kind.Kinds.name_of g.L.Kind.Kinds.height_of g.met.L.Library.adds_up
    c.self.inside.kept c.args.self.now c.register.new.self c.self.view_is c.self.invariant c.register.result c.args.c c.args.body c.args.children.now c.requires.held
    c.requires.all_children (subst (λ n. n ≤ 4) (c.arity-arity.ensures.value ∙ ap g.L.Chunk.Payload.arity c.content.ensures.whole ∙ sym c.requires.all_children) c.arity-arity.ensures.few) c.register.ensures.id c.register.ensures.event c.register.ensures.unchanged).happens

pub returns-clause-state : goal.returns-clause-state
returns-clause-state g c =
    register_state g.L.Library.meanings g.L.Chunk.Payload.arity g.L.Kind.Kinds.name_of g.L.Kind.Kinds.height_of g.met.L.Library.adds_up
    c.self.inside.kept c.args.self.now c.register.new.self c.self.view_is c.self.invariant c.register.result c.args.c c.args.body c.args.children.now c.requires.held
    c.requires.all_children (subst (λ n. n ≤ 4) (c.arity-arity.ensures.value ∙ ap g.L.Chunk.Payload.arity c.content.ensures.whole ∙ sym c.requires.all_children) c.arity-arity.ensures.few) c.register.ensures.id c.register.ensures.event
