use Rattle.cht_plain.proofs.Mentions.{mention_all_so}
use Rattle.cht_plain.proofs.Own.{register_so, register_rests}
use Rattle.cht_plain.proofs.calls.register.Goals as goal

pub register-requires-clause-held : goal.register-requires-clause-held
register-requires-clause-held g c κs within = mention_all_so g.L.Library.meanings c.args.core.now c.args.children.now c.requires.held

pub returns-clause-rest : goal.returns-clause-rest
returns-clause-rest g c =
    register_rests g.L.Library.meanings g.L.Chunk.Payload.arity c.args.core.now c.register.new.self c.args.body c.args.children.now c.register.result c.requires.rest
    c.register.ensures.event c.register.ensures.state c.register.ensures.unchanged

pub returns-clause-seen : goal.returns-clause-seen
returns-clause-seen g c =
    register_so g.L.Library.meanings g.L.Chunk.Payload.arity c.args.core.now c.register.new.self c.args.body c.args.children.now c.register.result c.stands.ensures.comes.run
    c.requires.held c.register.ensures.event c.register.ensures.state c.register.ensures.id c.register.ensures.unchanged
