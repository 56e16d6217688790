use Rattle.chunk_refs.proofs.Adding.{some-copied, copied-some, live-stored, stored-name}
use Rattle.chunk_refs.proofs.parts.Parts.name.Goals as goal

pub unwrap-requires : goal.unwrap-requires
unwrap-requires g c = some-copied c.get.result _ c.get.ensures.value (live-stored c.args.self.now c.args.id c.requires)

pub returns-clause-name : goal.returns-clause-name
returns-clause-name g c = stored-name c.args.self.now c.args.id c.unwrap.result.now c.requires (copied-some c.get.result c.unwrap.result _ c.unwrap.ensures c.get.ensures.value)
