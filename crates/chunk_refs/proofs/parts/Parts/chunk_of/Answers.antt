use Rattle.chunk_refs.proofs.Calls.{chunk-named}
use Rattle.chunk_refs.proofs.parts.Parts.chunk_of.Goals as goal

pub returns-clause-body : goal.returns-clause-body
returns-clause-body g c = chunk-named c.args.self.now c.args.id c.name-name.result c.chunk.result.now c.requires.chain c.name-name.ensures.name c.name-name.ensures.stored c.chunk.ensures

pub returns-clause-padded : goal.returns-clause-padded
returns-clause-padded g c = c.requires.chain.1.padded c.name-name.result.owner c.name-name.result.key c.chunk.result.now c.chunk.ensures
