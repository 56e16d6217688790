use Rattle.chunk_refs.specs.Inside.{names_of}
use Rattle.name_states.proofs.Within.{copy-within, copy-live}
use Rattle.chunk_refs.proofs.parts.Parts.link.Goals as goal

pub returns-in-Id-clause-within : goal.returns-in-Id-clause-within
returns-in-Id-clause-within g c = copy-within (names_of c.args.self.now) (names_of c.add.new.self) c.args.drawn c.in-Id.id.number c.args.holder c.requires.within c.add.ensures.names

pub returns-in-Id-clause-live : goal.returns-in-Id-clause-live
returns-in-Id-clause-live g c = copy-live (names_of c.args.self.now) (names_of c.add.new.self) c.args.drawn c.in-Id.id.number c.args.holder c.requires.within c.add.ensures.names
