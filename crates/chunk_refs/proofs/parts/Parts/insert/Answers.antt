use Rattle.std.proofs.lemmas.Option.{slice_get_read}
use Rattle.std.proofs.Common.{length, refl}
use Rattle.chunk_refs.proofs.Stores.{left-set}
use Rattle.chunk_refs.proofs.parts.Parts.insert.Goals as goal

pub returns-clause-room : goal.returns-clause-room
returns-clause-room g c =
    let store = slice_get_read c.args.self.now.stores.items (length c.args.self.now.stores.items) c.args.owner c.index_mut.result.now refl c.requires.within c.index_mut.ensures.value in
    left-set c.args.self.now.stores.items c.args.owner c.index_mut.result.now c.insert_reserved.new.self _ store c.insert_reserved.ensures.spare
