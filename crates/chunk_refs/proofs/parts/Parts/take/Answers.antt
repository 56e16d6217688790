use Rattle.std.proofs.Common.{arith}
use Rattle.chunk_refs.proofs.Stores.{store_of, at_least-set}
use Rattle.chunk_refs.proofs.parts.Parts.take.Goals as goal

pub returns-clause-room : goal.returns-clause-room
returns-clause-room g c =
    let store = store_of c.args.self.now.stores.items c.args.owner c.args.key c.index_mut.result.now c.requires.there c.index_mut.ensures.value in
    at_least-set c.args.self.now.stores.items c.args.owner c.index_mut.result.now c.remove.new.self _ store (let more = rw c.unwrap.ensures at c.remove.ensures.spare in omega (arith, more))
