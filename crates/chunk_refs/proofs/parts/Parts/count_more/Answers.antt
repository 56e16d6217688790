use Rattle.std.proofs.Common.{ap, ◌∙◌}
use Rattle.chunk_refs.specs.Inside.{chunk_in}
use Rattle.chunk_refs.specs.Deleting.{one_more}
use Rattle.chunk_refs.proofs.Stores.{store_of, spares-write, placed-write}
use Rattle.chunk_refs.proofs.parts.Parts.count_more.Goals as goal

pub count_more-requires-clause-few : goal.count_more-requires-clause-few
count_more-requires-clause-few g c = λ κs lives chunk at.
    let store = store_of c.args.self.now.stores.items c.args.owner c.args.key c.index_mut.result.now c.requires.there c.index_mut.ensures.value in
    c.requires.few chunk (ap (λ o. chunk_in o c.args.key) store ∙ at)

pub returns-clause-placed : goal.returns-clause-placed
returns-clause-placed g c = λ chunk is.
    let store = store_of c.args.self.now.stores.items c.args.owner c.args.key c.index_mut.result.now c.requires.there c.index_mut.ensures.value in
    placed-write c.args.self.now.stores.items c.args.owner c.args.key c.index_mut.result.now c.count_more.new.store chunk (one_more chunk) store is (c.count_more.ensures chunk)

pub returns-clause-room : goal.returns-clause-room
returns-clause-room g c =
    let store = store_of c.args.self.now.stores.items c.args.owner c.args.key c.index_mut.result.now c.requires.there c.index_mut.ensures.value in
    spares-write c.args.self.now.stores.items c.args.owner c.args.key c.index_mut.result.now c.count_more.new.store one_more store c.requires.there c.count_more.ensures
