use Rattle.std.proofs.Common.{sym, ap, ◌∙◌}
use Rattle.chunk_refs.specs.Inside.{chunk_in}
use Rattle.chunk_refs.specs.Deleting.{one_less}
use Rattle.chunk_refs.proofs.Stores.{store_of, spares-write, placed-write}
use Rattle.chunk_refs.proofs.parts.Parts.count_less.Goals as goal

pub count_less-requires-clause-some : goal.count_less-requires-clause-some
count_less-requires-clause-some g c = λ κs lives chunk at.
    let store = store_of c.args.self.now.stores.items c.args.owner c.args.key c.index_mut.result.now c.requires.there c.index_mut.ensures.value in
    c.requires.some chunk (ap (λ o. chunk_in o c.args.key) store ∙ at)

pub returns-clause-placed : goal.returns-clause-placed
returns-clause-placed g c = λ chunk is.
    let store = store_of c.args.self.now.stores.items c.args.owner c.args.key c.index_mut.result.now c.requires.there c.index_mut.ensures.value in
    placed-write c.args.self.now.stores.items c.args.owner c.args.key c.index_mut.result.now c.count_less.new.store chunk (one_less chunk c.args.first) store is (c.count_less.ensures.less chunk)

pub returns-clause-last : goal.returns-clause-last
returns-clause-last g c = λ chunk is.
    let store = store_of c.args.self.now.stores.items c.args.owner c.args.key c.index_mut.result.now c.requires.there c.index_mut.ensures.value in
    c.count_less.ensures.last chunk (ap (λ o. chunk_in o c.args.key) (sym store) ∙ is)

pub returns-clause-room : goal.returns-clause-room
returns-clause-room g c =
    let store = store_of c.args.self.now.stores.items c.args.owner c.args.key c.index_mut.result.now c.requires.there c.index_mut.ensures.value in
    spares-write c.args.self.now.stores.items c.args.owner c.args.key c.index_mut.result.now c.count_less.new.store (λ chunk. one_less chunk c.args.first) store c.requires.there c.count_less.ensures.less
