use Rattle.std.proofs.Common.{◌≤◌, OnOk, length, refl, sym, subst}
use Rattle.std.proofs.lemmas.Option.{slice_get_read}
use Rattle.std.specs.Vec.{with_item}
use Rattle.chunk_refs.proofs.Reserving.{restored, spare-here, spare-was}
use Rattle.chunk_refs.proofs.Stores.{at_least-set}
use Rattle.chunk_refs.proofs.parts.Parts.reserve_bodies.Goals as goal

pub returns-clause-names : goal.returns-clause-names
returns-clause-names g c =
    let store = slice_get_read c.args.self.now.stores.items (length c.args.self.now.stores.items) c.args.worker c.index_mut.result.now refl c.requires.worker c.index_mut.ensures.value in
    (restored c.args.self.now (record c.args.self.now { stores = with_item c.args.self.now.stores c.args.worker c.reserve.new.self }) c.args.worker c.index_mut.result.now c.reserve.new.self c.requires.chain store c.reserve.ensures.held refl refl refl).0

pub returns-clause-chain : goal.returns-clause-chain
returns-clause-chain g c =
    let store = slice_get_read c.args.self.now.stores.items (length c.args.self.now.stores.items) c.args.worker c.index_mut.result.now refl c.requires.worker c.index_mut.ensures.value in
    (restored c.args.self.now (record c.args.self.now { stores = with_item c.args.self.now.stores c.args.worker c.reserve.new.self }) c.args.worker c.index_mut.result.now c.reserve.new.self c.requires.chain store c.reserve.ensures.held refl refl refl).1

pub returns-clause-ok : goal.returns-clause-ok
returns-clause-ok g c =
    let store = slice_get_read c.args.self.now.stores.items (length c.args.self.now.stores.items) c.args.worker c.index_mut.result.now refl c.requires.worker c.index_mut.ensures.value in
    subst (λ n. OnOk c.reserve.result (c.args.bodies ≤ n)) (sym (spare-here c.args.self.now.stores.items c.args.worker c.index_mut.result.now c.reserve.new.self store)) c.reserve.ensures.room

pub returns-clause-room : goal.returns-clause-room
returns-clause-room g c =
    let store = slice_get_read c.args.self.now.stores.items (length c.args.self.now.stores.items) c.args.worker c.index_mut.result.now refl c.requires.worker c.index_mut.ensures.value in
    at_least-set c.args.self.now.stores.items c.args.worker c.index_mut.result.now c.reserve.new.self _ store c.reserve.ensures.spare

pub returns-clause-succeeds : goal.returns-clause-succeeds
returns-clause-succeeds g c = λ enough.
    let store = slice_get_read c.args.self.now.stores.items (length c.args.self.now.stores.items) c.args.worker c.index_mut.result.now refl c.requires.worker c.index_mut.ensures.value in
    c.reserve.ensures.succeeds (subst (λ n. c.args.bodies ≤ n) (spare-was c.args.self.now.stores.items c.args.worker c.index_mut.result.now store) enough)
