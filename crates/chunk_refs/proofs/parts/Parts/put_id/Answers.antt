use Rattle.chunk_refs.proofs.Adding.{is_put}
use Rattle.chunk_refs.proofs.parts.Parts.put_id.Goals as goal

pub returns-clause-put : goal.returns-clause-put
returns-clause-put g c =
    let old = rw c.unwrap.ensures at c.insert-reserved.ensures.old in
    let updates = rw c.unwrap.ensures at c.insert-reserved.ensures.updates in
    let entries = rw c.unwrap.ensures at c.insert-reserved.ensures.entries in
    is_put c.args.self.now.ids c.insert-reserved.new.self c.args.number c.args.name c.unwrap.result c.requires.free old updates entries c.insert-reserved.ensures.unique
