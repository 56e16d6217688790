use Rattle.std.proofs.Common.{ap, ◌∙◌, arith}
use Rattle.std.specs.HashMap.{HashMap}
use Rattle.chunk_refs.specs.declared.parts.Parts.{Parts}
use Rattle.chunk_refs.proofs.Adding.{few-bodies, body-put}
use Rattle.chunk_refs.proofs.parts.Parts.put.Goals as goal

pub insert-key-requires-clause-few : goal.insert-key-requires-clause-few
insert-key-requires-clause-few g c = λ κs lives. omega (arith, few-bodies c.args.self.now c.requires.chain, c.len-few.ensures.len, c.len-few.ensures.small)

pub returns-clause-names : goal.returns-clause-names
returns-clause-names g c =
    let i = c.insert-key.ensures in
    (body-put c.args.self.now c.put_id.new.self c.insert-key.new.self.stores.items c.insert-key.new.self.ids.entries c.args.owner c.insert-key.result c.args.number c.args.holder c.args.chunk c.requires.chain
    i.free i.placed
    (ap (λ (p : Parts g.row.C.Denot). p.stores.items) c.put_id.ensures.rest)
    c.requires.one c.requires.padded c.requires.new
    (ap (λ (m : HashMap _ _ _). m.entries) i.ids) c.put_id.ensures.put
    (ap (λ (p : Parts g.row.C.Denot). p.bodies) c.put_id.ensures.rest ∙ i.bodies)).0

pub returns-clause-chain : goal.returns-clause-chain
returns-clause-chain g c =
    let i = c.insert-key.ensures in
    (body-put c.args.self.now c.put_id.new.self c.insert-key.new.self.stores.items c.insert-key.new.self.ids.entries c.args.owner c.insert-key.result c.args.number c.args.holder c.args.chunk c.requires.chain
    i.free i.placed
    (ap (λ (p : Parts g.row.C.Denot). p.stores.items) c.put_id.ensures.rest)
    c.requires.one c.requires.padded c.requires.new
    (ap (λ (m : HashMap _ _ _). m.entries) i.ids) c.put_id.ensures.put
    (ap (λ (p : Parts g.row.C.Denot). p.bodies) c.put_id.ensures.rest ∙ i.bodies)).1
