use Rattle.std.proofs.Common.{◌≡◌, None, ap, ◌∙◌, arith}
use Rattle.name_states.specs.Steps.{copied}
use Rattle.chunk_refs.specs.Inside.{names_of, HasChain}
use Rattle.chunk_refs.specs.declared.parts.Parts.{Parts}
use Rattle.chunk_refs.proofs.Adding.{live-lookup, some-copied, copied-some, few-names, named-there, name-added}
use Rattle.chunk_refs.proofs.parts.Parts.add.Goals as goal

pub unwrap-source-requires : goal.unwrap-source-requires
unwrap-source-requires g c = some-copied c.get.result _ c.get.ensures.value (live-lookup c.args.self.now.ids.entries c.args.from c.requires.live)

pub count_more-requires-clause-few : goal.count_more-requires-clause-few
count_more-requires-clause-few g c = λ κs lives chunk at.
    omega (arith, few-names c.args.self.now c.unwrap-source.result.now.owner c.unwrap-source.result.now.key chunk c.requires.chain at, c.len-few.ensures.len, c.len-few.ensures.small)

-- what the call makes of the names
added : (g : _) (c : goal.After-put_id g) → (names_of c.put_id.new.self ≡ copied (names_of c.args.self.now) c.args.from c.args.number c.args.holder) × HasChain c.put_id.new.self None
added g c =
    let from = copied-some c.get.result c.unwrap-source.result _ c.unwrap-source.ensures c.get.ensures.value in
    let there = named-there c.args.self.now c.args.from c.unwrap-source.result.now c.requires.chain from in
    name-added c.args.self.now c.put_id.new.self c.count_more.new.self.stores.items c.count_more.new.self.ids.entries c.args.from c.args.number c.unwrap-source.result.now c.args.holder there.0 c.requires.chain
    from there.1
    (c.count_more.ensures.placed there.0 there.1)
    (ap (λ (p : Parts g.row.C.Denot). p.stores.items) c.put_id.ensures.rest)
    (ap (λ (p : Parts g.row.C.Denot). p.ids.entries) c.count_more.ensures.rest) c.put_id.ensures.put
    (ap (λ (p : Parts g.row.C.Denot). p.bodies) c.put_id.ensures.rest ∙ ap (λ (p : Parts g.row.C.Denot). p.bodies) c.count_more.ensures.rest)

pub returns-clause-names : goal.returns-clause-names
returns-clause-names g c = (added g c).0

pub returns-clause-chain : goal.returns-clause-chain
returns-clause-chain g c = (added g c).1
