use Rattle.std.proofs.Common.{ap}
use Rattle.std.specs.Option.{is_some}
use Rattle.std.specs.HashMap.{HashMap}
use Rattle.chunk_refs.proofs.Ending.{first-there, some-bodies, step-taken}
use Rattle.chunk_refs.proofs.Linked.{taken-out}
use Rattle.chunk_refs.proofs.parts.Parts.take_out.Goals as goal

pub take-chunk-requires-clause-there : goal.take-chunk-requires-clause-there
take-chunk-requires-clause-there g c = λ κs lives. ap is_some (first-there c.args.self.now c.args.spot c.requires).1

pub take-chunk-requires-clause-counted : goal.take-chunk-requires-clause-counted
take-chunk-requires-clause-counted g c = λ κs lives.
    let first = first-there c.args.self.now c.args.spot c.requires in
    some-bodies c.args.self.now _ c.requires.0 c.args.spot.owner c.args.spot.key first.0 c.requires.1 first.1

pub end_children-requires-after_bounds : goal.end_children-requires-after_bounds
end_children-requires-after_bounds g c = λ κs lives.
    let t = c.take-chunk.ensures in
    taken-out c.args.self.now c.take-chunk.new.self c.args.spot c.take-chunk.result c.requires t.chunk t.placed (ap (λ (m : HashMap _ _ _). m.entries) t.ids) t.bodies

pub returns-clause-taken : goal.returns-clause-taken
returns-clause-taken g c =
    let t = c.take-chunk.ensures in
    step-taken c.args.self.now c.take-chunk.new.self c.end_children.new.self c.args.spot c.take-chunk.result c.requires t.chunk t.placed (ap (λ (m : HashMap _ _ _). m.entries) t.ids) c.end_children.ensures.names
