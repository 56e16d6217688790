use Rattle.std.proofs.Common.{arith, rules, refl}
use Rattle.task_types.specs.Shown.{presences_in}
use Rattle.task_types.specs.Formed.{IsFormedChunk}
use Rattle.task_types.proofs.Facts.{facts_more, facts_all}
use Rattle.task_types.proofs.formed.are_chunks.Goals as goal

pub loop-i-preserved : goal.loop-i-preserved
loop-i-preserved g c =
    facts_more (λ k chunk. IsFormedChunk g.C.Payload.arity (presences_in c.args.inputs.now) k chunk) c.args.chunks.now c.loop-i.i c.index-chunks-i.result c.loop-i.invariant c.index-chunks-i.is (c.is_chunk.ensures.0 (search rules))

pub returns : goal.returns
returns g c =
    (λ _. facts_all (λ k chunk. IsFormedChunk g.C.Payload.arity (presences_in c.args.inputs.now) k chunk) c.args.chunks.now c.loop-i.i (omega arith) c.loop-i.invariant, λ _. refl)
