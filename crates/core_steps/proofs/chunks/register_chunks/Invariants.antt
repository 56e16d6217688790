use Rattle.std.proofs.Common.{◌≡◌, length, vec_capacity}
use Rattle.std.specs.Vec.Iter.{into_iter_items, into_iter_len}
use Rattle.core_steps.proofs.Registering.{AreGrowing}
use Rattle.core_steps.proofs.chunks.register_chunks.Given as goal

abbrev pub invariant-loop-chunk : goal.invariant-loop-chunk
invariant-loop-chunk g l =
    (goal.iterator-loop-chunk g).can_next l.chunk-iterator
    × (goal.iterator-loop-chunk g).is_finite l.chunk-iterator
    × AreGrowing g.C.Payload.arity l.worker l.task l.inputs l.fn.names l.fn.counter l.fn.chunks l.names l.counter l.made.items (into_iter_items l.chunk-iterator)
    × (into_iter_len l.chunk-iterator ≡ length (into_iter_items l.chunk-iterator))
    × (vec_capacity l.made ≡ vec_capacity l.fn.made)
