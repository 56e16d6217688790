use Rattle.std.proofs.Common.{◌≡◌, take}
use Rattle.std.proofs.Common.{map as each}
use Rattle.core_state.proofs.finish.child_places.Given as goal

abbrev pub invariant-loop-chunk : goal.invariant-loop-chunk
invariant-loop-chunk g l = record {
  same : l.chunks ≡ l.fn.chunks;
  listed : l.places.items ≡ each (λ chunk. chunk.children) (take l.chunk-index l.chunks);
}
