-- A store for each worker so far, none of which holds anything.
use Rattle.std.proofs.Common.{◌≡◌, ℕ, length, None}
use Rattle.chunk_refs.specs.Inside.{chunk_at}
use Rattle.chunk_refs.proofs.parts.Parts.stores.Given as goal

abbrev pub invariant-loop-worker : goal.invariant-loop-worker
invariant-loop-worker g l = record {
  workers : length l.stores.items ≡ l._worker;
  empty : (owner key : ℕ) → chunk_at l.stores.items owner key ≡ None;
}
