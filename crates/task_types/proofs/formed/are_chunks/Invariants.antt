use Rattle.std.proofs.Common.{◌≡◌, ℕ, ◌<◌, Some, slice_get}
use Rattle.task_types.specs.declared.outcome.NewChunk.{NewChunk}
use Rattle.task_types.specs.Shown.{presences_in}
use Rattle.task_types.specs.Formed.{IsFormedChunk}
use Rattle.task_types.proofs.formed.are_chunks.Given as goal

-- each chunk so far is formed
abbrev pub invariant-loop-i : goal.invariant-loop-i
invariant-loop-i g l = (k : ℕ) (chunk : NewChunk g.row.C.Denot) → k < l.i → slice_get l.chunks k ≡ Some chunk → IsFormedChunk g.C.Payload.arity (presences_in l.inputs) k chunk
