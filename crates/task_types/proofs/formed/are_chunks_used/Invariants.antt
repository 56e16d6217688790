use Rattle.std.proofs.Common.{ℕ, ◌<◌}
use Rattle.std.specs.Prelude.{IsTrue}
use Rattle.task_types.specs.Formed.{is_chunk_used}
use Rattle.task_types.proofs.formed.are_chunks_used.Given as goal

-- each chunk so far is used
abbrev pub invariant-loop-i : goal.invariant-loop-i
invariant-loop-i g l = (k : ℕ) → k < l.i → IsTrue (is_chunk_used l.chunks l.tasks l.output k)
