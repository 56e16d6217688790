use Rattle.std.proofs.Common.{ℕ, ◌<◌, ◌≤◌, unsigned_abs}
use Rattle.std.specs.Prelude.{All}
use Rattle.leaf_blocks.specs.Block.{number_at}
use Rattle.leaf_blocks.proofs.kernels.peak_with.Given as goal

abbrev pub invariant-loop-x : goal.invariant-loop-x
invariant-loop-x l =
    ((k : ℕ) → k < l.x-index → unsigned_abs (number_at l.numbers k) ≤ l.peak)
    × (l.least ≤ l.peak)
    × ((bound : ℕ) → l.least ≤ bound → All (λ z. unsigned_abs z ≤ bound) l.numbers → l.peak ≤ bound)
