use Rattle.std.proofs.Common.{◌≡◌, ℕ, ◌≤◌, ◌++◌, List, length, ℤ, unsigned_abs}
use Rattle.std.specs.Prelude.{All}
use Rattle.leaf_blocks.proofs.kernels.peak_of.Given as goal

abbrev pub invariant-loop-rest : goal.invariant-loop-rest
invariant-loop-rest l =
    ((front : List ℤ) × (l.numbers ≡ front ++ l.rest) × All (λ z. unsigned_abs z ≤ l.peak) front)
    × ((bound : ℕ) → All (λ z. unsigned_abs z ≤ bound) l.numbers → l.peak ≤ bound)

abbrev pub decreases-loop-rest : goal.decreases-loop-rest
decreases-loop-rest l = length l.rest
