use Rattle.std.proofs.Common.{◌≡◌, length}
use Rattle.mm_text.specs.Places.{are_rising}
use Rattle.mm_text.proofs.places.are_rising.Given as goal

abbrev pub invariant-loop-rest : goal.invariant-loop-rest
invariant-loop-rest l = record {
  same : are_rising l.numbers ≡ are_rising l.rest;
}

abbrev pub decreases-loop-rest : goal.decreases-loop-rest
decreases-loop-rest l = length l.rest
