use Rattle.std.proofs.Common.{◌≡◌, length, None}
use Rattle.mm_text.specs.Places.{least_repeat}
use Rattle.mm_text.proofs.places.least_repeat.Given as goal

abbrev pub invariant-loop-rest : goal.invariant-loop-rest
invariant-loop-rest l = record {
  same : least_repeat None l.listed ≡ least_repeat l.found l.rest;
}

abbrev pub decreases-loop-rest : goal.decreases-loop-rest
decreases-loop-rest l = length l.rest
