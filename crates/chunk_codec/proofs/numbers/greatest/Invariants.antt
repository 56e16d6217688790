use Rattle.std.proofs.Common.{◌≡◌, take}
use Rattle.chunk_codec.specs.Sound.{greatest}
use Rattle.chunk_codec.proofs.numbers.greatest.Given as goal

abbrev pub invariant-loop-number : goal.invariant-loop-number
invariant-loop-number l = l.greatest ≡ greatest (take l.number-index l.numbers)
