use Rattle.std.proofs.Common.{◌≡◌, length}
use Rattle.mm_text.specs.Lines.{words_of}
use Rattle.mm_text.specs.Block.{are_numerals}
use Rattle.mm_text.proofs.numbers.are_numerals.Given as goal

abbrev pub invariant-loop-word : goal.invariant-loop-word
invariant-loop-word l = record {
  same : are_numerals (words_of l.line) ≡ are_numerals (words_of l.rest);
}

abbrev pub decreases-loop-word : goal.decreases-loop-word
decreases-loop-word l = length (words_of l.rest)
