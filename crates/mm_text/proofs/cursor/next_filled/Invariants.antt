use Rattle.std.proofs.Common.{◌≡◌, length}
use Rattle.mm_text.specs.Steps.{Passes, lines_behind, from_line}
use Rattle.mm_text.proofs.cursor.next_filled.Given as goal

abbrev pub invariant-loop-line : goal.invariant-loop-line
invariant-loop-line l = record {
  passes : Passes l.fn.from.passed l.fn.from.rest.now l.at.passed l.at.rest.now;
  same : from_line l.comments (lines_behind l.fn.from.passed l.fn.from.rest.now) ≡ from_line l.comments (lines_behind l.at.passed l.at.rest.now);
}

abbrev pub decreases-loop-line : goal.decreases-loop-line
decreases-loop-line l = length l.at.rest.now
