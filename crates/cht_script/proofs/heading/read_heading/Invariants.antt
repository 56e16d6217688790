use Rattle.std.proofs.Common.{◌≡◌, ◌+◌, ◌≤◌, length}
use Rattle.mm_text.specs.Lines.{lines_of}
use Rattle.cht_script.specs.Items.{heading_in, heading_of}
use Rattle.cht_script.proofs.heading.read_heading.Given as goal

abbrev pub invariant-loop-line : goal.invariant-loop-line
invariant-loop-line l = record {
  same : heading_of l.text ≡ heading_in (l.number + 1) (lines_of l.rest);
  room : l.number + length l.rest ≤ length l.text;
}

abbrev pub decreases-loop-line : goal.decreases-loop-line
decreases-loop-line l = length l.rest
