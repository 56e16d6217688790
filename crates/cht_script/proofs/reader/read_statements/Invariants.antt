use Rattle.std.proofs.Common.{◌≡◌, length}
use Rattle.cht_script.specs.Progress.{HasPlace, IsReadTo, items_after}
use Rattle.cht_script.proofs.reader.read_statements.Given as goal

abbrev pub invariant-loop-line : goal.invariant-loop-line
invariant-loop-line l = record {
  read : IsReadTo (items_after l.heading) l.reader;
  place : HasPlace l.reader;
  grid : l.reader.grid ≡ l.heading.grid;
}

abbrev pub decreases-loop-line : goal.decreases-loop-line
decreases-loop-line l = length l.reader.rest.now
