use Rattle.std.proofs.Common.{◌≤◌, ◌<◌, ◌+◌, ◌-◌, ◌^◌, ℕ, List, length}
use Rattle.cht_run.specs.Reading.{IsReading}
use Rattle.cht_run.proofs.reading.read_to_end.Given as goal

abbrev pub invariant-loop-source : goal.invariant-loop-source
invariant-loop-source g l = record {
  told : (input : List ℕ) → IsReading input l.fn.text.items (g.S.Source.left l.fn.source) → IsReading input l.text.items (g.S.Source.left l.source);
  later : g.S.Source.faults l.fn.source ≤ g.S.Source.faults l.source;
  room : 0 < length l.piece;
  within : length l.text.items ≤ 2 ^ 26 + 1;
}

abbrev pub decreases-loop-source : goal.decreases-loop-source
decreases-loop-source g l = 2 ^ 26 + 1 - length l.text.items
