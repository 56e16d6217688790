use Rattle.std.proofs.Common.{◌≡◌, length}
use Rattle.tree_entries.specs.Strips.{lists_below, row_listed}
use Rattle.tree_entries.proofs.count.count_all.Given as goal

abbrev pub invariant-loop-row : goal.invariant-loop-row
invariant-loop-row l = record {
  same : l.strips ≡ l.fn.strips;
  count : l.count ≡ length (lists_below l.row (row_listed l.fn.strips.side l.fn.strips.strips.items));
}
