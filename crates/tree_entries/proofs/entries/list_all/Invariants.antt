use Rattle.std.proofs.Common.{◌≡◌}
use Rattle.tree_entries.specs.Strips.{lists_below, row_listed}
use Rattle.tree_entries.proofs.entries.list_all.Given as goal

abbrev pub invariant-loop-row : goal.invariant-loop-row
invariant-loop-row l = record {
  same : l.strips ≡ l.fn.strips;
  cells : l.cells.items ≡ lists_below l.row (row_listed l.fn.strips.side l.fn.strips.strips.items);
}
