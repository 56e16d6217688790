use Rattle.std.proofs.Common.{◌≡◌, ◌≤◌}
use Rattle.mm_text.specs.Written.{IsOnItsWay}
use Rattle.tree_entries.specs.Strips.{row_listed}
use Rattle.tree_entries.proofs.Printing.{text_at}
use Rattle.tree_entries.proofs.print.write_rows.Given as goal

abbrev pub invariant-loop-row : goal.invariant-loop-row
invariant-loop-row g l = record {
  same : l.strips ≡ l.fn.strips;
  later : g.K.Sink.faults l.fn.out ≤ g.K.Sink.faults l.out;
  way : IsOnItsWay (g.K.Sink.took l.fn.out) (text_at l.fn.opening (row_listed l.fn.strips.side l.fn.strips.strips.items) l.row) l.text (g.K.Sink.took l.out);
}
