use Rattle.std.proofs.Common.{◌≡◌, ◌+◌, ◌++◌}
use Rattle.mm_text.specs.Cells.{cells_of_row}
use Rattle.tree_entries.specs.Strips.{line_front}
use Rattle.tree_entries.proofs.piece.push_line.Given as goal

abbrev pub invariant-loop-column : goal.invariant-loop-column
invariant-loop-column l = record {
  same : l.piece ≡ l.fn.piece;
  line : l.line ≡ l.fn.line;
  cells : l.cells.items ≡ l.fn.cells.items ++ cells_of_row l.fn.line.number (l.left + 1) (line_front l.column l.fn.piece l.fn.line.row);
}
