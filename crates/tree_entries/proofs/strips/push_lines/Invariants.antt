use Rattle.std.proofs.Common.{◌≡◌, ◌++◌, take}
use Rattle.tree_entries.specs.Strips.{strip_cells}
use Rattle.tree_entries.proofs.strips.push_lines.Given as goal

abbrev pub invariant-loop-piece : goal.invariant-loop-piece
invariant-loop-piece l = record {
  line : l.line ≡ l.fn.line;
  cells : l.cells.items ≡ l.fn.cells.items ++ strip_cells l.fn.line.side l.fn.line.row l.fn.line.number (take l.piece-index l.pieces);
}
