use Rattle.std.proofs.Common.{refl, ◌*◌}
use Rattle.tree_entries.specs.Strips.{number_in}
use Rattle.tree_entries.proofs.CellRows.{row_grows}
use Rattle.tree_entries.proofs.piece.push_line.Goals as goal

pub loop-column-preserved : goal.loop-column-preserved
loop-column-preserved c = record {
  same = refl;
  line = refl;
  cells =
      row_grows c.args.line.number (c.args.piece.now.left * c.args.line.side) c.loop-column.column (λ j. number_in c.args.piece.now.turned c.args.piece.now.content c.args.line.row j)
      c.args.cells.now.items c.loop-column.cells.items c.push_cell.new.cells.items c.loop-column.invariant.cells c.in_ok-push_cell.ensures;
}
