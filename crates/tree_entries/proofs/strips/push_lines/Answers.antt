use Rattle.std.proofs.Common.{refl, arith}
use Rattle.tree_entries.proofs.Parts.{cells_grow}
use Rattle.tree_entries.proofs.strips.push_lines.Goals as goal

pub loop-piece-preserved : goal.loop-piece-preserved
loop-piece-preserved c = record {
  line = refl;
  cells =
      cells_grow c.args.line.side c.args.line.row c.args.line.number c.args.pieces.now c.loop-piece.piece-index c.piece-item.result c.args.cells.now.items
      c.loop-piece.cells.items c.push_line.new.cells.items (omega arith) c.piece-item.is c.loop-piece.invariant.cells c.in_ok-push_line.ensures;
}
